-- What the parts of a board stand for.
use Rattle.std.specs.Prelude.{unwrap_or, Result, Ok, Err}
use Rattle.std.specs.BTreeMap.{get}
use Rattle.std.specs.Cmp.Lexicographic.{slice_cmp}
use Rattle.std.specs.Ordering.{nat_cmp}
use Rattle.update_model.specs.Outcomes.{AdmittedRelease as Admitted, Staying, Older, Kept}
use Rattle.board_model.specs.Slots as model
use Rattle.board_source.specs.declared.admitting.Admission.{Admission}
use Rattle.board_source.specs.declared.admitting.Admission.TheVariants as admissions
use Rattle.board_source.specs.declared.setup.Setup.{Setup}
use Rattle.board_source.specs.declared.found.AdmittedRelease.{AdmittedRelease}
use Rattle.board_source.specs.declared.found.Staying.{Staying as code_staying}
use Rattle.board_source.specs.declared.found.Staying.TheVariants as stayings

abbrev pub config_of : Setup → model.Setup
config_of setup = record {
  sources = setup.sources;
  sizes = λ name. unwrap_or (get (slice_cmp nat_cmp) setup.sizes name) 0;
  settings = setup.settings;
  change = setup.change;
  now = setup.moment;
}

abbrev pub found_of : AdmittedRelease → Admitted
found_of found = record { bytes = found.bytes; release = found.release }

abbrev pub staying_of : code_staying → Staying
staying_of (stayings.Older date) = Older date
staying_of (stayings.Kept cause) = Kept cause

abbrev pub admission_of : Admission → Result Admitted Staying
admission_of (admissions.Admitted found) = Ok (found_of found)
admission_of (admissions.Stays why) = Err (staying_of why)
