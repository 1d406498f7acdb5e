-- What holds of the definitions of this crate, for the proofs of the crates above.
use Rattle.acq_base.specs.declared.settings.Dates.{Dates}
use Rattle.release_file.proofs.Judged.{judged_ok}
use Rattle.release_file.specs.Dates.{IsAdmissible, judged}
use Rattle.release_file.specs.declared.release.Release.{Release}
use Rattle.std.specs.Prelude.{Ok, Option, ℤ, ◌↔◌, ◌≡◌}

pub judged_is_admissible : (release : Release) (installed : Option ℤ) (dates : Dates) (now : ℤ) → (judged release installed dates now ≡ Ok tt) ↔ IsAdmissible release installed dates now
judged_is_admissible = judged_ok
