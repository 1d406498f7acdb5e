use Rattle.std.proofs.Common.{ap, refl, inr, Err}
use Rattle.update_engine.proofs.Lists.{none_fall}
use Rattle.update_program.proofs.Endings.{refusal_ends}
use Rattle.update_program.proofs.options.run_options.Goals as goal

pub returns-in-Err : goal.returns-in-Err
returns-in-Err g c =
    let by = c.refuse.ensures in
    let read = c.in-Err.ensures in
    record {
      configuration = read.frame.same;
      methods = record { mirrors = refl; counts = none_fall _ };
      moment = inr (rw by.log refl, refl);
      disk_fault = λ e. absurd (by.no_disk_fault e);
      quiet_disk = λ some. let never = rw by.log at some in absurd cc;
      dry_disk = λ e. refl;
      dry_held = λ e. refl;
      output = by.frame;
      held_fault = λ e. absurd (by.not_held e);
      quiet_held = λ some. let never = rw by.log at some in absurd cc;
      etc_fault = λ e. read.frame.fault (ap Err (by.etc_fault e));
      quiet_etc = λ some. let never = rw by.log at some in absurd cc;
      unconfigured = λ refuses. record { faults = refl; held = refl; moments = refl };
      ended = refusal_ends _ _ _ c.in-Err.refusal _ _ _ _ read.answer by.said (record { no_log = by.log; still = refl; files = refl; mirrors = refl; methods = refl; begins = refl });
    }
