use Rattle.std.proofs.Common.{◌≡◌, subst, sym}
use Rattle.std.specs.Prelude.{IfOk, Result}
use Rattle.update_model.specs.Outcomes.{AdmittedRelease, Staying}
use Rattle.board_source.specs.Refinement.{admission_of}
use Rattle.board_source.proofs.Reasons.{admitted-by}
use Rattle.board_source.proofs.admitting.admit.Goals as goal

pub returns-in-Ok : goal.returns-in-Ok
returns-in-Ok g c =
    subst (λ (x : Result AdmittedRelease Staying). IfOk c.admit_bytes.result (λ admission. admission_of admission ≡ x))
    (sym (admitted-by c.args.end c.in-Ok.bytes c.args.old.now c.args.setup.now.settings c.args.setup.now.change c.args.setup.now.moment c.in-Ok.ensures))
    c.admit_bytes.ensures
