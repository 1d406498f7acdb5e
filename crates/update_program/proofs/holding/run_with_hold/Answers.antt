use Rattle.std.proofs.Common.{w64}
use Rattle.std.proofs.lemmas.Int.{to_z-of_z}
use Rattle.update_program.proofs.Endings.{with_time}
use Rattle.update_program.proofs.holding.run_with_hold.Goals as goal

pub returns-in-Ok-clause-ended : goal.returns-in-Ok-clause-ended
returns-in-Ok-clause-ended g c =
    with_time c.args.it c.args.together _ _ _ _ _ _ c.moment-now.ensures.last (rw (to_z-of_z w64 c.moment-now.result (record { sfits = c.moment-now.type_inv }), c.hold.ensures.still, c.hold.ensures.same, c.hold.ensures.telling) at c.run_plan.ensures.ended)
