use Rattle.std.proofs.Common.{refl, rules}
use Rattle.lists_dir.specs.Refinement.{old_in}
use Rattle.board_slot.proofs.hearing.hear_release.Goals as goal

pub returns-then-place-ne0-clause-heard : goal.returns-then-place-ne0-clause-heard
returns-then-place-ne0-clause-heard g c = record { old = old_in c.args.asking.old; release = refl; same = λ told is. refl; is = search rules }
