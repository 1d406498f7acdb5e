use Rattle.std.proofs.Common.{refl, rules}
use Rattle.lists_dir.specs.Refinement.{old_in}
use Rattle.board_slot.proofs.hearing.judge_release.Goals as goal

pub returns-then-is_some-clause-released : goal.returns-then-is_some-clause-released
returns-then-is_some-clause-released g c = record { old = old_in c.args.asking.old; release = refl; same = λ told is. refl; is = search rules }
