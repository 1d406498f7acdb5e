use Rattle.std.proofs.Common.{refl, rules}
use Rattle.lists_dir.specs.Refinement.{old_in}
use Rattle.board_slot.proofs.hearing.listed.Goals as goal

pub returns-in-Stays-clause-listed : goal.returns-in-Stays-clause-listed
returns-in-Stays-clause-listed g c = record { old = old_in c.args.old; release = refl; same = λ told is. refl; is = search rules }
