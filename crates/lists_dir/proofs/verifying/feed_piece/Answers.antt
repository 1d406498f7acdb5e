use Rattle.std.proofs.Common.{ℕ, arith, rules}
use Rattle.std.proofs.lemmas.List.{length-replicate}
use Rattle.lists_dir.proofs.Pieces.{takes_on}
use Rattle.lists_dir.proofs.verifying.feed_piece.Goals as goal

pub returns-clause-told : goal.returns-clause-told
returns-clause-told g c told =
    takes_on (g.D.Disk.files c.args.disk.now c.args.name.now) c.args.at c.in_ok-n.n _ c.read_at.new.out c.args.gate.now c.feed.new.self
    (c.in_ok-n.ensures.told told) (first_of (search rules, omega (arith, length-replicate {A = ℕ}))) c.feed.ensures
