use Rattle.std.proofs.Common.{ℕ, arith, rules, length-take}
use Rattle.std.proofs.lemmas.List.{length-replicate}
use Rattle.journal_model.specs.Rest.{part_bytes}
use Rattle.job_fetch.proofs.Sums.{sums_on}
use Rattle.job_fetch.proofs.filling.sum_piece.Goals as goal

pub returns-clause-sums : goal.returns-clause-sums
returns-clause-sums g c told =
    sums_on (part_bytes (g.D.Disk.trace c.args.disk.now) c.args.name.now.0) c.args.at c.in_ok-n.n _ c.read_part.new.out _ c.args.total.now c.feed.new.self
    (c.in_ok-n.ensures.told told) (first_of (search rules, omega (arith, length-replicate {A = ℕ}, length-take {A = ℕ}, c.min-want.ensures, c.requires.some))) c.feed.ensures.taken
