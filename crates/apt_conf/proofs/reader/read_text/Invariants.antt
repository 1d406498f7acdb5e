use Rattle.std.proofs.Common.{◌≡◌, ◌+◌, ◌≤◌, length}
use Rattle.apt_conf.specs.Statements.{start, pairs_from}
use Rattle.apt_conf.specs.Tokens.{tokens_from}
use Rattle.apt_conf.proofs.ReadingLemmas.{so_far}
use Rattle.apt_conf.proofs.reader.read_text.Given as goal

abbrev pub invariant-loop-rest : goal.invariant-loop-rest
invariant-loop-rest l = record {
  reads : so_far l.last l.line l.reading l.rest ≡ pairs_from l.last start (tokens_from l.last 1 0 l.text);
  within : l.line + length l.rest ≤ length l.text + 1;
}

abbrev pub decreases-loop-rest : goal.decreases-loop-rest
decreases-loop-rest l = length l.rest
