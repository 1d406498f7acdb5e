use Rattle.std.proofs.Common.{◌≡◌, ◌+◌, length}
use Rattle.apt_conf.specs.Lexemes as lexemes
use Rattle.apt_conf.proofs.run.length_until.Given as goal

abbrev pub invariant-loop-rest : goal.invariant-loop-rest
invariant-loop-rest l = record {
  read : l.count + lexemes.length_until (lexemes.stops_at l.stop) l.rest ≡ lexemes.length_until (lexemes.stops_at l.stop) l.text;
  within : l.count + length l.rest ≡ length l.text;
}

abbrev pub decreases-loop-rest : goal.decreases-loop-rest
decreases-loop-rest l = length l.rest
