use Rattle.std.proofs.Common.{◌≡◌, drop}
use Rattle.pdiff_index.specs.Chain.{patches_of}
use Rattle.pdiff_index.proofs.ChainLemmas.{behind}
use Rattle.pdiff_index.proofs.links.listed.Given as goal

abbrev pub invariant-loop-line : goal.invariant-loop-line
invariant-loop-line l = behind l.found (patches_of l.patches (drop l.line-index l.lines)) ≡ patches_of l.patches l.lines
