use Rattle.std.proofs.Common.{arith, rules}
use Rattle.std.proofs.lemmas.List.{take_all}
use Rattle.std.proofs.lemmas.List.Sums.{suffix_len-take_yes}
use Rattle.deb_fetch.proofs.filename.file_name.Goals as goal

pub loop-at-init : goal.loop-at-init
loop-at-init c = search (rules, take_all)

pub loop-at-preserved : goal.loop-at-preserved
loop-at-preserved c = grind (arith, suffix_len-take_yes)
