use Rattle.std.proofs.Common.{◌+◌, ◌∙◌, ◌++◌, map, drop, ap, sym}
use Rattle.lists_dir.specs.Installed.{listed}
use Rattle.lists_dir.proofs.Dealing.{flat_more, map_rest}
use Rattle.lists_dir.proofs.reading.take_lists.Goals as goal

pub loop-target-preserved : goal.loop-target-preserved
loop-target-preserved c = λ files rest is.
    let inv = c.loop-target.invariant files rest is in
    let target = c.target-item.result in
    let targets = c.args.targets.now in
    let i = c.loop-target.target-index in
    let below = c.loop-target-test.true in
    let taken = c.in_ok-take_list.ensures (files target.name.0) (map (λ target. files target.name.0) (drop (i + 1) targets) ++ rest)
    (inv.1 ∙ ap (λ l. l ++ rest) (map_rest (λ target. files target.name.0) targets i target below c.target-item.is)) in
    (taken.0 ∙ ap (λ l. l ++ listed target (files target.name.0)) inv.0 ∙ sym (flat_more (λ target. listed target (files target.name.0)) targets i target below c.target-item.is), taken.1)
