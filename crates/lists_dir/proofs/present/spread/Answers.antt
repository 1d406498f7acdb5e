use Rattle.std.proofs.Common.{◌+◌, ◌<◌, ◌∙◌, ◌++◌, ◌∷◌, [], ap, arith, drop, get_or, length, map, sym}
use Rattle.std.proofs.lemmas.List.{get_or_default, length-map}
use Rattle.std.specs.List.{filter}
use Rattle.acq_base.specs.declared.uri.ListName.{ListName}
use Rattle.lists_dir.specs.Summing.{has_file}
use Rattle.lists_dir.proofs.Dealing.{map_more}
use Rattle.lists_dir.proofs.Rounds.{any_name}
use Rattle.lists_dir.proofs.Spreading.{flag_of, sums_rest}
use Rattle.lists_dir.proofs.present.spread.Goals as goal

pub loop-there-preserved : goal.loop-there-preserved
loop-there-preserved c = λ files names told is.
    let inv = c.loop-there.invariant files names told is in
    let i = c.loop-there.there-index in
    let name = get_or names i any_name in
    let below : i < length names = omega (arith, c.loop-there-test.true, ap length told, length-map names (has_file files)) in
    let file_at = λ (name : ListName). files name.0 in
    let next = c.next_sum.ensures (files name.0) (map file_at (filter (has_file files) (drop (i + 1) names)))
    (flag_of files names c.args.flags.now i _ any_name told c.loop-there-test.true) (inv.1 ∙ sums_rest files names i any_name below) in
    (c.in_ok-push_back.ensures.items ∙ (λ j. inv.0 j ++ next.0 j ∷ []) ∙ sym (map_more file_at names i name below (sym (get_or_default names i name any_name below))), next.1)
