-- Whether the byte is there, and what stands behind it.
use Rattle.std.proofs.Common.{◌∙◌, ◌+◌, ◌<◌, ◌≤◌, length, drop, nat_eq, ap, arith}
use Rattle.std.specs.List.{position_or_len}
use Rattle.std.proofs.lemmas.Bool.Decides.{nat_tests}
use Rattle.std.proofs.lemmas.List.{drop-drop, drop_all, take_all}
use Rattle.acq_base.proofs.Lists.{list_any-there, list_any-nowhere}
use Rattle.source_lists.proofs.line.cut_at.Goals as goal

pub returns-then-is_empty-clause-none : goal.returns-then-is_empty-clause-none
returns-then-is_empty-clause-none c =
    let out : length c.args.text.now ≤ position_or_len (λ b. nat_eq b c.args.byte) c.args.text.now = grind (arith, nat_tests) in
    list_any-nowhere (λ b. nat_eq b c.args.byte) c.args.text.now out

pub returns-then-is_empty-clause-whole : goal.returns-then-is_empty-clause-whole
returns-then-is_empty-clause-whole c =
    let out : length c.args.text.now ≤ position_or_len (λ b. nat_eq b c.args.byte) c.args.text.now = grind (arith, nat_tests) in
    take_all (position_or_len (λ b. nat_eq b c.args.byte) c.args.text.now) c.args.text.now out

pub returns-then-is_empty-clause-nothing : goal.returns-then-is_empty-clause-nothing
returns-then-is_empty-clause-nothing c =
    let out : length c.args.text.now ≤ position_or_len (λ b. nat_eq b c.args.byte) c.args.text.now = grind (arith, nat_tests) in
    drop_all (position_or_len (λ b. nat_eq b c.args.byte) c.args.text.now + 1) c.args.text.now (omega (arith, out))

pub returns-clause-there : goal.returns-clause-there
returns-clause-there c =
    let within : position_or_len (λ b. nat_eq b c.args.byte) c.args.text.now < length c.args.text.now = grind (arith, nat_tests) in
    list_any-there (λ b. nat_eq b c.args.byte) c.args.text.now within

pub returns-clause-behind : goal.returns-clause-behind
returns-clause-behind c =
    c.split_at-2.ensures.back ∙ ap (λ t. drop 1 t) c.split_at.ensures.back ∙ drop-drop 1 c.place_of.result c.args.text.now ∙ ap (λ n. drop (n + 1) c.args.text.now) c.place_of.ensures.place
