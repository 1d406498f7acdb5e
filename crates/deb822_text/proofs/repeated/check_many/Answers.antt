use Rattle.std.proofs.Common.{ap, sym, ◌∙◌, inr}
use Rattle.deb822_text.specs.Names.{least_place}
use Rattle.deb822_text.proofs.Keys.{none_repeated, is_repeated_at, told_by}
use Rattle.deb822_text.proofs.repeated.check_many.Goals as goal

pub returns-in-None : goal.returns-in-None
returns-in-None c =
    none_repeated c.args.fields.now c.in_ok-keys.keys.items c.in_ok-keys.ensures.permutation c.in_ok-keys.ensures.sorted (sym c.in-None.is ∙ c.first_place.ensures ∙ ap least_place c.as_slice.ensures.value)

pub twice_at-requires : goal.twice_at-requires
twice_at-requires c =
    (is_repeated_at c.args.fields.now c.in_ok-keys.keys.items c.in-Some.place c.in_ok-keys.ensures.permutation c.in_ok-keys.ensures.sorted (sym c.in-Some.is ∙ c.first_place.ensures ∙ ap least_place c.as_slice.ensures.value)).within

pub returns : goal.returns
returns c =
    inr (told_by c.args.fields.now c.in-Some.place c.twice_at.result
    (is_repeated_at c.args.fields.now c.in_ok-keys.keys.items c.in-Some.place c.in_ok-keys.ensures.permutation c.in_ok-keys.ensures.sorted (sym c.in-Some.is ∙ c.first_place.ensures ∙ ap least_place c.as_slice.ensures.value))
    c.twice_at.ensures)
