use Rattle.std.proofs.Common.{◌≡◌, ◌∙◌, map, ap}
use Rattle.std.proofs.lemmas.Result.{err_from_is_err_and}
use Rattle.target_plan.specs.Drafts.{draft_of, source_of, lists_of}
use Rattle.target_plan.specs.Offers.{offers_of}
use Rattle.target_plan.specs.Seen.{seen_entry, seen_group}
use Rattle.target_plan.proofs.Refused.{draft_named, draft_listed, draft_short, draft_made}
use Rattle.target_plan.proofs.draft.draft_source.Goals as goal

pub returns-in_err-check_name : goal.returns-in_err-check_name
unfolding draft_of
returns-in_err-check_name g c =
    let d = draft_of c.args.picker.now.pick c.args.settings.now (seen_group seen_entry c.args.group.now) in
    let made : c.in_ok-source.source ≡ d.source = c.in_ok-source.ensures ∙ (λ i. source_of c.args.settings.now c.args.group.now.0.now (map seen_entry (c.as_slice.ensures.value i))) in
    let p = err_from_is_err_and c.from_residual-in_err-check_name.result c.from_residual-in_err-check_name.ensures.1 in
    rw (p.1, p.2) (draft_named d c.in_ok-source.source c.in_err-check_name.field-0.0 made c.in_err-check_name.ensures)

pub returns-in_err-check_names : goal.returns-in_err-check_names
unfolding draft_of
returns-in_err-check_names g c =
    let first = c.args.group.now.0.now in
    let d = draft_of c.args.picker.now.pick c.args.settings.now (seen_group seen_entry c.args.group.now) in
    let made : c.in_ok-source.source ≡ d.source = c.in_ok-source.ensures ∙ (λ i. source_of c.args.settings.now first (map seen_entry (c.as_slice.ensures.value i))) in
    let listed : c.as_slice-4.result.now ≡ d.lists = c.as_slice-4.ensures ∙ c.in_ok-lists.ensures
    ∙ ap (lists_of c.args.picker.now.pick first) (c.as_slice-3.ensures.value ∙ c.in_ok-offered.ensures ∙ (λ i. offers_of c.args.settings.now (c.as_bytes.ensures i) (map seen_entry (c.as_slice-2.ensures.value i)))) in
    let p = err_from_is_err_and c.from_residual-in_err-check_names.result c.from_residual-in_err-check_names.ensures.1 in
    rw (p.1, p.2) (draft_listed d c.in_ok-source.source c.as_slice-4.result.now c.in_err-check_names.field-0.0 made listed c.in_ok-check_name.ensures c.in_err-check_names.ensures)

pub returns : goal.returns
unfolding draft_of
returns g c =
    let first = c.args.group.now.0.now in
    let d = draft_of c.args.picker.now.pick c.args.settings.now (seen_group seen_entry c.args.group.now) in
    let made : c.in_ok-source.source ≡ d.source = c.in_ok-source.ensures ∙ (λ i. source_of c.args.settings.now first (map seen_entry (c.as_slice.ensures.value i))) in
    let listed : c.in_ok-lists.lists ≡ d.lists = c.in_ok-lists.ensures
    ∙ ap (lists_of c.args.picker.now.pick first) (c.as_slice-3.ensures.value ∙ c.in_ok-offered.ensures ∙ (λ i. offers_of c.args.settings.now (c.as_bytes.ensures i) (map seen_entry (c.as_slice-2.ensures.value i)))) in (
      draft_made d c.in_ok-source.source c.in_ok-place_of.field-0 c.in_ok-lists.lists made c.in_ok-place_of.ensures listed,
      draft_short d c.in_ok-source.source c.as_slice-4.result.now made (c.as_slice-4.ensures ∙ listed) c.in_ok-check_name.ensures c.in_ok-check_names.ensures,
    )
