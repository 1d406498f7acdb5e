use Rattle.std.proofs.Common.{◌≡◌, ◌<◌, ◌∙◌, ℕ, Option, length, map, List, ◌∷◌, [], ◌++◌, slice_index_or, slice_set, IfSome, Some, subst, ap}
use Rattle.std.specs.Global.{Vec}
use Rattle.std.proofs.lemmas.List.{map-append}
use Rattle.target_plan.specs.Groups.{entered}
use Rattle.target_plan.specs.Seen.{seen, seen_group}
use Rattle.target_plan.proofs.Vectors.{group_set}
use Rattle.target_plan.proofs.groups.add.Goals as goal

one_more : {T : Type 0} (groups : List (T × Vec T)) (at : ℕ) (old : T × Vec T) (new : Vec T) (x : T) → at < length groups → old ≡ slice_index_or groups at old → new.items ≡ old.1.items ++ x ∷ []
    → map (seen_group seen) (slice_set groups at (old.0, new)) ≡ entered (Some at) x (map (seen_group seen) groups)
one_more {T} groups at old new x within value items =
    group_set groups at (old.0, new) old x within
    (ap (λ (members : List T). (old.0, members)) (ap (map seen) items ∙ map-append seen old.1.items (x ∷ [])) ∙ ap (λ (h : T × Vec T). (h.0, map seen h.1.items ++ x ∷ [])) value)

pub returns-in_ok-push-in-Some : goal.returns-in_ok-push-in-Some
returns-in_ok-push-in-Some g c =
    let groups = c.args.groups.now.items in
    let within = subst (λ (found : Option ℕ). IfSome found (λ at. at < length groups)) c.in-Some.is c.requires in
    rw c.in-Some.is (one_more groups c.in-Some.at c.index_mut.result.now c.push.new.self c.args.item within c.index_mut.ensures.value c.in_ok-push-in-Some.ensures.items)

pub returns-in_ok-push-in-None : goal.returns-in_ok-push-in-None
unfolding entered
returns-in_ok-push-in-None g c =
    let groups = c.args.groups.now.items in
    let new = c.in_ok-one-in-None.field-0 in
    rw c.in-None.is (ap (map (seen_group seen)) c.in_ok-push-in-None.ensures.items ∙ map-append (seen_group seen) groups ((c.args.item, new) ∷ [])
    ∙ ap (λ (members : List _). map (seen_group seen) groups ++ (c.args.item, members) ∷ []) (ap (map seen) c.in_ok-one-in-None.ensures))
