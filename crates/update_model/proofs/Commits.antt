-- The commits of a run, one by one or together: they do the same, together they are at most one, and they lead to what is
-- next.
use Rattle.std.proofs.Common.{◌≡◌, inl, inr, ℕ, suc, ◌≤◌, Bool, true, false, ◌&&◌, List, [], ◌∷◌, ◌++◌, length, map, Contains, Option, Some, None, filter_map, refl, sym, ap, ◌∙◌, subst, arith}
use Rattle.std.specs.List.{list_all, cons_option, AllByRecursion as Each}
use Rattle.std.proofs.lemmas.List.{append-nil}
use Rattle.std.proofs.lemmas.List.Elements.{Contains-append_cases, Contains-append_left, Contains-append_right}
use Rattle.acq_base.specs.declared.plan.Source.{Source}
use Rattle.acq_base.specs.declared.settings.Settings.{Settings}
use Rattle.acq_base.proofs.Lists.{first-or-rest}
use Rattle.update_model.specs.Carried.{Does, Carried, Committed, all_deeds, CommitsDoTheSame, TogetherIsOneCommit, CommitsLeadToNext}
use Rattle.update_model.specs.Next.{Deed, Installs, CleansUp, deed_of, clean_up, cleans, deeds, commits, one_commit, lets_clean_up}
use Rattle.update_model.specs.Outcomes.{Outcome, Directory}
use Rattle.update_model.proofs.Carried.{each-from, each-at, each-mapped, each-unmapped, same-bools, deeds-lead}
use Rattle.update_model.proofs.Nexts.{tests-hold}

-- ---- elements of lists

behind : {X : Type 0} (y : X) (xs : List X) (x : X) → Contains xs x → Contains (y ∷ xs) x
behind y xs x c = (suc c.0, omega (arith, c.1), c.2)

-- what a filter keeps comes from an element
kept-by : {X Y : Type 0} (f : X → Option Y) (xs : List X) (y : Y) → Contains (filter_map f xs) y → (x : X) × Contains xs x × (f x ≡ Some y)
kept-by f [] y c = absurd (omega (arith, c.1))
kept-by {X} {Y} f (x ∷ xs) y c = at (f x) refl c (λ d. kept-by f xs y d)
  where
    at : (o : Option Y) → f x ≡ o → Contains (cons_option o (filter_map f xs)) y
        → (Contains (filter_map f xs) y → (z : X) × Contains xs z × (f z ≡ Some y))
        → (z : X) × Contains (x ∷ xs) z × (f z ≡ Some y)
    at None e d more = let r = more d in (r.0, behind x xs r.0 r.1, r.2)
    at (Some v) e d more =
        elim (first-or-rest v (filter_map f xs) y d) [
          | inl here ↦ (x, (0, omega arith, refl), e ∙ ap (λ (w : Y). Some w) here)
          | inr there ↦ let r = more there in (r.0, behind x xs r.0 r.1, r.2)
        ]

found-by : {X Y : Type 0} (f : X → Option Y) (xs : List X) (y : Y) (x : X) → Contains xs x → f x ≡ Some y → Contains (filter_map f xs) y
found-by f [] y x c is = absurd (omega (arith, c.1))
found-by {X} {Y} f (z ∷ xs) y x c is =
    elim (first-or-rest z xs x c) [
      | inl here ↦ subst (λ (o : Option Y). Contains (cons_option o (filter_map f xs)) y) (sym (ap f here ∙ is)) (0, omega arith, refl)
      | inr there ↦ further (f z) (found-by f xs y x there is)
    ]
  where
    further : (o : Option Y) → Contains (filter_map f xs) y → Contains (cons_option o (filter_map f xs)) y
    further None d = d
    further (Some v) d = behind v (filter_map f xs) y d

-- ---- the same deeds

singles : (ds : List Deed) → all_deeds (map (λ (d : Deed). d ∷ []) ds) ≡ ds
singles [] = refl
singles (d ∷ ds) = ap (λ (es : List Deed). d ∷ es) (singles ds)

all-in-one : (ds : List Deed) → all_deeds (one_commit ds) ≡ ds
all-in-one [] = refl
all-in-one (d ∷ ds) = append-nil (d ∷ ds)

abbrev outcomes : List (Source × Outcome) → List Outcome
outcomes order = map (λ (s : Source × Outcome). s.1) order

abbrev IsWell : Outcome → Type 0
IsWell o = lets_clean_up o ≡ true

still-well : (xs ys : List (Source × Outcome)) → ((s : Source × Outcome) → Contains ys s → Contains xs s)
    → list_all lets_clean_up (outcomes xs) ≡ true → list_all lets_clean_up (outcomes ys) ≡ true
still-well xs ys among h =
    let one : Each IsWell (outcomes xs) = (tests-hold lets_clean_up IsWell (λ o. ((λ x. x), (λ x. x))) (outcomes xs)).0 h in
    let two : Each (λ (s : Source × Outcome). IsWell s.1) xs = each-unmapped (λ (s : Source × Outcome). s.1) IsWell xs one in
    let three : Each (λ (s : Source × Outcome). IsWell s.1) ys =
    each-from (λ (s : Source × Outcome). IsWell s.1) ys (λ s c. each-at (λ (t : Source × Outcome). IsWell t.1) xs s two (among s c)) in
    (tests-hold lets_clean_up IsWell (λ o. ((λ x. x), (λ x. x))) (outcomes ys)).1 (each-mapped (λ (s : Source × Outcome). s.1) IsWell ys three)

same-deeds : (dir : Directory) (settings : Settings) (loose : List (List ℕ)) (xs ys : List (Source × Outcome))
    → ((s : Source × Outcome) → Contains xs s → Contains ys s) → cleans settings (outcomes xs) ≡ cleans settings (outcomes ys)
    → (deed : Deed) → Contains (deeds dir settings loose xs) deed → Contains (deeds dir settings loose ys) deed
same-deeds dir settings loose xs ys among clean deed c =
    elim (Contains-append_cases (filter_map (deed_of dir) xs) (clean_up (cleans settings (outcomes xs)) loose) deed c) [
      | inl mine ↦
          let from = kept-by (deed_of dir) xs deed mine in
          Contains-append_left (filter_map (deed_of dir) ys) (clean_up (cleans settings (outcomes ys)) loose) deed (found-by (deed_of dir) ys deed from.0 (among from.0 from.1) from.2)
      | inr last ↦
          Contains-append_right (filter_map (deed_of dir) ys) (clean_up (cleans settings (outcomes ys)) loose) deed
          (subst (λ (b : Bool). Contains (clean_up b loose) deed) clean last)
    ]

pub commits-same : CommitsDoTheSame
commits-same dir settings loose settled planned same deed =
    let tests : cleans settings (outcomes settled) ≡ cleans settings (outcomes planned) =
    ap (λ b. settings.cleanup && b) (same-bools _ _ (still-well settled planned (λ s c. (same s).1 c)) (still-well planned settled (λ s c. (same s).0 c))) in
    let one : all_deeds (commits false dir settings loose settled planned) ≡ deeds dir settings loose settled = singles (deeds dir settings loose settled) in
    let all : all_deeds (commits true dir settings loose settled planned) ≡ deeds dir settings loose planned = all-in-one (deeds dir settings loose planned) in (
      (λ c. subst (λ (ds : List Deed). Contains ds deed) (sym all)
          (same-deeds dir settings loose settled planned (λ s d. (same s).0 d) tests deed (subst (λ (ds : List Deed). Contains ds deed) one c))),
      (λ c. subst (λ (ds : List Deed). Contains ds deed) (sym one)
          (same-deeds dir settings loose planned settled (λ s d. (same s).1 d) (sym tests) deed (subst (λ (ds : List Deed). Contains ds deed) all c))),
    )

one-at-most : (ds : List Deed) → length (one_commit ds) ≤ 1
one-at-most [] = omega arith
one-at-most (d ∷ ds) = omega arith

pub commits-once : TogetherIsOneCommit
commits-once dir settings loose settled planned = one-at-most (deeds dir settings loose planned)

-- ---- what they lead to

does-moved : (d : Deed) (a b c : Directory) → ((name : List ℕ) → b name ≡ a name) → Does d b c → Does d a c
does-moved (Installs source set) a b c same h = (h.0, λ name none. h.1 name none ∙ same name)
does-moved (CleansUp names) a b c same h = (h.0, λ name none. h.1 name none ∙ same name)

carried-moved : (ds : List Deed) (a b c : Directory) → ((name : List ℕ) → b name ≡ a name) → Carried ds b c → Carried ds a c
carried-moved [] a b c same h = λ name. h name ∙ same name
carried-moved (d ∷ ds) a b c same h = (h.0, does-moved d a b h.0 same h.1, h.2)

carried-both : (ds es : List Deed) (a b c : Directory) → Carried ds a b → Carried es b c → Carried (ds ++ es) a c
carried-both [] es a b c h k = carried-moved es a b c h k
carried-both (d ∷ ds) es a b c h k = (h.0, h.1, carried-both ds es h.0 b c h.2 k)

committed-carried : (cs : List (List Deed)) (a b : Directory) → Committed cs a b → Carried (all_deeds cs) a b
committed-carried [] a b h = h
committed-carried (c ∷ cs) a b h = carried-both c (all_deeds cs) a h.0 b h.1 (committed-carried cs h.0 b h.2)

pub commits-lead : CommitsLeadToNext
commits-lead false world dir parts plan settings change now settled planned loose after here there ok h =
    deeds-lead world dir parts plan settings change now settled loose after here ok
    (subst (λ (ds : List Deed). Carried ds dir after) (singles (deeds dir settings loose settled))
    (committed-carried (commits false dir settings loose settled planned) dir after h))
commits-lead true world dir parts plan settings change now settled planned loose after here there ok h =
    deeds-lead world dir parts plan settings change now planned loose after there ok
    (subst (λ (ds : List Deed). Carried ds dir after) (all-in-one (deeds dir settings loose planned))
    (committed-carried (commits true dir settings loose settled planned) dir after h))
