-- What the changes of a settled source leave under its names.
use Rattle.std.proofs.Common.{◌≡◌, ◌≢◌, ◌<◌, ◌∙◌, inl, inr, ℕ, zero, suc, ◌+◌, nat_lt, Bool, true, false, List, [], ◌∷◌, ◌++◌, Contains, AllPairs, length, map, Option, Some, None, refl, sym, ap, subst, arith}
use Rattle.std.specs.Prelude.{is_none, option_map, slice_get, Result, Ok, Err}
use Rattle.std.specs.List.{list_all, slice_index_or, cons_option, AllByRecursion as Each}
use Rattle.std.proofs.lemmas.Bool.{cases_Bool, and_parts}
use Rattle.std.proofs.lemmas.Bool.Decides.{nat_tests}
use Rattle.std.proofs.lemmas.List.Elements.{Contains-append_cases}
use Rattle.acq_base.specs.Plan.{IsPlanned, names_of}
use Rattle.acq_base.specs.Sum.{sum_of}
use Rattle.acq_base.specs.declared.installed.Old.{Old}
use Rattle.acq_base.specs.declared.plan.Source.{Source}
use Rattle.acq_base.specs.declared.plan.Target.{Target}
use Rattle.acq_base.specs.declared.sum.Sum.{Sum}
use Rattle.acq_base.specs.declared.uri.ListName.{ListName}
use Rattle.acq_base.proofs.Lists.{first-or-rest}
use Rattle.item_graph.specs.Refinement.{asked}
use Rattle.item_graph.specs.Laws.{IsHeardRoute, PointsEndInRoutes}
use Rattle.release_file.specs.Release.{listed_sum}
use Rattle.release_file.specs.declared.release.Release.{Release}
use Rattle.update_model.specs.Faults.{IsListed, ListsEndAsListed}
use Rattle.update_model.specs.Files.{sum_of_body}
use Rattle.update_model.specs.Laws.{HeldSetsAreFound, IsHad}
use Rattle.update_model.specs.Next.{HasWholeSet, OutcomeLeaves}
use Rattle.update_model.specs.Outcomes.{AdmittedRelease, Directory, Outcome, Staying, all_had}
use Rattle.update_model.specs.Points.{Point, Over, At}
use Rattle.update_model.specs.Walks.{Walk, target_walk}
use Rattle.update_model.specs.Wanted.{want}
use Rattle.update_model.specs.declared.ask.Body.{Body}
use Rattle.update_model.specs.declared.end.End.{End}
use Rattle.update_model.specs.declared.end.End.TheVariants.{Got, Stands, Ended}
use Rattle.update_model.specs.declared.settled.Settled.{Settled}
use Rattle.board_model.specs.Changes.{AreMade, IsInstalled, touched}
use Rattle.board_model.specs.Keys.{named}
use Rattle.board_model.specs.Laws.{SetsThereAreHeld}
use Rattle.board_model.specs.SetLaws.{ChangesLeaveOutcomes}
use Rattle.board_model.specs.Settling.{drop_of, drops_of, end_in, end_of, ends_in, had, outcome_in, put_of, puts_of, set_there, settled_in, settled_lists, staying_verdict, unchanged}
use Rattle.board_model.specs.Slots.{Setup, Standing, Slot, Asking, Listing, Refused, SettledSlot, has_ended, is_ready}
use Rattle.board_model.specs.Stands.{ItemHasHeard, History, IsOpen, ListStands, ListsStand, lane_answers}

-- ---- elements by their places

each-by : {A : Type 0} (P : A → Type 0) (xs : List A) → ((k : ℕ) (x : A) → slice_get xs k ≡ Some x → P x) → Each P xs
each-by P [] h = tt
each-by P (x ∷ xs) h = (h 0 x refl, each-by P xs (λ k y e. h (suc k) y e))

each-get : {A : Type 0} (P : A → Type 0) (xs : List A) (k : ℕ) (x : A) → Each P xs → slice_get xs k ≡ Some x → P x
each-get P [] k x h e = absurd (cc)
each-get P (y ∷ ys) zero x h e = let same : y ≡ x = cc in subst P same h.0
each-get P (y ∷ ys) (suc k) x h e = each-get P ys k x h.1 e

pub get-name : (targets : List Target) (k : ℕ) (target : Target) (d : List ℕ) → slice_get targets k ≡ Some target → (k < length (map (λ (t : Target). t.name.0) targets)) × (slice_index_or (map (λ (t : Target). t.name.0) targets) k d ≡ target.name.0)
get-name [] k target d e = absurd (cc)
get-name (t ∷ targets) zero target d e = let same : t ≡ target = cc in (omega arith, ap (λ (x : Target). x.name.0) same)
get-name (t ∷ targets) (suc k) target d e = let rest = get-name targets k target d e in let below = rest.0 in (omega (arith, below), rest.1)

-- targets of a source with one name are one
pub same-place : (source : Source) (i k : ℕ) (a b : Target) → AllPairs (λ a b. a ≢ b) (names_of source) → slice_get source.targets i ≡ Some a → slice_get source.targets k ≡ Some b → a.name.0 ≡ b.name.0 → i ≡ k
same-place source i k a b distinct ai bk same = elim (cases_Bool (nat_lt i k)) [
  | inl below ↦
      let x = get-name source.targets i a [] ai in
      let y = get-name source.targets k b [] bk in
      let lower : i < k = grind (arith, nat_tests, below) in
      let fits = y.0 in
      absurd (distinct (suc i) (suc k) [] (omega (arith, lower)) (omega (arith, fits)) (x.1 ∙ same ∙ sym y.1))
  | inr over ↦ elim (cases_Bool (nat_lt k i)) [
    | inl above ↦
        let x = get-name source.targets i a [] ai in
        let y = get-name source.targets k b [] bk in
        let lower : k < i = grind (arith, nat_tests, above) in
        let fits = x.0 in
        absurd (distinct (suc k) (suc i) [] (omega (arith, lower)) (omega (arith, fits)) (y.1 ∙ sym same ∙ sym x.1))
    | inr under ↦ grind (arith, nat_tests, over, under)
  ]
]

-- no target has the Release's name
pub not-release : (source : Source) (k : ℕ) (b : Target) → AllPairs (λ a b. a ≢ b) (names_of source) → slice_get source.targets k ≡ Some b → source.release_name.0 ≢ b.name.0
not-release source k b distinct bk same =
    let y = get-name source.targets k b [] bk in
    let fits = y.0 in
    distinct 0 (suc k) [] (omega arith) (omega (arith, fits)) (same ∙ sym y.1)

-- ---- one list

pub list-at : (config : Setup) (n : ℕ) (source : Source) (old : Old) (release : Release) (place : ℕ) (targets : List Target) (lists : List (Option Standing)) (history : History) (k : ℕ) (target : Target)
    → ListsStand config n source old release place targets lists history → slice_get targets k ≡ Some target
    → (list : Option Standing) × (slice_get lists k ≡ Some list) × ListStands config n source old release target (history (place + k)) list
list-at config n source old release place [] lists history k target h e = absurd (cc)
list-at config n source old release place (t ∷ targets) [] history k target h e = absurd h
list-at config n source old release place (t ∷ targets) (list ∷ lists) history zero target h e =
    let same : t ≡ target = cc in
    let here : place ≡ place + 0 = omega arith in
    (list, refl, subst (λ (p : ℕ). ListStands config n source old release target (history p) list) here (subst (λ (x : Target). ListStands config n source old release x (history place) list) same h.0))
list-at config n source old release place (t ∷ targets) (list ∷ lists) history (suc k) target h e =
    let rest = list-at config n source old release (suc place) targets lists history k target h.1 e in
    let here : suc place + k ≡ place + suc k = omega arith in
    (rest.0, rest.1, subst (λ (p : ℕ). ListStands config n source old release target (history p) rest.0) here rest.2)

ended-at : (lists : List (Option Standing)) (k : ℕ) (item : Standing) → list_all has_ended lists ≡ true → slice_get lists k ≡ Some (Some item) → (end : End) × (item.point ≡ Over end)
ended-at [] k item h e = absurd (cc)
ended-at (list ∷ lists) zero item h e =
    let same : list ≡ Some item = cc in
    over item.point (ap has_ended (sym same) ∙ (and_parts (has_ended list) (list_all has_ended lists) h).0)
  where
    over : (p : Point) → is_none (asked p) ≡ true → (end : End) × (p ≡ Over end)
    over (Over end) e = (end, refl)
    over (At ask left faults next) e = absurd (cc)
ended-at (list ∷ lists) (suc k) item h e = ended-at lists k item (and_parts (has_ended list) (list_all has_ended lists) h).1 e

end-at : (item : Standing) (end : End) → item.point ≡ Over end → end_in (Some item) ≡ Some end
end-at item end is = ap end_of is

had-at : (lists : List (Option Standing)) (k : ℕ) (item : Standing) (end : End) (u : Unit {0}) → all_had (ends_in lists) ≡ Ok u → slice_get lists k ≡ Some (Some item) → item.point ≡ Over end → IsHad end
had-at [] k item end u h e is = absurd (cc)
had-at (list ∷ lists) zero item end u h e is =
    let same : list ≡ Some item = cc in
    let ended : end_in list ≡ Some end = ap end_in same ∙ end-at item end is in
    one end (ap (λ (o : Option End). all_had (cons_option o (ends_in lists))) (sym ended) ∙ h)
  where
    one : (x : End) → all_had (x ∷ ends_in lists) ≡ Ok u → IsHad x
    one (Got body) e = tt
    one Stands e = tt
    one (Ended cause) e = absurd (cc)
had-at (list ∷ lists) (suc k) item end u h e is = had-at lists k item end u (later (end_in list) h) e is
  where
    later : (o : Option End) → all_had (cons_option o (ends_in lists)) ≡ Ok u → all_had (ends_in lists) ≡ Ok u
    later None e = e
    later (Some (Got body)) e = e
    later (Some Stands) e = e
    later (Some (Ended cause)) e = absurd (cc)

put-at : (P : ListName × Body → Type 0) (targets : List Target) (lists : List (Option Standing)) (k : ℕ) (target : Target) (list : Option Standing) (body : Body)
    → Each P (puts_of targets lists) → slice_get targets k ≡ Some target → slice_get lists k ≡ Some list → end_in list ≡ Some (Got body) → P (target.name, body)
put-at P [] lists k target list body h t l is = absurd (cc)
put-at P (x ∷ targets) [] k target list body h t l is = absurd (cc)
put-at P (x ∷ targets) (y ∷ lists) zero target list body h t l is =
    let target_same : x ≡ target = cc in
    let list_same : y ≡ list = cc in
    let end : end_in y ≡ Some (Got body) = ap end_in list_same ∙ is in
    let here : P (x.name, body) = (subst (λ (o : Option End). Each P (put_of x o ++ puts_of targets lists)) end h).0 in
    subst (λ (t : Target). P (t.name, body)) target_same here
put-at P (x ∷ targets) (y ∷ lists) (suc k) target list body h t l is = put-at P targets lists k target list body (behind (put_of x (end_in y)) h) t l is
  where
    behind : (xs : List (ListName × Body)) → Each P (xs ++ puts_of targets lists) → Each P (puts_of targets lists)
    behind [] h = h
    behind (z ∷ zs) h = behind zs h.1

drop-at : (P : ListName → Type 0) (release : Release) (targets : List Target) (k : ℕ) (target : Target) → Each P (drops_of release targets) → slice_get targets k ≡ Some target → listed_sum release target.path ≡ None → P target.name
drop-at P release [] k target h t none = absurd (cc)
drop-at P release (x ∷ targets) zero target h t none =
    let same : x ≡ target = cc in
    let dropped : drop_of x (listed_sum release x.path) ≡ Some x.name = ap (drop_of x) (ap (λ (t : Target). listed_sum release t.path) same ∙ none) in
    subst (λ (t : Target). P t.name) same (subst (λ (o : Option ListName). Each P (cons_option o (drops_of release targets))) dropped h).0
drop-at P release (x ∷ targets) (suc k) target h t none = drop-at P release targets k target (behind (drop_of x (listed_sum release x.path)) h) t none
  where
    behind : (o : Option ListName) → Each P (cons_option o (drops_of release targets)) → Each P (drops_of release targets)
    behind None h = h
    behind (Some name) h = h.1

-- ---- which names are touched

-- a put comes from its list
pub record IsPutOf (targets : List Target) (lists : List (Option Standing)) (name : List ℕ) : Type 0 where
  pub k : ℕ
  pub target : Target
  pub list : Option Standing
  pub body : Body
  pub there : slice_get targets k ≡ Some target
  pub list_is : slice_get lists k ≡ Some list
  pub got : end_in list ≡ Some (Got body)
  pub named_so : target.name.0 ≡ name

pub record IsDropOf (release : Release) (targets : List Target) (name : List ℕ) : Type 0 where
  pub k : ℕ
  pub target : Target
  pub there : slice_get targets k ≡ Some target
  pub none : listed_sum release target.path ≡ None
  pub named_so : target.name.0 ≡ name

pub none-in : {X : Type 0} (x : X) → Contains [] x → ⊥
none-in x c = omega (arith, c.1)

pub put-of : (targets : List Target) (lists : List (Option Standing)) (name : List ℕ) → Contains (map (λ put. put.0.0) (puts_of targets lists)) name → IsPutOf targets lists name
put-of [] lists name c = absurd (none-in name c)
put-of (t ∷ targets) [] name c = absurd (none-in name c)
put-of (t ∷ targets) (list ∷ lists) name c = one (end_in list) refl c (put-of targets lists name)
  where
    later : IsPutOf targets lists name → IsPutOf (t ∷ targets) (list ∷ lists) name
    later p = record { k = suc p.k; target = p.target; list = p.list; body = p.body; there = p.there; list_is = p.list_is; got = p.got; named_so = p.named_so }

    one : (o : Option End) → end_in list ≡ o → Contains (map (λ (put : ListName × Body). put.0.0) (put_of t o ++ puts_of targets lists)) name
        → (Contains (map (λ (put : ListName × Body). put.0.0) (puts_of targets lists)) name → IsPutOf targets lists name) → IsPutOf (t ∷ targets) (list ∷ lists) name
    one None is c find = later (find c)
    one (Some Stands) is c find = later (find c)
    one (Some (Ended cause)) is c find = later (find c)
    one (Some (Got body)) is c find = elim (first-or-rest t.name.0 (map (λ (put : ListName × Body). put.0.0) (puts_of targets lists)) name c) [
      | inl here ↦ record { k = 0; target = t; list = list; body = body; there = refl; list_is = refl; got = is; named_so = here }
      | inr rest ↦ later (find rest)
    ]

pub drop-of : (release : Release) (targets : List Target) (name : List ℕ) → Contains (map (λ n. n.0) (drops_of release targets)) name → IsDropOf release targets name
drop-of release [] name c = absurd (none-in name c)
drop-of release (t ∷ targets) name c = one (listed_sum release t.path) refl c (drop-of release targets name)
  where
    later : IsDropOf release targets name → IsDropOf release (t ∷ targets) name
    later d = record { k = suc d.k; target = d.target; there = d.there; none = d.none; named_so = d.named_so }

    one : (o : Option Sum) → listed_sum release t.path ≡ o → Contains (map (λ (n : ListName). n.0) (cons_option (drop_of t o) (drops_of release targets))) name
        → (Contains (map (λ (n : ListName). n.0) (drops_of release targets)) name → IsDropOf release targets name) → IsDropOf release (t ∷ targets) name
    one (Some sum) is c find = later (find c)
    one None is c find = elim (first-or-rest t.name.0 (map (λ (n : ListName). n.0) (drops_of release targets)) name c) [
      | inl here ↦ record { k = 0; target = t; there = refl; none = is; named_so = here }
      | inr rest ↦ later (find rest)
    ]

-- a list that stands is touched by nothing
stands-untouched : (source : Source) (release : Release) (bytes : List ℕ) (lists : List (Option Standing)) (k : ℕ) (target : Target) (item : Standing) (sum : Sum) → AllPairs (λ a b. a ≢ b) (names_of source)
    → slice_get source.targets k ≡ Some target → slice_get lists k ≡ Some (Some item) → item.point ≡ Over Stands → listed_sum release target.path ≡ Some sum
    → Contains (source.release_name.0 ∷ [] ++ map (λ put. put.0.0) (puts_of source.targets lists) ++ map (λ name. name.0) (drops_of release source.targets)) target.name.0 → ⊥
stands-untouched source release bytes lists k target item sum distinct there list_is stands listed c =
    elim (first-or-rest source.release_name.0 _ target.name.0 c) [
      | inl here ↦ not-release source k target distinct there here
      | inr rest ↦ elim (Contains-append_cases (map (λ (put : ListName × Body). put.0.0) (puts_of source.targets lists)) (map (λ (name : ListName). name.0) (drops_of release source.targets)) target.name.0 rest) [
        | inl put ↦ was-put (put-of source.targets lists target.name.0 put)
        | inr drop ↦ was-dropped (drop-of release source.targets target.name.0 drop)
      ]
    ]
  where
    was-put : IsPutOf source.targets lists target.name.0 → ⊥
    was-put p =
        let place : p.k ≡ k = same-place source p.k k p.target target distinct p.there there p.named_so in
        let both : Some p.list ≡ Some (Some item) = sym p.list_is ∙ ap (slice_get lists) place ∙ list_is in
        let same : p.list ≡ Some item = cc in
        let ends : Some (Got p.body) ≡ Some Stands = sym p.got ∙ ap end_in same ∙ end-at item Stands stands in
        cc

    was-dropped : IsDropOf release source.targets target.name.0 → ⊥
    was-dropped d =
        let place : d.k ≡ k = same-place source d.k k d.target target distinct d.there there d.named_so in
        let both : Some d.target ≡ Some target = sym d.there ∙ ap (slice_get source.targets) place ∙ there in
        let same : d.target ≡ target = cc in
        let sums : None ≡ Some sum = sym d.none ∙ ap (λ (t : Target). listed_sum release t.path) same ∙ listed in
        cc

-- ---- a set that is put

record IsPut (config : Setup) (n : ℕ) (source : Source) (old : Old) (set : AdmittedRelease) (lists : List (Option Standing)) (history : History) : Type 0 where
  lists_stand : ListsStand config n source old set.release 1 source.targets lists history
  ended : list_all has_ended lists ≡ true
  had_all : all_had (ends_in lists) ≡ Ok tt

put-list : PointsEndInRoutes → ListsEndAsListed → (config : Setup) (n : ℕ) (source : Source) (old : Old) (set : AdmittedRelease) (lists : List (Option Standing)) (history : History) (before after : Directory)
    → IsPut config n source old set lists history → IsPlanned source → IsInstalled source old before
    → AreMade source (set_there source set lists false) before after → (k : ℕ) (target : Target) → slice_get source.targets k ≡ Some target
    → option_map sum_of (after target.name.0) ≡ listed_sum set.release target.path
put-list routes listed config n source old set lists history before after p planned installed made k target there = one found.0 found.1 found.2
  where
    found : (list : Option Standing) × (slice_get lists k ≡ Some list) × ListStands config n source old set.release target (history (1 + k)) list
    found = list-at config n source old set.release 1 source.targets lists history k target p.lists_stand there

    two : (item : Standing) (sum : Sum) (end : End) → slice_get lists k ≡ Some (Some item) → listed_sum set.release target.path ≡ Some sum → item.point ≡ Over end
        → IsListed sum (named old.lists target.name.0) end → option_map sum_of (after target.name.0) ≡ listed_sum set.release target.path
    two item sum (Got body) list_is is over fits =
        put-at (λ put. option_map sum_of (after put.0.0) ≡ Some (sum_of_body put.1)) source.targets lists k target (Some item) body made.puts there list_is (end-at item (Got body) over)
        ∙ ap Some fits ∙ sym is
    two item sum Stands list_is is over fits =
        let kept : after target.name.0 ≡ before target.name.0 =
        made.others target.name.0 (stands-untouched source set.release set.bytes lists k target item sum planned.distinct there list_is over is) in
        let was : named old.lists target.name.0 ≡ before target.name.0 = each-get (λ (t : Target). named old.lists t.name.0 ≡ before t.name.0) source.targets k target installed.lists there in
        ap (option_map sum_of) (kept ∙ sym was) ∙ file (named old.lists target.name.0) fits ∙ sym is
      where
        file : (o : Option (List ℕ)) → IsListed sum o Stands → option_map sum_of o ≡ Some sum
        file None h = absurd h
        file (Some bytes) h = ap Some h
    two item sum (Ended cause) list_is is over fits = absurd fits

    one : (list : Option Standing) → slice_get lists k ≡ Some list → ListStands config n source old set.release target (history (1 + k)) list
        → option_map sum_of (after target.name.0) ≡ listed_sum set.release target.path
    one None list_is h =
        ap (option_map sum_of) (drop-at (λ (name : ListName). after name.0 ≡ None) set.release source.targets k target made.drops there h.0) ∙ sym h.0
    one (Some item) list_is h =
        let sum : Sum = h.0 in
        let ended = ended-at lists k item p.ended list_is in
        let heard : ItemHasHeard config.settings.retries n target.path (target_walk (named old.lists target.name.0) (config.sizes target.name.0) (want source set.release config.settings target sum)) (history (1 + k)) item = h.2 in
        let walk : Walk = target_walk (named old.lists target.name.0) (config.sizes target.name.0) (want source set.release config.settings target sum) in
        let told : IsHeardRoute config.settings.retries walk (lane_answers (history (1 + k))) ended.0 = routes config.settings.retries walk (lane_answers (history (1 + k))) ended.0 (sym heard.stands ∙ ended.1) in
        two item sum ended.0 list_is h.1 ended.1
        (listed (named old.lists target.name.0) (config.sizes target.name.0) (want source set.release config.settings target sum) config.settings.retries told.trails ended.0 told.route
        (had-at lists k item ended.0 tt p.had_all list_is ended.1))

-- nothing changes
same-after : (source : Source) (settled : Settled) (before after : Directory) → touched source settled ≡ [] → AreMade source settled before after → (name : List ℕ) → after name ≡ before name
same-after source settled before after none made name = made.others name (λ c. none-in name (subst (λ (ns : List (List ℕ)). Contains ns name) none c))

keep-all : (source : Source) (before after : Directory) → ((name : List ℕ) → after name ≡ before name) → Each (λ name. after name ≡ before name) (names_of source)
keep-all source before after same = (same source.release_name.0, each-by (λ name. after name ≡ before name) (map (λ (t : Target). t.name.0) source.targets) (λ k name e. same name))

holds-still : (source : Source) (set : AdmittedRelease) (before after : Directory) → ((name : List ℕ) → after name ≡ before name) → HasWholeSet before source set → HasWholeSet after source set
holds-still source set before after same h = record {
  release_file = same source.release_name.0 ∙ h.release_file;
  lists = each-by (λ target. option_map sum_of (after target.name.0) ≡ listed_sum set.release target.path) source.targets
      (λ k target e. ap (option_map sum_of) (same target.name.0) ∙ each-get (λ (t : Target). option_map sum_of (before t.name.0) ≡ listed_sum set.release t.path) source.targets k target h.lists e);
}

pub changes-leave : PointsEndInRoutes → ListsEndAsListed → SetsThereAreHeld → HeldSetsAreFound → ChangesLeaveOutcomes
changes-leave routes listed there_held found config n source old slot history settled outcome before after open_slot ready is_settled is_outcome planned installed made =
    one slot open_slot ready is_settled is_outcome
  where
    listing : (set : AdmittedRelease) (there : Bool) (lists : List (Option Standing)) → IsOpen config n source old (Listing set there lists) history → list_all has_ended lists ≡ true
        → (had_all : Result (Unit {0}) Staying) → all_had (ends_in lists) ≡ had_all → settled_lists source set there lists had_all ≡ settled → had set had_all ≡ outcome → OutcomeLeaves outcome source before after
    listing set there lists h ended (Err why) had_is s o =
        let same : (name : List ℕ) → after name ≡ before name = same-after source settled before after (ap (touched source) (sym s)) made in
        subst (λ (x : Outcome). OutcomeLeaves x source before after) o (keep-all source before after same)
    listing set true lists h ended (Ok u) had_is s o =
        let same : (name : List ℕ) → after name ≡ before name = same-after source settled before after (ap (touched source) (sym s)) made in
        let held = sym (there_held before source old set installed.release installed.lists) ∙ sym h.1 in
        subst (λ (x : Outcome). OutcomeLeaves x source before after) o (holds-still source set before after same ((found before source set).0 held))
    listing set false lists h ended (Ok u) had_is s o =
        let done : AreMade source (set_there source set lists false) before after = subst (λ (x : Settled). AreMade source x before after) (sym s) made in
        let p : IsPut config n source old set lists history = record { lists_stand = h.2; ended = ended; had_all = had_is } in
        subst (λ (x : Outcome). OutcomeLeaves x source before after) o (record {
          release_file = done.release;
          lists = each-by (λ target. option_map sum_of (after target.name.0) ≡ listed_sum set.release target.path) source.targets
              (put-list routes listed config n source old set lists history before after p planned installed done);
        })

    one : (slot : Slot) → IsOpen config n source old slot history → is_ready slot ≡ true → settled_in source slot ≡ Some settled → outcome_in slot ≡ Some outcome → OutcomeLeaves outcome source before after
    one (Asking kept release) h r s o = absurd (cc)
    one (Listing set there lists) h r s o =
        let is : settled_lists source set there lists (all_had (ends_in lists)) ≡ settled = cc in
        let came : had set (all_had (ends_in lists)) ≡ outcome = cc in
        listing set there lists h r (all_had (ends_in lists)) refl is came
    one (Refused why) h r s o =
        let is : Err why ≡ outcome = cc in
        let put : unchanged (staying_verdict why) ≡ settled = cc in
        let same : (name : List ℕ) → after name ≡ before name = same-after source settled before after (ap (touched source) (sym put)) made in
        subst (λ (x : Outcome). OutcomeLeaves x source before after) is (keep-all source before after same)
    one SettledSlot h r s o = absurd h
