-- Where the log tells no more faults of each source at each URI than are asked again, no ask was given up.
use Rattle.std.proofs.Common.{◌≡◌, ◌⊎◌, ◌≤◌, ℕ, zero, suc, ◌+◌, ◌==◌, Bool, true, false, List, [], ◌∷◌, ◌++◌, Option, Some, None, inl, inr, refl, sym, ap, subst, arith}
use Rattle.std.specs.Prelude.{if◌then◌else◌, slice_get, ◌&&◌}
use Rattle.std.specs.List.{AllByRecursion as Each}
use Rattle.std.proofs.lemmas.Bool.{and_parts}
use Rattle.std.proofs.lemmas.Bool.Decides.{nat_tests}
use Rattle.acq_base.proofs.Texts.{bytes_eq-refl}
use Rattle.acq_base.specs.Uri.{same_uri, scheme_index}
use Rattle.acq_base.specs.declared.fetch.NotServed.TheVariants.{Moved, Absent, TooBig, Garbled, Fault}
use Rattle.acq_base.specs.declared.installed.Old.{Old}
use Rattle.acq_base.specs.declared.plan.Source.{Source}
use Rattle.acq_base.specs.declared.plan.Target.{Target}
use Rattle.acq_base.specs.declared.uri.Uri.{Uri}
use Rattle.board_model.specs.Agreeing.{AfterAnswer, IsAnswered, NoneIsDead}
use Rattle.board_model.specs.Boards.{Board}
use Rattle.board_model.specs.Jobs.{one_if}
use Rattle.board_model.specs.Keys.{keys_from, key_at, places_from, same_key}
use Rattle.board_model.specs.Laws.{BoardsStand}
use Rattle.board_model.specs.Reached.{Reached}
use Rattle.board_model.specs.Runs.{Note}
use Rattle.board_model.specs.Slots.{Setup, Slot, Asking, Listing, Refused, SettledSlot, Standing}
use Rattle.board_model.specs.Stands.{AreAsked, History, IsOpen, ListStands, SourceStands, StandsAt, entries_of, history_of, of_key, walk_of}
use Rattle.board_model.specs.declared.key.Key.{Key}
use Rattle.update_model.specs.Points.{Point, Over, At, lead, start}
use Rattle.update_model.specs.Reach.{Way, On, Stop, way}
use Rattle.update_model.specs.Trails.{Leads, heard_of}
use Rattle.update_model.specs.Walks.{Walk, Finish, Try, release_walk}
use Rattle.update_model.specs.declared.ask.Ask.{Ask}
use Rattle.update_model.specs.declared.ask.Closed.{Closed}
use Rattle.update_model.specs.declared.ask.Closed.TheVariants as closed
use Rattle.update_model.specs.declared.ask.Ending.{Ending}
use Rattle.update_model.specs.declared.settled.Verdict2.{Verdict2}
use Rattle.board_bounds.proofs.Asking.{reached-stands}
use Rattle.board_model.proofs.Making.{list-at}
use Rattle.board_model.proofs.Notes.{IsKnown, AllKnown, run-known}
use Rattle.board_model.proofs.Resting.{olds-there}
use Rattle.run_jobs.proofs.OneJob.{same_number}
use Rattle.run_promises.specs.Promise.{NoneIsGivenUp, faults_told_of, is_fault}

-- ---- what one item heard

abbrev faults_in : Uri → List Note → ℕ
faults_in uri [] = 0
faults_in uri (note ∷ notes) = one_if (same_uri note.ask.uri uri && is_fault (heard_of note.told.closed)) + faults_in uri notes

own_uri : (uri : Uri) → same_uri uri uri ≡ true
own_uri uri = rw (same_number (scheme_index uri.scheme), bytes_eq-refl uri.host, same_number uri.port, bytes_eq-refl uri.path) refl

-- as many faults at the point's URI as are still asked again
abbrev IsLeft : Point → List Note → Type 0
IsLeft (Over end) notes = Unit {0}
IsLeft (At ask left faults next) notes = faults_in ask.uri notes ≤ faults

abbrev left_at : ℕ → Point → ℕ
left_at retries (Over end) = retries
left_at retries (At ask left faults next) = faults

left_start : (retries : ℕ) (walk : Walk) → left_at retries (start retries walk) ≡ retries
left_start retries (Finish end) = refl
left_start retries (Try ask next) = refl

left_lead : (retries : ℕ) (ask : Ask) (left : ℕ) (next : Ending → Walk) (w : Way) → left_at retries (lead retries ask left next w) ≡ retries
left_lead retries ask left next (On to) = refl
left_lead retries ask left next (Stop ending) = left_start retries (next ending)

fresh_left : (retries : ℕ) (p : Point) (notes : List Note) → left_at retries p ≡ retries → ((uri : Uri) → faults_in uri notes ≤ retries) → IsLeft p notes
fresh_left retries (Over end) notes is few = tt
fresh_left retries (At ask left faults next) notes is few = let all = few ask.uri in omega (arith, all, is)

answered_few : (retries : ℕ) (p : Point) (notes : List Note) → AreAsked retries p notes → ((uri : Uri) → faults_in uri notes ≤ retries) → IsLeft p notes → IsAnswered retries (left_at retries p) notes
answered_few retries p [] asks few here = tt
answered_few retries (Over end) (note ∷ notes) asks few here = let none = asks.0 in absurd cc
answered_few retries (At ask left faults next) (note ∷ notes) asks few here =
    let is = asks.0 in
    let same : ask ≡ note.ask = cc in
    one note.told.closed faults
    (subst (λ (a : Ask). one_if (same_uri a.uri ask.uri && is_fault (heard_of note.told.closed)) + faults_in ask.uri notes ≤ faults) (sym same) here)
    asks.1 (λ q asked live. answered_few retries q notes asked rest live)
  where
    rest : (uri : Uri) → faults_in uri notes ≤ retries
    rest uri = let all = few uri in omega (arith, all)

    goes : (w : Way) → AreAsked retries (lead retries ask left next w) notes → ((q : Point) → AreAsked retries q notes → IsLeft q notes → IsAnswered retries (left_at retries q) notes)
        → IsAnswered retries retries notes
    goes w asked later =
        subst (λ (n : ℕ). IsAnswered retries n notes) (left_lead retries ask left next w)
        (later (lead retries ask left next w) asked (fresh_left retries (lead retries ask left next w) notes (left_lead retries ask left next w) rest))

    -- a fault at the point's own URI counts
    counted : one_if (same_uri ask.uri ask.uri && true) ≡ 1
    counted = rw (own_uri ask.uri) refl

    one : (answer : Closed) (faults : ℕ) → one_if (same_uri ask.uri ask.uri && is_fault (heard_of answer)) + faults_in ask.uri notes ≤ faults
        → AreAsked retries (Leads left ask.uri note.told.lane answer faults (λ n. At ask left n next) (λ w. lead retries ask left next w)) notes
        → ((q : Point) → AreAsked retries q notes → IsLeft q notes → IsAnswered retries (left_at retries q) notes)
        → AfterAnswer answer faults (λ n. IsAnswered retries n notes) (IsAnswered retries retries notes)
    one (closed.Not (Fault from to)) zero left_here asked later = absurd (omega (arith, left_here, counted))
    one (closed.Not (Fault from to)) (suc n) left_here asked later = later (At ask left n next) asked (omega (arith, left_here, counted))
    one (closed.Served body) zero left_here asked later = goes (way left ask.uri (closed.Served body)) asked later
    one (closed.Served body) (suc n) left_here asked later = goes (way left ask.uri (closed.Served body)) asked later
    one (closed.Not (Moved place)) zero left_here asked later = goes (way left ask.uri (closed.Not (Moved place))) asked later
    one (closed.Not (Moved place)) (suc n) left_here asked later = goes (way left ask.uri (closed.Not (Moved place))) asked later
    one (closed.Not (Absent status)) zero left_here asked later = goes (way left ask.uri (closed.Not (Absent status))) asked later
    one (closed.Not (Absent status)) (suc n) left_here asked later = goes (way left ask.uri (closed.Not (Absent status))) asked later
    one (closed.Not TooBig) zero left_here asked later = goes (way left ask.uri (closed.Not TooBig)) asked later
    one (closed.Not TooBig) (suc n) left_here asked later = goes (way left ask.uri (closed.Not TooBig)) asked later
    one (closed.Not (Garbled at)) zero left_here asked later = goes (way left ask.uri (closed.Not (Garbled at))) asked later
    one (closed.Not (Garbled at)) (suc n) left_here asked later = goes (way left ask.uri (closed.Not (Garbled at))) asked later

-- an item has heard no more faults than its source
few_of_key : (key : Key) (uri : Uri) (notes : List Note) → faults_in uri (of_key key notes) ≤ faults_told_of key.source uri (entries_of notes)
few_of_key key uri [] = omega arith
few_of_key key uri (note ∷ notes) = by (same_key note.key key) refl (few_of_key key uri notes)
  where
    by : (same : Bool) → same_key note.key key ≡ same → faults_in uri (of_key key notes) ≤ faults_told_of key.source uri (entries_of notes)
        → faults_in uri (if same then note ∷ of_key key notes else of_key key notes) ≤ faults_told_of key.source uri (entries_of (note ∷ notes))
    by true same rest =
        let source = (and_parts (note.key.source == key.source) (note.key.place == key.place) same).0 in
        let counts = ap (λ (c : Bool). one_if (c && (same_uri note.ask.uri uri && is_fault (heard_of note.told.closed)))) source in
        omega (arith, rest, counts)
    by false same rest = omega (arith, rest)

-- ---- the items of a plan

-- a list of these, from a place on
record IsListAt (targets : List Target) (place : ℕ) : Type 0 where
  k : ℕ
  target : Target
  is : place ≡ suc k
  there : slice_get targets k ≡ Some target

record IsListFrom (n from : ℕ) (targets : List Target) (key : Key) : Type 0 where
  k : ℕ
  target : Target
  source_is : key.source ≡ n
  is : key.place ≡ from + k
  there : slice_get targets k ≡ Some target

list_or_rest : (n from : ℕ) (targets : List Target) (rest : List Key) (m : ℕ) (key : Key) → slice_get (places_from n from targets ++ rest) m ≡ Some key
    → IsListFrom n from targets key ⊎ ((other : ℕ) × (slice_get rest other ≡ Some key))
list_or_rest n from [] rest m key e = inr (m, e)
list_or_rest n from (t ∷ targets) rest zero key e =
    let same : (record { source = n; place = from }) ≡ key = cc in
    inl (subst (λ (k : Key). IsListFrom n from (t ∷ targets) k) same (record { k = 0; target = t; source_is = refl; is = omega arith; there = refl }))
list_or_rest n from (t ∷ targets) rest (suc m) key e = by (list_or_rest n (suc from) targets rest m key e)
  where
    by : IsListFrom n (suc from) targets key ⊎ ((other : ℕ) × (slice_get rest other ≡ Some key)) → IsListFrom n from (t ∷ targets) key ⊎ ((other : ℕ) × (slice_get rest other ≡ Some key))
    by (inl h) = let at = h.is in inl (record { k = suc h.k; target = h.target; source_is = h.source_is; is = omega (arith, at); there = h.there })
    by (inr h) = inr h

-- its Release, or one of its lists
abbrev IsPlace : Source → ℕ → Type 0
IsPlace source place = (place ≡ 0) ⊎ IsListAt source.targets place

record IsItemFrom (n : ℕ) (sources : List Source) (key : Key) : Type 0 where
  i : ℕ
  source : Source
  is : key.source ≡ n + i
  there : slice_get sources i ≡ Some source
  place : IsPlace source key.place

item_from : (n : ℕ) (sources : List Source) (m : ℕ) (key : Key) → slice_get (keys_from n sources) m ≡ Some key → IsItemFrom n sources key
item_from n [] m key e = absurd (cc)
item_from n (s ∷ sources) zero key e =
    let same : (record { source = n; place = 0 }) ≡ key = cc in
    subst (λ (k : Key). IsItemFrom n (s ∷ sources) k) same (record { i = 0; source = s; is = omega arith; there = refl; place = inl refl })
item_from n (s ∷ sources) (suc m) key e = by (list_or_rest n 1 s.targets (keys_from (suc n) sources) m key e) (λ other is. item_from (suc n) sources other key is)
  where
    by : IsListFrom n 1 s.targets key ⊎ ((other : ℕ) × (slice_get (keys_from (suc n) sources) other ≡ Some key))
        → ((other : ℕ) → slice_get (keys_from (suc n) sources) other ≡ Some key → IsItemFrom (suc n) sources key) → IsItemFrom n (s ∷ sources) key
    by (inl h) more =
        let source = h.source_is in
        let at = h.is in
        record { i = 0; source = s; is = omega (arith, source); there = refl; place = inr (record { k = h.k; target = h.target; is = omega (arith, at); there = h.there }) }
    by (inr h) more =
        let item = more h.0 h.1 in
        let at = item.is in
        record { i = suc item.i; source = item.source; is = omega (arith, at); there = item.there; place = item.place }

-- an item of the plan, by its source and place
record IsItem (sources : List Source) (n place : ℕ) : Type 0 where
  source : Source
  there : slice_get sources n ≡ Some source
  at : IsPlace source place

item_of : (sources : List Source) (m : ℕ) (key : Key) → key_at sources m ≡ Some key → IsItem sources key.source key.place
item_of sources m key e =
    let item = item_from 0 sources m key e in
    let from = item.is in
    let same : item.i ≡ key.source = omega (arith, from) in
    record { source = item.source; there = subst (λ (i : ℕ). slice_get sources i ≡ Some item.source) same item.there; at = item.place }

-- what has heard anything is an item
heard_item : (sources : List Source) (key : Key) (notes : List Note) → Each (IsKnown sources) notes → (of_key key notes ≡ []) ⊎ IsItem sources key.source key.place
heard_item sources key [] known = inl refl
heard_item sources key (note ∷ notes) known = by (same_key note.key key) refl (heard_item sources key notes known.1)
  where
    by : (same : Bool) → same_key note.key key ≡ same → (of_key key notes ≡ []) ⊎ IsItem sources key.source key.place
        → ((if same then note ∷ of_key key notes else of_key key notes) ≡ []) ⊎ IsItem sources key.source key.place
    by true same rest =
        let source : note.key.source ≡ key.source = grind (arith, nat_tests, same) in
        let place : note.key.place ≡ key.place = grind (arith, nat_tests, same) in
        inr (subst (λ (s : ℕ). IsItem sources s key.place) source (subst (λ (p : ℕ). IsItem sources note.key.source p) place (item_of sources known.0.0 note.key known.0.1)))
    by false same rest = rest

-- ---- an item's walk

-- it has heard nothing, or answers to what its walk asks
abbrev IsAskedAlong : ℕ → List Note → Type 0
IsAskedAlong retries heard = (heard ≡ []) ⊎ ((walk : Walk) × AreAsked retries (start retries walk) heard)

release_asked : (config : Setup) (n : ℕ) (source : Source) (old : Old) (slot : Slot) (history : History) → IsOpen config n source old slot history → IsAskedAlong config.settings.retries (history 0)
release_asked config n source old (Asking kept release) history h = inr (release_walk source, h.1.asks)
release_asked config n source old (Listing set there lists) history h = inr (release_walk source, h.0.asks)
release_asked config n source old (Refused why) history h = inr (release_walk source, h.0.asks)
release_asked config n source old SettledSlot history h = absurd h

list_asked : (config : Setup) (n : ℕ) (source : Source) (old : Old) (slot : Slot) (history : History) → IsOpen config n source old slot history → (k : ℕ) (target : Target) → slice_get source.targets k ≡ Some target
    → IsAskedAlong config.settings.retries (history (suc k))
list_asked config n source old (Asking kept release) history h k target there = inl (h.2 k)
list_asked config n source old (Listing set all lists) history h k target there =
    let found = list-at config n source old set.release 1 source.targets lists history k target h.2 there in
    let place : 1 + k ≡ suc k = omega arith in
    by found.0 (subst (λ (p : ℕ). ListStands config n source old set.release target (history p) found.0) place found.2)
  where
    by : (item : Option Standing) → ListStands config n source old set.release target (history (suc k)) item → IsAskedAlong config.settings.retries (history (suc k))
    by None stands = inl stands.1
    by (Some item) stands = inr (walk_of config source old set.release target stands.0, stands.2.asks)
list_asked config n source old (Refused why) history h k target there = inl (h.1 k)
list_asked config n source old SettledSlot history h k target there = absurd h

place_asked : (config : Setup) (n : ℕ) (source : Source) (old : Old) (slot : Slot) (history : History) (place : ℕ) → IsOpen config n source old slot history → IsPlace source place → IsAskedAlong config.settings.retries (history place)
place_asked config n source old slot history place h (inl first) = subst (λ (p : ℕ). IsAskedAlong config.settings.retries (history p)) (sym first) (release_asked config n source old slot history h)
place_asked config n source old slot history place h (inr l) = subst (λ (p : ℕ). IsAskedAlong config.settings.retries (history p)) (sym l.is) (list_asked config n source old slot history h l.k l.target l.there)

source_asked : (config : Setup) (n : ℕ) (source : Source) (old : Old) (slot : Slot) (verdict : Verdict2) (history : History) (place : ℕ) → SourceStands config n source old slot verdict history → IsPlace source place
    → IsAskedAlong config.settings.retries (history place)
source_asked config n source old slot verdict history place (inl h) at = place_asked config n source old slot history place h at
source_asked config n source old slot verdict history place (inr h) at = place_asked config n source old h.1.slot history place h.1.open_slot at

own_key : (key : Key) (notes : List Note) → of_key (record { source = key.source; place = key.place }) notes ≡ of_key key notes
own_key key [] = refl
own_key key (note ∷ notes) = ap (λ (rest : List Note). if same_key note.key key then note ∷ rest else rest) (own_key key notes)

item_asked : BoardsStand → (config : Setup) (olds : List Old) (notes : List Note) (b : Board) → Reached config olds notes b → (key : Key) → IsItem config.sources key.source key.place → IsAskedAlong config.settings.retries (of_key key notes)
item_asked stand config olds notes b r key item =
    let all = reached-stands stand config olds notes b r in
    let old = olds-there config.sources olds key.source item.source r.each item.there in
    let at : StandsAt config key.source item.source old.0 (record { board = b; jobs = r.jobs; queue = []; notes = notes }) = all.sources key.source item.source old.0 item.there old.1 in
    subst (λ (ns : List Note). IsAskedAlong config.settings.retries ns) (own_key key notes)
    (source_asked config key.source item.source old.0 at.slot at.verdict (history_of key.source notes) key.place at.stands item.at)

-- ---- no ask was given up

pub none_is_dead : BoardsStand → (config : Setup) (olds : List Old) (notes : List Note) (b : Board) → Reached config olds notes b → NoneIsGivenUp config.settings.retries (entries_of notes)
    → NoneIsDead config.settings.retries notes
none_is_dead stand config olds notes b r few key = by (heard_item config.sources key notes known)
  where
    known : Each (IsKnown config.sources) notes
    known = (subst (AllKnown config) r.leads (run-known config r.events _ (record { config_is = refl; known = tt }))).known

    few_here : (uri : Uri) → faults_in uri (of_key key notes) ≤ config.settings.retries
    few_here uri =
        let all = few key.source uri in
        let own = few_of_key key uri notes in
        omega (arith, all, own)

    along : IsAskedAlong config.settings.retries (of_key key notes) → IsAnswered config.settings.retries config.settings.retries (of_key key notes)
    along (inl none) = subst (λ (ns : List Note). IsAnswered config.settings.retries config.settings.retries ns) (sym none) tt
    along (inr asks) =
        subst (λ (n : ℕ). IsAnswered config.settings.retries n (of_key key notes)) (left_start config.settings.retries asks.0)
        (answered_few config.settings.retries (start config.settings.retries asks.0) (of_key key notes) asks.1 few_here
        (fresh_left config.settings.retries (start config.settings.retries asks.0) (of_key key notes) (left_start config.settings.retries asks.0) few_here))

    by : (of_key key notes ≡ []) ⊎ IsItem config.sources key.source key.place → IsAnswered config.settings.retries config.settings.retries (of_key key notes)
    by (inl none) = along (inl none)
    by (inr item) = along (item_asked stand config olds notes b r key item)
