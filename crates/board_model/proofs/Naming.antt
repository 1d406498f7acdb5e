-- The use of a partial file under a name that is one list's alone.
use Rattle.std.proofs.Common.{◌≡◌, ◌≢◌, ◌<◌, ◌∙◌, ℕ, zero, suc, ◌+◌, Bool, true, false, List, [], ◌∷◌, ◌++◌, AllPairs, length, map, Option, Some, None, refl, sym, ap, subst, arith}
use Rattle.std.specs.Prelude.{bytes_eq, if◌then◌else◌, option_map, slice_get, Result, Ok, Err}
use Rattle.std.specs.List.{flat_map, slice_index_or, AllByRecursion as Each}
use Rattle.std.proofs.lemmas.Slice.Eq.{bytes_eq-Decides}
use Rattle.acq_base.specs.Plan.{names_of}
use Rattle.acq_base.specs.declared.plan.Source.{Source}
use Rattle.acq_base.specs.declared.plan.Target.{Target}
use Rattle.acq_base.specs.declared.uri.ListName.{ListName}
use Rattle.host_queues.specs.Lanes.{changed_at}
use Rattle.host_queues.proofs.Changes.{get-changed}
use Rattle.item_graph.specs.Refinement.{asked}
use Rattle.update_model.specs.Outcomes.{AdmittedRelease, Staying, all_had}
use Rattle.update_model.specs.Points.{Point, Over, At}
use Rattle.update_model.specs.declared.ask.Ask.{Ask}
use Rattle.update_model.specs.declared.ask.Body.{Body}
use Rattle.update_model.specs.declared.ask.Body.TheVariants.{Bytes, Staged}
use Rattle.update_model.specs.declared.end.End.{End}
use Rattle.update_model.specs.declared.end.End.TheVariants.{Got, Stands, Ended}
use Rattle.update_model.specs.declared.settled.Settled.{Settled}
use Rattle.update_model.proofs.Carried.{behind-distinct}
use Rattle.update_model.proofs.Existence.{front-distinct}
use Rattle.board_model.specs.Keys.{name_at}
use Rattle.board_model.specs.NameLaws.{RestsOn, SettledPutsAreWanted, SettledSourcesFree, StagedAsksAreWanted}
use Rattle.board_model.specs.Settling.{end_in, end_of, ends_in, put_of, puts_of, settled_in, settled_lists}
use Rattle.board_model.specs.Slots.{Standing, Slot, Asking, Listing, Refused, SettledSlot, ask_of, item_in, joined}
use Rattle.board_model.specs.Uses.{WantedPart, Whole, or_use, wanted_part, use_among, use_at, use_by, use_from, use_in, use_under, use_while}
use Rattle.board_model.proofs.Askers.{Asks, asker-asks}
use Rattle.board_model.proofs.Making.{get-name}
use Rattle.board_model.proofs.Places.{bound}

-- ---- names apart

at-front : (xs ys : List (List ℕ)) (i : ℕ) (d : List ℕ) → i < length xs → slice_index_or (xs ++ ys) i d ≡ slice_index_or xs i d
at-front [] ys i d below = absurd (omega (arith, below))
at-front (x ∷ xs) ys zero d below = refl
at-front (x ∷ xs) ys (suc i) d below = at-front xs ys i d (omega (arith, below))

at-back : (xs ys : List (List ℕ)) (j : ℕ) (d : List ℕ) → slice_index_or (xs ++ ys) (length xs + j) d ≡ slice_index_or ys j d
at-back [] ys j d = ap (λ (k : ℕ). slice_index_or ys k d) (omega arith)
at-back (x ∷ xs) ys j d =
    let at : length (x ∷ xs) + j ≡ suc (length xs + j) = omega arith in
    ap (λ (k : ℕ). slice_index_or ((x ∷ xs) ++ ys) k d) at ∙ at-back xs ys j d

both-length : (xs ys : List (List ℕ)) → length (xs ++ ys) ≡ length xs + length ys
both-length [] ys = omega arith
both-length (x ∷ xs) ys = let rest = both-length xs ys in omega (arith, rest)

apart-across : (xs ys : List (List ℕ)) (i j : ℕ) (d : List ℕ) → AllPairs (λ a b. a ≢ b) (xs ++ ys) → i < length xs → j < length ys → slice_index_or xs i d ≢ slice_index_or ys j d
apart-across xs ys i j d h below there same =
    let many = both-length xs ys in
    h i (length xs + j) d (omega (arith, below)) (omega (arith, many, there)) (at-front xs ys i d below ∙ same ∙ sym (at-back xs ys j d))

-- the name of a target stands among those of its plan
name-among : (sources : List Source) (n k : ℕ) (source : Source) (target : Target) → slice_get sources n ≡ Some source → slice_get source.targets k ≡ Some target
    → (j : ℕ) × (j < length (flat_map names_of sources)) × (slice_index_or (flat_map names_of sources) j [] ≡ target.name.0)
name-among [] n k source target s t = absurd (cc)
name-among (x ∷ sources) zero k source target s t =
    let same : x ≡ source = cc in
    let at = get-name x.targets k target [] (subst (λ (y : Source). slice_get y.targets k ≡ Some target) (sym same) t) in
    let fits = at.0 in
    let many = both-length (names_of x) (flat_map names_of sources) in
    let here : suc k < length (names_of x) = omega (arith, fits) in
    (suc k, omega (arith, many, here), at-front (names_of x) (flat_map names_of sources) (suc k) [] here ∙ at.1)
name-among (x ∷ sources) (suc n) k source target s t =
    let rest = name-among sources n k source target s t in
    let fits = rest.1 in
    let many = both-length (names_of x) (flat_map names_of sources) in
    (length (names_of x) + rest.0, omega (arith, many, fits), at-back (names_of x) (flat_map names_of sources) rest.0 [] ∙ rest.2)

-- ---- among the lists of a source

among-none : (sizes : List ℕ → ℕ) (slot : Slot) (place : ℕ) (targets : List Target) (name : List ℕ) → ((k : ℕ) (t : Target) → slice_get targets k ≡ Some t → t.name.0 ≢ name)
    → use_among sizes slot place targets name ≡ None
among-none sizes slot place [] name other = refl
among-none sizes slot place (t ∷ targets) name other = one (bytes_eq t.name.0 name) refl (among-none sizes slot (suc place) targets name (λ k x e. other (suc k) x e))
  where
    one : (c : Bool) → bytes_eq t.name.0 name ≡ c → use_among sizes slot (suc place) targets name ≡ None
        → (if c then Some (use_in (sizes name) place slot) else use_among sizes slot (suc place) targets name) ≡ None
    one true is rest = absurd (other 0 t refl ((bytes_eq-Decides t.name.0 name).0 is))
    one false is rest = rest

among-at : (sizes : List ℕ → ℕ) (slot : Slot) (place : ℕ) (targets : List Target) (name : List ℕ) (k : ℕ) (target : Target) → AllPairs (λ a b. a ≢ b) (map (λ (t : Target). t.name.0) targets)
    → slice_get targets k ≡ Some target → target.name.0 ≡ name → use_among sizes slot place targets name ≡ Some (use_in (sizes name) (place + k) slot)
among-at sizes slot place [] name k target apart there is = absurd (cc)
among-at sizes slot place (t ∷ targets) name zero target apart there is =
    let same : t ≡ target = cc in
    let found : bytes_eq t.name.0 name ≡ true = (bytes_eq-Decides t.name.0 name).1 (ap (λ (x : Target). x.name.0) same ∙ is) in
    rw found (ap (λ (p : ℕ). Some (use_in (sizes name) p slot)) (omega arith))
among-at sizes slot place (t ∷ targets) name (suc k) target apart there is =
    one (bytes_eq t.name.0 name) refl (among-at sizes slot (suc place) targets name k target (behind-distinct (t.name.0 ∷ []) (map (λ (x : Target). x.name.0) targets) apart) there is)
  where
    one : (c : Bool) → bytes_eq t.name.0 name ≡ c → use_among sizes slot (suc place) targets name ≡ Some (use_in (sizes name) (suc place + k) slot)
        → (if c then Some (use_in (sizes name) place slot) else use_among sizes slot (suc place) targets name) ≡ Some (use_in (sizes name) (place + suc k) slot)
    one true found rest =
        let at = get-name targets k target [] there in
        let fits = at.0 in
        absurd (apart 0 (suc k) [] (omega arith) (omega (arith, fits)) ((bytes_eq-Decides t.name.0 name).0 found ∙ sym is ∙ sym at.1))
    one false found rest = rest ∙ ap (λ (p : ℕ). Some (use_in (sizes name) p slot)) (omega arith)

-- ---- among the sources

under-at : (sizes : List ℕ → ℕ) (sources : List Source) (slots : List Slot) (name : List ℕ) (n k : ℕ) (source : Source) (slot : Slot) (target : Target)
    → AllPairs (λ a b. a ≢ b) (flat_map names_of sources) → slice_get sources n ≡ Some source → slice_get slots n ≡ Some slot → slice_get source.targets k ≡ Some target → target.name.0 ≡ name
    → use_under sizes sources slots name ≡ use_in (sizes name) k slot
under-at sizes [] slots name n k source slot target apart s l t is = absurd (cc)
under-at sizes (x ∷ sources) [] name n k source slot target apart s l t is = absurd (cc)
under-at sizes (x ∷ sources) (y ∷ slots) name zero k source slot target apart s l t is =
    let source_same : x ≡ source = cc in
    let slot_same : y ≡ slot = cc in
    let own : AllPairs (λ a b. a ≢ b) (names_of x) = front-distinct (names_of x) (flat_map names_of sources) apart in
    let there : slice_get x.targets k ≡ Some target = subst (λ (z : Source). slice_get z.targets k ≡ Some target) (sym source_same) t in
    let found = among-at sizes y 0 x.targets name k target (behind-distinct (x.release_name.0 ∷ []) (map (λ (z : Target). z.name.0) x.targets) own) there is in
    ap (λ (o : Option WantedPart). or_use o (use_under sizes sources slots name)) found
    ∙ ap (λ (p : ℕ). use_in (sizes name) p y) (omega arith) ∙ ap (use_in (sizes name) k) slot_same
under-at sizes (x ∷ sources) (y ∷ slots) name (suc n) k source slot target apart s l t is =
    let among = name-among sources n k source target s t in
    let none = among-none sizes y 0 x.targets name (λ i z e same.
    let at = get-name x.targets i z [] e in
    let fits = at.0 in
    apart-across (names_of x) (flat_map names_of sources) (suc i) among.0 [] apart (omega (arith, fits)) among.1 (at.1 ∙ same ∙ sym is ∙ sym among.2)) in
    ap (λ (o : Option WantedPart). or_use o (use_under sizes sources slots name)) none
    ∙ under-at sizes sources slots name n k source slot target (behind-distinct (names_of x) (flat_map names_of sources) apart) s l t is

-- ---- what a staged ask goes on behind

asked-use : (size : ℕ) (o : Option Standing) (ask : Ask) → ask_of o ≡ Some ask → use_by size o ≡ use_while size ask
asked-use size None ask e = absurd (cc)
asked-use size (Some item) ask e = one item.point e
  where
    one : (p : Point) → asked p ≡ Some ask → use_at size p ≡ use_while size ask
    one (Over end) e = absurd (cc)
    one (At here left retries next) e = let same : here ≡ ask = cc in ap (use_while size) same

slot-use : (size k : ℕ) (slot : Slot) (ask : Ask) → ask_of (item_in slot (suc k)) ≡ Some ask → use_in size k slot ≡ use_while size ask
slot-use size k (Asking old release) ask e = absurd (cc)
slot-use size k (Listing set there lists) ask e = asked-use size (joined (slice_get lists k)) ask e
slot-use size k (Refused why) ask e = absurd (cc)
slot-use size k SettledSlot ask e = absurd (cc)

pub staged-rest : StagedAsksAreWanted
staged-rest b number a name apart is stage named = one a.key.place asks.asks named
  where
    asks : Asks b number a
    asks = asker-asks b number a is

    one : (place : ℕ) → ask_of (item_in asks.slot place) ≡ Some a.ask → name_at a.source place ≡ Some name → wanted_part b name.0 ≡ use_from a.ask.from
    one zero asked named = absurd (cc)
    one (suc k) asked named = two (slice_get a.source.targets k) refl named
      where
        two : (o : Option Target) → slice_get a.source.targets k ≡ o → option_map (λ (target : Target). target.name) o ≡ Some name → wanted_part b name.0 ≡ use_from a.ask.from
        two None there e = absurd (cc)
        two (Some target) there e =
            let same : target.name ≡ name = cc in
            under-at b.config.sizes b.config.sources b.slots name.0 a.key.source k a.source asks.slot target apart asks.source_is asks.slot_is there (ap (λ (x : ListName). x.0) same)
            ∙ slot-use (b.config.sizes name.0) k asks.slot a.ask asked ∙ rw stage refl

-- ---- what is put

-- each put is of a list that has ended so
puts-each : (P : ListName × Body → Type 0) (targets : List Target) (lists : List (Option Standing))
    → ((k : ℕ) (target : Target) (list : Option Standing) (body : Body) → slice_get targets k ≡ Some target → slice_get lists k ≡ Some list → end_in list ≡ Some (Got body) → P (target.name, body))
    → Each P (puts_of targets lists)
puts-each P [] lists h = tt
puts-each P (t ∷ targets) [] h = tt
puts-each P (t ∷ targets) (list ∷ lists) h = one (end_in list) refl (puts-each P targets lists (λ k target l body there is got. h (suc k) target l body there is got))
  where
    one : (o : Option End) → end_in list ≡ o → Each P (puts_of targets lists) → Each P (put_of t o ++ puts_of targets lists)
    one None is rest = rest
    one (Some Stands) is rest = rest
    one (Some (Ended cause)) is rest = rest
    one (Some (Got body)) is rest = (h 0 t list body refl refl is, rest)

got-use : (size : ℕ) (list : Option Standing) (body : Body) → end_in list ≡ Some (Got body) → (sum : _) → body ≡ Staged sum → use_by size list ≡ Whole sum
got-use size None body e sum is = absurd (cc)
got-use size (Some item) body e sum is = one item.point e
  where
    one : (p : Point) → end_of p ≡ Some (Got body) → use_at size p ≡ Whole sum
    one (At ask left retries next) e = absurd (cc)
    one (Over end) e =
        let same : end ≡ Got (Staged sum) = let here : end ≡ Got body = cc in here ∙ ap Got is in
        ap (λ (x : End). use_at size (Over x)) same

pub puts-rest : SettledPutsAreWanted
puts-rest b n settled apart is =
    let p = bound (slice_get b.config.sources n) _ settled is in
    let q = bound (slice_get b.slots n) _ settled p.2 in
    one p.0 q.0 p.1 q.1 q.2
  where
    listing : (source : Source) (set : AdmittedRelease) (there : Bool) (lists : List (Option Standing)) → slice_get b.config.sources n ≡ Some source → slice_get b.slots n ≡ Some (Listing set there lists)
        → (had_all : Result (Unit {0}) Staying) → settled_lists source set there lists had_all ≡ settled → Each (RestsOn (wanted_part b)) settled.puts
    listing source set there lists s l (Err why) e = subst (λ (x : Settled). Each (RestsOn (wanted_part b)) x.puts) e tt
    listing source set true lists s l (Ok u) e = subst (λ (x : Settled). Each (RestsOn (wanted_part b)) x.puts) e tt
    listing source set false lists s l (Ok u) e =
        subst (λ (x : Settled). Each (RestsOn (wanted_part b)) x.puts) e
        (puts-each (RestsOn (wanted_part b)) source.targets lists (λ k target list body t list_is got. two k target list body t list_is got))
      where
        two : (k : ℕ) (target : Target) (list : Option Standing) (body : Body) → slice_get source.targets k ≡ Some target → slice_get lists k ≡ Some list → end_in list ≡ Some (Got body) → RestsOn (wanted_part b) (target.name, body)
        two k target list (Bytes bytes) t list_is got = tt
        two k target list (Staged sum) t list_is got =
            under-at b.config.sizes b.config.sources b.slots target.name.0 n k source (Listing set false lists) target apart s l t refl
            ∙ ap (λ (o : Option (Option Standing)). use_by (b.config.sizes target.name.0) (joined o)) list_is
            ∙ got-use (b.config.sizes target.name.0) list (Staged sum) got sum refl

    one : (source : Source) (slot : Slot) → slice_get b.config.sources n ≡ Some source → slice_get b.slots n ≡ Some slot → settled_in source slot ≡ Some settled → Each (RestsOn (wanted_part b)) settled.puts
    one source (Asking old release) s l e = absurd (cc)
    one source (Listing set there lists) s l e =
        let came : settled_lists source set there lists (all_had (ends_in lists)) ≡ settled = cc in
        listing source set there lists s l (all_had (ends_in lists)) came
    one source (Refused why) s l e = subst (λ (x : Option Settled). Each (RestsOn (wanted_part b)) (puts_in x)) e tt
      where
        puts_in : Option Settled → List (ListName × Body)
        puts_in None = []
        puts_in (Some x) = x.puts
    one source SettledSlot s l e = absurd (cc)

pub sources-free : SettledSourcesFree
sources-free b n k source target settled verdict apart is s t =
    let p = bound (slice_get b.config.sources n) _ settled is in
    let q = bound (slice_get b.slots n) _ settled p.2 in
    let closed : slice_get (changed_at n (λ slot. SettledSlot) b.slots) n ≡ Some SettledSlot = get-changed (λ (slot : Slot). SettledSlot) b.slots n ∙ ap (option_map (λ (slot : Slot). SettledSlot)) q.1 in
    under-at b.config.sizes b.config.sources (changed_at n (λ slot. SettledSlot) b.slots) target.name.0 n k source SettledSlot target apart s closed t refl
