-- How many entries a route has.
use Rattle.std.proofs.Common.{◌≡◌, ◌≢◌, ℕ, zero, suc, ◌≤◌, ◌+◌, ◌*◌, List, [], ◌∷◌, ◌++◌, length, length-append, map, true, false, Option, Some, None, refl, sym, ap, ◌∙◌, subst, arith, option_and_then, codes, if◌then◌else◌, ◌&&◌, nat_lt}
use Rattle.std.specs.List.{flat_map}
use Rattle.std.specs.Option.{option_map_or}
use Rattle.std.proofs.lemmas.List.Sums.{sum_by-cons}
use Rattle.std.proofs.Common.{zero-le, mul-add}
use Rattle.acq_base.specs.declared.sum.Sum.{Sum}
use Rattle.acq_base.specs.declared.uri.Uri.{Uri}
use Rattle.pdiff_index.specs.declared.index.Step.{Step}
use Rattle.update_model.specs.declared.wanted.Wanted.{Wanted}
use Rattle.update_model.specs.declared.ask.Closed.{Closed}
use Rattle.update_model.specs.declared.ask.Closed.TheVariants.{Served, Not}
use Rattle.acq_base.specs.declared.fetch.NotServed.TheVariants.{Moved, Absent, TooBig, Garbled, Fault}
use Rattle.update_model.specs.declared.ask.Ending.{Ending}
use Rattle.update_model.specs.declared.ask.Ending.TheVariants as endings
use Rattle.update_model.specs.declared.end.End.{End}
use Rattle.update_model.specs.declared.end.End.TheVariants.{Got, Stands, Ended}
use Rattle.update_model.specs.declared.log.Asked.{Asked}
use Rattle.update_model.proofs.Routes.{no_moves}
use Rattle.update_model.specs.Files.{fitting, served}
use Rattle.update_model.specs.Laws.{ListRoute, ListsAskLittle, ReleasesAskLittle, SourcesAskLittle, links_in, links_of_lists, lists_entries}
use Rattle.update_model.specs.Obtained.{first_uri, list_cause}
use Rattle.update_model.specs.Points.{point_after}
use Rattle.update_model.specs.Reach.{On, Stop, Way, way}
use Rattle.update_model.specs.Releases.{release_end, release_limit}
use Rattle.update_model.specs.Trails.{Along, IsPosition, IsTrail, Leads, Position, LaneAnswer, Trail, entries, heard_of, less}
use Rattle.update_model.specs.Walks.{Finish, IsRoute, Try, Walk, after_in_release, candidates_walk, fitting_body, got_else, index_walk, list_ask, on_some, patches_walk, plain_walk, release_walk, resume_walk, target_walk, whole_ask}
use Rattle.update_model.specs.Wanted.{chain, edited_by, patch_uri}
use Rattle.std.specs.List.{AllByRecursion as Each}

abbrev rounds : ℕ → ℕ → ℕ
rounds zero k = k
rounds (suc n) k = k + rounds n k

-- at one URI there are at most `retries + 1` answers
position-few : (retries left : ℕ) (uri : Uri) (told : List LaneAnswer) (P : Way → Type 0) → IsPosition retries left uri told P → length told ≤ retries + 1
position-few retries left uri [] P h = omega arith
position-few retries left uri (t ∷ ts) P h = one t.closed retries h (λ n x. position-few n left uri ts P x)
  where
    last : (n : ℕ) → ts ≡ [] → length ts + 1 ≤ n + 1
    last n e = rw e (omega arith)

    one : (closed : Closed) (n : ℕ) → Leads left uri t.lane closed n (λ m. IsPosition m left uri ts P) (λ w. (ts ≡ []) × P w)
        → ((n : ℕ) → IsPosition n left uri ts P → length ts ≤ n + 1) → suc (length ts) ≤ n + 1
    one (Not (Fault from to)) zero h again = let e = last zero h.0 in omega arith
    one (Not (Fault from to)) (suc n) h again = let e = again n h in omega arith
    one (Served body) n h again = let e = last n h.0 in omega arith
    one (Not (Moved place)) n h again = let e = last n h.0 in omega arith
    one (Not (Absent status)) n h again = let e = last n h.0 in omega arith
    one (Not TooBig) n h again = let e = last n h.0 in omega arith
    one (Not (Garbled at)) n h again = let e = last n h.0 in omega arith

-- and they lead some way, which isn't on where no move is left
position-leads : (retries left : ℕ) (uri : Uri) (told : List LaneAnswer) (P : Way → Type 0) → IsPosition retries left uri told P
    → (w : Way) × ((left ≡ 0 → (to : Uri) → w ≢ On to) × P w)
position-leads retries left uri [] P h = absurd h
position-leads retries left uri (t ∷ ts) P h = one t.closed retries h (λ n x. position-leads n left uri ts P x)
  where
    stays : (closed : Closed) → left ≡ 0 → (to : Uri) → way left uri closed ≢ On to
    stays closed z to e = no_moves uri to closed (sym e ∙ ap (λ l. way l uri closed) z)

    one : (closed : Closed) (n : ℕ) → Leads left uri t.lane closed n (λ m. IsPosition m left uri ts P) (λ w. (ts ≡ []) × P w)
        → ((n : ℕ) → IsPosition n left uri ts P → (w : Way) × ((left ≡ 0 → (to : Uri) → w ≢ On to) × P w)) → (w : Way) × ((left ≡ 0 → (to : Uri) → w ≢ On to) × P w)
    one (Not (Fault from to)) zero h again = (Stop (endings.Dead t.lane from to), ((λ z to e. cc), h.1))
    one (Not (Fault from to)) (suc n) h again = again n h
    one (Served body) n h again = (way left uri (Served body), (stays (Served body), h.1))
    one (Not (Moved place)) n h again = (way left uri (Not (Moved place)), (stays (Not (Moved place)), h.1))
    one (Not (Absent status)) n h again = (way left uri (Not (Absent status)), (stays (Not (Absent status)), h.1))
    one (Not TooBig) n h again = (way left uri (Not TooBig), (stays (Not TooBig), h.1))
    one (Not (Garbled at)) n h again = (way left uri (Not (Garbled at)), (stays (Not (Garbled at)), h.1))

abbrev entries_at : ℕ → List ℕ → ℕ → List Position → List Asked
entries_at source path from =
    flat_map (λ position. map (λ told. record { source = source; path = path; uri = position.uri; from = from; lane = told.lane; heard = heard_of told.closed }) position.told)

length-mapped : {A B : Type 0} (f : A → B) (xs : List A) → length (map f xs) ≡ length xs
length-mapped f [] = refl
length-mapped f (x ∷ xs) = ap suc (length-mapped f xs)

trail-few : (source from : ℕ) (path : List ℕ) (retries left : ℕ) (uri : Uri) (ps : List Position) (end : Ending)
    → IsTrail retries left uri ps end → length (entries_at source path from ps) ≤ rounds left (retries + 1)
trail-few source from path retries left uri [] end t = absurd t
trail-few source from path retries left uri (p ∷ ps) end t =
    let P : Way → Type 0 = λ w. Along w (λ to. IsTrail retries (less left) to ps end) (λ e. (ps ≡ []) × (end ≡ e)) in
    let here : List Asked = map (λ (told : LaneAnswer). record { source = source; path = path; uri = p.uri; from = from; lane = told.lane; heard = heard_of told.closed }) p.told in
    let a : length p.told ≤ retries + 1 = position-few retries left uri p.told P t.1 in
    let b : length here ≡ length p.told = length-mapped _ p.told in
    let c : length (here ++ entries_at source path from ps) ≡ length here + length (entries_at source path from ps) = length-append here (entries_at source path from ps) in
    let led : (w : Way) × ((left ≡ 0 → (to : Uri) → w ≢ On to) × P w) = position-leads retries left uri p.told P t.1 in
    let d : retries + 1 + length (entries_at source path from ps) ≤ rounds left (retries + 1) =
    goes left led.0 led.1.0 led.1.1 (λ l to x. trail-few source from path retries l to ps end x) in
    omega arith
  where
    goes : (left : ℕ) (w : Way) → (left ≡ 0 → (to : Uri) → w ≢ On to) → Along w (λ to. IsTrail retries (less left) to ps end) (λ e. (ps ≡ []) × (end ≡ e))
        → ((l : ℕ) (to : Uri) → IsTrail retries l to ps end → length (entries_at source path from ps) ≤ rounds l (retries + 1))
        → retries + 1 + length (entries_at source path from ps) ≤ rounds left (retries + 1)
    goes zero (On to) n t rec = absurd (n refl to refl)
    goes zero (Stop ending) n t rec = rw t.0 (omega arith)
    goes (suc left) (On to) n t rec = let r = rec left to t in omega arith
    goes (suc left) (Stop ending) n t rec = rw t.0 (omega arith)

-- a walk of at most so many trails
abbrev IsWithin : Walk → ℕ → Type 0
IsWithin (Finish end) n = Unit {0}
IsWithin (Try ask next) zero = ⊥
IsWithin (Try ask next) (suc n) = (e : Ending) → IsWithin (next e) n

route-few : (source retries : ℕ) (path : List ℕ) (w : Walk) (n : ℕ) (trails : List Trail) (end : End)
    → IsWithin w n → IsRoute retries w trails end → length (entries source path trails) ≤ 11 * (retries + 1) * n
route-few source retries path (Finish last) n trails end i r = rw r.0 (omega arith)
route-few source retries path (Try ask next) n [] end i r = absurd r
route-few source retries path (Try ask next) zero (t ∷ trails) end i r = absurd i
route-few source retries path (Try ask next) (suc n) (t ∷ trails) end i r =
    let a : length (entries_at source path t.ask.from t.positions) ≤ rounds 10 (retries + 1) = trail-few source t.ask.from path retries 10 ask.uri t.positions t.ending r.1 in
    let b : length (entries source path trails) ≤ 11 * (retries + 1) * n = route-few source retries path (next t.ending) n trails end (i t.ending) r.2 in
    let c : length (entries_at source path t.ask.from t.positions ++ entries source path trails) ≡ length (entries_at source path t.ask.from t.positions) + length (entries source path trails) =
    length-append (entries_at source path t.ask.from t.positions) (entries source path trails) in
    grind (arith, a, b, c)

-- ---- how many trails each walk has

more : (w : Walk) (n : ℕ) → IsWithin w n → IsWithin w (suc n)
more (Finish end) n i = tt
more (Try ask next) zero i = absurd i
more (Try ask next) (suc n) i = λ e. more (next e) n (i e)

some-within : {A : Type 0} (o : Option A) (goes : A → Walk) (other : Walk) (n : ℕ) → ((x : A) → IsWithin (goes x) n) → IsWithin other n → IsWithin (on_some o goes other) n
some-within None goes other n g i = i
some-within (Some x) goes other n g i = g x

got-within : (w : Wanted) (e : Ending) (other : Walk) (n : ℕ) → IsWithin other n → IsWithin (got_else w e other) n
got-within w e other n i = some-within (fitting_body w.sum e) (λ body. Finish (Got body)) other n (λ body. tt) i

plain-within : (w : Wanted) (n : ℕ) → IsWithin (plain_walk w) (suc n)
plain-within w n = λ e. got-within w e (Finish (Ended (list_cause w e))) n tt

candidates-within : (w : Wanted) (o : Option Uri) → IsWithin (candidates_walk w o) 2
candidates-within w None = plain-within w 1
candidates-within w (Some uri) = λ e. got-within w e (plain_walk w) 1 (plain-within w 0)

resume-within : (w : Wanted) (part : ℕ) → IsWithin (resume_walk w part) 3
resume-within w part =
    elim (nat_lt 0 part && nat_lt part w.sum.size) as (λ b. IsWithin (if b then Try (list_ask (first_uri w w.hashed) w part) (λ e. got_else w e (candidates_walk w w.hashed)) else candidates_walk w w.hashed) 3) [
      | true ↦ λ e. got-within w e (candidates_walk w w.hashed) 2 (candidates-within w w.hashed)
      | false ↦ more (candidates_walk w w.hashed) 2 (candidates-within w w.hashed)
    ]

abbrev and_more : List Step → ℕ → ℕ
and_more [] n = n
and_more (point_after ∷ steps) n = suc (and_more steps n)

and-more : (steps : List Step) (n : ℕ) → and_more steps n ≡ length steps + n
and-more [] n = omega arith
and-more (point_after ∷ steps) n = let e = and-more steps n in omega arith

many : (w : Walk) (steps : List Step) (n : ℕ) → IsWithin w n → IsWithin w (and_more steps n)
many w [] n i = i
many w (point_after ∷ steps) n i = more w (and_more steps n) (many w steps n i)

patches-within : (w : Wanted) (other : Walk) (n : ℕ) → IsWithin other n → (steps : List Step) (file : List ℕ) → IsWithin (patches_walk w other steps file) (and_more steps n)
patches-within w other n i [] file = some-within (fitting w.sum (Some file)) (λ bytes. Finish _) other n (λ bytes. tt) i
patches-within w other n i (point_after ∷ steps) file =
    λ e. some-within (option_and_then (edited_by file) (fitting point_after.sum (served e))) (λ next. patches_walk w other steps next) other (and_more steps n)
    (λ next. patches-within w other n i steps next) (many other steps n i)

abbrev links_of : Option (List Step) → List Step
links_of None = []
links_of (Some steps) = steps

-- after the Index
linked-within : (w : Wanted) (other : Walk) (file : List ℕ) (o : Option (List Step)) → IsWithin other 3 → IsWithin (on_some o (λ steps. patches_walk w other steps file) other) (and_more (links_of o) 3)
linked-within w other file None i = i
linked-within w other file (Some steps) i = patches-within w other 3 i steps file

-- ---- the bounds

abbrev links_along : (List ℕ → Option (List Step)) → Option Sum → Ending → Option (List Step)
links_along chain i e = option_and_then (λ sum. option_and_then chain (fitting sum (served e))) i

count-links : (o : Option (List Step)) → option_map_or length o 0 ≡ length (links_of o)
count-links None = refl
count-links (Some steps) = refl

index-few : (w : Wanted) (file : List ℕ) (other : Walk) (retries source : ℕ) (path : List ℕ) (t : Trail) (trails : List Trail) (end : End) (i : Option Sum)
    → IsWithin other 3 → IsRoute retries (on_some i (λ sum. index_walk w other file sum) other) (t ∷ trails) end
    → length (entries source path (t ∷ trails)) ≤ 11 * (retries + 1) * (4 + option_map_or length (links_along (chain w file) i t.ending) 0)
index-few w file other retries source path t trails end None i r = route-few source retries path other 4 (t ∷ trails) end (more other 3 i) r
index-few w file other retries source path t trails end (Some sum) i r =
    let o : Option (List Step) = option_and_then (chain w file) (fitting sum (served t.ending)) in
    let a : length (entries source path (t ∷ trails)) ≤ 11 * (retries + 1) * suc (and_more (links_of o) 3) =
    route-few source retries path (Try (whole_ask (patch_uri w (codes "Index")) sum.size) (λ e. on_some o (λ steps. patches_walk w other steps file) other)) (suc (and_more (links_of o) 3)) (t ∷ trails) end
    (λ e. linked-within w other file o i) r in
    let b : suc (and_more (links_of o) 3) ≡ 4 + option_map_or length o 0 = let m = and-more (links_of o) 3 in let c = count-links o in omega arith in
    subst (λ n. length (entries source path (t ∷ trails)) ≤ 11 * (retries + 1) * n) b a

pub lists-few : ListsAskLittle
lists-few installed part w retries source path [] end r = zero-le
lists-few None part w retries source path (t ∷ trails) end r =
    route-few source retries path (resume_walk w part) 4 (t ∷ trails) end (more (resume_walk w part) 3 (resume-within w part)) r
lists-few (Some file) part w retries source path (t ∷ trails) end r =
    one (fitting w.sum (Some file)) r
  where
    one : (o : Option (List ℕ))
        → IsRoute retries (on_some o (λ bytes. Finish Stands) (on_some w.index (λ sum. index_walk w (resume_walk w part) file sum) (resume_walk w part))) (t ∷ trails) end
        → length (entries source path (t ∷ trails)) ≤ 11 * (retries + 1) * (4 + links_in (Some file) w (t ∷ trails))
    one None r = index-few w file (resume_walk w part) retries source path t trails end w.index (resume-within w part) r
    one (Some bytes) r = let e : t ∷ trails ≡ [] = r.0 in absurd cc

pub releases-few : ReleasesAskLittle
releases-few source retries n path trails end r = route-few n retries path (release_walk source) 2 trails end (λ e. one e) r
  where
    one : (e : Ending) → IsWithin (after_in_release e (Try (whole_ask source.release release_limit) (λ e. Finish (release_end e)))) 1
    one (endings.Served body) = tt
    one (endings.Dead lane from to) = tt
    one endings.TooBig = λ e. tt
    one (endings.Absent status) = λ e. tt
    one endings.Lost = λ e. tt
    one (endings.Garbled at) = λ e. tt

sums : (k a b x y z : ℕ) → z ≡ x + y → x ≤ k * a → y ≤ k * b → z ≤ k * (a + b)
sums k a b x y z e f g = let m : k * (a + b) ≡ k * a + k * b = mul-add k a b in omega arith

all-few : (retries n : ℕ) (lists : List ListRoute)
    → Each (λ l. (e : End) × IsRoute retries (target_walk l.installed l.part l.wanted) l.trails e) lists
    → length (lists_entries n lists) ≤ 11 * (retries + 1) * links_of_lists lists
all-few retries n [] h = zero-le
all-few retries n (l ∷ lists) h =
    let here : List Asked = entries n l.wanted.path l.trails in
    let a : length here ≤ 11 * (retries + 1) * (4 + links_in l.installed l.wanted l.trails) = lists-few l.installed l.part l.wanted retries n l.wanted.path l.trails h.0.0 h.0.1 in
    let b : length (lists_entries n lists) ≤ 11 * (retries + 1) * links_of_lists lists = all-few retries n lists h.1 in
    let c : length (here ++ lists_entries n lists) ≡ length here + length (lists_entries n lists) = length-append here (lists_entries n lists) in
    let d : links_of_lists (l ∷ lists) ≡ 4 + links_in l.installed l.wanted l.trails + links_of_lists lists =
    sum_by-cons (λ (l : ListRoute). 4 + links_in l.installed l.wanted l.trails) l lists in
    subst (λ k. length (here ++ lists_entries n lists) ≤ 11 * (retries + 1) * k) (sym d)
    (sums (11 * (retries + 1)) (4 + links_in l.installed l.wanted l.trails) (links_of_lists lists) (length here) (length (lists_entries n lists)) (length (here ++ lists_entries n lists)) c a b)

pub sources-few : SourcesAskLittle
sources-few source retries n path trails end lists r h =
    sums (11 * (retries + 1)) 2 (links_of_lists lists) (length (entries n path trails)) (length (lists_entries n lists)) (length (entries n path trails ++ lists_entries n lists))
    (length-append (entries n path trails) (lists_entries n lists)) (releases-few source retries n path trails end r) (all-few retries n lists h)
