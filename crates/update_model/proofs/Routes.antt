-- A route that agrees with a mirror ends as what is obtained.
use Rattle.std.proofs.Common.{◌≡◌, ℕ, zero, suc, List, [], ◌∷◌, ◌++◌, length, take, drop, map, Bool, true, false, Option, Some, None, refl, sym, ap, ◌∙◌, subst, arith, option_and_then, option_to_list, codes, if◌then◌else◌, ◌&&◌, nat_lt, nat_le}
use Rattle.std.proofs.Math.Seq.{take-length}
use Rattle.std.proofs.Common.{inl, inr, ◌⊎◌}
use Rattle.acq_base.specs.Sum.{sum_of}
use Rattle.acq_base.specs.declared.fetch.Answer.{Answer}
use Rattle.acq_base.specs.declared.fetch.Answer.TheVariants as answers
use Rattle.acq_base.specs.declared.plan.Source.{Source}
use Rattle.acq_base.specs.declared.sum.Sum.{Sum}
use Rattle.acq_base.specs.declared.uri.Uri.{Uri}
use Rattle.release_file.specs.Release.{same_sum}
use Rattle.pdiff_index.specs.declared.index.Step.{Step}
use Rattle.update_model.specs.declared.wanted.Wanted.{Wanted}
use Rattle.update_model.specs.declared.ask.Ask.{Ask}
use Rattle.update_model.specs.declared.ask.Body.TheVariants.{Bytes, Staged}
use Rattle.update_model.specs.declared.ask.Closed.{Closed}
use Rattle.update_model.specs.declared.ask.Closed.TheVariants.{Served, Not}
use Rattle.acq_base.specs.declared.fetch.NotServed.TheVariants.{Moved, Absent, TooBig, Garbled, Fault}
use Rattle.update_model.specs.declared.ask.Ending.{Ending}
use Rattle.update_model.specs.declared.ask.Ending.TheVariants as endings
use Rattle.update_model.specs.declared.end.End.{End}
use Rattle.update_model.specs.declared.end.End.TheVariants.{Got, Stands, Ended}
use Rattle.update_model.specs.Files.{fitting, served}
use Rattle.update_model.specs.Laws.{ListsEndAsObtained, ReleasesEndAsObtained, by_sum}
use Rattle.update_model.specs.Mirrored.{over, seen}
use Rattle.update_model.specs.Obtained.{◌>>=◌, edited_along, fetched, first_fitting, first_uri, got_or, list_cause, obtain, or_else, resumed, stands_or, with_rest}
use Rattle.update_model.specs.Points.{point_after}
use Rattle.update_model.specs.Reach.{On, Stop, Way, followed, may_move, reach, reach_by, way, within}
use Rattle.update_model.specs.Releases.{in_release_uri, obtain_release, release_end, release_limit, served_or}
use Rattle.update_model.specs.Trails.{Agrees, Along, HasAnswer, IsPosition, IsTrail, Leads, Lives, Position, IsFaultOr, LaneAnswer, Trail, answered, answers_or, body_for, less}
use Rattle.update_model.specs.Walks.{Finish, IsRoute, Try, Walk, after_in_release, candidates_walk, got_else, index_walk, list_ask, on_some, patches_walk, plain_walk, release_walk, resume_walk, target_walk, whole_ask}
use Rattle.update_model.specs.Wanted.{chain, edited_by, patch_uri, uris}
use Rattle.std.specs.List.{AllByRecursion as Each}
use Rattle.acq_base.specs.Mirror.{MirrorMap, answer_at}

-- ---- one trail

abbrev pub seen_way : List ℕ → Ask → Way → Way
seen_way part ask (On to) = On to
seen_way part ask (Stop e) = Stop (seen part ask e)

pub way-answered : (part : List ℕ) (ask : Ask) (left : ℕ) (uri : Uri) (a : Answer) → way left uri (answered part ask a) ≡ seen_way part ask (way left uri (within ask.max a))
way-answered part ask left uri (answers.Absent status) = refl
way-answered part ask left uri (answers.Moved None) = refl
way-answered part ask zero uri (answers.Moved (Some to)) = refl
way-answered part ask (suc left) uri (answers.Moved (Some to)) =
    elim (may_move uri.scheme to.scheme) as (λ b. (if b then On to else Stop endings.Lost) ≡ seen_way part ask (if b then On to else Stop endings.Lost)) [ true ↦ refl | false ↦ refl ]
way-answered part ask left uri (answers.Served bytes) =
    elim (nat_le (length bytes) ask.max) as (λ b.
    way left uri (if b then (if nat_lt 0 ask.from && nat_le (length bytes) ask.from then Not (Absent 416) else Served (body_for ask.stage (take ask.from part ++ drop ask.from bytes))) else Not TooBig)
    ≡ seen_way part ask (way left uri (if b then Served (Bytes bytes) else Not TooBig))) [
      | true ↦ elim (nat_lt 0 ask.from && nat_le (length bytes) ask.from) as (λ c.
          way left uri (if c then Not (Absent 416) else Served (body_for ask.stage (take ask.from part ++ drop ask.from bytes)))
          ≡ Stop (if c then endings.Absent 416 else endings.Served (body_for ask.stage (take ask.from part ++ drop ask.from bytes))))
          [ true ↦ refl | false ↦ refl ]
      | false ↦ refl
    ]

-- what the answers at a URI lead to is what the mirror's answer leads to
position-way : (retries left : ℕ) (uri : Uri) (told : List LaneAnswer) (P : Way → Type 0) (said : Closed)
    → IsPosition retries left uri told P → Each (λ t. IsFaultOr t.closed said) told → HasAnswer told → P (way left uri said)
position-way retries left uri [] P said h a l = absurd h
position-way retries left uri (t ∷ ts) P said h a l = one retries t.closed h a.0 l (λ n x m. position-way n left uri ts P said x a.1 m)
  where
    one : (n : ℕ) (closed : Closed)
        → Leads left uri t.lane closed n (λ m. IsPosition m left uri ts P) (λ w. (ts ≡ []) × P w)
        → IsFaultOr closed said → answers_or closed (HasAnswer ts)
        → ((n : ℕ) → IsPosition n left uri ts P → HasAnswer ts → P (way left uri said)) → P (way left uri said)
    one zero (Not (Fault from to)) h s l again = absurd (subst HasAnswer h.0 l)
    one (suc n) (Not (Fault from to)) h s l again = again n h l
    one n (Served body) h s l again = subst (λ c. P (way left uri c)) s h.1
    one n (Not (Moved place)) h s l again = subst (λ c. P (way left uri c)) s h.1
    one n (Not (Absent status)) h s l again = subst (λ c. P (way left uri c)) s h.1
    one n (Not TooBig) h s l again = subst (λ c. P (way left uri c)) s h.1
    one n (Not (Garbled at)) h s l again = subst (λ c. P (way left uri c)) s h.1

pub no_moves : (uri to : Uri) (c : Closed) → On to ≡ way zero uri c → ⊥
no_moves uri to (Served body) e = cc
no_moves uri to (Not (Moved None)) e = cc
no_moves uri to (Not (Moved (Some place))) e = cc
no_moves uri to (Not (Absent status)) e = cc
no_moves uri to (Not TooBig) e = cc
no_moves uri to (Not (Garbled at)) e = cc
no_moves uri to (Not (Fault from until)) e = cc

abbrev pub AgreesAt : MirrorMap → List ℕ → Ask → List Position → Type 0
AgreesAt world part ask = Each (λ p. Each (λ t. IsFaultOr t.closed (answered part ask (answer_at world p.uri))) p.told)

abbrev AllLive : List Position → Type 0
AllLive = Each (λ p. HasAnswer p.told)

goes-on : (world : MirrorMap) (part : List ℕ) (ask : Ask) (retries left : ℕ) (uri : Uri) (ps : List Position) (end : Ending) (w : Way)
    → w ≡ way left uri (within ask.max (answer_at world uri))
    → ((left : ℕ) (uri : Uri) → IsTrail retries left uri ps end → end ≡ seen part ask (reach_by left world uri ask.max))
    → Along (seen_way part ask w) (λ to. IsTrail retries (less left) to ps end) (λ e. (ps ≡ []) × (end ≡ e))
    → end ≡ seen part ask (reach_by left world uri ask.max)
goes-on world part ask retries zero uri ps end (On to) e rest t = absurd (no_moves uri to (within ask.max (answer_at world uri)) e)
goes-on world part ask retries zero uri ps end (Stop ending) e rest t = t.1 ∙ ap (λ w. seen part ask (followed w (λ to. endings.Lost))) e
goes-on world part ask retries (suc left) uri ps end (On to) e rest t = rest left to t ∙ ap (λ w. seen part ask (followed w (λ to. reach_by left world to ask.max))) e
goes-on world part ask retries (suc left) uri ps end (Stop ending) e rest t = t.1 ∙ ap (λ w. seen part ask (followed w (λ to. reach_by left world to ask.max))) e

trail-reach : (world : MirrorMap) (part : List ℕ) (ask : Ask) (retries left : ℕ) (uri : Uri) (ps : List Position) (end : Ending)
    → IsTrail retries left uri ps end → AgreesAt world part ask ps → AllLive ps → end ≡ seen part ask (reach_by left world uri ask.max)
trail-reach world part ask retries left uri [] end t a l = absurd t
trail-reach world part ask retries left uri (p ∷ ps) end t a l =
    let P : Way → Type 0 = λ w. Along w (λ to. IsTrail retries (less left) to ps end) (λ e. (ps ≡ []) × (end ≡ e)) in
    let led : P (way left uri (answered part ask (answer_at world uri))) =
    position-way retries left uri p.told P (answered part ask (answer_at world uri)) t.1
    (subst (λ u. Each (λ t. IsFaultOr t.closed (answered part ask (answer_at world u))) p.told) t.0 a.0) l.0 in
    goes-on world part ask retries left uri ps end (way left uri (within ask.max (answer_at world uri))) refl
    (λ left uri x. trail-reach world part ask retries left uri ps end x a.1 l.1)
    (subst P (way-answered part ask left uri (answer_at world uri)) led)

-- ---- one route

pub route-over : (world : MirrorMap) (part : List ℕ) (retries : ℕ) (w : Walk) (trails : List Trail) (end : End)
    → IsRoute retries w trails end → Agrees world part trails → Lives trails → end ≡ over world part w
route-over world part retries (Finish last) trails end r a l = r.1
route-over world part retries (Try ask next) [] end r a l = absurd r
route-over world part retries (Try ask next) (t ∷ trails) end r a l =
    let e : t.ending ≡ seen part ask (reach world ask.uri ask.max) =
    trail-reach world part ask retries 10 ask.uri t.positions t.ending r.1 (subst (λ k. AgreesAt world part k t.positions) r.0 a.0) l.0 in
    route-over world part retries (next (seen part ask (reach world ask.uri ask.max))) trails end (subst (λ x. IsRoute retries (next x) trails end) e r.2) a.1 l.1

-- ---- what is reached is known by its bytes

abbrev Plain : Ending → Type 0
Plain (endings.Served (Staged sum)) = ⊥
Plain (endings.Served (Bytes bytes)) = Unit {0}
Plain endings.TooBig = Unit {0}
Plain (endings.Absent status) = Unit {0}
Plain endings.Lost = Unit {0}
Plain (endings.Garbled at) = Unit {0}
Plain (endings.Dead lane from to) = Unit {0}

abbrev PlainWay : Way → Type 0
PlainWay (On to) = Unit {0}
PlainWay (Stop e) = Plain e

way-plain : (left : ℕ) (uri : Uri) (max : ℕ) (a : Answer) → PlainWay (way left uri (within max a))
way-plain left uri max (answers.Absent status) = tt
way-plain left uri max (answers.Moved None) = tt
way-plain zero uri max (answers.Moved (Some to)) = tt
way-plain (suc left) uri max (answers.Moved (Some to)) = elim (may_move uri.scheme to.scheme) as (λ b. PlainWay (if b then On to else Stop endings.Lost)) [ true ↦ tt | false ↦ tt ]
way-plain left uri max (answers.Served bytes) = elim (nat_le (length bytes) max) as (λ b. PlainWay (way left uri (if b then Served (Bytes bytes) else Not TooBig))) [ true ↦ tt | false ↦ tt ]

followed-plain : (w : Way) (there : Uri → Ending) → PlainWay w → ((to : Uri) → Plain (there to)) → Plain (followed w there)
followed-plain (On to) there p h = h to
followed-plain (Stop e) there p h = p

reach-plain : (left : ℕ) (world : MirrorMap) (uri : Uri) (max : ℕ) → Plain (reach_by left world uri max)
reach-plain zero world uri max = followed-plain (way zero uri (within max (answer_at world uri))) (λ to. endings.Lost) (way-plain zero uri max (answer_at world uri)) (λ to. tt)
reach-plain (suc left) world uri max = followed-plain (way (suc left) uri (within max (answer_at world uri))) (λ to. reach_by left world to max) (way-plain (suc left) uri max (answer_at world uri)) (λ to. reach-plain left world to max)

-- ---- asks of whole lists

-- a list's file, or what comes then
got-one : (world : MirrorMap) (part : List ℕ) (w : Wanted) (uri : Uri) (other : Walk) (x : Option (List ℕ)) (y : End) (e : Ending) → Plain e
    → by_sum (over world part other) ≡ by_sum (got_or x y)
    → by_sum (over world part (got_else w (seen part (list_ask uri w 0) e) other)) ≡ by_sum (got_or (or_else (fitting w.sum (served e)) x) y)
got-one world part w uri other x y (endings.Served (Bytes bytes)) p h =
    elim (same_sum (sum_of bytes) w.sum) as (λ b.
    by_sum (over world part (on_some (if b then Some (Staged (sum_of bytes)) else None) (λ body. Finish (Got body)) other))
    ≡ by_sum (got_or (or_else (if b then Some bytes else None) x) y)) [ true ↦ refl | false ↦ h ]
got-one world part w uri other x y (endings.Served (Staged sum)) p h = absurd p
got-one world part w uri other x y endings.TooBig p h = h
got-one world part w uri other x y (endings.Absent status) p h = h
got-one world part w uri other x y endings.Lost p h = h
got-one world part w uri other x y (endings.Garbled at) p h = h
got-one world part w uri other x y (endings.Dead lane from to) p h = h

cause-seen : (part : List ℕ) (w : Wanted) (uri : Uri) (e : Ending) → Plain e → list_cause w (seen part (list_ask uri w 0) e) ≡ list_cause w e
cause-seen part w uri (endings.Served (Bytes bytes)) p = refl
cause-seen part w uri (endings.Served (Staged sum)) p = absurd p
cause-seen part w uri endings.TooBig p = refl
cause-seen part w uri (endings.Absent status) p = refl
cause-seen part w uri endings.Lost p = refl
cause-seen part w uri (endings.Garbled at) p = refl
cause-seen part w uri (endings.Dead lane from to) p = refl

abbrev reached : MirrorMap → Wanted → Uri → Ending
reached world w uri = reach world uri w.sum.size

abbrev cause_end : MirrorMap → Wanted → End
cause_end world w = Ended (list_cause w (reached world w w.uri))

plain-law : (world : MirrorMap) (part : List ℕ) (w : Wanted)
    → by_sum (over world part (plain_walk w)) ≡ by_sum (got_or (first_fitting w.sum (served (reached world w w.uri) ∷ [])) (cause_end world w))
plain-law world part w =
    let e : Ending = reached world w w.uri in
    let p : Plain e = reach-plain 10 world w.uri w.sum.size in
    got-one world part w w.uri (Finish (Ended (list_cause w (seen part (list_ask w.uri w 0) e)))) None (cause_end world w) e p
    (ap (λ c. Ended c) (cause-seen part w w.uri e p))

candidates-law : (world : MirrorMap) (part : List ℕ) (w : Wanted) (o : Option Uri)
    → by_sum (over world part (candidates_walk w o))
    ≡ by_sum (got_or (first_fitting w.sum (map (λ uri. served (reached world w uri)) (option_to_list o ++ w.uri ∷ []))) (cause_end world w))
candidates-law world part w None = plain-law world part w
candidates-law world part w (Some uri) =
    got-one world part w uri (plain_walk w) (first_fitting w.sum (served (reached world w w.uri) ∷ [])) (cause_end world w)
    (reached world w uri) (reach-plain 10 world uri w.sum.size) (plain-law world part w)

-- ---- the rest of a partial file

order : (a b : ℕ) → ((nat_le a b ≡ true) × (nat_lt b a ≡ false)) ⊎ ((nat_le a b ≡ false) × (nat_lt b a ≡ true))
order a b = look (nat_le a b) refl
  where
    look : (c : Bool) → nat_le a b ≡ c → ((nat_le a b ≡ true) × (nat_lt b a ≡ false)) ⊎ ((nat_le a b ≡ false) × (nat_lt b a ≡ true))
    look true e = let f : nat_lt b a ≡ false = grind (arith, e) in inl (e, f)
    look false e = let f : nat_lt b a ≡ true = grind (arith, e) in inr (e, f)

rest-one : (world : MirrorMap) (part : List ℕ) (w : Wanted) (uri : Uri) (other : Walk) (x : Option (List ℕ)) (y : End) (e : Ending) → Plain e
    → nat_lt 0 (length part) ≡ true
    → by_sum (over world part other) ≡ by_sum (got_or x y)
    → by_sum (over world part (got_else w (seen part (list_ask uri w (length part)) e) other)) ≡ by_sum (got_or (or_else (fitting w.sum (option_and_then (with_rest part) (served e))) x) y)
rest-one world part w uri other x y (endings.Served (Bytes bytes)) p n h = elim (order (length bytes) (length part)) [ inl e ↦ short e.0 e.1 | inr e ↦ long e.0 e.1 ]
  where
    short : nat_le (length bytes) (length part) ≡ true → nat_lt (length part) (length bytes) ≡ false
        → by_sum (over world part (got_else w (seen part (list_ask uri w (length part)) (endings.Served (Bytes bytes))) other)) ≡ by_sum (got_or (or_else (fitting w.sum (with_rest part bytes)) x) y)
    short a b = rw (n, a, b) h

    long : nat_le (length bytes) (length part) ≡ false → nat_lt (length part) (length bytes) ≡ true
        → by_sum (over world part (got_else w (seen part (list_ask uri w (length part)) (endings.Served (Bytes bytes))) other)) ≡ by_sum (got_or (or_else (fitting w.sum (with_rest part bytes)) x) y)
    long a b =
        rw (n, a, b, take-length part)
        (elim (same_sum (sum_of (part ++ drop (length part) bytes)) w.sum) as (λ c.
        by_sum (over world part (on_some (if c then Some (Staged (sum_of (part ++ drop (length part) bytes))) else None) (λ body. Finish (Got body)) other))
        ≡ by_sum (got_or (or_else (if c then Some (part ++ drop (length part) bytes) else None) x) y)) [ true ↦ refl | false ↦ h ])
rest-one world part w uri other x y (endings.Served (Staged sum)) p n h = absurd p
rest-one world part w uri other x y endings.TooBig p n h = h
rest-one world part w uri other x y (endings.Absent status) p n h = h
rest-one world part w uri other x y endings.Lost p n h = h
rest-one world part w uri other x y (endings.Garbled at) p n h = h
rest-one world part w uri other x y (endings.Dead lane from to) p n h = h

abbrev rest_files : MirrorMap → List ℕ → Wanted → List (Option (List ℕ))
rest_files world part w = resumed world part w ∷ map (λ uri. served (reached world w uri)) (uris w)

resume-law : (world : MirrorMap) (part : List ℕ) (w : Wanted)
    → by_sum (over world part (resume_walk w (length part))) ≡ by_sum (got_or (first_fitting w.sum (rest_files world part w)) (cause_end world w))
resume-law world part w = at (nat_lt 0 (length part)) (nat_lt (length part) w.sum.size) refl
  where
    at : (a b : Bool) → nat_lt 0 (length part) ≡ a
        → by_sum (over world part (if a && b then Try (list_ask (first_uri w w.hashed) w (length part)) (λ e. got_else w e (candidates_walk w w.hashed)) else candidates_walk w w.hashed))
        ≡ by_sum (got_or (or_else (fitting w.sum (if a && b then option_and_then (with_rest part) (served (reach world (first_uri w w.hashed) w.sum.size)) else None))
        (first_fitting w.sum (map (λ uri. served (reached world w uri)) (uris w)))) (cause_end world w))
    at false b e = candidates-law world part w w.hashed
    at true false e = candidates-law world part w w.hashed
    at true true e =
        (rest-one world part w (first_uri w w.hashed) (candidates_walk w w.hashed) (first_fitting w.sum (map (λ uri. served (reached world w uri)) (uris w))) (cause_end world w)
        (reached world w (first_uri w w.hashed)) (reach-plain 10 world (first_uri w w.hashed) w.sum.size) e (candidates-law world part w w.hashed))

-- ---- patches

fit-twice : (sum : Sum) (bytes : List ℕ) → fitting sum (fitting sum (Some bytes)) ≡ fitting sum (Some bytes)
fit-twice sum bytes = look (same_sum (sum_of bytes) sum) refl
  where
    look : (c : Bool) → same_sum (sum_of bytes) sum ≡ c → fitting sum (fitting sum (Some bytes)) ≡ fitting sum (Some bytes)
    look true e = ap (λ c. fitting sum (if c then Some bytes else None)) e
    look false e = ap (λ c. fitting sum (if c then Some bytes else None)) e ∙ sym (ap (λ c. if c then Some bytes else None) e)

-- an Index or a patch comes whole
served-whole : (part : List ℕ) (uri : Uri) (max : ℕ) (e : Ending) → served (seen part (whole_ask uri max) e) ≡ served e
served-whole part uri max (endings.Served (Bytes bytes)) = refl
served-whole part uri max (endings.Served (Staged sum)) = refl
served-whole part uri max endings.TooBig = refl
served-whole part uri max (endings.Absent status) = refl
served-whole part uri max endings.Lost = refl
served-whole part uri max (endings.Garbled at) = refl
served-whole part uri max (endings.Dead lane from to) = refl

-- the last file, where it fits
abbrev last_fitting : Wanted → Option (List ℕ) → Option (List ℕ)
last_fitting w file = fitting w.sum (file >>= (λ last. fitting w.sum (Some last)))

patches-law : (world : MirrorMap) (part : List ℕ) (w : Wanted) (other : Walk) (x : Option (List ℕ)) (y : End) (steps : List Step) (file : List ℕ)
    → by_sum (over world part other) ≡ by_sum (got_or x y)
    → by_sum (over world part (patches_walk w other steps file)) ≡ by_sum (got_or (or_else (last_fitting w (edited_along world w steps file)) x) y)
patches-law world part w other x y [] file h = rw (fit-twice w.sum file) (one (fitting w.sum (Some file)))
  where
    one : (o : Option (List ℕ)) → by_sum (over world part (on_some o (λ bytes. Finish (Got (Bytes bytes))) other)) ≡ by_sum (got_or (or_else o x) y)
    one None = h
    one (Some bytes) = refl
patches-law world part w other x y (point_after ∷ steps) file h =
    ap (λ (b : Option (List ℕ)). by_sum (over world part (on_some (option_and_then (edited_by file) (fitting point_after.sum b)) (λ next. patches_walk w other steps next) other)))
    (served-whole part (patch_uri w point_after.name) point_after.sum.size (reach world (patch_uri w point_after.name) point_after.sum.size))
    ∙ one (fetched world (patch_uri w point_after.name) point_after.sum) (λ next. patches-law world part w other x y steps next h)
  where
    two : (o : Option (List ℕ))
        → ((next : List ℕ) → by_sum (over world part (patches_walk w other steps next)) ≡ by_sum (got_or (or_else (last_fitting w (edited_along world w steps next)) x) y))
        → by_sum (over world part (on_some o (λ next. patches_walk w other steps next) other))
        ≡ by_sum (got_or (or_else (last_fitting w (o >>= (λ next. edited_along world w steps next))) x) y)
    two None rest = h
    two (Some next) rest = rest next

    one : (o : Option (List ℕ))
        → ((next : List ℕ) → by_sum (over world part (patches_walk w other steps next)) ≡ by_sum (got_or (or_else (last_fitting w (edited_along world w steps next)) x) y))
        → by_sum (over world part (on_some (option_and_then (edited_by file) o) (λ next. patches_walk w other steps next) other))
        ≡ by_sum (got_or (or_else (last_fitting w (o >>= (λ patch. edited_by file patch >>= (λ next. edited_along world w steps next)))) x) y)
    one None rest = h
    one (Some patch) rest = two (edited_by file patch) rest

index-law : (world : MirrorMap) (part : List ℕ) (w : Wanted) (other : Walk) (x : Option (List ℕ)) (y : End) (file : List ℕ) (i : Option Sum)
    → by_sum (over world part other) ≡ by_sum (got_or x y)
    → by_sum (over world part (on_some i (λ sum. index_walk w other file sum) other))
    ≡ by_sum (got_or (or_else (fitting w.sum (i >>= (λ sum. fetched world (patch_uri w (codes "Index")) sum >>= (λ index. chain w file index >>= (λ steps. edited_along world w steps file >>= (λ last. fitting w.sum (Some last))))))) x) y)
index-law world part w other x y file None h = h
index-law world part w other x y file (Some sum) h =
    ap (λ (b : Option (List ℕ)). by_sum (over world part (on_some (option_and_then (chain w file) (fitting sum b)) (λ steps. patches_walk w other steps file) other)))
    (served-whole part (patch_uri w (codes "Index")) sum.size (reach world (patch_uri w (codes "Index")) sum.size))
    ∙ one (fetched world (patch_uri w (codes "Index")) sum)
  where
    two : (o : Option (List Step))
        → by_sum (over world part (on_some o (λ steps. patches_walk w other steps file) other))
        ≡ by_sum (got_or (or_else (fitting w.sum (o >>= (λ steps. edited_along world w steps file >>= (λ last. fitting w.sum (Some last))))) x) y)
    two None = h
    two (Some steps) = patches-law world part w other x y steps file h

    one : (o : Option (List ℕ))
        → by_sum (over world part (on_some (option_and_then (chain w file) o) (λ steps. patches_walk w other steps file) other))
        ≡ by_sum (got_or (or_else (fitting w.sum (o >>= (λ index. chain w file index >>= (λ steps. edited_along world w steps file >>= (λ last. fitting w.sum (Some last)))))) x) y)
    one None = h
    one (Some index) = two (chain w file index)

-- ---- a list and a Release

pub target-law : (world : MirrorMap) (installed : Option (List ℕ)) (part : List ℕ) (w : Wanted)
    → by_sum (over world part (target_walk installed (length part) w)) ≡ by_sum (obtain world installed part w)
target-law world None part w = resume-law world part w
target-law world (Some file) part w =
    one (fitting w.sum (Some file)) _ _
    (index-law world part w (resume_walk w (length part)) (first_fitting w.sum (rest_files world part w)) (cause_end world w) file w.index (resume-law world part w))
  where
    one : (o : Option (List ℕ)) (walk : Walk) (y : End) → by_sum (over world part walk) ≡ by_sum y → by_sum (over world part (on_some o (λ b. Finish Stands) walk)) ≡ by_sum (stands_or o y)
    one None walk y h = h
    one (Some b) walk y h = refl

pub lists-end : ListsEndAsObtained
lists-end world installed part w retries trails end r a l =
    ap by_sum (route-over world part retries (target_walk installed (length part) w) trails end r a l) ∙ target-law world installed part w

release-seen : (uri : Uri) (e : Ending) → Plain e → release_end (seen [] (whole_ask uri release_limit) e) ≡ release_end e
release-seen uri (endings.Served (Bytes bytes)) p = refl
release-seen uri (endings.Served (Staged sum)) p = absurd p
release-seen uri endings.TooBig p = refl
release-seen uri (endings.Absent status) p = refl
release-seen uri endings.Lost p = refl
release-seen uri (endings.Garbled at) p = refl
release-seen uri (endings.Dead lane from to) p = refl

-- nothing that is reached is dead
abbrev Undead : Ending → Type 0
Undead (endings.Dead lane from to) = ⊥
Undead e = Unit {0}

abbrev UndeadWay : Way → Type 0
UndeadWay (On to) = Unit {0}
UndeadWay (Stop e) = Undead e

way-undead : (left : ℕ) (uri : Uri) (c : Closed) → UndeadWay (way left uri c)
way-undead left uri (Served body) = tt
way-undead left uri (Not (Moved None)) = tt
way-undead zero uri (Not (Moved (Some to))) = tt
way-undead (suc left) uri (Not (Moved (Some to))) = elim (may_move uri.scheme to.scheme) as (λ b. UndeadWay (if b then On to else Stop endings.Lost)) [ true ↦ tt | false ↦ tt ]
way-undead left uri (Not (Absent status)) = tt
way-undead left uri (Not TooBig) = tt
way-undead left uri (Not (Garbled at)) = tt
way-undead left uri (Not (Fault from to)) = tt

followed-undead : (w : Way) (there : Uri → Ending) → UndeadWay w → ((to : Uri) → Undead (there to)) → Undead (followed w there)
followed-undead (On to) there p h = h to
followed-undead (Stop e) there p h = p

reach-undead : (left : ℕ) (world : MirrorMap) (uri : Uri) (max : ℕ) → Undead (reach_by left world uri max)
reach-undead zero world uri max = followed-undead (way zero uri (within max (answer_at world uri))) (λ to. endings.Lost) (way-undead zero uri (within max (answer_at world uri))) (λ to. tt)
reach-undead (suc left) world uri max = followed-undead (way (suc left) uri (within max (answer_at world uri))) (λ to. reach_by left world to max) (way-undead (suc left) uri (within max (answer_at world uri))) (λ to. reach-undead left world to max)

pub release-law : (world : MirrorMap) (source : Source) → over world [] (release_walk source) ≡ obtain_release world source
release-law world source =
    one (reach world (in_release_uri source) release_limit) (reach-plain 10 world (in_release_uri source) release_limit) (reach-undead 10 world (in_release_uri source) release_limit)
  where
    second : release_end (seen [] (whole_ask source.release release_limit) (reach world source.release release_limit)) ≡ release_end (reach world source.release release_limit)
    second = release-seen source.release (reach world source.release release_limit) (reach-plain 10 world source.release release_limit)

    one : (e : Ending) → Plain e → Undead e
        → over world [] (after_in_release (seen [] (whole_ask (in_release_uri source) release_limit) e) (Try (whole_ask source.release release_limit) (λ e. Finish (release_end e))))
        ≡ release_end (served_or e (reach world source.release release_limit))
    one (endings.Served (Bytes bytes)) p u = refl
    one (endings.Served (Staged sum)) p u = absurd p
    one endings.TooBig p u = second
    one (endings.Absent status) p u = second
    one endings.Lost p u = second
    one (endings.Garbled at) p u = second
    one (endings.Dead lane from to) p u = absurd u

pub releases-end : ReleasesEndAsObtained
releases-end world source retries trails end r a l = route-over world [] retries (release_walk source) trails end r a l ∙ release-law world source
