-- A walk of few trails asks little.
use Rattle.std.proofs.Common.{◌≡◌, ◌≤◌, ℕ, zero, suc, ◌+◌, ◌*◌, Bool, true, false, List, [], ◌∷◌, length, Option, Some, None, refl, sym, subst, arith, mul-zero, mul-suc}
use Rattle.std.specs.Prelude.{if◌then◌else◌, option_and_then}
use Rattle.std.specs.List.{AllByRecursion as Each}
use Rattle.std.specs.Option.{option_map_or}
use Rattle.acq_base.specs.declared.plan.Source.{Source}
use Rattle.acq_base.specs.declared.sum.Sum.{Sum}
use Rattle.acq_base.specs.declared.uri.Uri.{Uri}
use Rattle.pdiff_index.specs.declared.index.Step.{Step}
use Rattle.update_model.specs.Files.{fitting, served}
use Rattle.update_model.specs.Obtained.{first_uri, is_resumed, list_cause}
use Rattle.update_model.specs.Points.{Point, Over, At, ran, start, point_after, lead}
use Rattle.update_model.specs.Reach.{On, Stop, may_move, moved}
use Rattle.update_model.specs.Releases.{release_end, release_limit}
use Rattle.update_model.specs.Trails.{LaneAnswer, Leads}
use Rattle.update_model.specs.Walks.{Walk, Finish, Try, after_in_release, candidates_walk, fitting_body, got_else, index_walk, list_ask, on_some, patched_walk, patches_walk, plain_walk, release_walk, resume_walk, target_walk, whole_ask}
use Rattle.update_model.specs.Wanted.{chain, edited_by}
use Rattle.update_model.specs.declared.wanted.Wanted.{Wanted}
use Rattle.update_model.specs.declared.ask.Ask.{Ask}
use Rattle.update_model.specs.declared.ask.Body.{Body}
use Rattle.update_model.specs.declared.ask.Body.TheVariants.{Bytes, Staged}
use Rattle.update_model.specs.declared.ask.Closed.{Closed}
use Rattle.update_model.specs.declared.ask.Closed.TheVariants.{Served, Not}
use Rattle.acq_base.specs.declared.fetch.NotServed.TheVariants.{Moved, Absent, TooBig, Garbled, Fault}
use Rattle.update_model.specs.declared.ask.Ending.{Ending}
use Rattle.update_model.specs.declared.ask.Ending.TheVariants as endings
use Rattle.update_model.specs.declared.end.End.{End}
use Rattle.update_model.specs.declared.end.End.TheVariants.{Got, Stands, Ended}
use Rattle.board_bounds.specs.Sources.{links_by}

-- ---- walks of few trails

-- the bytes that a trail ended with have this
abbrev EndsWith : (List ℕ → Type 0) → Ending → Type 0
EndsWith Q e = (bytes : List ℕ) → served e ≡ Some bytes → Q bytes

-- at most so many trails, where what comes has Q
abbrev pub IsBrief : (List ℕ → Type 0) → Walk → ℕ → Type 0
IsBrief Q (Finish end) n = Unit {0}
IsBrief Q (Try ask next) zero = ⊥
IsBrief Q (Try ask next) (suc n) = (e : Ending) → EndsWith Q e → IsBrief Q (next e) n

brief-more : (Q : List ℕ → Type 0) (walk : Walk) (n m : ℕ) → n ≤ m → IsBrief Q walk n → IsBrief Q walk m
brief-more Q (Finish end) n m below h = tt
brief-more Q (Try ask next) zero m below h = absurd h
brief-more Q (Try ask next) (suc n) zero below h = absurd (omega (arith, below))
brief-more Q (Try ask next) (suc n) (suc m) below h = λ e ends. brief-more Q (next e) n m (omega (arith, below)) (h e ends)

-- ---- how much such a walk asks

-- so many answers to one ask and what it moves to, and to so many trails
places_room : ℕ → ℕ → ℕ
places_room retries zero = 0
places_room retries (suc left) = (retries + 1) + places_room retries left

trails_room : ℕ → ℕ → ℕ
trails_room retries zero = 0
trails_room retries (suc n) = 11 * (retries + 1) + trails_room retries n

record HasTrails (Q : List ℕ → Type 0) (retries left faults : ℕ) (next : Ending → Walk) (most : ℕ) : Type 0 where
  trails : ℕ
  brief : (e : Ending) → EndsWith Q e → IsBrief Q (next e) trails
  room : (faults + 1) + places_room retries left + trails_room retries trails ≤ most

-- at most so many answers from a point on
abbrev HasRoom : (List ℕ → Type 0) → ℕ → Point → ℕ → Type 0
HasRoom Q retries (Over end) most = Unit {0}
HasRoom Q retries (At ask left faults next) most = HasTrails Q retries left faults next most

ten-moves : (retries : ℕ) → places_room retries 10 ≡ 10 * (retries + 1)
unfolding places_room
ten-moves retries = omega arith

start-room : (Q : List ℕ → Type 0) (retries : ℕ) (walk : Walk) (n most : ℕ) → IsBrief Q walk n → trails_room retries n ≤ most → HasRoom Q retries (start retries walk) most
unfolding trails_room
start-room Q retries (Finish end) n most brief room = tt
start-room Q retries (Try ask next) zero most brief room = absurd brief
start-room Q retries (Try ask next) (suc n) most brief room =
    let moves = ten-moves retries in
    record { trails = n; brief = brief; room = omega (arith, room, moves) }

-- what an answer brings has Q
abbrev pub Brings : (List ℕ → Type 0) → Closed → Type 0
Brings Q (Served (Bytes bytes)) = Q bytes
Brings Q other = Unit {0}

-- behind an ending
next-room : (Q : List ℕ → Type 0) (retries left faults most : ℕ) (next : Ending → Walk) (e : Ending) → HasTrails Q retries left faults next (suc most) → EndsWith Q e
    → HasRoom Q retries (start retries (next e)) most
next-room Q retries left faults most next e h ends = let room = h.room in start-room Q retries (next e) h.trails most (h.brief e ends) (omega (arith, room))

served-ends : (Q : List ℕ → Type 0) (body : Body) → Brings Q (Served body) → EndsWith Q (endings.Served body)
served-ends Q (Bytes bytes) brings other is = let same : bytes ≡ other = cc in subst Q same brings
served-ends Q (Staged sum) brings other is = absurd (cc)

moved-room : (Q : List ℕ → Type 0) (retries left faults most : ℕ) (ask : Ask) (next : Ending → Walk) (to : Uri) → HasTrails Q retries left faults next (suc most)
    → HasRoom Q retries (lead retries ask left next (moved left ask.uri to)) most
unfolding places_room
moved-room Q retries zero faults most ask next to h = next-room Q retries zero faults most next endings.Lost h (λ bytes is. absurd (cc))
moved-room Q retries (suc left) faults most ask next to h = one (may_move ask.uri.scheme to.scheme)
  where
    one : (c : Bool) → HasRoom Q retries (lead retries ask (suc left) next (if c then On to else Stop endings.Lost)) most
    one true = let room = h.room in record { trails = h.trails; brief = h.brief; room = omega (arith, room) }
    one false = next-room Q retries (suc left) faults most next endings.Lost h (λ bytes is. absurd (cc))

led-room : (Q : List ℕ → Type 0) (retries : ℕ) (ask : Ask) (left : ℕ) (next : Ending → Walk) (lane : ℕ) (closed : Closed) (faults most : ℕ) → Brings Q closed
    → HasTrails Q retries left faults next (suc most)
    → HasRoom Q retries (Leads left ask.uri lane closed faults (λ n. At ask left n next) (λ w. lead retries ask left next w)) most
led-room Q retries ask left next lane (Not (Fault before after)) zero most brings h = next-room Q retries left zero most next (endings.Dead lane before after) h (λ bytes is. absurd (cc))
led-room Q retries ask left next lane (Not (Fault before after)) (suc n) most brings h = let room = h.room in record { trails = h.trails; brief = h.brief; room = omega (arith, room) }
led-room Q retries ask left next lane (Served body) faults most brings h = next-room Q retries left faults most next (endings.Served body) h (served-ends Q body brings)
led-room Q retries ask left next lane (Not (Moved None)) faults most brings h = next-room Q retries left faults most next endings.Lost h (λ bytes is. absurd (cc))
led-room Q retries ask left next lane (Not (Moved (Some to))) faults most brings h = moved-room Q retries left faults most ask next to h
led-room Q retries ask left next lane (Not (Absent status)) faults most brings h = next-room Q retries left faults most next (endings.Absent status) h (λ bytes is. absurd (cc))
led-room Q retries ask left next lane (Not TooBig) faults most brings h = next-room Q retries left faults most next endings.TooBig h (λ bytes is. absurd (cc))
led-room Q retries ask left next lane (Not (Garbled place)) faults most brings h = next-room Q retries left faults most next (endings.Garbled place) h (λ bytes is. absurd (cc))

over-none : (retries source : ℕ) (path : List ℕ) (end : End) (ts : List LaneAnswer) → length (ran retries source path (Over end) ts) ≡ 0
over-none retries source path end [] = refl
over-none retries source path end (t ∷ ts) = over-none retries source path end ts

ran-few : (Q : List ℕ → Type 0) (retries source : ℕ) (path : List ℕ) (p : Point) (ts : List LaneAnswer) (most : ℕ) → HasRoom Q retries p most → Each (λ (t : LaneAnswer). Brings Q t.closed) ts
    → length (ran retries source path p ts) ≤ most
ran-few Q retries source path p [] most h brings = omega arith
ran-few Q retries source path (Over end) (t ∷ ts) most h brings = let none = over-none retries source path end ts in omega (arith, none)
ran-few Q retries source path (At ask left faults next) (t ∷ ts) zero h brings = let room = h.room in absurd (omega (arith, room))
ran-few Q retries source path (At ask left faults next) (t ∷ ts) (suc most) h brings =
    let rest = ran-few Q retries source path (point_after retries (At ask left faults next) t) ts most (led-room Q retries ask left next t.lane t.closed faults most brings.0 h) brings.1 in
    omega (arith, rest)

room-is : (retries n : ℕ) → trails_room retries n ≡ 11 * (retries + 1) * n
unfolding trails_room
room-is retries zero = sym (mul-zero (11 * (retries + 1)))
room-is retries (suc n) = let rest = room-is retries n in let more = mul-suc (11 * (retries + 1)) n in omega (arith, rest, more)

-- the answers along a walk of n trails
pub walk-few : (Q : List ℕ → Type 0) (retries source : ℕ) (path : List ℕ) (walk : Walk) (ts : List LaneAnswer) (n : ℕ) → IsBrief Q walk n → Each (λ (t : LaneAnswer). Brings Q t.closed) ts
    → length (ran retries source path (start retries walk) ts) ≤ 11 * (retries + 1) * n
walk-few Q retries source path walk ts n brief brings =
    let few = ran-few Q retries source path (start retries walk) ts (trails_room retries n) (start-room Q retries walk n (trails_room retries n) brief (omega arith)) brings in
    let is = room-is retries n in
    omega (arith, few, is)

-- ---- the walks of a source

pub release-brief : (Q : List ℕ → Type 0) (source : Source) → IsBrief Q (release_walk source) 2
release-brief Q source = λ e ends. one e
  where
    last : Walk
    last = Try (whole_ask source.release release_limit) (λ e. Finish (release_end e))

    last-brief : IsBrief Q last 1
    last-brief = λ e ends. tt

    one : (e : Ending) → IsBrief Q (after_in_release e last) 1
    one (endings.Served body) = tt
    one (endings.Dead lane before after) = tt
    one endings.TooBig = last-brief
    one (endings.Absent status) = last-brief
    one endings.Lost = last-brief
    one (endings.Garbled at) = last-brief

got-brief : (Q : List ℕ → Type 0) (w : Wanted) (e : Ending) (other : Walk) (n : ℕ) → IsBrief Q other n → IsBrief Q (got_else w e other) n
got-brief Q w e other n h = one (fitting_body w.sum e)
  where
    one : (o : Option Body) → IsBrief Q (on_some o (λ body. Finish (Got body)) other) n
    one None = h
    one (Some body) = tt

plain-brief : (Q : List ℕ → Type 0) (w : Wanted) (n : ℕ) → IsBrief Q (plain_walk w) (suc n)
plain-brief Q w n = λ e ends. got-brief Q w e (Finish (Ended (list_cause w e))) n tt

candidates-brief : (Q : List ℕ → Type 0) (w : Wanted) (hashed : Option Uri) (n : ℕ) → IsBrief Q (candidates_walk w hashed) (suc (suc n))
candidates-brief Q w None n = plain-brief Q w (suc n)
candidates-brief Q w (Some uri) n = λ e ends. got-brief Q w e (plain_walk w) (suc n) (plain-brief Q w n)

resume-brief : (Q : List ℕ → Type 0) (w : Wanted) (part : ℕ) → IsBrief Q (resume_walk w part) 3
resume-brief Q w part = one (is_resumed part w)
  where
    one : (c : Bool) → IsBrief Q (if c then Try (list_ask (first_uri w w.hashed) w part) (λ e. got_else w e (candidates_walk w w.hashed)) else candidates_walk w w.hashed) 3
    one true = λ e ends. got-brief Q w e (candidates_walk w w.hashed) 2 (candidates-brief Q w w.hashed 0)
    one false = candidates-brief Q w w.hashed 1

patches-brief : (Q : List ℕ → Type 0) (w : Wanted) (other : Walk) (steps : List Step) (file : List ℕ) (n : ℕ) → length steps ≤ n → ((m : ℕ) → 3 ≤ m → IsBrief Q other m) → IsBrief Q (patches_walk w other steps file) (n + 3)
patches-brief Q w other [] file n few h = one (fitting w.sum (Some file))
  where
    one : (o : Option (List ℕ)) → IsBrief Q (on_some o (λ bytes. Finish (Got (Bytes bytes))) other) (n + 3)
    one None = h (n + 3) (omega arith)
    one (Some bytes) = tt
patches-brief Q w other (point_after ∷ steps) file zero few h = absurd (omega (arith, few))
patches-brief Q w other (point_after ∷ steps) file (suc n) few h =
    let here : n + 3 ≤ n + 3 = omega arith in
    let count : suc (n + 3) ≡ suc n + 3 = omega arith in
    subst (IsBrief Q (patches_walk w other (point_after ∷ steps) file)) count
    (λ e ends. one e (λ next. patches-brief Q w other steps next n (omega (arith, few)) h) (option_and_then (edited_by file) (fitting point_after.sum (served e))))
  where
    one : (e : Ending) → ((next : List ℕ) → IsBrief Q (patches_walk w other steps next) (n + 3)) → (o : Option (List ℕ)) → IsBrief Q (on_some o (λ next. patches_walk w other steps next) other) (n + 3)
    one e rest None = h (n + 3) (omega arith)
    one e rest (Some next) = rest next

-- a patch Index leads by so few
LeadsBy : Wanted → List ℕ → Sum → ℕ → List ℕ → Type 0
LeadsBy w file sum most bytes = option_map_or length (option_and_then (chain w file) (fitting sum (Some bytes))) 0 ≤ most

index-brief : (Q : List ℕ → Type 0) (w : Wanted) (other : Walk) (file : List ℕ) (sum : Sum) (most : ℕ) → ((bytes : List ℕ) → Q bytes → LeadsBy w file sum most bytes) → ((m : ℕ) → 3 ≤ m → IsBrief Q other m)
    → IsBrief Q (index_walk w other file sum) (suc (most + 3))
unfolding LeadsBy
index-brief Q w other file sum most leads h = λ e ends. one e (served e) refl ends
  where
    two : (o : Option (List Step)) → option_map_or length o 0 ≤ most → IsBrief Q (on_some o (λ steps. patches_walk w other steps file) other) (most + 3)
    two None few = h (most + 3) (omega arith)
    two (Some steps) few = patches-brief Q w other steps file most few h

    one : (e : Ending) → (o : Option (List ℕ)) → served e ≡ o → ((bytes : List ℕ) → o ≡ Some bytes → Q bytes)
        → IsBrief Q (on_some (option_and_then (chain w file) (fitting sum o)) (λ steps. patches_walk w other steps file) other) (most + 3)
    one e None is ends = h (most + 3) (omega arith)
    one e (Some bytes) is ends = two (option_and_then (chain w file) (fitting sum (Some bytes))) (leads bytes (ends bytes refl))

-- what comes leads by no more than this
abbrev pub LinksWithin : Option (List ℕ) → Wanted → ℕ → List ℕ → Type 0
LinksWithin installed w most bytes = links_by installed w (Served (Bytes bytes)) ≤ most

patched-brief : (installed : Option (List ℕ)) (w : Wanted) (other : Walk) (most : ℕ) → ((m : ℕ) → 3 ≤ m → IsBrief (LinksWithin installed w most) other m)
    → IsBrief (LinksWithin installed w most) (patched_walk installed w other) (suc (most + 3))
unfolding LeadsBy
patched-brief None w other most h = h (suc (most + 3)) (omega arith)
patched-brief (Some file) w other most h = one w.index refl
  where
    one : (o : Option Sum) → w.index ≡ o → IsBrief (LinksWithin (Some file) w most) (on_some o (λ sum. index_walk w other file sum) other) (suc (most + 3))
    one None is = h (suc (most + 3)) (omega arith)
    one (Some sum) is =
        index-brief (LinksWithin (Some file) w most) w other file sum most
        (λ bytes few. subst (λ (o : Option Sum). option_map_or length (option_and_then (λ sum. option_and_then (chain w file) (fitting sum (Some bytes))) o) 0 ≤ most) is few) h

pub list-brief : (installed : Option (List ℕ)) (part : ℕ) (w : Wanted) (most : ℕ) → IsBrief (LinksWithin installed w most) (target_walk installed part w) (4 + most)
list-brief installed part w most = one (fitting w.sum installed)
  where
    patched : IsBrief (LinksWithin installed w most) (patched_walk installed w (resume_walk w part)) (4 + most)
    patched =
        brief-more (LinksWithin installed w most) (patched_walk installed w (resume_walk w part)) (suc (most + 3)) (4 + most) (omega arith)
        (patched-brief installed w (resume_walk w part) most (λ m above. brief-more (LinksWithin installed w most) (resume_walk w part) 3 m above (resume-brief (LinksWithin installed w most) w part)))

    one : (o : Option (List ℕ)) → IsBrief (LinksWithin installed w most) (on_some o (λ bytes. Finish Stands) (patched_walk installed w (resume_walk w part))) (4 + most)
    one None = patched
    one (Some bytes) = tt

-- the answers to a list
pub list-weighs : (retries source : ℕ) (path : List ℕ) (installed : Option (List ℕ)) (part : ℕ) (w : Wanted) (ts : List LaneAnswer) (most : ℕ)
    → Each (λ (t : LaneAnswer). links_by installed w t.closed ≤ most) ts
    → length (ran retries source path (start retries (target_walk installed part w)) ts) ≤ 11 * (retries + 1) * (4 + most)
list-weighs retries source path installed part w ts most few =
    walk-few (LinksWithin installed w most) retries source path (target_walk installed part w) ts (4 + most) (list-brief installed part w most) (all ts few)
  where
    one : (closed : Closed) → links_by installed w closed ≤ most → Brings (LinksWithin installed w most) closed
    one (Served (Bytes bytes)) h = h
    one (Served (Staged sum)) h = tt
    one (Not end) h = tt

    all : (ts : List LaneAnswer) → Each (λ (t : LaneAnswer). links_by installed w t.closed ≤ most) ts → Each (λ (t : LaneAnswer). Brings (LinksWithin installed w most) t.closed) ts
    all [] h = tt
    all (t ∷ ts) h = (one t.closed h.0, all ts h.1)
