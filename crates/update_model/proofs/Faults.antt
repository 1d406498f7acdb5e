-- Routes that agree with a mirror, in which methods may have failed.
use Rattle.std.proofs.Common.{◌≡◌, ◌⊎◌, inl, inr, ℕ, zero, suc, true, false, List, [], ◌∷◌, length, Option, Some, None, refl, sym, ap, ◌∙◌, subst, option_and_then, codes, if◌then◌else◌}
use Rattle.std.specs.List.{AllByRecursion as Each}
use Rattle.acq_base.specs.Mirror.{MirrorMap, answer_at}
use Rattle.acq_base.specs.declared.sum.Sum.{Sum}
use Rattle.acq_base.specs.declared.uri.Uri.{Uri}
use Rattle.pdiff_index.specs.declared.index.Step.{Step}
use Rattle.update_model.specs.Faults.{ListsHadAreObtained, ReleasesHadAreObtained}
use Rattle.update_model.specs.Files.{fitting, served}
use Rattle.update_model.specs.Laws.{by_sum, IsHad}
use Rattle.update_model.specs.Mirrored.{over, seen, trails_over}
use Rattle.update_model.specs.Obtained.{first_uri, is_resumed, list_cause}
use Rattle.update_model.specs.Reach.{On, Stop, Way, followed, reach, reach_by, way, within}
use Rattle.update_model.specs.Releases.{in_release_uri, release_end, release_limit}
use Rattle.update_model.specs.Trails.{Agrees, Along, IsPosition, IsTrail, Leads, Position, IsFaultOr, LaneAnswer, Trail, answered, less}
use Rattle.update_model.specs.Walks.{Finish, IsRoute, Try, Walk, after_in_release, candidates_walk, fitting_body, got_else, index_walk, list_ask, on_some, patches_walk, plain_walk, release_walk, resume_walk, whole_ask}
use Rattle.update_model.specs.Wanted.{chain, edited_by, patch_uri}
use Rattle.update_model.specs.declared.ask.Ask.{Ask}
use Rattle.update_model.specs.declared.ask.Body.TheVariants.{Bytes}
use Rattle.update_model.specs.declared.ask.Closed.{Closed}
use Rattle.update_model.specs.declared.ask.Closed.TheVariants.{Served, Not}
use Rattle.acq_base.specs.declared.fetch.NotServed.TheVariants.{Moved, Absent, TooBig, Garbled, Fault}
use Rattle.update_model.specs.declared.ask.Ending.{Ending}
use Rattle.update_model.specs.declared.ask.Ending.TheVariants as endings
use Rattle.update_model.specs.declared.end.End.{End}
use Rattle.update_model.specs.declared.end.End.TheVariants.{Got, Stands, Ended}
use Rattle.update_model.specs.declared.wanted.Wanted.{Wanted}
use Rattle.update_model.proofs.Mirrors.{mirrors-give}
use Rattle.update_model.proofs.Routes.{AgreesAt, no_moves, release-law, seen_way, target-law, way-answered}
use Rattle.update_model.proofs.Ends.{asked_walk, asked-ends, second_walk}

-- ---- one trail

-- never answered
abbrev IsDead : Ending → Type 0
IsDead (endings.Dead lane from to) = Unit {0}
IsDead (endings.Served body) = ⊥
IsDead endings.TooBig = ⊥
IsDead (endings.Absent status) = ⊥
IsDead endings.Lost = ⊥
IsDead (endings.Garbled at) = ⊥

-- the answers at a URI lead where the mirror's does, or there is none
position-led : (retries left : ℕ) (uri : Uri) (told : List LaneAnswer) (P : Way → Type 0) (said : Closed) (Q : Type 0)
    → IsPosition retries left uri told P → Each (λ t. IsFaultOr t.closed said) told
    → (P (way left uri said) → Q) → ((e : Ending) → IsDead e → P (Stop e) → Q) → Q
position-led retries left uri [] P said Q h a live dead = absurd h
position-led retries left uri (t ∷ ts) P said Q h a live dead = one retries t.closed h a.0 (λ n x. position-led n left uri ts P said Q x a.1 live dead)
  where
    one : (n : ℕ) (closed : Closed)
        → Leads left uri t.lane closed n (λ m. IsPosition m left uri ts P) (λ w. (ts ≡ []) × P w)
        → IsFaultOr closed said → ((n : ℕ) → IsPosition n left uri ts P → Q) → Q
    one zero (Not (Fault from to)) h s again = dead (endings.Dead t.lane from to) tt h.1
    one (suc n) (Not (Fault from to)) h s again = again n h
    one n (Served body) h s again = live (subst (λ c. P (way left uri c)) s h.1)
    one n (Not (Moved place)) h s again = live (subst (λ c. P (way left uri c)) s h.1)
    one n (Not (Absent status)) h s again = live (subst (λ c. P (way left uri c)) s h.1)
    one n (Not TooBig) h s again = live (subst (λ c. P (way left uri c)) s h.1)
    one n (Not (Garbled at)) h s again = live (subst (λ c. P (way left uri c)) s h.1)

-- a trail ends with what is reached, or was never answered
abbrev IsReached : MirrorMap → List ℕ → Ask → ℕ → Uri → Ending → Type 0
IsReached world part ask left uri end = (end ≡ seen part ask (reach_by left world uri ask.max)) ⊎ IsDead end

goes-led : (world : MirrorMap) (part : List ℕ) (ask : Ask) (retries left : ℕ) (uri : Uri) (ps : List Position) (end : Ending) (w : Way)
    → w ≡ way left uri (within ask.max (answer_at world uri))
    → ((left : ℕ) (uri : Uri) → IsTrail retries left uri ps end → IsReached world part ask left uri end)
    → Along (seen_way part ask w) (λ to. IsTrail retries (less left) to ps end) (λ e. (ps ≡ []) × (end ≡ e))
    → IsReached world part ask left uri end
goes-led world part ask retries zero uri ps end (On to) e rest t = absurd (no_moves uri to (within ask.max (answer_at world uri)) e)
goes-led world part ask retries zero uri ps end (Stop ending) e rest t = inl (t.1 ∙ ap (λ w. seen part ask (followed w (λ to. endings.Lost))) e)
goes-led world part ask retries (suc left) uri ps end (On to) e rest t = there (rest left to t)
  where
    there : IsReached world part ask left to end → IsReached world part ask (suc left) uri end
    there (inl is) = inl (is ∙ ap (λ w. seen part ask (followed w (λ to. reach_by left world to ask.max))) e)
    there (inr dead) = inr dead
goes-led world part ask retries (suc left) uri ps end (Stop ending) e rest t = inl (t.1 ∙ ap (λ w. seen part ask (followed w (λ to. reach_by left world to ask.max))) e)

trail-led : (world : MirrorMap) (part : List ℕ) (ask : Ask) (retries left : ℕ) (uri : Uri) (ps : List Position) (end : Ending)
    → IsTrail retries left uri ps end → AgreesAt world part ask ps → IsReached world part ask left uri end
trail-led world part ask retries left uri [] end t a = absurd t
trail-led world part ask retries left uri (p ∷ ps) end t a =
    let P : Way → Type 0 = λ w. Along w (λ to. IsTrail retries (less left) to ps end) (λ e. (ps ≡ []) × (end ≡ e)) in
    position-led retries left uri p.told P (answered part ask (answer_at world uri)) (IsReached world part ask left uri end) t.1
    (subst (λ u. Each (λ t. IsFaultOr t.closed (answered part ask (answer_at world u))) p.told) t.0 a.0)
    (λ led. goes-led world part ask retries left uri ps end (way left uri (within ask.max (answer_at world uri))) refl
    (λ left uri x. trail-led world part ask retries left uri ps end x a.1)
    (subst P (way-answered part ask left uri (answer_at world uri)) led))
    (λ e dead stop. inr (subst IsDead (sym stop.1) dead))

-- ---- one route

-- R holds of each end that has a file and of what the walk comes to over the mirror
abbrev Comes : MirrorMap → List ℕ → ℕ → (End → End → Type 0) → Walk → Type 0
Comes world part retries R walk =
    (trails : List Trail) (end : End) → IsRoute retries walk trails end → Agrees world part trails → IsHad end → R end (over world part walk)

try-comes : (world : MirrorMap) (part : List ℕ) (retries : ℕ) (R : End → End → Type 0) (ask : Ask) (next : Ending → Walk)
    → ((e : Ending) → Comes world part retries R (next e))
    → ((e : Ending) → IsDead e → (trails : List Trail) (end : End) → IsRoute retries (next e) trails end → Agrees world part trails → IsHad end → R end (over world part (Try ask next)))
    → Comes world part retries R (Try ask next)
try-comes world part retries R ask next live lost [] end r a had = absurd r
try-comes world part retries R ask next live lost (t ∷ trails) end r a had =
    elim (trail-led world part ask retries 10 ask.uri t.positions t.ending r.1 (subst (λ k. AgreesAt world part k t.positions) r.0 a.0)) [
      | inl e ↦ live (seen part ask (reach world ask.uri ask.max)) trails end (subst (λ x. IsRoute retries (next x) trails end) e r.2) a.1 had
      | inr dead ↦ lost t.ending dead trails end r.2 a.1 had
    ]

-- ---- of a list

-- where a route ends with a file, so does the walk over the mirror
abbrev Sees : MirrorMap → List ℕ → ℕ → Walk → Type 0
Sees world part retries = Comes world part retries (λ end last. IsHad last)

finish-sees : (world : MirrorMap) (part : List ℕ) (retries : ℕ) (last : End) → Sees world part retries (Finish last)
finish-sees world part retries last trails end r a had = subst IsHad r.1 had

some-sees : {A : Type 0} (world : MirrorMap) (part : List ℕ) (retries : ℕ) (o : Option A) (goes : A → Walk) (other : Walk)
    → ((x : A) → Sees world part retries (goes x)) → Sees world part retries other → Sees world part retries (on_some o goes other)
some-sees world part retries None goes other h k = k
some-sees world part retries (Some x) goes other h k = h x

some-had : {A : Type 0} (world : MirrorMap) (part : List ℕ) (o : Option A) (goes : A → Walk) (other : Walk)
    → ((x : A) → IsHad (over world part (goes x))) → IsHad (over world part other) → IsHad (over world part (on_some o goes other))
some-had world part None goes other h k = k
some-had world part (Some x) goes other h k = h x

dead-none : {A : Type 0} (f : Ending → Option A) → ((lane from to : ℕ) → f (endings.Dead lane from to) ≡ None) → (e : Ending) → IsDead e → f e ≡ None
dead-none f h (endings.Dead lane from to) dead = h lane from to
dead-none f h (endings.Served body) dead = absurd dead
dead-none f h endings.TooBig dead = absurd dead
dead-none f h (endings.Absent status) dead = absurd dead
dead-none f h endings.Lost dead = absurd dead
dead-none f h (endings.Garbled at) dead = absurd dead

-- an ask whose trail, where it is dead, leads to another walk that is asked anyway where the file doesn't come
ask-sees : {A : Type 0} (world : MirrorMap) (part : List ℕ) (retries : ℕ) (ask : Ask) (f : Ending → Option A) (goes : A → Walk) (other : Walk)
    → ((lane from to : ℕ) → f (endings.Dead lane from to) ≡ None)
    → ((x : A) → Sees world part retries (goes x)) → ((x : A) → IsHad (over world part other) → IsHad (over world part (goes x)))
    → Sees world part retries other → Sees world part retries (Try ask (λ e. on_some (f e) goes other))
ask-sees world part retries ask f goes other none h keep k =
    try-comes world part retries (λ end last. IsHad last) ask (λ e. on_some (f e) goes other) (λ e. some-sees world part retries (f e) goes other h k)
    (λ e dead trails end r a had.
    let there : IsHad (over world part other) = k trails end (subst (λ o. IsRoute retries (on_some o goes other) trails end) (dead-none f none e dead) r) a had in
    some-had world part (f (seen part ask (reach world ask.uri ask.max))) goes other (λ x. keep x there) there)

got-sees : (world : MirrorMap) (part : List ℕ) (retries : ℕ) (w : Wanted) (ask : Ask) (other : Walk) → Sees world part retries other
    → Sees world part retries (Try ask (λ e. got_else w e other))
got-sees world part retries w ask other k =
    ask-sees world part retries ask (fitting_body w.sum) (λ body. Finish (Got body)) other (λ lane from to. refl)
    (λ body. finish-sees world part retries (Got body)) (λ body h. tt) k

plain-sees : (world : MirrorMap) (part : List ℕ) (retries : ℕ) (w : Wanted) → Sees world part retries (plain_walk w)
plain-sees world part retries w =
    try-comes world part retries (λ end last. IsHad last) (list_ask w.uri w 0) (λ e. got_else w e (Finish (Ended (list_cause w e))))
    (λ e. some-sees world part retries (fitting_body w.sum e) (λ body. Finish (Got body)) (Finish (Ended (list_cause w e)))
    (λ body. finish-sees world part retries (Got body)) (finish-sees world part retries (Ended (list_cause w e))))
    (λ e dead trails end r a had.
    let ended : IsRoute retries (Finish (Ended (list_cause w e))) trails end =
    subst (λ o. IsRoute retries (on_some o (λ body. Finish (Got body)) (Finish (Ended (list_cause w e)))) trails end) (dead-none (fitting_body w.sum) (λ lane from to. refl) e dead) r in
    absurd (subst IsHad ended.1 had))

candidates-see : (world : MirrorMap) (part : List ℕ) (retries : ℕ) (w : Wanted) (o : Option Uri) → Sees world part retries (candidates_walk w o)
candidates-see world part retries w None = plain-sees world part retries w
candidates-see world part retries w (Some uri) = got-sees world part retries w (list_ask uri w 0) (plain_walk w) (plain-sees world part retries w)

resume-sees : (world : MirrorMap) (part : List ℕ) (retries : ℕ) (w : Wanted) (n : ℕ) → Sees world part retries (resume_walk w n)
resume-sees world part retries w n =
    elim (is_resumed n w) as (λ b.
    Sees world part retries (if b then Try (list_ask (first_uri w w.hashed) w n) (λ e. got_else w e (candidates_walk w w.hashed)) else candidates_walk w w.hashed)) [
      | true ↦ got-sees world part retries w (list_ask (first_uri w w.hashed) w n) (candidates_walk w w.hashed) (candidates-see world part retries w w.hashed)
      | false ↦ candidates-see world part retries w w.hashed
    ]

-- patches only help
patches-had : (world : MirrorMap) (part : List ℕ) (w : Wanted) (other : Walk) (steps : List Step) (file : List ℕ)
    → IsHad (over world part other) → IsHad (over world part (patches_walk w other steps file))
patches-had world part w other [] file h = some-had world part (fitting w.sum (Some file)) (λ bytes. Finish (Got (Bytes bytes))) other (λ bytes. tt) h
patches-had world part w other (step ∷ steps) file h =
    some-had world part
    (option_and_then (edited_by file) (fitting step.sum (served (seen part (whole_ask (patch_uri w step.name) step.sum.size) (reach world (patch_uri w step.name) step.sum.size)))))
    (λ next. patches_walk w other steps next) other (λ next. patches-had world part w other steps next h) h

patches-see : (world : MirrorMap) (part : List ℕ) (retries : ℕ) (w : Wanted) (other : Walk) (steps : List Step) (file : List ℕ) → Sees world part retries other
    → Sees world part retries (patches_walk w other steps file)
patches-see world part retries w other [] file k =
    some-sees world part retries (fitting w.sum (Some file)) (λ bytes. Finish (Got (Bytes bytes))) other (λ bytes. finish-sees world part retries (Got (Bytes bytes))) k
patches-see world part retries w other (step ∷ steps) file k =
    ask-sees world part retries (whole_ask (patch_uri w step.name) step.sum.size) (λ e. option_and_then (edited_by file) (fitting step.sum (served e)))
    (λ next. patches_walk w other steps next) other (λ lane from to. refl)
    (λ next. patches-see world part retries w other steps next k) (λ next h. patches-had world part w other steps next h) k

index-sees : (world : MirrorMap) (part : List ℕ) (retries : ℕ) (w : Wanted) (other : Walk) (file : List ℕ) (sum : Sum) → Sees world part retries other
    → Sees world part retries (index_walk w other file sum)
index-sees world part retries w other file sum k =
    ask-sees world part retries (whole_ask (patch_uri w (codes "Index")) sum.size) (λ e. option_and_then (chain w file) (fitting sum (served e)))
    (λ steps. patches_walk w other steps file) other (λ lane from to. refl)
    (λ steps. patches-see world part retries w other steps file k) (λ steps h. patches-had world part w other steps file h) k

asked-sees : (world : MirrorMap) (part : List ℕ) (retries : ℕ) (installed : Option (List ℕ)) (n : ℕ) (w : Wanted) → Sees world part retries (asked_walk installed n w)
asked-sees world part retries installed n w =
    let rest : Sees world part retries (resume_walk w n) = resume-sees world part retries w n in
    some-sees world part retries installed (λ file. on_some w.index (λ sum. index_walk w (resume_walk w n) file sum) (resume_walk w n)) (resume_walk w n)
    (λ file. some-sees world part retries w.index (λ sum. index_walk w (resume_walk w n) file sum) (resume_walk w n)
    (λ sum. index-sees world part retries w (resume_walk w n) file sum rest) rest)
    rest

pub lists-had : ListsHadAreObtained
lists-had world installed part w retries trails end r agrees had = look (fitting w.sum installed) r ∙ target-law world installed part w
  where
    walk : Walk
    walk = asked_walk installed (length part) w

    look : (o : Option (List ℕ)) → IsRoute retries (on_some o (λ bytes. Finish Stands) walk) trails end
        → by_sum end ≡ by_sum (over world part (on_some o (λ bytes. Finish Stands) walk))
    look (Some bytes) r = ap by_sum r.1
    look None r =
        asked-ends retries installed (length part) w trails end r had
        ∙ sym (asked-ends retries installed (length part) w (trails_over world part walk) (over world part walk) (mirrors-give world part walk retries).0
        (asked-sees world part retries installed (length part) w trails end r agrees had))

-- ---- of a Release

dead-release : (e : Ending) → IsDead e → IsHad (release_end e) → ⊥
dead-release (endings.Dead lane from to) dead had = had
dead-release (endings.Served body) dead had = dead
dead-release endings.TooBig dead had = dead
dead-release (endings.Absent status) dead had = dead
dead-release endings.Lost dead had = dead
dead-release (endings.Garbled at) dead had = dead

pub releases-had : ReleasesHadAreObtained
releases-had world source retries trails end r agrees had =
    try-comes world [] retries same (whole_ask (in_release_uri source) release_limit) (λ e. after_in_release e (second_walk source)) first never trails end r agrees had
    ∙ release-law world source
  where
    same : End → End → Type 0
    same a b = a ≡ b

    second : Comes world [] retries same (second_walk source)
    second = try-comes world [] retries same (whole_ask source.release release_limit) (λ e. Finish (release_end e))
        (λ e trails end r a had. r.1) (λ e dead trails end r a had. absurd (dead-release e dead (subst IsHad r.1 had)))

    first : (e : Ending) → Comes world [] retries same (after_in_release e (second_walk source))
    first (endings.Served body) = λ trails end r a had. r.1
    first (endings.Dead lane from to) = λ trails end r a had. r.1
    first endings.TooBig = second
    first (endings.Absent status) = second
    first endings.Lost = second
    first (endings.Garbled at) = second

    never : (e : Ending) → IsDead e → (trails : List Trail) (end : End) → IsRoute retries (after_in_release e (second_walk source)) trails end → Agrees world [] trails → IsHad end
        → end ≡ over world [] (release_walk source)
    never (endings.Dead lane from to) dead trails end r a had = absurd (subst IsHad r.1 had)
    never (endings.Served body) dead trails end r a had = absurd dead
    never endings.TooBig dead trails end r a had = absurd dead
    never (endings.Absent status) dead trails end r a had = absurd dead
    never endings.Lost dead trails end r a had = absurd dead
    never (endings.Garbled at) dead trails end r a had = absurd dead
