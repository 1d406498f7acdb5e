-- Routes, whatever is answered.
use Rattle.std.proofs.Common.{◌≡◌, inl, inr, ℕ, suc, true, false, List, [], ◌∷◌, Contains, Option, Some, None, refl, arith, sym, ap, ◌∙◌, subst, option_and_then, codes, if◌then◌else◌}
use Rattle.std.proofs.lemmas.Bool.{cases_Bool}
use Rattle.acq_base.specs.declared.plan.Source.{Source}
use Rattle.acq_base.specs.declared.sum.Sum.{Sum}
use Rattle.acq_base.specs.declared.uri.Uri.{Uri}
use Rattle.acq_base.proofs.SameSums.{same_sum-true}
use Rattle.pdiff_index.specs.declared.index.Step.{Step}
use Rattle.release_file.specs.Release.{same_sum}
use Rattle.update_model.specs.Faults.{IsListed, ListsEndAsListed, ReleasesEndAsServed}
use Rattle.update_model.specs.Files.{fitting, served, sum_of_body}
use Rattle.update_model.specs.Laws.{by_sum, IsHad, IsFileOf}
use Rattle.update_model.specs.Obtained.{first_uri, is_resumed, list_cause}
use Rattle.update_model.specs.Releases.{release_end, release_limit}
use Rattle.update_model.specs.Trails.{Trail}
use Rattle.update_model.specs.Walks.{Finish, IsRoute, Try, Walk, after_in_release, candidates_walk, fitting_body, got_else, index_walk, list_ask, on_some, patched_walk, patches_walk, plain_walk, resume_walk, whole_ask}
use Rattle.update_model.specs.Wanted.{chain, edited_by, patch_uri}
use Rattle.update_model.specs.declared.ask.Ask.{Ask}
use Rattle.update_model.specs.declared.ask.Body.{Body}
use Rattle.update_model.specs.declared.ask.Body.TheVariants.{Bytes, Staged}
use Rattle.update_model.specs.declared.ask.Ending.{Ending}
use Rattle.update_model.specs.declared.ask.Ending.TheVariants as endings
use Rattle.update_model.specs.declared.end.End.{End}
use Rattle.update_model.specs.declared.end.End.TheVariants.{Got, Stands, Ended}
use Rattle.update_model.specs.declared.wanted.Wanted.{Wanted}
use Rattle.update_model.proofs.Sums.{fitting-is}

-- ---- the ends of a walk, whatever is answered

abbrev pub Ends : ℕ → (End → Type 0) → Walk → Type 0
Ends retries P walk = (trails : List Trail) (end : End) → IsRoute retries walk trails end → P end

finish-ends : (retries : ℕ) (P : End → Type 0) (last : End) → P last → Ends retries P (Finish last)
finish-ends retries P last p trails end r = subst P (sym r.1) p

try-ends : (retries : ℕ) (P : End → Type 0) (ask : Ask) (next : Ending → Walk) → ((e : Ending) → Ends retries P (next e)) → Ends retries P (Try ask next)
try-ends retries P ask next h [] end r = absurd r
try-ends retries P ask next h (t ∷ trails) end r = h t.ending trails end r.2

some-ends : {A : Type 0} (retries : ℕ) (P : End → Type 0) (o : Option A) (goes : A → Walk) (other : Walk)
    → ((x : A) → o ≡ Some x → Ends retries P (goes x)) → Ends retries P other → Ends retries P (on_some o goes other)
some-ends retries P None goes other h k = k
some-ends retries P (Some x) goes other h k = h x refl

-- ---- of a list

-- a file that came has this sum
abbrev pub IfCame : Sum → End → Type 0
IfCame sum end = IsHad end → by_sum end ≡ Got (Staged sum)

body-fits : (sum : Sum) (e : Ending) (body : Body) → fitting_body sum e ≡ Some body → sum_of_body body ≡ sum
body-fits sum (endings.Served found) body h =
    elim (cases_Bool (same_sum (sum_of_body found) sum)) [
      | inl same ↦
          let some : Some found ≡ Some body = sym (ap (λ b. if b then Some found else None) same) ∙ h in
          let is : body ≡ found = cc in
          ap sum_of_body is ∙ same_sum-true (sum_of_body found) sum same
      | inr other ↦ let none : None ≡ Some body = sym (ap (λ b. if b then Some found else None) other) ∙ h in absurd (cc)
    ]
body-fits sum endings.TooBig body h = cc
body-fits sum (endings.Absent status) body h = cc
body-fits sum endings.Lost body h = cc
body-fits sum (endings.Garbled at) body h = cc
body-fits sum (endings.Dead lane from to) body h = cc

got-ends : (retries : ℕ) (w : Wanted) (e : Ending) (other : Walk) → Ends retries (IfCame w.sum) other → Ends retries (IfCame w.sum) (got_else w e other)
got-ends retries w e other h =
    some-ends retries (IfCame w.sum) (fitting_body w.sum e) (λ body. Finish (Got body)) other
    (λ body is. finish-ends retries (IfCame w.sum) (Got body) (λ had. ap (λ s. Got (Staged s)) (body-fits w.sum e body is))) h

plain-ends : (retries : ℕ) (w : Wanted) → Ends retries (IfCame w.sum) (plain_walk w)
plain-ends retries w =
    try-ends retries (IfCame w.sum) (list_ask w.uri w 0) (λ e. got_else w e (Finish (Ended (list_cause w e))))
    (λ e. got-ends retries w e (Finish (Ended (list_cause w e))) (finish-ends retries (IfCame w.sum) (Ended (list_cause w e)) (λ had. absurd had)))

candidates-end : (retries : ℕ) (w : Wanted) (o : Option Uri) → Ends retries (IfCame w.sum) (candidates_walk w o)
candidates-end retries w None = plain-ends retries w
candidates-end retries w (Some uri) =
    try-ends retries (IfCame w.sum) (list_ask uri w 0) (λ e. got_else w e (plain_walk w)) (λ e. got-ends retries w e (plain_walk w) (plain-ends retries w))

resume-ends : (retries : ℕ) (w : Wanted) (part : ℕ) → Ends retries (IfCame w.sum) (resume_walk w part)
resume-ends retries w part =
    elim (is_resumed part w) as (λ b.
    Ends retries (IfCame w.sum) (if b then Try (list_ask (first_uri w w.hashed) w part) (λ e. got_else w e (candidates_walk w w.hashed)) else candidates_walk w w.hashed)) [
      | true ↦ try-ends retries (IfCame w.sum) (list_ask (first_uri w w.hashed) w part) (λ e. got_else w e (candidates_walk w w.hashed))
          (λ e. got-ends retries w e (candidates_walk w w.hashed) (candidates-end retries w w.hashed))
      | false ↦ candidates-end retries w w.hashed
    ]

patches-end : (retries : ℕ) (w : Wanted) (other : Walk) (steps : List Step) (file : List ℕ) → Ends retries (IfCame w.sum) other
    → Ends retries (IfCame w.sum) (patches_walk w other steps file)
patches-end retries w other [] file h =
    some-ends retries (IfCame w.sum) (fitting w.sum (Some file)) (λ bytes. Finish (Got (Bytes bytes))) other
    (λ bytes is. let fits = fitting-is w.sum (Some file) bytes is in
    let here : IsFileOf w.sum (Some bytes) = subst (IsFileOf w.sum) fits.1 fits.0 in
    finish-ends retries (IfCame w.sum) (Got (Bytes bytes)) (λ had. ap (λ s. Got (Staged s)) here)) h
patches-end retries w other (step ∷ steps) file h =
    try-ends retries (IfCame w.sum) (whole_ask (patch_uri w step.name) step.sum.size)
    (λ e. on_some (option_and_then (edited_by file) (fitting step.sum (served e))) (λ next. patches_walk w other steps next) other)
    (λ e. some-ends retries (IfCame w.sum) (option_and_then (edited_by file) (fitting step.sum (served e))) (λ next. patches_walk w other steps next) other
    (λ next is. patches-end retries w other steps next h) h)

index-ends : (retries : ℕ) (w : Wanted) (other : Walk) (file : List ℕ) (sum : Sum) → Ends retries (IfCame w.sum) other
    → Ends retries (IfCame w.sum) (index_walk w other file sum)
index-ends retries w other file sum h =
    try-ends retries (IfCame w.sum) (whole_ask (patch_uri w (codes "Index")) sum.size)
    (λ e. on_some (option_and_then (chain w file) (fitting sum (served e))) (λ steps. patches_walk w other steps file) other)
    (λ e. some-ends retries (IfCame w.sum) (option_and_then (chain w file) (fitting sum (served e))) (λ steps. patches_walk w other steps file) other
    (λ steps is. patches-end retries w other steps file h) h)

-- what comes where the installed file isn't the listed one
abbrev pub asked_walk : Option (List ℕ) → ℕ → Wanted → Walk
asked_walk installed part w = patched_walk installed w (resume_walk w part)

pub asked-ends : (retries : ℕ) (installed : Option (List ℕ)) (part : ℕ) (w : Wanted) → Ends retries (IfCame w.sum) (asked_walk installed part w)
asked-ends retries installed part w =
    some-ends retries (IfCame w.sum) installed (λ file. on_some w.index (λ sum. index_walk w (resume_walk w part) file sum) (resume_walk w part)) (resume_walk w part)
    (λ file there. some-ends retries (IfCame w.sum) w.index (λ sum. index_walk w (resume_walk w part) file sum) (resume_walk w part)
    (λ sum is. index-ends retries w (resume_walk w part) file sum (resume-ends retries w part)) (resume-ends retries w part))
    (resume-ends retries w part)

came-listed : (sum : Sum) (installed : Option (List ℕ)) (end : End) → by_sum end ≡ Got (Staged sum) → IsListed sum installed end
came-listed sum installed (Got body) e = cc
came-listed sum installed Stands e = absurd (cc)
came-listed sum installed (Ended cause) e = absurd (cc)

pub lists-listed : ListsEndAsListed
lists-listed installed part w retries trails end r had = look (fitting w.sum installed) refl r
  where
    look : (o : Option (List ℕ)) → fitting w.sum installed ≡ o → IsRoute retries (on_some o (λ bytes. Finish Stands) (asked_walk installed part w)) trails end → IsListed w.sum installed end
    look (Some bytes) e r = subst (IsListed w.sum installed) (sym r.1) (fitting-is w.sum installed bytes e).0
    look None e r = came-listed w.sum installed end (asked-ends retries installed part w trails end r had)

-- ---- of a Release, whatever is answered

-- a trail ended with the file
abbrev IsServed : List Trail → End → Type 0
IsServed trails end = (trail : Trail) × (body : Body) × Contains trails trail × (trail.ending ≡ endings.Served body) × (end ≡ Got body)

served-here : (t : Trail) (trails : List Trail) (end : End) (e : Ending) (body : Body) → t.ending ≡ e → e ≡ endings.Served body → end ≡ Got body → IsServed (t ∷ trails) end
served-here t trails end e body is came got = (t, body, (0, omega arith, refl), is ∙ came, got)

served-behind : (t : Trail) (trails : List Trail) (end : End) → IsServed trails end → IsServed (t ∷ trails) end
served-behind t trails end s = (s.0, s.1, (suc s.2.0, omega (arith, s.2.1), s.2.2), s.3, s.4)

abbrev pub second_walk : Source → Walk
second_walk source = Try (whole_ask source.release release_limit) (λ e. Finish (release_end e))

second-served : (retries : ℕ) (source : Source) (trails : List Trail) (end : End) → IsRoute retries (second_walk source) trails end → IsHad end → IsServed trails end
second-served retries source [] end r had = absurd r
second-served retries source (t ∷ trails) end r had = one t.ending refl r.2.1
  where
    one : (e : Ending) → t.ending ≡ e → end ≡ release_end e → IsServed (t ∷ trails) end
    one (endings.Served body) is last = served-here t trails end (endings.Served body) body is refl last
    one endings.TooBig is last = absurd (subst IsHad last had)
    one (endings.Absent status) is last = absurd (subst IsHad last had)
    one endings.Lost is last = absurd (subst IsHad last had)
    one (endings.Garbled at) is last = absurd (subst IsHad last had)
    one (endings.Dead lane from to) is last = absurd (subst IsHad last had)

pub releases-served : ReleasesEndAsServed
releases-served source retries [] end r had = absurd r
releases-served source retries (t ∷ trails) end r had = one t.ending refl r.2
  where
    one : (e : Ending) → t.ending ≡ e → IsRoute retries (after_in_release e (second_walk source)) trails end → IsServed (t ∷ trails) end
    one (endings.Served body) is rest = served-here t trails end (endings.Served body) body is refl rest.1
    one (endings.Dead lane from to) is rest = absurd (subst IsHad rest.1 had)
    one endings.TooBig is rest = served-behind t trails end (second-served retries source trails end rest had)
    one (endings.Absent status) is rest = served-behind t trails end (second-served retries source trails end rest had)
    one endings.Lost is rest = served-behind t trails end (second-served retries source trails end rest had)
    one (endings.Garbled at) is rest = served-behind t trails end (second-served retries source trails end rest had)
