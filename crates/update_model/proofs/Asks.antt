-- Each ask for a list is for a sound URI.
use Rattle.std.proofs.Common.{◌≡◌, ℕ, ◌≤◌, true, false, List, [], ◌∷◌, length, Option, Some, None, IfSome, refl, sym, subst, option_and_then, codes, if◌then◌else◌}
use Rattle.std.specs.List.{AllByRecursion as Each}
use Rattle.acq_base.specs.Uri.{IsSound, list_name}
use Rattle.acq_base.specs.declared.sum.Sum.{Sum}
use Rattle.acq_base.specs.declared.uri.Uri.{Uri}
use Rattle.pdiff_index.specs.declared.index.Step.{Step}
use Rattle.update_model.specs.Files.{fitting, served}
use Rattle.update_model.specs.Laws.{AsksAreSound}
use Rattle.update_model.specs.Obtained.{first_uri, is_resumed, list_cause}
use Rattle.update_model.specs.Trails.{Trail}
use Rattle.update_model.specs.Walks.{Finish, IsRoute, Try, Walk, candidates_walk, fitting_body, got_else, index_walk, list_ask, on_some, patches_walk, plain_walk, resume_walk, whole_ask}
use Rattle.update_model.specs.Wanted.{chain, edited_by, patch_uri}
use Rattle.update_model.specs.declared.ask.Ask.{Ask}
use Rattle.update_model.specs.declared.ask.Body.TheVariants.{Bytes}
use Rattle.update_model.specs.declared.ask.Ending.{Ending}
use Rattle.update_model.specs.declared.end.End.{End}
use Rattle.update_model.specs.declared.end.End.TheVariants.{Got, Stands, Ended}
use Rattle.update_model.specs.declared.wanted.Wanted.{Wanted}
use Rattle.update_model.proofs.Names.{IsNamed, chain-named}
use Rattle.update_model.proofs.PatchUris.{patches-sound, patches-short}

-- ---- a walk

abbrev Asks : ℕ → Walk → Type 0
Asks retries walk = (trails : List Trail) (end : End) → IsRoute retries walk trails end → Each (λ t. IsSound t.ask.uri) trails

finish-asks : (retries : ℕ) (last : End) → Asks retries (Finish last)
finish-asks retries last [] end r = tt
finish-asks retries last (t ∷ trails) end r = cc

try-asks : (retries : ℕ) (ask : Ask) (next : Ending → Walk) → IsSound ask.uri → ((e : Ending) → Asks retries (next e)) → Asks retries (Try ask next)
try-asks retries ask next sound h [] end r = absurd r
try-asks retries ask next sound h (t ∷ trails) end r = (subst (λ k. IsSound k.uri) (sym r.0) sound, h t.ending trails end r.2)

some-asks : {A : Type 0} (retries : ℕ) (o : Option A) (goes : A → Walk) (other : Walk)
    → ((x : A) → o ≡ Some x → Asks retries (goes x)) → Asks retries other → Asks retries (on_some o goes other)
some-asks retries None goes other h k = k
some-asks retries (Some x) goes other h k = h x refl

-- ---- a list's

got-asks : (retries : ℕ) (w : Wanted) (ask : Ask) (other : Ending → Walk) → IsSound ask.uri → ((e : Ending) → Asks retries (other e))
    → Asks retries (Try ask (λ e. got_else w e (other e)))
got-asks retries w ask other sound h =
    try-asks retries ask (λ e. got_else w e (other e)) sound
    (λ e. some-asks retries (fitting_body w.sum e) (λ body. Finish (Got body)) (other e) (λ body is. finish-asks retries (Got body)) (h e))

plain-asks : (retries : ℕ) (w : Wanted) → IsSound w.uri → Asks retries (plain_walk w)
plain-asks retries w sound = got-asks retries w (list_ask w.uri w 0) (λ e. Finish (Ended (list_cause w e))) sound (λ e. finish-asks retries (Ended (list_cause w e)))

candidates-ask : (retries : ℕ) (w : Wanted) (o : Option Uri) → IsSound w.uri → IfSome o IsSound → Asks retries (candidates_walk w o)
candidates-ask retries w None sound under = plain-asks retries w sound
candidates-ask retries w (Some uri) sound under = got-asks retries w (list_ask uri w 0) (λ e. plain_walk w) under (λ e. plain-asks retries w sound)

first-sound : (w : Wanted) (o : Option Uri) → IsSound w.uri → IfSome o IsSound → IsSound (first_uri w o)
first-sound w None sound under = sound
first-sound w (Some uri) sound under = under

resume-asks : (retries : ℕ) (w : Wanted) (part : ℕ) → IsSound w.uri → IfSome w.hashed IsSound → Asks retries (resume_walk w part)
resume-asks retries w part sound under =
    elim (is_resumed part w) as (λ b.
    Asks retries (if b then Try (list_ask (first_uri w w.hashed) w part) (λ e. got_else w e (candidates_walk w w.hashed)) else candidates_walk w w.hashed)) [
      | true ↦ got-asks retries w (list_ask (first_uri w w.hashed) w part) (λ e. candidates_walk w w.hashed) (first-sound w w.hashed sound under)
          (λ e. candidates-ask retries w w.hashed sound under)
      | false ↦ candidates-ask retries w w.hashed sound under
    ]

patches-ask : (retries : ℕ) (w : Wanted) (other : Walk) (steps : List Step) (file : List ℕ) → IsSound w.uri → length (list_name w.uri) ≤ 240
    → Each IsNamed steps → Asks retries other → Asks retries (patches_walk w other steps file)
patches-ask retries w other [] file sound short named h =
    some-asks retries (fitting w.sum (Some file)) (λ bytes. Finish (Got (Bytes bytes))) other (λ bytes is. finish-asks retries (Got (Bytes bytes))) h
patches-ask retries w other (step ∷ steps) file sound short named h =
    try-asks retries (whole_ask (patch_uri w step.name) step.sum.size)
    (λ e. on_some (option_and_then (edited_by file) (fitting step.sum (served e))) (λ next. patches_walk w other steps next) other)
    (patches-sound w step.name sound named.0 (patches-short w step.name short named.0))
    (λ e. some-asks retries (option_and_then (edited_by file) (fitting step.sum (served e))) (λ next. patches_walk w other steps next) other
    (λ next is. patches-ask retries w other steps next sound short named.1 h) h)

index-asks : (retries : ℕ) (w : Wanted) (other : Walk) (file : List ℕ) (sum : Sum) → IsSound w.uri → length (list_name w.uri) ≤ 240
    → Asks retries other → Asks retries (index_walk w other file sum)
index-asks retries w other file sum sound short h =
    try-asks retries (whole_ask (patch_uri w (codes "Index")) sum.size)
    (λ e. on_some (option_and_then (chain w file) (fitting sum (served e))) (λ steps. patches_walk w other steps file) other)
    (patches-sound w (codes "Index") sound refl (patches-short w (codes "Index") short refl))
    (λ e. some-asks retries (option_and_then (chain w file) (fitting sum (served e))) (λ steps. patches_walk w other steps file) other
    (λ steps is. patches-ask retries w other steps file sound short (of (fitting sum (served e)) steps is) h) h)
  where
    of : (o : Option (List ℕ)) (steps : List Step) → option_and_then (chain w file) o ≡ Some steps → Each IsNamed steps
    of None steps is = cc
    of (Some bytes) steps is = chain-named w file bytes steps is

pub asks-sound : AsksAreSound
asks-sound installed part w retries trails end sound under short r =
    let rest : Asks retries (resume_walk w part) = resume-asks retries w part sound under in
    some-asks retries (fitting w.sum installed) (λ bytes. Finish Stands) _ (λ bytes is. finish-asks retries Stands)
    (some-asks retries installed (λ file. on_some w.index (λ sum. index_walk w (resume_walk w part) file sum) (resume_walk w part)) (resume_walk w part)
    (λ file there. some-asks retries w.index (λ sum. index_walk w (resume_walk w part) file sum) (resume_walk w part)
    (λ sum is. index-asks retries w (resume_walk w part) file sum sound short rest) rest)
    rest)
    trails end r
