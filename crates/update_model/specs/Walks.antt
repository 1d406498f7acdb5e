-- What is asked for a Release or a list, by how each trail ended, and which trails make its route.
use Rattle.std.specs.Prelude.{◌≡◌, ℕ, true, false, if◌then◌else◌, List, [], ◌∷◌, codes, Option, Some, None, option_and_then}
use Rattle.acq_base.specs.declared.plan.Source.{Source}
use Rattle.acq_base.specs.declared.sum.Sum.{Sum}
use Rattle.acq_base.specs.declared.uri.Uri.{Uri}
use Rattle.pdiff_index.specs.declared.index.Step.{Step}
use Rattle.release_file.specs.Release.{same_sum}
use Rattle.update_model.specs.Files.{served, sum_of_body, fitting}
use Rattle.update_model.specs.Obtained.{is_resumed, first_uri, list_cause}
use Rattle.update_model.specs.Releases.{release_text, release_limit, in_release_uri, release_end}
use Rattle.update_model.specs.Trails.{Trail, IsTrail}
use Rattle.update_model.specs.Wanted.{patch_uri, chain, edited_by}
use Rattle.update_model.specs.declared.wanted.Wanted.{Wanted}
use Rattle.update_model.specs.declared.ask.Ask.{Ask}
use Rattle.update_model.specs.declared.ask.Body.{Body}
use Rattle.update_model.specs.declared.ask.Body.TheVariants.{Bytes}
use Rattle.update_model.specs.declared.ask.Ending.{Ending}
use Rattle.update_model.specs.declared.ask.Ending.TheVariants.{Served, Dead}
use Rattle.update_model.specs.declared.cause.Cause.TheVariants.{Method}
use Rattle.update_model.specs.declared.end.End.{End}
use Rattle.update_model.specs.declared.end.End.TheVariants.{Got, Stands, Ended}

-- what is still to be asked: nothing, or a trail, and by its ending what comes after it
pub data Walk : Type 0 where
  Finish : (end : End) → Walk
  Try : (ask : Ask) → (next : Ending → Walk) → Walk

-- these are the trails of a walk, in order, and this is its end
abbrev pub IsRoute : ℕ → Walk → List Trail → End → Type 0
IsRoute retries (Finish last) trails end = (trails ≡ []) × (end ≡ last)
IsRoute retries (Try ask next) [] end = ⊥
IsRoute retries (Try ask next) (t ∷ trails) end =
    (t.ask ≡ ask) × IsTrail retries 10 ask.uri t.positions t.ending × IsRoute retries (next t.ending) trails end

-- ---- asks

-- a file that is held in memory
abbrev pub whole_ask : Uri → ℕ → Ask
whole_ask uri max = record { uri = uri; max = max; from = 0; stage = false }

-- a list, which goes into its partial file behind the first `from` bytes
abbrev pub list_ask : Uri → Wanted → ℕ → Ask
list_ask uri w from = record { uri = uri; max = w.sum.size; from = from; stage = true }

-- where there is a value, the walk that it gives, and else another
abbrev pub on_some : {A : Type 0} → Option A → (A → Walk) → Walk → Walk
on_some None goes other = other
on_some (Some x) goes other = goes x

-- ---- a Release

-- after InRelease: its file, or the cause where it was never answered, and else Release
abbrev pub after_in_release : Ending → Walk → Walk
after_in_release (Served body) release = Finish (Got body)
after_in_release (Dead lane before after) release = Finish (Ended (Method release_text lane before after))
after_in_release other release = release

abbrev pub release_walk : Source → Walk
release_walk source =
    Try (whole_ask (in_release_uri source) release_limit) (λ e. after_in_release e (Try (whole_ask source.release release_limit) (λ e. Finish (release_end e))))

-- ---- a list, whole

-- the file of a trail, where it has this sum
abbrev pub fitting_body : Sum → Ending → Option Body
fitting_body sum (Served body) = if same_sum (sum_of_body body) sum then Some body else None
fitting_body sum other = None

-- the list is had where the trail ended with it, and else another walk comes
abbrev pub got_else : Wanted → Ending → Walk → Walk
got_else w e other = on_some (fitting_body w.sum e) (λ body. Finish (Got body)) other

-- the list's own URI, which shows the cause
abbrev pub plain_walk : Wanted → Walk
plain_walk w = Try (list_ask w.uri w 0) (λ e. got_else w e (Finish (Ended (list_cause w e))))

-- the URI under the digest, where there is one, and then the list's own
abbrev pub candidates_walk : Wanted → Option Uri → Walk
candidates_walk w None = plain_walk w
candidates_walk w (Some uri) = Try (list_ask uri w 0) (λ e. got_else w e (plain_walk w))

-- the rest of a partial file of this many bytes at the first URI, where it can be resumed, and then the whole list
abbrev pub resume_walk : Wanted → ℕ → Walk
resume_walk w part =
    if is_resumed part w
    then Try (list_ask (first_uri w w.hashed) w part) (λ e. got_else w e (candidates_walk w w.hashed))
    else candidates_walk w w.hashed

-- ---- a list, by patches

-- these patches, up to the first that isn't the listed one, is no script or doesn't apply
abbrev pub patches_walk : Wanted → Walk → List Step → List ℕ → Walk
patches_walk w other [] file = on_some (fitting w.sum (Some file)) (λ bytes. Finish (Got (Bytes bytes))) other
patches_walk w other (step ∷ steps) file =
    Try (whole_ask (patch_uri w step.name) step.sum.size)
    (λ e. on_some (option_and_then (edited_by file) (fitting step.sum (served e))) (λ next. patches_walk w other steps next) other)

-- the patch Index of this sum, and the patches by which it leads on from the installed file
abbrev pub index_walk : Wanted → Walk → List ℕ → Sum → Walk
index_walk w other file sum =
    Try (whole_ask (patch_uri w (codes "Index")) sum.size)
    (λ e. on_some (option_and_then (chain w file) (fitting sum (served e))) (λ steps. patches_walk w other steps file) other)

-- the patch Index where a file is installed and an Index is listed, and then the rest
abbrev pub patched_walk : Option (List ℕ) → Wanted → Walk → Walk
patched_walk installed w other = on_some installed (λ file. on_some w.index (λ sum. index_walk w other file sum) other) other

-- nothing where the installed file is the wanted one; else patches, a partial file's rest, and the whole list
abbrev pub target_walk : Option (List ℕ) → ℕ → Wanted → Walk
target_walk installed part w = on_some (fitting w.sum installed) (λ bytes. Finish Stands) (patched_walk installed w (resume_walk w part))
