-- What a list comes to over a mirror.
use Rattle.std.specs.Prelude.{ℕ, nat_lt, ◌&&◌, Bool, if◌then◌else◌, List, [], ◌∷◌, ◌++◌, length, drop, map, codes, Option, Some, None, option_and_then}
use Rattle.acq_base.specs.Mirror.{MirrorMap}
use Rattle.acq_base.specs.declared.sum.Sum.{Sum}
use Rattle.acq_base.specs.declared.uri.Uri.{Uri}
use Rattle.hash_gate.specs.Verdict.{verdict}
use Rattle.hash_gate.specs.declared.verdict.Verdict.TheVariants.{Long}
use Rattle.pdiff_index.specs.declared.index.Step.{Step}
use Rattle.update_model.specs.Files.{served, fitting, sum_of_body}
use Rattle.update_model.specs.Reach.{reach}
use Rattle.update_model.specs.Wanted.{uris, patch_uri, chain, edited_by}
use Rattle.update_model.specs.declared.wanted.Wanted.{Wanted}
use Rattle.update_model.specs.declared.ask.Body.TheVariants.{Bytes}
use Rattle.update_model.specs.declared.ask.Ending.{Ending}
use Rattle.update_model.specs.declared.ask.Ending.TheVariants.{Served, TooBig, Absent, Lost, Garbled, Dead}
use Rattle.update_model.specs.declared.cause.Cause.{Cause}
use Rattle.update_model.specs.declared.cause.Cause.TheVariants as causes
use Rattle.update_model.specs.declared.end.End.{End}
use Rattle.update_model.specs.declared.end.End.TheVariants.{Got, Stands, Ended}

infixl 10 ◌>>=◌
abbrev pub ◌>>=◌ : {A B : Type 0} → Option A → (A → Option B) → Option B
(Some x) >>= f = f x
None >>= f = None

-- ---- by patches

-- what is reached within the listed size, where it is the listed file
abbrev pub fetched : MirrorMap → Uri → Sum → Option (List ℕ)
fetched world uri sum = fitting sum (served (reach world uri sum.size))

-- the file after these patches, one after another
abbrev pub edited_along : MirrorMap → Wanted → List Step → List ℕ → Option (List ℕ)
edited_along world w [] file = Some file
edited_along world w (step ∷ steps) file = do
  patch ← fetched world (patch_uri w step.name) step.sum
  next ← edited_by file patch
  edited_along world w steps next

-- what patches make of the installed file, where they lead to the wanted one
abbrev pub patched : MirrorMap → Option (List ℕ) → Wanted → Option (List ℕ)
patched world installed w = do
  file ← installed
  sum ← w.index
  index ← fetched world (patch_uri w (codes "Index")) sum
  steps ← chain w file index
  last ← edited_along world w steps file
  fitting w.sum (Some last)

-- ---- by the rest of a partial file

-- a partial file can be resumed where it has some bytes and fewer than the list
abbrev pub is_resumed : ℕ → Wanted → Bool
is_resumed part w = nat_lt 0 part && nat_lt part w.sum.size

-- the partial file with what a longer file has behind as many bytes
abbrev pub with_rest : List ℕ → List ℕ → Option (List ℕ)
with_rest part bytes = if nat_lt (length part) (length bytes) then Some (part ++ drop (length part) bytes) else None

abbrev pub first_uri : Wanted → Option Uri → Uri
first_uri w None = w.uri
first_uri w (Some uri) = uri

-- the partial file with its rest at the first URI of the list
abbrev pub resumed : MirrorMap → List ℕ → Wanted → Option (List ℕ)
resumed world part w =
    if is_resumed (length part) w
    then option_and_then (with_rest part) (served (reach world (first_uri w w.hashed) w.sum.size))
    else None

-- ---- the list

abbrev pub or_else : Option (List ℕ) → Option (List ℕ) → Option (List ℕ)
or_else (Some bytes) other = Some bytes
or_else None other = other

-- the first of these files that is there and has the sum
abbrev pub first_fitting : Sum → List (Option (List ℕ)) → Option (List ℕ)
first_fitting sum [] = None
first_fitting sum (file ∷ files) = or_else (fitting sum file) (first_fitting sum files)

-- what is reached at each URI of the list
abbrev pub reached_files : MirrorMap → Wanted → List (Option (List ℕ))
reached_files world w = map (λ uri. served (reach world uri w.sum.size)) (uris w)

-- why there is no list, by what its own URI led to
abbrev pub list_cause : Wanted → Ending → Cause
list_cause w (Served body) = causes.Differs w.path w.sum (verdict w.sum (sum_of_body body))
list_cause w TooBig = causes.Differs w.path w.sum Long
list_cause w (Absent status) = causes.Missing w.path status
list_cause w Lost = causes.Redirects w.path
list_cause w (Garbled at) = causes.Garbled w.path at
list_cause w (Dead lane before after) = causes.Method w.path lane before after

abbrev pub stands_or : Option (List ℕ) → End → End
stands_or (Some bytes) other = Stands
stands_or None other = other

abbrev pub got_or : Option (List ℕ) → End → End
got_or (Some bytes) other = Got (Bytes bytes)
got_or None other = other

-- the first that is the wanted file: the installed one, the patched one, the resumed one, what is reached at each URI;
-- where none is, the cause that the list's own URI shows
abbrev pub obtain : MirrorMap → Option (List ℕ) → List ℕ → Wanted → End
obtain world installed part w =
    stands_or (fitting w.sum installed)
    (got_or (first_fitting w.sum (patched world installed w ∷ resumed world part w ∷ reached_files world w))
    (Ended (list_cause w (reach world w.uri w.sum.size))))
