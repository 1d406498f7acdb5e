-- The URI of another file in the same folder.
use Rattle.std.specs.Prelude.{◌≡◌, ℕ, ◌≤◌, ◌==◌, Bool, if◌then◌else◌, List, [], ◌∷◌, ◌++◌, length, All, Contains, IsTrue}
use Rattle.std.specs.List.{list_any}
use Rattle.acq_base.specs.declared.uri.Uri.{Uri}
use Rattle.acq_base.specs.Uri.{is_uri_character}

abbrev pub is_slash : ℕ → Bool
is_slash c = c == 47

-- the front of a path, up to its last slash and with it
abbrev pub folder : List ℕ → List ℕ
folder [] = []
folder (c ∷ rest) = if list_any is_slash (c ∷ rest) then c ∷ folder rest else []

-- the URI with this text in place of what stands behind the last slash of its path
abbrev pub beside : Uri → List ℕ → Uri
beside uri name = record uri { path = folder uri.path ++ name }

-- where a path is cut at a slash behind which there is none, the other path has the same front and then the name
abbrev pub ReplacesLast : List ℕ → List ℕ → List ℕ → Type 0
ReplacesLast path name other =
    (front segment : List ℕ) → path ≡ front ++ 47 ∷ segment → (Contains segment 47 → ⊥) → other ≡ front ++ 47 ∷ name

-- a name of URI characters, no longer than a list name may be
pub record IsShortName (name : List ℕ) : Type 0 where
  pub characters : All (λ c. IsTrue (is_uri_character c)) name
  pub short : length name ≤ 240
