-- What a Release says of itself, beside the installed one (apt-secure(8), "Information changes").
use Rattle.std.specs.Prelude.{◌≡◌, ◌≢◌, ℕ, ◌<◌, ◌||◌, bytes_eq, not, find, Bool, true, false, List, [], ◌∷◌, Option, Some, None}
use Rattle.std.specs.List.{list_all}
use Rattle.release_file.specs.declared.changing.Change.{Change}
use Rattle.release_file.specs.declared.changing.HeadField.{HeadField}
use Rattle.release_file.specs.declared.changing.HeadField.TheVariants.{Origin, Label, Suite, Codename}
use Rattle.release_file.specs.declared.release.Head.{Head}

-- the text of a field, if it is there
abbrev pub text_in : HeadField → Head → Option (List ℕ)
text_in Origin head = head.origin
text_in Label head = head.label
text_in Suite head = head.suite
text_in Codename head = head.codename

-- the field may change
abbrev pub is_on : Change → HeadField → Bool
is_on change Origin = change.origin
is_on change Label = change.label
is_on change Suite = change.suite
is_on change Codename = change.codename

-- the same text, or none in both; one that is absent differs from each that is there
abbrev pub same_text : Option (List ℕ) → Option (List ℕ) → Bool
same_text None None = true
same_text (Some a) (Some b) = bytes_eq a b
same_text _ _ = false

abbrev pub head_fields : List HeadField
head_fields = Origin ∷ Label ∷ Suite ∷ Codename ∷ []

-- a field stays, or may change
abbrev pub may_follow : Change → Head → Head → HeadField → Bool
may_follow change old new field = is_on change field || same_text (text_in field old) (text_in field new)

-- each of the fields that differs is switched on
unfoldable pub allowed : Change → Head → Head → Bool
allowed change old new = list_all (may_follow change old new) head_fields

-- the first field that differs and isn't switched on
unfoldable pub first_refused : Change → Head → Head → Option HeadField
first_refused change old new = find (λ field. not (may_follow change old new field)) head_fields

-- ---- the same in other words

abbrev pub IsAllowed : Change → Head → Head → Type 0
IsAllowed change old new = (field : HeadField) → text_in field old ≢ text_in field new → is_on change field ≡ true

abbrev pub place_of : HeadField → ℕ
place_of Origin = 0
place_of Label = 1
place_of Suite = 2
place_of Codename = 3

-- the field differs and isn't switched on, and each field before it stays or is
pub record IsFirstRefused (change : Change) (old new : Head) (field : HeadField) : Type 0 where
  pub differs : text_in field old ≢ text_in field new
  pub off : is_on change field ≡ false
  pub before : (other : HeadField) → place_of other < place_of field → text_in other old ≢ text_in other new → is_on change other ≡ true
