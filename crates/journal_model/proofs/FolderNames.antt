-- Names that stay in the folder.
use Rattle.std.proofs.Common.{◌≡◌, refl, sym, ap, ◌∙◌, ℕ, Bool, true, false, not, ◌&&◌, ◌||◌, if◌then◌else◌, List, drop}
use Rattle.acq_outside.specs.Disk.{same_name}
use Rattle.journal_model.specs.Names.{journal, lock, is_partial, is_own_name, is_file_name, is_inside, is_installed_name}

-- a name in the folder itself stays in it where it is a file's, and one behind `partial/` where what is behind is
pub plain_inside : (name : List ℕ) → is_partial name ≡ false → is_file_name name ≡ is_inside name
plain_inside name plain = ap (λ (b : Bool). is_file_name (if b then drop 8 name else name)) (sym plain)

pub behind_front : (name file : List ℕ) → is_partial name ≡ true → file ≡ drop 8 name → is_file_name file ≡ is_inside name
behind_front name file front is = ap is_file_name is ∙ ap (λ (b : Bool). is_file_name (if b then drop 8 name else name)) (sym front)

-- a list's name is a file's, and none of the program's own
list_case : (j o f : Bool) → ((not j && not o) && f) ≡ true → (j ≡ false) × (o ≡ false) × (f ≡ true)
list_case true o f is = absurd cc
list_case false true f is = absurd cc
list_case false false f is = (refl, refl, is)

pub list_parts : (name : List ℕ) → is_installed_name name ≡ true → (same_name name journal ≡ false) × (is_own_name name ≡ false) × (is_file_name name ≡ true)
list_parts name list = list_case (same_name name journal) (is_own_name name) (is_file_name name) list

pub not_partial : (name : List ℕ) → is_own_name name ≡ false → is_partial name ≡ false
not_partial name other = one (same_name name lock) (is_partial name) other
  where
    one : (l p : Bool) → (l || p) ≡ false → p ≡ false
    one true p is = absurd cc
    one false p is = is

pub list_inside : (name : List ℕ) → is_installed_name name ≡ true → is_inside name ≡ true
list_inside name list = let parts = list_parts name list in sym (plain_inside name (not_partial name parts.1)) ∙ parts.2

-- and such a name is a list's
pub list_if : (name : List ℕ) → same_name name journal ≡ false → same_name name lock ≡ false → is_partial name ≡ false → is_file_name name ≡ true → is_installed_name name ≡ true
list_if name no_journal no_lock plain file = rw (no_journal, no_lock, plain, file) refl
