-- What changes make of the lists, name by name.
use Rattle.std.proofs.Common.{◌≡◌, ◌≢◌, refl, ap, ◌∙◌, ℕ, Bool, true, false, if◌then◌else◌, List, [], ◌∷◌, ◌++◌, map, Option, Some, None, option_map, IfSome}
use Rattle.std.specs.List.{AllByRecursion as Each}
use Rattle.acq_base.specs.Sum.{sum_of}
use Rattle.acq_base.specs.declared.uri.ListName.{ListName}
use Rattle.acq_outside.specs.Disk.{Files, with_file}
use Rattle.journal_model.specs.Names.{is_installed_name}
use Rattle.journal_model.proofs.Twice.{with_same, with_other}
use Rattle.update_model.specs.Files.{sum_of_body}
use Rattle.update_model.specs.declared.ask.Body.{Body}
use Rattle.update_model.specs.declared.ask.Body.TheVariants as bodies
use Rattle.commit_journal.specs.declared.changing.Change.{Change}
use Rattle.commit_journal.specs.declared.changing.Change.TheVariants.{Put, Drop}
use Rattle.commit_journal.specs.declared.changing.Content.TheVariants.{Held}
use Rattle.commit_journal.specs.Changes.{content_of, filled, filled_one, folder_step, folder_steps, IsNone, AreApart}
use Rattle.list_commits.specs.Changes.{content_for, drop_for, put_for, release_for}
use Rattle.list_commits.specs.SetLaws.{HasSum}

-- the name whose file changes
abbrev pub name_in : Change → List ℕ
name_in (Put name content) = name.0
name_in (Drop name) = name

abbrev pub names_in : List Change → List (List ℕ)
names_in [] = []
names_in (change ∷ changes) = name_in change ∷ names_in changes

-- what is there under it afterwards
abbrev pub there_after : (List ℕ → List ℕ) → Change → Option (List ℕ)
there_after part (Put name content) = Some (content_of part name.0 content)
there_after part (Drop name) = None

step_at : (part : List ℕ → List ℕ) (folder : Files) (change : Change) → is_installed_name (name_in change) ≡ true → folder_step folder (filled_one part change) (name_in change) ≡ there_after part change
step_at part folder (Put name content) list = rw list (with_same folder name.0 (Some (content_of part name.0 content)) name.0 refl)
step_at part folder (Drop name) list = rw list (with_same folder name None name refl)

step_beside : (part : List ℕ → List ℕ) (folder : Files) (change : Change) (name : List ℕ) → name_in change ≢ name → folder_step folder (filled_one part change) name ≡ folder name
step_beside part folder (Put list content) name differ = by (is_installed_name list.0)
  where
    by : (t : Bool) → (if t then with_file folder list.0 (Some (content_of part list.0 content)) else folder) name ≡ folder name
    by true = with_other folder list.0 (Some (content_of part list.0 content)) name differ
    by false = refl
step_beside part folder (Drop list) name differ = by (is_installed_name list)
  where
    by : (t : Bool) → (if t then with_file folder list None else folder) name ≡ folder name
    by true = with_other folder list None name differ
    by false = refl

pub steps_beside : (part : List ℕ → List ℕ) (changes : List Change) (folder : Files) (name : List ℕ) → IsNone name (names_in changes) → folder_steps (filled part changes) folder name ≡ folder name
steps_beside part [] folder name none = refl
steps_beside part (change ∷ changes) folder name none = steps_beside part changes (folder_step folder (filled_one part change)) name none.1 ∙ step_beside part folder change name none.0

-- each is the name of a list
abbrev pub AllLists : List (List ℕ) → Type 0
AllLists [] = Unit {0}
AllLists (name ∷ names) = (is_installed_name name ≡ true) × AllLists names

-- one of the changes
pub one_made : (part : List ℕ → List ℕ) (before : List Change) (change : Change) (rest : List Change) (folder : Files) → AreApart (names_in (before ++ change ∷ rest)) → AllLists (names_in (before ++ change ∷ rest))
    → folder_steps (filled part (before ++ change ∷ rest)) folder (name_in change) ≡ there_after part change
one_made part [] change rest folder apart lists =
    steps_beside part rest (folder_step folder (filled_one part change)) (name_in change) apart.0 ∙ step_at part folder change lists.0
one_made part (first ∷ before) change rest folder apart lists = one_made part before change rest (folder_step folder (filled_one part first)) apart.1 lists.1

sum_is : (part : List ℕ → List ℕ) (name : ListName) (body : Body) → HasSum part name body → sum_of (content_of part name.0 (content_for body)) ≡ sum_of_body body
sum_is part name (bodies.Bytes bytes) has = refl
sum_is part name (bodies.Staged sum) has = has

put_made : (part : List ℕ → List ℕ) (put : ListName × Body) (rest : List Change) (folder : Files) → AreApart (names_in (put_for put ∷ rest)) → AllLists (names_in (put_for put ∷ rest)) → HasSum part put.0 put.1
    → option_map sum_of (folder_steps (filled part (put_for put ∷ rest)) folder put.0.0) ≡ Some (sum_of_body put.1)
put_made part put rest folder apart lists has =
    ap (option_map sum_of) (one_made part [] (put_for put) rest folder apart lists) ∙ ap (λ s. Some s) (sum_is part put.0 put.1 has)

-- the puts
pub puts_made : (part : List ℕ → List ℕ) (puts : List (ListName × Body)) (rest : List Change) (folder : Files) → AreApart (names_in (map put_for puts ++ rest)) → AllLists (names_in (map put_for puts ++ rest)) → Each (λ put. HasSum part put.0 put.1) puts
    → Each (λ put. option_map sum_of (folder_steps (filled part (map put_for puts ++ rest)) folder put.0.0) ≡ Some (sum_of_body put.1)) puts
puts_made part [] rest folder apart lists have = tt
puts_made part (put ∷ puts) rest folder apart lists have =
    (put_made part put (map put_for puts ++ rest) folder apart lists have.0, puts_made part puts rest (folder_step folder (filled_one part (put_for put))) apart.1 lists.1 have.1)

-- the removals
drops_alone : (part : List ℕ → List ℕ) (drops : List ListName) (folder : Files) → AreApart (names_in (map drop_for drops)) → AllLists (names_in (map drop_for drops)) → Each (λ name. folder_steps (filled part (map drop_for drops)) folder name.0 ≡ None) drops
drops_alone part [] folder apart lists = tt
drops_alone part (name ∷ drops) folder apart lists =
    (one_made part [] (drop_for name) (map drop_for drops) folder apart lists, drops_alone part drops (folder_step folder (filled_one part (drop_for name))) apart.1 lists.1)

pub drops_made : (part : List ℕ → List ℕ) (before : List Change) (drops : List ListName) (folder : Files) → AreApart (names_in (before ++ map drop_for drops)) → AllLists (names_in (before ++ map drop_for drops))
    → Each (λ name. folder_steps (filled part (before ++ map drop_for drops)) folder name.0 ≡ None) drops
drops_made part [] drops folder apart lists = drops_alone part drops folder apart lists
drops_made part (first ∷ before) drops folder apart lists = drops_made part before drops (folder_step folder (filled_one part first)) apart.1 lists.1

-- the Release, if there is one
pub release_made : (part : List ℕ → List ℕ) (before : List Change) (name : ListName) (release : Option (List ℕ)) (rest : List Change) (folder : Files) → AreApart (names_in (before ++ (release_for name release ++ rest))) → AllLists (names_in (before ++ (release_for name release ++ rest)))
    → IfSome release (λ bytes. folder_steps (filled part (before ++ (release_for name release ++ rest))) folder name.0 ≡ Some bytes)
release_made part before name None rest folder apart lists = tt
release_made part before name (Some bytes) rest folder apart lists = one_made part before (Put name (Held bytes)) rest folder apart lists
