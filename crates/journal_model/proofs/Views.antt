-- What a crash leaves, as names over bytes, and which lists that stands for.
use Rattle.std.proofs.Common.{◌≡◌, ◌≢◌, refl, ap, ◌∙◌, subst, arith, ℕ, nat_eq, Bool, true, false, if◌then◌else◌, List, [], ◌∷◌, ◌++◌, drop, Option, Some, None, option_map}
use Rattle.std.proofs.Math.Path.{fun_ext}
use Rattle.std.proofs.lemmas.Bool.Decides.{nat_tests}
use Rattle.std.proofs.lemmas.Bool.{or_right}
use Rattle.acq_outside.specs.Disk.{Files, same_name}
use Rattle.acq_outside.specs.Crash.{Names, State, IsOutcome, IsSubsequence, none, left_out, taken, IsImage, all_renamed, renamed, with_name, moved_name, file_at, names_of, reads, seen_at}
use Rattle.acq_outside.specs.declared.state.NameChange.{NameChange}
use Rattle.acq_outside.specs.declared.state.NameChange.TheVariants.{Made, Moved, Removed}
use Rattle.journal_model.specs.Names.{journal, lock, partial, is_partial, is_own_name, is_installed_name}
use Rattle.journal_model.specs.Steps.{moved_at, after_step, after_steps}
use Rattle.journal_model.specs.Reading.{journal_state_in}
use Rattle.journal_model.specs.Reopen.{installed_files, opened, reopened, IsAsOf, ReopensAsAt}
use Rattle.journal_model.specs.Rest.{ChangesNoInstalledName, AllChangeNoInstalledName}
use Rattle.journal_model.proofs.FolderNames.{list_parts}
use Rattle.journal_model.proofs.Twice.{with_other}
use Rattle.journal_model.specs.declared.step.Step.{Step}
use Rattle.journal_model.specs.declared.step.Step.TheVariants.{Put, Drop}
use Rattle.journal_model.specs.declared.step.JournalState.{JournalState}

abbrev pub view : Names → (ℕ → List ℕ) → Files
view m bytes = λ name. option_map bytes (m name)

pub image_view : (s : State) (image : Files) (is : IsImage s image) → image ≡ view (all_renamed s.base is.some) is.bytes
image_view s image is = fun_ext is.shows

pub settled_names : (s : State) → s.pending ≡ [] → names_of s ≡ s.base
settled_names s settled = ap (all_renamed s.base) settled

pub part_none : (all : List NameChange) → IsSubsequence [] all
part_none [] = none
part_none (change ∷ all) = left_out change (part_none all)

-- a crash may leave no change of names
abbrev pub view_image : (s : State) (bytes : ℕ → List ℕ) → ((i : ℕ) → IsOutcome (file_at s.files i) (bytes i)) → IsImage s (view s.base bytes)
view_image s bytes outcomes = record { some = []; part = part_none s.pending; bytes = bytes; outcomes = outcomes; shows = λ name. refl }

pub as_self : (s : State) (image : Files) → IsImage s image → IsAsOf s image
as_self s image is = record { before = image; was = is; same = refl }

pub as_by_steps : (a b c : State) → ReopensAsAt a b → ReopensAsAt b c → ReopensAsAt a c
as_by_steps a b c first later image is =
    let second = later image is in
    let earlier = first second.before second.was in
    record { before = earlier.before; was = earlier.was; same = second.same ∙ earlier.same }

-- Steps on names or on what they lead to are the same.
map_moved : (bytes : ℕ → List ℕ) (m : Names) (from to : List ℕ) (x : Option ℕ) (name : List ℕ) → option_map bytes (moved_at m from to x name) ≡ moved_at (view m bytes) from to (option_map bytes x) name
map_moved bytes m from to None name = refl
map_moved bytes m from to (Some i) name = by (same_name to name) (same_name from name)
  where
    by : (a b : Bool) → option_map bytes (if a then Some i else (if b then None else m name)) ≡ (if a then Some (bytes i) else (if b then None else option_map bytes (m name)))
    by true b = refl
    by false true = refl
    by false false = refl

map_step : (bytes : ℕ → List ℕ) (m : Names) (step : Step) (name : List ℕ) → view (after_step m step) bytes name ≡ after_step (view m bytes) step name
map_step bytes m (Put n) name = map_moved bytes m (partial n) n (m (partial n)) name
map_step bytes m (Drop n) name = by (same_name n name)
  where
    by : (b : Bool) → option_map bytes (if b then None else m name) ≡ (if b then None else option_map bytes (m name))
    by true = refl
    by false = refl

pub map_carried : (bytes : ℕ → List ℕ) (steps : List Step) (m : Names) → view (after_steps m steps) bytes ≡ after_steps (view m bytes) steps
map_carried bytes [] m = refl
map_carried bytes (step ∷ steps) m = map_carried bytes steps (after_step m step) ∙ ap (λ (f : Files). after_steps f steps) (fun_ext (map_step bytes m step))

-- what a view stands for, by its gate
pub gated_view : (m : Names) (bytes : ℕ → List ℕ) (gate : JournalState) → journal_state_in (option_map bytes (m journal)) ≡ gate → reopened (view m bytes) ≡ opened (view m bytes) gate
gated_view m bytes gate is = ap (opened (view m bytes)) is

-- Names aside, and lists.
pub apart_names : (a b : List ℕ) → is_own_name a ≡ true → is_own_name b ≡ false → a ≢ b
apart_names a b aside outside same = let also : is_own_name b ≡ true = subst (λ (n : List ℕ). is_own_name n ≡ true) same aside in absurd cc

pub partial_aside : (name : List ℕ) → is_own_name (partial name) ≡ true
partial_aside name = or_right (same_name (partial name) lock) (is_partial (partial name)) refl

-- two lists on their way under one name are one
pub partial_one : (a b : List ℕ) → partial a ≡ partial b → a ≡ b
partial_one a b is = ap (drop 8) is

pub partial_apart : (a b : List ℕ) → (a ≡ b → ⊥) → partial a ≡ partial b → ⊥
partial_apart a b apart is = apart (partial_one a b is)

pub partial_not_journal : (name : List ℕ) → partial name ≢ journal
partial_not_journal name = apart_names (partial name) journal (partial_aside name) refl

pub list_not_aside : (name : List ℕ) → is_installed_name name ≡ true → is_own_name name ≡ false
list_not_aside name list = (list_parts name list).1

pub list_not_journal : (name : List ℕ) → is_installed_name name ≡ true → name ≢ journal
list_not_journal name list is = let wrong : is_installed_name journal ≡ true = subst (λ (n : List ℕ). is_installed_name n ≡ true) is list in absurd cc

off_one : (m : Names) (change : NameChange) (name : List ℕ) → ChangesNoInstalledName change → is_own_name name ≡ false → renamed m change name ≡ m name
off_one m (Made other i) name aside outside = with_other m other (Some i) name (apart_names other name aside outside)
off_one m (Moved from to) name aside outside = moved_off m from to (m from) name (apart_names from name aside.0 outside) (apart_names to name aside.1 outside)
  where
    moved_off : (m : Names) (from to : List ℕ) (x : Option ℕ) (name : List ℕ) → from ≢ name → to ≢ name → moved_name m from to x name ≡ m name
    moved_off m from to None name f t = refl
    moved_off m from to (Some i) name f t = with_other (with_name m from None) to (Some i) name t ∙ with_other m from None name f
off_one m (Removed other) name aside outside = with_other m other None name (apart_names other name aside outside)

-- changes aside change no other name
pub off_all : (m : Names) (changes : List NameChange) (name : List ℕ) → AllChangeNoInstalledName changes → is_own_name name ≡ false → all_renamed m changes name ≡ m name
off_all m [] name aside outside = refl
off_all m (change ∷ changes) name aside outside = off_all (renamed m change) changes name aside.1 outside ∙ off_one m change name aside.0 outside

pub part_aside : (some all : List NameChange) → IsSubsequence some all → AllChangeNoInstalledName all → AllChangeNoInstalledName some
part_aside some all none aside = tt
part_aside some all (left_out change part) aside = part_aside _ _ part aside.1
part_aside some all (taken change part) aside = (aside.0, part_aside _ _ part aside.1)

pub more_aside : (changes : List NameChange) (change : NameChange) → AllChangeNoInstalledName changes → ChangesNoInstalledName change → AllChangeNoInstalledName (changes ++ change ∷ [])
more_aside [] change aside one = (one, tt)
more_aside (first ∷ changes) change aside one = (aside.0, more_aside changes change aside.1 one)

-- lists are the same where the names and the bytes of lists are
pub lists_same : (m n : Names) (a b : ℕ → List ℕ) → ((name : List ℕ) → is_installed_name name ≡ true → m name ≡ n name) → ((name : List ℕ) (i : ℕ) → is_installed_name name ≡ true → n name ≡ Some i → a i ≡ b i) → installed_files (view m a) ≡ installed_files (view n b)
lists_same m n a b names bytes = fun_ext (λ name. at name (is_installed_name name) refl)
  where
    there : (name : List ℕ) → is_installed_name name ≡ true → (o : Option ℕ) → n name ≡ o → option_map a o ≡ option_map b o
    there name list None is = refl
    there name list (Some i) is = ap (λ (c : List ℕ). Some c) (bytes name i list is)

    at : (name : List ℕ) (t : Bool) → is_installed_name name ≡ t → (if t then view m a name else None) ≡ (if t then view n b name else None)
    at name true list = ap (option_map a) (names name list) ∙ there name list (n name) refl
    at name false list = refl

pub files_same : (a b : Files) → ((name : List ℕ) → is_installed_name name ≡ true → a name ≡ b name) → installed_files a ≡ installed_files b
files_same a b same = fun_ext (λ name. at name (is_installed_name name) refl)
  where
    at : (name : List ℕ) (t : Bool) → is_installed_name name ≡ t → (if t then a name else None) ≡ (if t then b name else None)
    at name true list = same name list
    at name false list = refl

-- what reads give, as a view
pub reads_view : (s : State) → reads s ≡ view (names_of s) (λ i. (file_at s.files i).seen)
reads_view s = fun_ext (λ name. at (names_of s name))
  where
    at : (o : Option ℕ) → seen_at s.files o ≡ option_map (λ i. (file_at s.files i).seen) o
    at None = refl
    at (Some i) = refl

-- one file's bytes in place of others
pub instead : ℕ → List ℕ → (ℕ → List ℕ) → ℕ → List ℕ
instead j content bytes = λ i. if nat_eq i j then content else bytes i

pub instead_same : (j : ℕ) (content : List ℕ) (bytes : ℕ → List ℕ) → instead j content bytes j ≡ content
unfolding instead
instead_same j content bytes = let same : nat_eq j j ≡ true = grind (arith, nat_tests) in rw same refl

pub instead_other : (j : ℕ) (content : List ℕ) (bytes : ℕ → List ℕ) (i : ℕ) → i ≢ j → instead j content bytes i ≡ bytes i
unfolding instead
instead_other j content bytes i differ = let other : nat_eq i j ≡ false = grind (arith, nat_tests) in rw other refl
