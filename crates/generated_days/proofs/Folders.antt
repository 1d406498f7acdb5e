-- How many bytes the lists of a folder at rest have.
use Rattle.std.proofs.Common.{◌≡◌, ◌≢◌, ◌∙◌, ℕ, ◌+◌, Bool, true, false, if◌then◌else◌, List, [], ◌∷◌, length, Option, Some, None, refl, sym, ap, subst, arith}
use Rattle.std.specs.Prelude.{AllPairs, Contains, IsSome, option_map, unwrap_or}
use Rattle.std.specs.Ordering.{is_eq, nat_cmp}
use Rattle.std.specs.Str.{bytes_eq}
use Rattle.std.specs.Cmp.Lexicographic.{slice_cmp}
use Rattle.std.specs.List.{sum_by}
use Rattle.std.proofs.lemmas.List.Sums.{sum_by-cons}
use Rattle.std.proofs.lemmas.Map.Text.{is_eq-slice_cmp}
use Rattle.std.proofs.lemmas.Slice.Eq.{bytes_eq-Decides}
use Rattle.std.specs.declared.cmp.Ordering.TheVariants.{Less}
use Rattle.acq_outside.specs.Disk.{Files, IsNames}
use Rattle.acq_outside.specs.Crash.{State, IsShown}
use Rattle.acq_outside.specs.States.{ToldAs}
use Rattle.journal_model.specs.Names.{is_installed_name}
use Rattle.journal_model.specs.Reopen.{installed_now}
use Rattle.journal_model.specs.Rest.{IsAtRest}
use Rattle.list_commits.specs.SetLaws.{HasInstalledFilesAlone}
use Rattle.generated_days.specs.Days.{HasBytes}
use Rattle.generated_days.specs.Sizes.{size_in}

-- at rest that is the size of the list
same-size : (files lists : Files) → ((name : List ℕ) → is_installed_name name ≡ true → files name ≡ lists name) → HasInstalledFilesAlone lists → (name : List ℕ) → size_in files name ≡ length (unwrap_or (lists name) [])
same-size files lists are alone name = by (is_installed_name name) refl
  where
    size : (o : Option (List ℕ)) → unwrap_or (option_map length o) 0 ≡ length (unwrap_or o [])
    size None = refl
    size (Some bytes) = refl

    by : (c : Bool) → is_installed_name name ≡ c → (if c then unwrap_or (option_map length (files name)) 0 else 0) ≡ length (unwrap_or (lists name) [])
    by true is = size (files name) ∙ ap (λ (o : Option (List ℕ)). length (unwrap_or o [])) (are name is)
    by false is = sym (ap (λ (o : Option (List ℕ)). length (unwrap_or o [])) (alone name is))

same-sum : (f g : List ℕ → ℕ) (names : List (List ℕ)) → ((name : List ℕ) → f name ≡ g name) → sum_by f names ≡ sum_by g names
same-sum f g [] same = refl
same-sum f g (name ∷ names) same =
    sum_by-cons f name names ∙ sum-up _ _ _ _ (same name) (same-sum f g names same) ∙ sym (sum_by-cons g name names)
  where
    sum-up : (a b c d : ℕ) → a ≡ c → b ≡ d → a + b ≡ c + d
    sum-up a b c d same other = omega (arith, same, other)

-- names in byte order are different ones
not-less : (a b : List ℕ) → slice_cmp nat_cmp a b ≡ Less → a ≡ b → ⊥
not-less a b less same =
    let test : is_eq (slice_cmp nat_cmp a b) ≡ bytes_eq a b = is_eq-slice_cmp a b in
    let equal : bytes_eq a b ≡ true = (bytes_eq-Decides a b).1 same in
    let other : is_eq (slice_cmp nat_cmp a b) ≡ false = ap is_eq less in
    absurd (cc)

names-once : (names : List (List ℕ)) → AllPairs (λ a b. slice_cmp nat_cmp a b ≡ Less) names → AllPairs (λ a b. a ≢ b) names
names-once names sorted = λ i j d low high same. not-less _ _ (sorted i j d low high) same

-- ---- a folder

module _
    (files : Files) (trace : List State) (shown : IsShown true files trace) (rests : ToldAs (IsAtRest (installed_now trace)) trace) (alone : HasInstalledFilesAlone (installed_now trace)) where
  lists-are : (name : List ℕ) → is_installed_name name ≡ true → files name ≡ installed_now trace name
  lists-are = by trace shown (installed_now trace) rests
    where
      by : (trace : List State) → IsShown true files trace → (lists : Files) → ToldAs (IsAtRest lists) trace → (name : List ℕ) → is_installed_name name ≡ true → files name ≡ lists name
      by [] shown lists rests = absurd rests
      by (s ∷ past) shown lists rests = λ name is. ap (λ (f : Files). f name) shown.1 ∙ rests.lists_are name is

  all-there : (names : List (List ℕ)) → IsNames files names → (name : List ℕ) → IsSome (installed_now trace name) → Contains names name
  all-there names are name some = by (is_installed_name name) refl
    where
      by : (c : Bool) → is_installed_name name ≡ c → Contains names name
      by true is = are.complete name (subst (λ (o : Option (List ℕ)). IsSome o) (sym (lists-are name is)) some)
      by false is =
          let none : IsSome {T = List ℕ} None = subst (λ (o : Option (List ℕ)). IsSome o) (alone name is) some in
          absurd (cc)

  pub has-bytes : (names : List (List ℕ)) (bytes : ℕ) → IsNames files names → bytes ≡ sum_by (size_in files) names → HasBytes (installed_now trace) bytes
  has-bytes names bytes are is = record {
    names = names;
    once = names-once names are.sorted;
    all = all-there names are;
    is = is ∙ same-sum (size_in files) (λ name. length (unwrap_or (installed_now trace name) [])) names (same-size files (installed_now trace) lists-are alone);
  }
