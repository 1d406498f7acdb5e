-- A source's patch makes its second list of its first.
use Rattle.std.proofs.Common.{◌≡◌, ℕ, zero, suc, ◌+◌, ◌*◌, ◌%◌, ◌<◌, ◌==◌, List, [], ◌∷◌, ◌++◌, length, map, codes, decimal, inl, inr, refl, sym, ap, ◌∙◌, subst, append_assoc, append-nil, length-append, arith}
use Rattle.std.specs.List.{AllByRecursion as Each, concat}
use Rattle.std.proofs.lemmas.Bool.{cases_Bool}
use Rattle.std.proofs.lemmas.Grind.{flat_map-append}
use Rattle.std.proofs.lemmas.List.{map-append}
use Rattle.std.proofs.lemmas.List.Folds.{concat-append}
use Rattle.ed_apply.specs.Edits.{Edits, edited, file_lines}
use Rattle.ed_apply.specs.Spelling.{with_feeds}
use Rattle.ed_apply.specs.declared.script.Hunk.{Hunk}
use Rattle.mirror_maker.specs.Draws.{next}
use Rattle.mirror_maker.specs.Lists.{later, list_from, version_on}
use Rattle.mirror_maker.specs.Made.{lists_in, state_of}
use Rattle.mirror_maker.specs.Packages.{count_from, packages as so_many, packages_from}
use Rattle.mirror_maker.specs.Patch.{IsPatch}
use Rattle.mirror_maker.specs.declared.lists.Day.{Day}
use Rattle.mirror_maker.specs.declared.lists.Day.TheVariants.{First, Second}
use Rattle.mirror_maker.specs.declared.packages.Package.{Package}
use Rattle.mirror_maker.proofs.Commands.{changes_at, changes_from, hunk, hunks_from, patch_spelled, script_of_packages, text}
use Rattle.mirror_maker.proofs.Lines.{IsLine, ended, line_append, lines_of, number_line}

-- ---- the lines of a list

abbrev package_lines : ℕ → ℕ → ℕ → List (List ℕ)
package_lines place version size =
    (codes "Package: p" ++ decimal place) ∷ (codes "Version: " ++ decimal version) ∷ (codes "Size: " ++ decimal size) ∷ [] ∷ []

abbrev list_lines : Day → ℕ → List Package → List (List ℕ)
list_lines day place [] = []
list_lines day place (one ∷ packages) = package_lines place (version_on day place one.version) one.size ++ list_lines day (suc place) packages

regrouped : (a b c : List ℕ)
    → codes "Package: p" ++ a ++ codes "\nVersion: " ++ b ++ codes "\nSize: " ++ c ++ codes "\n\n"
    ≡ with_feeds ((codes "Package: p" ++ a) ∷ (codes "Version: " ++ b) ∷ (codes "Size: " ++ c) ∷ [] ∷ [])
regrouped a b c =
    let v = codes "\nVersion: " in
    let s = codes "\nSize: " in
    let behind = c ++ codes "\n\n" in
    let two = with_feeds ((codes "Version: " ++ b) ∷ (codes "Size: " ++ c) ∷ [] ∷ []) in
    let three = with_feeds ((codes "Size: " ++ c) ∷ [] ∷ []) in
    ap (λ (t : List ℕ). codes "Package: p" ++ t)
    (append_assoc (a ++ v ++ b ++ s) c (codes "\n\n") ∙ append_assoc (a ++ v ++ b) s behind ∙ append_assoc (a ++ v) b (s ++ behind) ∙ append_assoc a v (b ++ (s ++ behind)))
    ∙ sym (ap (λ (t : List ℕ). codes "Package: p" ++ t)
    (append_assoc a (10 ∷ []) two ∙ ap (λ (t : List ℕ). a ++ (v ++ t))
    (append_assoc b (10 ∷ []) three ∙ ap (λ (t : List ℕ). b ++ (s ++ t)) (append_assoc c (10 ∷ []) (10 ∷ [])))))

list_is : (day : Day) (packages : List Package) (place : ℕ) → list_from day place packages ≡ with_feeds (list_lines day place packages)
list_is day [] place = refl
list_is day (one ∷ packages) place =
    let version = version_on day place one.version in
    let lines = package_lines place version one.size in
    ap (λ (t : List ℕ). t ++ list_from day (suc place) packages) (regrouped (decimal place) (decimal version) (decimal one.size))
    ∙ ap (λ (t : List ℕ). with_feeds lines ++ t) (list_is day packages (suc place))
    ∙ sym (flat_map-append (λ (line : List ℕ). line ++ 10 ∷ []) lines (list_lines day (suc place) packages))

abbrev IsSmall : Package → Type 0
IsSmall one = (one.version < 1000) × (one.size < 1000000)

are_lines : (packages : List Package) (place : ℕ) → place + length packages < 10000 → Each IsSmall packages → Each IsLine (list_lines First place packages)
are_lines [] place few small = tt
are_lines (one ∷ packages) place few small =
    let version = small.0.0 in
    let size = small.0.1 in (
      line_append (codes "Package: p") (decimal place) refl (number_line place (omega (arith, few))),
      (
        line_append (codes "Version: ") (decimal one.version) refl (number_line one.version (omega (arith, version))),
        (
          line_append (codes "Size: ") (decimal one.size) refl (number_line one.size (omega (arith, size))),
          (
            refl,
            are_lines packages (suc place) (omega (arith, few)) small.1,
          ),
        ),
      ),
    )

-- ---- edits

-- what stands behind the lines that hunks change is kept
more_kept : (hunks : List Hunk) (old more : List (List ℕ)) (made : List ℕ) → Edits hunks old made → Edits hunks (old ++ more) (made ++ concat more)
more_kept [] old more made is = ap (λ (t : List ℕ). t ++ concat more) is ∙ sym (concat-append old more)
more_kept (h ∷ hunks) old more made is = record {
  before = is.before;
  replaced = is.replaced;
  kept = is.kept ++ more;
  edited = is.edited;
  cut = ap (λ (t : List (List ℕ)). t ++ more) is.cut ∙ append_assoc is.before (is.replaced ++ is.kept) more
      ∙ ap (λ (t : List (List ℕ)). is.before ++ t) (append_assoc is.replaced is.kept more);
  begins = is.begins;
  ends = is.ends;
  above = is.above;
  whole = ap (λ (t : List ℕ). t ++ concat more) is.whole ∙ append_assoc is.edited (h.text ++ concat is.kept) (concat more)
      ∙ ap (λ (t : List ℕ). is.edited ++ t) (append_assoc h.text (concat is.kept) (concat more) ∙ ap (λ (t : List ℕ). h.text ++ t) (sym (concat-append is.kept more)));
}

put_together : (f a b rest : List ℕ) → f ++ (a ++ (b ++ rest)) ≡ (f ++ (a ++ [])) ++ ((b ++ []) ++ rest)
put_together f a b rest = rw (append-nil a, append-nil b) (sym (append_assoc f a (b ++ rest)))

one_changed : (place version size at : ℕ) (front : List (List ℕ)) (hunks : List Hunk) (made : List ℕ) → length front ≡ 4 * place → Edits hunks front made
    → Edits (hunk (place, version) at ∷ hunks) (front ++ map ended (package_lines place version size)) (made ++ with_feeds (package_lines place (version + 1000) size))
one_changed place version size at front hunks made long is =
    let first = ended (codes "Package: p" ++ decimal place) in
    let second = ended (codes "Version: " ++ decimal version) in
    let third = ended (codes "Size: " ++ decimal size) in
    let count = length-append front (first ∷ []) in
    record {
      before = front ++ first ∷ [];
      replaced = second ∷ [];
      kept = third ∷ (10 ∷ []) ∷ [];
      edited = made ++ concat (first ∷ []);
      cut = sym (append_assoc front (first ∷ []) (second ∷ third ∷ (10 ∷ []) ∷ []));
      begins = omega (arith, count, long);
      ends = omega (arith, count, long);
      above = more_kept hunks front (first ∷ []) made is;
      whole = put_together made first (ended (text version)) (third ++ (10 ∷ []));
    }

one_edited : (one : Package) (place at : ℕ) (front : List (List ℕ)) (hunks : List Hunk) (made : List ℕ) → length front ≡ 4 * place → Edits hunks front made
    → Edits (hunks_from at (changes_at place one.version) ++ hunks) (front ++ map ended (package_lines place one.version one.size)) (made ++ with_feeds (package_lines place (version_on Second place one.version) one.size))
unfolding later
one_edited one place at front hunks made long is =
    elim (cases_Bool (place % 10 == 0)) [
      | inl tenth ↦ rw tenth (one_changed place one.version one.size at front hunks made long is)
      | inr other ↦ rw other (more_kept hunks front (map ended (package_lines place one.version one.size)) made is)
    ]

moved : (hunks others : List Hunk) (old earlier : List (List ℕ)) (made later : List ℕ) → hunks ≡ others → old ≡ earlier → made ≡ later → Edits hunks old made → Edits others earlier later
moved hunks others old earlier made later same before behind is =
    subst (λ (hs : List Hunk). Edits hs earlier later) same (subst (λ (o : List (List ℕ)). Edits hunks o later) before (subst (λ (m : List ℕ). Edits hunks old m) behind is))

hunks_append : (cs ds : List (ℕ × ℕ)) (at : ℕ) → hunks_from at (cs ++ ds) ≡ hunks_from at cs ++ hunks_from (at + 3 * length cs) ds
hunks_append [] ds at = let same : at ≡ at + 3 * 0 = omega arith in ap (λ (k : ℕ). hunks_from k ds) same
hunks_append (c ∷ cs) ds at =
    let same : at + 3 + 3 * length cs ≡ at + 3 * suc (length cs) = omega arith in
    ap (λ (hs : List Hunk). hunk c at ∷ hs) (hunks_append cs ds (at + 3)) ∙ ap (λ (k : ℕ). hunk c at ∷ (hunks_from (at + 3) cs ++ hunks_from k ds)) same

all_edited : (packages : List Package) (place at : ℕ) (front : List (List ℕ)) (hunks : List Hunk) (made : List ℕ) → length front ≡ 4 * place → Edits hunks front made
    → Edits (hunks_from at (changes_from place packages) ++ hunks) (front ++ map ended (list_lines First place packages)) (made ++ with_feeds (list_lines Second place packages))
all_edited [] place at front hunks made long is =
    moved hunks hunks front (front ++ []) made (made ++ []) refl (sym (append-nil front)) (sym (append-nil made)) is
all_edited (one ∷ packages) place at front hunks made long is =
    let cs = changes_from (suc place) packages in
    let own = changes_at place one.version in
    let behind = at + 3 * length cs in
    let old = package_lines place one.version one.size in
    let new_lines = package_lines place (version_on Second place one.version) one.size in
    let more = list_lines First (suc place) packages in
    let later_lines = list_lines Second (suc place) packages in
    let count = length-append front (map ended old) in
    let first = one_edited one place behind front hunks made long is in
    let rest = all_edited packages (suc place) at (front ++ map ended old) (hunks_from behind own ++ hunks) (made ++ with_feeds new_lines) (omega (arith, count, long)) first in
    moved (hunks_from at cs ++ (hunks_from behind own ++ hunks)) (hunks_from at (cs ++ own) ++ hunks)
    ((front ++ map ended old) ++ map ended more) (front ++ map ended (old ++ more))
    ((made ++ with_feeds new_lines) ++ with_feeds later_lines) (made ++ with_feeds (new_lines ++ later_lines))
    (sym (ap (λ (hs : List Hunk). hs ++ hunks) (hunks_append cs own at) ∙ append_assoc (hunks_from at cs) (hunks_from behind own) hunks))
    (append_assoc front (map ended old) (map ended more) ∙ ap (λ (t : List (List ℕ)). front ++ t) (sym (map-append ended old more)))
    (append_assoc made (with_feeds new_lines) (with_feeds later_lines) ∙ ap (λ (t : List ℕ). made ++ t) (sym (flat_map-append (λ (line : List ℕ). line ++ 10 ∷ []) new_lines later_lines)))
    rest

packages_edited : (packages : List Package) → length packages < 10000 → Each IsSmall packages
    → edited (list_from First 0 packages) (script_of_packages packages) (list_from Second 0 packages)
packages_edited packages few small =
    let hunks = hunks_from 1 (changes_from 0 packages) in
    moved (hunks ++ []) hunks (map ended (list_lines First 0 packages)) (file_lines (list_from First 0 packages)) (with_feeds (list_lines Second 0 packages)) (list_from Second 0 packages)
    (append-nil hunks) (sym (ap file_lines (list_is First packages 0) ∙ lines_of (list_lines First 0 packages) (are_lines packages 0 (omega (arith, few)) small)))
    (sym (list_is Second packages 0)) (all_edited packages 0 1 [] [] [] refl refl)

-- ---- what was drawn

packages_small : (count state : ℕ) → Each IsSmall (so_many count state)
unfolding so_many
packages_small zero state = tt
packages_small (suc count) state = ((omega arith, omega arith), packages_small count (next (next state)))

packages_count : (count state : ℕ) → length (so_many count state) ≡ count
unfolding so_many
packages_count zero state = refl
packages_count (suc count) state = ap (λ (k : ℕ). suc k) (packages_count count (next (next state)))

few_packages : (state : ℕ) → length (packages_from state) < 10000
unfolding packages_from
few_packages state = let count = packages_count (count_from state) (next state) in omega (arith, count)

small_packages : (state : ℕ) → Each IsSmall (packages_from state)
unfolding packages_from
small_packages state = packages_small (count_from state) (next state)

versions : (packages : List Package) → Each IsSmall packages → Each (λ one. one.version < 1000) packages
versions [] small = tt
versions (one ∷ packages) small = (small.0.0, versions packages small.1)

pub patch_fits : (n source : ℕ) → IsPatch (lists_in n source).script (lists_in n source).first (lists_in n source).second
patch_fits n source =
    let drawn_packages = packages_from (state_of n source) in
    let few = few_packages (state_of n source) in
    let small = small_packages (state_of n source) in
    record {
      script = script_of_packages drawn_packages;
      spelled = patch_spelled drawn_packages few (versions drawn_packages small);
      makes = packages_edited drawn_packages few small;
    }
