-- The entry of a history by its place, the patches taken one after another, and the limits without their products.
use Rattle.std.proofs.Common.{◌≡◌, ◌∙◌, ℕ, zero, suc, ◌+◌, ◌*◌, ◌/◌, ◌<◌, ◌≤◌, true, false, List, [], ◌∷◌, ◌++◌, length, drop, get_or, drop-cons, Some, None, Result, Ok, Err, refl, sym, ap, append_assoc, arith, nat_lt}
use Rattle.std.specs.Prelude.{if◌then◌else◌}
use Rattle.std.proofs.lemmas.Bool.Decides.{nat_tests}
use Rattle.std.proofs.lemmas.List.{drop_all, append-nil}
use Rattle.acq_base.specs.declared.sum.Sum.{Sum}
use Rattle.pdiff_index.specs.Chain.{or_lines, same_sum, entry_on, sum_named, put_first, patches_of}
use Rattle.pdiff_index.specs.declared.index.Step.{Step}
use Rattle.pdiff_index.specs.declared.error.NoChain.{NoChain}
use Rattle.pdiff_index.specs.declared.error.NoChain.TheVariants.{NoPatch}

-- ---- the entry

entry-cons : (line : Step) (lines : List Step) (have : Sum) → entry_on lines have ≡ None → entry_on (line ∷ lines) have ≡ (if same_sum line.sum have then Some (line ∷ lines) else None)
entry-cons line lines have none = ap (λ o. or_lines o (if same_sum line.sum have then Some (line ∷ lines) else None)) none

-- no line behind has the sum, nor this one
pub entry-none : (history : List Step) (i : ℕ) (line : Step) (have : Sum) → i < length history → line ≡ get_or history i line → same_sum line.sum have ≡ false → entry_on (drop (i + 1) history) have ≡ None → entry_on (drop i history) have ≡ None
entry-none history i line have within here other none =
    let next_place : i + 1 ≡ suc i = omega arith in
    let behind : entry_on (drop (suc i) history) have ≡ None = ap (λ k. entry_on (drop k history) have) (sym next_place) ∙ none in
    let cut : drop i history ≡ line ∷ drop (suc i) history = drop-cons history i line within ∙ ap (λ (x : Step). x ∷ drop (suc i) history) (sym here) in
    ap (λ (ls : List Step). entry_on ls have) cut ∙ entry-cons line (drop (suc i) history) have behind ∙ rw other refl

found-behind : (history : List Step) (i : ℕ) (have : Sum) (lines : List Step) → entry_on (drop i history) have ≡ Some lines → entry_on history have ≡ Some lines
found-behind history zero have lines e = e
found-behind [] (suc i) have lines e = e
found-behind (line ∷ history) (suc i) have lines e = rw (found-behind history i have lines e) refl

-- no line behind has the sum, and this one does
pub entry-found : (history : List Step) (i : ℕ) (line : Step) (have : Sum) → i < length history → line ≡ get_or history i line → same_sum line.sum have ≡ true → entry_on (drop (i + 1) history) have ≡ None → Some (drop i history) ≡ entry_on history have
entry-found history i line have within here same none =
    let next_place : i + 1 ≡ suc i = omega arith in
    let behind : entry_on (drop (suc i) history) have ≡ None = ap (λ k. entry_on (drop k history) have) (sym next_place) ∙ none in
    let cut : drop i history ≡ line ∷ drop (suc i) history = drop-cons history i line within ∙ ap (λ (x : Step). x ∷ drop (suc i) history) (sym here) in
    sym (found-behind history i have (drop i history) (ap (λ (ls : List Step). entry_on ls have) cut ∙ entry-cons line (drop (suc i) history) have behind ∙ rw same (ap (λ (ls : List Step). Some ls) (sym cut))))

-- ---- the patches

abbrev pub behind : List Step → Result (List Step) NoChain → Result (List Step) NoChain
behind found (Ok rest) = Ok (found ++ rest)
behind found (Err cause) = Err cause

behind-put : (found : List Step) (sum : Sum) (name : List ℕ) (rest : Result (List Step) NoChain) → behind found (put_first (Some sum) name rest) ≡ behind (found ++ record { sum = sum; name = name } ∷ []) rest
behind-put found sum name (Ok rest) = ap (λ (ss : List Step). Ok ss) (sym (append_assoc found (record { sum = sum; name = name } ∷ []) rest))
behind-put found sum name (Err cause) = refl

line_at : (patches lines : List Step) (i : ℕ) (line : Step) → i < length lines → line ≡ get_or lines i line → patches_of patches (drop i lines) ≡ put_first (sum_named patches line.name) line.name (patches_of patches (drop (suc i) lines))
line_at patches lines i line within here =
    ap (patches_of patches) (drop-cons lines i line within ∙ ap (λ (x : Step). x ∷ drop (suc i) lines) (sym here))

pub behind-nothing : (result : Result (List Step) NoChain) → behind [] result ≡ result
behind-nothing (Ok rest) = refl
behind-nothing (Err cause) = refl

pub more_found : (patches lines found : List Step) (i : ℕ) (line : Step) (sum : Sum) → i < length lines → line ≡ get_or lines i line → Some sum ≡ sum_named patches line.name → behind found (patches_of patches (drop i lines)) ≡ patches_of patches lines → behind (found ++ record { sum = sum; name = line.name } ∷ []) (patches_of patches (drop (i + 1) lines)) ≡ patches_of patches lines
more_found patches lines found i line sum within here is so_far =
    let next_place : i + 1 ≡ suc i = omega arith in
    ap (λ k. behind (found ++ record { sum = sum; name = line.name } ∷ []) (patches_of patches (drop k lines))) next_place
    ∙ sym (behind-put found sum line.name (patches_of patches (drop (suc i) lines)))
    ∙ ap (λ o. behind found (put_first o line.name (patches_of patches (drop (suc i) lines)))) is
    ∙ ap (behind found) (sym (line_at patches lines i line within here)) ∙ so_far

pub none_found : (patches lines found : List Step) (i : ℕ) (line : Step) → i < length lines → line ≡ get_or lines i line → None ≡ sum_named patches line.name → behind found (patches_of patches (drop i lines)) ≡ patches_of patches lines → Err (NoPatch line.name) ≡ patches_of patches lines
none_found patches lines found i line within here isnt so_far =
    ap (λ o. behind found (put_first o line.name (patches_of patches (drop (suc i) lines)))) isnt
    ∙ ap (behind found) (sym (line_at patches lines i line within here)) ∙ so_far

pub all_found : (patches lines found : List Step) (i : ℕ) → length lines ≤ i → behind found (patches_of patches (drop i lines)) ≡ patches_of patches lines → Ok found ≡ patches_of patches lines
all_found patches lines found i all so_far =
    ap (λ (ss : List Step). Ok ss) (sym (append-nil found)) ∙ ap (λ (ls : List Step). behind found (patches_of patches ls)) (sym (drop_all i lines all)) ∙ so_far

-- ---- the limits

-- a limit in percent is passed exactly where a hundredth of the product is
pub percent : (limit total : ℕ) → nat_lt (limit / 100) total ≡ nat_lt limit (100 * total)
percent limit total = grind (arith, nat_tests)
