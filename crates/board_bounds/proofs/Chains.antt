-- A patch Index leads by at most as many patches as it has lines.
use Rattle.std.proofs.Common.{◌≡◌, ◌≤◌, ℕ, suc, ◌+◌, ◌++◌, ◌||◌, ◌==◌, Bool, true, false, List, [], ◌∷◌, length, codes, Option, Some, None, Result, Ok, Err, refl, ap, arith}
use Rattle.std.specs.Prelude.{if◌then◌else◌, option_and_then, option_to_list}
use Rattle.std.specs.List.{AllByRecursion as Each}
use Rattle.std.specs.Result.{result_ok}
use Rattle.std.proofs.lemmas.List.{length-append}
use Rattle.acq_base.specs.Sum.{sum_of}
use Rattle.acq_base.specs.declared.sum.Sum.{Sum}
use Rattle.deb822_text.specs.Control.{field_named, paragraphs_of}
use Rattle.deb822_text.specs.declared.error.TextError.{TextError}
use Rattle.deb822_text.specs.declared.paragraph.Field.{Field}
use Rattle.deb822_text.specs.declared.paragraph.Paragraph.{Paragraph}
use Rattle.pdiff_index.specs.Chain.{are_too_large, are_too_many, entry_on, limited, lines_used, links, links_from, or_lines, patches_of, put_first, same_sum, sum_named, within}
use Rattle.pdiff_index.specs.Index.{completed, current_part, index_of, index_of_fields, index_of_paragraphs, index_of_text, lesser, line_below, may_stand, merged_of, refused_line, step_of_line, steps_below, steps_of, steps_part, unless_refused}
use Rattle.pdiff_index.specs.declared.error.IndexError.{IndexError}
use Rattle.pdiff_index.specs.declared.error.NoChain.{NoChain}
use Rattle.pdiff_index.specs.declared.error.NoChain.TheVariants.{Limit, WrongCurrent}
use Rattle.pdiff_index.specs.declared.index.Index.{Index}
use Rattle.pdiff_index.specs.declared.index.Step.{Step}
use Rattle.board_model.specs.CountLaws.{ChainsAreShort}
use Rattle.board_bounds.proofs.Lines.{found-short, text-short}

-- ---- the history of an Index

one-more : (o : Option Step) → length (option_to_list o) ≤ 1
one-more None = omega arith
one-more (Some step) = omega arith

below-few : (once : Bool) (above : List Step) (at : ℕ) (lines : List (List ℕ)) (steps : List Step) → steps_below once above at lines ≡ Ok steps → length steps ≤ length above + length lines
below-few once above at [] steps e = let same : above ≡ steps = cc in let count = ap length same in omega (arith, count)
below-few once above at (line ∷ lines) steps e =
    one (below-few once (above ++ option_to_list (step_of_line line)) (line_below at) lines steps) (may_stand once above (step_of_line line)) e
  where
    next : List Step
    next = above ++ option_to_list (step_of_line line)

    one : (steps_below once next (line_below at) lines ≡ Ok steps → length steps ≤ length next + length lines) → (c : Bool) → (if c then steps_below once next (line_below at) lines else Err at) ≡ Ok steps → length steps ≤ length above + suc (length lines)
    one short true e =
        let rest = short e in
        let joined = length-append above (option_to_list (step_of_line line)) in
        let more = one-more (step_of_line line) in
        omega (arith, rest, joined, more)
    one short false e = absurd (cc)

steps-few : (once : Bool) (lines : List (List ℕ)) (at : ℕ) (steps : List Step) → steps_of once lines at ≡ Ok steps → length steps ≤ length lines
unfolding steps_of
steps-few once [] at steps e = absurd (cc)
steps-few once (first ∷ lines) at steps e = one (length first == 0) e
  where
    one : (c : Bool) → (if c then steps_below once [] (line_below at) lines else Err at) ≡ Ok steps → length steps ≤ suc (length lines)
    one true e = let rest = below-few once [] (line_below at) lines steps e in omega (arith, rest)
    one false e = absurd (cc)

abbrev history_or : Result Index IndexError → List Step
history_or (Ok index) = index.history
history_or (Err refusal) = []

unrefused : (o : Option ℕ) (r : Result Index IndexError) (index : Index) → unless_refused o r ≡ Ok index → r ≡ Ok index
unrefused None r index e = e
unrefused (Some at) r index e = absurd (cc)

completed-history : (current : Option (Result Sum ℕ)) (history patches : Option (Result (List Step) ℕ)) (merged : Bool) (index : Index)
    → completed current history patches merged ≡ Ok index → history ≡ Some (Ok index.history)
completed-history (Some (Ok current)) (Some (Ok history)) (Some (Ok patches)) merged index e = ap (λ (steps : List Step). Some (Ok steps)) (ap history_or e)
completed-history None history patches merged index e = absurd (cc)
completed-history (Some (Err at)) history patches merged index e = absurd (cc)
completed-history (Some (Ok current)) None patches merged index e = absurd (cc)
completed-history (Some (Ok current)) (Some (Err at)) patches merged index e = absurd (cc)
completed-history (Some (Ok current)) (Some (Ok history)) None merged index e = absurd (cc)
completed-history (Some (Ok current)) (Some (Ok history)) (Some (Err at)) merged index e = absurd (cc)

part-few : (n : ℕ) (field : Option Field) (steps : List Step) → ((f : Field) → field ≡ Some f → length f.lines ≤ n) → steps_part false field ≡ Some (Ok steps) → length steps ≤ n
unfolding steps_part
part-few n None steps short e = absurd (cc)
part-few n (Some field) steps short e =
    let read : steps_of false field.lines field.at ≡ Ok steps = cc in
    let few = steps-few false field.lines field.at steps read in
    let lines = short field refl in
    omega (arith, few, lines)

fields-history : (n : ℕ) (fields : List Field) (index : Index) → Each (λ (f : Field). length f.lines ≤ n) fields → index_of_fields fields ≡ Ok index → length index.history ≤ n
unfolding index_of_fields
fields-history n fields index short e =
    let current = current_part (field_named fields (codes "SHA256-Current")) in
    let history = steps_part false (field_named fields (codes "SHA256-History")) in
    let patches = steps_part true (field_named fields (codes "SHA256-Patches")) in
    let merged = merged_of (field_named fields (codes "X-Patch-Precedence")) in
    let whole = unrefused (lesser (refused_line current) (lesser (refused_line history) (refused_line patches))) (completed current history patches merged) index e in
    part-few n (field_named fields (codes "SHA256-History")) index.history
    (λ f found. found-short n fields (codes "SHA256-History") f short found)
    (completed-history current history patches merged index whole)

paragraphs-history : (n : ℕ) (paragraphs : List Paragraph) (index : Index) → Each (λ (p : Paragraph). Each (λ (f : Field). length f.lines ≤ n) p.fields) paragraphs
    → index_of_paragraphs paragraphs ≡ Ok index → length index.history ≤ n
unfolding index_of_paragraphs
paragraphs-history n [] index short e = absurd (cc)
paragraphs-history n (paragraph ∷ []) index short e = fields-history n paragraph.fields index short.0 e
paragraphs-history n (paragraph ∷ other ∷ more) index short e = absurd (cc)

history-few : (bytes : List ℕ) (index : Index) → index_of bytes ≡ Ok index → length index.history ≤ suc (length bytes)
unfolding index_of
history-few bytes index e = one (paragraphs_of bytes false) refl e
  where
    one : (r : Result (List Paragraph) TextError) → paragraphs_of bytes false ≡ r → index_of_text r ≡ Ok index → length index.history ≤ suc (length bytes)
    one (Ok paragraphs) is e = paragraphs-history (suc (length bytes)) paragraphs index (text-short bytes paragraphs is) e
    one (Err refusal) is e = absurd (cc)

-- ---- the patches of a chain

entry-few : (lines : List Step) (have : Sum) (found : List Step) → entry_on lines have ≡ Some found → length found ≤ length lines
entry-few [] have found e = absurd (cc)
entry-few (line ∷ lines) have found e = one (λ later. entry-few lines have later) (entry_on lines have) refl e
  where
    two : (c : Bool) → (if c then Some (line ∷ lines) else None) ≡ Some found → length found ≤ suc (length lines)
    two true e = let same : line ∷ lines ≡ found = cc in let count = ap length same in omega (arith, count)
    two false e = absurd (cc)

    one : ((later : List Step) → entry_on lines have ≡ Some later → length later ≤ length lines) → (o : Option (List Step)) → entry_on lines have ≡ o
        → or_lines o (if same_sum line.sum have then Some (line ∷ lines) else None) ≡ Some found → length found ≤ suc (length lines)
    one few (Some later) is e =
        let same : later ≡ found = cc in
        let count = ap length same in
        let rest = few later is in
        omega (arith, count, rest)
    one few None is e = two (same_sum line.sum have) e

patches-few : (patches lines steps : List Step) → patches_of patches lines ≡ Ok steps → length steps ≤ length lines
patches-few patches [] steps e = let same : [] ≡ steps = cc in let count = ap length same in omega (arith, count)
patches-few patches (line ∷ lines) steps e = one (λ found. patches-few patches lines found) (sum_named patches line.name) (patches_of patches lines) refl e
  where
    one : ((found : List Step) → patches_of patches lines ≡ Ok found → length found ≤ length lines) → (o : Option Sum) (rest : Result (List Step) NoChain) → patches_of patches lines ≡ rest → put_first o line.name rest ≡ Ok steps → length steps ≤ suc (length lines)
    one few None rest is e = absurd (cc)
    one few (Some sum) (Err cause) is e = absurd (cc)
    one few (Some sum) (Ok found) is e =
        let same : (record { sum = sum; name = line.name }) ∷ found ≡ steps = cc in
        let count = ap length same in
        let rest = few found is in
        omega (arith, count, rest)

used-few : (merged : Bool) (lines : List Step) → length (lines_used merged lines) ≤ length lines
used-few merged [] = omega arith
used-few true (line ∷ lines) = omega arith
used-few false (line ∷ lines) = omega arith

within-same : (file_limit size_limit : ℕ) (want : Sum) (patches steps : List Step) → within file_limit size_limit want patches ≡ Ok steps → patches ≡ steps
within-same file_limit size_limit want patches steps e = one (are_too_many file_limit patches || are_too_large size_limit want.size patches) e
  where
    one : (c : Bool) → (if c then Err Limit else Ok patches) ≡ Ok steps → patches ≡ steps
    one true e = absurd (cc)
    one false e = cc

from-few : (index : Index) (lines : Option (List Step)) (want : Sum) (file_limit size_limit n : ℕ) (steps : List Step) → ((found : List Step) → lines ≡ Some found → length found ≤ n)
    → links_from index lines want file_limit size_limit ≡ Ok steps → length steps ≤ n
unfolding links_from
from-few index None want file_limit size_limit n steps few e = absurd (cc)
from-few index (Some lines) want file_limit size_limit n steps few e = one (patches_of index.patches (lines_used index.merged lines)) refl e
  where
    one : (r : Result (List Step) NoChain) → patches_of index.patches (lines_used index.merged lines) ≡ r → limited file_limit size_limit want r ≡ Ok steps → length steps ≤ n
    one (Err cause) is e = absurd (cc)
    one (Ok patches) is e =
        let same = ap length (within-same file_limit size_limit want patches steps e) in
        let listed = patches-few index.patches (lines_used index.merged lines) patches is in
        let used = used-few index.merged lines in
        let all = few lines refl in
        omega (arith, same, listed, used, all)

links-few : (index : Index) (have want : Sum) (file_limit size_limit : ℕ) (steps : List Step) → links index have want file_limit size_limit ≡ Ok steps → length steps ≤ length index.history
unfolding links
links-few index have want file_limit size_limit steps e = one (same_sum index.current want) e
  where
    one : (c : Bool) → (if c then links_from index (entry_on index.history have) want file_limit size_limit else Err WrongCurrent) ≡ Ok steps → length steps ≤ length index.history
    one true e = from-few index (entry_on index.history have) want file_limit size_limit (length index.history) steps (λ found is. entry-few index.history have found is) e
    one false e = absurd (cc)

-- ---- both

read-few : (index : Index) (have want : Sum) (file_limit size_limit : ℕ) (steps : List Step) → result_ok (links index have want file_limit size_limit) ≡ Some steps → length steps ≤ length index.history
read-few index have want file_limit size_limit steps e = one (links index have want file_limit size_limit) refl e
  where
    one : (r : Result (List Step) NoChain) → links index have want file_limit size_limit ≡ r → result_ok r ≡ Some steps → length steps ≤ length index.history
    one (Ok found) is e =
        let same : found ≡ steps = cc in
        let count = ap length same in
        let few = links-few index have want file_limit size_limit found is in
        omega (arith, count, few)
    one (Err cause) is e = absurd (cc)

-- the patches by which the bytes of an Index lead are at most one more than the bytes
pub chain-few : (bytes : List ℕ) (have want : Sum) (file_limit size_limit : ℕ) (steps : List Step)
    → option_and_then (λ index. result_ok (links index have want file_limit size_limit)) (result_ok (index_of bytes)) ≡ Some steps
    → length steps ≤ suc (length bytes)
chain-few bytes have want file_limit size_limit steps e = one (index_of bytes) refl e
  where
    one : (r : Result Index IndexError) → index_of bytes ≡ r → option_and_then (λ index. result_ok (links index have want file_limit size_limit)) (result_ok r) ≡ Some steps → length steps ≤ suc (length bytes)
    one (Ok index) is e =
        let found = read-few index have want file_limit size_limit steps e in
        let lines = history-few bytes index is in
        omega (arith, found, lines)
    one (Err refusal) is e = absurd (cc)

pub chains-short : ChainsAreShort
chains-short w file bytes steps small is =
    let few = chain-few bytes (sum_of file) w.sum w.file_limit w.size_limit steps is in
    omega (arith, few, small)
