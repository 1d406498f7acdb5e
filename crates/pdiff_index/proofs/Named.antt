-- The names of an Index that is read, and the lines of a chain.
use Rattle.std.proofs.Common.{◌≡◌, ◌≢◌, ◌∙◌, ◌⊎◌, inl, inr, ℕ, zero, suc, ◌<◌, ◌&&◌, ◌==◌, not, Bool, true, false, if◌then◌else◌, List, [], ◌∷◌, ◌++◌, codes, length, get_or, AllPairs, Option, Some, None, Result, Ok, Err, IfOk, refl, sym, ap, subst, arith}
use Rattle.std.specs.Prelude.{bytes_eq, is_some, Contains}
use Rattle.std.specs.List.{AllByRecursion as Each}
use Rattle.std.proofs.lemmas.Bool.{cases_Bool}
use Rattle.std.proofs.lemmas.List.Quantifiers.{all_pairs_push}
use Rattle.std.proofs.lemmas.Slice.Eq.{bytes_eq-Decides}
use Rattle.acq_base.specs.declared.sum.Sum.{Sum}
use Rattle.acq_base.specs.Sum.{sum_of_texts}
use Rattle.acq_base.specs.Words.{words, is_blank}
use Rattle.acq_base.proofs.SameSums.{same_sum-true, same_sum-refl}
use Rattle.std.specs.Result.{result_ok}
use Rattle.deb822_text.specs.Control.{paragraphs_of, field_named}
use Rattle.deb822_text.specs.declared.error.TextError.{TextError}
use Rattle.deb822_text.specs.declared.paragraph.Field.{Field}
use Rattle.deb822_text.specs.declared.paragraph.Paragraph.{Paragraph}
use Rattle.pdiff_index.specs.Chain.{same_sum, entry_on, sum_named, patches_of, lines_used, are_too_many, are_too_large, limited, links_from, links}
use Rattle.pdiff_index.specs.Index.{is_name, step_as, step_of_words, step_of_line, line_below, steps_below, steps_of, steps_part, current_part, merged_of, refused_line, lesser, unless_refused, completed, index_of_fields, index_of_paragraphs, index_of_text, index_of}
use Rattle.pdiff_index.specs.Listed.{AreNamed, names_of, LeadsOn}
use Rattle.pdiff_index.specs.declared.error.IndexError.{IndexError}
use Rattle.pdiff_index.specs.declared.error.IndexError.TheVariants as fault
use Rattle.pdiff_index.specs.declared.error.NoChain.{NoChain}
use Rattle.pdiff_index.specs.declared.error.NoChain.TheVariants as cause
use Rattle.pdiff_index.specs.declared.index.Index.{Index}
use Rattle.pdiff_index.specs.declared.index.Step.{Step}

-- ---- one line

as-named : (name : List ℕ) (sum : Option Sum) (step : Step) → step_as name sum ≡ Some step → is_name step.name ≡ true
as-named name None step e = absurd (cc)
as-named name (Some sum) step e =
    elim (cases_Bool (is_name name)) [
      | inl is ↦ let made = rw is at e in let same : step.name ≡ name = cc in ap is_name same ∙ is
      | inr isnt ↦ let none = rw isnt at e in absurd (cc)
    ]

words-named : (ws : List (List ℕ)) (step : Step) → step_of_words ws ≡ Some step → is_name step.name ≡ true
words-named [] step e = absurd (cc)
words-named (a ∷ []) step e = absurd (cc)
words-named (a ∷ b ∷ []) step e = absurd (cc)
words-named (a ∷ b ∷ name ∷ []) step e = as-named name (result_ok (sum_of_texts a b)) step e
words-named (a ∷ b ∷ c ∷ d ∷ more) step e = absurd (cc)

line-named : (line : List ℕ) (step : Step) → step_of_line line ≡ Some step → is_name step.name ≡ true
unfolding step_of_line
line-named line step e = words-named (words is_blank line) step e

-- ---- all lines

abbrev steps_ok : List Step → Result (List Step) ℕ
steps_ok steps = Ok steps

none-named : (above : List Step) (name : List ℕ) → sum_named above name ≡ None → (k : ℕ) (d : Step) → k < length above → (get_or above k d).name ≢ name
none-named [] name e k d below = absurd (omega arith)
none-named (step ∷ steps) name e k d below =
    elim (cases_Bool (bytes_eq step.name name)) [
      | inl hit ↦ let some = rw hit at e in absurd (cc)
      | inr miss ↦ at k below (rw miss at e) miss (λ j short. none-named steps name (rw miss at e) j d short)
    ]
  where
    at : (k : ℕ) → k < length (step ∷ steps) → sum_named steps name ≡ None → bytes_eq step.name name ≡ false → ((j : ℕ) → j < length steps → (get_or steps j d).name ≢ name)
        → (get_or (step ∷ steps) k d).name ≢ name
    at zero below none miss more = λ same. let hit : bytes_eq step.name name ≡ true = (bytes_eq-Decides step.name name).1 same in cc
    at (suc j) below none miss more = more j (omega arith)

each-push : {X : Type 0} (P : X → Type 0) (xs : List X) (x : X) → Each P xs → P x → Each P (xs ++ x ∷ [])
each-push P [] x h one = (one, tt)
each-push P (y ∷ xs) x h one = (h.0, each-push P xs x h.1 one)

is-none : {X : Type 0} (o : Option X) → is_some o ≡ false → o ≡ None
is-none None e = refl
is-none (Some x) e = absurd (cc)

-- what holds of steps so far
abbrev Fine : Bool → List Step → Type 0
Fine once steps = AreNamed steps × (once ≡ true → AllPairs (λ (a b : Step). a.name ≢ b.name) steps)

one-more : (once : Bool) (above : List Step) (step : Step) → Fine once above → is_name step.name ≡ true → not (once && is_some (sum_named above step.name)) ≡ true → Fine once (above ++ step ∷ [])
one-more true above step fine named may =
    let none : is_some (sum_named above step.name) ≡ false = flipped (is_some (sum_named above step.name)) may in (
      each-push (λ (s : Step). is_name s.name ≡ true) above step fine.0 named,
      λ on. all_pairs_push (λ (a b : Step). a.name ≢ b.name) above step (fine.1 on) (λ k d below. none-named above step.name (is-none (sum_named above step.name) none) k d below),
    )
  where
    flipped : (b : Bool) → not b ≡ true → b ≡ false
    flipped true e = absurd (cc)
    flipped false e = refl
one-more false above step fine named may = (each-push (λ (s : Step). is_name s.name ≡ true) above step fine.0 named, λ on. absurd (cc))

below-fine : (once : Bool) (lines : List (List ℕ)) (above : List Step) (at : ℕ) (steps : List Step) → Fine once above → steps_below once above at lines ≡ steps_ok steps → Fine once steps
below-fine once [] above at steps fine e = let same : steps ≡ above = cc in subst (Fine once) (sym same) fine
below-fine once (line ∷ lines) above at steps fine e = by (step_of_line line) refl (λ more now h. below-fine once lines more now steps h)
  where
    by : (o : Option Step) → step_of_line line ≡ o → ((more : List Step) (now : ℕ) → Fine once more → steps_below once more now lines ≡ steps_ok steps → Fine once steps) → Fine once steps
    by None is further = let none = rw is at e in absurd (cc)
    by (Some step) is further =
        let read = rw is at e in
        elim (cases_Bool (not (once && is_some (sum_named above step.name)))) [
          | inl may ↦ further (above ++ step ∷ []) (line_below at) (one-more once above step fine (line-named line step is) may) (rw may at read)
          | inr away ↦ let none = rw away at read in absurd (cc)
        ]

none-yet : (once : Bool) → Fine once []
none-yet once = (tt, λ on i j d before below. absurd (omega (arith, below)))

field-fine : (once : Bool) (lines : List (List ℕ)) (at : ℕ) (steps : List Step) → steps_of once lines at ≡ steps_ok steps → Fine once steps
unfolding steps_of
field-fine once [] at steps e = absurd (cc)
field-fine once (first ∷ lines) at steps e =
    elim (cases_Bool (length first == 0)) [
      | inl empty ↦ below-fine once lines [] (line_below at) steps (none-yet once) (rw empty at e)
      | inr full ↦ let none = rw full at e in absurd (cc)
    ]

part-fine : (once : Bool) (field : Option Field) (steps : List Step) → steps_part once field ≡ Some (steps_ok steps) → Fine once steps
unfolding steps_part
part-fine once None steps e = absurd (cc)
part-fine once (Some field) steps e = field-fine once field.lines field.at steps (same (steps_of once field.lines field.at) e)
  where
    same : (r : Result (List Step) ℕ) → Some r ≡ Some (steps_ok steps) → r ≡ steps_ok steps
    same r e = cc

-- ---- the whole

record IsFine (index : Index) : Type 0 where
  history : AreNamed index.history
  patches : AreNamed index.patches
  distinct : AllPairs (λ (a b : Step). a.name ≢ b.name) index.patches

abbrev index_ok : Index → Result Index IndexError
index_ok index = Ok index

parts-fine : (current : Option (Result Sum ℕ)) (history patches : Option (Result (List Step) ℕ)) (merged : Bool) (index : Index)
    → ((steps : List Step) → history ≡ Some (steps_ok steps) → Fine false steps) → ((steps : List Step) → patches ≡ Some (steps_ok steps) → Fine true steps)
    → completed current history patches merged ≡ index_ok index → IsFine index
parts-fine None history patches merged index h p e = absurd (cc)
parts-fine (Some (Err at)) history patches merged index h p e = absurd (cc)
parts-fine (Some (Ok sum)) None patches merged index h p e = absurd (cc)
parts-fine (Some (Ok sum)) (Some (Err at)) patches merged index h p e = absurd (cc)
parts-fine (Some (Ok sum)) (Some (Ok lines)) None merged index h p e = absurd (cc)
parts-fine (Some (Ok sum)) (Some (Ok lines)) (Some (Err at)) merged index h p e = absurd (cc)
parts-fine (Some (Ok sum)) (Some (Ok lines)) (Some (Ok steps)) merged index h p e =
    let one : index.history ≡ lines = cc in
    let two : index.patches ≡ steps = cc in
    let first = h lines refl in
    let second = p steps refl in
    record {
      history = subst AreNamed (sym one) first.0;
      patches = subst AreNamed (sym two) second.0;
      distinct = subst (AllPairs (λ (a b : Step). a.name ≢ b.name)) (sym two) (second.1 refl);
    }

unrefused : (line : Option ℕ) (result : Result Index IndexError) (index : Index) → unless_refused line result ≡ index_ok index → result ≡ index_ok index
unrefused None result index e = e
unrefused (Some at) result index e = absurd (cc)

fields-fine : (fields : List Field) (index : Index) → index_of_fields fields ≡ index_ok index → IsFine index
unfolding index_of_fields
fields-fine fields index e =
    let current = current_part (field_named fields (codes "SHA256-Current")) in
    let history = steps_part false (field_named fields (codes "SHA256-History")) in
    let patches = steps_part true (field_named fields (codes "SHA256-Patches")) in
    let merged = merged_of (field_named fields (codes "X-Patch-Precedence")) in
    parts-fine current history patches merged index
    (λ steps is. part-fine false (field_named fields (codes "SHA256-History")) steps is)
    (λ steps is. part-fine true (field_named fields (codes "SHA256-Patches")) steps is)
    (unrefused (lesser (refused_line current) (lesser (refused_line history) (refused_line patches))) (completed current history patches merged) index e)

paragraphs-fine : (paragraphs : List Paragraph) (index : Index) → index_of_paragraphs paragraphs ≡ index_ok index → IsFine index
unfolding index_of_paragraphs
paragraphs-fine [] index e = absurd (cc)
paragraphs-fine (paragraph ∷ []) index e = fields-fine paragraph.fields index e
paragraphs-fine (paragraph ∷ next ∷ more) index e = absurd (cc)

text-fine : (text : Result (List Paragraph) TextError) (index : Index) → index_of_text text ≡ index_ok index → IsFine index
text-fine (Ok paragraphs) index e = paragraphs-fine paragraphs index e
text-fine (Err refusal) index e = absurd (cc)

bytes-fine : (bytes : List ℕ) (index : Index) → index_of bytes ≡ index_ok index → IsFine index
unfolding index_of
bytes-fine bytes index e = text-fine (paragraphs_of bytes false) index e

abbrev Reading : List ℕ → Result Index IndexError → Type 0
Reading bytes result = (result ≡ Err fault.NoMemory) ⊎ (result ≡ index_of bytes)

pub read-named : (bytes : List ℕ) (result : Result Index IndexError) → Reading bytes result → IfOk result (λ index. AreNamed index.history × AreNamed index.patches)
read-named bytes (Ok index) (inl memory) = absurd (cc)
read-named bytes (Ok index) (inr is) = let fine = bytes-fine bytes index (sym is) in (fine.history, fine.patches)
read-named bytes (Err refusal) is = tt

pub read-distinct : (bytes : List ℕ) (result : Result Index IndexError) → Reading bytes result → IfOk result (λ index. AllPairs (λ (a b : Step). a.name ≢ b.name) index.patches)
read-distinct bytes (Ok index) (inl memory) = absurd (cc)
read-distinct bytes (Ok index) (inr is) = (bytes-fine bytes index (sym is)).distinct
read-distinct bytes (Err refusal) is = tt

-- ---- chains

differs : (a b : Sum) → same_sum a b ≡ false → a ≢ b
differs a b h same = let hit : same_sum a b ≡ true = ap (same_sum a) (sym same) ∙ same_sum-refl a in cc

abbrev no_lines : List Step → Sum → Type 0
no_lines lines have = Each (λ (line : Step). line.sum ≢ have) lines

none-on : (lines : List Step) (have : Sum) → entry_on lines have ≡ None → no_lines lines have
none-on [] have e = tt
none-on (line ∷ lines) have e = by (entry_on lines have) refl (λ h. none-on lines have h)
  where
    by : (o : Option (List Step)) → entry_on lines have ≡ o → (entry_on lines have ≡ None → no_lines lines have) → no_lines (line ∷ lines) have
    by (Some found) is more = let some = rw is at e in absurd (cc)
    by None is more =
        let rest = rw is at e in
        elim (cases_Bool (same_sum line.sum have)) [
          | inl hit ↦ let some = rw hit at rest in absurd (cc)
          | inr miss ↦ (differs line.sum have miss, more is)
        ]

record Entry (history : List Step) (have : Sum) (found : List Step) : Type 0 where
  before : List Step
  entry : Step
  behind : List Step
  whole : history ≡ before ++ entry ∷ behind
  from_here : found ≡ entry ∷ behind
  from : entry.sum ≡ have
  last : no_lines behind have

entry-is : (history : List Step) (have : Sum) (found : List Step) → entry_on history have ≡ Some found → Entry history have found
entry-is [] have found e = absurd (cc)
entry-is (line ∷ lines) have found e = by (entry_on lines have) refl (λ f h. entry-is lines have f h)
  where
    by : (o : Option (List Step)) → entry_on lines have ≡ o → ((f : List Step) → entry_on lines have ≡ Some f → Entry lines have f) → Entry (line ∷ lines) have found
    by (Some later) is more =
        let rest = rw is at e in
        let same : later ≡ found = cc in
        let h = more found (is ∙ ap (λ (f : List Step). Some f) same) in
        record { before = line ∷ h.before; entry = h.entry; behind = h.behind; whole = ap (λ (ls : List Step). line ∷ ls) h.whole; from_here = h.from_here; from = h.from; last = h.last }
    by None is more =
        let rest = rw is at e in
        elim (cases_Bool (same_sum line.sum have)) [
          | inl hit ↦
              let some = rw hit at rest in
              let same : found ≡ line ∷ lines = cc in
              record { before = []; entry = line; behind = lines; whole = refl; from_here = same; from = same_sum-true line.sum have hit; last = none-on lines have is }
          | inr miss ↦ let none = rw miss at rest in absurd (cc)
        ]

named-in : (patches : List Step) (name : List ℕ) (sum : Sum) → sum_named patches name ≡ Some sum → Contains patches (record { sum = sum; name = name })
named-in [] name sum e = absurd (cc)
named-in (patch ∷ patches) name sum e =
    elim (cases_Bool (bytes_eq patch.name name)) [
      | inl hit ↦
          let some = rw hit at e in
          let sums : patch.sum ≡ sum = cc in
          let names = (bytes_eq-Decides patch.name name).0 hit in
          (0, omega arith, λ i. record { sum = sums i; name = names i })
      | inr miss ↦ let there = named-in patches name sum (rw miss at e) in (suc there.0, omega (arith, there.1), there.2)
    ]

abbrev chain_ok : List Step → Result (List Step) NoChain
chain_ok steps = Ok steps

abbrev Lists : List Step → List Step → List Step → Type 0
Lists patches lines steps = (names_of steps ≡ names_of lines) × Each (λ (step : Step). Contains patches step) steps

lists : (patches lines steps : List Step) → patches_of patches lines ≡ chain_ok steps → Lists patches lines steps
lists patches [] steps e = let same : steps ≡ [] = cc in subst (Lists patches []) (sym same) (refl, tt)
lists patches (line ∷ lines) steps e = by (sum_named patches line.name) refl (patches_of patches lines) refl (λ s h. lists patches lines s h)
  where
    by : (sum : Option Sum) → sum_named patches line.name ≡ sum → (rest : Result (List Step) NoChain) → patches_of patches lines ≡ rest
        → ((s : List Step) → patches_of patches lines ≡ chain_ok s → Lists patches lines s) → Lists patches (line ∷ lines) steps
    by None is rest more further = let none = rw is at e in absurd (cc)
    by (Some sum) is (Err why) more further = let none = rw (is, more) at e in absurd (cc)
    by (Some sum) is (Ok others) more further =
        let made = rw (is, more) at e in
        let same : steps ≡ record { sum = sum; name = line.name } ∷ others = cc in
        let h = further others more in
        subst (Lists patches (line ∷ lines)) (sym same) (ap (λ (ns : List (List ℕ)). line.name ∷ ns) h.0, (named-in patches line.name sum is, h.1))

unlimited : (file_limit size_limit : ℕ) (want : Sum) (r : Result (List Step) NoChain) (steps : List Step) → limited file_limit size_limit want r ≡ chain_ok steps → r ≡ chain_ok steps
unlimited file_limit size_limit want (Err why) steps e = absurd (cc)
unlimited file_limit size_limit want (Ok found) steps e = by (are_too_many file_limit found) (are_too_large size_limit want.size found) refl refl
  where
    by : (many large : Bool) → are_too_many file_limit found ≡ many → are_too_large size_limit want.size found ≡ large → chain_ok found ≡ chain_ok steps
    by true large is other = let none = rw is at e in absurd (cc)
    by false true is other = let none = rw (is, other) at e in absurd (cc)
    by false false is other = let some = rw (is, other) at e in some

used : (merged : Bool) (entry : Step) (behind : List Step) → lines_used merged (entry ∷ behind) ≡ (if merged then entry ∷ [] else entry ∷ behind)
used merged entry behind = refl

leads : (index : Index) (have want : Sum) (file_limit size_limit : ℕ) (found : Option (List Step)) (steps : List Step) → entry_on index.history have ≡ found
    → links_from index found want file_limit size_limit ≡ chain_ok steps → LeadsOn index have steps
unfolding links_from
leads index have want file_limit size_limit None steps is e = absurd (cc)
leads index have want file_limit size_limit (Some lines) steps is e =
    let h = entry-is index.history have lines is in
    let found = unlimited file_limit size_limit want (patches_of index.patches (lines_used index.merged lines)) steps e in
    let l = lists index.patches (lines_used index.merged lines) steps found in
    record {
      before = h.before;
      entry = h.entry;
      behind = h.behind;
      history = h.whole;
      from = h.from;
      last = h.last;
      names = l.0 ∙ ap (λ (ls : List Step). names_of (lines_used index.merged ls)) h.from_here;
      patches = l.1;
    }

chain-leads : (index : Index) (have want : Sum) (file_limit size_limit : ℕ) (steps : List Step) → links index have want file_limit size_limit ≡ chain_ok steps → LeadsOn index have steps
unfolding links
chain-leads index have want file_limit size_limit steps e =
    elim (cases_Bool (same_sum index.current want)) [
      | inl is ↦ leads index have want file_limit size_limit (entry_on index.history have) steps refl (rw is at e)
      | inr isnt ↦ let none = rw isnt at e in absurd (cc)
    ]

pub listed : (index : Index) (have want : Sum) (file_limit size_limit : ℕ) (result : Result (List Step) NoChain)
    → (result ≡ Err cause.NoMemory) ⊎ (result ≡ links index have want file_limit size_limit) → IfOk result (λ steps. LeadsOn index have steps)
listed index have want file_limit size_limit (Ok steps) (inl memory) = absurd (cc)
listed index have want file_limit size_limit (Ok steps) (inr is) = chain-leads index have want file_limit size_limit steps (sym is)
listed index have want file_limit size_limit (Err why) is = tt
