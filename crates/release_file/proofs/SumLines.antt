-- Sum lines taken one after another: the files and the sums by path are those of the lines above.
use Rattle.std.proofs.Common.{◌≡◌, ◌∙◌, ℕ, zero, suc, ◌+◌, ◌<◌, ◌≤◌, Bool, true, false, not, cond, List, [], ◌∷◌, ◌++◌, length, take, get_or, filter, find, Option, Some, None, Ok, Err, refl, sym, ap, inl, inr, arith}
use Rattle.std.specs.Prelude.{bytes_eq, option_to_list, if◌then◌else◌}
use Rattle.std.specs.List.{filter_map, cons_option, range_with_len}
use Rattle.std.specs.Cmp.Lexicographic.{slice_cmp}
use Rattle.std.specs.Ordering.{nat_cmp, is_eq}
use Rattle.std.proofs.lemmas.Map.Text.{is_eq-slice_cmp}
use Rattle.std.proofs.lemmas.Bool.{cases_Bool, cases_lt}
use Rattle.std.proofs.lemmas.List.{take_more, take_all, append-nil, get_or_default}
use Rattle.acq_base.specs.declared.sum.Sum.{Sum}
use Rattle.acq_base.proofs.Texts.{bytes_eq-true}
use Rattle.release_file.specs.Entries.{with_entry, sum_beside}
use Rattle.release_file.specs.Release.{listed_of_line, entries_in, sum_in, agrees, may_follow, is_bad_at, first_bad, firsts, files_of_lines}
use Rattle.release_file.specs.declared.error.ReleaseError.TheVariants.{BadSums}
use Rattle.release_file.specs.declared.release.Listed.{Listed}

-- the sum of a path with one more entry
pub sum_in-push : (entries : List Listed) (entry : Listed) (path : List ℕ) → sum_in (entries ++ entry ∷ []) path ≡ sum_beside (sum_in entries path) entry path
sum_in-push [] entry path = refl
sum_in-push (first ∷ entries) entry path =
    elim (cases_Bool (bytes_eq first.path path)) [
      | inl is ↦ rw is refl
      | inr isnt ↦ rw isnt (sum_in-push entries entry path)
    ]

abbrev pub keeps : Listed → Listed → Bool
keeps entry other = not (bytes_eq entry.path other.path)

filter-push : (p : Listed → Bool) (xs : List Listed) (x : Listed) → filter p (xs ++ x ∷ []) ≡ filter p xs ++ (if p x then x ∷ [] else [])
filter-push p [] x = elim (cases_Bool (p x)) [ inl is ↦ rw is refl | inr isnt ↦ rw isnt refl ]
filter-push p (y ∷ ys) x =
    elim (cases_Bool (p y)) [
      | inl is ↦ rw is (ap (λ t. y ∷ t) (filter-push p ys x))
      | inr isnt ↦ rw isnt (filter-push p ys x)
    ]

-- an entry more, or none, behind a first one
filter-with : (sum : Option Sum) (first entry : Listed) (files : List Listed) → first ∷ filter (keeps first) (with_entry sum files entry) ≡ with_entry (if bytes_eq first.path entry.path then Some first.sum else sum) (first ∷ filter (keeps first) files) entry
filter-with (Some sum) first entry files =
    elim (cases_Bool (bytes_eq first.path entry.path)) [ inl is ↦ rw is refl | inr isnt ↦ rw isnt refl ]
filter-with None first entry files =
    let pushed = filter-push (keeps first) files entry in
    elim (cases_Bool (bytes_eq first.path entry.path)) [
      | inl is ↦
          let last : (if not (bytes_eq first.path entry.path) then entry ∷ [] else []) ≡ [] = rw is refl in
          rw is (ap (λ t. first ∷ t) (pushed ∙ ap (λ t. filter (keeps first) files ++ t) last ∙ append-nil (filter (keeps first) files)))
      | inr isnt ↦
          let last : (if not (bytes_eq first.path entry.path) then entry ∷ [] else []) ≡ entry ∷ [] = rw isnt refl in
          rw isnt (ap (λ t. first ∷ t) (pushed ∙ ap (λ t. filter (keeps first) files ++ t) last))
    ]

-- the files with one more entry
firsts-push : (entries : List Listed) (entry : Listed) → firsts (entries ++ entry ∷ []) ≡ with_entry (sum_in entries entry.path) (firsts entries) entry
firsts-push [] entry = refl
firsts-push (first ∷ entries) entry =
    ap (λ fs. first ∷ filter (keeps first) fs) (firsts-push entries entry) ∙ filter-with (sum_in entries entry.path) first entry (firsts entries)

filter_map-push : (f : List ℕ → Option Listed) (xs : List (List ℕ)) (x : List ℕ) → filter_map f (xs ++ x ∷ []) ≡ filter_map f xs ++ option_to_list (f x)
filter_map-push f [] x = elim (f x) as (λ o. cons_option o [] ≡ option_to_list o) [ None ↦ refl | Some y ↦ refl ]
filter_map-push f (y ∷ ys) x = elim (f y) as (λ o. cons_option o (filter_map f (ys ++ x ∷ [])) ≡ cons_option o (filter_map f ys) ++ option_to_list (f x)) [
  | None ↦ filter_map-push f ys x
  | Some z ↦ ap (λ t. z ∷ t) (filter_map-push f ys x)
]

-- the entries of the lines above a place
abbrev pub entries_above : List (List ℕ) → ℕ → List Listed
entries_above lines i = entries_in (take i lines)

-- the entries with the line at that place
pub entries_above-more : (lines : List (List ℕ)) (i : ℕ) (d : List ℕ) → i < length lines → entries_above lines (i + 1) ≡ entries_above lines i ++ option_to_list (listed_of_line (get_or lines i d))
entries_above-more lines i d h = ap entries_in (take_more lines i d h) ∙ filter_map-push listed_of_line (take i lines) (get_or lines i d)

-- ---- the first bad line

abbrev pub AreFine : List (List ℕ) → ℕ → Type 0
AreFine lines count = (place : ℕ) → place < count → is_bad_at lines place ≡ false

-- a number from a first one on is found where it passes and none before it does
found_first : (p : ℕ → Bool) (n first k : ℕ) → k < n → ((j : ℕ) → j < k → p (first + j) ≡ false) → p (first + k) ≡ true → find p (range_with_len first n) ≡ Some (first + k)
found_first p zero first k within before here = absurd (omega (arith, within))
found_first p (suc n) first zero within before here =
    let at : first + 0 ≡ first = omega arith in
    let passes : p first ≡ true = ap p (sym at) ∙ here in
    rw passes (ap (λ m. Some m) (sym at))
found_first p (suc n) first (suc k) within before here =
    let fails : p first ≡ false = ap p (omega arith) ∙ before 0 (omega arith) in
    let step : (j : ℕ) → (first + 1) + j ≡ first + suc j = λ j. omega arith in
    rw fails (found_first p n (first + 1) k (omega (arith, within)) (λ j less. ap p (step j) ∙ before (suc j) (omega (arith, less))) (ap p (step k) ∙ here) ∙ ap (λ m. Some m) (step k))

found_none : (p : ℕ → Bool) (n first : ℕ) → ((j : ℕ) → j < n → p (first + j) ≡ false) → find p (range_with_len first n) ≡ None
found_none p zero first none = refl
found_none p (suc n) first none =
    let fails : p first ≡ false = ap p (omega arith) ∙ none 0 (omega arith) in
    let step : (j : ℕ) → (first + 1) + j ≡ first + suc j = λ j. omega arith in
    rw fails (found_none p n (first + 1) (λ j less. ap p (step j) ∙ none (suc j) (omega (arith, less))))

first_bad-here : (lines : List (List ℕ)) (place : ℕ) → place < length lines → AreFine lines place → is_bad_at lines place ≡ true → first_bad lines ≡ Some place
unfolding first_bad
first_bad-here lines place within above here =
    let from : (k : ℕ) → 0 + k ≡ k = λ k. omega arith in
    found_first (is_bad_at lines) (length lines) 0 place within (λ j less. ap (is_bad_at lines) (from j) ∙ above j less) (ap (is_bad_at lines) (from place) ∙ here) ∙ ap (λ m. Some m) (from place)

first_bad-none : (lines : List (List ℕ)) → AreFine lines (length lines) → first_bad lines ≡ None
unfolding first_bad
first_bad-none lines all =
    let from : (k : ℕ) → 0 + k ≡ k = λ k. omega arith in
    found_none (is_bad_at lines) (length lines) 0 (λ j less. ap (is_bad_at lines) (from j) ∙ all j less)

-- and where none is found, none passes
never_found : (p : ℕ → Bool) (n first k : ℕ) → find p (range_with_len first n) ≡ None → k < n → p (first + k) ≡ false
never_found p zero first k none within = absurd (omega (arith, within))
never_found p (suc n) first k none within =
    elim (cases_Bool (p first)) [
      | inl is ↦ let bad : Some first ≡ None = rw is at none in absurd (cc)
      | inr isnt ↦
          let rest : find p (range_with_len (first + 1) n) ≡ None = rw isnt at none in
          at_or_behind p n first k isnt within (λ j less. never_found p n (first + 1) j rest less)
    ]
  where
    at_or_behind : (p : ℕ → Bool) (n first k : ℕ) → p first ≡ false → k < suc n → ((j : ℕ) → j < n → p ((first + 1) + j) ≡ false) → p (first + k) ≡ false
    at_or_behind p n first zero isnt within behind = ap p (omega arith) ∙ isnt
    at_or_behind p n first (suc j) isnt within behind = ap p (omega arith) ∙ behind j (omega (arith, within))

-- the number that is found passes, and none before it does
pub record IsFound (p : ℕ → Bool) (n first x : ℕ) : Type 0 where
  pub place : ℕ
  pub is : x ≡ first + place
  pub within : place < n
  pub above : (j : ℕ) → j < place → p (first + j) ≡ false
  pub here : p (first + place) ≡ true

found_is : (p : ℕ → Bool) (n first x : ℕ) → find p (range_with_len first n) ≡ Some x → IsFound p n first x
found_is p zero first x e = absurd (cc)
found_is p (suc n) first x e =
    elim (cases_Bool (p first)) [
      | inl is ↦
          let same : Some first ≡ Some x = rw is at e in
          let x_is : x ≡ first = cc in
          record { place = 0; is = omega (arith, x_is); within = omega arith; above = λ j less. absurd (omega (arith, less)); here = ap p (omega arith) ∙ is }
      | inr isnt ↦
          let more = found_is p n (first + 1) x (rw isnt at e) in
          record {
            place = suc more.place;
            is = omega (arith, more.is);
            within = omega (arith, more.within);
            above = above_more p first more.place isnt more.above;
            here = ap p (omega arith) ∙ more.here;
          }
    ]
  where
    above_more : (p : ℕ → Bool) (first k : ℕ) → p first ≡ false → ((j : ℕ) → j < k → p ((first + 1) + j) ≡ false) → (j : ℕ) → j < suc k → p (first + j) ≡ false
    above_more p first k isnt above zero less = ap p (omega arith) ∙ isnt
    above_more p first k isnt above (suc j) less = ap p (omega arith) ∙ above j (omega (arith, less))

pub record IsFirst (lines : List (List ℕ)) (place : ℕ) : Type 0 where
  pub within : place < length lines
  pub above : AreFine lines place
  pub here : is_bad_at lines place ≡ true

pub first_found : (lines : List (List ℕ)) (place : ℕ) → first_bad lines ≡ Some place → IsFirst lines place
unfolding first_bad
first_found lines place e =
    let found = found_is (is_bad_at lines) (length lines) 0 place e in
    let same : place ≡ found.place = omega (arith, found.is) in
    record {
      within = omega (arith, found.within, same);
      above = λ j less. ap (is_bad_at lines) (omega arith) ∙ found.above j (omega (arith, less, same));
      here = ap (is_bad_at lines) found.is ∙ found.here;
    }

pub none_bad : (lines : List (List ℕ)) → first_bad lines ≡ None → AreFine lines (length lines)
unfolding first_bad
none_bad lines none place within = ap (is_bad_at lines) (omega arith) ∙ never_found (is_bad_at lines) (length lines) 0 place none within

fine-more : (lines : List (List ℕ)) (i : ℕ) → AreFine lines i → is_bad_at lines i ≡ false → AreFine lines (i + 1)
fine-more lines i above here place less =
    elim (cases_lt place i) [
      | inl below ↦ above place below
      | inr from ↦ let same : place ≡ i = omega (arith, less, from) in ap (is_bad_at lines) same ∙ here
    ]

-- ---- line by line

-- what is read so far is that of the lines above, each of which may stand where it does
pub record IsReadTo (first : ℕ) (lines : List (List ℕ)) (i at : ℕ) (files : List Listed) (sum : List ℕ → Option Sum) : Type 0 where
  pub number : at ≡ first + i
  pub sums : (path : List ℕ) → sum path ≡ sum_in (entries_above lines i) path
  pub listed : files ≡ firsts (entries_above lines i)
  pub fine : AreFine lines i

bad_at : (lines : List (List ℕ)) (i : ℕ) (line : List ℕ) (may : Bool) → i < length lines → line ≡ get_or lines i line → may_follow (entries_above lines i) (listed_of_line line) ≡ may → is_bad_at lines i ≡ not may
bad_at lines i line may within here e =
    let same : get_or lines i [] ≡ line = get_or_default lines i [] line within ∙ sym here in
    ap (λ l. not (may_follow (entries_above lines i) (listed_of_line l))) same ∙ ap not e

-- the line at that place may not stand there
stops : (first : ℕ) (lines : List (List ℕ)) (i at : ℕ) (files : List Listed) (sum : List ℕ → Option Sum) (line : List ℕ) → IsReadTo first lines i at files sum → i < length lines → line ≡ get_or lines i line → may_follow (entries_above lines i) (listed_of_line line) ≡ false → Err (BadSums at) ≡ files_of_lines first lines
unfolding files_of_lines
stops first lines i at files sum line h within here bad =
    let found : first_bad lines ≡ Some i = first_bad-here lines i within h.fine (bad_at lines i line false within here bad) in
    rw found (ap (λ n. Err (BadSums n)) h.number)

-- no sum line
pub stops_at_none : (first : ℕ) (lines : List (List ℕ)) (i at : ℕ) (files : List Listed) (sum : List ℕ → Option Sum) (line : List ℕ) → IsReadTo first lines i at files sum → i < length lines → line ≡ get_or lines i line → None ≡ listed_of_line line → Err (BadSums at) ≡ files_of_lines first lines
stops_at_none first lines i at files sum line h within here none =
    stops first lines i at files sum line h within here (rw (← none) refl)

-- another sum for a path
pub stops_at_other : (first : ℕ) (lines : List (List ℕ)) (i at : ℕ) (files : List Listed) (sum : List ℕ → Option Sum) (line : List ℕ) (entry : Listed) → IsReadTo first lines i at files sum → i < length lines → line ≡ get_or lines i line → Some entry ≡ listed_of_line line → false ≡ agrees (sum entry.path) entry.sum → Err (BadSums at) ≡ files_of_lines first lines
stops_at_other first lines i at files sum line entry h within here some other =
    stops first lines i at files sum line h within here (rw (← some) (ap (λ o. agrees o entry.sum) (sym (h.sums entry.path)) ∙ sym other))

-- one more line
pub goes_on : (first : ℕ) (lines : List (List ℕ)) (i at : ℕ) (files files' : List Listed) (sum sum' : List ℕ → Option Sum) (line : List ℕ) (entry : Listed) → IsReadTo first lines i at files sum → i < length lines → line ≡ get_or lines i line → Some entry ≡ listed_of_line line → true ≡ agrees (sum entry.path) entry.sum → files' ≡ with_entry (sum entry.path) files entry → ((path : List ℕ) → sum' path ≡ sum_beside (sum path) entry path) → IsReadTo first lines (i + 1) (at + 1) files' sum'
goes_on first lines i at files files' sum sum' line entry h within here some agreed more beside =
    let above = entries_above lines i in
    let line_is : listed_of_line (get_or lines i line) ≡ Some entry = ap listed_of_line (sym here) ∙ sym some in
    let grown : entries_above lines (i + 1) ≡ above ++ entry ∷ [] = entries_above-more lines i line within ∙ ap (λ o. above ++ option_to_list o) line_is in
    let may : may_follow above (listed_of_line line) ≡ true = rw (← some) (ap (λ o. agrees o entry.sum) (sym (h.sums entry.path)) ∙ sym agreed) in
    record {
      number = omega (arith, h.number);
      sums = λ path. beside path ∙ ap (λ o. sum_beside o entry path) (h.sums path) ∙ sym (sum_in-push above entry path) ∙ ap (λ es. sum_in es path) (sym grown);
      listed = more ∙ ap (λ o. with_entry o files entry) (h.sums entry.path) ∙ ap (λ fs. with_entry (sum_in above entry.path) fs entry) h.listed ∙ sym (firsts-push above entry) ∙ ap firsts (sym grown);
      fine = fine-more lines i h.fine (bad_at lines i line true within here may);
    }

-- all lines are read
pub ends : (first : ℕ) (lines : List (List ℕ)) (i at : ℕ) (files : List Listed) (sum : List ℕ → Option Sum) → IsReadTo first lines i at files sum → length lines ≤ i → Ok files ≡ files_of_lines first lines
unfolding files_of_lines
ends first lines i at files sum h all =
    let none : first_bad lines ≡ None = first_bad-none lines (λ place less. h.fine place (omega (arith, less, all))) in
    let whole : take i lines ≡ lines = take_all i lines all in
    rw none (ap (λ fs. Ok fs) (h.listed ∙ ap (λ ls. firsts (entries_in ls)) whole))

-- what the map has for a path once an entry is put into it whose path had none
pub sum_inserted : (before after : Option Sum) (entry : Listed) (path : List ℕ) → after ≡ cond (is_eq (slice_cmp nat_cmp entry.path path)) (Some entry.sum) before → (entry.path ≡ path → before ≡ None) → after ≡ sum_beside before entry path
sum_inserted None after entry path e absent = e ∙ ap (λ b. cond b (Some entry.sum) None) (is_eq-slice_cmp entry.path path)
sum_inserted (Some sum) after entry path e absent =
    elim (cases_Bool (bytes_eq entry.path path)) [
      | inl is ↦ let none = absent (bytes_eq-true entry.path path is) in absurd (cc)
      | inr isnt ↦ e ∙ ap (λ b. cond b (Some entry.sum) (Some sum)) (is_eq-slice_cmp entry.path path ∙ isnt)
    ]
