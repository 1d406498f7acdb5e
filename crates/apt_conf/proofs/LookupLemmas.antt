-- Looking for a key among entries that share the fronts of their keys.
use Rattle.std.proofs.Common.{◌≡◌, ℕ, zero, suc, ◌+◌, ◌-◌, ◌^◌, ◌<◌, ◌≤◌, min, Bool, true, false, List, [], ◌∷◌, ◌++◌, length, get_or, map, take, drop, Option, Some, None, refl, sym, ap, ◌∙◌, length-append, inl, inr, arith}
use Rattle.std.specs.Prelude.{◌&&◌, nat_lt, nat_eq, if◌then◌else◌}
use Rattle.std.specs.Char.{to_ascii_lowercase, eq_ignore_ascii_case}
use Rattle.std.specs.Cmp.Lexicographic.{bytes_decides}
use Rattle.std.proofs.lemmas.Bool.{cases_lt, cases_Bool}
use Rattle.std.proofs.lemmas.Bool.Decides.{nat_tests}
use Rattle.std.proofs.lemmas.List.{length-take, length-drop, take_more, drop_more, drop_all}
use Rattle.apt_conf.specs.declared.entry.Entry.{Entry}
use Rattle.apt_conf.specs.Keys.{Pair, empty_part, has_empty_part, same_key, common_length, compared, later, value_of}
use Rattle.apt_conf.specs.Statements.{given}
use Rattle.apt_conf.specs.Entries.{key_of, last_key, given_if, pairs_in}
use Rattle.apt_conf.proofs.EntryLemmas.{last_key-push}

-- ---- how far two keys are the same

pub common-within : (key other : List ℕ) → common_length key other ≤ length key
unfolding common_length
common-within [] other = omega arith
common-within (c ∷ key) [] = omega arith
common-within (c ∷ key) (d ∷ other) =
    elim (cases_Bool (eq_ignore_ascii_case d c)) [
      | inl t ↦ rw t (omega (arith, common-within key other))
      | inr f ↦ rw f (omega arith)
    ]

common-within_second : (key other : List ℕ) → common_length key other ≤ length other
unfolding common_length
common-within_second [] other = omega arith
common-within_second (c ∷ key) [] = omega arith
common-within_second (c ∷ key) (d ∷ other) =
    elim (cases_Bool (eq_ignore_ascii_case d c)) [
      | inl t ↦ rw t (omega (arith, common-within_second key other))
      | inr f ↦ rw f (omega arith)
    ]

common-take : (key other : List ℕ) (n : ℕ) → common_length key (take n other) ≡ min n (common_length key other)
unfolding common_length
common-take [] other n = omega arith
common-take (c ∷ key) other zero = omega arith
common-take (c ∷ key) [] (suc n) = omega arith
common-take (c ∷ key) (d ∷ other) (suc n) =
    elim (cases_Bool (eq_ignore_ascii_case d c)) [
      | inl t ↦ rw t (omega (arith, common-take key other n))
      | inr f ↦ rw f (omega arith)
    ]

common-append_short : (key a r : List ℕ) → common_length key a < length a → common_length key (a ++ r) ≡ common_length key a
unfolding common_length
common-append_short [] a r h = refl
common-append_short (c ∷ key) [] r h = absurd (omega arith)
common-append_short (c ∷ key) (d ∷ a) r h =
    elim (cases_Bool (eq_ignore_ascii_case d c)) [
      | inl t ↦
          let g : common_length key a + 1 < suc (length a) = rw t at h in
          rw t (ap (λ (n : ℕ). n + 1) (common-append_short key a r (omega arith)))
      | inr f ↦ rw f refl
    ]

common-append_whole : (key a r : List ℕ) → common_length key a ≡ length a → common_length key (a ++ r) ≡ length a + common_length (drop (length a) key) r
unfolding common_length
common-append_whole key [] r h = omega arith
common-append_whole [] (d ∷ a) r h = absurd (omega arith)
common-append_whole (c ∷ key) (d ∷ a) r h =
    elim (cases_Bool (eq_ignore_ascii_case d c)) [
      | inl t ↦
          let g : common_length key a + 1 ≡ suc (length a) = rw t at h in
          rw t (omega (arith, common-append_whole key a r (omega arith)))
      | inr f ↦ let g : 0 ≡ suc (length a) = rw f at h in absurd (omega arith)
    ]

nat_eq-suc : (n m : ℕ) → nat_eq (n + 1) (suc m) ≡ nat_eq n m
nat_eq-suc n m = grind (arith, nat_tests)

zero_suc : (n : ℕ) → nat_eq 0 (suc n) ≡ false
zero_suc n = grind (arith, nat_tests)

-- two keys are the same where all bytes of both are
same_key-is : (key other : List ℕ) → same_key other key ≡ (nat_eq (common_length key other) (length key) && nat_eq (common_length key other) (length other))
unfolding same_key common_length
same_key-is [] [] = refl
same_key-is [] (d ∷ other) = sym (zero_suc (length other))
same_key-is (c ∷ key) [] = sym (ap (λ (b : Bool). b && true) (zero_suc (length key)))
same_key-is (c ∷ key) (d ∷ other) =
    elim (cases_Bool (eq_ignore_ascii_case d c)) [
      | inl t ↦
          let n = common_length key other in
          let e : (nat_eq (n + 1) (suc (length key)) && nat_eq (n + 1) (suc (length other))) ≡ (nat_eq n (length key) && nat_eq n (length other)) =
          rw (nat_eq-suc n (length key), nat_eq-suc n (length other)) refl in
          rw t (same_key-is key other ∙ sym e)
      | inr f ↦ rw f (sym (ap (λ (b : Bool). b && nat_eq 0 (suc (length other))) (zero_suc (length key))))
    ]

-- ---- the key of the next entry

first_test : (m k lk : ℕ) → k ≤ lk → nat_eq m (lk - k) ≡ nat_eq (k + m) lk
first_test m k lk h = grind (arith, nat_tests)

second_test : (m k lr : ℕ) → nat_eq m lr ≡ nat_eq (k + m) (k + lr)
second_test m k lr = grind (arith, nat_tests)

no_more : (m n : ℕ) → m < n → nat_eq m n ≡ false
no_more m n h = grind (arith, nat_tests)

-- the last test fails
fails_second : (a b : Bool) → b ≡ false → (a && b) ≡ false
fails_second true b h = h
fails_second false b h = refl

pub compared_is : (key before rest : List ℕ) (shared k matched : ℕ) → matched ≡ common_length key before → k ≡ min shared (length before)
    → compared key k matched rest ≡ (common_length key (take shared before ++ rest), same_key (take shared before ++ rest) key)
unfolding compared
compared_is key before rest shared k matched m-is k-is =
    let a = take shared before in
    let long : length a ≡ k = length-take shared before ∙ sym k-is in
    let same : common_length key a ≡ min shared matched = common-take key before shared ∙ ap (min shared) (sym m-is) in
    let within : matched ≤ length before = omega (arith, common-within_second key before) in
    let within_key : matched ≤ length key = omega (arith, common-within key before) in
    let split : length (a ++ rest) ≡ length a + length rest = length-append a rest in
    elim (cases_lt matched k) [
      | inl lt ↦
          let t : nat_lt matched k ≡ true = grind (arith, nat_tests) in
          let short : common_length key a < length a = omega arith in
          let at_front : common_length key a ≡ matched = omega arith in
          let is : common_length key (a ++ rest) ≡ matched = common-append_short key a rest short ∙ at_front in
          let shorter : common_length key (a ++ rest) < length (a ++ rest) = omega arith in
          let differs : same_key (a ++ rest) key ≡ false =
          same_key-is key (a ++ rest) ∙ fails_second (nat_eq (common_length key (a ++ rest)) (length key)) (nat_eq (common_length key (a ++ rest)) (length (a ++ rest))) (no_more (common_length key (a ++ rest)) (length (a ++ rest)) shorter) in
          rw (t, is, differs) refl
      | inr le ↦
          let f : nat_lt matched k ≡ false = grind (arith, nat_tests) in
          let whole : common_length key a ≡ length a = omega arith in
          let is : common_length key (a ++ rest) ≡ k + common_length (drop k key) rest =
          common-append_whole key a rest whole ∙ ap (λ (n : ℕ). n + common_length (drop n key) rest) long in
          let cut : length (drop k key) ≡ length key - k = length-drop k key in
          let all : length (a ++ rest) ≡ k + length rest = omega arith in
          let tested : same_key (a ++ rest) key ≡ (nat_eq (k + common_length (drop k key) rest) (length key) && nat_eq (k + common_length (drop k key) rest) (k + length rest)) =
          same_key-is key (a ++ rest) ∙ rw (is, all) refl in
          rw (f, is, tested, cut, first_test (common_length (drop k key) rest) k (length key) (omega arith), second_test (common_length (drop k key) rest) k (length rest)) refl
    ]

-- ---- keys that are the same have the same parts

colon-lower : (c : ℕ) → nat_eq (to_ascii_lowercase c) 58 ≡ nat_eq c 58
colon-lower c = grind (arith, nat_tests)

empty_part-lower : (begins : Bool) (key : List ℕ) → empty_part begins (map to_ascii_lowercase key) ≡ empty_part begins key
unfolding empty_part
empty_part-lower begins [] = refl
empty_part-lower begins (c ∷ []) = refl
empty_part-lower begins (c ∷ d ∷ rest) =
    rw (colon-lower c, colon-lower d, empty_part-lower true rest, empty_part-lower false (d ∷ rest)) refl

same_parts : (a b : List ℕ) → same_key a b ≡ true → has_empty_part a ≡ has_empty_part b
unfolding same_key
same_parts a b h =
    sym (empty_part-lower true a)
    ∙ ap (empty_part true) ((bytes_decides (map to_ascii_lowercase a) (map to_ascii_lowercase b)).0 h)
    ∙ empty_part-lower true b

-- ---- the last value

later_assoc : {T : Type 0} (x y z : Option T) → later (later x y) z ≡ later x (later y z)
later_assoc (Some v) y z = refl
later_assoc None y z = refl

later_none : {T : Type 0} (x : Option T) → later x None ≡ x
later_none (Some v) = refl
later_none None = refl

-- a key with an empty part isn't one without
unlike : (a b : List ℕ) → has_empty_part a ≡ true → has_empty_part b ≡ false → (same : Bool) → same_key a b ≡ same → same ≡ false
unlike a b broken whole true h =
    let e : true ≡ false = sym broken ∙ same_parts a b h ∙ whole in
    absurd cc
unlike a b broken whole false h = refl

unlike_other : (a b : List ℕ) → has_empty_part a ≡ false → has_empty_part b ≡ true → (same : Bool) → same_key a b ≡ same → same ≡ false
unlike_other a b whole broken true h =
    let e : false ≡ true = sym whole ∙ same_parts a b h ∙ broken in
    absurd cc
unlike_other a b whole broken false h = refl

value_of-given : (key other value : List ℕ) (more : List Pair) → has_empty_part key ≡ false → value_of (given other value ++ more) key ≡ later (value_of more key) (if same_key other key then Some value else None)
unfolding value_of
value_of-given key other value more whole =
    elim (cases_Bool (has_empty_part other)) [
      | inl t ↦
          let differs : same_key other key ≡ false = unlike other key t whole (same_key other key) refl in
          rw (t, differs) (sym (later_none (value_of more key)))
      | inr f ↦ rw f refl
    ]

value_of-given_if : (key other : List ℕ) (value : Option (List ℕ)) (more : List Pair) → has_empty_part key ≡ false → value_of (given_if other value ++ more) key ≡ later (value_of more key) (if same_key other key then value else None)
value_of-given_if key other (Some value) more whole = value_of-given key other value more whole
value_of-given_if key other None more whole =
    elim (cases_Bool (same_key other key)) [
      | inl t ↦ rw t (sym (later_none (value_of more key)))
      | inr f ↦ rw f (sym (later_none (value_of more key)))
    ]

none_given_if : (key other : List ℕ) (value : Option (List ℕ)) (more : List Pair) → has_empty_part key ≡ true → value_of (given_if other value ++ more) key ≡ value_of more key
unfolding value_of
none_given_if key other None more broken = refl
none_given_if key other (Some value) more broken =
    elim (cases_Bool (has_empty_part other)) [
      | inl t ↦ rw t refl
      | inr f ↦
          let differs : same_key other key ≡ false = unlike_other other key f broken (same_key other key) refl in
          rw (f, differs) (later_none (value_of more key))
    ]

pub find_step : (key before : List ℕ) (entry : Entry) (more : List Entry) (found : Option (List ℕ)) (k matched : ℕ) (total : Option (List ℕ)) → has_empty_part key ≡ false → matched ≡ common_length key before → k ≡ min entry.shared (length before)
    → later (value_of (pairs_in before (entry ∷ more)) key) found ≡ total
    → later (value_of (pairs_in (key_of before entry) more) key) (later (if (compared key k matched entry.rest).1 then entry.value else None) found) ≡ total
unfolding pairs_in
find_step key before entry more found k matched total whole m-is k-is so_far =
    let test : (compared key k matched entry.rest).1 ≡ same_key (key_of before entry) key = ap (λ (p : ℕ × Bool). p.1) (compared_is key before entry.rest entry.shared k matched m-is k-is) in
    rw test (
    sym (later_assoc (value_of (pairs_in (key_of before entry) more) key) (if same_key (key_of before entry) key then entry.value else None) found)
    ∙ ap (λ (o : Option (List ℕ)). later o found) (sym (value_of-given_if key (key_of before entry) entry.value (pairs_in (key_of before entry) more) whole))
    ∙ so_far)

-- a key with an empty part is given no value
pub none_given : (key before : List ℕ) (entries : List Entry) → has_empty_part key ≡ true → None ≡ value_of (pairs_in before entries) key
unfolding pairs_in value_of
none_given key before [] broken = refl
none_given key before (entry ∷ entries) broken =
    none_given key (key_of before entry) entries broken ∙ sym (none_given_if key (key_of before entry) entry.value (pairs_in (key_of before entry) entries) broken)

-- ---- the loop over the entries

-- what was found among the first entries, and then the rest, is what is found among all
pub record IsFoundSoFar (entries : List Entry) (i : ℕ) (key : List ℕ) (found : Option (List ℕ)) (matched len : ℕ) : Type 0 where
  pub read : later (value_of (pairs_in (last_key [] (take i entries)) (drop i entries)) key) found ≡ value_of (pairs_in [] entries) key
  pub matched_is : matched ≡ common_length key (last_key [] (take i entries))
  pub length_is : len ≡ min (length (last_key [] (take i entries))) (2 ^ 64 - 1)

common-nil : (key : List ℕ) → 0 ≡ common_length key []
unfolding common_length
common-nil [] = refl
common-nil (c ∷ key) = refl

pub nothing_found : (entries : List Entry) (key : List ℕ) → IsFoundSoFar entries 0 key None 0 0
unfolding last_key
nothing_found entries key = record {
  read = later_none (value_of (pairs_in [] entries) key);
  matched_is = common-nil key;
  length_is = refl;
}

pub all_found : (entries : List Entry) (i : ℕ) (key : List ℕ) (found : Option (List ℕ)) (matched len : ℕ) → length entries ≤ i → IsFoundSoFar entries i key found matched len → found ≡ value_of (pairs_in [] entries) key
unfolding pairs_in value_of
all_found entries i key found matched len past so_far =
    ap (λ (rest : List Entry). later (value_of (pairs_in (last_key [] (take i entries)) rest) key) found) (sym (drop_all i entries past)) ∙ so_far.read

pub is_within_key : (entries : List Entry) (i : ℕ) (key : List ℕ) (found : Option (List ℕ)) (matched len : ℕ) → IsFoundSoFar entries i key found matched len → matched ≤ length key
is_within_key entries i key found matched len so_far = omega (arith, so_far.matched_is, common-within key (last_key [] (take i entries)))

pub found_more : (entries : List Entry) (i : ℕ) (entry : Entry) (key rest : List ℕ) (found next : Option (List ℕ)) (matched len k longer : ℕ) (answer : ℕ × Bool)
    → i < length entries → entry ≡ get_or entries i entry → entry.shared < 2 ^ 64 → has_empty_part key ≡ false → rest ≡ entry.rest → k ≡ min entry.shared len → answer ≡ compared key k matched rest
    → next ≡ later (if answer.1 then entry.value else None) found → longer ≡ min (k + length rest) (2 ^ 64 - 1) → IsFoundSoFar entries i key found matched len → IsFoundSoFar entries (i + 1) key next answer.0 longer
found_more entries i entry key rest found next matched len k longer answer lt item small whole rest-is k-is answer-is next-is longer-is so_far =
    let before = last_key [] (take i entries) in
    let front : take (i + 1) entries ≡ take i entries ++ entry ∷ [] = take_more entries i entry lt ∙ ap (λ (x : Entry). take i entries ++ x ∷ []) (sym item) in
    let behind : drop i entries ≡ entry ∷ drop (i + 1) entries = drop_more entries i entry lt ∙ ap (λ (x : Entry). x ∷ drop (i + 1) entries) (sym item) in
    let key_is : last_key [] (take (i + 1) entries) ≡ key_of before entry = ap (last_key []) front ∙ last_key-push [] (take i entries) entry in
    let kept : k ≡ min entry.shared (length before) = omega (arith, so_far.length_is) in
    let same : answer ≡ compared key k matched entry.rest = answer-is ∙ ap (compared key k matched) rest-is in
    let is : answer ≡ (common_length key (key_of before entry), same_key (key_of before entry) key) = same ∙ compared_is key before entry.rest entry.shared k matched so_far.matched_is kept in
    let led : later (value_of (pairs_in before (entry ∷ drop (i + 1) entries)) key) found ≡ value_of (pairs_in [] entries) key = ap (λ (es : List Entry). later (value_of (pairs_in before es) key) found) (sym behind) ∙ so_far.read in
    let read : later (value_of (pairs_in (key_of before entry) (drop (i + 1) entries)) key) (later (if (compared key k matched entry.rest).1 then entry.value else None) found) ≡ value_of (pairs_in [] entries) key =
    find_step key before entry (drop (i + 1) entries) found k matched (value_of (pairs_in [] entries) key) whole so_far.matched_is kept led in
    record {
      read =
          ap (λ (b : List ℕ). later (value_of (pairs_in b (drop (i + 1) entries)) key) next) key_is
          ∙ ap (later (value_of (pairs_in (key_of before entry) (drop (i + 1) entries)) key)) (next-is ∙ ap (λ (p : ℕ × Bool). later (if p.1 then entry.value else None) found) same)
          ∙ read;
      matched_is = ap (λ (p : ℕ × Bool). p.0) is ∙ ap (common_length key) (sym key_is);
      length_is = omega (arith, longer-is, kept, ap length rest-is, ap length key_is, length-append (take entry.shared before) entry.rest, length-take entry.shared before);
    }
