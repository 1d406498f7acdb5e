-- The words of a text, one after another from the left.
use Rattle.std.proofs.Common.{◌≡◌, ◌∙◌, ℕ, suc, ◌+◌, ◌<◌, true, cond, List, [], ◌∷◌, length, take, drop, refl, sym, ap, inl, inr, arith}
use Rattle.std.specs.Prelude.{filter}
use Rattle.std.specs.List.{position_or_len, list_any, before_first, after_first}
use Rattle.std.proofs.lemmas.Bool.{cases_Bool}
use Rattle.std.proofs.lemmas.Bool.Decides.{nat_tests}
use Rattle.std.proofs.lemmas.List.{take_all, drop_all}
use Rattle.std.proofs.lemmas.List.Splits.{slice_split_first}
use Rattle.acq_base.specs.Words.{is_blank, is_word, trimmed_start, words}
use Rattle.source_lists.proofs.Cuts.{list_any-within, place-nowhere, split_whole}
use Rattle.source_lists.specs.OneLine.{first_word, behind_first}

-- blanks in front are passed over
words-trimmed : (text : List ℕ) → words is_blank (trimmed_start text) ≡ words is_blank text
unfolding words
words-trimmed [] = refl
words-trimmed (c ∷ rest) =
    elim (cases_Bool (is_blank c)) [
      | inl blank ↦ rw blank (words-trimmed rest)
      | inr plain ↦ rw plain (rw plain refl)
    ]

-- the blank behind a word counts as little as those behind it
pub blank-passed : (text : List ℕ) → trimmed_start (drop (position_or_len is_blank text) text) ≡ trimmed_start (after_first is_blank text)
blank-passed [] = refl
blank-passed (c ∷ rest) =
    elim (cases_Bool (is_blank c)) [
      | inl blank ↦ rw blank (rw blank refl)
      | inr plain ↦
          let n = position_or_len is_blank rest in
          let one : 1 + n ≡ suc n = omega arith in
          let two : 1 + n + 1 ≡ suc (n + 1) = omega arith in
          rw plain (ap (λ k. trimmed_start (drop k (c ∷ rest))) one ∙ blank-passed rest ∙ ap (λ k. trimmed_start (drop k (c ∷ rest))) (sym two))
    ]

-- a word that isn't empty is the first
first-word : (text : List ℕ) → 0 < length (before_first is_blank text) → words is_blank text ≡ before_first is_blank text ∷ words is_blank (after_first is_blank text)
unfolding words
first-word text long =
    let word : is_word (before_first is_blank text) ≡ true = grind (arith, nat_tests) in
    elim (cases_Bool (list_any is_blank text)) [
      | inl any ↦
          ap (filter is_word) (slice_split_first is_blank text 0 (list_any-within is_blank text any)) ∙ ap (λ b. cond b (before_first is_blank text ∷ words is_blank (after_first is_blank text)) (words is_blank (after_first is_blank text))) word
      | inr none ↦
          let place : position_or_len is_blank text ≡ length text = place-nowhere is_blank text none in
          let whole : before_first is_blank text ≡ text = ap (λ n. take n text) place ∙ take_all (length text) text (omega arith) in
          let rest : after_first is_blank text ≡ [] = drop_all (position_or_len is_blank text + 1) text (omega (arith, place)) in
          ap (filter is_word) (split_whole is_blank text none) ∙ ap (λ b. cond b (text ∷ []) []) (rw whole at word) ∙ ap (λ (t : List ℕ). t ∷ []) (sym whole) ∙ ap (λ (t : List ℕ). before_first is_blank text ∷ words is_blank t) (sym rest)
    ]

pub words-next : (text : List ℕ) → 0 < length (first_word text) → words is_blank text ≡ first_word text ∷ words is_blank (behind_first text)
words-next text long =
    sym (words-trimmed text) ∙ first-word (trimmed_start text) long ∙ ap (λ (t : List (List ℕ)). first_word text ∷ t) (sym (words-trimmed (after_first is_blank (trimmed_start text))))

one_byte : (n c : ℕ) (rest : List ℕ) → length (take (1 + n) (c ∷ rest)) ≡ 0 → ⊥
one_byte n c rest none =
    let next : 1 + n ≡ suc n = omega arith in
    let short : length (take (suc n) (c ∷ rest)) ≡ 0 = rw next at none in
    omega (arith, short)

-- where it is empty, there is none
pub words-none : (text : List ℕ) → length (first_word text) ≡ 0 → words is_blank text ≡ []
unfolding words
words-none [] none = refl
words-none (c ∷ rest) none =
    elim (cases_Bool (is_blank c)) [
      | inl blank ↦ rw blank (words-none rest (rw blank at none))
      | inr plain ↦ absurd (let h : length (before_first is_blank (c ∷ rest)) ≡ 0 = rw plain at none in one_byte (position_or_len is_blank rest) c rest (rw plain at h))
    ]

pub ruleset next_words = (words-next, words-none)
