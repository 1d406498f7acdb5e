-- A text cut at the first byte that separates its parts.
use Rattle.std.proofs.Common.{◌≡◌, ◌≢◌, ℕ, suc, ◌==◌, drop-cons, false, List, [], ◌∷◌, ◌++◌, take, drop, Some, slice_get, All, sym, ap, ◌∙◌, arith}
use Rattle.std.proofs.lemmas.List.Splits.{slice_split_none, slice_split_at}
use Rattle.std.proofs.lemmas.List.{take-append-drop}
use Rattle.std.proofs.lemmas.Option.{slice_get_within, get_or_from_slice_get}
use Rattle.release_file.specs.DateText.{parts_at}

-- the test of a byte that is another one
other_byte : (byte : ℕ) (b : ℕ) → b ≢ byte → (b == byte) ≡ false
other_byte byte b ne = grind arith

others : (byte : ℕ) (text : List ℕ) → All (λ b. b ≢ byte) text → All (λ b. (b == byte) ≡ false) text
others byte text h = λ k d l. other_byte byte _ (h k d l)

-- a text without the byte is one part
pub parts_at-none : (byte : ℕ) (text : List ℕ) → All (λ b. b ≢ byte) text → parts_at byte text ≡ text ∷ []
parts_at-none byte text h = slice_split_none (λ b. b == byte) text (others byte text h)

-- the text at its first such byte
pub parts_at-first : (byte : ℕ) (front back : List ℕ) → All (λ b. b ≢ byte) front → parts_at byte (front ++ byte ∷ back) ≡ front ∷ parts_at byte back
parts_at-first byte front back h = slice_split_at (λ b. b == byte) front byte back (others byte front h) (grind arith)

-- the same, where the byte is found by its place
pub parts_at-place : (byte : ℕ) (text : List ℕ) (index : ℕ) → slice_get text index ≡ Some byte → All (λ b. b ≢ byte) (take index text) → parts_at byte text ≡ take index text ∷ parts_at byte (drop 1 (drop index text))
parts_at-place byte text index found first =
    let within = slice_get_within text index byte found in
    let here = get_or_from_slice_get text index byte 0 found in
    let rest : drop index text ≡ byte ∷ drop (suc index) text = drop-cons text index 0 within ∙ ap (λ x. x ∷ drop (suc index) text) here in
    let whole : take index text ++ byte ∷ drop (suc index) text ≡ text = ap (λ d. take index text ++ d) (sym rest) ∙ take-append-drop index text in
    let after : drop 1 (drop index text) ≡ drop (suc index) text = ap (drop 1) rest in
    sym (ap (parts_at byte) whole) ∙ parts_at-first byte (take index text) (drop (suc index) text) first ∙ ap (λ d. take index text ∷ parts_at byte d) (sym after)

pub ruleset parts = (parts_at-none, parts_at-place)
