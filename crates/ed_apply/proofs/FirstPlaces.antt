-- Where a byte first stands, by memchr's words and by std's.
use Rattle.std.proofs.Common.{◌≡◌, ℕ, List, length, get_or, Some, None, sym, arith}
use Rattle.std.specs.List.{position_or_len}
use Rattle.std.proofs.lemmas.Bool.{false_from_ne_true}
use Rattle.std.proofs.lemmas.List.Sums.{position_or_len_is}
use Rattle.memchr.specs.Find.{IsFirstByte, is_byte}

pub place-some : (byte : ℕ) (text : List ℕ) (at : ℕ) → IsFirstByte (is_byte byte) text (Some at) → at ≡ position_or_len (is_byte byte) text
place-some byte text at first =
    sym (position_or_len_is (is_byte byte) text at 0 (omega (arith, first.0.high))
    (λ k under. false_from_ne_true (is_byte byte (get_or text k 0)) (first.0.before k (omega arith) under)) (λ inside. first.1))

pub place-none : (byte : ℕ) (text : List ℕ) → IsFirstByte (is_byte byte) text None → length text ≡ position_or_len (is_byte byte) text
place-none byte text none =
    sym (position_or_len_is (is_byte byte) text (length text) 0 (omega arith)
    (λ k under. false_from_ne_true (is_byte byte (get_or text k 0)) (none k (omega arith) under)) (λ beyond. absurd (omega arith)))
