-- What one read gives is a part of the file.
use Rattle.std.proofs.Common.{◌≡◌, ◌∙◌, ℕ, ◌≤◌, List, [], ◌++◌, length, take, drop, Option, inr, ⊎_elim, sym, ap, arith}
use Rattle.std.proofs.lemmas.List.{take_at, length-take-le}
use Rattle.acq_outside.specs.Disk.{IsRead}
use Rattle.file_method.specs.Piece.{IsPart, rest_of}

front : (rest tail after : List ℕ) (n : ℕ) → n ≤ length rest → after ≡ take n rest ++ tail → take n after ≡ take n rest
front rest tail after n within is = ap (λ (l : List ℕ). take n l) is ∙ take_at (take n rest) tail n (length-take-le n rest within)

-- bytes cut to what was read
pub part_read : (content : Option (List ℕ)) (at most n : ℕ) (before after bytes : List ℕ) → 1 ≤ length before → IsRead content at n before after → bytes ≡ take n after → IsPart content at most bytes
part_read content at most n before after bytes room read cut =
    let same : bytes ≡ take n (rest_of content at) = cut ∙ front (rest_of content at) (drop n before) after n read.within read.bytes in
    let size : length bytes ≡ n = ap length same ∙ length-take-le n (rest_of content at) read.within in
    record {
      bytes_are = same ∙ ap (λ k. take k (rest_of content at)) (sym size);
      within = rw size read.within;
      ends = λ none. ⊎_elim (λ (past : rest_of content at ≡ []). inr past) (λ (empty : before ≡ []). absurd (no_room empty)) (read.ends (sym size ∙ none));
    }
  where
    no_room : before ≡ [] → ⊥
    no_room empty = let none : length before ≡ 0 = ap length empty in absurd (omega arith)
