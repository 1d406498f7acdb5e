-- What a read gives, and what is left behind it.
use Rattle.std.proofs.Common.{◌≡◌, ◌∙◌, sym, ap, ℕ, ◌+◌, List, ◌++◌, take, drop, Some}
use Rattle.std.proofs.lemmas.List.{take-append-drop, take_at, drop-drop, length-take-le}
use Rattle.acq_outside.specs.Disk.{IsRead}

-- what came into the front of the buffer, and what lies behind it, is all that was left
pub given : (content before after : List ℕ) (at n : ℕ) → IsRead (Some content) at n before after → Some (drop at content) ≡ Some (take n after ++ drop (at + n) content)
given content before after at n read =
    let rest : List ℕ = drop at content in
    let front : take n after ≡ take n rest = ap (take n) read.bytes ∙ take_at (take n rest) (drop n before) n (length-take-le n rest read.within) in
    ap (λ (all : List ℕ). Some all) (sym (take-append-drop n rest) ∙ ap (λ (behind : List ℕ). take n rest ++ behind) (drop-drop n at content) ∙ ap (λ (given : List ℕ). given ++ drop (at + n) content) (sym front))
