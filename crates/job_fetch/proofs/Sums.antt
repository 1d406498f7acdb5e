-- The bytes at hand, summed in pieces.
use Rattle.std.proofs.Common.{◌≡◌, ℕ, ◌<◌, ◌≤◌, List, ◌++◌, length, take, drop, Some, ⊎_elim, sym, ap, subst, ◌∙◌, arith}
use Rattle.std.proofs.lemmas.List.{length-append, length-drop, length-take-le, take_at, take-append-le}
use Rattle.std.proofs.Math.Seq.{take-add}
use Rattle.acq_outside.specs.Disk.{IsRead, piece_at}
use Rattle.hash_gate.specs.declared.total.Total.{Total}
use Rattle.hash_gate.specs.Pieces.{HasSummed}
use Rattle.job_fetch.specs.Pieces.{SumsOn}

pub sums_on : (content : List ℕ) (at n : ℕ) (room out rest : List ℕ) (before after : Total) → IsRead (Some content) at n room out → 0 < length room
    → ((bytes : List ℕ) → HasSummed before bytes → HasSummed after (bytes ++ take n (out ++ rest))) → SumsOn content at n before after
sums_on content at n room out rest before after h some feeds =
    let long : n ≤ length out = omega (arith, ap length h.bytes, length-append (piece_at (Some content) at n) (drop n room), length-take-le n (drop at content) h.within) in
    let piece : take n (out ++ rest) ≡ take n (drop at content) =
    take-append-le n out rest long ∙ ap (take n) h.bytes ∙ take_at (piece_at (Some content) at n) (drop n room) n (length-take-le n (drop at content) h.within) in
    record {
      summed = λ inside has. subst (λ b. HasSummed after b) (ap (λ t. take at content ++ t) piece ∙ sym (take-add at n content)) (feeds (take at content) has);
      inside = λ inside. omega (arith, h.within, length-drop at content);
      ends = λ none. ⊎_elim (λ e. omega (arith, ap length e, length-drop at content)) (λ e. absurd (omega (arith, ap length e, some))) (h.ends none);
    }
