-- A file read in pieces.
use Rattle.std.proofs.Common.{◌≡◌, ℕ, ◌+◌, ◌<◌, List, [], ◌++◌, length, take, drop, Option, unwrap_or, ⊎_elim, sym, ap, subst, ◌∙◌, arith}
use Rattle.std.proofs.lemmas.List.{length-drop, length-take-le, take_at, take-append-drop, take-take, drop-take}
use Rattle.acq_base.specs.declared.sum.Sum.{Sum}
use Rattle.acq_outside.specs.Disk.{IsRead, piece_at}
use Rattle.hash_gate.specs.declared.gate.Gate.{Gate}
use Rattle.hash_gate.specs.Pieces.{HasTaken}
use Rattle.lists_dir.specs.Verified.{TakesOn}

pub take-more : (content : List ℕ) (at n : ℕ) → take at content ++ take n (drop at content) ≡ take (at + n) content
take-more content at n =
    (λ i. (sym (take-take at (at + n) content (omega arith))) i ++ (sym (drop-take at n content)) i) ∙ take-append-drop at (take (at + n) content)

pub takes_on : (file : Option (List ℕ)) (at n : ℕ) (room out : List ℕ) (before after : Gate) → IsRead file at n room out → 0 < length room
    → ((sum : Sum) (bytes : List ℕ) → HasTaken before sum bytes → HasTaken after sum (bytes ++ take n out))
    → TakesOn (unwrap_or file []) at n before after
takes_on file at n room out before after h some feeds =
    let content = unwrap_or file [] in
    let piece : take n out ≡ take n (drop at content) =
    ap (take n) h.bytes ∙ take_at (piece_at file at n) (drop n room) n (length-take-le n (drop at content) h.within) in
    record {
      taken = λ sum inside has.
          subst (λ b. HasTaken after sum b) (ap (λ t. take at content ++ t) piece ∙ take-more content at n) (feeds sum (take at content) has);
      inside = λ inside. omega (arith, h.within, length-drop at content);
      ends = λ none. ⊎_elim (λ e. omega (arith, ap length e, length-drop at content)) (λ e. absurd (omega (arith, ap length e, some))) (h.ends none);
    }
