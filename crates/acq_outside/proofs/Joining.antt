-- Pieces joined in memory are a front of the file.
use Rattle.std.proofs.Common.{◌≡◌, ◌∙◌, ℕ, ◌+◌, ◌≤◌, false, List, ◌++◌, length, take, take-add, Option, Some, None, IfSome, Result, Ok, Err, is_err, MatchResult, sym, ap, subst, arith, length-append}
use Rattle.acq_base.specs.declared.fetch.Job.{Job}
use Rattle.acq_base.specs.declared.fetch.Answer.{Answer}
use Rattle.acq_base.specs.declared.fetch.Answer.TheVariants as answers
use Rattle.acq_base.specs.Mirror.{MirrorMap, answer_at}
use Rattle.acq_outside.specs.declared.word.Fetch.{Fetch}
use Rattle.acq_outside.specs.declared.word.Word.TheVariants.{Piece}
use Rattle.acq_outside.specs.Word.{IsWord, IsPieceOf, begun}

-- these bytes are a front of what is served
abbrev pub IsFront : Answer → List ℕ → Type 0
IsFront (answers.Served all) bytes = (bytes ≡ take (length bytes) all) × (length bytes ≤ length all)
IsFront (answers.Moved place) bytes = ⊥
IsFront (answers.Absent status) bytes = ⊥

-- the fetch of a job from its file's beginning goes on behind these bytes, and nothing else has changed
pub record IsJoined (before : ℕ) (world : Option MirrorMap) (job : Job) (bytes : List ℕ) (count : ℕ) (told : Option MirrorMap) (under : Option Fetch) : Type 0 where
  pub quiet : count ≡ before
  pub same : told ≡ world
  pub under_way : under ≡ Some (record { job = job; at = length bytes })
  pub within : length bytes ≤ job.max
  pub front : IfSome world (λ entries. IsFront (answer_at entries job.uri) bytes)

first_front : (answer : Answer) (at : ℕ) (bytes : List ℕ) → at ≡ 0 → IsPieceOf answer at bytes → IsFront answer bytes
first_front (answers.Served all) at bytes none is = let P : ℕ → Type 0 = λ n. IsPieceOf (answers.Served all) n bytes in let piece = subst P none is in (piece.0, omega (arith, piece.1))
first_front (answers.Moved place) at bytes none is = elim is [ ]
first_front (answers.Absent status) at bytes none is = elim is [ ]

front_first : (world : Option MirrorMap) (job : Job) (bytes : List ℕ) → job.from ≡ 0 → IfSome world (λ entries. IsPieceOf (answer_at entries job.uri) job.from bytes) → IfSome world (λ entries. IsFront (answer_at entries job.uri) bytes)
front_first None job bytes none is = tt
front_first (Some entries) job bytes none is = first_front (answer_at entries job.uri) job.from bytes none is

from_start : (from n : ℕ) → from ≡ 0 → from + n ≡ n
from_start from n none = omega arith

pub first : (before after : ℕ) (world told : Option MirrorMap) (job : Job) (under : Option Fetch) (place : ℕ) (bytes : List ℕ) → job.from ≡ 0 → told ≡ world
    → IsWord before after world (begun job) under (Piece place bytes) → IsJoined before world job bytes after told under
first before after world told job under place bytes none same is = record {
  quiet = is.quiet;
  same = same;
  under_way = is.under_way ∙ ap (λ n. Some (record { job = job; at = n })) (from_start job.from (length bytes) none);
  within = let fits = is.within in omega arith;
  front = front_first world job bytes none is.told;
}

longer : (bytes piece joined : List ℕ) → joined ≡ bytes ++ piece → length joined ≡ length bytes + length piece
longer bytes piece joined grown = ap length grown ∙ length-append bytes piece

next_front : (answer : Answer) (bytes piece : List ℕ) → IsFront answer bytes → IsPieceOf answer (length bytes) piece → IsFront answer (bytes ++ piece)
next_front (answers.Served all) bytes piece front is =
    (ap (λ (l : List ℕ). l ++ piece) front.0 ∙ ap (λ (l : List ℕ). take (length bytes) all ++ l) is.0 ∙ sym (take-add (length bytes) (length piece) all) ∙ ap (λ n. take n all) (sym (length-append bytes piece)), rw length-append is.1)
next_front (answers.Moved place) bytes piece front is = elim front [ ]
next_front (answers.Absent status) bytes piece front is = elim front [ ]

front_next : (world : Option MirrorMap) (job : Job) (bytes piece joined : List ℕ) → joined ≡ bytes ++ piece → IfSome world (λ entries. IsFront (answer_at entries job.uri) bytes)
    → IfSome world (λ entries. IsPieceOf (answer_at entries job.uri) (length bytes) piece) → IfSome world (λ entries. IsFront (answer_at entries job.uri) joined)
front_next None job bytes piece joined grown front is = tt
front_next (Some entries) job bytes piece joined grown front is = rw grown (next_front (answer_at entries job.uri) bytes piece front is)

-- one more piece
pub next : (before count after : ℕ) (world told later : Option MirrorMap) (job : Job) (was under : Option Fetch) (place : ℕ) (bytes piece joined : List ℕ)
    → IsJoined before world job bytes count told was → later ≡ told → joined ≡ bytes ++ piece → IfSome was (λ fetch. IsWord count after told fetch under (Piece place piece))
    → IsJoined before world job joined after later under
next before count after world told later job was under place bytes piece joined so_far same grown is =
    let word = rw so_far.under_way at is in
    record {
      quiet = word.quiet ∙ so_far.quiet;
      same = same ∙ so_far.same;
      under_way = word.under_way ∙ ap (λ n. Some (record { job = job; at = n })) (sym (longer bytes piece joined grown));
      within = rw (longer bytes piece joined grown) word.within;
      front = front_next world job bytes piece joined grown so_far.front (rw (← so_far.same) word.told);
    }

-- what an append that was done leaves
pub grown_of : {T E : Type 0} (result : Result T E) (bytes joined cells piece : List ℕ) → is_err result ≡ false → cells ≡ piece → MatchResult result (λ _. joined ≡ bytes ++ cells) (λ _. joined ≡ bytes)
    → joined ≡ bytes ++ piece
grown_of (Ok value) bytes joined cells piece ok same is = is ∙ ap (λ (l : List ℕ). bytes ++ l) same
grown_of (Err error) bytes joined cells piece ok same is = absurd cc
