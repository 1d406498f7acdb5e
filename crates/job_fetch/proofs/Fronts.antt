-- The bytes of a file as its pieces come.
use Rattle.std.proofs.Common.{◌≡◌, sym, ap, ◌∙◌, ℕ, ◌+◌, ◌≤◌, List, ◌++◌, length, take, drop, append_assoc, length-take, Option, Some, None, IfSome, arith}
use Rattle.std.proofs.lemmas.List.{drop-append-le}
use Rattle.std.proofs.Math.Seq.{take-add}
use Rattle.acq_base.specs.Mirror.{MirrorMap, answer_at}
use Rattle.acq_base.specs.declared.fetch.Answer.{Answer}
use Rattle.acq_base.specs.declared.fetch.Answer.TheVariants.{Served, Moved, Absent}
use Rattle.acq_base.specs.declared.fetch.Job.{Job}
use Rattle.acq_outside.specs.Word.{IsPieceOf}
use Rattle.job_fetch.specs.Hearing.{HasCome, IsFront}

more : (answer : Answer) (part : List ℕ) (from at : ℕ) (bytes piece : List ℕ) → from ≤ at → IsPieceOf answer at piece → IsFront answer part from at bytes → IsFront answer part from (at + length piece) (bytes ++ piece)
more (Served all) part from at bytes piece past goes is =
    let n = length piece in
    let le : from ≤ length (take at all) = omega (arith, length-take at all, goes.1) in
    let cut : drop from (take (at + n) all) ≡ drop from (take at all) ++ take n (drop at all) =
    ap (λ (l : List ℕ). drop from l) (take-add at n all) ∙ drop-append-le from (take at all) (take n (drop at all)) le in
    ap (λ (l : List ℕ). l ++ piece) is ∙ append_assoc (take from part) (drop from (take at all)) piece
    ∙ ap (λ (l : List ℕ). take from part ++ (drop from (take at all) ++ l)) goes.0 ∙ ap (λ (l : List ℕ). take from part ++ l) (sym cut)
more (Moved place) part from at bytes piece past goes is = tt
more (Absent status) part from at bytes piece past goes is = tt

-- a piece more
pub more_came : (world : Option MirrorMap) (part : List ℕ) (job : Job) (at : ℕ) (bytes piece : List ℕ) → job.from ≤ at → IfSome world (λ entries. IsPieceOf (answer_at entries job.uri) at piece)
    → HasCome world part job at bytes → HasCome world part job (at + length piece) (bytes ++ piece)
more_came None part job at bytes piece past goes has = record { told = tt }
more_came (Some entries) part job at bytes piece past goes has = record { told = more (answer_at entries job.uri) part job.from at bytes piece past goes has.told }
