-- A list's file on its way as pieces come, from one moment of the disk to a later one.
use Rattle.std.proofs.Common.{◌≡◌, refl, sym, ap, ◌∙◌, subst, ℕ, ◌+◌, ◌≤◌, List, [], ◌∷◌, ◌++◌, length, take, length-append, arith}
use Rattle.std.proofs.lemmas.List.{length-take-le}
use Rattle.acq_base.specs.Sum.{sum_of}
use Rattle.acq_base.specs.declared.sum.Sum.{Sum}
use Rattle.acq_outside.specs.Crash.{State}
use Rattle.acq_outside.proofs.Going.{onward}
use Rattle.acq_outside.specs.States.{IsTold, Since, IsNow}
use Rattle.hash_gate.specs.Pieces.{HasSummed, size_so_far}
use Rattle.journal_model.specs.Names.{partial}
use Rattle.journal_model.specs.Rest.{IsPartSynced, IsPartThere, KeptAtRestSince, KeepsAtRest, part_bytes}
use Rattle.partial_store.specs.Refinement.{part_of}
use Rattle.job_fetch.specs.Fetched.{LastsAs, Staging}
use Rattle.job_fetch.specs.Others.{LeavesOthers}
use Rattle.job_fetch.specs.Pieces.{IsFilling}
use Rattle.job_fetch.proofs.Others.{others_by_steps}
use Rattle.job_fetch.specs.declared.filling.Filling.{Filling}

rests_by_steps : (a b c : State) → KeepsAtRest a b → KeepsAtRest b c → KeepsAtRest a c
rests_by_steps a b c first later = record { rest = λ idle folder rest. later.rest (first.idle idle) folder (first.rest idle folder rest); idle = λ idle. later.idle (first.idle idle) }

told_first : (states old : List State) → IsTold (states ++ old) → (old ≡ [] → states ++ old ≡ []) → IsTold old
told_first states [] told untold = subst IsTold (untold refl) told
told_first states (s ∷ old) told untold = tt

-- a disk that tells now told before
pub told_before : (old new : List State) → Since old new (KeptAtRestSince old) → IsTold new → IsTold old
told_before old new since told = told_first since.states old (subst IsTold since.joined told) (λ none. sym since.joined ∙ since.untold none)

pub staging_more : (name : List ℕ) (old mid new : List State) → Staging name old mid → Staging name mid new → Staging name old new
staging_more name old mid new first later = record {
  moments = onward KeepsAtRest rests_by_steps old mid new first.moments later.moments;
  others = λ other apart. later.others other apart ∙ first.others other apart;
  only = onward (LeavesOthers (partial name)) (others_by_steps (partial name)) old mid new first.only later.only;
}

pub filled_on : (old new : List State) (before after : Filling) (piece : List ℕ) → IsFilling old before → Since old new (KeptAtRestSince old)
    → after.part ≡ part_of before.part.name (before.part.len + length piece)
    → IsNow (IsPartThere before.part.name) new
    → (IsTold new → part_bytes new before.part.name ≡ part_bytes old before.part.name ++ piece)
    → size_so_far after.total ≡ size_so_far before.total + length piece
    → ((bytes : List ℕ) → HasSummed before.total bytes → HasSummed after.total (bytes ++ piece))
    → IsFilling new after
filled_on old new before after piece is since part there bytes size taken =
    let name : after.part.name ≡ before.part.name = ap (λ p. p.name) part in
    let len : after.part.len ≡ before.part.len + length piece = ap (λ p. p.len) part in
    record {
      there = subst (λ n. IsNow (IsPartThere n) new) (sym name) there;
      len = λ told. let long = ap length (bytes told) in
          ap (λ n. length (part_bytes new n)) name ∙ long ∙ length-append (part_bytes old before.part.name) piece
          ∙ ap (λ n. n + length piece) (is.len (told_before old new since told)) ∙ sym len;
      small = omega (arith, is.small, size, len);
      summed = λ told.
          subst (λ b. HasSummed after.total b) (sym (ap (λ n. part_bytes new n) name ∙ bytes told))
          (taken (part_bytes old before.part.name) (is.summed (told_before old new since told)));
    }

pub begun : (old mid new : List State) (name : List ℕ) (keep : ℕ) (filling : Filling) → (IsTold old → keep ≤ length (part_bytes old name)) → Since old mid (KeptAtRestSince old)
    → filling.part ≡ part_of name keep → IsNow (IsPartThere name) mid → (IsTold mid → part_bytes mid name ≡ take keep (part_bytes old name)) → new ≡ mid
    → size_so_far filling.total ≤ keep → (IsTold mid → length (part_bytes mid name) ≡ keep → HasSummed filling.total (part_bytes mid name)) → IsFilling new filling
begun old mid new name keep filling has since part there bytes still small sums =
    let named : filling.part.name ≡ name = ap (λ p. p.name) part in
    let len : filling.part.len ≡ keep = ap (λ p. p.len) part in
    let long : IsTold mid → length (part_bytes mid name) ≡ keep = λ told. ap length (bytes told) ∙ length-take-le keep (part_bytes old name) (has (told_before old mid since told)) in
    subst (λ t. IsFilling t filling) (sym still) record {
      there = subst (λ n. IsNow (IsPartThere n) mid) (sym named) there;
      len = λ told. ap (λ n. length (part_bytes mid n)) named ∙ long told ∙ sym len;
      small = omega (arith, small, len);
      summed = λ told. subst (λ n. HasSummed filling.total (part_bytes mid n)) (sym named) (sums told (long told));
    }

pub staging_named : (given name : List ℕ) (old new : List State) → given ≡ name → Staging given old new → Staging name old new
staging_named given name old new same staging = subst (λ n. Staging n old new) same staging

pub lasts_as : (now : List State) (name bytes : List ℕ) (sum : Sum) → IsTold now → IsNow (IsPartSynced name bytes) now → sum_of bytes ≡ sum → LastsAs name now sum
lasts_as [] name bytes sum told synced sums = elim told [ ]
lasts_as (s ∷ past) name bytes sum told synced sums = record { bytes = bytes; file = synced.is; sums = sums }
