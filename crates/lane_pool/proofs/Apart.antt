-- The faults of a lane don't overlap.
use Rattle.std.proofs.Common.{◌≡◌, ◌∙◌, ℕ, List, [], ◌∷◌, ◌++◌, Option, None, sym, refl, subst, arith}
use Rattle.acq_base.specs.declared.fetch.NotServed.{NotServed}
use Rattle.acq_base.specs.declared.fetch.NotServed.TheVariants as nots
use Rattle.acq_base.specs.declared.fetch.Reply.TheVariants as replies
use Rattle.acq_base.specs.Mirror.{MirrorMap}
use Rattle.acq_outside.specs.declared.word.Fetch.{Fetch}
use Rattle.acq_outside.specs.declared.word.Word.{Word}
use Rattle.acq_outside.specs.declared.word.Word.TheVariants.{Piece, Done, Not, NoMemory}
use Rattle.acq_outside.specs.Count.{Rose}
use Rattle.acq_outside.specs.Word.{IsSoundWord, IsOther}
use Rattle.lane_pool.specs.Words.{count_after, IsHeard}
use Rattle.lane_pool.specs.Laws.{AreApart, FaultsAreApart, OwnWordsAreHeard, fault_of, faults_of}

one_word : (world : Option MirrorMap) (last end : ℕ) (fetch : Fetch) (word : Word) (faults : List (ℕ × ℕ)) → IsHeard last world fetch word → AreApart (count_after last word) faults end
    → AreApart last (fault_of word ++ faults) end
one_word world last end fetch (Piece place bytes) faults h apart = apart
one_word world last end fetch (Done size) faults h apart = apart
one_word world last end fetch (Not (nots.Fault before after)) faults h apart =
    let a = h.in_order in let b = h.rises in let c = h.says.counted.0 in (omega arith, omega arith, apart)
one_word world last end fetch (Not (nots.Moved place)) faults h apart = apart
one_word world last end fetch (Not (nots.Absent status)) faults h apart = apart
one_word world last end fetch (Not nots.TooBig) faults h apart = apart
one_word world last end fetch (Not (nots.Garbled at)) faults h apart = apart
one_word world last end fetch NoMemory faults h apart = apart

pub faults_apart : FaultsAreApart
faults_apart world start count [] heard = heard
faults_apart world start count (step ∷ steps) heard =
    one_word world start count step.0 step.1 (faults_of steps) heard.0 (faults_apart world (count_after start step.1) count steps heard.1)

quiet_own : (before after : ℕ) (world : Option MirrorMap) (fetch : Fetch) (under : Option Fetch) (end : NotServed) → IsSoundWord (Not end) → IsOther before after world fetch under (replies.Not end) → after ≡ before
    → count_after before (Not end) ≡ before → IsHeard before world fetch (Not end) × (count_after before (Not end) ≡ after)
quiet_own before after world fetch under end sound is still same = (
  record {
    before = before;
    in_order = omega arith;
    rises = omega arith;
    says = subst (λ n. IsOther before n world fetch None (replies.Not end)) (still ∙ sym same) record { counted = is.counted; ended = refl; told = is.told };
    sound = sound;
  },
  same ∙ sym still,
)

pub own_heard : OwnWordsAreHeard
own_heard before after world fetch under (Piece place bytes) rises sound is = (
  record {
    before = before;
    in_order = omega arith;
    rises = omega arith;
    says = record { quiet = refl; goes_on = is.goes_on; nonempty = is.nonempty; small = is.small; within = is.within; under_way = refl; told = is.told };
    sound = sound;
  },
  sym is.quiet,
)
own_heard before after world fetch under (Done size) rises sound is = (
  record { before = before; in_order = omega arith; rises = omega arith; says = record { quiet = refl; reached = is.reached; ended = refl; told = is.told }; sound = sound },
  sym is.quiet,
)
own_heard before after world fetch under (Not (nots.Fault told_before told_after)) rises sound is =
    let c = is.counted in (
      record {
        before = before;
        in_order = omega arith;
        rises = let a = c.1 in omega arith;
        says = record { counted = (c.0, refl, subst (λ n. Rose before n) (sym c.1) c.2); ended = refl; told = is.told };
        sound = sound;
      },
      c.1,
    )
own_heard before after world fetch under (Not (nots.Moved place)) rises sound is = quiet_own before after world fetch under (nots.Moved place) sound is is.counted refl
own_heard before after world fetch under (Not (nots.Absent status)) rises sound is = quiet_own before after world fetch under (nots.Absent status) sound is is.counted refl
own_heard before after world fetch under (Not nots.TooBig) rises sound is = quiet_own before after world fetch under nots.TooBig sound is is.counted refl
own_heard before after world fetch under (Not (nots.Garbled at)) rises sound is = quiet_own before after world fetch under (nots.Garbled at) sound is is.counted refl
own_heard before after world fetch under NoMemory rises sound is = (
  record {
    before = before;
    in_order = omega arith;
    rises = omega arith;
    says = record { counted = refl; ended = refl; told = is.told };
    sound = sound;
  },
  sym is.counted,
)
