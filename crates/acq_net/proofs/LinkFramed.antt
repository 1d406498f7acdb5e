-- The frame over calls of a link one after another.
use Rattle.std.proofs.Common.{◌∙◌, arith, ℕ, Bool, Option, Ok}
use Rattle.acq_base.specs.Mirror.{MirrorMap}
use Rattle.acq_net.specs.LinkFrame.{ListensBy, ListensCountingBy}
use Rattle.acq_net.specs.Talk.{Talk}

-- one more call that listened and told no fault
pub listened_on : {L T E : Type 0} {kind : E} {faults makes hears : L → ℕ} {before : L → Option Talk} {world : L → Option MirrorMap} {answers : L → Bool} {a b c : L} {x : T} → ListensBy {T = Unit {0}} {E = Unit {0}} faults makes hears before world answers a b (Ok tt)
    → ListensCountingBy {T = T} {E = E} kind faults makes hears before world answers b c (Ok x) → ListensBy {T = Unit {0}} {E = Unit {0}} faults makes hears before world answers a c (Ok tt)
listened_on so_far now = record {
  counts = record { count = omega (arith, so_far.count, now.count); fault = tt; quiet = now.quiet ∙ so_far.quiet };
  made = now.made ∙ so_far.made;
  ends_count = omega (arith, so_far.ends_count, now.ends_count);
  former = now.former ∙ so_far.former;
  same = now.same ∙ so_far.same;
  answered = λ yes. now.answered (so_far.answered yes);
}
