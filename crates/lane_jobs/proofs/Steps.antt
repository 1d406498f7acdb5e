-- A run over several lanes, one step after another.
use Rattle.std.proofs.Common.{◌≡◌, ◌∙◌, inl, inr, ℕ, true, false, List, [], ◌∷◌, ◌++◌, Option, refl, sym, ap, subst}
use Rattle.std.proofs.lemmas.Bool.{cases_Bool}
use Rattle.std.proofs.lemmas.List.{append-nil, append_assoc}
use Rattle.acq_base.specs.declared.plan.Source.{Source}
use Rattle.acq_outside.specs.Crash.{State}
use Rattle.acq_outside.specs.States.{Since}
use Rattle.board_model.specs.Boards.{Board}
use Rattle.board_model.specs.Runs.{Note}
use Rattle.journal_model.specs.Rest.{KeptAtRestSince}
use Rattle.commit_journal.proofs.Fills.{idle_on}
use Rattle.lane_pool.specs.Pool.{Pool}
use Rattle.run_jobs.specs.OnTheWay.{StaysOnItsWay, WasLeft}
use Rattle.run_jobs.specs.Running.{RunStart, SameBoard}
use Rattle.run_jobs.proofs.Keeping.{told_back}
use Rattle.run_jobs.proofs.OnTheWay.{left_on, none_both, same_unheard, stays_on}
use Rattle.lane_jobs.specs.Going.{IsRunningOver, JobsAddNotes, JobsGoOn, KeepsWholeFiles, MayAskOver, RunLanes, run_lanes}
use Rattle.lane_jobs.specs.JobsOut.{JobsOut, is_filled, with_row}
use Rattle.lane_jobs.specs.declared.transfers.Transfer.{Transfer}

-- ---- what was left

-- answers before it leave a list as it was left
pub left_behind : (sources : List Source) (name : List ℕ) (notes more : List Note) (now : List State) → WasLeft sources name more now → WasLeft sources name (notes ++ more) now
left_behind sources name notes more now w = record {
  earlier = notes ++ w.earlier;
  note = w.note;
  later = w.later;
  is = ap (λ (ns : List Note). notes ++ ns) w.is ∙ sym (append_assoc notes w.earlier (w.note ∷ w.later));
  own = w.own;
  left = w.left;
  last = w.last;
}

-- and so does what stays on its way
pub left_then : (sources : List Source) (name : List ℕ) (notes more : List Note) (mid now : List State) → WasLeft sources name notes mid → StaysOnItsWay sources more mid now name → WasLeft sources name (notes ++ more) now
left_then sources name notes more mid now w (inl same) = record {
  earlier = w.earlier;
  note = w.note;
  later = w.later ++ more;
  is = ap (λ (ns : List Note). ns ++ more) w.is ∙ append_assoc w.earlier (w.note ∷ w.later) more;
  own = w.own;
  left = left_on name w.note.ask.from w.note.told.closed mid now same.0 w.left;
  last = none_both sources name w.later more w.last same.1;
}
left_then sources name notes more mid now w (inr later) = left_behind sources name notes more now later

-- ---- steps

running_more : {begun : RunStart} {state : RunLanes} {now : List State} (notes more later : List Note) → IsRunningOver begun ((notes ++ more) ++ later) state now → IsRunningOver begun (notes ++ (more ++ later)) state now
running_more {begun} {state} {now} notes more later running = subst (λ (ns : List Note). IsRunningOver begun ns state now) (append_assoc notes more later) running

pub goes_same : (a : RunLanes) (now : List State) → JobsGoOn a a now now
goes_same a now = λ begun notes sound running. record {
  more = [];
  left = λ told name none. same_unheard begun.config.sources name now now refl;
  ended = λ told name filled none. absurd (let wrong : true ≡ false = sym filled ∙ none in cc);
  running = subst (λ (ns : List Note). IsRunningOver begun ns a now) (sym (append-nil notes)) running;
}

pub goes_then : (a b c : RunLanes) (old mid now : List State) → Since mid now (KeptAtRestSince mid) → JobsGoOn a b old mid → JobsGoOn b c mid now → JobsGoOn a c old now
goes_then a b c old mid now since one two = λ begun notes sound running.
    let w : JobsAddNotes begun notes a b old mid = one begun notes sound running in
    let v : JobsAddNotes begun (notes ++ w.more) b c mid now = two begun (notes ++ w.more) sound w.running in
    record {
      more = w.more ++ v.more;
      left = λ told name none. elim (cases_Bool (is_filled b.jobs name)) [
        | inl filled ↦ inr (left_behind begun.config.sources name w.more v.more now (v.ended told name filled none))
        | inr isnt ↦ stays_on begun.config.sources name w.more v.more old mid now (w.left (told_back (KeptAtRestSince mid) mid now since told) name isnt) (v.left told name none)
      ];
      ended = λ told name was none. elim (cases_Bool (is_filled b.jobs name)) [
        | inl filled ↦ left_behind begun.config.sources name w.more v.more now (v.ended told name filled none)
        | inr isnt ↦ left_then begun.config.sources name w.more v.more mid now (w.ended (told_back (KeptAtRestSince mid) mid now since told) name was isnt) (v.left told name none)
      ];
      running = running_more notes w.more v.more v.running;
    }

-- a run goes on as before where no worker is used from then on
pub goes_alone : (old mid : Pool) (jobs later : JobsOut) (b : Board) (after : RunLanes) (before now : List State) → mid ≡ old → later ≡ record { rows = jobs.rows; alone = true } → JobsGoOn (run_lanes mid later b) after before now
    → JobsGoOn (run_lanes old jobs b) after before now
goes_alone old mid jobs later b after before now same is goes = λ begun notes sound running.
    let alone : JobsOut = record { rows = jobs.rows; alone = true } in
    let so : JobsGoOn (run_lanes old alone b) after before now = subst (λ (p : Pool). JobsGoOn (run_lanes p alone b) after before now) same (subst (λ (j : JobsOut). JobsGoOn (run_lanes mid j b) after before now) is goes) in
    let v : JobsAddNotes begun notes (run_lanes old alone b) after before now = so begun notes sound (record {
      under_way = running.under_way;
      counted = running.counted;
      methods = running.methods;
      out = record {
        numbers = running.out.numbers;
        each = running.out.each;
        given = λ used lane fetch at. absurd (let wrong : true ≡ false = used in cc);
      };
    }) in
    record { more = v.more; left = v.left; ended = v.ended; running = v.running }

-- a run that was ready is so afterwards
pub ready_then : (a b : RunLanes) (old now : List State) → MayAskOver a old → Since old now (KeptAtRestSince old) → JobsGoOn a b old now → MayAskOver b now
ready_then a b old now ready since goes =
    let w : JobsAddNotes ready.begun ready.notes a b old now = goes ready.begun ready.notes ready.sound ready.running in
    record {
      begun = ready.begun;
      notes = ready.notes ++ w.more;
      sound = ready.sound;
      running = w.running;
      idle = idle_on old now since ready.idle;
    }

-- ---- what stays

pub whole_same : (now : List State) → KeepsWholeFiles now now
whole_same now = λ name isnt. refl

pub whole_then : (old mid now : List State) → KeepsWholeFiles old mid → KeepsWholeFiles mid now → KeepsWholeFiles old now
whole_then old mid now one two = λ name isnt. two name isnt ∙ one name isnt

pub same_board : (b : Board) → SameBoard b b
same_board b = record { config = refl; settled = refl; verdicts = refl }

pub same_then : (b c d : Board) → SameBoard b c → SameBoard c d → SameBoard b d
same_then b c d one two = record { config = two.config ∙ one.config; settled = two.settled ∙ one.settled; verdicts = two.verdicts ∙ one.verdicts }

-- no worker is used from then on
pub alone_then : (lane : ℕ) (row : Option Transfer) (old new : JobsOut) → new ≡ with_row lane row old → old.alone ≡ true → new.alone ≡ true
alone_then lane row old new is alone = ap (λ (jobs : JobsOut). jobs.alone) is ∙ alone
