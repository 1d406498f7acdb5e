use Rattle.std.proofs.Common.{◌∙◌, ℕ, sym, subst}
use Rattle.board_model.proofs.Theorems.{boards_without_jobs_ask_nothing, jobs_always_stand}
use Rattle.commit_journal.proofs.Fills.{rests_on}
use Rattle.update_core.specs.BoardRefinement.{board_of}
use Rattle.lane_jobs.specs.Going.{NoneGoesOutBelow, run_lanes}
use Rattle.lane_jobs.proofs.Idle.{none_over}
use Rattle.lane_jobs.proofs.Over.{keeps_then}
use Rattle.lane_jobs.proofs.Steps.{goes_then, ready_then}
use Rattle.lane_jobs.proofs.asking.ask_some.Goals as goal

pub take_word-requires-clause-ready : goal.take_word-requires-clause-ready
take_word-requires-clause-ready g c κs within = ready_then _ _ _ _ c.requires.ready c.hand_all.ensures.moments c.in_ok-went.ensures.goes

pub returns-in_err-take_word-clause-moments : goal.returns-in_err-take_word-clause-moments
returns-in_err-take_word-clause-moments g c = rests_on _ _ _ c.hand_all.ensures.moments c.take_word.ensures.moments

pub returns-then-has_out-clause-moments : goal.returns-then-has_out-clause-moments
returns-then-has_out-clause-moments g c = rests_on _ _ _ c.hand_all.ensures.moments c.take_word.ensures.moments

pub returns-then-has_out-clause-goes : goal.returns-then-has_out-clause-goes
returns-then-has_out-clause-goes g c = goes_then _ _ _ _ _ _ c.take_word.ensures.moments c.in_ok-went.ensures.goes c.in_ok-take_word.ensures.goes

pub returns-clause-none : goal.returns-clause-none
returns-clause-none g c = λ stood.
    let board = board_of c.hand_all.new.board in
    none_over (run_lanes c.hand_all.new.lanes c.hand_all.new.jobs board) (g.D.Disk.trace c.hand_all.new.disk) jobs_always_stand boards_without_jobs_ask_nothing
    (ready_then _ _ _ _ c.requires.ready c.hand_all.ensures.moments c.in_ok-went.ensures.goes)
    (sym c.has_out.ensures ∙ c.if-has_out.false)
    (subst (λ (lanes : ℕ). NoneGoesOutBelow lanes board) (sym c.in_ok-went.ensures.rows) (c.in_ok-went.ensures.none stood))

pub returns-in_err-take_word-clause-methods : goal.returns-in_err-take_word-clause-methods
returns-in_err-take_word-clause-methods g c = keeps_then c.args.lanes.now c.hand_all.new.lanes c.take_word.new.lanes c.hand_all.ensures.methods c.take_word.ensures.methods

pub returns-then-has_out-clause-methods : goal.returns-then-has_out-clause-methods
returns-then-has_out-clause-methods g c = keeps_then c.args.lanes.now c.hand_all.new.lanes c.take_word.new.lanes c.hand_all.ensures.methods c.take_word.ensures.methods

pub returns-then-has_out-clause-begins : goal.returns-then-has_out-clause-begins
returns-then-has_out-clause-begins g c = λ first has. c.in_ok-take_word.ensures.begins first (c.in_ok-went.ensures.begins first has)
