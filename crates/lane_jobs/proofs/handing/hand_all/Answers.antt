use Rattle.std.proofs.Common.{◌≡◌, ◌∙◌, rules, true, false, refl, sym}
use Rattle.acq_outside.proofs.Framed.{stayed_on_counting}
use Rattle.acq_outside.proofs.Going.{no_time}
use Rattle.commit_journal.proofs.Fills.{rests_on}
use Rattle.update_core.specs.BoardRefinement.{board_of}
use Rattle.lane_jobs.specs.Going.{run_lanes}
use Rattle.lane_jobs.proofs.Idle.{none_first, none_more}
use Rattle.lane_jobs.proofs.Steps.{goes_same, goes_then, ready_then, same_board, same_then, whole_same, whole_then}
use Rattle.lane_jobs.proofs.Over.{keeps_same, keeps_then}
use Rattle.lane_jobs.proofs.handing.hand_all.Goals.{then-branch, else-branch}
use Rattle.lane_jobs.proofs.handing.hand_all.Goals as goal

pub loop-lane-init : goal.loop-lane-init
loop-lane-init g c =
    let disk = g.D.Disk.trace c.args.disk.now in
    record {
      rows = refl;
      methods = keeps_same c.args.lanes.now;
      none = λ stood. none_first (board_of c.args.board.now);
      frame = search rules;
      same = same_board (board_of c.args.board.now);
      moments = no_time disk disk _ refl;
      others = whole_same disk;
      ready = c.requires.ready;
      goes = goes_same (run_lanes c.args.lanes.now c.args.jobs.now (board_of c.args.board.now)) disk;
      begins = λ first has. has;
    }

pub loop-lane-preserved : goal.loop-lane-preserved
loop-lane-preserved g c =
    let inv = c.loop-lane.invariant in
    let old = g.D.Disk.trace c.args.disk.now in
    let mid = g.D.Disk.trace c.loop-lane.disk in
    let new = g.D.Disk.trace c.hand_out.new.disk in
    record {
      rows = c.in_ok-hand_out.ensures.rows ∙ inv.rows;
      methods = keeps_then c.args.lanes.now c.loop-lane.lanes c.hand_out.new.lanes inv.methods c.hand_out.ensures.methods;
      none = λ stood. elim c.if-branch.branch [
        | then-branch w ↦ absurd (let wrong : true ≡ false = sym w.went-is ∙ stood in cc)
        | else-branch w ↦ none_more (board_of c.loop-lane.board) (board_of c.hand_out.new.board) c.loop-lane.lane (c.in_ok-hand_out.ensures.none w.if-branch.false).1 (inv.none (sym w.went-is ∙ stood))
      ];
      frame = stayed_on_counting inv.frame c.in_ok-hand_out.ensures.frame;
      same = same_then _ _ _ inv.same c.in_ok-hand_out.ensures.same;
      moments = rests_on old mid new inv.moments c.hand_out.ensures.moments;
      others = whole_then old mid new inv.others c.hand_out.ensures.others;
      ready = ready_then _ _ mid new inv.ready c.hand_out.ensures.moments c.in_ok-hand_out.ensures.goes;
      goes = goes_then _ _ _ old mid new c.hand_out.ensures.moments inv.goes c.in_ok-hand_out.ensures.goes;
      begins = λ first has. c.in_ok-hand_out.ensures.begins first (inv.begins first has);
    }

pub returns-in_err-hand_out-clause-moments : goal.returns-in_err-hand_out-clause-moments
returns-in_err-hand_out-clause-moments g c = rests_on _ _ _ c.loop-lane.invariant.moments c.hand_out.ensures.moments

pub returns-in_err-hand_out-clause-methods : goal.returns-in_err-hand_out-clause-methods
returns-in_err-hand_out-clause-methods g c = keeps_then c.args.lanes.now c.loop-lane.lanes c.hand_out.new.lanes c.loop-lane.invariant.methods c.hand_out.ensures.methods
