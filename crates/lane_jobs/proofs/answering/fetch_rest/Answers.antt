use Rattle.std.proofs.Common.{◌≡◌, ◌∙◌, arith, rules, true, false, refl, sym}
use Rattle.std.proofs.lemmas.Bool.Decides.{nat_tests}
use Rattle.acq_outside.proofs.Framed.{stayed_on_counting}
use Rattle.acq_outside.proofs.Going.{no_time}
use Rattle.commit_journal.proofs.Fills.{rests_on}
use Rattle.update_core.specs.BoardRefinement.{board_of}
use Rattle.lane_jobs.specs.Going.{run_lanes}
use Rattle.lane_jobs.proofs.Steps.{alone_then, goes_same, goes_then, ready_then, same_board, same_then, whole_same, whole_then}
use Rattle.lane_jobs.proofs.Begun.{alone_out, begun_asked}
use Rattle.lane_jobs.proofs.Gone.{below_then, len_then, none_below, none_left}
use Rattle.lane_jobs.proofs.Over.{keeps_same, keeps_then}
use Rattle.lane_jobs.proofs.answering.fetch_rest.Goals as goal

pub loop-lane-init : goal.loop-lane-init
loop-lane-init g c =
    let disk = g.D.Disk.trace c.args.disk.now in
    record {
      alone = c.requires.alone;
      len = refl;
      gone = none_below c.args.jobs.now;
      methods = keeps_same c.args.lanes.now;
      frame = search rules;
      same = same_board (board_of c.args.board.now);
      moments = no_time disk disk _ refl;
      others = whole_same disk;
      ready = c.requires.ready;
      goes = goes_same (run_lanes c.args.lanes.now c.args.jobs.now (board_of c.args.board.now)) disk;
      begins = λ first has. has;
    }

pub fetch_left-requires-clause-unused : goal.fetch_left-requires-clause-unused
fetch_left-requires-clause-unused g c κs within = λ used fetch out. absurd (let wrong : true ≡ false = sym c.loop-lane.invariant.alone ∙ used in cc)

pub loop-lane-preserved : goal.loop-lane-preserved
loop-lane-preserved g c =
    let inv = c.loop-lane.invariant in
    let old = g.D.Disk.trace c.args.disk.now in
    let mid = g.D.Disk.trace c.loop-lane.disk in
    let new = g.D.Disk.trace c.fetch_left.new.disk in
    record {
      alone = alone_then _ _ _ _ c.in_ok-fetch_left.ensures.rows inv.alone;
      len = len_then c.loop-lane.lane c.loop-lane.jobs c.fetch_left.new.jobs c.in_ok-fetch_left.ensures.rows ∙ inv.len;
      gone = below_then c.loop-lane.lane c.loop-lane.jobs c.fetch_left.new.jobs c.in_ok-fetch_left.ensures.rows inv.gone;
      methods = keeps_then c.args.lanes.now c.loop-lane.lanes c.fetch_left.new.lanes inv.methods c.fetch_left.ensures.methods;
      frame = stayed_on_counting inv.frame c.in_ok-fetch_left.ensures.frame;
      same = same_then _ _ _ inv.same c.in_ok-fetch_left.ensures.same;
      moments = rests_on old mid new inv.moments c.fetch_left.ensures.moments;
      others = whole_then old mid new inv.others c.fetch_left.ensures.others;
      ready = ready_then _ _ mid new inv.ready c.fetch_left.ensures.moments c.in_ok-fetch_left.ensures.goes;
      goes = goes_then _ _ _ old mid new c.fetch_left.ensures.moments inv.goes c.in_ok-fetch_left.ensures.goes;
      begins = λ first has.
          begun_asked first (run_lanes c.loop-lane.lanes c.loop-lane.jobs (board_of c.loop-lane.board)) (run_lanes c.fetch_left.new.lanes c.fetch_left.new.jobs (board_of c.fetch_left.new.board)) c.in_ok-fetch_left.ensures.asks
          (alone_out c.loop-lane.jobs c.fetch_left.new.jobs (alone_then _ _ _ _ c.in_ok-fetch_left.ensures.rows inv.alone)) (inv.begins first has);
    }

pub returns-in_err-fetch_left-clause-moments : goal.returns-in_err-fetch_left-clause-moments
returns-in_err-fetch_left-clause-moments g c = rests_on _ _ _ c.loop-lane.invariant.moments c.fetch_left.ensures.moments

pub returns-in_err-fetch_left-clause-methods : goal.returns-in_err-fetch_left-clause-methods
returns-in_err-fetch_left-clause-methods g c = keeps_then c.args.lanes.now c.loop-lane.lanes c.fetch_left.new.lanes c.loop-lane.invariant.methods c.fetch_left.ensures.methods

pub returns-clause-none : goal.returns-clause-none
returns-clause-none g c =
    let inv = c.loop-lane.invariant in
    let test = c.loop-lane-test.false in
    let end = c.lanes-lane-end.ensures in
    let len = inv.len in
    none_left c.loop-lane.jobs c.loop-lane.lane (grind (arith, nat_tests, test, end, len)) inv.gone
