use Rattle.board_model.proofs.Theorems.{jobs_always_stand}
use Rattle.job_fetch.specs.Hearing.{name_of}
use Rattle.lane_jobs.proofs.Anew.{same_taken}
use Rattle.lane_jobs.proofs.Begun.{none_told, own_told}
use Rattle.lane_jobs.proofs.Changes.{change_moments, change_whole, none_taken, taken_there}
use Rattle.lane_jobs.proofs.Known.{known}
use Rattle.lane_jobs.proofs.Left.{can_fetch_left, goes_left, goes_without}
use Rattle.lane_jobs.proofs.Over.{keeps_same, own_keeps}
use Rattle.lane_jobs.proofs.answering.fetch_left.Goals as goal
use Rattle.lane_jobs.specs.Going.{run_lanes}
use Rattle.update_core.specs.BoardRefinement.{board_of}

pub returns-in_default-clause-methods : goal.returns-in_default-clause-methods
returns-in_default-clause-methods g c = keeps_same c.args.lanes.now

pub returns-in_default-clause-goes : goal.returns-in_default-clause-goes
returns-in_default-clause-goes g c =
    rw c.take.ensures.rows (goes_without (run_lanes c.args.lanes.now c.args.jobs.now (board_of c.args.board.now)) (g.D.Disk.trace c.args.disk.now) c.args.lane (none_taken c.args.jobs.now c.args.lane c.take.result c.take.ensures.transfer c.in_default.is))

pub fetch_own-requires-clause-sound : goal.fetch_own-requires-clause-sound
fetch_own-requires-clause-sound g c κs within =
    (can_fetch_left known jobs_always_stand (run_lanes c.args.lanes.now c.args.jobs.now (board_of c.args.board.now)) (g.D.Disk.trace c.args.disk.now) c.args.lane c.in-Some.field-0 c.in_ok-first.first c.requires.ready
    (taken_there c.args.jobs.now c.args.lane c.take.result c.in-Some.field-0 c.take.ensures.transfer c.in-Some.is) c.in_ok-first.ensures).sound

pub fetch_own-requires-clause-from : goal.fetch_own-requires-clause-from
fetch_own-requires-clause-from g c κs within =
    (can_fetch_left known jobs_always_stand (run_lanes c.args.lanes.now c.args.jobs.now (board_of c.args.board.now)) (g.D.Disk.trace c.args.disk.now) c.args.lane c.in-Some.field-0 c.in_ok-first.first c.requires.ready
    (taken_there c.args.jobs.now c.args.lane c.take.result c.in-Some.field-0 c.take.ensures.transfer c.in-Some.is) c.in_ok-first.ensures).begin

pub fetch_own-requires-clause-can : goal.fetch_own-requires-clause-can
fetch_own-requires-clause-can g c κs within =
    (can_fetch_left known jobs_always_stand (run_lanes c.args.lanes.now c.args.jobs.now (board_of c.args.board.now)) (g.D.Disk.trace c.args.disk.now) c.args.lane c.in-Some.field-0 c.in_ok-first.first c.requires.ready
    (taken_there c.args.jobs.now c.args.lane c.take.result c.in-Some.field-0 c.take.ensures.transfer c.in-Some.is) c.in_ok-first.ensures).can

pub fetch_own-requires-clause-nothing : goal.fetch_own-requires-clause-nothing
fetch_own-requires-clause-nothing g c κs within =
    (can_fetch_left known jobs_always_stand (run_lanes c.args.lanes.now c.args.jobs.now (board_of c.args.board.now)) (g.D.Disk.trace c.args.disk.now) c.args.lane c.in-Some.field-0 c.in_ok-first.first c.requires.ready
    (taken_there c.args.jobs.now c.args.lane c.take.result c.in-Some.field-0 c.take.ensures.transfer c.in-Some.is) c.in_ok-first.ensures).nothing

pub absorb-requires-clause-out : goal.absorb-requires-clause-out
absorb-requires-clause-out g c =
    (can_fetch_left known jobs_always_stand (run_lanes c.args.lanes.now c.args.jobs.now (board_of c.args.board.now)) (g.D.Disk.trace c.args.disk.now) c.args.lane c.in-Some.field-0 c.in_ok-first.first c.requires.ready
    (taken_there c.args.jobs.now c.args.lane c.take.result c.in-Some.field-0 c.take.ensures.transfer c.in-Some.is) c.in_ok-first.ensures).out

pub returns-in_err-first-clause-methods : goal.returns-in_err-first-clause-methods
returns-in_err-first-clause-methods g c = keeps_same c.args.lanes.now

pub returns-in_err-closed-clause-methods : goal.returns-in_err-closed-clause-methods
returns-in_err-closed-clause-methods g c = own_keeps c.args.lanes.now c.fetch_own.new.lanes c.fetch_own.ensures.own

pub returns-in_err-absorb-clause-methods : goal.returns-in_err-absorb-clause-methods
returns-in_err-absorb-clause-methods g c = own_keeps c.args.lanes.now c.fetch_own.new.lanes c.fetch_own.ensures.own

pub returns-clause-methods : goal.returns-clause-methods
returns-clause-methods g c = own_keeps c.args.lanes.now c.fetch_own.new.lanes c.fetch_own.ensures.own

pub returns-in_err-closed-clause-moments : goal.returns-in_err-closed-clause-moments
returns-in_err-closed-clause-moments g c = change_moments (name_of c.in_ok-first.first) _ _ c.fetch_own.ensures.changes

pub returns-in_err-closed-clause-others : goal.returns-in_err-closed-clause-others
returns-in_err-closed-clause-others g c = change_whole (name_of c.in_ok-first.first) (g.D.Disk.trace c.args.disk.now) (g.D.Disk.trace c.fetch_own.new.disk) c.fetch_own.ensures.changes

pub returns-in_err-absorb-clause-moments : goal.returns-in_err-absorb-clause-moments
returns-in_err-absorb-clause-moments g c = rw c.absorb.ensures.frame.still (change_moments (name_of c.in_ok-first.first) (g.D.Disk.trace c.args.disk.now) (g.D.Disk.trace c.fetch_own.new.disk) c.fetch_own.ensures.changes)

pub returns-in_err-absorb-clause-others : goal.returns-in_err-absorb-clause-others
returns-in_err-absorb-clause-others g c = rw c.absorb.ensures.frame.still (change_whole (name_of c.in_ok-first.first) (g.D.Disk.trace c.args.disk.now) (g.D.Disk.trace c.fetch_own.new.disk) c.fetch_own.ensures.changes)

pub returns-clause-moments : goal.returns-clause-moments
returns-clause-moments g c = rw c.absorb.ensures.frame.still (change_moments (name_of c.in_ok-first.first) (g.D.Disk.trace c.args.disk.now) (g.D.Disk.trace c.fetch_own.new.disk) c.fetch_own.ensures.changes)

pub returns-clause-others : goal.returns-clause-others
returns-clause-others g c = rw c.absorb.ensures.frame.still (change_whole (name_of c.in_ok-first.first) (g.D.Disk.trace c.args.disk.now) (g.D.Disk.trace c.fetch_own.new.disk) c.fetch_own.ensures.changes)

pub returns-clause-goes : goal.returns-clause-goes
returns-clause-goes g c =
    let state = run_lanes c.args.lanes.now c.args.jobs.now (board_of c.args.board.now) in
    rw (c.take.ensures.rows, c.absorb.ensures.frame.still) (goes_left known jobs_always_stand (g.D.Disk.tells c.fetch_own.new.disk) (g.D.Disk.files c.fetch_own.new.disk) state c.fetch_own.new.lanes (board_of c.absorb.new.self) (g.D.Disk.trace c.args.disk.now) (g.D.Disk.trace c.fetch_own.new.disk) c.args.lane c.in-Some.field-0 c.in_ok-first.first c.in_ok-closed.closed
    c.requires.unused (taken_there c.args.jobs.now c.args.lane c.take.result c.in-Some.field-0 c.take.ensures.transfer c.in-Some.is) c.in_ok-first.ensures c.fetch_own.ensures.own (g.met.D.Disk.shown c.fetch_own.new.disk) c.in_ok-absorb.ensures.takes c.in_ok-closed.ensures.answered)

pub returns-in_default-clause-asks : goal.returns-in_default-clause-asks
returns-in_default-clause-asks g c = none_told c.args.lanes.now (board_of c.args.board.now).asks

pub returns-clause-asks : goal.returns-clause-asks
returns-clause-asks g c =
    own_told known jobs_always_stand (g.D.Disk.tells c.fetch_own.new.disk) (g.D.Disk.files c.fetch_own.new.disk) (run_lanes c.args.lanes.now c.args.jobs.now (board_of c.args.board.now)) c.fetch_own.new.lanes (g.D.Disk.trace c.args.disk.now) c.args.lane c.in-Some.field-0 c.in_ok-closed.closed (board_of c.absorb.new.self)
    c.requires.ready (taken_there c.args.jobs.now c.args.lane c.take.result c.in-Some.field-0 c.take.ensures.transfer c.in-Some.is) c.fetch_own.ensures.own c.fetch_own.ensures.begins c.in_ok-absorb.ensures.takes

pub returns-clause-same : goal.returns-clause-same
returns-clause-same g c =
    same_taken (g.D.Disk.tells c.fetch_own.new.disk) (g.D.Disk.files c.fetch_own.new.disk) (board_of c.args.board.now) (board_of c.absorb.new.self) 0 c.in-Some.field-0.job.no c.in_ok-closed.closed c.in_ok-absorb.ensures.takes
