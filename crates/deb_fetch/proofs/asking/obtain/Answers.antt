use Rattle.item_graph.specs.Refinement.{point_of}
use Rattle.deb_fetch.proofs.Asks.{cause_came}
use Rattle.deb_fetch.proofs.Landings.{ready_now, staged_keeps, staged_lands}
use Rattle.deb_fetch.proofs.asking.obtain.Goals as goal

pub returns-in_err-ask_all-clause-lands : goal.returns-in_err-ask_all-clause-lands
returns-in_err-ask_all-clause-lands g c = staged_lands _ _ _ _ c.requires.settled c.ask_all.ensures.staging

pub returns-clause-lands : goal.returns-clause-lands
returns-clause-lands g c = staged_lands _ _ _ _ c.requires.settled c.ask_all.ensures.staging

pub returns-clause-ready : goal.returns-clause-ready
returns-clause-ready g c =
    let came = cause_came c.args.settings.now.retries c.args.deb.now (g.M.Method.world c.args.method.now) (g.M.Method.faults c.args.method.now) (g.M.Method.faults c.ask_all.new.method) (g.D.Disk.trace c.ask_all.new.place) (point_of c.ask_all.new.item)
    c.end.result c.cause_of.result c.end.ensures c.cause_of.ensures c.in_ok-ask_all.ensures.under in
    λ none. ready_now c.args.deb.now.file.0 c.args.deb.now.sum (g.D.Disk.trace c.ask_all.new.place) (came.ready none)

pub returns-clause-answer : goal.returns-clause-answer
returns-clause-answer g c =
    let came = cause_came c.args.settings.now.retries c.args.deb.now (g.M.Method.world c.args.method.now) (g.M.Method.faults c.args.method.now) (g.M.Method.faults c.ask_all.new.method) (g.D.Disk.trace c.ask_all.new.place) (point_of c.ask_all.new.item)
    c.end.result c.cause_of.result c.end.ensures c.cause_of.ensures c.in_ok-ask_all.ensures.under in
    came.answer

pub returns-clause-failed : goal.returns-clause-failed
returns-clause-failed g c =
    let came = cause_came c.args.settings.now.retries c.args.deb.now (g.M.Method.world c.args.method.now) (g.M.Method.faults c.args.method.now) (g.M.Method.faults c.ask_all.new.method) (g.D.Disk.trace c.ask_all.new.place) (point_of c.ask_all.new.item)
    c.end.result c.cause_of.result c.end.ensures c.cause_of.ensures c.in_ok-ask_all.ensures.under in
    came.failed

pub returns-clause-route : goal.returns-clause-route
returns-clause-route g c =
    let came = cause_came c.args.settings.now.retries c.args.deb.now (g.M.Method.world c.args.method.now) (g.M.Method.faults c.args.method.now) (g.M.Method.faults c.ask_all.new.method) (g.D.Disk.trace c.ask_all.new.place) (point_of c.ask_all.new.item)
    c.end.result c.cause_of.result c.end.ensures c.cause_of.ensures c.in_ok-ask_all.ensures.under in
    came.route

pub returns-in_err-ask_all-clause-kept : goal.returns-in_err-ask_all-clause-kept
returns-in_err-ask_all-clause-kept g c = λ told. staged_keeps c.args.deb.now.file.0 (g.D.Disk.tells c.args.place.now) (g.D.Disk.tells c.ask_all.new.place) (g.D.Disk.files c.args.place.now) (g.D.Disk.files c.ask_all.new.place) (g.D.Disk.trace c.args.place.now) (g.D.Disk.trace c.ask_all.new.place)
    (g.met.D.Disk.shown c.args.place.now) (g.met.D.Disk.shown c.ask_all.new.place) c.ask_all.ensures.frame.telling c.ask_all.ensures.staging told

pub returns-clause-kept : goal.returns-clause-kept
returns-clause-kept g c = λ told. staged_keeps c.args.deb.now.file.0 (g.D.Disk.tells c.args.place.now) (g.D.Disk.tells c.ask_all.new.place) (g.D.Disk.files c.args.place.now) (g.D.Disk.files c.ask_all.new.place) (g.D.Disk.trace c.args.place.now) (g.D.Disk.trace c.ask_all.new.place)
    (g.met.D.Disk.shown c.args.place.now) (g.met.D.Disk.shown c.ask_all.new.place) c.ask_all.ensures.frame.telling c.ask_all.ensures.staging told
