use Rattle.item_graph.specs.Refinement.{point_of, retries_of}
use Rattle.deb_fetch.proofs.Jobs.{begun_once, has_asked}
use Rattle.deb_fetch.proofs.asking.ask_once.Goals as goal

pub returns-clause-more : goal.returns-clause-more
returns-clause-more g c = λ more. has_asked (retries_of c.args.item.now) (g.M.Method.world c.args.method.now) c.args.file.now.0 (g.M.Method.faults c.args.method.now) (g.M.Method.faults c.fetch_staged.new.method)
    (g.D.Disk.trace c.args.place.now) (g.D.Disk.trace c.fetch_staged.new.disk) (point_of c.args.item.now) (point_of c.answer.new.self) c.in-Some.ask.now c.in_ok-job-in-Some.job c.in_ok-closed.closed
    c.in-Some.ensures.value c.requires.whole c.in_ok-job-in-Some.ensures c.in_ok-answer.ensures.step c.in_ok-closed.ensures.comes.counted c.in_ok-closed.ensures.comes.staged c.in_ok-closed.ensures.comes.answer

pub returns-in_err-closed-clause-begins : goal.returns-in_err-closed-clause-begins
returns-in_err-closed-clause-begins g c = begun_once (g.M.Method.begins c.args.method.now) (g.M.Method.begins c.fetch_staged.new.method) (point_of c.args.item.now) c.in-Some.ask.now c.in-Some.ensures.value c.fetch_staged.ensures.begins

pub returns-in_err-answer-clause-begins : goal.returns-in_err-answer-clause-begins
returns-in_err-answer-clause-begins g c = begun_once (g.M.Method.begins c.args.method.now) (g.M.Method.begins c.fetch_staged.new.method) (point_of c.args.item.now) c.in-Some.ask.now c.in-Some.ensures.value c.fetch_staged.ensures.begins

pub returns-clause-begins : goal.returns-clause-begins
returns-clause-begins g c = begun_once (g.M.Method.begins c.args.method.now) (g.M.Method.begins c.fetch_staged.new.method) (point_of c.args.item.now) c.in-Some.ask.now c.in-Some.ensures.value c.fetch_staged.ensures.begins
