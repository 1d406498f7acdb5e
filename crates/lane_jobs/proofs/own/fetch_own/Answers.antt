use denote.Param.Send.{given_send, param_send}
use Rattle.std.proofs.Common.{rules}
use Rattle.acq_outside.proofs.Framed.{stayed_on_counting}
use Rattle.lane_pool.specs.Pool.{own_count, own_fetch, own_world}
use Rattle.lane_jobs.proofs.OwnFetch.{own_answered, own_begun, own_changes, own_on, own_under_way}
use Rattle.lane_jobs.proofs.own.fetch_own.Goals as goal

pub loop-heard-init : goal.loop-heard-init
loop-heard-init g c =
    let disk = g.D.Disk.trace c.args.disk.now in
    record {
      frame = search rules;
      so_far = own_begun c.args.job.now c.args.first c.args.lanes.now c.own-word.new.self disk c.own-word.result c.requires.nothing c.requires.can
          c.own-word.ensures.frame c.own-word.ensures.begins c.own-word.ensures.sound c.own-word.ensures.word;
    }

pub own_more-word-requires : goal.own_more-word-requires
own_more-word-requires g c =
    let inv = c.loop-heard.invariant in (
      search rules,
      (
        param_send 0 _ (given_send 1 _ g.row.M c.type_bounds.send-M),
        own_under_way c.args.job.now c.args.first c.args.lanes.now c.loop-heard.lanes (g.D.Disk.trace c.args.disk.now) (g.D.Disk.trace c.loop-heard.disk) (g.D.Disk.trace c.hear.new.disk)
            c.loop-heard.intake c.in-More.next c.loop-heard.word inv.so_far (rw c.in-More.is at c.in_ok-heard.ensures.leads),
      ),
    )

pub loop-heard-preserved : goal.loop-heard-preserved
loop-heard-preserved g c =
    let inv = c.loop-heard.invariant in
    let asked = c.args.lanes.now in
    let now = c.loop-heard.lanes in
    let leads = rw c.in-More.is at c.in_ok-heard.ensures.leads in
    record {
      frame = stayed_on_counting inv.frame c.in_ok-heard.ensures.frame;
      so_far = own_on c.args.job.now c.args.first asked now c.own_more-word.new.self (g.D.Disk.trace c.args.disk.now) (g.D.Disk.trace c.loop-heard.disk) (g.D.Disk.trace c.hear.new.disk)
          c.loop-heard.intake c.in-More.next c.loop-heard.word c.own_more-word.result inv.so_far c.hear.ensures.touches c.in_ok-heard.ensures.kept leads
          (λ part has. rw c.in-More.is at c.in_ok-heard.ensures.hears (own_count asked) (own_count now) (own_world asked) part (own_fetch now) inv.so_far.says has)
          c.own_more-word.ensures.frame c.own_more-word.ensures.begins c.own_more-word.ensures.sound c.own_more-word.ensures.word;
    }

pub returns-in-Last-clause-answered : goal.returns-in-Last-clause-answered
returns-in-Last-clause-answered g c = λ part has.
    let inv = c.loop-heard.invariant in
    let asked = c.args.lanes.now in
    let now = c.loop-heard.lanes in
    let leads = rw c.in-Last.is at c.in_ok-heard.ensures.leads in
    let ends = rw c.in-Last.is at c.in_ok-heard.ensures.ends (own_count asked) (own_count now) (own_world asked) (own_fetch now) inv.so_far.says in
    let hears = rw c.in-Last.is at c.in_ok-heard.ensures.hears (own_count asked) (own_count now) (own_world asked) part (own_fetch now) inv.so_far.says (inv.so_far.come part has) in
    own_answered c.args.job.now c.args.first asked now (g.D.Disk.trace c.args.disk.now) (g.D.Disk.trace c.loop-heard.disk) (g.D.Disk.trace c.hear.new.disk)
    c.loop-heard.intake c.loop-heard.word c.in-Last.closed part inv.so_far c.hear.ensures.touches c.in_ok-heard.ensures.kept leads ends hears

pub returns-in-Last-clause-changes : goal.returns-in-Last-clause-changes
returns-in-Last-clause-changes g c =
    own_changes _ _ _ _ _ _ _ _ _ c.loop-heard.invariant.so_far c.hear.ensures.touches

pub returns-in_err-heard-clause-changes : goal.returns-in_err-heard-clause-changes
returns-in_err-heard-clause-changes g c =
    own_changes _ _ _ _ _ _ _ _ _ c.loop-heard.invariant.so_far c.hear.ensures.touches
