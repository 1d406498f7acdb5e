use Rattle.std.proofs.Common.{◌∙◌, rules, arith}
use Rattle.acq_outside.proofs.Framed.{stayed_on_counting}
use Rattle.item_graph.specs.Refinement.{point_of, retries_of}
use Rattle.item_graph.specs.Single.{single}
use Rattle.job_fetch.proofs.Fillings.{staging_more, told_before}
use Rattle.deb_fetch.proofs.Asks.{asked_as, asks_in_all, asks_whole, begun, next_left, one_next, same_under, turn_smaller, turned}
use Rattle.deb_fetch.proofs.Landings.{nothing_staged}
use Rattle.deb_fetch.proofs.Names.{deb_names_are_put_names}
use Rattle.deb_fetch.proofs.asking.ask_all.Goals as goal

pub asks-init : goal.asks-init
asks-init g c = record {
  under = begun _ _ _ _ _ _ _ c.requires.begins;
  sound = c.requires.sound;
  retries = c.requires.retries;
  staging = nothing_staged _ _;
  begins = omega (arith, asks_in_all c.args.settings.now.retries (single c.args.deb.now.uri c.args.deb.now.path c.args.deb.now.sum) (point_of c.args.item.now) c.requires.begins);
  frame = search rules;
  method = search rules;
}

pub ask_once-requires-clause-name : goal.ask_once-requires-clause-name
ask_once-requires-clause-name g c = deb_names_are_put_names c.args.deb.now.file.0 c.requires.named

pub ask_once-requires-clause-whole : goal.ask_once-requires-clause-whole
ask_once-requires-clause-whole g c = asks_whole _ _ _ _ _ _ _ _ c.asks.invariant.under.stands

pub asks-preserved : goal.asks-preserved
asks-preserved g c =
    let asked = asked_as c.args.settings.now.retries (retries_of c.asks.item) (g.M.Method.world c.args.method.now) (g.M.Method.world c.asks.method) c.args.deb.now.file.0 (g.M.Method.faults c.asks.method) (g.M.Method.faults c.ask_once.new.method)
    (g.D.Disk.trace c.ask_once.new.place) (point_of c.asks.item) (point_of c.ask_once.new.item) c.asks.invariant.retries c.asks.invariant.method.same (c.in_ok-ask_once.ensures.more c.if-not-branch.false) in
    let smaller = turn_smaller c.args.settings.now.retries (single c.args.deb.now.uri c.args.deb.now.path c.args.deb.now.sum) c.args.deb.now.file.0 (g.M.Method.world c.args.method.now) (g.M.Method.faults c.args.method.now) (g.M.Method.faults c.asks.method) (g.M.Method.faults c.ask_once.new.method)
    (g.D.Disk.trace c.asks.place) (g.D.Disk.trace c.ask_once.new.place) (point_of c.asks.item) (point_of c.ask_once.new.item) c.asks.invariant.under asked in
    record {
      under = turned _ _ _ _ _ _ _ (g.D.Disk.trace c.asks.place) _ _ _ c.ask_once.ensures.method.count (told_before _ _ c.ask_once.ensures.staging.moments) c.asks.invariant.under asked;
      sound = c.in_ok-ask_once.ensures.sound;
      retries = c.in_ok-ask_once.ensures.retries ∙ c.asks.invariant.retries;
      staging = staging_more _ _ _ _ c.asks.invariant.staging c.ask_once.ensures.staging;
      begins = omega (arith, c.asks.invariant.begins, c.ask_once.ensures.begins, one_next (point_of c.asks.item), smaller);
      frame = stayed_on_counting c.asks.invariant.frame c.in_ok-ask_once.ensures.frame;
      method = record { count = omega (arith, c.asks.invariant.method.count, c.ask_once.ensures.method.count); same = c.ask_once.ensures.method.same ∙ c.asks.invariant.method.same };
    }

pub asks-smaller : goal.asks-smaller
asks-smaller g c =
    let asked = asked_as c.args.settings.now.retries (retries_of c.asks.item) (g.M.Method.world c.args.method.now) (g.M.Method.world c.asks.method) c.args.deb.now.file.0 (g.M.Method.faults c.asks.method) (g.M.Method.faults c.ask_once.new.method)
    (g.D.Disk.trace c.ask_once.new.place) (point_of c.asks.item) (point_of c.ask_once.new.item) c.asks.invariant.retries c.asks.invariant.method.same (c.in_ok-ask_once.ensures.more c.if-not-branch.false) in
    turn_smaller c.args.settings.now.retries (single c.args.deb.now.uri c.args.deb.now.path c.args.deb.now.sum) c.args.deb.now.file.0 (g.M.Method.world c.args.method.now) (g.M.Method.faults c.args.method.now) (g.M.Method.faults c.asks.method) (g.M.Method.faults c.ask_once.new.method)
    (g.D.Disk.trace c.asks.place) (g.D.Disk.trace c.ask_once.new.place) (point_of c.asks.item) (point_of c.ask_once.new.item) c.asks.invariant.under asked

pub returns-in_err-ask_once-clause-staging : goal.returns-in_err-ask_once-clause-staging
returns-in_err-ask_once-clause-staging g c = staging_more _ _ _ _ c.asks.invariant.staging c.ask_once.ensures.staging

pub returns-then-not-branch-clause-staging : goal.returns-then-not-branch-clause-staging
returns-then-not-branch-clause-staging g c = staging_more _ _ _ _ c.asks.invariant.staging c.ask_once.ensures.staging

pub returns-then-not-branch-clause-under : goal.returns-then-not-branch-clause-under
returns-then-not-branch-clause-under g c =
    let none = c.in_ok-ask_once.ensures.none c.if-not-branch.true in
    same_under _ _ _ _ _ _ _ _ _ _ _ none.quiet none.still none.same c.asks.invariant.under

pub returns-in_err-ask_once-clause-begins : goal.returns-in_err-ask_once-clause-begins
returns-in_err-ask_once-clause-begins g c = omega (arith, c.asks.invariant.begins, c.ask_once.ensures.begins, next_left c.args.settings.now.retries (point_of c.asks.item))

pub returns-then-not-branch-clause-begins : goal.returns-then-not-branch-clause-begins
returns-then-not-branch-clause-begins g c = omega (arith, c.asks.invariant.begins, c.ask_once.ensures.begins, next_left c.args.settings.now.retries (point_of c.asks.item))
