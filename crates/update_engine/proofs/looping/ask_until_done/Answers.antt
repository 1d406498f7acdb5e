use Rattle.std.proofs.Common.{◌∙◌}
use Rattle.acq_outside.proofs.Framed.{stayed_on_counting}
use Rattle.lane_jobs.proofs.Steps.{ready_then}
use Rattle.update_core.specs.BoardRefinement.{board_of}
use Rattle.update_engine.proofs.Begins.{begun_aside}
use Rattle.update_engine.proofs.Committing.{handed_on, on_err}
use Rattle.update_engine.proofs.Known.{commits_known}
use Rattle.update_engine.proofs.Stepping.{bare_aside, bare_round, far_aside, far_asked, far_stops, far_stops_asking, idle_after, lanes_then, ready_aside, stands_ready}
use Rattle.update_engine.proofs.looping.ask_until_done.Goals as goal

pub returns-in_err-install_between-clause-stops : goal.returns-in_err-install_between-clause-stops
returns-in_err-install_between-clause-stops g c = handed_on _ _ _ c.from_residual.ensures.1 (far_stops _ _ _ _ (board_of c.loop.board) _ _ _ c.loop.invariant.goes c.in_err-install_between.ensures.stops)

pub returns-in_err-install_between-clause-bare : goal.returns-in_err-install_between-clause-bare
returns-in_err-install_between-clause-bare g c = λ together. bare_aside _ _ _ (c.loop.invariant.bare together) (c.install_between.ensures.bare together)

pub install_between-requires : goal.install_between-requires
install_between-requires g c = stands_ready _ _ _ _ c.loop.invariant.ready

pub ask_some-requires-clause-ready : goal.ask_some-requires-clause-ready
ask_some-requires-clause-ready g c κs within = ready_aside _ _ (board_of c.loop.board) _ _ _ c.loop.invariant.ready c.in_ok-install_between.ensures.goes c.in_ok-install_between.ensures.only c.in_ok-install_between.ensures.idle

pub returns-in_err-ask_some-clause-stops : goal.returns-in_err-ask_some-clause-stops
returns-in_err-ask_some-clause-stops g c = on_err _ _
    (λ error. far_stops_asking commits_known error _ _ _ (board_of c.install_between.new.board) _ _ _
    (far_aside _ _ _ (board_of c.loop.board) _ _ _ _ c.loop.invariant.goes c.in_ok-install_between.ensures.goes c.in_ok-install_between.ensures.only) c.in_ok-install_between.ensures.idle c.ask_some.ensures.moments)

pub returns-in_err-ask_some-clause-bare : goal.returns-in_err-ask_some-clause-bare
returns-in_err-ask_some-clause-bare g c = λ together. bare_round _ _ _ _ (c.loop.invariant.bare together) (c.install_between.ensures.bare together) c.ask_some.ensures.moments

pub returns-in_err-ask_some-clause-methods : goal.returns-in_err-ask_some-clause-methods
returns-in_err-ask_some-clause-methods g c = lanes_then _ _ _ c.loop.invariant.methods c.ask_some.ensures.methods

pub returns-then-not-branch-clause-methods : goal.returns-then-not-branch-clause-methods
returns-then-not-branch-clause-methods g c = lanes_then _ _ _ c.loop.invariant.methods c.ask_some.ensures.methods

pub returns-then-not-branch-clause-bare : goal.returns-then-not-branch-clause-bare
returns-then-not-branch-clause-bare g c = λ together. bare_round _ _ _ _ (c.loop.invariant.bare together) (c.install_between.ensures.bare together) c.ask_some.ensures.moments

pub returns-then-not-branch-clause-idle : goal.returns-then-not-branch-clause-idle
returns-then-not-branch-clause-idle g c = idle_after _ _ c.in_ok-install_between.ensures.idle c.ask_some.ensures.moments

pub returns-then-not-branch-clause-unsettled : goal.returns-then-not-branch-clause-unsettled
returns-then-not-branch-clause-unsettled g c = λ together. c.in_ok-ask_some.ensures.same.settled ∙ (c.in_ok-install_between.ensures.unsettled together ∙ c.loop.invariant.unsettled together)

pub returns-then-not-branch-clause-goes : goal.returns-then-not-branch-clause-goes
returns-then-not-branch-clause-goes g c = far_asked commits_known _ _ _ _ _ _
    (far_aside _ _ _ (board_of c.loop.board) (board_of c.install_between.new.board) _ _ _ c.loop.invariant.goes c.in_ok-install_between.ensures.goes c.in_ok-install_between.ensures.only) c.in_ok-install_between.ensures.idle c.ask_some.ensures.moments
    c.ask_some.ensures.others c.in_ok-ask_some.ensures.same c.in_ok-ask_some.ensures.goes

pub loop-preserved : goal.loop-preserved
loop-preserved g c = record {
  goes = far_asked commits_known _ _ _ _ _ _
      (far_aside _ _ _ (board_of c.loop.board) (board_of c.install_between.new.board) _ _ _ c.loop.invariant.goes c.in_ok-install_between.ensures.goes c.in_ok-install_between.ensures.only) c.in_ok-install_between.ensures.idle c.ask_some.ensures.moments
      c.ask_some.ensures.others c.in_ok-ask_some.ensures.same c.in_ok-ask_some.ensures.goes;
  ready = ready_then _ _ _ _
      (ready_aside _ _ (board_of c.loop.board) (board_of c.install_between.new.board) _ _ c.loop.invariant.ready c.in_ok-install_between.ensures.goes c.in_ok-install_between.ensures.only c.in_ok-install_between.ensures.idle) c.ask_some.ensures.moments c.in_ok-ask_some.ensures.goes;
  bare = λ together. bare_round _ _ _ _ (c.loop.invariant.bare together) (c.install_between.ensures.bare together) c.ask_some.ensures.moments;
  unsettled = λ together. c.in_ok-ask_some.ensures.same.settled ∙ (c.in_ok-install_between.ensures.unsettled together ∙ c.loop.invariant.unsettled together);
  config = c.in_ok-ask_some.ensures.same.config ∙ (c.in_ok-install_between.ensures.only.config ∙ c.loop.invariant.config);
  frame = stayed_on_counting (stayed_on_counting c.loop.invariant.frame c.in_ok-install_between.ensures.frame) c.in_ok-ask_some.ensures.frame;
  methods = lanes_then _ _ _ c.loop.invariant.methods c.ask_some.ensures.methods;
  begins = λ first has. c.in_ok-ask_some.ensures.begins first (begun_aside first _ _ (board_of c.loop.board) (board_of c.install_between.new.board) c.in_ok-install_between.ensures.only.asks (c.loop.invariant.begins first has));
}

pub returns-then-not-branch-clause-begins : goal.returns-then-not-branch-clause-begins
returns-then-not-branch-clause-begins g c = λ first has.
    c.in_ok-ask_some.ensures.begins first (begun_aside first _ _ (board_of c.loop.board) (board_of c.install_between.new.board) c.in_ok-install_between.ensures.only.asks (c.loop.invariant.begins first has))
