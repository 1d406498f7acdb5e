use Rattle.std.proofs.Common.{◌≡◌, subst, ◌++◌, suc, ◌-◌, [], ◌∷◌, length, length-append, ap, arith}
use Rattle.mirror_maker.specs.Packages.{behind, packages}
use Rattle.mirror_maker.proofs.Drawing.{none_behind, none_left, one_behind, one_drawn}
use Rattle.mirror_maker.proofs.packages.draw_packages.Goals as goal

pub loop-left-preserved : goal.loop-left-preserved
loop-left-preserved c =
    let fewer : c.loop-left.left ≡ suc (c.loop-left.left - 1) = omega (arith, c.loop-left-test.true) in
    record {
      packages = one_drawn c.loop-left.left (c.loop-left.left - 1) c.loop-left.draws.state c.draw_package.new.draws.state c.draw_package.result c.loop-left.drawn c.push.new.self _
          fewer c.draw_package.ensures.state c.draw_package.ensures.version c.draw_package.ensures.size c.in_ok-push.ensures c.loop-left.invariant.packages;
      state = one_behind c.loop-left.left (c.loop-left.left - 1) c.loop-left.draws.state c.draw_package.new.draws.state _ fewer c.draw_package.ensures.state c.loop-left.invariant.state;
      few = omega (arith, c.loop-left.invariant.few, ap length c.in_ok-push.ensures, length-append c.loop-left.drawn (c.draw_package.result ∷ []), fewer);
    }

pub returns-clause-packages : goal.returns-clause-packages
returns-clause-packages c =
    let done : c.loop-left.left ≡ 0 = omega (arith, c.loop-left-test.false) in
    none_left c.loop-left.draws.state c.loop-left.drawn _ (subst (λ n. c.loop-left.drawn ++ packages n c.loop-left.draws.state ≡ packages c.args.count c.args.draws.now.state) done c.loop-left.invariant.packages)

pub returns-clause-state : goal.returns-clause-state
returns-clause-state c =
    let done : c.loop-left.left ≡ 0 = omega (arith, c.loop-left-test.false) in
    none_behind c.loop-left.draws.state _ (subst (λ n. behind n c.loop-left.draws.state ≡ behind c.args.count c.args.draws.now.state) done c.loop-left.invariant.state)
