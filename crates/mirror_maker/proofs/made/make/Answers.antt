use Rattle.std.proofs.Common.{◌≡◌, ◌++◌, ap, ◌∙◌, arith, sym, subst}
use Rattle.acq_base.specs.Mirror.{MirrorMap}
use Rattle.acq_base.specs.Fetch.{IsSoundMirror}
use Rattle.mirror_maker.specs.Lists.{lists_of}
use Rattle.mirror_maker.specs.Made.{first_before, second_before}
use Rattle.mirror_maker.specs.Rows.{first_rows, second_rows}
use Rattle.mirror_maker.proofs.Drawing.{first_more, second_more, state_more}
use Rattle.mirror_maker.proofs.Sound.{first_sound, mirror, second_sound}
use Rattle.mirror_maker.proofs.made.make.Goals as goal

pub loop-source-preserved : goal.loop-source-preserved
loop-source-preserved c =
    let n = c.args.n in
    let s = c.loop-source.source in
    let lists_are = c.in_ok-lists.ensures ∙ ap lists_of (c.as_slice.ensures ∙ c.in_ok-packages.ensures.packages) in
    record {
      state = state_more n s c.loop-source.draws.state c.draw_source.new.draws.state c.loop-source.invariant.state c.in_ok-packages.ensures.state;
      first = first_more n s c.loop-source.draws.state c.loop-source.first c.append_first.new.rows c.loop-source.invariant.first c.loop-source.invariant.state
          (c.in_ok-append_first.ensures ∙ ap (λ l. c.loop-source.first ++ first_rows s l) lists_are);
      second = second_more n s c.loop-source.draws.state c.loop-source.second c.append_second.new.rows c.loop-source.invariant.second c.loop-source.invariant.state
          (c.in_ok-append_second.ensures ∙ ap (λ l. c.loop-source.second ++ second_rows s l) lists_are);
      within = omega (arith, c.loop-source-test.true);
    }

pub returns-clause-first : goal.returns-clause-first
returns-clause-first c =
    let all : c.loop-source.source ≡ 4 = omega (arith, c.loop-source-test.false, c.loop-source.invariant.within) in
    c.loop-source.invariant.first ∙ ap (first_before c.args.n) all

pub returns-clause-second : goal.returns-clause-second
returns-clause-second c =
    let all : c.loop-source.source ≡ 4 = omega (arith, c.loop-source-test.false, c.loop-source.invariant.within) in
    c.loop-source.invariant.second ∙ ap (second_before c.args.n) all

pub returns-clause-first_sound : goal.returns-clause-first_sound
returns-clause-first_sound c =
    let all : c.loop-source.source ≡ 4 = omega (arith, c.loop-source-test.false, c.loop-source.invariant.within) in
    subst (λ (rows : MirrorMap). IsSoundMirror (mirror rows)) (sym (c.loop-source.invariant.first ∙ ap (first_before c.args.n) all)) (first_sound c.args.n)

pub returns-clause-second_sound : goal.returns-clause-second_sound
returns-clause-second_sound c =
    let all : c.loop-source.source ≡ 4 = omega (arith, c.loop-source-test.false, c.loop-source.invariant.within) in
    subst (λ (rows : MirrorMap). IsSoundMirror (mirror rows)) (sym (c.loop-source.invariant.second ∙ ap (second_before c.args.n) all)) (second_sound c.args.n)
