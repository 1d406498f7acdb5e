use Rattle.std.proofs.Common.{◌≡◌, ◌∙◌, true, Option, Some, None, ap, subst}
use Rattle.acq_outside.specs.Disk.{Files}
use Rattle.update_model.specs.declared.cause.Cause.{Cause}
use Rattle.deb_fetch.specs.Causes.{IsAnswerOf}
use Rattle.deb_fetch.proofs.Ends.{asked_over, found_other, tells_states}
use Rattle.deb_fetch.proofs.Landings.{lands-more}
use Rattle.deb_fetch.proofs.fetching.fetch_deb.Goals as goal

pub returns-in_err-check_file-clause-moments : goal.returns-in_err-check_file-clause-moments
returns-in_err-check_file-clause-moments g c = (lands-more _ _ _ _ _ c.settle_names.ensures.lands c.check_file.ensures.lands).moments

pub returns-then-branch-clause-moments : goal.returns-then-branch-clause-moments
returns-then-branch-clause-moments g c = (lands-more _ _ _ _ _ c.settle_names.ensures.lands c.check_file.ensures.lands).moments

pub returns-in_err-cause-clause-moments : goal.returns-in_err-cause-clause-moments
returns-in_err-cause-clause-moments g c = (lands-more _ _ _ _ _ c.settle_names.ensures.lands (lands-more _ _ _ _ _ c.check_file.ensures.lands c.obtain.ensures.lands)).moments

pub returns-in_err-land-in-None-clause-moments : goal.returns-in_err-land-in-None-clause-moments
returns-in_err-land-in-None-clause-moments g c =
    (lands-more _ _ _ _ _ c.settle_names.ensures.lands (lands-more _ _ _ _ _ c.check_file.ensures.lands (lands-more _ _ _ _ _ c.obtain.ensures.lands c.land.ensures.lands))).moments

pub returns-in-Some-clause-moments : goal.returns-in-Some-clause-moments
returns-in-Some-clause-moments g c = (lands-more _ _ _ _ _ c.settle_names.ensures.lands (lands-more _ _ _ _ _ c.check_file.ensures.lands c.obtain.ensures.lands)).moments

pub returns-in-Some-clause-answer : goal.returns-in-Some-clause-answer
returns-in-Some-clause-answer g c = λ told.
    let settled : g.D.Disk.tells c.settle_names.new.place ≡ true = c.in_ok-settle_names.ensures.frame.telling ∙ told in
    let checked : g.D.Disk.tells c.check_file.new.place ≡ true = c.in_ok-check_file.ensures.frame.telling ∙ settled in
    let ended : g.D.Disk.tells c.obtain.new.place ≡ true = c.in_ok-cause.ensures.frame.telling ∙ checked in
    let states = tells_states (g.D.Disk.tells c.obtain.new.place) (g.D.Disk.files c.obtain.new.place) (g.D.Disk.trace c.obtain.new.place) (g.met.D.Disk.shown c.obtain.new.place) ended in
    asked_over (g.M.Method.world c.args.method.now) (g.D.Disk.files c.args.place.now c.args.deb.now.file.0) c.args.deb.now (Some c.in-Some.cause)
    (found_other c.in_ok-check_file.field-0 (g.D.Disk.files c.settle_names.new.place c.args.deb.now.file.0) (g.D.Disk.files c.args.place.now c.args.deb.now.file.0) c.args.deb.now c.if-branch.false (c.in_ok-check_file.ensures.told settled)
    (ap (λ (f : Files). f c.args.deb.now.file.0) c.in_ok-settle_names.ensures.same))
    (subst (λ (end : Option Cause). IsAnswerOf (g.M.Method.world c.args.method.now) None c.args.deb.now end) c.in-Some.is (c.in_ok-cause.ensures.answer states))

pub returns-in_ok-land-in-None-clause-moments : goal.returns-in_ok-land-in-None-clause-moments
returns-in_ok-land-in-None-clause-moments g c =
    (lands-more _ _ _ _ _ c.settle_names.ensures.lands (lands-more _ _ _ _ _ c.check_file.ensures.lands (lands-more _ _ _ _ _ c.obtain.ensures.lands c.land.ensures.lands))).moments

pub returns-in_err-cause-clause-unasked : goal.returns-in_err-cause-clause-unasked
returns-in_err-cause-clause-unasked g c = λ told. λ fits. absurd (found_other c.in_ok-check_file.field-0 (g.D.Disk.files c.settle_names.new.place c.args.deb.now.file.0) (g.D.Disk.files c.args.place.now c.args.deb.now.file.0) c.args.deb.now c.if-branch.false
    (c.in_ok-check_file.ensures.told (c.in_ok-settle_names.ensures.frame.telling ∙ told)) (ap (λ (f : Files). f c.args.deb.now.file.0) c.in_ok-settle_names.ensures.same) fits)

pub returns-in_err-land-in-None-clause-unasked : goal.returns-in_err-land-in-None-clause-unasked
returns-in_err-land-in-None-clause-unasked g c = λ told. λ fits. absurd (found_other c.in_ok-check_file.field-0 (g.D.Disk.files c.settle_names.new.place c.args.deb.now.file.0) (g.D.Disk.files c.args.place.now c.args.deb.now.file.0) c.args.deb.now c.if-branch.false
    (c.in_ok-check_file.ensures.told (c.in_ok-settle_names.ensures.frame.telling ∙ told)) (ap (λ (f : Files). f c.args.deb.now.file.0) c.in_ok-settle_names.ensures.same) fits)

pub returns-in-Some-clause-unasked : goal.returns-in-Some-clause-unasked
returns-in-Some-clause-unasked g c = λ told. λ fits. absurd (found_other c.in_ok-check_file.field-0 (g.D.Disk.files c.settle_names.new.place c.args.deb.now.file.0) (g.D.Disk.files c.args.place.now c.args.deb.now.file.0) c.args.deb.now c.if-branch.false
    (c.in_ok-check_file.ensures.told (c.in_ok-settle_names.ensures.frame.telling ∙ told)) (ap (λ (f : Files). f c.args.deb.now.file.0) c.in_ok-settle_names.ensures.same) fits)

pub returns-in_ok-land-in-None-clause-unasked : goal.returns-in_ok-land-in-None-clause-unasked
returns-in_ok-land-in-None-clause-unasked g c = λ told. λ fits. absurd (found_other c.in_ok-check_file.field-0 (g.D.Disk.files c.settle_names.new.place c.args.deb.now.file.0) (g.D.Disk.files c.args.place.now c.args.deb.now.file.0) c.args.deb.now c.if-branch.false
    (c.in_ok-check_file.ensures.told (c.in_ok-settle_names.ensures.frame.telling ∙ told)) (ap (λ (f : Files). f c.args.deb.now.file.0) c.in_ok-settle_names.ensures.same) fits)

pub returns-in-Some-clause-kept : goal.returns-in-Some-clause-kept
returns-in-Some-clause-kept g c = λ told. λ some.
    c.obtain.ensures.kept (c.check_file.ensures.frame.telling ∙ c.settle_names.ensures.frame.telling ∙ told)
    ∙ ap (λ (f : Files). f c.args.deb.now.file.0) (c.check_file.ensures.same ∙ c.settle_names.ensures.same)
