use Rattle.std.proofs.Common.{ap}
use Rattle.job_fetch.proofs.Fillings.{staging_more, staging_named}
use Rattle.job_fetch.proofs.Hears.{joined}
use Rattle.job_fetch.proofs.hearing.append.Goals as goal

pub returns-in_err-filling-in-Unopened-clause-touches : goal.returns-in_err-filling-in-Unopened-clause-touches
returns-in_err-filling-in-Unopened-clause-touches g c =
    rw c.in-Unopened.is (staging_more _ _ _ _ c.begin.ensures.staging (staging_named _ _ _ _ (ap (λ p. p.name) c.in_ok-opened-in-Unopened.ensures.part) c.extend.ensures.staging))

pub returns-in_ok-filling-in-Unopened-clause-touches : goal.returns-in_ok-filling-in-Unopened-clause-touches
returns-in_ok-filling-in-Unopened-clause-touches g c =
    rw c.in-Unopened.is (staging_more _ _ _ _ c.begin.ensures.staging (staging_named _ _ _ _ (ap (λ p. p.name) c.in_ok-opened-in-Unopened.ensures.part) c.extend.ensures.staging))

pub returns-in_ok-join-in-Held-clause-come : goal.returns-in_ok-join-in-Held-clause-come
returns-in_ok-join-in-Held-clause-come g c = λ world part goes come.
    let from = rw c.in-Held.is at c.requires.can in
    let here = rw c.in-Held.is at goes in
    let has = rw c.in-Held.is at come in
    joined world part c.args.job.now c.in-Held.joined c.args.piece.now c.in_ok-join-in-Held.field-0 c.in_ok-join-in-Held.ensures from here has
