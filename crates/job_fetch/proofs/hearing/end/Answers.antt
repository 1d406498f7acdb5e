use Rattle.std.proofs.Common.{ap}
use Rattle.job_fetch.proofs.Fillings.{staging_more, staging_named}
use Rattle.job_fetch.proofs.hearing.end.Goals as goal

pub returns-in_err-shut-in-Unopened-clause-touches : goal.returns-in_err-shut-in-Unopened-clause-touches
returns-in_err-shut-in-Unopened-clause-touches g c =
    rw c.in-Unopened.is (staging_more _ _ _ _ c.begin.ensures.staging (staging_named _ _ _ _ (ap (λ p. p.name) c.in_ok-opened-in-Unopened.ensures.part) c.shut.ensures.staging))

pub returns-in_ok-shut-in-Unopened-clause-touches : goal.returns-in_ok-shut-in-Unopened-clause-touches
returns-in_ok-shut-in-Unopened-clause-touches g c =
    rw c.in-Unopened.is (staging_more _ _ _ _ c.begin.ensures.staging (staging_named _ _ _ _ (ap (λ p. p.name) c.in_ok-opened-in-Unopened.ensures.part) c.shut.ensures.staging))
