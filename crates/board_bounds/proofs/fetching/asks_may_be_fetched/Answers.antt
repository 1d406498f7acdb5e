use Rattle.board_bounds.proofs.Theorems.{asks_may_be_fetched, issued_jobs_may_be_handed, jobs_out_may_be_handed}
use Rattle.board_bounds.proofs.fetching.asks_may_be_fetched.Goals as goal

pub returns-clause-asks : goal.returns-clause-asks
returns-clause-asks c = asks_may_be_fetched

pub returns-clause-issued : goal.returns-clause-issued
returns-clause-issued c = issued_jobs_may_be_handed

pub returns-clause-out : goal.returns-clause-out
returns-clause-out c = jobs_out_may_be_handed
