use Rattle.board_model.proofs.Theorems.{boards_without_jobs_ask_nothing, jobs_always_stand, none_goes_out_exactly, out_numbers_ask, quiet_boards_are_ready}
use Rattle.board_model.proofs.calls.jobs_stand.Goals as goal

pub returns-clause-jobs : goal.returns-clause-jobs
returns-clause-jobs c = jobs_always_stand

pub returns-clause-out : goal.returns-clause-out
returns-clause-out c = out_numbers_ask

pub returns-clause-none : goal.returns-clause-none
returns-clause-none c = none_goes_out_exactly

pub returns-clause-idle : goal.returns-clause-idle
returns-clause-idle c = boards_without_jobs_ask_nothing

pub returns-clause-quiet : goal.returns-clause-quiet
returns-clause-quiet c = quiet_boards_are_ready
