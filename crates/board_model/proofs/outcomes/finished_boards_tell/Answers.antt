use Rattle.board_model.proofs.Theorems.{finished_boards_tell, finished_boards_tell_mirrors, finished_runs_agree}
use Rattle.board_model.proofs.outcomes.finished_boards_tell.Goals as goal

pub returns-clause-tell : goal.returns-clause-tell
returns-clause-tell c = finished_boards_tell

pub returns-clause-mirrors : goal.returns-clause-mirrors
returns-clause-mirrors c = finished_boards_tell_mirrors

pub returns-clause-agree : goal.returns-clause-agree
returns-clause-agree c = finished_runs_agree
