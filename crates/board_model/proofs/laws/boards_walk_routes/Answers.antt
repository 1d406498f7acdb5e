use Rattle.board_model.proofs.Theorems.{boards_stand, finished_exactly, items_ask_next}
use Rattle.board_model.proofs.laws.boards_walk_routes.Goals as goal

pub returns-clause-stand : goal.returns-clause-stand
returns-clause-stand c = boards_stand

pub returns-clause-next : goal.returns-clause-next
returns-clause-next c = items_ask_next

pub returns-clause-finished : goal.returns-clause-finished
returns-clause-finished c = finished_exactly
