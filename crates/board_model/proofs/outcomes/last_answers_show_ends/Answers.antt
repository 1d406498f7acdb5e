use Rattle.board_model.proofs.Theorems.{last_answers_show_causes, last_answers_show_outcomes, last_answers_show_releases}
use Rattle.board_model.proofs.outcomes.last_answers_show_ends.Goals as goal

pub returns-clause-lists : goal.returns-clause-lists
returns-clause-lists c = last_answers_show_causes

pub returns-clause-releases : goal.returns-clause-releases
returns-clause-releases c = last_answers_show_releases

pub returns-clause-sources : goal.returns-clause-sources
returns-clause-sources c = last_answers_show_outcomes
