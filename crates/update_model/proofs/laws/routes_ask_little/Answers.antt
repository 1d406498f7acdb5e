use Rattle.update_model.proofs.Theorems.{lists_ask_little, releases_ask_little, sources_ask_little}
use Rattle.update_model.proofs.laws.routes_ask_little.Goals as goal

pub returns-clause-lists : goal.returns-clause-lists
returns-clause-lists c = lists_ask_little

pub returns-clause-releases : goal.returns-clause-releases
returns-clause-releases c = releases_ask_little

pub returns-clause-sources : goal.returns-clause-sources
returns-clause-sources c = sources_ask_little
