use Rattle.update_model.proofs.Theorems.{files_are_obtained, obtained_files_fit, parts_only_help, patches_only_help}
use Rattle.update_model.proofs.laws.obtained_files_fit.Goals as goal

pub returns-clause-only : goal.returns-clause-only
returns-clause-only c = obtained_files_fit

pub returns-clause-each : goal.returns-clause-each
returns-clause-each c = files_are_obtained

pub returns-clause-patches : goal.returns-clause-patches
returns-clause-patches c = patches_only_help

pub returns-clause-parts : goal.returns-clause-parts
returns-clause-parts c = parts_only_help
