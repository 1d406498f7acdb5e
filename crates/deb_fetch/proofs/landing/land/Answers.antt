use Rattle.deb_fetch.proofs.Landings.{lands-more}
use Rattle.deb_fetch.proofs.landing.land.Goals as goal

pub returns-in_err-name_file-clause-lands : goal.returns-in_err-name_file-clause-lands
returns-in_err-name_file-clause-lands g c = lands-more _ _ _ _ _ c.settle_part.ensures.lands c.name_file.ensures.lands

pub returns-clause-lands : goal.returns-clause-lands
returns-clause-lands g c = lands-more _ _ _ _ _ c.settle_part.ensures.lands (lands-more _ _ _ _ _ c.name_file.ensures.lands c.last_names.ensures.lands)
