-- Where the answers to an item come from a mirror, it ends as its file is obtained.
use Rattle.std.proofs.Common.{◌∙◌, [], length, sym}
use Rattle.update_model.specs.Laws.{RunsStandInRoutes, ListsEndAsObtained, ReleasesEndAsObtained}
use Rattle.update_model.specs.Walks.{release_walk, target_walk}
use Rattle.item_graph.specs.Laws.{ItemsStandInRoutes, ItemsEndInRoutes, ItemsEndAsObtained, ReleaseItemsEndAsObtained}
use Rattle.item_graph.proofs.Told.{told-routes}

pub items-stand : RunsStandInRoutes → ItemsStandInRoutes
items-stand stand item retries source path walk told h =
    let r = stand walk retries source path told in
    (r.0, r.1, r.2, r.3, r.4, rw h r.5)

pub items-end : ItemsEndInRoutes
items-end item retries walk told end h e = told-routes retries walk told end (sym h ∙ e)

pub lists-end : ListsEndAsObtained → ItemsEndInRoutes → ItemsEndAsObtained
lists-end law ends item retries world installed part w told end h e agrees lives =
    let r = ends item retries (target_walk installed (length part) w) told end h e in
    law world installed part w retries r.trails end r.route (r.agrees world part agrees) (r.lives lives)

pub releases-end : ReleasesEndAsObtained → ItemsEndInRoutes → ReleaseItemsEndAsObtained
releases-end law ends item retries world source told end h e agrees lives =
    let r = ends item retries (release_walk source) told end h e in
    law world source retries r.trails end r.route (r.agrees world [] agrees) (r.lives lives)
