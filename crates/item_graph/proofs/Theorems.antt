-- What holds of the definitions of this crate, for the proofs of the crates above.
use Rattle.item_graph.proofs.Soundness.{lists-sound}
use Rattle.item_graph.proofs.Told.{told-routes}
use Rattle.item_graph.proofs.Whole.{items-end, items-stand, lists-end, releases-end}
use Rattle.item_graph.specs.Laws.{ItemsEndAsObtained, ItemsEndInRoutes, ItemsStandInRoutes, PointsEndInRoutes, ReleaseItemsEndAsObtained}
use Rattle.item_graph.specs.Sound.{ListsAskSoundly}
use Rattle.update_model.proofs.Theorems.{asks_are_sound, lists_end_as_obtained, mirrors_give_routes, releases_end_as_obtained, runs_stand_in_routes}

pub items_stand_in_routes : ItemsStandInRoutes
items_stand_in_routes = items-stand runs_stand_in_routes

pub items_end_in_routes : ItemsEndInRoutes
items_end_in_routes = items-end

pub points_end_in_routes : PointsEndInRoutes
points_end_in_routes = told-routes

pub items_end_as_obtained : ItemsEndAsObtained
items_end_as_obtained = lists-end lists_end_as_obtained items_end_in_routes

pub release_items_end_as_obtained : ReleaseItemsEndAsObtained
release_items_end_as_obtained = releases-end releases_end_as_obtained items_end_in_routes

pub lists_ask_soundly : ListsAskSoundly
lists_ask_soundly = lists-sound mirrors_give_routes asks_are_sound
