-- What the laws of this crate say.
use Rattle.std.specs.Prelude.{◌≡◌, ◌++◌, ℕ, List, [], length, Option}
use Rattle.acq_base.specs.Mirror.{MirrorMap}
use Rattle.acq_base.specs.declared.plan.Source.{Source}
use Rattle.update_model.specs.Laws.{by_sum}
use Rattle.update_model.specs.Obtained.{obtain}
use Rattle.update_model.specs.Points.{Over, AsksFirst, start, run, ran}
use Rattle.update_model.specs.Releases.{obtain_release}
use Rattle.update_model.specs.Trails.{LaneAnswer, Trail, Agrees, Lives, entries}
use Rattle.update_model.specs.Walks.{Walk, IsRoute, release_walk, target_walk}
use Rattle.update_model.specs.declared.wanted.Wanted.{Wanted}
use Rattle.update_model.specs.declared.end.End.{End}
use Rattle.update_model.specs.declared.log.Asked.{Asked}
use Rattle.item_graph.specs.Histories.{HasHeard, AgreesAlong, LivesAlong}
use Rattle.item_graph.specs.Refinement.{point_of}
use Rattle.item_graph.specs.declared.item.Item.{Item}

-- Whatever an item has heard, that is the front of a route of its walk: what it asks is the next of it, and where it has
-- ended nothing is, and its end is the route's.
abbrev pub ItemsStandInRoutes : Type 0
ItemsStandInRoutes =
    (item : Item) (retries source : ℕ) (path : List ℕ) (walk : Walk) (told : List LaneAnswer) → HasHeard item retries walk told
    → (trails : List Trail) × (end : End) × (rest : List Asked)
    × IsRoute retries walk trails end
    × (entries source path trails ≡ ran retries source path (start retries walk) told ++ rest)
    × AsksFirst (point_of item) rest end

-- A route whose entries are those of these answers. It agrees with each mirror with which they agree, and it holds no dead
-- position where they hold none.
pub record IsHeardRoute (retries : ℕ) (walk : Walk) (told : List LaneAnswer) (end : End) : Type 0 where
  pub trails : List Trail
  pub route : IsRoute retries walk trails end
  pub entries_are : (source : ℕ) (path : List ℕ) → entries source path trails ≡ ran retries source path (start retries walk) told
  pub agrees : (world : MirrorMap) (part : List ℕ) → AgreesAlong world part retries (start retries walk) told → Agrees world part trails
  pub lives : LivesAlong retries (start retries walk) told → Lives trails

-- an item that has ended has told a whole route, and its end is the route's
abbrev pub ItemsEndInRoutes : Type 0
ItemsEndInRoutes =
    (item : Item) (retries : ℕ) (walk : Walk) (told : List LaneAnswer) (end : End)
    → HasHeard item retries walk told → point_of item ≡ Over end → IsHeardRoute retries walk told end

-- the same of a walk, whatever it is that takes its answers in
abbrev pub PointsEndInRoutes : Type 0
PointsEndInRoutes =
    (retries : ℕ) (walk : Walk) (told : List LaneAnswer) (end : End)
    → run retries (start retries walk) told ≡ Over end → IsHeardRoute retries walk told end

-- over answers that a mirror gave, and with none missing, a list's item ends as the list is obtained, by sum
abbrev pub ItemsEndAsObtained : Type 0
ItemsEndAsObtained =
    (item : Item) (retries : ℕ) (world : MirrorMap) (installed : Option (List ℕ)) (part : List ℕ) (w : Wanted) (told : List LaneAnswer) (end : End)
    → HasHeard item retries (target_walk installed (length part) w) told → point_of item ≡ Over end
    → AgreesAlong world part retries (start retries (target_walk installed (length part) w)) told
    → LivesAlong retries (start retries (target_walk installed (length part) w)) told
    → by_sum end ≡ by_sum (obtain world installed part w)

-- and a Release's item ends as the Release
abbrev pub ReleaseItemsEndAsObtained : Type 0
ReleaseItemsEndAsObtained =
    (item : Item) (retries : ℕ) (world : MirrorMap) (source : Source) (told : List LaneAnswer) (end : End)
    → HasHeard item retries (release_walk source) told → point_of item ≡ Over end
    → AgreesAlong world [] retries (start retries (release_walk source)) told
    → LivesAlong retries (start retries (release_walk source)) told
    → end ≡ obtain_release world source
