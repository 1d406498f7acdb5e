-- Where an item stands in the route of its Release or list.
use Rattle.std.specs.Prelude.{ℕ, Option, Some, None}
use Rattle.update_model.specs.Points.{Point, Over, At}
use Rattle.update_model.specs.declared.ask.Ask.{Ask}
use Rattle.item_graph.specs.Nexts.{point_in}
use Rattle.item_graph.specs.declared.item.Item.{Item}

-- at an ask, with as many moves and retries left, and what comes after its trail; or at the end
unfoldable pub point_of : Item → Point
point_of item = point_in item.state

-- how often a fault at one place is asked again
unfoldable pub retries_of : Item → ℕ
retries_of item = item.retries

-- what is asked at a point
abbrev pub asked : Point → Option Ask
asked (Over end) = None
asked (At ask left faults next) = Some ask
