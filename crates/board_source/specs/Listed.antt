-- What items stand for.
use Rattle.std.specs.Prelude.{ℕ, ◌+◌, not, Bool, true, false, List, [], ◌∷◌, map, Option, option_map}
use Rattle.item_graph.specs.Refinement.{point_of, retries_of}
use Rattle.item_graph.specs.declared.item.Item.{Item}
use Rattle.board_model.specs.Slots.{Standing, has_ended}

abbrev pub standing_of : Item → Standing
standing_of item = record { retries = retries_of item; point = point_of item }

abbrev pub standings : List (Option Item) → List (Option Standing)
standings items = map (option_map standing_of) items

-- whether a list asks
abbrev pub is_asking : Option Item → Bool
is_asking item = not (has_ended (option_map standing_of item))

abbrev pub one_if : Bool → ℕ
one_if true = 1
one_if false = 0

-- how many of them ask
abbrev pub count_asking : List (Option Item) → ℕ
count_asking [] = 0
count_asking (item ∷ items) = one_if (is_asking item) + count_asking items
