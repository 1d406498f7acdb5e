-- Items that are the same, in the order in which they first come.
use Rattle.std.specs.Prelude.{ℕ, ◌+◌, ◌==◌, if◌then◌else◌, ◌++◌, Option, Some, None, Bool, not, List, [], ◌∷◌, map, filter}

-- of items that are the same the first alone
unfoldable pub first_of_each : {T : Type 0} → (T → T → Bool) → List T → List T
first_of_each same [] = []
first_of_each same (item ∷ items) = item ∷ filter (λ other. not (same item other)) (first_of_each same items)

-- each of these with all the items that are the same
unfoldable pub together : {T : Type 0} → (T → T → Bool) → List T → List (T × List T)
together same items = map (λ first. (first, filter (same first) items)) (first_of_each same items)

-- a further item comes into the group at a place, the first of these groups being at a place of its own
unfoldable pub added_from : {T : Type 0} → ℕ → ℕ → T → List (T × List T) → List (T × List T)
added_from place at item [] = []
added_from place at item (group ∷ groups) =
    if place == at then (group.0, group.1 ++ item ∷ []) ∷ groups else group ∷ added_from (place + 1) at item groups

-- or into a new group behind them
unfoldable pub entered : {T : Type 0} → Option ℕ → T → List (T × List T) → List (T × List T)
entered None item groups = groups ++ (item, item ∷ []) ∷ []
entered (Some at) item groups = added_from 0 at item groups
