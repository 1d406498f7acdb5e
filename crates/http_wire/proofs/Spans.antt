use Rattle.std.proofs.lemmas.List.Folds.{flat_map-map}

pub ruleset mapped = (flat_map-map)
