use Rattle.std.proofs.lemmas.List.Filters.{dedup_is}
use Rattle.configuration.proofs.Listing.{names_listed}
use Rattle.configuration.proofs.names.counted_names.Goals as goal

pub returns-clause-names : goal.returns-clause-names
returns-clause-names g c =
    names_listed (g.E.Etc.files c.args.etc.now) c.args.place c.as_slice.result.now c.in_ok-counted.counted.items c.sort_unstable.new.self.items c.dedup.new.self.items
    (rw c.as_slice.ensures c.in_ok-names.ensures.told) c.in_ok-counted.ensures c.sort_unstable.ensures.permutation c.sort_unstable.ensures.sorted (dedup_is _ _ _ c.dedup.ensures.filtered)
