use Rattle.std.proofs.Common.{◌≡◌, ◌++◌, drop}
use Rattle.acq_real.specs.Listing.{plain_names}
use Rattle.acq_real.proofs.listing.list_plain.Given as goal

-- the names so far and those of the rest are all
abbrev pub invariant-loop-entry : goal.invariant-loop-entry
invariant-loop-entry l = l.names.items ++ plain_names (drop l.entry-index l.entries) ≡ plain_names l.entries
