use Rattle.std.proofs.Common.{take}
use Rattle.acq_real.specs.Listing.{Keeps}
use Rattle.acq_real.proofs.listing.keep_taken.Given as goal

-- of the names so far, those that are taken are kept
abbrev pub invariant-loop-name : goal.invariant-loop-name
invariant-loop-name l = Keeps (take l.name-index l.names) l.kept.items
