-- The frame of a call, for any method.
use Rattle.acq_outside.specs.Frame.{FetchesBy}
use Rattle.acq_outside.specs.declared.method.Method.{Ghosts}

-- its count of faults never falls, and its mirror stays
abbrev pub Fetches : {M : Type 0} → Ghosts M → M → M → Type 0
Fetches g old new = FetchesBy g.faults g.world old new
