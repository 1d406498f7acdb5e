-- The frame of a call, for any disk.
use Rattle.std.specs.Prelude.{Result, Ok}
use Rattle.acq_outside.specs.Frame.{StaysBy, StaysCountingBy, ReadsBy, ReadsCountingBy}
use Rattle.acq_outside.specs.declared.disk.Disk.{Ghosts}

-- an error comes only where the disk failed, and nothing else changes but what the call is for
abbrev pub Stays : {D T E : Type 0} → Ghosts D → D → D → Result T E → Type 0
Stays g old new result = StaysBy g.faults g.held g.tells old new result

-- the same where errors of this kind alone are faults
abbrev pub StaysCounting : {D T E : Type 0} → E → Ghosts D → D → D → Result T E → Type 0
StaysCounting kind g old new result = StaysCountingBy kind g.faults g.held g.tells old new result

-- nothing changes but the count of faults
abbrev pub Reads : {D T E : Type 0} → Ghosts D → D → D → Result T E → Type 0
Reads g old new result = ReadsBy g.faults g.held g.tells g.files g.trace old new result

abbrev pub ReadsCounting : {D T E : Type 0} → E → Ghosts D → D → D → Result T E → Type 0
ReadsCounting kind g old new result = ReadsCountingBy kind g.faults g.held g.tells g.files g.trace old new result

-- so far, where no call failed
abbrev pub HasStayed : {D : Type 0} → Ghosts D → D → D → Type 0
HasStayed g old new = Stays {T = Unit {0}} {E = Unit {0}} g old new (Ok tt)

abbrev pub HasRead : {D : Type 0} → Ghosts D → D → D → Type 0
HasRead g old new = Reads {T = Unit {0}} {E = Unit {0}} g old new (Ok tt)
