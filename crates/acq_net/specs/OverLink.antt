-- The frame of a call, for any link.
use Rattle.std.specs.Prelude.{Result, Ok}
use Rattle.acq_net.specs.LinkFrame.{OpensBy, SaysBy, ListensBy, ListensCountingBy, AsksBy, LeavesBy}
use Rattle.acq_net.specs.declared.link.Link.{Ghosts}

-- it opens a connection
abbrev pub Opens : {L T E : Type 0} → Ghosts L → L → L → Result T E → Type 0
Opens g old new result = OpensBy g.faults g.ends g.world old new result

-- it says something on the present connection
abbrev pub Says : {L T E : Type 0} → Ghosts L → L → L → Result T E → Type 0
Says g old new result = SaysBy g.faults g.made g.ends g.former g.world old new result

-- it listens on the present connection, whose peer may end
abbrev pub Listens : {L T E : Type 0} → Ghosts L → L → L → Result T E → Type 0
Listens g old new result = ListensBy g.faults g.made g.ends g.former g.world g.answered old new result

-- the same where errors of this kind alone are faults
abbrev pub ListensCounting : {L T E : Type 0} → E → Ghosts L → L → L → Result T E → Type 0
ListensCounting kind g old new result = ListensCountingBy kind g.faults g.made g.ends g.former g.world g.answered old new result

-- it asks, maybe on a new connection
abbrev pub Asks : {L T E : Type 0} → Ghosts L → L → L → Result T E → Type 0
Asks g old new result = AsksBy g.faults g.ends g.world old new result

-- it closes the connection at most, and leaves all that the link tells
abbrev pub Leaves : {L : Type 0} → Ghosts L → L → L → Type 0
Leaves g old new = LeavesBy g.faults g.made g.ends g.talk g.former g.world g.due g.answered old new

-- so far, where no call failed
abbrev pub HasListened : {L : Type 0} → Ghosts L → L → L → Type 0
HasListened g old new = Listens {T = Unit {0}} {E = Unit {0}} g old new (Ok tt)
