-- What connections in memory show that peers made.
use Rattle.std.specs.Prelude.{ℕ, List, [], ◌∷◌, reverse, if◌then◌else◌, Option, Some, Result, is_err}
use Rattle.acq_outside.specs.Count.{one_more}
use Rattle.acq_net.specs.Script.{talk_with, unheard}
use Rattle.acq_net.specs.Talk.{Talk}
use Rattle.acq_net.specs.declared.calls.Calls.{Calls}
use Rattle.acq_net.specs.declared.mem_port.MemPort.{MemPort}
use Rattle.acq_net.specs.declared.script.FromPeer.{FromPeer}
use Rattle.acq_net.specs.declared.script.Script.{Script}

-- what was said on connections, of the bytes sent on each and of what was heard there, the latest first
abbrev pub said_on : List (List ℕ) → List FromPeer → List Talk
said_on [] heard = []
said_on (sent ∷ others) [] = talk_with sent unheard ∷ said_on others []
said_on (sent ∷ others) (one ∷ heard) = talk_with sent one ∷ said_on others heard

abbrev pub talks_of : MemPort → List Talk
talks_of port = said_on (reverse port.sent) (port.heard ∷ reverse port.former.items)

-- it tells them
abbrev pub told_talks : MemPort → Option (List Talk)
told_talks port = Some (talks_of port)

-- what its peers have still to say
abbrev pub script_of : MemPort → Script
script_of port = port.script

-- how its calls went, and which are to fail
abbrev pub calls_of : MemPort → Calls
calls_of port = port.calls

-- how often it failed
abbrev pub faults_of : MemPort → ℕ
faults_of port = port.calls.faults

-- how often it couldn't listen or accept
abbrev pub lost_of : MemPort → ℕ
lost_of port = port.lost

-- at which port number it listens
abbrev pub at_of : MemPort → Option ℕ
at_of port = port.at

-- the count after a call that listens or accepts
abbrev pub lost_by : {T E : Type 0} → Result T E → ℕ → ℕ
lost_by result lost = if is_err result then one_more lost else lost
