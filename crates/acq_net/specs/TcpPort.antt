-- What a port over TCP counts, and where it listens.
use Rattle.std.specs.Prelude.{ℕ, Option, option_map}
use Rattle.acq_net.specs.declared.tcp_port.Listening.{Listening}
use Rattle.acq_net.specs.declared.tcp_port.TcpPort.{TcpPort}

abbrev pub faults_of : {R : Type 0} → TcpPort R → ℕ
faults_of port = port.faults

-- how often it couldn't listen or accept
abbrev pub lost_of : {R : Type 0} → TcpPort R → ℕ
lost_of port = port.lost

-- the number of the port of a listener, if there is one
abbrev pub number_of : Option Listening → Option ℕ
number_of listening = option_map (λ (one : Listening). one.number) listening

-- at which port number it listens
abbrev pub at_of : {R : Type 0} → TcpPort R → Option ℕ
at_of port = number_of port.listening
