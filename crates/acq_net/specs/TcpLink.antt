-- What a connection over TCP counts.
use Rattle.std.specs.Prelude.{ℕ}
use Rattle.acq_net.specs.declared.tcp_link.TcpLink.{TcpLink}

abbrev pub faults_of : {R : Type 0} → TcpLink R → ℕ
faults_of link = link.faults
