use Rattle.std.proofs.Common.{◌≡◌, ◌-◌, length}
use Rattle.acq_outside.specs.Count.{one_more}
use Rattle.acq_outside.proofs.Joining.{IsJoined}
use Rattle.acq_outside.proofs.method.Method.fetch.Given as goal

-- one fetch was begun, and the pieces so far, joined, are a front of the file
abbrev pub invariant-loop-bytes : goal.invariant-loop-bytes
invariant-loop-bytes g l =
    IsJoined (g.Self.Method.faults l.fn.self) (g.Self.Method.world l.fn.self) l.job l.joined (g.Self.Method.faults l.self) (g.Self.Method.world l.self) (g.Self.Method.under l.self)
    × (g.Self.Method.begins l.self ≡ one_more (g.Self.Method.begins l.fn.self))

abbrev pub decreases-loop-bytes : goal.decreases-loop-bytes
decreases-loop-bytes g l = l.job.max - length l.joined
