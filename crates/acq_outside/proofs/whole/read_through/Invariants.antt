use Rattle.std.proofs.Common.{◌≡◌, ◌-◌, ◌^◌, ◌≤◌, [], length, take, IsTrue, unwrap_or}
use Rattle.acq_outside.specs.Stays.{HasRead}
use Rattle.acq_outside.proofs.whole.read_through.Given as goal

-- what is read so far is a front of the file
abbrev pub invariant-loop-content : goal.invariant-loop-content
invariant-loop-content g l =
    record {
      frame : HasRead g.D.Disk l.fn.disk l.disk;
      room : 1 ≤ length l.piece;
      front : IsTrue (g.D.Disk.tells l.fn.disk) → l.content.items ≡ take (length l.content.items) (unwrap_or (g.D.Disk.files l.fn.disk l.name) []);
    }

abbrev pub decreases-loop-content : goal.decreases-loop-content
decreases-loop-content g l = 2 ^ 64 - length l.content.items
