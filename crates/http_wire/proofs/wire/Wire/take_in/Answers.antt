use Rattle.std.proofs.Common.{arith, length-drop}
use Rattle.http_wire.proofs.Feeding.{moves_none, moves_on}
use Rattle.http_wire.proofs.wire.Wire.take_in.Goals as goal

pub loop-taken-init : goal.loop-taken-init
loop-taken-init c = record { within = omega arith; moved = moves_none c.args.self.now }

pub loop-taken-preserved : goal.loop-taken-preserved
loop-taken-preserved c =
    let took = rw c.split_at.ensures.back at c.in_ok-n.ensures.took in
    let more = rw c.split_at.ensures.back at c.in_ok-n.ensures.moves in
    record {
      within = (let len = length-drop c.loop-taken.taken c.args.piece.now in let inside = took.1 in omega (arith, inside, len));
      moved = moves_on c.args.self.now c.loop-taken.self c.advance.new.self c.args.piece.now c.loop-taken.taken c.in_ok-n.n c.loop-taken.invariant.within c.loop-taken.invariant.moved more;
    }
