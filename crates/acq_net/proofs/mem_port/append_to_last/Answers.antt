use Rattle.std.proofs.Common.{refl}
use Rattle.acq_net.proofs.MemTalks.{appended_last}
use Rattle.acq_net.proofs.mem_port.append_to_last.Goals as goal

pub returns-in-Some-clause-appended : goal.returns-in-Some-clause-appended
returns-in-Some-clause-appended c = appended_last c.append.result c.args.rows.now.items c.in-Some.last.now c.append.new.self c.args.bytes.now _ c.args.rows.now.ok.0 (c.in-Some.ensures.variant.0 refl) c.in-Some.ensures.value c.append.ensures
