use Rattle.std.proofs.Common.{◌∙◌, length, ap}
use Rattle.host_queues.proofs.Changes.{length-changed}
use Rattle.update_core.proofs.telling.log_verdict.Goals as goal

pub returns-clause-count : goal.returns-clause-count
returns-clause-count c = ap length c.put_verdict.ensures ∙ length-changed _ c.args.verdicts.now.items c.args.place
