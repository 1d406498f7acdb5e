use Rattle.std.proofs.Common.{◌∙◌, sym, ap, rules, arith}
use Rattle.std.proofs.Math.ListN.{set}
use Rattle.host_queues.proofs.Changes.{changed-past}
use Rattle.update_core.proofs.Changed.{set-plain}
use Rattle.update_core.proofs.telling.put_verdict.Goals as goal

pub returns-then-at-len : goal.returns-then-at-len
returns-then-at-len c = sym (changed-past _ c.args.verdicts.now.items c.args.place (search (rules, arith)))

pub returns : goal.returns
returns c = ap (λ (v : _). set c.args.verdicts.now.items c.args.place v) c.replace.ensures.after ∙ set-plain c.args.verdicts.now.items c.args.place c.args.verdict
