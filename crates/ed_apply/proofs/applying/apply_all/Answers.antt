use Rattle.std.proofs.Common.{◌∙◌, List, ℕ, Some, sym, ap}
use Rattle.ed_apply.specs.Edits.{applied_all}
use Rattle.ed_apply.specs.Files.{file_of}
use Rattle.ed_apply.proofs.Chains.{one-more, no-more}
use Rattle.ed_apply.proofs.applying.apply_all.Goals as goal

pub loop-script-preserved : goal.loop-script-preserved
loop-script-preserved c =
    let old = c.args.old.now in
    let scripts = c.args.scripts.now in
    let done = c.in_ok-change.ensures.done old c.loop-script.invariant.0 in
    (done.0, one-more (file_of c.loop-script.edit old) (file_of c.change.new.self old) scripts c.loop-script.script-index c.script-item.result (applied_all old scripts) c.loop-script-test.true c.script-item.is done.1 c.loop-script.invariant.1)

pub returns : goal.returns
returns c =
    let old = c.args.old.now in
    let scripts = c.args.scripts.now in
    no-more (file_of c.loop-script.edit old) scripts c.loop-script.script-index (applied_all old scripts) c.loop-script-test.false c.loop-script.invariant.1 ∙ ap (λ (file : List ℕ). Some file) (sym c.in_ok-copy_out.ensures)
