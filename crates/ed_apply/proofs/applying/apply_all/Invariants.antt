use Rattle.std.proofs.Common.{◌≡◌, drop}
use Rattle.ed_apply.specs.Edits.{applied_all}
use Rattle.ed_apply.specs.Files.{IsOf, file_of}
use Rattle.ed_apply.proofs.applying.apply_all.Given as goal

abbrev pub invariant-loop-script : goal.invariant-loop-script
invariant-loop-script l =
    (IsOf l.edit l.old) × (applied_all (file_of l.edit l.old) (drop l.script-index l.scripts) ≡ applied_all l.old l.scripts)
