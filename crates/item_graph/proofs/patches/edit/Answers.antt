use Rattle.std.proofs.Common.{◌≡◌, inl, inr, rules}
use mathlib.Core.Logic.{∥∥₁_map}
use Rattle.item_graph.proofs.OnePatch.{is-of, patch-edits, patch-outside}
use Rattle.item_graph.proofs.patches.edit.Goals as goal

pub invariant_of-result : goal.invariant_of-result
invariant_of-result c = record { begun = ∥∥₁_map c.args.editing.begun (λ is. c.then.ensures.of c.args.editing.old is) }

pub returns-in-Ok-then : goal.returns-in-Ok-then
returns-in-Ok-then c =
    let editing = c.args.editing in
    let same : c.as_slice.result.now ≡ c.args.patch = search rules in
    patch-edits editing.edit c.then.new.self editing.old c.args.patch c.as_slice.result.now c.in-Ok.script c.read_script.result same c.in-Ok.is c.read_script.ensures.value c.applied_is_edited.ensures
    (c.in-Ok-then.ensures.edited editing.old (is-of editing.edit editing.old editing.begun))

pub returns-in-Err-Outside : goal.returns-in-Err-Outside
returns-in-Err-Outside c =
    let editing = c.args.editing in
    let same : c.as_slice.result.now ≡ c.args.patch = search rules in
    elim c.in-Err-Outside.ensures.refused [
      | inl none ↦ absurd (cc)
      | inr refused ↦ patch-outside editing.edit editing.old c.args.patch c.as_slice.result.now c.in-Ok.script c.read_script.result _ same c.in-Ok.is c.read_script.ensures.value
          (refused editing.old (is-of editing.edit editing.old editing.begun))
    ]
