use Rattle.std.proofs.Common.{sym, subst}
use Rattle.ed_apply.specs.Files.{IsOf}
use Rattle.item_graph.proofs.OnePatch.{is-of}
use Rattle.item_graph.proofs.patches.patched.Goals as goal

pub copy_out-requires : goal.copy_out-requires
copy_out-requires c =
    let editing = c.args.editing in
    subst (IsOf editing.edit) (sym c.as_slice.ensures) (is-of editing.edit editing.old editing.begun)
