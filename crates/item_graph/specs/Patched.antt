-- The file that stands behind some patches.
use Rattle.std.specs.Prelude.{ℕ, List}
use Rattle.ed_apply.specs.Files.{file_of}
use Rattle.item_graph.specs.declared.editing.Editing.{Editing}

abbrev pub file_in : Editing → List ℕ
file_in editing = file_of editing.edit editing.old
