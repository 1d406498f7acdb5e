-- A list's installed file, beside which the list is asked for.
use Rattle.std.specs.Prelude.{◌≡◌, ◌⊎◌, ℕ, List, Option, Some, None}
use Rattle.acq_base.specs.Sum.{sum_of}
use Rattle.update_model.specs.declared.wanted.Wanted.{Wanted}
use Rattle.item_graph.specs.declared.old_file.OldFile.{OldFile}
use Rattle.item_graph.specs.declared.old_file.OldFile.TheVariants.{Summed, Read}

abbrev pub bytes_of : OldFile → List ℕ
bytes_of (Summed file) = file
bytes_of (Read bytes) = bytes

-- A file that is known by its sum alone will do where it is the wanted one, or no patches lead to that.
abbrev pub IsEnough : Option OldFile → Wanted → Type 0
IsEnough None w = Unit {0}
IsEnough (Some (Read bytes)) w = Unit {0}
IsEnough (Some (Summed file)) w = (sum_of file ≡ w.sum) ⊎ (w.index ≡ None)
