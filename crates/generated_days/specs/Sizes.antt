-- The sizes of a folder's files.
use Rattle.std.specs.Prelude.{ℕ, if◌then◌else◌, List, length, option_map, unwrap_or}
use Rattle.acq_outside.specs.Disk.{Files}
use Rattle.journal_model.specs.Names.{is_installed_name}

-- the size of a list, and 0 of a file that is none
abbrev pub size_in : Files → List ℕ → ℕ
size_in files name = if is_installed_name name then unwrap_or (option_map length (files name)) 0 else 0
