-- What one more entry changes in a list of files without repeated paths, and in the sums by path.
use Rattle.std.specs.Prelude.{List, [], ◌∷◌, ◌++◌, ℕ, Option, Some, None, bytes_eq, if◌then◌else◌}
use Rattle.acq_base.specs.declared.sum.Sum.{Sum}
use Rattle.release_file.specs.declared.release.Listed.{Listed}

-- the files with an entry, whose path has this sum already
abbrev pub with_entry : Option Sum → List Listed → Listed → List Listed
with_entry None files entry = files ++ entry ∷ []
with_entry (Some sum) files entry = files

-- the sum of a path that had this one, beside an entry
abbrev pub sum_beside : Option Sum → Listed → List ℕ → Option Sum
sum_beside None entry path = if bytes_eq entry.path path then Some entry.sum else None
sum_beside (Some sum) entry path = Some sum
