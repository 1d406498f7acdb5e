-- The links from an installed file to the wanted one: which patches of an Index are asked for (apt.conf(5),
-- "Acquire::PDiffs").
use Rattle.std.specs.Prelude.{ℕ, ◌*◌, ◌==◌, ◌&&◌, ◌||◌, not, nat_lt, Bool, if◌then◌else◌, List, [], ◌∷◌, length, bytes_eq, Option, Some, None, Result, Ok, Err}
use Rattle.std.specs.List.{sum_by}
use Rattle.acq_base.specs.declared.sum.Sum.{Sum}
use Rattle.pdiff_index.specs.declared.index.Index.{Index}
use Rattle.pdiff_index.specs.declared.index.Step.{Step}
use Rattle.pdiff_index.specs.declared.error.NoChain.{NoChain}
use Rattle.pdiff_index.specs.declared.error.NoChain.TheVariants.{WrongCurrent, NoEntry, NoPatch, Limit}

abbrev pub same_sum : Sum → Sum → Bool
same_sum a b = (a.size == b.size) && bytes_eq a.sha.0 b.sha.0

-- ---- the entry

-- these lines where one of them is there, else the others
abbrev pub or_lines : Option (List Step) → Option (List Step) → Option (List Step)
or_lines (Some lines) other = Some lines
or_lines None other = other

-- the history from its last line with this sum on
abbrev pub entry_on : List Step → Sum → Option (List Step)
entry_on [] have = None
entry_on (line ∷ lines) have =
    or_lines (entry_on lines have) (if same_sum line.sum have then Some (line ∷ lines) else None)

-- ---- the patches

-- the sum of the first of the patches that has this name
abbrev pub sum_named : List Step → List ℕ → Option Sum
sum_named [] name = None
sum_named (patch ∷ patches) name = if bytes_eq patch.name name then Some patch.sum else sum_named patches name

abbrev pub put_first : Option Sum → List ℕ → Result (List Step) NoChain → Result (List Step) NoChain
put_first None name rest = Err (NoPatch name)
put_first (Some sum) name (Ok rest) = Ok (record { sum = sum; name = name } ∷ rest)
put_first (Some sum) name (Err cause) = Err cause

-- the patches of these lines, in order, or the first that isn't listed
abbrev pub patches_of : List Step → List Step → Result (List Step) NoChain
patches_of patches [] = Ok []
patches_of patches (line ∷ lines) = put_first (sum_named patches line.name) line.name (patches_of patches lines)

-- where the patches are merged, the entry's alone leads to the current file
abbrev pub lines_used : Bool → List Step → List Step
lines_used merged [] = []
lines_used merged (line ∷ lines) = if merged then line ∷ [] else line ∷ lines

-- ---- the limits

-- more patches than a limit that isn't 0
abbrev pub are_too_many : ℕ → List Step → Bool
are_too_many file_limit patches = not (file_limit == 0) && nat_lt file_limit (length patches)

-- more bytes together than a limit that isn't 0, in percent of the wanted file's
abbrev pub are_too_large : ℕ → ℕ → List Step → Bool
are_too_large size_limit wanted patches =
    not (size_limit == 0) && nat_lt (size_limit * wanted) (100 * sum_by (λ patch. patch.sum.size) patches)

abbrev pub within : ℕ → ℕ → Sum → List Step → Result (List Step) NoChain
within file_limit size_limit want patches =
    if are_too_many file_limit patches || are_too_large size_limit want.size patches then Err Limit else Ok patches

-- ---- the whole

abbrev pub limited : ℕ → ℕ → Sum → Result (List Step) NoChain → Result (List Step) NoChain
limited file_limit size_limit want (Ok patches) = within file_limit size_limit want patches
limited file_limit size_limit want (Err cause) = Err cause

unfoldable pub links_from : Index → Option (List Step) → Sum → ℕ → ℕ → Result (List Step) NoChain
links_from index None want file_limit size_limit = Err NoEntry
links_from index (Some lines) want file_limit size_limit =
    limited file_limit size_limit want (patches_of index.patches (lines_used index.merged lines))

-- the patches that lead from a file to the wanted one, in order, or the first cause why there are none
unfoldable pub links : Index → Sum → Sum → ℕ → ℕ → Result (List Step) NoChain
links index have want file_limit size_limit =
    if same_sum index.current want then links_from index (entry_on index.history have) want file_limit size_limit else Err WrongCurrent
