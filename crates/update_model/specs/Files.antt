-- Files that come, and whether they are the wanted ones.
use Rattle.std.specs.Prelude.{ℕ, if◌then◌else◌, List, Option, Some, None}
use Rattle.acq_base.specs.Sum.{sum_of}
use Rattle.acq_base.specs.declared.sum.Sum.{Sum}
use Rattle.release_file.specs.Release.{same_sum}
use Rattle.update_model.specs.declared.ask.Body.{Body}
use Rattle.update_model.specs.declared.ask.Body.TheVariants.{Bytes, Staged}
use Rattle.update_model.specs.declared.ask.Ending.{Ending}
use Rattle.update_model.specs.declared.ask.Ending.TheVariants as endings

-- the bytes that a trail ended with
abbrev pub served : Ending → Option (List ℕ)
served (endings.Served (Bytes bytes)) = Some bytes
served other = None

-- the sum by which a file is known
abbrev pub sum_of_body : Body → Sum
sum_of_body (Bytes bytes) = sum_of bytes
sum_of_body (Staged sum) = sum

-- the file, where it has this sum
abbrev pub fitting : Sum → Option (List ℕ) → Option (List ℕ)
fitting sum None = None
fitting sum (Some bytes) = if same_sum (sum_of bytes) sum then Some bytes else None
