-- The list names of a source.
use Rattle.std.specs.Prelude.{◌≢◌, ◌≤◌, ℕ, All, AllPairs, List, length}
use Rattle.std.specs.Str.{IsAscii}
use Rattle.acq_base.specs.Plan.{names_of}
use Rattle.acq_base.specs.declared.plan.Source.{Source}

-- no two files of a source share a name, as in each sound plan
abbrev pub NamesDiffer : Source → Type 0
NamesDiffer source = AllPairs (λ a b. a ≢ b) (names_of source)

-- a name in ASCII that a disk may have
pub record IsAsciiName (name : List ℕ) : Type 0 where
  pub ascii : IsAscii name
  pub nonempty : 1 ≤ length name
  pub short : length name ≤ 255

-- all list names of a source are such, as in each sound plan
abbrev pub HasDiskNames : Source → Type 0
HasDiskNames source = All IsAsciiName (names_of source)
