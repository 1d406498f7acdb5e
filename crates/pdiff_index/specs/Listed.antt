-- What an Index that is read and a chain of it are, in terms of their lines.
use Rattle.std.specs.Prelude.{◌≡◌, ◌≢◌, ℕ, true, if◌then◌else◌, List, [], ◌∷◌, ◌++◌, map, Contains}
use Rattle.std.specs.List.{AllByRecursion as Each}
use Rattle.acq_base.specs.declared.sum.Sum.{Sum}
use Rattle.pdiff_index.specs.Index.{is_name}
use Rattle.pdiff_index.specs.declared.index.Index.{Index}
use Rattle.pdiff_index.specs.declared.index.Step.{Step}

-- each name is of the allowed form
abbrev pub AreNamed : List Step → Type 0
AreNamed = Each (λ step. is_name step.name ≡ true)

abbrev pub names_of : List Step → List (List ℕ)
names_of = map (λ step. step.name)

-- The steps lead on from the file of a sum: they bear the names of the history's lines from the last with that sum on, or
-- of this line alone where patches are merged, and each is one of the patches.
pub record LeadsOn (index : Index) (have : Sum) (steps : List Step) : Type 0 where
  pub before : List Step
  pub entry : Step
  pub behind : List Step
  pub history : index.history ≡ before ++ entry ∷ behind
  pub from : entry.sum ≡ have
  pub last : Each (λ line. line.sum ≢ have) behind
  pub names : names_of steps ≡ names_of (if index.merged then entry ∷ [] else entry ∷ behind)
  pub patches : Each (λ step. Contains index.patches step) steps
