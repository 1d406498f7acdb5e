-- The bytes of a journal's record: version 1, which older versions of this program wrote, and version 2. Numbers have
-- their highest byte first.
use Rattle.std.specs.Prelude.{◌≡◌, ◌⊎◌, ℕ, ◌<◌, ◌^◌, true, false, List, [], ◌∷◌, ◌++◌, length}
use Rattle.std.specs.Int.{w16, w32, to_be_bytes}
use Rattle.sha2.specs.Sha256.{sha256}
use Rattle.journal_model.specs.Reading.{is_allowed}
use Rattle.journal_model.specs.declared.step.Step.{Step}
use Rattle.journal_model.specs.declared.step.Step.TheVariants.{Put, Drop}

-- a length in two bytes, and the name
abbrev pub name_bytes : List ℕ → List ℕ
name_bytes name = to_be_bytes w16 (length name) ++ name

-- a kind byte, 0 for a Put and 1 for a Drop, and the name
abbrev pub step_bytes : Step → List ℕ
step_bytes (Put name) = 0 ∷ name_bytes name
step_bytes (Drop name) = 1 ∷ name_bytes name

abbrev pub steps_bytes : List Step → List ℕ
steps_bytes [] = []
steps_bytes (step ∷ steps) = step_bytes step ++ steps_bytes steps

-- a count in four bytes, and the steps
abbrev pub group_bytes : List Step → List ℕ
group_bytes steps = to_be_bytes w32 (length steps) ++ steps_bytes steps

abbrev pub groups_bytes : List (List Step) → List ℕ
groups_bytes [] = []
groups_bytes (group ∷ groups) = group_bytes group ++ groups_bytes groups

-- the version, a count of groups in four bytes, and the groups
abbrev pub unsealed : List (List Step) → List ℕ
unsealed groups = 2 ∷ to_be_bytes w32 (length groups) ++ groups_bytes groups

-- and the SHA-256 digest (FIPS 180-4, section 6.2) of the bytes before it
abbrev pub body_of : List (List Step) → List ℕ
body_of groups = unsealed groups ++ sha256 (unsealed groups)

-- version 1: one group
abbrev pub old_body_of : List Step → List ℕ
old_body_of steps = 1 ∷ group_bytes steps

-- the steps of all groups, in order
abbrev pub all_steps : List (List Step) → List Step
all_steps [] = []
all_steps (group ∷ groups) = group ++ all_steps groups

-- a record may have these steps behind those before
abbrev pub AreAllowed : List Step → List Step → Type 0
AreAllowed before [] = Unit {0}
AreAllowed before (Put name ∷ steps) = (is_allowed before true name ≡ true) × AreAllowed (before ++ Put name ∷ []) steps
AreAllowed before (Drop name ∷ steps) = (is_allowed before false name ≡ true) × AreAllowed (before ++ Drop name ∷ []) steps

abbrev pub AreShort : List (List Step) → Type 0
AreShort [] = Unit {0}
AreShort (group ∷ groups) = (length group < 2 ^ 32) × AreShort groups

-- What is a record in bytes, with these steps. Version 2 leaves free how they stand in groups.
pub record IsOldRecord (body : List ℕ) (steps : List Step) : Type 0 where
  pub few : length steps < 2 ^ 32
  pub is : body ≡ old_body_of steps

pub record IsNewRecord (body : List ℕ) (steps : List Step) : Type 0 where
  pub groups : List (List Step)
  pub few : length groups < 2 ^ 32
  pub short : AreShort groups
  pub all : all_steps groups ≡ steps
  pub is : body ≡ body_of groups

pub record IsRecord (body : List ℕ) (steps : List Step) : Type 0 where
  pub allowed : AreAllowed [] steps
  pub spelled : IsOldRecord body steps ⊎ IsNewRecord body steps
