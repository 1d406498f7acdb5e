-- What a crash leaves of a disk on which a commit may be made.
use Rattle.std.specs.Prelude.{◌≡◌, ℕ, List, [], ◌∷◌, Some}
use Rattle.acq_outside.specs.Disk.{Files}
use Rattle.acq_outside.specs.Crash.{State, IsImage}
use Rattle.journal_model.specs.Names.{journal, partial}
use Rattle.journal_model.specs.Spelling.{body_of}
use Rattle.commit_journal.specs.declared.changing.Change.{Change}
use Rattle.commit_journal.specs.declared.changing.Change.TheVariants.{Put, Drop}
use Rattle.commit_journal.specs.Changes.{content_of, steps_in, all_changes}
use Rattle.commit_journal.specs.Commits.{parts_of}

-- what each Put puts is there under the name on its way
abbrev pub HasPutFile : (List ℕ → List ℕ) → Files → Change → Type 0
HasPutFile part files (Put name content) = files (partial name.0) ≡ Some (content_of part name.0 content)
HasPutFile part files (Drop name) = Unit {0}

abbrev pub HasPutFiles : (List ℕ → List ℕ) → Files → List Change → Type 0
HasPutFiles part files [] = Unit {0}
HasPutFiles part files (change ∷ changes) = HasPutFile part files change × HasPutFiles part files changes

-- the gate is 0, the body is the groups' record, and all that it puts is there
pub record HasRecord (groups : List (List Change)) (part : List ℕ → List ℕ) (image : Files) : Type 0 where
  pub behind_the_gate : image journal ≡ Some (0 ∷ body_of (steps_in groups))
  pub puts : HasPutFiles part image (all_changes groups)

-- whatever a crash leaves
abbrev pub LeavesRecord : List (List Change) → State → Type 0
LeavesRecord groups s = (image : Files) → IsImage s image → HasRecord groups (parts_of s) image
