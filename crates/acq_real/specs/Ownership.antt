-- Which files and folders are one user's alone.
use Rattle.std.specs.Prelude.{◌≡◌, ℕ, bit_and}
use Rattle.std.specs.Fs.{metadata_mode}
use Rattle.acq_real.specs.declared.ownership.Found.{Found}
use Rattle.acq_real.specs.declared.ownership.Standing.{Standing}

-- the user's, and nobody else may write it: no write bit of the group or of others is set
pub record IsPrivate (standing : Standing) (user : ℕ) : Type 0 where
  pub owned : standing.owner ≡ user
  pub closed : bit_and standing.mode 18 ≡ 0

-- and no other name leads to it
pub record IsPrivateFile (standing : Standing) (user : ℕ) : Type 0 where
  pub private : IsPrivate standing user
  pub single : standing.links ≡ 1

-- the permission bits that were looked at are those that the system gave
abbrev pub ShowsMode : Found → Type 0
ShowsMode found = found.standing.mode ≡ metadata_mode found.metadata
