-- What is known of the sums that a Release lists.
use Rattle.std.specs.Prelude.{◌≡◌, ℕ, ◌<◌, ◌^◌, List, length, Some, Ok}
use Rattle.acq_base.specs.declared.sum.Sum.{Sum}
use Rattle.hex.specs.Hex.{IsBytes}
use Rattle.release_file.specs.Release.{listed_sum, release_of}
use Rattle.release_file.specs.declared.release.Release.{Release}

-- a sum as texts write it: a size below 2^64, and a digest of 32 bytes (FIPS 180-4, section 6.2)
pub record IsWritten (sum : Sum) : Type 0 where
  pub size : sum.size < 2 ^ 64
  pub count : length sum.sha.0 ≡ 32
  pub bytes : IsBytes sum.sha.0

abbrev pub ListedSumsAreWritten : Type 0
ListedSumsAreWritten = (bytes path : List ℕ) (release : Release) (sum : Sum) → release_of bytes ≡ Ok release → listed_sum release path ≡ Some sum → IsWritten sum
