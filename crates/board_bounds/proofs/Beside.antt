-- `InRelease` is a short name, and a list's URI under its digest is sound.
use Rattle.std.proofs.Common.{◌≤◌, Bool, true, false, length, codes, Some, None, refl, arith}
use Rattle.std.specs.Prelude.{IfSome, if◌then◌else◌}
use Rattle.std.proofs.lemmas.List.Sums.{AllPass-from_list_all}
use Rattle.acq_base.specs.Uri.{list_name, is_uri_character, IsSound}
use Rattle.acq_base.specs.declared.plan.Source.{Source}
use Rattle.acq_base.specs.declared.plan.Target.{Target}
use Rattle.acq_base.specs.declared.sum.Sum.{Sum}
use Rattle.by_hash.specs.Beside.{beside, IsShortName}
use Rattle.by_hash.specs.Candidates.{by_hash_name, by_hash_uri, is_asked}
use Rattle.by_hash.proofs.Sound.{beside_sound, short_name}
use Rattle.board_bounds.specs.Readings.{IsWritten}

pub in_release-short : IsShortName (codes "InRelease")
in_release-short = record { characters = AllPass-from_list_all is_uri_character (codes "InRelease") refl; short = omega arith }

-- the URI of a list under its digest, where there is one
pub hashed-sound : (source : Source) (target : Target) (sum : Sum) (said : Bool) → IsSound target.uri → length (list_name target.uri) ≤ 240 → IsWritten sum
    → IfSome (by_hash_uri source target sum said) IsSound
unfolding by_hash_uri
hashed-sound source target sum said sound named written = one (is_asked source.by_hash said)
  where
    one : (c : Bool) → IfSome (if c then Some (beside target.uri (by_hash_name sum.sha.0)) else None) IsSound
    one true = beside_sound target.uri (by_hash_name sum.sha.0) sound named (short_name sum.sha.0 written.count (λ i. written.bytes i))
    one false = tt
