-- Where a list may be fetched (Debian repository format, "Acquire-By-Hash").
use Rattle.std.specs.Prelude.{ℕ, ◌++◌, Bool, true, false, if◌then◌else◌, List, [], ◌∷◌, codes, option_to_list, Option, Some, None}
use Rattle.hex.specs.Hex.{encode_lower}
use Rattle.acq_base.specs.declared.plan.ByHash.{ByHash}
use Rattle.acq_base.specs.declared.plan.ByHash.TheVariants.{No, Yes, Force}
use Rattle.acq_base.specs.declared.plan.Source.{Source}
use Rattle.acq_base.specs.declared.plan.Target.{Target}
use Rattle.acq_base.specs.declared.sum.Sum.{Sum}
use Rattle.acq_base.specs.declared.uri.Uri.{Uri}
use Rattle.by_hash.specs.Beside.{beside}

-- whether a list is asked for under its digest; `said` is the Release's word
abbrev pub is_asked : ByHash → Bool → Bool
is_asked Force said = true
is_asked Yes said = said
is_asked No said = false

-- what stands in place of a list's last segment, by the bytes of the digest
abbrev pub by_hash_name : List ℕ → List ℕ
by_hash_name digest = codes "by-hash/SHA256/" ++ encode_lower digest

-- the URI of a list under its digest, where it is asked for there
unfoldable pub by_hash_uri : Source → Target → Sum → Bool → Option Uri
by_hash_uri source target sum said = if is_asked source.by_hash said then Some (beside target.uri (by_hash_name sum.sha.0)) else None

-- under the digest first, under its own name last
abbrev pub candidates : Source → Target → Sum → Bool → List Uri
candidates source target sum said = option_to_list (by_hash_uri source target sum said) ++ target.uri ∷ []
