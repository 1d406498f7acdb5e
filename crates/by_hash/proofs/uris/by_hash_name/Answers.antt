-- A digest has 32 bytes, so its name is short.
use Rattle.std.proofs.Common.{◌≡◌, ◌++◌, ◌∙◌, ap₂, sym, subst, arith}
use Rattle.by_hash.specs.Beside.{IsShortName}
use Rattle.by_hash.specs.Candidates.{by_hash_name}
use Rattle.by_hash.proofs.Sound.{short_name}
use Rattle.by_hash.proofs.uris.by_hash_name.Goals as goal

pub returns-clause-short : goal.returns-clause-short
returns-clause-short c =
    let digest = c.args.digest.now in
    let text = c.as_bytes.ensures.value ∙ c.in_ok-encode.ensures in
    let is : c.append.new.self ≡ by_hash_name digest = c.in_ok-append.ensures ∙ ap₂ (λ a b. a ++ b) c.in_ok-name.ensures text in
    subst IsShortName (sym is) (short_name digest c.requires (λ i. let fits = c.type_inv.digest i in omega (arith, fits)))
