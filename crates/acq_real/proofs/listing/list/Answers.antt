use Rattle.std.proofs.Common.{◌≡◌, ◌∙◌, subst, sym}
use Rattle.std.proofs.lemmas.List.Filters.{dedup_is}
use Rattle.std.specs.Prelude.{nat_eq}
use Rattle.std.specs.List.{dedup}
use Rattle.acq_real.specs.Listing.{Keeps, plain_names}
use Rattle.std.specs.Cmp.Lexicographic.{pointwise}
use Rattle.acq_outside.specs.Disk.{IsName}
use Rattle.acq_real.specs.Folder.{IsInside}
use Rattle.acq_real.proofs.Listings.{Names, keeps_sorted, each_once, all_taken}
use Rattle.acq_real.proofs.listing.list.Goals as goal

pub returns-clause-listing : goal.returns-clause-listing
returns-clause-listing c =
    let is : c.from.result ≡ dedup (pointwise nat_eq) c.sort_unstable.new.self.items = c.from.ensures ∙ dedup_is _ _ _ c.dedup.ensures.filtered in
    let keeps : Keeps (plain_names c.args.entries.now) c.in_ok-names.names.items = subst (λ (names : Names). Keeps names c.in_ok-names.names.items) (c.as_slice.ensures.value ∙ c.in_ok-plain.ensures) c.in_ok-names.ensures in
    subst (λ (names : Names). Keeps (plain_names c.args.entries.now) names) (sym is)
    (keeps_sorted (plain_names c.args.entries.now) c.in_ok-names.names.items c.sort_unstable.new.self.items c.sort_unstable.ensures.permutation keeps)

pub returns-clause-sorted : goal.returns-clause-sorted
returns-clause-sorted c =
    each_once c.sort_unstable.new.self.items c.from.result c.sort_unstable.ensures.sorted (c.from.ensures ∙ dedup_is _ _ _ c.dedup.ensures.filtered)

pub returns-clause-named : goal.returns-clause-named
returns-clause-named c = all_taken _ _ IsName (λ name taken. taken.0) (returns-clause-listing c)

pub returns-clause-inside : goal.returns-clause-inside
returns-clause-inside c = all_taken _ _ IsInside (λ name taken. taken.1) (returns-clause-listing c)
