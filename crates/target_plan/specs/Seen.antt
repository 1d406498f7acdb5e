-- What the program's groups of references mean, and the keys of sources.
use Rattle.std.specs.Prelude.{Bool, true, false, List, map}
use Rattle.std.specs.Ordering.{nat_cmp, bool_cmp, ordering_then}
use Rattle.std.specs.declared.cmp.Ordering.{Ordering}
use Rattle.std.specs.Cmp.Lexicographic.{slice_cmp}
use Rattle.acq_base.specs.declared.uri.Scheme.{Scheme}
use Rattle.acq_base.specs.declared.uri.Scheme.TheVariants.{Http, File}
use Rattle.target_plan.specs.declared.groups.SourceKey.{SourceKey}
use denote.Ref.{Bor}
use Rattle.std.specs.Global.{Vec}
use Rattle.source_lists.specs.declared.entry.Entry.{Entry}
use Rattle.target_plan.specs.declared.groups.Mention as declared
use Rattle.target_plan.specs.declared.architectures.Asked as declared_asked
use Rattle.target_plan.specs.Offers.{Asked, Mention}

abbrev pub seen : {T : Type 0} → T → T
seen item = item

abbrev pub seen_entry : Bor Entry → Entry
seen_entry entry = entry.now

abbrev pub seen_mention : declared.Mention → Mention
seen_mention mention = (mention.component.now, mention.entry.now)

abbrev pub seen_asked : declared_asked.Asked → Asked
seen_asked asked = (asked.arch.now, asked.entry.now)

-- a group with what its items mean
abbrev pub seen_group : {T X : Type 0} → (T → X) → T × Vec T → X × List X
seen_group item_of group = (item_of group.0, map item_of group.1.items)

abbrev pub is_file : Scheme → Bool
is_file Http = false
is_file File = true

-- the key of an entry's source
abbrev pub key_of : Entry → SourceKey
key_of entry = record { is_file = is_file entry.uri.scheme; host = entry.uri.host; port = entry.uri.port; path = entry.uri.path; suite = entry.suite }

-- the order of these keys, part by part
abbrev pub key_cmp : SourceKey → SourceKey → Ordering
key_cmp a b =
    ordering_then (bool_cmp a.is_file b.is_file)
    (ordering_then (slice_cmp nat_cmp a.host b.host)
    (ordering_then (nat_cmp a.port b.port)
    (ordering_then (slice_cmp nat_cmp a.path b.path) (slice_cmp nat_cmp a.suite b.suite))))
