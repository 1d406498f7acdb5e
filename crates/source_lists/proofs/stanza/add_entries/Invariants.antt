-- The entries of the URIs so far.
use Rattle.std.proofs.Common.{◌≡◌, ◌++◌, take}
use Rattle.std.specs.List.{flat_map}
use Rattle.source_lists.specs.Stanzas.{entries_of_uri}
use Rattle.source_lists.proofs.stanza.add_entries.Given as goal

abbrev pub invariant-loop-uri : goal.invariant-loop-uri
invariant-loop-uri l = l.entries ≡ l.fn.entries ++ flat_map (λ uri. entries_of_uri l.file l.at l.stanza uri) (take l.uri-index l.uri-items)
