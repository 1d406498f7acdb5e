use Rattle.std.proofs.Common.{◌≡◌, take}
use Rattle.std.specs.List.{fold}
use Rattle.std.specs.Str.{str_to_ascii_lowercase}
use Rattle.deb822_text.specs.Names.{next_digest}
use Rattle.deb822_text.proofs.names.digest.Given as goal

abbrev pub invariant-loop-byte : goal.invariant-loop-byte
invariant-loop-byte l = l.digest ≡ fold next_digest 0 (str_to_ascii_lowercase (take l.byte-index l.name))
