use Rattle.std.proofs.Common.{◌≡◌, ◌+◌, ◌≤◌, not, length, take}
use Rattle.std.specs.List.{suffix_len}
use Rattle.uri_names.specs.Folder.{is_slash}
use Rattle.deb_fetch.proofs.filename.file_name.Given as goal

abbrev pub invariant-loop-at : goal.invariant-loop-at
invariant-loop-at l = (l.at ≤ length l.path) × (l.at + suffix_len (λ x. not (is_slash x)) l.path ≡ length l.path + suffix_len (λ x. not (is_slash x)) (take l.at l.path))

abbrev pub decreases-loop-at : goal.decreases-loop-at
decreases-loop-at l = l.at
