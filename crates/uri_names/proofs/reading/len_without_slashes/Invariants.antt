-- What stands behind the length so far is slashes.
use Rattle.std.proofs.Common.{◌≡◌, ◌+◌, ◌≤◌, ◌==◌, length, take}
use Rattle.std.specs.List.{suffix_len}
use Rattle.uri_names.proofs.reading.len_without_slashes.Given as goal

abbrev pub invariant-loop-len : goal.invariant-loop-len
invariant-loop-len l = record {
  within : l.len ≤ length l.path;
  slashes : l.len + suffix_len (λ c. c == 47) l.path ≡ length l.path + suffix_len (λ c. c == 47) (take l.len l.path);
}

abbrev pub decreases-loop-len : goal.decreases-loop-len
decreases-loop-len l = l.len
