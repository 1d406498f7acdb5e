use Rattle.std.proofs.Common.{◌≡◌, take}
use Rattle.std.specs.List.{flat_map}
use Rattle.lists_dir.specs.Installed.{target_names}
use Rattle.lists_dir.proofs.reading.all_names.Given as goal

abbrev pub invariant-loop-source : goal.invariant-loop-source
invariant-loop-source l = l.names ≡ flat_map target_names (take l.source-index l.sources)
