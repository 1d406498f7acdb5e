-- The entries of the files so far stand behind those from before, and are sound where those are.
use Rattle.std.proofs.Common.{◌≡◌, take, All}
use Rattle.acq_outside.specs.declared.etc.Place.TheVariants.{SourcesParts}
use Rattle.source_lists.specs.Sound.{IsSound}
use Rattle.configuration.specs.Configured.{list_part}
use Rattle.configuration.proofs.Parts.{Progress}
use Rattle.configuration.proofs.lists.add_parts.Given as goal

abbrev pub invariant-loop-name : goal.invariant-loop-name
invariant-loop-name g l =
    record {
      quiet : g.E.Etc.faults l.etc ≡ g.E.Etc.faults l.fn.etc;
      same : g.E.Etc.files l.etc ≡ g.E.Etc.files l.fn.etc;
      read : Progress (g.E.Etc.files l.fn.etc) SourcesParts (list_part l.arch) (take l.name-index l.names) l.fn.entries l.entries;
      sound : All IsSound l.fn.entries → All IsSound l.entries;
    }
