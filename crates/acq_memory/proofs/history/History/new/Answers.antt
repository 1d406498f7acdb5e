use Rattle.std.proofs.Common.{◌≡◌, ◌∙◌, sym, ap, List, [], rules}
use Rattle.acq_outside.specs.History.{start_files, files_after}
use Rattle.acq_memory.specs.Held.{files_in}
use Rattle.acq_outside.specs.declared.change.DiskCall.{DiskCall}
use Rattle.acq_memory.proofs.Named.{start_named, kept_changes}
use Rattle.acq_memory.proofs.history.History.new.Goals as goal

pub invariant_of-result : goal.invariant_of-result
invariant_of-result c =
    let held : files_in c.in_ok-held.held ≡ start_files c.args.start = search rules in
    (held ∙ ap (λ (changes : List DiskCall). files_after (start_files c.args.start) changes) (sym c.new.ensures.items), start_named c.args.start (files_in c.in_ok-held.held) c.requires.names held, c.requires.names, kept_changes [] c.new.result.items tt c.new.ensures.items)
