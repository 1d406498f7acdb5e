use Rattle.std.proofs.Common.{◌≡◌, rules, sym, subst, []}
use Rattle.std.proofs.lemmas.List.Elements.{recursion_from_All}
use Rattle.acq_outside.specs.Disk.{IsName}
use Rattle.acq_outside.specs.Crash.{State, newest, start_state, trace_after}
use Rattle.acq_memory.specs.Replay.{HasOnlyNames, state_of}
use Rattle.acq_memory.proofs.Images.{only_names}
use Rattle.acq_memory.proofs.history.History.crashed.Goals as goal

pub left-requires : goal.left-requires
left-requires c =
    let rows = c.self.inside.start in
    let calls = c.self.inside.changes.items in
    let is : state_of c.in_ok-replay.replay ≡ newest (trace_after (start_state rows) [] calls) = search rules in
    subst (λ (s : State). HasOnlyNames s) (sym is) (only_names rows calls (recursion_from_All (λ row. IsName row.0) rows c.self.invariant.2) c.self.invariant.3)
