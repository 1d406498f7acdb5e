use Rattle.std.proofs.Common.{rules, ◌≡◌, ◌∙◌, ap, sym, ◌++◌, [], List}
use Rattle.acq_outside.specs.Crash.{State, Names, all_renamed}
use Rattle.acq_memory.specs.Replay.{nowhere}
use Rattle.acq_outside.specs.declared.state.NameChange.{NameChange}
use Rattle.acq_memory.proofs.Replaying.{all_append}
use Rattle.acq_memory.proofs.replay.Replay.sync_names.Goals as goal

pub returns-clause-state : goal.returns-clause-state
returns-clause-state c =
    let items : c.append.new.self.items ≡ c.args.self.now.settled.items ++ c.args.self.now.pending.items = search rules in
    let none : c.append.new.other.items ≡ [] = search rules in
    let base : all_renamed nowhere c.append.new.self.items ≡ all_renamed (all_renamed nowhere c.args.self.now.settled.items) c.args.self.now.pending.items =
    ap (all_renamed nowhere) items ∙ all_append nowhere c.args.self.now.settled.items c.args.self.now.pending.items in
    ap (λ (m : Names). let s : State = record { files = c.args.self.now.files.items; base = m; pending = c.append.new.other.items } in s) base
    ∙ ap (λ (l : List NameChange). let s : State = record { files = c.args.self.now.files.items; base = all_renamed (all_renamed nowhere c.args.self.now.settled.items) c.args.self.now.pending.items; pending = l } in s) none

pub returns-clause-standing : goal.returns-clause-standing
returns-clause-standing c =
    let items : c.append.new.self.items ≡ c.args.self.now.settled.items ++ c.args.self.now.pending.items = search rules in
    let none : c.append.new.other.items ≡ [] = search rules in
    c.requires ∙ sym (all_append nowhere c.args.self.now.settled.items c.args.self.now.pending.items) ∙ ap (all_renamed nowhere) (sym items) ∙ ap (all_renamed (all_renamed nowhere c.append.new.self.items)) (sym none)
