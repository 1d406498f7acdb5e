use Rattle.std.proofs.Common.{◌≡◌, ◌∙◌, ap, sym, ◌++◌, List, ℕ, []}
use Rattle.std.specs.Map.Iter.{deref}
use Rattle.std.proofs.lemmas.List.{append-nil}
use Rattle.std.proofs.lemmas.Map.Iter.{rest_all}
use Rattle.acq_memory.proofs.HeldFiles.{listed}
use Rattle.acq_memory.proofs.held.list_names.Goals as goal

pub returns : goal.returns
returns c =
    let none : c.loop-name.name-iterator ≡ [] = rest_all deref c.loop-name.name-iterator c.next.new.self c.next.result c.in-None.is c.next.ensures.steps in
    listed c.args.held.now c.loop-name.names c.keys-name-items.ensures.ordered (sym (append-nil c.loop-name.names) ∙ ap (λ (rest : List (List ℕ)). c.loop-name.names ++ rest) (sym none) ∙ c.loop-name.invariant)
