use Rattle.std.proofs.Common.{◌≡◌, ◌∙◌, List, ℕ, Option, Some, sym, ap, subst}
use Rattle.std.specs.Prelude.{reverse, IfOk, option_and_then}
use Rattle.std.proofs.lemmas.List.{reverse-reverse}
use Rattle.pdiff_index.specs.declared.index.Step.{Step}
use Rattle.update_model.specs.Points.{start}
use Rattle.update_model.specs.Walks.{Walk, patches_walk, resume_walk, on_some}
use Rattle.update_model.specs.Wanted.{chain}
use Rattle.item_graph.specs.Nexts.{point_in, after_index}
use Rattle.item_graph.specs.Patched.{file_in}
use Rattle.item_graph.proofs.patches.after_index.Goals as goal

pub returns-in_ok-editing-in-Some : goal.returns-in_ok-editing-in-Some
returns-in_ok-editing-in-Some c =
    let l = c.args.listing in
    let other : Walk = resume_walk l.wanted l.part in
    let goes : List Step → Walk = λ steps. patches_walk l.wanted other steps l.installed.file in
    let there : option_and_then (chain l.wanted l.installed.file) c.fitting_bytes-bytes.result ≡ Some c.in-Some.steps = sym c.in_ok-steps.ensures ∙ c.in-Some.is in
    let steps_are : reverse c.reverse.new.self.items ≡ c.in-Some.steps = ap reverse c.reverse.ensures.items ∙ reverse-reverse c.into_vec-later.result.items ∙ c.into_vec-later.ensures in
    let walk_is : patches_walk l.wanted other (reverse c.reverse.new.self.items) (file_in c.in_ok-editing-in-Some.editing) ≡ after_index l c.args.ending =
    ap (λ (ss : List Step). patches_walk l.wanted other ss (file_in c.in_ok-editing-in-Some.editing)) steps_are
    ∙ ap (λ (file : List ℕ). patches_walk l.wanted other c.in-Some.steps file) c.in_ok-editing-in-Some.ensures
    ∙ sym (ap (λ (o : Option (List Step)). on_some o goes other) (ap (option_and_then (chain l.wanted l.installed.file)) (sym c.fitting_bytes-bytes.ensures) ∙ there)) in
    subst (λ (w : Walk). IfOk c.next_patch.result (λ state. point_in state ≡ start c.args.retries w)) walk_is c.next_patch.ensures
