use Rattle.std.proofs.Common.{◌≡◌, ◌∙◌, [], ◌∷◌, List, sym, ap}
use Rattle.std.specs.Prelude.{reverse}
use Rattle.std.proofs.lemmas.List.{reverse-append}
use Rattle.acq_base.specs.declared.uri.Uri.{Uri}
use Rattle.pdiff_index.specs.declared.index.Step.{Step}
use Rattle.update_model.specs.Points.{At, start}
use Rattle.update_model.specs.Walks.{patches_walk, resume_walk, whole_ask}
use Rattle.update_model.specs.Wanted.{patch_uri}
use Rattle.update_model.specs.declared.ask.Ask.{Ask}
use Rattle.item_graph.specs.Nexts.{after}
use Rattle.item_graph.specs.Patched.{file_in}
use Rattle.item_graph.specs.declared.patching.Patching.{Patching}
use Rattle.item_graph.specs.declared.state.Next.TheVariants as nexts
use Rattle.item_graph.proofs.patches.next_patch.Goals as goal

pub returns-in_ok-uri-in-Some : goal.returns-in_ok-uri-in-Some
returns-in_ok-uri-in-Some c =
    let w = c.args.wanted in
    let step = c.in-Some.step in
    let later = c.pop.new.self in
    let patching : Patching = record { wanted = w; part = c.args.part; editing = c.args.editing; sum = step.sum; later = later } in
    let ask_is : c.whole_ask-ask.result ≡ whole_ask (patch_uri w step.name) step.sum.size =
    c.whole_ask-ask.ensures ∙ ap (λ (u : Uri). whole_ask u step.sum.size) (c.in_ok-uri-in-Some.ensures ∙ ap (patch_uri w) c.as_bytes.ensures) in
    let steps_are : reverse c.args.steps.items ≡ step ∷ reverse later.items = ap reverse c.in-Some.ensures.items ∙ reverse-append later.items (step ∷ []) in
    c.first.ensures ∙ ap (λ (a : Ask). At a 10 c.args.retries (after (nexts.Patch patching))) ask_is
    ∙ sym (ap (λ (ss : List Step). start c.args.retries (patches_walk w (resume_walk w c.args.part) ss (file_in c.args.editing))) steps_are)
