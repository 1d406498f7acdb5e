use Rattle.std.proofs.Common.{◌∙◌, List, ℕ, All, IsTrue, arith, rules, refl, subst, ap}
use Rattle.std.proofs.lemmas.List.{take_all}
use Rattle.std.proofs.lemmas.List.Elements.{All-more}
use Rattle.acq_outside.specs.Disk.{IsName}
use Rattle.acq_outside.specs.History.{FileRows}
use Rattle.acq_memory.proofs.start.are_names.Goals as goal

pub loop-file-preserved : goal.loop-file-preserved
loop-file-preserved c =
    let yes : IsTrue c.is_name.result = search rules in
    let named : IsName c.as_bytes.result.now = c.is_name.ensures.0 yes in
    let P : List ℕ → Type 0 = λ name. IsName name in
    All-more (λ file. IsName file.0) c.args.files.now c.loop-file.file-index c.file-item.result (search rules) c.loop-file.invariant
    (subst P (c.as_bytes.ensures ∙ ap (λ (file : List ℕ × List ℕ). file.0) c.file-item.is) named)

pub returns : goal.returns
returns c =
    let P : FileRows → Type 0 = λ files. All (λ file. IsName file.0) files in
    (λ _. subst P (take_all c.loop-file.file-index c.args.files.now (omega arith)) c.loop-file.invariant, λ _. refl)
