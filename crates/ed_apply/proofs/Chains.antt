-- Scripts one after another.
use Rattle.std.proofs.Common.{◌≡◌, ◌∙◌, ℕ, suc, ◌+◌, ◌<◌, ◌≤◌, List, ◌∷◌, length, drop, get_or, drop-cons, Option, Some, sym, ap, arith}
use Rattle.std.specs.Prelude.{option_and_then}
use Rattle.std.proofs.lemmas.List.{drop_all}
use Rattle.ed_apply.specs.Edits.{edited, applied, applied_all}
use Rattle.ed_apply.specs.declared.script.Script.{Script}
use Rattle.ed_apply.proofs.EditLaws.{agree}

-- one more script
pub one-more : (before after : List ℕ) (scripts : List Script) (i : ℕ) (script : Script) (end : Option (List ℕ)) → i < length scripts → script ≡ get_or scripts i script → edited before script after → applied_all before (drop i scripts) ≡ end → applied_all after (drop (i + 1) scripts) ≡ end
one-more before after scripts i script end within here made so_far =
    let next_place : i + 1 ≡ suc i = omega arith in
    let cut : drop i scripts ≡ script ∷ drop (suc i) scripts = drop-cons scripts i script within ∙ ap (λ (s : Script). s ∷ drop (suc i) scripts) (sym here) in
    let done : applied before script ≡ Some after = (agree before script after).1 made in
    ap (λ n. applied_all after (drop n scripts)) next_place
    ∙ sym (ap (option_and_then (λ new. applied_all new (drop (suc i) scripts))) done)
    ∙ sym (ap (applied_all before) cut) ∙ so_far

-- the last file
pub no-more : (file : List ℕ) (scripts : List Script) (i : ℕ) (end : Option (List ℕ)) → length scripts ≤ i → applied_all file (drop i scripts) ≡ end → end ≡ Some file
no-more file scripts i end all so_far = sym so_far ∙ ap (applied_all file) (drop_all i scripts all)
