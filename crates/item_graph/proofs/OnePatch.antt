-- One patch of a file.
use Rattle.std.proofs.Common.{◌≡◌, ◌∙◌, ◌⊎◌, ◌↔◌, ◌≤◌, ◌&&◌, nat_le, ℕ, Bool, true, false, List, [], ◌∷◌, ◌++◌, length, take, drop, Option, Some, None, inl, inr, refl, sym, ap, arith}
use Rattle.std.specs.Prelude.{Result, Ok, Err, option_map, option_and_then, if◌then◌else◌}
use Rattle.std.specs.Result.{result_ok}
use Rattle.std.specs.List.{concat}
use Rattle.std.proofs.lemmas.Bool.{cases_Bool}
use Rattle.std.proofs.lemmas.Bool.Decides.{nat_tests}
use Rattle.std.proofs.lemmas.List.{length-take}
use mathlib.Core.Logic.{∥∥₁_elim}
use Rattle.ed_apply.specs.Edits.{edited, applied, applied_to, refusal, first_outside, file_lines}
use Rattle.ed_apply.specs.Files.{IsOf, file_of}
use Rattle.ed_apply.specs.Grammar.{script_of}
use Rattle.ed_apply.specs.declared.edit.Edit.{Edit}
use Rattle.ed_apply.specs.declared.error.ApplyError.{ApplyError}
use Rattle.ed_apply.specs.declared.error.ScriptError.{ScriptError}
use Rattle.ed_apply.specs.declared.error.ScriptError.TheVariants as refusals
use Rattle.ed_apply.specs.declared.script.Hunk.{Hunk}
use Rattle.ed_apply.specs.declared.script.Script.{Script}
use Rattle.update_model.specs.Wanted.{edited_by}
use Rattle.item_graph.proofs.Begun.{begun-prop}

pub is-of : (edit : Edit) (old : List ℕ) → ∥ IsOf edit old ∥₁ → IsOf edit old
is-of edit old h = ∥∥₁_elim h (begun-prop edit old) (λ is. is)

-- a script that reaches beyond a file makes nothing of it
none-outside : (hunks : List Hunk) (old : List (List ℕ)) (count : ℕ) (e : ApplyError) → length old ≤ count → first_outside count hunks ≡ Some e → applied_to hunks old ≡ None
none-outside [] old count e few is = absurd (cc)
none-outside (hunk ∷ hunks) old count e few is =
    elim (cases_Bool (nat_le hunk.to count)) [
      | inl within ↦
          let cut = length-take hunk.from old in
          let above : applied_to hunks (take hunk.from old) ≡ None = none-outside hunks (take hunk.from old) count e (omega (arith, cut, few)) (rw within at is) in
          either (nat_le hunk.from hunk.to && nat_le hunk.to (length old)) (λ edited. edited ++ (hunk.text ++ concat (drop hunk.to old))) above
      | inr beyond ↦
          let past : nat_le hunk.to (length old) ≡ false = grind (arith, nat_tests, few, beyond) in
          rw past (none (nat_le hunk.from hunk.to) (applied_to hunks (take hunk.from old)) (λ edited. edited ++ (hunk.text ++ concat (drop hunk.to old))))
    ]
  where
    either : (b : Bool) (f : List ℕ → List ℕ) {o : Option (List ℕ)} → o ≡ None → (if b then option_map f o else None) ≡ None
    either true f e = ap (option_map f) e
    either false f e = refl

    none : (b : Bool) (o : Option (List ℕ)) (f : List ℕ → List ℕ) → (if b && false then option_map f o else None) ≡ None
    none true o f = refl
    none false o f = refl

refused-none : (old : List ℕ) (script : Script) (e : ApplyError) → refusal old script ≡ Some e → applied old script ≡ None
unfolding refusal applied
refused-none old script e is = none-outside script.hunks (file_lines old) (length (file_lines old)) e (omega arith) is

-- what was read, memory aside
read-as : (r s : Result Script ScriptError) (script : Script) → r ≡ Ok script → (r ≡ Err refusals.NoMemory) ⊎ (r ≡ s) → s ≡ Ok script
read-as r s script is (inl none) = absurd (cc)
read-as r s script is (inr same) = sym same ∙ is

by-script : (file patch : List ℕ) (script : Script) → script_of patch ≡ Ok script → edited_by file patch ≡ applied file script
by-script file patch script is = ap (λ (r : Result Script ScriptError). option_and_then (λ s. applied file s) (result_ok r)) is

pub patch-edits : (before after : Edit) (old patch bytes : List ℕ) (script : Script) (r : Result Script ScriptError) → bytes ≡ patch → r ≡ Ok script → (r ≡ Err refusals.NoMemory) ⊎ (r ≡ script_of bytes)
    → ((file : List ℕ) (s : Script) (new : List ℕ) → (applied file s ≡ Some new) ↔ edited file s new)
    → edited (file_of before old) script (file_of after old)
    → Some (file_of after old) ≡ edited_by (file_of before old) patch
patch-edits before after old patch bytes script r same is read law done =
    sym (by-script (file_of before old) patch script (ap script_of (sym same) ∙ read-as r (script_of bytes) script is read) ∙ (law (file_of before old) script (file_of after old)).1 done)

pub patch-outside : (before : Edit) (old patch bytes : List ℕ) (script : Script) (r : Result Script ScriptError) (e : ApplyError) → bytes ≡ patch → r ≡ Ok script → (r ≡ Err refusals.NoMemory) ⊎ (r ≡ script_of bytes)
    → refusal (file_of before old) script ≡ Some e
    → None ≡ edited_by (file_of before old) patch
patch-outside before old patch bytes script r e same is read refused =
    sym (by-script (file_of before old) patch script (ap script_of (sym same) ∙ read-as r (script_of bytes) script is read) ∙ refused-none (file_of before old) script e refused)
