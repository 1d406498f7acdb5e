-- Cutting a file at its hunks gives exactly what the relation says.
use Rattle.std.proofs.Common.{◌≡◌, ◌∙◌, ◌↔◌, ℕ, ◌+◌, ◌-◌, ◌≤◌, ◌&&◌, nat_le, true, List, [], ◌∷◌, ◌++◌, length, take, drop, Option, Some, None, inl, inr, refl, sym, ap, append_assoc, length-append, length-drop, arith}
use Rattle.std.specs.Prelude.{option_map}
use Rattle.std.specs.List.{concat}
use Rattle.std.proofs.Math.Seq.{take-append_seam, drop-append_seam}
use Rattle.std.proofs.lemmas.Bool.{cases_Bool}
use Rattle.std.proofs.lemmas.Bool.Decides.{nat_tests}
use Rattle.std.proofs.lemmas.List.{take-append-drop, drop-drop, length-take-le}
use Rattle.ed_apply.specs.Edits.{Edits, edited, applied_to, applied, file_lines}
use Rattle.ed_apply.specs.declared.script.Hunk.{Hunk}
use Rattle.ed_apply.specs.declared.script.Script.{Script}

map-some : (f : List ℕ → List ℕ) (o : Option (List ℕ)) (new : List ℕ) → option_map f o ≡ Some new → (x : List ℕ) × (o ≡ Some x) × (new ≡ f x)
map-some f None new e = absurd (cc)
map-some f (Some x) new e = (x, refl, (cc))

pub edits-of : (hunks : List Hunk) (old : List (List ℕ)) (new : List ℕ) → applied_to hunks old ≡ Some new → Edits hunks old new
edits-of [] old new e = cc
edits-of (hunk ∷ hunks) old new e =
    elim (cases_Bool (nat_le hunk.from hunk.to && nat_le hunk.to (length old))) [
      | inl is ↦
          let f = λ (edited : List ℕ). edited ++ (hunk.text ++ concat (drop hunk.to old)) in
          let made = map-some f (applied_to hunks (take hunk.from old)) new (rw is at e) in
          let order : hunk.from ≤ hunk.to = grind (arith, nat_tests) in
          let within : hunk.to ≤ length old = grind (arith, nat_tests) in
          let some = hunk.to - hunk.from in
          let all : hunk.from + some ≡ hunk.to = omega arith in
          let first : length (take hunk.from old) ≡ hunk.from = length-take-le hunk.from old (omega arith) in
          let second : length (take some (drop hunk.from old)) ≡ some = length-take-le some (drop hunk.from old) (omega (arith, length-drop hunk.from old)) in
          record {
            before = take hunk.from old;
            replaced = take some (drop hunk.from old);
            kept = drop hunk.to old;
            edited = made.0;
            cut = sym (take-append-drop hunk.from old) ∙ ap (λ ls. take hunk.from old ++ ls) (sym (take-append-drop some (drop hunk.from old)) ∙ ap (λ ls. take some (drop hunk.from old) ++ ls) (drop-drop some hunk.from old ∙ ap (λ k. drop k old) all));
            begins = first;
            ends = omega (arith, first, second);
            above = edits-of hunks (take hunk.from old) made.0 made.1;
            whole = made.2;
          }
      | inr isnt ↦ let none = rw isnt at e in absurd (cc)
    ]

pub applied-of : (hunks : List Hunk) (old : List (List ℕ)) (new : List ℕ) → Edits hunks old new → applied_to hunks old ≡ Some new
applied-of [] old new e = ap (λ (x : List ℕ). Some x) (sym e)
applied-of (hunk ∷ hunks) old new w =
    let before = w.before in
    let replaced = w.replaced in
    let kept = w.kept in
    let front : take hunk.from old ≡ before = ap (take hunk.from) w.cut ∙ ap (λ k. take k (before ++ (replaced ++ kept))) (sym w.begins) ∙ take-append_seam before (replaced ++ kept) in
    let to : hunk.to ≡ length (before ++ replaced) = sym w.ends ∙ sym (length-append before replaced) in
    let back : drop hunk.to old ≡ kept = ap (drop hunk.to) (w.cut ∙ sym (append_assoc before replaced kept)) ∙ ap (λ k. drop k ((before ++ replaced) ++ kept)) to ∙ drop-append_seam (before ++ replaced) kept in
    let long : length old ≡ length before + length replaced + length kept = ap length w.cut ∙ omega (arith, length-append before (replaced ++ kept), length-append replaced kept) in
    let begins = w.begins in
    let ends = w.ends in
    let is : (nat_le hunk.from hunk.to && nat_le hunk.to (length old)) ≡ true = grind (arith, nat_tests) in
    rw is (
    ap (option_map (λ edited. edited ++ (hunk.text ++ concat (drop hunk.to old)))) (ap (applied_to hunks) front ∙ applied-of hunks before w.edited w.above)
    ∙ ap (λ ls. Some (w.edited ++ (hunk.text ++ concat ls))) back ∙ ap (λ (x : List ℕ). Some x) (sym w.whole))

pub agree : (old : List ℕ) (script : Script) (new : List ℕ) → (applied old script ≡ Some new) ↔ edited old script new
unfolding applied
agree old script new = ((λ e. edits-of script.hunks (file_lines old) new e), (λ w. applied-of script.hunks (file_lines old) new w))
