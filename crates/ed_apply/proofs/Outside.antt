-- A sound script is refused exactly where it makes no file, at the first hunk that reaches too far.
use Rattle.std.proofs.Common.{◌≡◌, ◌∙◌, ◌↔◌, ℕ, zero, suc, ◌<◌, ◌≤◌, ◌&&◌, nat_le, true, false, List, [], ◌∷◌, ◌++◌, length, take, drop, Option, Some, None, inl, inr, refl, sym, ap, subst, arith}
use Rattle.std.specs.Prelude.{All, option_map, IsSome}
use Rattle.std.specs.List.{concat}
use Rattle.std.proofs.lemmas.Bool.{cases_Bool}
use Rattle.std.proofs.lemmas.Bool.Decides.{nat_tests}
use Rattle.std.proofs.lemmas.List.{length-take-le}
use Rattle.ed_apply.specs.Edits.{IsSoundHunk, GoesDown, IsSound, IsFirstOutside, applied_to, applied, file_lines, first_outside, refusal}
use Rattle.ed_apply.specs.Segments.{FirstFits}
use Rattle.ed_apply.specs.declared.script.Hunk.{Hunk}
use Rattle.ed_apply.specs.declared.script.Script.{Script}
use Rattle.ed_apply.specs.declared.error.ApplyError.{ApplyError}
use Rattle.ed_apply.specs.declared.error.ApplyError.TheVariants.{Outside}

head-sound : (hunk : Hunk) (hunks : List Hunk) → All IsSoundHunk (hunk ∷ hunks) → IsSoundHunk hunk
head-sound hunk hunks all = all 0 hunk (omega arith)

tail-sound : (hunk : Hunk) (hunks : List Hunk) → All IsSoundHunk (hunk ∷ hunks) → All IsSoundHunk hunks
tail-sound hunk hunks all = λ k d within. all (suc k) d (omega arith)

-- the hunks behind one that is within a file's lines are within the lines before it
next-fits : (hunk : Hunk) (hunks : List Hunk) → GoesDown (hunk ∷ hunks) → FirstFits hunk.from hunks
next-fits hunk [] down = tt
next-fits hunk (next ∷ more) down = down.0

next-down : (hunk : Hunk) (hunks : List Hunk) → GoesDown (hunk ∷ hunks) → GoesDown hunks
next-down hunk [] down = tt
next-down hunk (next ∷ more) down = down.1

lower-fits : (a b : ℕ) (hunks : List Hunk) → a ≤ b → FirstFits a hunks → FirstFits b hunks
lower-fits a b [] h fits = tt
lower-fits a b (hunk ∷ hunks) h fits = omega (arith, fits)

mapped : (f : List ℕ → List ℕ) (o : Option (List ℕ)) (x : List ℕ) → o ≡ Some x → option_map f o ≡ Some (f x)
mapped f o x e = ap (option_map f) e

-- hunks the first of which is within the file make a file
makes : (hunks : List Hunk) (old : List (List ℕ)) → All IsSoundHunk hunks → GoesDown hunks → FirstFits (length old) hunks → (new : List ℕ) × (applied_to hunks old ≡ Some new)
makes [] old all down fits = (concat old, refl)
makes (hunk ∷ hunks) old all down fits =
    let order = (head-sound hunk hunks all).order in
    let front : length (take hunk.from old) ≡ hunk.from = length-take-le hunk.from old (omega (arith, order, fits)) in
    let more = makes hunks (take hunk.from old) (tail-sound hunk hunks all) (next-down hunk hunks down) (subst (λ n. FirstFits n hunks) (sym front) (next-fits hunk hunks down)) in
    let tests : (nat_le hunk.from hunk.to && nat_le hunk.to (length old)) ≡ true = grind (arith, nat_tests, order, fits) in
    (more.0 ++ (hunk.text ++ concat (drop hunk.to old)), rw tests (mapped (λ edited. edited ++ (hunk.text ++ concat (drop hunk.to old))) (applied_to hunks (take hunk.from old)) more.0 more.1))

-- and none of them reaches beyond it
within : (hunks : List Hunk) (count : ℕ) → All IsSoundHunk hunks → GoesDown hunks → FirstFits count hunks → first_outside count hunks ≡ None
within [] count all down fits = refl
within (hunk ∷ hunks) count all down fits =
    let order = (head-sound hunk hunks all).order in
    let test : nat_le hunk.to count ≡ true = grind (arith, nat_tests, fits) in
    rw test (within hunks count (tail-sound hunk hunks all) (next-down hunk hunks down) (lower-fits hunk.from count hunks (omega (arith, order, fits)) (next-fits hunk hunks down)))

abbrev Alike : List Hunk → List (List ℕ) → Type 0
Alike hunks old = (applied_to hunks old ≡ None) ↔ IsSome (first_outside (length old) hunks)

both-some : (hunks : List Hunk) (old : List (List ℕ)) (new : List ℕ) → applied_to hunks old ≡ Some new → first_outside (length old) hunks ≡ None → Alike hunks old
both-some hunks old new is none = ((λ e. absurd (cc)), (λ some. let no : false ≡ true = subst (λ (o : Option ApplyError). IsSome o) none some in absurd (cc)))

alike : (hunks : List Hunk) (old : List (List ℕ)) → All IsSoundHunk hunks → GoesDown hunks → Alike hunks old
alike [] old all down = both-some [] old (concat old) refl refl
alike (hunk ∷ hunks) old all down =
    elim (cases_Bool (nat_le hunk.to (length old))) [
      | inl is ↦
          let fits : hunk.to ≤ length old = grind (arith, nat_tests) in
          let made = makes (hunk ∷ hunks) old all down fits in
          both-some (hunk ∷ hunks) old made.0 made.1 (within (hunk ∷ hunks) (length old) all down fits)
      | inr isnt ↦
          let test : (nat_le hunk.from hunk.to && nat_le hunk.to (length old)) ≡ false = grind (arith, nat_tests) in
          let none : applied_to (hunk ∷ hunks) old ≡ None = rw test refl in
          let some : first_outside (length old) (hunk ∷ hunks) ≡ Some (Outside hunk.at) = rw isnt refl in
          ((λ e. subst (λ (o : Option ApplyError). IsSome o) (sym some) refl), (λ h. none))
    ]

pub none-applied : (old : List ℕ) (script : Script) → IsSound script → (applied old script ≡ None) ↔ IsSome (refusal old script)
unfolding applied refusal
none-applied old script sound = alike script.hunks (file_lines old) sound.hunks sound.order

-- ---- the first

abbrev at_line : ℕ → Option ApplyError
at_line at = Some (Outside at)

found : (count : ℕ) (hunks : List Hunk) (at : ℕ) → first_outside count hunks ≡ at_line at → IsFirstOutside count hunks at
found count [] at e = absurd (cc)
found count (hunk ∷ hunks) at e =
    elim (cases_Bool (nat_le hunk.to count)) [
      | inl is ↦
          let fits : hunk.to ≤ count = grind (arith, nat_tests) in
          let more = found count hunks at (rw is at e) in
          record {
            before = hunk ∷ more.before;
            hunk = more.hunk;
            behind = more.behind;
            cut = ap (λ (hs : List Hunk). hunk ∷ hs) more.cut;
            inside = longer hunk more.before fits more.inside;
            beyond = more.beyond;
            line = more.line;
          }
      | inr isnt ↦
          let beyond : count < hunk.to = grind (arith, nat_tests) in
          let here : at_line hunk.at ≡ at_line at = rw isnt at e in
          record { before = []; hunk = hunk; behind = hunks; cut = refl; inside = λ k d h. absurd (omega arith); beyond = beyond; line = cc }
    ]
  where
    longer : (h : Hunk) (hs : List Hunk) → h.to ≤ count → All (λ (x : Hunk). x.to ≤ count) hs → All (λ (x : Hunk). x.to ≤ count) (h ∷ hs)
    longer h hs first rest zero d below = first
    longer h hs first rest (suc k) d below = rest k d (omega (arith, below))

finds : (count : ℕ) (before : List Hunk) (hunk : Hunk) (behind : List Hunk) → All (λ (h : Hunk). h.to ≤ count) before → count < hunk.to
    → first_outside count (before ++ hunk ∷ behind) ≡ at_line hunk.at
finds count [] hunk behind inside beyond = let test : nat_le hunk.to count ≡ false = grind (arith, nat_tests) in rw test refl
finds count (h ∷ hs) hunk behind inside beyond =
    let fits : h.to ≤ count = inside 0 h (omega arith) in
    let test : nat_le h.to count ≡ true = grind (arith, nat_tests) in
    rw test (finds count hs hunk behind (λ k d below. inside (suc k) d (omega arith)) beyond)

pub first-outside : (old : List ℕ) (script : Script) (at : ℕ) → (refusal old script ≡ Some (Outside at)) ↔ IsFirstOutside (length (file_lines old)) script.hunks at
unfolding refusal
first-outside old script at =
    let count = length (file_lines old) in (
      (λ e. found count script.hunks at e),
      (λ w. ap (first_outside count) w.cut ∙ finds count w.before w.hunk w.behind w.inside w.beyond ∙ ap at_line w.line),
    )
