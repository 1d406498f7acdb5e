-- How many verdicts tell a new set.
use Rattle.std.proofs.Common.{◌≡◌, ◌∙◌, ℕ, suc, ◌+◌, Bool, true, false, not, cond, List, [], ◌∷◌, length, Some, Ok, Err, refl, sym, ap, arith}
use Rattle.std.specs.Prelude.{if◌then◌else◌, slice_get}
use Rattle.std.specs.List.{count_by}
use Rattle.std.proofs.lemmas.List.Sums.{sum_by-cons}
use Rattle.acq_base.specs.declared.installed.Old.{Old}
use Rattle.acq_base.specs.declared.plan.Source.{Source}
use Rattle.board_model.specs.Changes.{IsInstalled}
use Rattle.board_model.specs.Ends.{verdict_for}
use Rattle.board_model.specs.Laws.{SetsThereAreHeld}
use Rattle.board_model.specs.Settling.{held_of}
use Rattle.board_model.specs.Slots.{is_there}
use Rattle.generated_days.specs.Days.{is_gotten}
use Rattle.run_model.specs.Runs.{is_installed}
use Rattle.update_model.specs.Outcomes.{Directory, Outcome, Older, Kept}
use Rattle.update_model.specs.declared.settled.Held.{Held}
use Rattle.update_model.specs.declared.settled.Verdict2.{Verdict2}
use Rattle.update_model.specs.declared.settled.Verdict2.TheVariants.{Hit, Installed}

pub installed-is : SetsThereAreHeld → (source : Source) (old : Old) (dir : Directory) → IsInstalled source old dir → (o : Outcome) → is_installed (verdict_for source old o) ≡ is_gotten dir source o
installed-is law source old dir installed (Ok set) =
    by (is_there source old set) (held_of source set) ∙ ap not (law dir source old set installed.release installed.lists)
  where
    by : (there : Bool) (held : Held) → is_installed (if there then Hit held else Installed held) ≡ not there
    by true held = refl
    by false held = refl
installed-is law source old dir installed (Err (Older date)) = refl
installed-is law source old dir installed (Err (Kept cause)) = refl

-- a source's verdict, and whether that tells a new set
abbrev pub Tells : (Source → Bool) → List Verdict2 → ℕ → Source → Type 0
Tells g verdicts n source = (verdict : Verdict2) × (slice_get verdicts n ≡ Some verdict) × (is_installed verdict ≡ g source)

pub count-verdicts : (g : Source → Bool) (sources : List Source) (verdicts : List Verdict2) → length verdicts ≡ length sources
    → ((n : ℕ) (source : Source) → slice_get sources n ≡ Some source → Tells g verdicts n source) → count_by is_installed verdicts ≡ count_by g sources
count-verdicts g [] [] same each = refl
count-verdicts g [] (v ∷ verdicts) same each = absurd (omega (arith, same))
count-verdicts g (s ∷ sources) [] same each = absurd (omega (arith, same))
count-verdicts g (s ∷ sources) (v ∷ verdicts) same each =
    let first = each 0 s refl in
    let at : v ≡ first.0 = some-once v first.0 first.1 in
    let here : is_installed v ≡ g s = ap is_installed at ∙ first.2 in
    let rest = count-verdicts g sources verdicts (omega (arith, same)) (λ n source is. each (suc n) source is) in
    sum_by-cons (λ (x : Verdict2). cond (is_installed x) 1 0) v verdicts
    ∙ sum-up _ _ _ _ (ap (λ (b : Bool). cond b 1 0) here) rest
    ∙ sym (sum_by-cons (λ (x : Source). cond (g x) 1 0) s sources)
  where
    some-once : (a b : Verdict2) → Some a ≡ Some b → a ≡ b
    some-once a b e = cc

    sum-up : (a b c d : ℕ) → a ≡ c → b ≡ d → a + b ≡ c + d
    sum-up a b c d same other = omega (arith, same, other)
