-- That an edit began with a file is one fact, however it is shown.
use Rattle.std.proofs.Common.{◌≡◌, ◌∙◌, ℕ, List, [], ◌∷◌, ◌++◌, inl, inr, sym, ap}
use Rattle.std.proofs.Props.{props}
use Rattle.std.proofs.lemmas.List.{append_cancel_right}
use mathlib.Core.HLevel.{Σ_prop_path}
use Rattle.ed_apply.specs.Edits.{IsWholeLines}
use Rattle.ed_apply.specs.Files.{IsOf}
use Rattle.ed_apply.specs.Segments.{AreBelow}
use Rattle.ed_apply.specs.declared.edit.Edit.{Edit}

texts-set : IsSet (List ℕ)
texts-set = hlevel props

not-empty : (text front : List ℕ) → text ≡ [] → text ≡ front ++ 10 ∷ [] → ⊥
not-empty text [] a b = cc
not-empty text (c ∷ front) a b = cc

whole-prop : (text : List ℕ) → IsProp (IsWholeLines text)
whole-prop text (inl a) (inl b) = ap (λ (p : text ≡ []). inl p) (texts-set text [] a b)
whole-prop text (inl a) (inr b) = absurd (not-empty text b.0 a b.1)
whole-prop text (inr a) (inl b) = absurd (not-empty text a.0 b a.1)
whole-prop text (inr a) (inr b) =
    ap (λ (p : (front : List ℕ) × (text ≡ front ++ 10 ∷ [])). inr p)
    (Σ_prop_path (λ (front : List ℕ). texts-set text (front ++ 10 ∷ [])) (append_cancel_right a.0 b.0 (10 ∷ []) (sym a.1 ∙ b.1)))

below-prop : (count : ℕ) (ns : List ℕ) → IsProp (AreBelow count ns)
below-prop count [] = hlevel props
below-prop count (n ∷ ns) = hlevel (below-prop count ns, props)

pub begun-prop : (edit : Edit) (old : List ℕ) → IsProp (IsOf edit old)
begun-prop edit old = hlevel (whole-prop, below-prop, props)
