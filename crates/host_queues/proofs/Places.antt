-- The places of hosts, one more host at a time.
use Rattle.std.proofs.Common.{◌≡◌, ◌∙◌, ℕ, cond, List, Option, Some, refl, sym, ap, inl, inr}
use Rattle.std.specs.Prelude.{bytes_eq, if◌then◌else◌, unwrap_or}
use Rattle.std.proofs.Math.Path.{fun_ext}
use Rattle.std.proofs.lemmas.Slice.Eq.{bytes_eq-Decides}
use Rattle.std.proofs.lemmas.Bool.{cases_Bool}
use Rattle.std.proofs.lemmas.Map.Text.{is_eq-slice_cmp}
use Rattle.std.specs.Cmp.Lexicographic.{slice_cmp}
use Rattle.std.specs.Ordering.{nat_cmp, is_eq}

-- a host that was seen keeps its place, and so does each other
same-at : (places : List ℕ → Option ℕ) (seen place : ℕ) (host other : List ℕ) → places host ≡ Some place
    → places other ≡ (if bytes_eq host other then Some (unwrap_or (places host) seen) else places other)
same-at places seen place host other there =
    elim (cases_Bool (bytes_eq host other)) [
      | inl is ↦ ap places (sym ((bytes_eq-Decides host other).0 is)) ∙ there ∙ ap (λ (p : Option ℕ). Some (unwrap_or p seen)) (sym there) ∙ rw is refl
      | inr isnt ↦ rw isnt refl
    ]

pub same-places : (places : List ℕ → Option ℕ) (seen place : ℕ) (host : List ℕ) → places host ≡ Some place
    → places ≡ (λ other. if bytes_eq host other then Some (unwrap_or (places host) seen) else places other)
same-places places seen place host there = fun_ext (λ other. same-at places seen place host other there)

-- what a map has for a host once another is put into it
pub inserted : {now : Option ℕ} (before : Option ℕ) (host other key : List ℕ) (at place : ℕ) → key ≡ host → at ≡ place
    → now ≡ cond (is_eq (slice_cmp nat_cmp key other)) (Some at) before
    → now ≡ (if bytes_eq host other then Some place else before)
inserted before host other key at place is here e =
    e ∙ ap (λ b. cond b (Some at) before) (is_eq-slice_cmp key other) ∙ ap (λ (k : List ℕ). cond (bytes_eq k other) (Some at) before) is ∙ ap (λ (p : ℕ). cond (bytes_eq host other) (Some p) before) here
