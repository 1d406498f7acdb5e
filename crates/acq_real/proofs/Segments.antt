-- What the tests of names say of them.
use Rattle.std.proofs.Common.{rules, ◌≡◌, ◌∙◌, sym, subst, ap, refl, inl, inr, ℕ, Bool, List, ◌++◌, drop, eqb, Contains, codes}
use Rattle.std.specs.Bool.{Decides}
use Rattle.std.specs.List.{IsAnyAnswer}
use Rattle.std.proofs.lemmas.Bool.Decides.{Decides-eqb}
use Rattle.std.proofs.lemmas.List.Elements.{contains_decides, Decides-contains, Contains-append_left}
use Rattle.acq_real.specs.Folder.{IsSegment, IsInside}

-- `contains` at bytes
pub has_decides : (xs : List ℕ) (x : ℕ) (r : Bool) → IsAnyAnswer (λ y b. eqb y x ≡ b) xs r → Decides r (Contains xs x)
has_decides xs x r h = Decides-contains xs x r (contains_decides eqb Decides-eqb xs x r h)

slash_before : (file : List ℕ) → Contains (codes "partial/" ++ file) 47
slash_before file = Contains-append_left (codes "partial/") file 47 (7, search rules, refl)

inside-behind : (name file : List ℕ) → name ≡ codes "partial/" ++ file → IsInside name → IsSegment file
inside-behind name file e (inl named) = absurd (named.0.no_slash (subst (λ n. Contains n 47) (sym e) (slash_before file)))
inside-behind name file e (inr named) =
    let same : named.0 ≡ file = ap (drop 8) (sym named.1 ∙ e) in
    subst (λ n. IsSegment n) same named.2

-- a name behind `partial/` is inside just where it is one segment
pub inside_behind : (name file : List ℕ) (r : Bool) → name ≡ codes "partial/" ++ file → Decides r (IsSegment file) → Decides r (IsInside name)
inside_behind name file r e segment = ((λ yes. inr (file, e, segment.0 yes)), (λ inside. segment.1 (inside-behind name file e inside)))
