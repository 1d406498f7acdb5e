-- Lines of a text, in a row.
use Rattle.std.proofs.Common.{◌≡◌, ℕ, List, [], ◌∷◌, ◌++◌, append_assoc, append-nil, ap, ◌∙◌}

pub one_field : (head a : List ℕ) → (head ++ a) ++ 10 ∷ [] ≡ head ++ ((a ++ []) ++ 10 ∷ [])
one_field head a = simp (append_assoc, append-nil)

pub two_fields : (head a b : List ℕ) → ((head ++ a) ++ b) ++ 10 ∷ [] ≡ head ++ ((a ++ (b ++ [])) ++ 10 ∷ [])
two_fields head a b = simp (append_assoc, append-nil)

pub four_fields : (head a b c d : List ℕ) → ((((head ++ a) ++ b) ++ c) ++ d) ++ 10 ∷ [] ≡ head ++ ((a ++ (b ++ (c ++ (d ++ [])))) ++ 10 ∷ [])
four_fields head a b c d = simp (append_assoc, append-nil)

-- four fields appended one by one
pub four_puts : (head a b c d t0 t1 t2 t3 t4 t5 : List ℕ) → t0 ≡ head → t1 ≡ t0 ++ a → t2 ≡ t1 ++ b → t3 ≡ t2 ++ c → t4 ≡ t3 ++ d → t5 ≡ t4 ++ 10 ∷ [] → t5 ≡ head ++ ((a ++ (b ++ (c ++ (d ++ [])))) ++ 10 ∷ [])
four_puts head a b c d t0 t1 t2 t3 t4 t5 e0 e1 e2 e3 e4 e5 =
    let first : t1 ≡ head ++ a = e1 ∙ ap (λ (t : List ℕ). t ++ a) e0 in
    let second : t2 ≡ (head ++ a) ++ b = e2 ∙ ap (λ (t : List ℕ). t ++ b) first in
    let third : t3 ≡ ((head ++ a) ++ b) ++ c = e3 ∙ ap (λ (t : List ℕ). t ++ c) second in
    let fourth : t4 ≡ (((head ++ a) ++ b) ++ c) ++ d = e4 ∙ ap (λ (t : List ℕ). t ++ d) third in
    e5 ∙ ap (λ (t : List ℕ). t ++ 10 ∷ []) fourth ∙ four_fields head a b c d

pub ruleset regroup = (one_field, two_fields, four_fields, append_assoc, append-nil)
