-- List names tell sound URIs apart.
use Rattle.std.proofs.Common.{◌≡◌, ℕ, ◌/◌, ◌%◌, ◌≤◌, ◌⊎◌, inl, inr, Bool, true, false, ◌||◌, ◌==◌, cond, List, [], ◌∷◌, ◌++◌, length, codes, flat_map, refl, sym, ap, ◌∙◌, subst, length-append, arith}
use Rattle.std.specs.List.{list_any}
use Rattle.std.specs.Fmt.{digit_glyph}
use Rattle.std.proofs.lemmas.Bool.{cases_Bool, cases_eq, cond-true, cond-false, both_ways, eq-eqb, ne_eqb, eqb-false}
use Rattle.std.proofs.lemmas.Bool.Decides.{nat_tests}
use Rattle.acq_base.specs.Uri.{is_alphanumeric, name_byte}

-- ---- one escape

abbrev stays : ℕ → Bool
stays c = is_alphanumeric c || list_any (λ d. c == d) (codes ".-+:")

abbrev escape : ℕ → List ℕ
escape c = 37 ∷ digit_glyph false (c / 16) ∷ digit_glyph false (c % 16) ∷ []

-- what stands for a byte, by its kind
record IsSlash (c : ℕ) (out : List ℕ) : Type 0 where
  same : c ≡ 47
  is : out ≡ 95 ∷ []

record IsStaying (c : ℕ) (out : List ℕ) : Type 0 where
  kept : stays c ≡ true
  is : out ≡ c ∷ []

record IsEscaped (c : ℕ) (out : List ℕ) : Type 0 where
  is : out ≡ escape c

kinds : (c : ℕ) → IsSlash c (name_byte c) ⊎ (IsStaying c (name_byte c) ⊎ IsEscaped c (name_byte c))
kinds c =
    elim (cases_eq c 47) [
      | inl same ↦ inl (record { same = same; is = cond-true (c == 47) (95 ∷ []) _ (eq-eqb c 47 same) })
      | inr other ↦ (let first = cond-false (c == 47) (95 ∷ []) (cond (stays c) (c ∷ []) (escape c)) (ne_eqb c 47 other) in
          elim (cases_Bool (stays c)) [
            | inl kept ↦ inr (inl (record { kept = kept; is = first ∙ cond-true (stays c) (c ∷ []) (escape c) kept }))
            | inr none ↦ inr (inr (record { is = first ∙ cond-false (stays c) (c ∷ []) (escape c) none }))
          ])
    ]

glyph_injective : (a b : ℕ) → digit_glyph false a ≡ digit_glyph false b → a ≡ b
glyph_injective a b e = grind (arith, nat_tests)

whole : (c d : ℕ) → c / 16 ≡ d / 16 → c % 16 ≡ d % 16 → c ≡ d
whole c d high low = omega arith

head_of : (a b : ℕ) (xs ys : List ℕ) → a ∷ xs ≡ b ∷ ys → a ≡ b
head_of a b xs ys e = cc

tail_of : (a b : ℕ) (xs ys : List ℕ) → a ∷ xs ≡ b ∷ ys → xs ≡ ys
tail_of a b xs ys e = cc

not_kept : (c k : ℕ) → stays k ≡ false → stays c ≡ true → c ≡ k → ⊥
not_kept c k none kept same = both_ways (stays k) none (subst (λ x. stays x ≡ true) same kept)

escapes : (c d : ℕ) (xs ys : List ℕ) → escape c ++ xs ≡ escape d ++ ys → (c ≡ d) × (xs ≡ ys)
escapes c d xs ys e =
    let first = tail_of 37 37 _ _ e in
    let second = tail_of (digit_glyph false (c / 16)) (digit_glyph false (d / 16)) _ _ first in
    let high = glyph_injective (c / 16) (d / 16) (head_of (digit_glyph false (c / 16)) (digit_glyph false (d / 16)) _ _ first) in
    let low = glyph_injective (c % 16) (d % 16) (head_of (digit_glyph false (c % 16)) (digit_glyph false (d % 16)) _ _ second) in
    (whole c d high low, tail_of (digit_glyph false (c % 16)) (digit_glyph false (d % 16)) _ _ second)

-- the first cell of what stands for a byte decides the byte
apart : (c d : ℕ) (a b xs ys : List ℕ) → IsSlash c a ⊎ (IsStaying c a ⊎ IsEscaped c a) → IsSlash d b ⊎ (IsStaying d b ⊎ IsEscaped d b) → a ++ xs ≡ b ++ ys → (c ≡ d) × (xs ≡ ys)
apart c d a b xs ys (inl h) (inl k) e =
    let both = rw (h.is, k.is) at e in (h.same ∙ sym k.same, tail_of 95 95 xs ys both)
apart c d a b xs ys (inl h) (inr (inl k)) e = let both = rw (h.is, k.is) at e in absurd (not_kept d 95 refl k.kept (sym (head_of 95 d xs ys both)))
apart c d a b xs ys (inl h) (inr (inr k)) e = let both = rw (h.is, k.is) at e in absurd (eqb-false 95 37 refl (head_of 95 37 xs _ both))
apart c d a b xs ys (inr (inl h)) (inl k) e = let both = rw (h.is, k.is) at e in absurd (not_kept c 95 refl h.kept (head_of c 95 xs ys both))
apart c d a b xs ys (inr (inl h)) (inr (inl k)) e = let both = rw (h.is, k.is) at e in (head_of c d xs ys both, tail_of c d xs ys both)
apart c d a b xs ys (inr (inl h)) (inr (inr k)) e = let both = rw (h.is, k.is) at e in absurd (not_kept c 37 refl h.kept (head_of c 37 xs _ both))
apart c d a b xs ys (inr (inr h)) (inl k) e = let both = rw (h.is, k.is) at e in absurd (eqb-false 37 95 refl (head_of 37 95 _ ys both))
apart c d a b xs ys (inr (inr h)) (inr (inl k)) e = let both = rw (h.is, k.is) at e in absurd (not_kept d 37 refl k.kept (sym (head_of 37 d _ ys both)))
apart c d a b xs ys (inr (inr h)) (inr (inr k)) e = let both = rw (h.is, k.is) at e in escapes c d xs ys both

some_out : (c : ℕ) (a : List ℕ) → IsSlash c a ⊎ (IsStaying c a ⊎ IsEscaped c a) → 1 ≤ length a
some_out c a (inl h) = omega (arith, ap length h.is)
some_out c a (inr (inl h)) = omega (arith, ap length h.is)
some_out c a (inr (inr h)) = omega (arith, ap length h.is)

-- ---- whole texts

flat_injective : (f : ℕ → List ℕ) → ((c d : ℕ) (xs ys : List ℕ) → f c ++ xs ≡ f d ++ ys → (c ≡ d) × (xs ≡ ys)) → ((c : ℕ) → 1 ≤ length (f c)) → (xs ys : List ℕ) → flat_map f xs ≡ flat_map f ys → xs ≡ ys
flat_injective f first some [] [] e = refl
flat_injective f first some [] (y ∷ ys) e = absurd (omega (arith, ap length e, length-append (f y) (flat_map f ys), some y))
flat_injective f first some (x ∷ xs) [] e = absurd (omega (arith, ap length e, length-append (f x) (flat_map f xs), some x))
flat_injective f first some (x ∷ xs) (y ∷ ys) e =
    let parts = first x y (flat_map f xs) (flat_map f ys) e in
    let rest = flat_injective f first some xs ys parts.1 in
    (ap (λ c. c ∷ xs) parts.0) ∙ ap (λ l. y ∷ l) rest

-- no two texts are escaped alike
pub escaped_injective : (xs ys : List ℕ) → flat_map name_byte xs ≡ flat_map name_byte ys → xs ≡ ys
escaped_injective = flat_injective name_byte (λ c d xs ys e. apart c d (name_byte c) (name_byte d) xs ys (kinds c) (kinds d) e) (λ c. some_out c (name_byte c) (kinds c))
