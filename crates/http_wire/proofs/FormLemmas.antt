use Rattle.std.proofs.Common.{◌≡◌, ℕ, inl, inr, ⊎_elim, Bool, true, false, List, [], ◌∷◌, ◌++◌, length, drop, arith, sym, ap, ◌∙◌, refl, subst, append_assoc, length-append}
use Rattle.std.specs.List.{list_any}
use Rattle.std.proofs.lemmas.Bool.{cases_lt}
use Rattle.std.proofs.lemmas.List.{same_from_push, append_cancel_left}
use Rattle.http_wire.specs.Forms.{Form, Whole, HasNone, Never, is_line_feed, Unfinished, Bad}
use Rattle.http_wire.specs.Steps.{IsFront}
use Rattle.http_wire.proofs.Lists.{front_of, beyond, snoc, has_feed}

-- what the laws of reading rest on: a text has one value, which ends in a line feed; and a value within the limits doesn't
-- go beyond a text that passes them
pub record Facts {V : Type 0} (form : Form V) : Type 0 where
  pub unique : (v w : V) (r q : List ℕ) → form.valid v → form.valid w → form.print v ++ r ≡ form.print w ++ q → (v ≡ w) × (r ≡ q)
  pub ends : (v : V) → (front : List ℕ) × (form.print v ≡ front ++ 10 ∷ [])
  pub inside : (v : V) (text more : List ℕ) (b : ℕ) → form.valid v → form.fits v → form.passes text → form.print v ≡ text ++ b ∷ more → ⊥
  pub grows : (text more : List ℕ) → form.passes text → form.passes (text ++ more)

-- a text begins with one value
pub one_whole : {V : Type 0} (form : Form V) → Facts form → (text : List ℕ) (v w : V) (r q : List ℕ) → Whole form text v r → Whole form text w q → (v ≡ w) × (r ≡ q)
one_whole form facts text v w r q a b = facts.unique v w r q a.valid b.valid (sym a.is ∙ b.is)

pub whole_more : {V : Type 0} (form : Form V) (text : List ℕ) (v : V) (rest more : List ℕ) → Whole form text v rest → Whole form (text ++ more) v (rest ++ more)
whole_more form text v rest more a = record { valid = a.valid; fits = a.fits; is = ap (λ t. t ++ more) a.is ∙ append_assoc (form.print v) rest more }

pub not_both : {V : Type 0} (form : Form V) (text : List ℕ) → Unfinished form text → Bad form text → ⊥
not_both form text a b = ⊎_elim (λ never. never a.may.0 a.may.1 [] a.may.2 a.may.3) (λ passes. a.within passes) b.why

-- no value comes of a text that can have none
none_more : {V : Type 0} (form : Form V) → Facts form → (text more : List ℕ) → Bad form text → HasNone form (text ++ more)
none_more {V} form facts text more bad v rest whole =
    ⊎_elim (λ never. never more v rest whole.valid whole.is) (λ passes. by_limit passes) bad.why
  where
    by_limit : form.passes text → ⊥
    by_limit passes =
        elim (cases_lt (length text) (length (form.print v))) [
          | inl longer ↦ (let past = beyond text more (form.print v) rest longer whole.is in facts.inside v text past.1 past.0 whole.valid whole.fits passes past.2)
          | inr within ↦ bad.none v (drop (length (form.print v)) text) (record { valid = whole.valid; fits = whole.fits; is = front_of text more (form.print v) rest within whole.is })
        ]

-- a text that can have no value stays so, whatever follows
pub bad_more : {V : Type 0} (form : Form V) → Facts form → (text more : List ℕ) → Bad form text → Bad form (text ++ more)
bad_more {V} form facts text more bad = record {
  none = none_more form facts text more bad;
  why = ⊎_elim (λ never. inl (never_more never)) (λ passes. inr (facts.grows text more passes)) bad.why;
}
  where
    never_more : Never form text → Never form (text ++ more)
    never_more never further v rest valid same = never (more ++ further) v rest valid (sym (append_assoc text more further) ∙ same)

-- a part of a line that hasn't ended makes no value whole
pub none_in_line : {V : Type 0} (form : Form V) → Facts form → (text front : List ℕ) → list_any is_line_feed front ≡ false → HasNone form text → HasNone form (text ++ front)
none_in_line {V} form facts text front line none v rest whole =
    elim (cases_lt (length text) (length (form.print v))) [
      | inl longer ↦ (let past = beyond text front (form.print v) rest longer whole.is in
          let last = facts.ends v in
          let ends = snoc past.0 past.1 in
          let same : last.0 ++ 10 ∷ [] ≡ (text ++ ends.0) ++ ends.1 ∷ [] = sym last.1 ∙ past.2 ∙ ap (λ t. text ++ t) ends.2 ∙ sym (append_assoc text ends.0 (ends.1 ∷ [])) in
          let feed = (same_from_push last.0 (text ++ ends.0) 10 ends.1 same).1 in
          absurd (in_front text front (form.print v) rest past.0 past.1 ends.0 ends.1 past.2 ends.2 whole.is line (sym feed)))
      | inr within ↦ none v (drop (length (form.print v)) text) (record { valid = whole.valid; fits = whole.fits; is = front_of text front (form.print v) rest within whole.is })
    ]
  where
    in_front : (text front print rest : List ℕ) (x : ℕ) (more a : List ℕ) (y : ℕ) → print ≡ text ++ x ∷ more → x ∷ more ≡ a ++ y ∷ [] → text ++ front ≡ print ++ rest → list_any is_line_feed front ≡ false → y ≡ 10 → ⊥
    in_front text front print rest x more a y is last whole line feed =
        let inside : front ≡ (x ∷ more) ++ rest = append_cancel_left text front ((x ∷ more) ++ rest) (whole ∙ ap (λ t. t ++ rest) is ∙ append_assoc text (x ∷ more) rest) in
        let any : list_any is_line_feed front ≡ true = ap (list_any is_line_feed) (inside ∙ ap (λ t. t ++ rest) (last ∙ ap (λ z. a ++ z ∷ []) feed)) ∙ has_feed a rest in
        cc

nothing : (rest : List ℕ) → length rest ≡ 0 → rest ≡ []
nothing [] none = refl
nothing (x ∷ rest) none = absurd (omega arith)

-- a value that the end of a line makes whole ends with it
pub whole_here : {V : Type 0} (form : Form V) → Facts form → (text line : List ℕ) (v : V) (rest : List ℕ) → list_any is_line_feed line ≡ false → HasNone form text → Whole form (text ++ (line ++ 10 ∷ [])) v rest → rest ≡ []
whole_here form facts text line v rest plain none whole =
    let before = none_in_line form facts text line plain none in
    let split : (text ++ line) ++ 10 ∷ [] ≡ form.print v ++ rest = append_assoc text line (10 ∷ []) ∙ whole.is in
    elim (cases_lt (length (text ++ line)) (length (form.print v))) [
      | inl longer ↦ (let e : length ((text ++ line) ++ 10 ∷ []) ≡ length (form.print v ++ rest) = ap length split in
          let a = length-append (text ++ line) (10 ∷ []) in
          let b = length-append (form.print v) rest in
          nothing rest (omega (arith, e, a, b, longer)))
      | inr within ↦ absurd (before v (drop (length (form.print v)) (text ++ line)) (record { valid = whole.valid; fits = whole.fits; is = front_of (text ++ line) (10 ∷ []) (form.print v) rest within split }))
    ]

-- a value that further bytes make whole ends with them, where no line feed stands before their end
pub whole_front : {V : Type 0} (form : Form V) → Facts form → (ends : Bool) (text front : List ℕ) (v : V) (rest : List ℕ) → IsFront ends front → HasNone form text → Whole form (text ++ front) v rest → rest ≡ []
whole_front form facts true text front v rest line none whole =
    whole_here form facts text line.0 v rest line.2 none (subst (λ z. Whole form (text ++ z) v rest) line.1 whole)
whole_front form facts false text front v rest line none whole = absurd (none_in_line form facts text front line none v rest whole)
