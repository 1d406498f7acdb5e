-- Where a text is cut at a byte, by memchr's words and by std's, and lines by their line feeds.
use Rattle.std.proofs.Common.{◌≡◌, ◌⊎◌, ℕ, zero, suc, ◌+◌, ◌-◌, ◌<◌, true, false, not, List, [], ◌∷◌, ◌++◌, length, take, drop, get_or, Option, Some, None, inl, inr, refl, sym, ap, subst, ◌∙◌, append_assoc, append-nil, arith, rules}
use Rattle.std.specs.Prelude.{is_none}
use Rattle.std.specs.List.{list_any, position_or_len, before_first, after_first}
use Rattle.std.proofs.lemmas.Bool.{cases_lt, false_from_ne_true, or_parts, not-true, false≢true}
use Rattle.std.proofs.lemmas.List.{take_at, drop_at, drop_all, drop-drop, length-append, get_or_at, get_or-append_right}
use Rattle.std.proofs.lemmas.Bool.Decides.{nat_tests}
use Rattle.memchr.specs.Find.{IsFirstByte, IsLastByte, is_byte}
use Rattle.method_messages.specs.Lines.{is_feed, is_line, ended, is_name, is_field}
use Rattle.method_messages.specs.Within.{IsNextFeed}

-- ---- the first such byte

place-some : (byte : ℕ) (text : List ℕ) (n : ℕ) → IsFirstByte (is_byte byte) text (Some n) → position_or_len (is_byte byte) text ≡ n
place-some byte [] n first = absurd (omega (arith, first.0.high))
place-some byte (c ∷ text) zero first = let here : is_byte byte c ≡ true = first.1 in rw here refl
place-some byte (c ∷ text) (suc n) first =
    let there : is_byte byte c ≡ false = false_from_ne_true (is_byte byte c) (first.0.before 0 (omega arith) (omega arith)) in
    let rest = place-some byte text n (record { low = omega arith; high = omega (arith, first.0.high); before = λ k low high. first.0.before (suc k) (omega arith) (omega arith) }, first.1) in
    rw there (ap (λ k. 1 + k) rest ∙ omega arith)

place-none : (byte : ℕ) (text : List ℕ) → IsFirstByte (is_byte byte) text None → position_or_len (is_byte byte) text ≡ length text
place-none byte [] none = refl
place-none byte (c ∷ text) none =
    let there : is_byte byte c ≡ false = false_from_ne_true (is_byte byte c) (none 0 (omega arith) (omega arith)) in
    rw there (ap (λ k. 1 + k) (place-none byte text (λ k low high. none (suc k) (omega arith) (omega arith))) ∙ omega arith)

-- none of a text's bytes passes where the first place is its length
plain-none : (byte : ℕ) (text : List ℕ) → IsFirstByte (is_byte byte) text None → list_any (is_byte byte) text ≡ false
plain-none byte [] none = refl
plain-none byte (c ∷ text) none =
    let there : is_byte byte c ≡ false = false_from_ne_true (is_byte byte c) (none 0 (omega arith) (omega arith)) in
    rw there (plain-none byte text (λ k low high. none (suc k) (omega arith) (omega arith)))

-- what stands before the first such byte, that byte, and what stands behind
abbrev Cut : ℕ → List ℕ → ℕ → Type 0
Cut byte text n = (front : List ℕ) × (behind : List ℕ) × (text ≡ front ++ byte ∷ behind) × (list_any (is_byte byte) front ≡ false) × (length front ≡ n)

cut-some : (byte : ℕ) (text : List ℕ) (n : ℕ) → IsFirstByte (is_byte byte) text (Some n) → Cut byte text n
cut-some byte [] n first = absurd (omega (arith, first.0.high))
cut-some byte (c ∷ text) zero first =
    let here : is_byte byte c ≡ true = first.1 in
    let same : c ≡ byte = search rules in
    ([], text, ap (λ d. d ∷ text) same, refl, refl)
cut-some byte (c ∷ text) (suc n) first =
    let there : is_byte byte c ≡ false = false_from_ne_true (is_byte byte c) (first.0.before 0 (omega arith) (omega arith)) in
    let rest = cut-some byte text n (record { low = omega arith; high = omega (arith, first.0.high); before = λ k low high. first.0.before (suc k) (omega arith) (omega arith) }, first.1) in
    (c ∷ rest.0, rest.1, ap (λ t. c ∷ t) rest.2, rw there rest.3, ap suc rest.4)

pub cut_front : (byte : ℕ) (text : List ℕ) (n : ℕ) → IsFirstByte (is_byte byte) text (Some n) → take n text ≡ before_first (is_byte byte) text
cut_front byte text n first = rw (place-some byte text n first) refl

pub cut_behind : (byte : ℕ) (text : List ℕ) (n : ℕ) → IsFirstByte (is_byte byte) text (Some n) → drop 1 (drop n text) ≡ after_first (is_byte byte) text
cut_behind byte text n first = rw (place-some byte text n first) (drop-drop 1 n text)

pub uncut_front : (byte : ℕ) (text : List ℕ) → IsFirstByte (is_byte byte) text None → take (length text) text ≡ before_first (is_byte byte) text
uncut_front byte text none = rw (place-none byte text none) refl

pub uncut_behind : (byte : ℕ) (text : List ℕ) → IsFirstByte (is_byte byte) text None → drop (length text) text ≡ after_first (is_byte byte) text
uncut_behind byte text none = rw (place-none byte text none) (drop_all (length text) text (omega arith) ∙ sym (drop_all (length text + 1) text (omega arith)))

pub ruleset cuts = (cut_front, cut_behind, uncut_front, uncut_behind)

-- some byte passes where there is a first
any-cut : (byte : ℕ) (text : List ℕ) (n : ℕ) → IsFirstByte (is_byte byte) text (Some n) → list_any (is_byte byte) text ≡ true
any-cut byte [] n first = absurd (omega (arith, first.0.high))
any-cut byte (c ∷ text) zero first = let here : is_byte byte c ≡ true = first.1 in rw here refl
any-cut byte (c ∷ text) (suc n) first =
    let there : is_byte byte c ≡ false = false_from_ne_true (is_byte byte c) (first.0.before 0 (omega arith) (omega arith)) in
    rw there (any-cut byte text n (record { low = omega arith; high = omega (arith, first.0.high); before = λ k low high. first.0.before (suc k) (omega arith) (omega arith) }, first.1))

-- ---- a text that is put together

own_byte : (byte : ℕ) → is_byte byte byte ≡ true
own_byte byte = grind (arith, nat_tests)

place-of : (byte : ℕ) (front behind : List ℕ) → list_any (is_byte byte) front ≡ false → position_or_len (is_byte byte) (front ++ byte ∷ behind) ≡ length front
place-of byte [] behind plain = rw (own_byte byte) refl
place-of byte (c ∷ front) behind plain =
    let parts = or_parts (is_byte byte c) (list_any (is_byte byte) front) plain in
    rw (parts.0) (ap (λ k. 1 + k) (place-of byte front behind parts.1) ∙ omega arith)

pub front_of : (byte : ℕ) (front behind : List ℕ) → list_any (is_byte byte) front ≡ false → before_first (is_byte byte) (front ++ byte ∷ behind) ≡ front
front_of byte front behind plain = rw (place-of byte front behind plain) (take_at front (byte ∷ behind) (length front) refl)

pub behind_of : (byte : ℕ) (front behind : List ℕ) → list_any (is_byte byte) front ≡ false → after_first (is_byte byte) (front ++ byte ∷ behind) ≡ behind
behind_of byte front behind plain =
    rw (place-of byte front behind plain, ← append_assoc front (byte ∷ []) behind) (drop_at (front ++ byte ∷ []) behind (length front + 1) (length-append front (byte ∷ [])))

-- ---- line feeds

pub next_feed_some : (text : List ℕ) (from n : ℕ) → IsFirstByte (is_byte 10) (drop from text) (Some n) → IsNextFeed text from (from + n)
next_feed_some text from n first =
    let cut = cut-some 10 (drop from text) n first in
    record { more = cut.0; behind = cut.1; split = cut.2; own = ap not cut.3; place = omega (arith, cut.4) }

pub next_feed_none : (text : List ℕ) (from : ℕ) → IsFirstByte (is_byte 10) (drop from text) None → is_line (drop from text) ≡ true
next_feed_none text from none = ap not (plain-none 10 (drop from text) none)

pub ruleset feeds = (next_feed_some, next_feed_none)

pub no_feed : (text : List ℕ) (r : Option ℕ) → IsFirstByte (is_byte 10) text r → is_none r ≡ is_line text
no_feed text None none = sym (ap not (plain-none 10 text none))
no_feed text (Some n) some = sym (ap not (any-cut 10 text n some))

pub ruleset lines = (no_feed)

-- ---- the last line

-- lines that have ended are none, or end in a line feed
pub ends_in_feed : (lines : List (List ℕ)) → (lines ≡ []) ⊎ ((front : List ℕ) × (ended lines ≡ front ++ 10 ∷ []))
ends_in_feed [] = inl refl
ends_in_feed (line ∷ lines) = inr (onto line lines (ends_in_feed lines))
  where
    onto : (line : List ℕ) (lines : List (List ℕ)) → (lines ≡ []) ⊎ ((front : List ℕ) × (ended lines ≡ front ++ 10 ∷ [])) → (front : List ℕ) × (ended (line ∷ lines) ≡ front ++ 10 ∷ [])
    onto line lines (inl none) = (line, ap (λ (ls : List (List ℕ)). ended (line ∷ ls)) none ∙ append-nil (line ++ 10 ∷ []))
    onto line lines (inr (front, e)) = ((line ++ 10 ∷ []) ++ front, ap (λ t. (line ++ 10 ∷ []) ++ t) e ∙ sym (append_assoc (line ++ 10 ∷ []) front (10 ∷ [])))

-- no byte of a line passes
plain_at : (line : List ℕ) (k : ℕ) → is_line line ≡ true → is_byte 10 (get_or line k 0) ≡ true → ⊥
plain_at [] k plain h = false≢true h
plain_at (c ∷ line) zero plain h = let parts = or_parts (is_feed c) (list_any is_feed line) (not-true (list_any is_feed (c ∷ line)) plain) in false≢true (sym (parts.0) ∙ h)
plain_at (c ∷ line) (suc k) plain h = let parts = or_parts (is_feed c) (list_any is_feed line) (not-true (list_any is_feed (c ∷ line)) plain) in plain_at line k (ap not parts.1) h

-- the last line feed of a text that ends in one and a line
last-place : (front line : List ℕ) (n : ℕ) → IsLastByte (is_byte 10) (front ++ 10 ∷ line) (Some n) → is_line line ≡ true → n ≡ length front
last-place front line n found plain =
    elim (cases_lt n (length front)) [
      | inl less ↦ absurd (found.0.after (length front) (omega arith) (omega (arith, length-append front (10 ∷ line))) (ap (is_byte 10) (get_or_at front 10 line 0 (length front) refl)))
      | inr from ↦
          elim (cases_lt (length front) n) [
            | inl more ↦
                let there : get_or (front ++ 10 ∷ line) n 0 ≡ get_or (10 ∷ line) (n - length front) 0 = get_or-append_right front (10 ∷ line) (length front) n 0 refl from in
                absurd (behind (n - length front) (omega arith) (sym (ap (is_byte 10) there) ∙ found.1))
            | inr none ↦ omega arith
          ]
    ]
  where
    behind : (k : ℕ) → 0 < k → is_byte 10 (get_or (10 ∷ line) k 0) ≡ true → ⊥
    behind zero some h = omega arith
    behind (suc k) some h = plain_at line k plain h

-- a text that ends in a line feed has a last one
no-last : (front line : List ℕ) → IsLastByte (is_byte 10) (front ++ 10 ∷ line) None → ⊥
no-last front line none = none (length front) (omega arith) (omega (arith, length-append front (10 ∷ line))) (ap (is_byte 10) (get_or_at front 10 line 0 (length front) refl))

abbrev Parts : List ℕ → List ℕ → List (List ℕ) → List ℕ → Type 0
Parts front behind lines line = (front ≡ ended lines) × (behind ≡ line)

cut_last : (lines : List (List ℕ)) (line : List ℕ) (n : ℕ) → IsLastByte (is_byte 10) (ended lines ++ line) (Some n) → is_line line ≡ true → n + 1 ≡ length (ended lines)
cut_last lines line n found plain =
    elim (ends_in_feed lines) [
      | inl none ↦ absurd (plain_at line n plain (subst (λ (ls : List (List ℕ)). is_byte 10 (get_or (ended ls ++ line) n 0) ≡ true) none found.1))
      | inr (front, e) ↦
          let whole : ended lines ++ line ≡ front ++ 10 ∷ line = ap (λ t. t ++ line) e ∙ append_assoc front (10 ∷ []) line in
          let at = last-place front line n (subst (λ t. IsLastByte (is_byte 10) t (Some n)) whole found) plain in
          omega (arith, at, ap length e, length-append front (10 ∷ []))
    ]

uncut_last : (lines : List (List ℕ)) (line : List ℕ) → IsLastByte (is_byte 10) (ended lines ++ line) None → is_line line ≡ true → ended lines ≡ []
uncut_last lines line none plain =
    elim (ends_in_feed lines) [
      | inl empty ↦ ap ended empty
      | inr (front, e) ↦
          let whole : ended lines ++ line ≡ front ++ 10 ∷ line = ap (λ t. t ++ line) e ∙ append_assoc front (10 ∷ []) line in
          absurd (no-last front line (subst (λ t. IsLastByte (is_byte 10) t None) whole none))
    ]

pub last_some : (text : List ℕ) (n : ℕ) → IsLastByte (is_byte 10) text (Some n) → (lines : List (List ℕ)) (line : List ℕ) → text ≡ ended lines ++ line → is_line line ≡ true
    → (take (n + 1) text ≡ ended lines) × (drop (n + 1) text ≡ line)
last_some text n found lines line e plain =
    let at = cut_last lines line n (subst (λ t. IsLastByte (is_byte 10) t (Some n)) e found) plain in
    (ap (take (n + 1)) e ∙ take_at (ended lines) line (n + 1) (sym at), ap (drop (n + 1)) e ∙ drop_at (ended lines) line (n + 1) (sym at))

pub last_none : (text : List ℕ) → IsLastByte (is_byte 10) text None → (lines : List (List ℕ)) (line : List ℕ) → text ≡ ended lines ++ line → is_line line ≡ true
    → (take 0 text ≡ ended lines) × (drop 0 text ≡ line)
last_none text none lines line e plain =
    let empty = uncut_last lines line (subst (λ t. IsLastByte (is_byte 10) t None) e none) plain in
    (sym empty, e ∙ ap (λ t. t ++ line) empty)

-- ---- fields

pub field-colon : (line : List ℕ) (n : ℕ) → IsFirstByte (is_byte 58) line (Some n) → is_field line ≡ is_name (take n line)
field-colon line n first =
    rw (any-cut 58 line n first, place-some 58 line n first) refl

pub field-bare : (line : List ℕ) → IsFirstByte (is_byte 58) line None → is_field line ≡ false
field-bare line none = rw (plain-none 58 line none) refl

pub ruleset colons = (field-colon, field-bare)
