-- Lines, each ended by a line feed.
use Rattle.std.proofs.Common.{◌≡◌, ℕ, ◌<◌, Bool, true, false, not, List, [], ◌∷◌, ◌++◌, length, map, refl, sym, ap, subst, ◌∙◌, append_assoc, append-nil, arith, rules}
use Rattle.std.specs.Prelude.{◌==◌}
use Rattle.std.specs.List.{list_any, list_all, before_first, after_first}
use Rattle.std.proofs.lemmas.Bool.{and_parts, or_parts, not-true, false≢true}
use Rattle.std.proofs.lemmas.List.{length-append, map-append}
use Rattle.method_messages.specs.Lines.{is_feed, is_line, ended, number_in, text_in, message_in, is_first, is_field, field_in, can_begin, may_follow}
use Rattle.method_messages.proofs.Cuts.{front_of, behind_of}

-- ---- bytes of a line

pub plain_of : (line : List ℕ) → is_line line ≡ true → list_any is_feed line ≡ false
plain_of line plain = not-true (list_any is_feed line) plain

pub any-append : {A : Type 0} (p : A → Bool) (a b : List A) → list_any p a ≡ false → list_any p b ≡ false → list_any p (a ++ b) ≡ false
any-append p [] b first second = second
any-append p (x ∷ a) b first second = let parts = or_parts (p x) (list_any p a) first in rw (parts.0) (any-append p a b parts.1 second)

pub all-append : {A : Type 0} (p : A → Bool) (a b : List A) → list_all p a ≡ true → list_all p b ≡ true → list_all p (a ++ b) ≡ true
all-append p [] b first second = second
all-append p (x ∷ a) b first second = let parts = and_parts (p x) (list_all p a) first in rw (parts.0) (all-append p a b parts.1 second)

pub line-append : (a b : List ℕ) → is_line a ≡ true → is_line b ≡ true → is_line (a ++ b) ≡ true
line-append a b first second = ap not (any-append is_feed a b (plain_of a first) (plain_of b second))

-- ---- their text

pub ended-cons : (line : List ℕ) (lines : List (List ℕ)) → ended (line ∷ lines) ≡ line ++ 10 ∷ ended lines
ended-cons line lines = append_assoc line (10 ∷ []) (ended lines)

pub ended-append : (a b : List (List ℕ)) → ended (a ++ b) ≡ ended a ++ ended b
ended-append [] b = refl
ended-append (line ∷ a) b = ap (λ t. (line ++ 10 ∷ []) ++ t) (ended-append a b) ∙ sym (append_assoc (line ++ 10 ∷ []) (ended a) (ended b))

-- one line more
pub ended-push : (lines : List (List ℕ)) (line : List ℕ) → ended (lines ++ line ∷ []) ≡ (ended lines ++ line) ++ 10 ∷ []
ended-push lines line = ended-append lines (line ∷ []) ∙ ap (λ t. ended lines ++ t) (append-nil (line ++ 10 ∷ [])) ∙ sym (append_assoc (ended lines) line (10 ∷ []))

pub some-ended : (line : List ℕ) (lines : List (List ℕ)) → 0 < length (ended (line ∷ lines))
some-ended line lines = omega (arith, ap length (ended-cons line lines), length-append line (10 ∷ ended lines))

pub none-ended : (lines : List (List ℕ)) → length (ended lines) ≡ 0 → lines ≡ []
none-ended [] e = refl
none-ended (line ∷ lines) e = absurd (omega (arith, some-ended line lines))

pub first-of : (line : List ℕ) (lines : List (List ℕ)) → is_line line ≡ true → before_first is_feed (ended (line ∷ lines)) ≡ line
first-of line lines plain = ap (before_first is_feed) (ended-cons line lines) ∙ front_of 10 line (ended lines) (plain_of line plain)

pub rest-of : (line : List ℕ) (lines : List (List ℕ)) → is_line line ≡ true → after_first is_feed (ended (line ∷ lines)) ≡ ended lines
rest-of line lines plain = ap (after_first is_feed) (ended-cons line lines) ∙ behind_of 10 line (ended lines) (plain_of line plain)

-- ---- one line after another

pub all-left : {A : Type 0} (p : A → Bool) (a b : List A) → list_all p (a ++ b) ≡ true → list_all p a ≡ true
all-left p [] b h = refl
all-left p (x ∷ a) b h = let parts = and_parts (p x) (list_all p (a ++ b)) h in rw (parts.0) (all-left p a b parts.1)

pub all-right : {A : Type 0} (p : A → Bool) (a b : List A) → list_all p (a ++ b) ≡ true → list_all p b ≡ true
all-right p [] b h = h
all-right p (x ∷ a) b h = all-right p a b (and_parts (p x) (list_all p (a ++ b)) h).1

-- the first of the lines have been read as these fields, and this text is left
pub record HasRead (lines : List (List ℕ)) (rest : List ℕ) (fields : List (List ℕ × List ℕ)) : Type 0 where
  pub done : List (List ℕ)
  pub left : List (List ℕ)
  pub split : lines ≡ done ++ left
  pub text : rest ≡ ended left
  pub read : fields ≡ map field_in done

pub read_none : (lines : List (List ℕ)) (rest : List ℕ) → rest ≡ ended lines → HasRead lines rest []
read_none lines rest e = record { done = []; left = lines; split = refl; text = e; read = refl }

read_left : (lines done left : List (List ℕ)) (rest behind : List ℕ) (fields new : List (List ℕ × List ℕ)) → list_all is_line lines ≡ true
    → lines ≡ done ++ left → rest ≡ ended left → fields ≡ map field_in done → 0 < length rest
    → behind ≡ after_first is_feed rest → new ≡ fields ++ field_in (before_first is_feed rest) ∷ [] → HasRead lines behind new
read_left lines done [] rest behind fields new plain split text read some after more = absurd (omega (arith, some, ap length text))
read_left lines done (line ∷ left) rest behind fields new plain split text read some after more =
    let whole : list_all is_line (done ++ line ∷ left) ≡ true = subst (λ (ls : List (List ℕ)). list_all is_line ls ≡ true) split plain in
    let own = (and_parts (is_line line) (list_all is_line left) (all-right is_line done (line ∷ left) whole)).0 in
    record {
      done = done ++ line ∷ [];
      left = left;
      split = split ∙ sym (append_assoc done (line ∷ []) left);
      text = after ∙ ap (after_first is_feed) text ∙ rest-of line left own;
      read = more ∙ (λ i. read i ++ field_in ((ap (before_first is_feed) text ∙ first-of line left own) i) ∷ []) ∙ sym (map-append field_in done (line ∷ []));
    }

pub read_more : (lines : List (List ℕ)) (rest line behind : List ℕ) (fields new : List (List ℕ × List ℕ)) (field : List ℕ × List ℕ) → list_all is_line lines ≡ true
    → HasRead lines rest fields → 0 < length rest
    → line ≡ before_first is_feed rest → behind ≡ after_first is_feed rest → field ≡ field_in line → new ≡ fields ++ field ∷ [] → HasRead lines behind new
read_more lines rest line behind fields new field plain h some before after is more =
    read_left lines h.done h.left rest behind fields new plain h.split h.text h.read some after (more ∙ ap (λ f. fields ++ f ∷ []) (is ∙ ap field_in before))

pub read_all : (lines : List (List ℕ)) (rest : List ℕ) (fields : List (List ℕ × List ℕ)) → HasRead lines rest fields → length rest ≡ 0 → fields ≡ map field_in lines
read_all lines rest fields h none =
    let nothing = none-ended h.left (sym (ap length h.text) ∙ none) in
    h.read ∙ ap (map field_in) (sym (h.split ∙ ap (λ (ls : List (List ℕ)). h.done ++ ls) nothing ∙ append-nil h.done))

-- ---- lines with which a message can begin

pub begun-push : (lines : List (List ℕ)) (line : List ℕ) → can_begin lines ≡ true → may_follow lines line ≡ true → can_begin (lines ++ line ∷ []) ≡ true
begun-push [] line sound follows = rw follows refl
begun-push (first ∷ fields) line sound follows =
    let parts = and_parts (is_first first) (list_all is_field fields) sound in
    let last : list_all is_field (line ∷ []) ≡ true = rw follows refl in
    rw (parts.0) (all-append is_field fields (line ∷ []) parts.1 last)

-- ---- a text that isn't empty

pub some-rest : (rest : List ℕ) → (length rest == 0) ≡ false → 0 < length rest
some-rest [] h = absurd (false≢true (sym h))
some-rest (c ∷ rest) h = omega arith

pub none-rest : (rest : List ℕ) → (length rest == 0) ≡ true → rest ≡ []
none-rest [] h = refl
none-rest (c ∷ rest) h = let none : length (c ∷ rest) ≡ 0 = search rules in absurd (omega (arith, none))

-- the first of lines is a message's first, and the others its fields
pub message_of : (first : List ℕ) (fields : List (List ℕ)) (text line behind : List ℕ) (number : ℕ) (title : List ℕ) (read : List (List ℕ × List ℕ))
    → text ≡ ended (first ∷ fields) → list_all is_line (first ∷ fields) ≡ true
    → line ≡ before_first is_feed text → behind ≡ after_first is_feed text
    → number ≡ number_in line → title ≡ text_in line
    → ((all : List (List ℕ)) → behind ≡ ended all → list_all is_line all ≡ true → read ≡ map field_in all)
    → record { number = number; text = title; fields = read } ≡ message_in first fields
message_of first fields text line behind number title read e plain before after numbered titled known =
    let parts = and_parts (is_line first) (list_all is_line fields) plain in
    let own : line ≡ first = before ∙ ap (before_first is_feed) e ∙ first-of first fields parts.0 in
    let rest = known fields (after ∙ ap (after_first is_feed) e ∙ rest-of first fields parts.0) parts.1 in
    let n = numbered ∙ ap number_in own in
    let t = titled ∙ ap text_in own in
    (λ i. record { number = n i; text = t i; fields = rest i })
