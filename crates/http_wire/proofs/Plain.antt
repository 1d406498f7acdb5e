-- Behind a long front of a line bytes of a name, or of a value, may follow: the text still may become whole.
use Rattle.std.proofs.Common.{◌≡◌, ℕ, ◌+◌, ◌<◌, ◌≤◌, ◌⊎◌, inl, inr, ⊎_elim, Bool, true, false, List, [], ◌∷◌, ◌++◌, length, drop, get_or, take, arith, sym, ap, ◌∙◌, refl, subst, append_assoc, append-nil, length-append, All, Option, Some, None}
use Rattle.std.specs.Prelude.{◌&&◌, ◌||◌, IsTrue}
use Rattle.std.specs.List.{list_all, list_any, flat_map}
use Rattle.std.specs.Char.{is_ascii_digit}
use Rattle.std.proofs.lemmas.Bool.{and_parts, cases_lt}
use Rattle.std.proofs.lemmas.Grind.{flat_map-append}
use Rattle.std.proofs.lemmas.List.{same_from_push, append_cancel_left, take_more}
use Rattle.std.proofs.lemmas.List.Elements.{All-nil, All-cons, All-head, All-tail, All-append}
use Rattle.std.proofs.lemmas.List.Folds.{list_all-append}
use Rattle.httparse.specs.Pieces.{is_newline}
use Rattle.httparse.specs.Grammar.{AllPass, is_token_byte, is_value_byte, LineEnd, crlf, lf, Field, IsField, ResponseHead, IsResponseHead, print_end, print_blank, print_version, print_field, print_reason, print_section, print_response}
use Rattle.httparse.proofs.GrammarLemmas.{cons-append, print_response-append}
use Rattle.http_wire.specs.Forms.{May, is_line_feed, line_feeds, head_form, trailer_form}
use Rattle.http_wire.specs.Plain.{StartsLine, InLine, InName, InValue, IsPlain, GoesPlain}
use Rattle.http_wire.proofs.Lists.{front_of, beyond, snoc}
use Rattle.http_wire.proofs.FormFacts.{last_feed}
use Rattle.http_wire.proofs.LineCounts.{other_byte, feeds-append, field_feeds, end_feeds, version_feeds, reason_feeds, no_feeds, blank_newlines}

-- ---- bytes

-- no line end is a byte that passes such a test
no_newline : (p : ℕ → Bool) → p 10 ≡ false → p 13 ≡ false → (x : ℕ) → p x ≡ true → is_newline x ≡ false
no_newline p feed return x passes = grind (arith, other_feed, other_return)
  where
    other_feed : x ≡ 10 → ⊥
    other_feed same = let e : p x ≡ p 10 = ap p same in cc

    other_return : x ≡ 13 → ⊥
    other_return same = let e : p x ≡ p 13 = ap p same in cc

value_is : (x : ℕ) → is_value_byte x ≡ true → is_newline x ≡ false
value_is = no_newline is_value_byte refl refl

-- neither a slash nor a line end is a byte of a name
no_slash : is_token_byte 47 ≡ false
unfolding is_token_byte
no_slash = refl

no_feed : is_token_byte 10 ≡ false
unfolding is_token_byte
no_feed = refl

no_return : is_token_byte 13 ≡ false
unfolding is_token_byte
no_return = refl

token_is : (x : ℕ) → is_token_byte x ≡ true → is_newline x ≡ false
token_is = no_newline is_token_byte no_feed no_return

other_false : (a : Bool) → (a && false) ≡ false
other_false true = refl
other_false false = refl

has_other : (p : ℕ → Bool) (u more : List ℕ) (b : ℕ) → p b ≡ false → list_all p (u ++ b ∷ more) ≡ false
has_other p u more b other = list_all-append p u (b ∷ more) ∙ ap (λ t. list_all p u && (t && list_all p more)) other ∙ other_false (list_all p u)

all_pass : (p : ℕ → Bool) (xs : List ℕ) → AllPass p xs → list_all p xs ≡ true
all_pass p [] all = refl
all_pass p (x ∷ xs) all =
    ap (λ t. t && list_all p xs) (All-head (λ b. IsTrue (p b)) x xs all) ∙ all_pass p xs (All-tail (λ b. IsTrue (p b)) x xs all)

all_front : (p : ℕ → Bool) (xs ys : List ℕ) → AllPass p (xs ++ ys) → AllPass p xs
all_front p [] ys all = All-nil (λ b. IsTrue (p b))
all_front p (x ∷ xs) ys all =
    All-cons (λ b. IsTrue (p b)) x xs (All-head (λ b. IsTrue (p b)) x (xs ++ ys) all) (all_front p xs ys (All-tail (λ b. IsTrue (p b)) x (xs ++ ys) all))

all_back : (p : ℕ → Bool) (xs ys : List ℕ) → AllPass p (xs ++ ys) → AllPass p ys
all_back p [] ys all = all
all_back p (x ∷ xs) ys all = all_back p xs ys (All-tail (λ b. IsTrue (p b)) x (xs ++ ys) all)

-- ---- lines

-- what is left of a text behind a front of it begins where the text does, or behind one of its lines
starts_behind : (p u rest : List ℕ) → u ≡ p ++ rest → StartsLine u → StartsLine rest
starts_behind p u [] is starts = inl refl
starts_behind p u (x ∷ y) is (inl none) =
    absurd (let e : length u ≡ length (p ++ x ∷ y) = ap length is in let a = length-append p (x ∷ y) in let z : length u ≡ 0 = ap length none in omega (arith, e, a, z))
starts_behind p u (x ∷ y) is (inr lines) =
    let ends = snoc x y in
    let e : (p ++ ends.0) ++ ends.1 ∷ [] ≡ lines.0 ++ 10 ∷ [] = append_assoc p ends.0 (ends.1 ∷ []) ∙ ap (λ t. p ++ t) (sym ends.2) ∙ sym is ∙ lines.1 in
    let feed : ends.1 ≡ 10 = (same_from_push (p ++ ends.0) lines.0 ends.1 10 e).1 in
    inr (ends.0, ends.2 ∙ ap (λ b. ends.0 ++ b ∷ []) feed)

-- lines that have ended don't stop within a line that has one line feed, at its end
whole_line : (line front u more rest : List ℕ) (b : ℕ) → line_feeds line ≡ 1 → line ≡ front ++ 10 ∷ [] → StartsLine u → 0 < length u → u ++ b ∷ more ≡ line ++ rest → u ≡ line ++ drop (length line) u
whole_line line front u more rest b one ends starts some is =
    elim (cases_lt (length u) (length line)) [
      | inl shorter ↦ absurd (cut (beyond u (b ∷ more) line rest shorter is))
      | inr within ↦ front_of u (b ∷ more) line rest within is
    ]
  where
    feeds_of : StartsLine u → 1 ≤ line_feeds u
    feeds_of (inl none) = absurd (let z : length u ≡ 0 = ap length none in omega (arith, z, some))
    feeds_of (inr lines) =
        let e : line_feeds u ≡ line_feeds (lines.0 ++ 10 ∷ []) = ap line_feeds lines.1 in
        let a = feeds-append lines.0 (10 ∷ []) in
        omega (arith, e, a)

    cut : (x : ℕ) × (z : List ℕ) × (line ≡ u ++ x ∷ z) → ⊥
    cut c =
        let e : line_feeds line ≡ line_feeds (u ++ c.0 ∷ c.1) = ap line_feeds c.2 in
        let a = feeds-append u (c.0 ∷ c.1) in
        let f = feeds_of starts in
        let l = last_feed u c.1 front c.0 (sym c.2 ∙ ends) in
        omega (arith, e, a, f, l, one)

field_ends : (f : Field) → (front : List ℕ) × (print_field f ≡ front ++ 10 ∷ [])
field_ends f = ends_in f.name f.raw f.end
  where
    ends_in : (name raw : List ℕ) (e : LineEnd) → (front : List ℕ) × (name ++ 58 ∷ raw ++ print_end e ≡ front ++ 10 ∷ [])
    ends_in name raw crlf = (name ++ 58 ∷ raw ++ 13 ∷ [], simp (append_assoc, cons-append))
    ends_in name raw lf = (name ++ 58 ∷ raw, simp (append_assoc, cons-append))

-- a line of a section that has begun is a field's, behind fields alone
pub record AtField (u line : List ℕ) : Type 0 where
  pub before : List Field
  pub all : All IsField before
  pub is : u ≡ flat_map print_field before
  pub field : Field
  pub valid : IsField field
  pub rest : List ℕ
  pub goes : line ≡ print_field field ++ rest

in_end : (last : LineEnd) (u more : List ℕ) (b : ℕ) → is_newline b ≡ false → u ++ b ∷ more ≡ print_end last → ⊥
in_end last u more b other is =
    let none : list_all is_newline (u ++ b ∷ more) ≡ false = has_other is_newline u more b other in
    let all : list_all is_newline (print_end last) ≡ true = newlines last in
    let e : list_all is_newline (u ++ b ∷ more) ≡ list_all is_newline (print_end last) = ap (list_all is_newline) is in
    cc
  where
    newlines : (e : LineEnd) → list_all is_newline (print_end e) ≡ true
    newlines crlf = refl
    newlines lf = refl

at_field : (fs : List Field) (last : LineEnd) (u more : List ℕ) (b : ℕ) → All IsField fs → StartsLine u → is_newline b ≡ false → u ++ b ∷ more ≡ print_section fs last → AtField u (b ∷ more)
at_field [] last u more b all starts other is = absurd (in_end last u more b other is)
at_field (f ∷ fs) last [] more b all starts other is = record {
  before = [];
  all = All-nil IsField;
  is = refl;
  field = f;
  valid = All-head IsField f fs all;
  rest = print_section fs last;
  goes = is ∙ append_assoc (print_field f) (flat_map print_field fs) (print_end last);
}
at_field (f ∷ fs) last (y ∷ ys) more b all starts other is =
    let whole : (y ∷ ys) ++ b ∷ more ≡ print_field f ++ print_section fs last = is ∙ append_assoc (print_field f) (flat_map print_field fs) (print_end last) in
    let ends = field_ends f in
    let line = whole_line (print_field f) ends.0 (y ∷ ys) more (print_section fs last) b (field_feeds f (All-head IsField f fs all)) ends.1 starts (omega arith) whole in
    let behind = drop (length (print_field f)) (y ∷ ys) in
    let left : behind ++ b ∷ more ≡ print_section fs last = append_cancel_left (print_field f) (behind ++ b ∷ more) (print_section fs last) (sym (append_assoc (print_field f) behind (b ∷ more)) ∙ ap (λ t. t ++ b ∷ more) (sym line) ∙ whole) in
    let a = at_field fs last behind more b (All-tail IsField f fs all) (starts_behind (print_field f) (y ∷ ys) behind line starts) other left in
    record {
      before = f ∷ a.before;
      all = All-cons IsField f a.before (All-head IsField f fs all) a.all;
      is = line ∙ ap (λ t. print_field f ++ t) a.is;
      field = a.field;
      valid = a.valid;
      rest = a.rest;
      goes = a.goes;
    }

-- the status line
abbrev status_of : ResponseHead → List ℕ
status_of h = print_version h.minor ++ 32 ∷ (h.digits ++ (print_reason h.reason ++ print_end h.line_end))

-- a line of a head that has begun is its status line, behind empty lines alone, or a field's
pub record AtStatus (h : ResponseHead) (u line : List ℕ) : Type 0 where
  pub is : u ≡ print_blank h.blank
  pub rest : List ℕ
  pub goes : line ≡ status_of h ++ rest

pub record AtHeadField (h : ResponseHead) (u line : List ℕ) : Type 0 where
  pub lines : List ℕ
  pub is : u ≡ print_blank h.blank ++ (status_of h ++ lines)
  pub at : AtField lines line

status_feeds : (h : ResponseHead) → IsResponseHead h → line_feeds (status_of h) ≡ 1
status_feeds h is =
    let a = feeds-append (print_version h.minor) (32 ∷ (h.digits ++ (print_reason h.reason ++ print_end h.line_end))) in
    let b = feeds-append (32 ∷ []) (h.digits ++ (print_reason h.reason ++ print_end h.line_end)) in
    let d = feeds-append h.digits (print_reason h.reason ++ print_end h.line_end) in
    let e = feeds-append (print_reason h.reason) (print_end h.line_end) in
    let v = version_feeds h.minor is.minor in
    let n = no_feeds is_ascii_digit refl h.digits is.digits.1 in
    let r = reason_feeds h.reason is.reason in
    let f = end_feeds h.line_end in
    omega (arith, a, b, d, e, v, n, r, f)

status_ends : (h : ResponseHead) → (front : List ℕ) × (status_of h ≡ front ++ 10 ∷ [])
status_ends h = ends_in (print_version h.minor) h.digits (print_reason h.reason) h.line_end
  where
    ends_in : (version digits reason : List ℕ) (e : LineEnd) → (front : List ℕ) × (version ++ 32 ∷ (digits ++ (reason ++ print_end e)) ≡ front ++ 10 ∷ [])
    ends_in version digits reason crlf = (version ++ 32 ∷ (digits ++ (reason ++ 13 ∷ [])), simp (append_assoc, cons-append))
    ends_in version digits reason lf = (version ++ 32 ∷ (digits ++ reason), simp append_assoc)

-- a head's text in lines
in_lines : (h : ResponseHead) → print_response h ++ [] ≡ print_blank h.blank ++ (status_of h ++ print_section h.fields h.last)
in_lines h = print_response-append h [] ∙ regroup (print_blank h.blank) (print_version h.minor) h.digits (print_reason h.reason) (print_end h.line_end) (print_section h.fields h.last)
  where
    regroup : (a b c d e f : List ℕ) → a ++ (b ++ 32 ∷ (c ++ (d ++ (e ++ (f ++ []))))) ≡ a ++ ((b ++ 32 ∷ (c ++ (d ++ e))) ++ f)
    regroup a b c d e f = simp (append_assoc, append-nil)

-- the line doesn't stand among the empty lines
past_blank : (blank : List LineEnd) (u more rest : List ℕ) (b : ℕ) → is_newline b ≡ false → u ++ b ∷ more ≡ print_blank blank ++ rest → u ≡ print_blank blank ++ drop (length (print_blank blank)) u
past_blank blank u more rest b other is =
    elim (cases_lt (length u) (length (print_blank blank))) [
      | inl shorter ↦ absurd (cut (beyond u (b ∷ more) (print_blank blank) rest shorter is))
      | inr within ↦ front_of u (b ∷ more) (print_blank blank) rest within is
    ]
  where
    cut : (x : ℕ) × (z : List ℕ) × (print_blank blank ≡ u ++ x ∷ z) → ⊥
    cut c =
        let e : b ∷ more ≡ (c.0 ∷ c.1) ++ rest = append_cancel_left u (b ∷ more) ((c.0 ∷ c.1) ++ rest) (is ∙ ap (λ t. t ++ rest) c.2 ∙ append_assoc u (c.0 ∷ c.1) rest) in
        let same : b ≡ c.0 = cc in
        let none : list_all is_newline (u ++ c.0 ∷ c.1) ≡ false = has_other is_newline u c.1 c.0 (subst (λ x. is_newline x ≡ false) same other) in
        let all : list_all is_newline (u ++ c.0 ∷ c.1) ≡ true = ap (list_all is_newline) (sym c.2) ∙ blank_newlines blank in
        cc

behind_status : (h : ResponseHead) (v u more : List ℕ) (b : ℕ) → IsResponseHead h → u ≡ print_blank h.blank ++ v → StartsLine v → is_newline b ≡ false → v ++ b ∷ more ≡ status_of h ++ print_section h.fields h.last → AtStatus h u (b ∷ more) ⊎ AtHeadField h u (b ∷ more)
behind_status h [] u more b valid is starts other goes =
    inl (record { is = is ∙ append-nil (print_blank h.blank); rest = print_section h.fields h.last; goes = goes })
behind_status h (y ∷ ys) u more b valid is starts other goes =
    let ends = status_ends h in
    let line = whole_line (status_of h) ends.0 (y ∷ ys) more (print_section h.fields h.last) b (status_feeds h valid) ends.1 starts (omega arith) goes in
    let behind = drop (length (status_of h)) (y ∷ ys) in
    let left : behind ++ b ∷ more ≡ print_section h.fields h.last = append_cancel_left (status_of h) (behind ++ b ∷ more) (print_section h.fields h.last) (sym (append_assoc (status_of h) behind (b ∷ more)) ∙ ap (λ t. t ++ b ∷ more) (sym line) ∙ goes) in
    inr (record {
      lines = behind;
      is = is ∙ ap (λ t. print_blank h.blank ++ t) line;
      at = at_field h.fields h.last behind more b valid.fields (starts_behind (status_of h) (y ∷ ys) behind line starts) other left;
    })

at_head : (h : ResponseHead) (u more : List ℕ) (b : ℕ) → IsResponseHead h → StartsLine u → is_newline b ≡ false → u ++ b ∷ more ≡ print_response h ++ [] → AtStatus h u (b ∷ more) ⊎ AtHeadField h u (b ∷ more)
at_head h u more b valid starts other is =
    let whole : u ++ b ∷ more ≡ print_blank h.blank ++ (status_of h ++ print_section h.fields h.last) = is ∙ in_lines h in
    let blank = past_blank h.blank u more (status_of h ++ print_section h.fields h.last) b other whole in
    let behind = drop (length (print_blank h.blank)) u in
    let left : behind ++ b ∷ more ≡ status_of h ++ print_section h.fields h.last = append_cancel_left (print_blank h.blank) (behind ++ b ∷ more) (status_of h ++ print_section h.fields h.last) (sym (append_assoc (print_blank h.blank) behind (b ∷ more)) ∙ ap (λ t. t ++ b ∷ more) (sym blank) ∙ whole) in
    behind_status h behind u more b valid blank (starts_behind (print_blank h.blank) u behind blank starts) other left

-- ---- a field that such a line begins

-- a field that begins with these bytes, and may go on with those
pub record Begins (bytes : List ℕ) : Type 0 where
  pub field : Field
  pub valid : IsField field
  pub more : List ℕ
  pub is : bytes ++ more ≡ print_field field

by_name : (bytes : List ℕ) → 0 < length bytes → AllPass is_token_byte bytes → Begins bytes
by_name bytes some all = record {
  field = record { name = bytes; raw = []; end = lf };
  valid = record { name = (some, all); raw = All-nil (λ b. IsTrue (is_value_byte b)) };
  more = 58 ∷ 10 ∷ [];
  is = name_is bytes;
}
  where
    name_is : (a : List ℕ) → a ++ 58 ∷ 10 ∷ [] ≡ a ++ 58 ∷ [] ++ 10 ∷ []
    name_is a = simp (append_assoc)

-- where a byte of the line is none of a name, its name has ended
past_name : (front more name after : List ℕ) → AllPass is_token_byte name → list_all is_token_byte front ≡ false → front ++ more ≡ name ++ 58 ∷ after → (raw : List ℕ) × (front ≡ name ++ 58 ∷ raw)
past_name front more name after tokens past is =
    elim (cases_lt (length name) (length front)) [
      | inl longer ↦ (let c = beyond name (58 ∷ after) front more longer (sym is) in
          let e : 58 ∷ after ≡ (c.0 ∷ c.1) ++ more = append_cancel_left name (58 ∷ after) ((c.0 ∷ c.1) ++ more) (sym is ∙ ap (λ t. t ++ more) c.2 ∙ append_assoc name (c.0 ∷ c.1) more) in
          let colon : c.0 ≡ 58 = cc in
          (c.1, c.2 ∙ ap (λ x. name ++ x ∷ c.1) colon))
      | inr within ↦ absurd (let f = front_of name (58 ∷ after) front more within (sym is) in
          let all : list_all is_token_byte front ≡ true = all_pass is_token_byte front (all_front is_token_byte front (drop (length front) name) (subst (AllPass is_token_byte) f tokens)) in
          cc)
    ]

by_value : (front more v : List ℕ) (f : Field) (rest : List ℕ) → IsField f → AllPass is_value_byte front → AllPass is_value_byte v → list_all is_token_byte front ≡ false → front ++ more ≡ print_field f ++ rest → Begins (front ++ v)
by_value front more v f rest valid values further past is =
    let name = past_name front more f.name (f.raw ++ (print_end f.end ++ rest)) valid.name.1 past (is ∙ regroup f.name f.raw (print_end f.end) rest) in
    let raw : AllPass is_value_byte name.0 = all_back is_value_byte (58 ∷ []) name.0 (all_back is_value_byte f.name (58 ∷ name.0) (subst (AllPass is_value_byte) name.1 values)) in
    record {
      field = record { name = f.name; raw = name.0 ++ v; end = lf };
      valid = record { name = valid.name; raw = All-append (λ b. IsTrue (is_value_byte b)) name.0 v raw further };
      more = 10 ∷ [];
      is = ap (λ t. (t ++ v) ++ 10 ∷ []) name.1 ∙ again f.name name.0 v;
    }
  where
    regroup : (a b c d : List ℕ) → (a ++ 58 ∷ b ++ c) ++ d ≡ a ++ 58 ∷ (b ++ (c ++ d))
    regroup a b c d = simp (append_assoc, cons-append)

    again : (a b c : List ℕ) → ((a ++ 58 ∷ b) ++ c) ++ 10 ∷ [] ≡ a ++ 58 ∷ (b ++ c) ++ 10 ∷ []
    again a b c = simp (append_assoc, cons-append)

-- ---- what may follow

section_is : (u bytes : List ℕ) (before : List Field) → u ≡ flat_map print_field before → (b : Begins bytes) → (u ++ bytes) ++ (b.more ++ 10 ∷ []) ≡ print_section (before ++ b.field ∷ []) lf
section_is u bytes before is b =
    ap (λ t. (t ++ bytes) ++ (b.more ++ 10 ∷ [])) is
    ∙ regroup (flat_map print_field before) bytes b.more
    ∙ ap (λ t. (flat_map print_field before ++ (t ++ [])) ++ 10 ∷ []) b.is
    ∙ ap (λ t. t ++ 10 ∷ []) (sym (flat_map-append print_field before (b.field ∷ [])))
  where
    regroup : (a x y : List ℕ) → (a ++ x) ++ (y ++ 10 ∷ []) ≡ (a ++ ((x ++ y) ++ [])) ++ 10 ∷ []
    regroup a x y = simp (append_assoc, append-nil)

with_field : (before : List Field) (f : Field) → All IsField before → IsField f → All IsField (before ++ f ∷ [])
with_field before f all valid = All-append IsField before (f ∷ []) all (All-cons IsField f [] valid (All-nil IsField))

section_may : (u bytes : List ℕ) (before : List Field) → All IsField before → u ≡ flat_map print_field before → Begins bytes → May trailer_form (u ++ bytes)
section_may u bytes before all is b =
    (b.more ++ 10 ∷ [], (before ++ b.field ∷ [], lf), with_field before b.field all b.valid, section_is u bytes before is b ∙ sym (append-nil (print_section (before ++ b.field ∷ []) lf)))

field_may : (h : ResponseHead) (u line bytes : List ℕ) → IsResponseHead h → AtHeadField h u line → Begins bytes → May head_form (u ++ bytes)
field_may h u line bytes valid a b =
    let g : ResponseHead = record { blank = h.blank; minor = h.minor; digits = h.digits; reason = h.reason; line_end = h.line_end; fields = a.at.before ++ b.field ∷ []; last = lf } in (
      b.more ++ 10 ∷ [],
      g,
      record { minor = valid.minor; digits = valid.digits; reason = valid.reason; fields = with_field a.at.before b.field a.at.all b.valid },
      ap (λ t. (t ++ bytes) ++ (b.more ++ 10 ∷ [])) a.is
          ∙ regroup (print_blank h.blank) (status_of h) a.lines bytes (b.more ++ 10 ∷ [])
          ∙ ap (λ t. print_blank h.blank ++ (status_of h ++ t)) (section_is a.lines bytes a.at.before a.at.is b)
          ∙ sym (in_lines g),
    )
  where
    regroup : (p s l x m : List ℕ) → ((p ++ (s ++ l)) ++ x) ++ m ≡ p ++ (s ++ ((l ++ x) ++ m))
    regroup p s l x m = simp append_assoc

-- a status line isn't within a name
not_status : (front more rest : List ℕ) → 13 ≤ length front → AllPass is_token_byte front → front ++ more ≡ 72 ∷ 84 ∷ 84 ∷ 80 ∷ 47 ∷ rest → ⊥
not_status front more rest long all is =
    let begin = front_of front more (72 ∷ 84 ∷ 84 ∷ 80 ∷ 47 ∷ []) rest (omega (arith, long)) is in
    let none : list_all is_token_byte front ≡ false = ap (list_all is_token_byte) begin ∙ has_other is_token_byte (72 ∷ 84 ∷ 84 ∷ 80 ∷ []) (drop 5 front) 47 no_slash in
    let every : list_all is_token_byte front ≡ true = all_pass is_token_byte front all in
    cc

-- the front of a status line with a reason phrase
record Reasoned (h : ResponseHead) (front : List ℕ) : Type 0 where
  phrase : List ℕ
  is : front ≡ (print_version h.minor ++ 32 ∷ h.digits) ++ 32 ∷ phrase

reason_of : (h : ResponseHead) (reason : Option (List ℕ)) (front more rest y : List ℕ) → AllPass is_value_byte y → 0 < length y → front ≡ (print_version h.minor ++ 32 ∷ h.digits) ++ y → y ++ more ≡ print_reason reason ++ (print_end h.line_end ++ rest) → Reasoned h front
reason_of h reason front more rest [] values some is goes = absurd (omega (arith, some))
reason_of h None front more rest (c ∷ y) values some is goes = absurd (ended h.line_end c (All-head (λ b. IsTrue (is_value_byte b)) c y values) goes)
  where
    ended : (e : LineEnd) (c : ℕ) → is_value_byte c ≡ true → c ∷ (y ++ more) ≡ print_end e ++ rest → ⊥
    ended crlf c value same = let return : c ≡ 13 = cc in let e : is_value_byte c ≡ false = ap is_value_byte return in cc
    ended lf c value same = let feed : c ≡ 10 = cc in let e : is_value_byte c ≡ false = ap is_value_byte feed in cc
reason_of h (Some phrase) front more rest (c ∷ y) values some is goes =
    let space : c ≡ 32 = cc in
    record { phrase = y; is = is ∙ ap (λ x. (print_version h.minor ++ 32 ∷ h.digits) ++ x ∷ y) space }

reasoned : (h : ResponseHead) (front more rest : List ℕ) → IsResponseHead h → 13 ≤ length front → AllPass is_value_byte front → front ++ more ≡ status_of h ++ rest → Reasoned h front
reasoned h front more rest valid long values is =
    let start = print_version h.minor ++ 32 ∷ h.digits in
    let whole : front ++ more ≡ start ++ (print_reason h.reason ++ (print_end h.line_end ++ rest)) = is ∙ regroup (print_version h.minor) h.digits (print_reason h.reason) (print_end h.line_end) rest in
    let size = length-append (print_version h.minor) (32 ∷ h.digits) in
    let three = valid.digits.0 in
    let eight : length (print_version h.minor) ≡ 8 = refl in
    let short : length start ≤ length front = omega (arith, size, three, eight, long) in
    let begin = front_of front more start (print_reason h.reason ++ (print_end h.line_end ++ rest)) short whole in
    let behind = drop (length start) front in
    let both : length front ≡ length (start ++ behind) = ap length begin in
    let sum = length-append start behind in
    let left : behind ++ more ≡ print_reason h.reason ++ (print_end h.line_end ++ rest) = append_cancel_left start (behind ++ more) (print_reason h.reason ++ (print_end h.line_end ++ rest)) (sym (append_assoc start behind more) ∙ ap (λ t. t ++ more) (sym begin) ∙ whole) in
    reason_of h h.reason front more rest behind (all_back is_value_byte start behind (subst (AllPass is_value_byte) begin values)) (omega (arith, size, three, eight, long, both, sum)) begin left
  where
    regroup : (a b c d e : List ℕ) → (a ++ 32 ∷ (b ++ (c ++ d))) ++ e ≡ (a ++ 32 ∷ b) ++ (c ++ (d ++ e))
    regroup a b c d e = simp (append_assoc, cons-append)

status_may : (h : ResponseHead) (u front v : List ℕ) → IsResponseHead h → u ≡ print_blank h.blank → Reasoned h front → AllPass is_value_byte front → AllPass is_value_byte v → May head_form (u ++ (front ++ v))
status_may h u front v valid is r values further =
    let g : ResponseHead = record { blank = h.blank; minor = h.minor; digits = h.digits; reason = Some (r.phrase ++ v); line_end = lf; fields = []; last = lf } in
    let phrase : AllPass is_value_byte r.phrase = all_back is_value_byte (32 ∷ []) r.phrase (all_back is_value_byte (print_version h.minor ++ 32 ∷ h.digits) (32 ∷ r.phrase) (subst (AllPass is_value_byte) r.is values)) in (
      10 ∷ 10 ∷ [],
      g,
      record { minor = valid.minor; digits = valid.digits; reason = All-append (λ b. IsTrue (is_value_byte b)) r.phrase v phrase further; fields = All-nil IsField },
      ap (λ t. (t ++ (front ++ v)) ++ 10 ∷ 10 ∷ []) is ∙ ap (λ t. (print_blank h.blank ++ (t ++ v)) ++ 10 ∷ 10 ∷ []) r.is
          ∙ regroup (print_blank h.blank) (print_version h.minor) h.digits r.phrase v ∙ sym (in_lines g),
    )
  where
    regroup : (p a b y v : List ℕ) → (p ++ (((a ++ 32 ∷ b) ++ 32 ∷ y) ++ v)) ++ 10 ∷ 10 ∷ [] ≡ p ++ ((a ++ 32 ∷ (b ++ ((32 ∷ (y ++ v)) ++ 10 ∷ []))) ++ 10 ∷ [])
    regroup p a b y v = simp (append_assoc, cons-append)

-- ---- heads

head_named : (lines front v more : List ℕ) (h : ResponseHead) → IsResponseHead h → StartsLine lines → AllPass is_token_byte front → 13 ≤ length front → AllPass is_token_byte v → lines ++ (front ++ more) ≡ print_response h ++ [] → May head_form (lines ++ (front ++ v))
head_named lines [] v more h valid starts all long further is = absurd (omega (arith, long))
head_named lines (b ∷ front) v more h valid starts all long further is =
    ⊎_elim (λ (a : AtStatus h lines (b ∷ (front ++ more))). absurd (not_status (b ∷ front) more _ long all a.goes))
    (λ (a : AtHeadField h lines (b ∷ (front ++ more))). field_may h lines (b ∷ (front ++ more)) ((b ∷ front) ++ v) valid a (by_name ((b ∷ front) ++ v) (omega arith) (All-append (λ x. IsTrue (is_token_byte x)) (b ∷ front) v all further)))
    (at_head h lines (front ++ more) b valid starts (token_is b (All-head (λ x. IsTrue (is_token_byte x)) b front all)) is)

head_valued : (lines front v more : List ℕ) (h : ResponseHead) → IsResponseHead h → StartsLine lines → AllPass is_value_byte front → 13 ≤ length front → list_all is_token_byte front ≡ false → AllPass is_value_byte v → lines ++ (front ++ more) ≡ print_response h ++ [] → May head_form (lines ++ (front ++ v))
head_valued lines [] v more h valid starts all long past further is = absurd (omega (arith, long))
head_valued lines (b ∷ front) v more h valid starts all long past further is =
    ⊎_elim (λ (a : AtStatus h lines (b ∷ (front ++ more))). status_may h lines (b ∷ front) v valid a.is (reasoned h (b ∷ front) more a.rest valid long all a.goes) all further)
    (λ (a : AtHeadField h lines (b ∷ (front ++ more))). field_may h lines (b ∷ (front ++ more)) ((b ∷ front) ++ v) valid a (by_value (b ∷ front) more v a.at.field a.at.rest a.at.valid all further past a.at.goes))
    (at_head h lines (front ++ more) b valid starts (value_is b (All-head (λ x. IsTrue (is_value_byte x)) b front all)) is)

-- the text in its lines and the front of one
in_front : (text lines front more : List ℕ) → text ≡ lines ++ front → text ++ more ≡ lines ++ (front ++ more)
in_front text lines front more is = ap (λ t. t ++ more) is ∙ append_assoc lines front more

pub head_name_goes : (text v : List ℕ) → May head_form text → InName text → AllPass is_token_byte v → May head_form (text ++ v)
head_name_goes text v may name further =
    subst (May head_form) (sym (in_front text name.lines name.front v name.is))
    (head_named name.lines name.front v may.0 may.1 may.2 name.starts name.bytes name.long further (sym (in_front text name.lines name.front may.0 name.is) ∙ may.3))

pub head_value_goes : (text v : List ℕ) → May head_form text → InValue text → AllPass is_value_byte v → May head_form (text ++ v)
head_value_goes text v may value further =
    let l = value.line in
    subst (May head_form) (sym (in_front text l.lines l.front v l.is))
    (head_valued l.lines l.front v may.0 may.1 may.2 l.starts l.bytes l.long value.past further (sym (in_front text l.lines l.front may.0 l.is) ∙ may.3))

-- ---- trailers

trailers_at : (lines more : List ℕ) (b : ℕ) (fields : List Field) (last : LineEnd) → All IsField fields → StartsLine lines → is_newline b ≡ false → lines ++ b ∷ more ≡ print_section fields last ++ [] → AtField lines (b ∷ more)
trailers_at lines more b fields last all starts other is = at_field fields last lines more b all starts other (is ∙ append-nil (print_section fields last))

trailers_named : (lines front v more : List ℕ) (fields : List Field) (last : LineEnd) → All IsField fields → StartsLine lines → AllPass is_token_byte front → 13 ≤ length front → AllPass is_token_byte v → lines ++ (front ++ more) ≡ print_section fields last ++ [] → May trailer_form (lines ++ (front ++ v))
trailers_named lines [] v more fields last valid starts all long further is = absurd (omega (arith, long))
trailers_named lines (b ∷ front) v more fields last valid starts all long further is =
    let a = trailers_at lines (front ++ more) b fields last valid starts (token_is b (All-head (λ x. IsTrue (is_token_byte x)) b front all)) is in
    section_may lines ((b ∷ front) ++ v) a.before a.all a.is (by_name ((b ∷ front) ++ v) (omega arith) (All-append (λ x. IsTrue (is_token_byte x)) (b ∷ front) v all further))

trailers_valued : (lines front v more : List ℕ) (fields : List Field) (last : LineEnd) → All IsField fields → StartsLine lines → AllPass is_value_byte front → 13 ≤ length front → list_all is_token_byte front ≡ false → AllPass is_value_byte v → lines ++ (front ++ more) ≡ print_section fields last ++ [] → May trailer_form (lines ++ (front ++ v))
trailers_valued lines [] v more fields last valid starts all long past further is = absurd (omega (arith, long))
trailers_valued lines (b ∷ front) v more fields last valid starts all long past further is =
    let a = trailers_at lines (front ++ more) b fields last valid starts (value_is b (All-head (λ x. IsTrue (is_value_byte x)) b front all)) is in
    section_may lines ((b ∷ front) ++ v) a.before a.all a.is (by_value (b ∷ front) more v a.field a.rest a.valid all further past a.goes)

pub trailers_name_goes : (text v : List ℕ) → May trailer_form text → InName text → AllPass is_token_byte v → May trailer_form (text ++ v)
trailers_name_goes text v may name further =
    subst (May trailer_form) (sym (in_front text name.lines name.front v name.is))
    (trailers_named name.lines name.front v may.0 may.1.0 may.1.1 may.2 name.starts name.bytes name.long further (sym (in_front text name.lines name.front may.0 name.is) ∙ may.3))

pub trailers_value_goes : (text v : List ℕ) → May trailer_form text → InValue text → AllPass is_value_byte v → May trailer_form (text ++ v)
trailers_value_goes text v may value further =
    let l = value.line in
    subst (May trailer_form) (sym (in_front text l.lines l.front v l.is))
    (trailers_valued l.lines l.front v may.0 may.1.0 may.1.1 may.2 l.starts l.bytes l.long value.past further (sym (in_front text l.lines l.front may.0 l.is) ∙ may.3))

-- ---- a text that goes on in such a line

abbrev more_line : (test : ℕ → Bool) (text v : List ℕ) → InLine test text → AllPass test v → InLine test (text ++ v)
more_line test text v line further = record {
  lines = line.lines;
  front = line.front ++ v;
  is = in_front text line.lines line.front v line.is;
  starts = line.starts;
  bytes = All-append (λ b. IsTrue (test b)) line.front v line.bytes further;
  long = (let sum = length-append line.front v in let long = line.long in omega (arith, sum, long));
}

pub more_name : (text v : List ℕ) → InName text → AllPass is_token_byte v → InName (text ++ v)
more_name text v name further = more_line is_token_byte text v name further

pub more_value : (text v : List ℕ) → InValue text → AllPass is_value_byte v → InValue (text ++ v)
more_value text v value further = record {
  line = more_line is_value_byte text v value.line further;
  past = list_all-append is_token_byte value.line.front v ∙ ap (λ t. t && list_all is_token_byte v) value.past;
}

-- ---- what a wire knows

pub not_plain : (text : List ℕ) → IsPlain false false text
not_plain text = record { name = λ e. absurd cc; value = λ e. absurd cc }

pass_all : (p : ℕ → Bool) (xs : List ℕ) → list_all p xs ≡ true → AllPass p xs
pass_all p [] all = All-nil (λ b. IsTrue (p b))
pass_all p (x ∷ xs) all = let both = and_parts (p x) (list_all p xs) all in All-cons (λ b. IsTrue (p b)) x xs both.0 (pass_all p xs both.1)

-- so it is where its last line is of these bytes
pub plain_so : (text line : List ℕ) (named valued : Bool) → (lines : List ℕ) × (text ≡ lines ++ line) × StartsLine lines → (named ≡ true → (valued ≡ false) × (list_all is_token_byte line ≡ true) × (13 ≤ length line))
    → (valued ≡ true → (list_all is_token_byte line ≡ false) × (list_all is_value_byte line ≡ true) × (13 ≤ length line)) → IsPlain named valued text
plain_so text line named valued at name value = record {
  name = λ e. let n = name e in (n.0, record { lines = at.0; front = line; is = at.1; starts = at.2; bytes = pass_all is_token_byte line n.1; long = n.2 });
  value = λ e. let v = value e in record { line = record { lines = at.0; front = line; is = at.1; starts = at.2; bytes = pass_all is_value_byte line v.1; long = v.2 }; past = v.0 };
}

not_both : {b : Bool} → b ≡ true → b ≡ false → ⊥
not_both so other = cc

pub plain_more : (named valued : Bool) (text v : List ℕ) → IsPlain named valued text → GoesPlain named valued v → IsPlain named valued (text ++ v)
plain_more named valued text v plain (inl name) =
    let n = plain.name name.0 in
    record { name = λ e. (n.0, more_name text v n.1 (pass_all is_token_byte v name.1)); value = λ e. absurd (not_both e n.0) }
plain_more named valued text v plain (inr value) =
    record { name = λ e. absurd (not_both value.0 (plain.name e).0); value = λ e. more_value text v (plain.value value.0) (pass_all is_value_byte v value.1) }

pub head_goes : (named valued : Bool) (text v : List ℕ) → May head_form text → IsPlain named valued text → GoesPlain named valued v → May head_form (text ++ v)
head_goes named valued text v may plain (inl name) = head_name_goes text v may (plain.name name.0).1 (pass_all is_token_byte v name.1)
head_goes named valued text v may plain (inr value) = head_value_goes text v may (plain.value value.0) (pass_all is_value_byte v value.1)

pub trailers_go : (named valued : Bool) (text v : List ℕ) → May trailer_form text → IsPlain named valued text → GoesPlain named valued v → May trailer_form (text ++ v)
trailers_go named valued text v may plain (inl name) = trailers_name_goes text v may (plain.name name.0).1 (pass_all is_token_byte v name.1)
trailers_go named valued text v may plain (inr value) = trailers_value_goes text v may (plain.value value.0) (pass_all is_value_byte v value.1)

no_line : (p : ℕ → Bool) → p 10 ≡ false → (xs : List ℕ) → list_all p xs ≡ true → list_any is_line_feed xs ≡ false
no_line p other [] all = refl
no_line p other (x ∷ xs) all =
    let both = and_parts (p x) (list_all p xs) all in
    ap (λ t. t || list_any is_line_feed xs) (other_byte p other x both.0) ∙ no_line p other xs both.1

-- no line ends in them
pub goes_in_line : (named valued : Bool) (v : List ℕ) → GoesPlain named valued v → list_any is_line_feed v ≡ false
goes_in_line named valued v (inl name) = no_line is_token_byte no_feed v name.1
goes_in_line named valued v (inr value) = no_line is_value_byte refl v value.1

-- the bytes up to a line feed end a line
pub line_feed_starts : (text : List ℕ) (i : ℕ) → i < length text → get_or text i 0 ≡ 10 → StartsLine (take (i + 1) text)
line_feed_starts text i inside feed = inr (take i text, take_more text i 0 inside ∙ ap (λ b. take i text ++ b ∷ []) feed)
