-- A text without a torn token is written in pieces: they are found from the left.
use Rattle.std.proofs.Common.{◌≡◌, ◌≢◌, ◌⊎◌, inl, inr, ℕ, zero, suc, ◌+◌, ◌-◌, ◌<◌, ◌≤◌, Bool, true, false, ◌&&◌, ◌||◌, List, [], ◌∷◌, ◌++◌, length, refl, sym, ap, ◌∙◌, subst, append_assoc, length-append, Option, Some, None, Result, Ok, Err, arith}
use Rattle.std.specs.Prelude.{◌==◌, nat_le, slice_index}
use Rattle.std.proofs.lemmas.Bool.{cases_Bool, or_cases, false≢true}
use Rattle.std.proofs.lemmas.Bool.Decides.{nat_tests}
use Rattle.apt_conf.specs.declared.token.Token.{Token}
use Rattle.apt_conf.specs.declared.token.Token.TheVariants.{Word, Quoted, Semicolon, Open, Close, Torn}
use Rattle.apt_conf.specs.declared.lexeme.Lexeme.{Lexeme}
use Rattle.apt_conf.specs.declared.lexeme.Lexeme.TheVariants as lexemes
use Rattle.apt_conf.specs.Lexemes.{length_until, is_space, is_line_end, is_delimiter, opens_comment, closes_comment, closes_quote, ends_word, is_boundary, is_command, block_comment, comment_at, quoted_at, lexeme_at, extent}
use Rattle.apt_conf.specs.Tokens.{Placed, next_line, last_line, line_behind, placed, token_of, tokens_from, tokens_of}
use Rattle.apt_conf.specs.Pieces.{Piece, space, line_end, hash_comment, slash_comment, closed_comment, token, IsToken, IsPiece, ArePieces, token_text, piece_text, text_of, is_word_piece, token_in}
use Rattle.apt_conf.proofs.FindLemmas.{Enclosed, Quote, find_line, find_close, find_quote, find_word, word_inside}
use Rattle.apt_conf.proofs.PieceLemmas.{begins_quoted, passed, front_cut}
use Rattle.apt_conf.proofs.TreeLemmas.{tokens_read}
use Rattle.std.specs.Prelude.{OnOk}
use Rattle.apt_conf.specs.declared.entry.Entry.{Entry}
use Rattle.apt_conf.specs.Progress.{Reads}
use Rattle.apt_conf.specs.Pieces.{IsInPieces}
use Rattle.apt_conf.specs.Keys.{Pair}
use Rattle.apt_conf.specs.Reading.{pairs_of}
use Rattle.apt_conf.specs.Statements.{◌>>=◌, Place, Moved, start, moved, moved_by, step_of, on_line, step_at_start, step_when_listed, step_when_named, step_when_valued, pairs_from}
use Rattle.apt_conf.specs.declared.error.ConfError.{ConfError}
use Rattle.apt_conf.specs.declared.statement.Part.{Part}
use Rattle.apt_conf.specs.declared.statement.Part.TheVariants.{Start, Listed, Named, Valued}

-- ---- the piece at the front

record Front (word : Bool) (text : List ℕ) : Type 0 where
  piece : Piece
  rest : List ℕ
  is : text ≡ piece_text piece ++ rest
  is_piece : IsPiece word piece rest
  ends : is_word_piece piece ≡ true → ends_word rest ≡ true
  shorter : length rest < length text

abbrev IsUntorn : Bool → ℕ → List ℕ → Type 0
IsUntorn word c r = (word ≡ true → c ≢ 35) → (lexeme_at (c ∷ r) ≢ lexemes.Torn) × (lexeme_at (c ∷ r) ≢ lexemes.Unclosed)

command_torn : (r : List ℕ) → is_command (35 ∷ r) ≡ true → lexeme_at (35 ∷ r) ≡ lexemes.Torn
unfolding lexeme_at comment_at
command_torn r h = rw h refl

unclosed_torn : (r : List ℕ) → length r < length_until closes_comment r + 2 → lexeme_at (47 ∷ 42 ∷ r) ≡ lexemes.Unclosed
unfolding lexeme_at comment_at block_comment
unclosed_torn r h =
    let f : nat_le (length_until closes_comment r + 4) (length (47 ∷ 42 ∷ r)) ≡ false = grind (arith, nat_tests) in
    rw f refl

quote_torn : (text : List ℕ) → slice_index text (length_until closes_quote text + 1) ≢ 34 → quoted_at text ≡ lexemes.Torn
unfolding quoted_at
quote_torn text h =
    let f : (slice_index text (length_until closes_quote text + 1) == 34) ≡ false = grind (arith, nat_tests) in
    rw f refl

shorter_by : (a t text : List ℕ) → text ≡ a ++ t → 0 < length a → length t < length text
shorter_by a t text e some = omega (arith, some, ap length e, length-append a t)

front_hash : (word : Bool) (r : List ℕ) → IsUntorn word 35 r → Front word (35 ∷ r)
unfolding piece_text IsPiece
front_hash word r good =
    let l = find_line r in
    let is : 35 ∷ r ≡ 35 ∷ l.inside ++ l.rest = ap (λ (m : List ℕ). 35 ∷ m) l.is in
    record {
      piece = hash_comment l.inside;
      rest = l.rest;
      is = is;
      is_piece = (l.none, l.ends, λ f. subst (λ (m : List ℕ). is_command m ≡ false) is (no_command word r good f (cases_Bool (is_command (35 ∷ r)))));
      ends = λ w. absurd (false≢true w);
      shorter = shorter_by (35 ∷ l.inside) l.rest (35 ∷ r) is (omega arith);
    }
  where
    no_command : (word : Bool) (r : List ℕ) → IsUntorn word 35 r → word ≡ false → (is_command (35 ∷ r) ≡ true) ⊎ (is_command (35 ∷ r) ≡ false) → is_command (35 ∷ r) ≡ false
    no_command word r good f (inr none) = none
    no_command word r good f (inl t) = absurd ((good (λ w. absurd (false≢true (sym f ∙ w)))).0 (command_torn r t))

front_slashes : (word : Bool) (r : List ℕ) → Front word (47 ∷ 47 ∷ r)
unfolding piece_text IsPiece
front_slashes word r =
    let l = find_line r in
    let is : 47 ∷ 47 ∷ r ≡ 47 ∷ 47 ∷ l.inside ++ l.rest = ap (λ (m : List ℕ). 47 ∷ 47 ∷ m) l.is in
    record { piece = slash_comment l.inside; rest = l.rest; is = is; is_piece = (l.none, l.ends); ends = λ w. absurd (false≢true w); shorter = shorter_by (47 ∷ 47 ∷ l.inside) l.rest (47 ∷ 47 ∷ r) is (omega arith) }

front_closed : (word : Bool) (r : List ℕ) → IsUntorn word 47 (42 ∷ r) → Front word (47 ∷ 42 ∷ r)
unfolding piece_text IsPiece
front_closed word r good = found (find_close r)
  where
    found : Enclosed r ⊎ (length r < length_until closes_comment r + 2) → Front word (47 ∷ 42 ∷ r)
    found (inr short) = absurd ((good (λ w. omega arith)).1 (unclosed_torn r short))
    found (inl e) =
        let is : 47 ∷ 42 ∷ r ≡ (47 ∷ 42 ∷ e.inside ++ 42 ∷ 47 ∷ []) ++ e.rest = ap (λ (m : List ℕ). 47 ∷ 42 ∷ m) (e.is ∙ sym (append_assoc e.inside (42 ∷ 47 ∷ []) e.rest)) in
        record { piece = closed_comment e.inside; rest = e.rest; is = is; is_piece = e.none; ends = λ w. absurd (false≢true w); shorter = shorter_by (47 ∷ 42 ∷ e.inside ++ 42 ∷ 47 ∷ []) e.rest (47 ∷ 42 ∷ r) is (omega arith) }

front_quoted : (word : Bool) (r : List ℕ) → IsUntorn word 34 r → Front word (34 ∷ r)
unfolding piece_text token_text IsPiece IsToken
front_quoted word r good = found (find_quote 34 r)
  where
    found : Quote 34 r ⊎ (slice_index (34 ∷ r) (length_until closes_quote (34 ∷ r) + 1) ≢ 34) → Front word (34 ∷ r)
    found (inr torn) = absurd ((good (λ w. omega arith)).0 (begins_quoted r ∙ quote_torn (34 ∷ r) torn))
    found (inl q) =
        let is : 34 ∷ r ≡ (34 ∷ q.inside ++ 34 ∷ []) ++ q.rest = ap (λ (m : List ℕ). 34 ∷ m) (q.is ∙ sym (append_assoc q.inside (34 ∷ []) q.rest)) in
        record {
          piece = token (Quoted q.inside);
          rest = q.rest;
          is = is;
          is_piece = (q.feeds, q.quotes, λ front e. q.end (34 ∷ front) (ap (λ (l : List ℕ). 34 ∷ l) e));
          ends = λ w. absurd (false≢true w);
          shorter = shorter_by (34 ∷ q.inside ++ 34 ∷ []) q.rest (34 ∷ r) is (omega arith);
        }

front_word : (word : Bool) (c : ℕ) (r : List ℕ) → (word ≡ true → ends_word (c ∷ r) ≡ true) → ends_word (c ∷ r) ≡ false → Front word (c ∷ r)
unfolding piece_text token_text IsPiece IsToken
front_word true c r h f = absurd (false≢true (sym f ∙ h refl))
front_word false c r h f =
    let i = word_inside c r f in
    let w = find_word c r i.0 i.1 in
    let is : c ∷ r ≡ (c ∷ w.word) ++ w.rest = ap (λ (m : List ℕ). c ∷ m) w.is in
    record { piece = token (Word (c ∷ w.word)); rest = w.rest; is = is; is_piece = (refl, ((λ e. cc), w.bytes, w.none)); ends = λ e. w.ends; shorter = shorter_by (c ∷ w.word) w.rest (c ∷ r) is (omega arith) }

front_space : (word : Bool) (c : ℕ) (r : List ℕ) → (c ≡ 32) ⊎ ((c ≡ 9) ⊎ (c ≡ 10)) → Front word (c ∷ r)
unfolding piece_text IsPiece
front_space word c r h = record { piece = space c; rest = r; is = refl; is_piece = h; ends = λ w. absurd (false≢true w); shorter = omega arith }

front_line_end : (word : Bool) (r : List ℕ) → Front word (13 ∷ 10 ∷ r)
unfolding piece_text IsPiece
front_line_end word r = record { piece = line_end; rest = r; is = refl; is_piece = tt; ends = λ w. absurd (false≢true w); shorter = omega arith }

front_semicolon : (word : Bool) (r : List ℕ) → Front word (59 ∷ r)
unfolding piece_text token_text IsPiece IsToken
front_semicolon word r = record { piece = token Semicolon; rest = r; is = refl; is_piece = tt; ends = λ w. absurd (false≢true w); shorter = omega arith }

front_open : (word : Bool) (r : List ℕ) → Front word (123 ∷ r)
unfolding piece_text token_text IsPiece IsToken
front_open word r = record { piece = token Open; rest = r; is = refl; is_piece = tt; ends = λ w. absurd (false≢true w); shorter = omega arith }

front_close : (word : Bool) (r : List ℕ) → Front word (125 ∷ r)
unfolding piece_text token_text IsPiece IsToken
front_close word r = record { piece = token Close; rest = r; is = refl; is_piece = tt; ends = λ w. absurd (false≢true w); shorter = omega arith }

same_of : (c d : ℕ) → (c == d) ≡ true → c ≡ d
same_of c d h = grind (arith, nat_tests)

front_mark : (word : Bool) (c : ℕ) (r : List ℕ) → IsUntorn word c r → is_delimiter (c ∷ r) ≡ true → Front word (c ∷ r)
front_mark word c r good h = one (or_cases (c == 34 || c == 59 || c == 123) (c == 125) h)
  where
    three : ((c == 34) ≡ true) ⊎ ((c == 59) ≡ true) → Front word (c ∷ r)
    three (inl e) = subst (λ (d : ℕ). IsUntorn word d r → Front word (d ∷ r)) (sym (same_of c 34 e)) (front_quoted word r) good
    three (inr e) = subst (λ (d : ℕ). Front word (d ∷ r)) (sym (same_of c 59 e)) (front_semicolon word r)

    two : ((c == 34 || c == 59) ≡ true) ⊎ ((c == 123) ≡ true) → Front word (c ∷ r)
    two (inl e) = three (or_cases (c == 34) (c == 59) e)
    two (inr e) = subst (λ (d : ℕ). Front word (d ∷ r)) (sym (same_of c 123 e)) (front_open word r)

    one : ((c == 34 || c == 59 || c == 123) ≡ true) ⊎ ((c == 125) ≡ true) → Front word (c ∷ r)
    one (inl e) = two (or_cases (c == 34 || c == 59) (c == 123) e)
    one (inr e) = subst (λ (d : ℕ). Front word (d ∷ r)) (sym (same_of c 125 e)) (front_close word r)

front_white : (word : Bool) (c : ℕ) (r : List ℕ) → is_space (c ∷ r) ≡ true → Front word (c ∷ r)
front_white word c r h = front_space word c r (one (or_cases (c == 32 || c == 9) (c == 10) h))
  where
    two : ((c == 32) ≡ true) ⊎ ((c == 9) ≡ true) → (c ≡ 32) ⊎ ((c ≡ 9) ⊎ (c ≡ 10))
    two (inl e) = inl (same_of c 32 e)
    two (inr e) = inr (inl (same_of c 9 e))

    one : ((c == 32 || c == 9) ≡ true) ⊎ ((c == 10) ≡ true) → (c ≡ 32) ⊎ ((c ≡ 9) ⊎ (c ≡ 10))
    one (inl e) = two (or_cases (c == 32) (c == 9) e)
    one (inr e) = inr (inr (same_of c 10 e))

front_ending : (word : Bool) (c : ℕ) (r : List ℕ) → is_line_end (c ∷ r) ≡ true → Front word (c ∷ r)
front_ending word c [] h = absurd (grind (arith, nat_tests))
front_ending word c (d ∷ r) h =
    let one : c ≡ 13 = grind (arith, nat_tests) in
    let two : d ≡ 10 = grind (arith, nat_tests) in
    subst (λ (m : List ℕ). Front word m) (sym (ap (λ (x : ℕ). x ∷ d ∷ r) one ∙ ap (λ (x : ℕ). 13 ∷ x ∷ r) two)) (front_line_end word r)

front_comment : (word : Bool) (c : ℕ) (r : List ℕ) → IsUntorn word c r → opens_comment (c ∷ r) ≡ true → Front word (c ∷ r)
front_comment word c r good h = one (or_cases (c == 35) (c == 47 && (slice_index r 0 == 47 || slice_index r 0 == 42)) h)
  where
    slashed : (r : List ℕ) → IsUntorn word 47 r → ((slice_index r 0 == 47) ≡ true) ⊎ ((slice_index r 0 == 42) ≡ true) → Front word (47 ∷ r)
    slashed [] good (inl e) = absurd (false≢true e)
    slashed [] good (inr e) = absurd (false≢true e)
    slashed (d ∷ r) good (inl e) = subst (λ (x : ℕ). Front word (47 ∷ x ∷ r)) (sym (same_of d 47 e)) (front_slashes word r)
    slashed (d ∷ r) good (inr e) = subst (λ (x : ℕ). IsUntorn word 47 (x ∷ r) → Front word (47 ∷ x ∷ r)) (sym (same_of d 42 e)) (front_closed word r) good

    one : ((c == 35) ≡ true) ⊎ ((c == 47 && (slice_index r 0 == 47 || slice_index r 0 == 42)) ≡ true) → Front word (c ∷ r)
    one (inl e) = subst (λ (d : ℕ). IsUntorn word d r → Front word (d ∷ r)) (sym (same_of c 35 e)) (front_hash word r) good
    one (inr e) =
        let slash : c ≡ 47 = grind (arith, nat_tests) in
        let next : (slice_index r 0 == 47 || slice_index r 0 == 42) ≡ true = grind (arith, nat_tests) in
        subst (λ (d : ℕ). IsUntorn word d r → Front word (d ∷ r)) (sym slash) (λ g. slashed r g (or_cases (slice_index r 0 == 47) (slice_index r 0 == 42) next)) good

front_boundary : (word : Bool) (c : ℕ) (r : List ℕ) → IsUntorn word c r → is_boundary (c ∷ r) ≡ true → Front word (c ∷ r)
unfolding is_boundary
front_boundary word c r good h =
    let some : (length (c ∷ r) == 0) ≡ false = grind (arith, nat_tests) in
    one (or_cases (is_space (c ∷ r) || is_line_end (c ∷ r)) (is_delimiter (c ∷ r)) (rw some at h))
  where
    two : (is_space (c ∷ r) ≡ true) ⊎ (is_line_end (c ∷ r) ≡ true) → Front word (c ∷ r)
    two (inl e) = front_white word c r e
    two (inr e) = front_ending word c r e

    one : ((is_space (c ∷ r) || is_line_end (c ∷ r)) ≡ true) ⊎ (is_delimiter (c ∷ r) ≡ true) → Front word (c ∷ r)
    one (inl e) = two (or_cases (is_space (c ∷ r)) (is_line_end (c ∷ r)) e)
    one (inr e) = front_mark word c r good e

find_front : (word : Bool) (c : ℕ) (r : List ℕ) → IsUntorn word c r → (word ≡ true → ends_word (c ∷ r) ≡ true) → Front word (c ∷ r)
unfolding ends_word
find_front word c r good h = one (cases_Bool (ends_word (c ∷ r)))
  where
    two : (is_boundary (c ∷ r) ≡ true) ⊎ (opens_comment (c ∷ r) ≡ true) → Front word (c ∷ r)
    two (inl e) = front_boundary word c r good e
    two (inr e) = front_comment word c r good e

    one : (ends_word (c ∷ r) ≡ true) ⊎ (ends_word (c ∷ r) ≡ false) → Front word (c ∷ r)
    one (inl e) = two (or_cases (is_boundary (c ∷ r)) (opens_comment (c ∷ r)) e)
    one (inr e) = front_word word c r h e

-- ---- all pieces

abbrev NoTorn : List Placed → Type 0
NoTorn [] = Unit {0}
NoTorn (t ∷ ts) = (t.token ≢ Torn) × NoTorn ts

torn_at : (last line c : ℕ) (r : List ℕ) → NoTorn (tokens_from last line 0 (c ∷ r)) → (lexeme_at (c ∷ r) ≢ lexemes.Torn) × (lexeme_at (c ∷ r) ≢ lexemes.Unclosed)
unfolding tokens_from
torn_at last line c r h =
    let P : Lexeme → Type 0 = λ l. NoTorn (token_of last line l (c ∷ r) ++ tokens_from last (next_line line c) (extent l - 1) r) in
    (λ e. (subst P e h).0 refl, λ e. (subst P e h).0 refl)

passed_none : (word : Bool) (c : ℕ) (r : List ℕ) → (word ≡ true → c ≢ 35) → passed word (c ∷ r) ≡ 0
passed_none false c r h = refl
passed_none true c r h =
    let other : c ≢ 35 = h refl in
    let f : (c == 35) ≡ false = grind (arith, nat_tests) in
    rw f refl

untorn : (last line : ℕ) (word : Bool) (c : ℕ) (r : List ℕ) → NoTorn (tokens_from last line (passed word (c ∷ r)) (c ∷ r)) → IsUntorn word c r
untorn last line word c r h w = torn_at last line c r (subst (λ (n : ℕ). NoTorn (tokens_from last line n (c ∷ r))) (passed_none word c r w) h)

no_torn_behind : (line : ℕ) (t : Option Token) (ts : List Placed) → NoTorn (placed line t ++ ts) → NoTorn ts
no_torn_behind line None ts h = h
no_torn_behind line (Some t) ts h = h.1

record Written (word : Bool) (text : List ℕ) : Type 0 where
  pieces : List Piece
  is : text ≡ text_of pieces
  are : ArePieces word pieces

find_pieces : (n last line : ℕ) (word : Bool) (text : List ℕ) → length text ≤ n → (word ≡ true → ends_word text ≡ true) → NoTorn (tokens_from last line (passed word text) text) → Written word text
unfolding text_of ArePieces
find_pieces n last line word [] short ends h = record { pieces = []; is = refl; are = tt }
find_pieces zero last line word (c ∷ r) short ends h = absurd (omega arith)
find_pieces (suc n) last line word (c ∷ r) short ends h =
    let f = find_front word c r (untorn last line word c r h) ends in
    let cut = front_cut last line word f.piece f.rest f.is_piece f.ends in
    let g = subst NoTorn (ap (λ (t : List ℕ). tokens_from last line (passed word t) t) f.is ∙ cut) h in
    let less : length f.rest ≤ n = omega (arith, f.shorter) in
    let behind = tokens_from last (line_behind line (piece_text f.piece)) (passed (is_word_piece f.piece) f.rest) f.rest in
    let w = find_pieces n last (line_behind line (piece_text f.piece)) (is_word_piece f.piece) f.rest less f.ends (no_torn_behind line (token_in f.piece) behind g) in
    record { pieces = f.piece ∷ w.pieces; is = f.is ∙ ap (λ (t : List ℕ). piece_text f.piece ++ t) w.is; are = (subst (λ (t : List ℕ). IsPiece word f.piece t) w.is f.is_piece, w.are) }

-- ---- what is read has no torn token

torn_stops : (blocks : List (List ℕ)) (part : Part) → moved_by blocks (step_of part Torn) ≡ None
unfolding step_at_start step_when_listed step_when_named step_when_valued
torn_stops blocks Start = refl
torn_stops blocks Listed = refl
torn_stops blocks (Named key) = refl
torn_stops blocks (Valued key value) = refl

step_read : (line : ℕ) (step : Option Moved) (read : Place → Result (List Pair) ConfError) (pairs : List Pair) → (on_line line step >>= λ m. read m.place >>= λ ps. Ok (m.pairs ++ ps)) ≡ Ok pairs
    → (m : Moved) × (step ≡ Some m) × ((more : List Pair) × (read m.place ≡ Ok more))
step_read line None read pairs h = absurd cc
step_read line (Some m) read pairs h = (m, refl, inner (read m.place) h)
  where
    inner : (r : Result (List Pair) ConfError) → (r >>= λ ps. Ok (m.pairs ++ ps)) ≡ Ok pairs → (more : List Pair) × (r ≡ Ok more)
    inner (Ok more) h = (more, refl)
    inner (Err e) h = absurd cc

none_moved : (m : Moved) → None ≡ Some m → ⊥
none_moved m e = cc

read_untorn : (last : ℕ) (place : Place) (ts : List Placed) (pairs : List Pair) → pairs_from last place ts ≡ Ok pairs → NoTorn ts
unfolding pairs_from
read_untorn last place [] pairs h = tt
read_untorn last place (t ∷ ts) pairs h =
    let s = step_read t.line (moved place t.token) (λ p. pairs_from last p ts) pairs h in
    (λ e. none_moved s.0 (sym (torn_stops place.blocks place.part) ∙ sym (ap (λ (k : Token). moved place k) e) ∙ s.1), read_untorn last s.0.place ts s.2.0 s.2.1)

-- a text that is read is written in pieces
read_written : (text : List ℕ) (pairs : List Pair) → pairs_of text ≡ Ok pairs → IsInPieces text
read_written text pairs h =
    let w = find_pieces (length text) (last_line text) 1 false text (omega arith) (λ e. absurd (false≢true e)) (read_untorn (last_line text) start (tokens_of text) pairs (tokens_read text pairs h)) in
    (w.pieces, (w.is, w.are))

in_pieces : (old new : List Entry) (result : Result (Unit {0}) ConfError) (read : Result (List Pair) ConfError) (text : List ℕ) → pairs_of text ≡ read → Reads old new result read → OnOk result (IsInPieces text)
in_pieces old new (Ok x) (Ok pairs) text e r = read_written text pairs e
in_pieces old new (Ok x) (Err d) text e r = absurd r
in_pieces old new (Err d) read text e r = tt

pub reads_pieces : (old new : List Entry) (result : Result (Unit {0}) ConfError) (text : List ℕ) → Reads old new result (pairs_of text) → OnOk result (IsInPieces text)
reads_pieces old new result text r = in_pieces old new result (pairs_of text) text refl r
