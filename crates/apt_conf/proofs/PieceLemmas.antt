-- A text that is written piece by piece is cut into the tokens of its pieces.
use Rattle.std.proofs.Common.{◌≡◌, ◌≢◌, ◌⊎◌, inl, inr, ℕ, zero, suc, ◌+◌, ◌-◌, Bool, true, false, not, ◌&&◌, ◌||◌, List, [], ◌∷◌, ◌++◌, length, take, drop, All, refl, ap, ◌∙◌, append_assoc, length-append, arith}
use Rattle.std.specs.Prelude.{if◌then◌else◌, ◌==◌, nat_le, slice_index}
use Rattle.std.proofs.lemmas.Bool.Decides.{nat_tests}
use Rattle.std.proofs.lemmas.List.{take_at, drop_at}
use Rattle.apt_conf.specs.declared.token.Token.{Token}
use Rattle.apt_conf.specs.declared.token.Token.TheVariants.{Word, Quoted, Semicolon, Open, Close, Torn}
use Rattle.apt_conf.specs.declared.lexeme.Lexeme.{Lexeme}
use Rattle.apt_conf.specs.declared.lexeme.Lexeme.TheVariants as lexemes
use Rattle.apt_conf.specs.Lexemes.{length_until, is_space, is_line_end, is_feed, is_delimiter, opens_comment, closes_comment, closes_quote, ends_word, is_boundary, is_command, line_comment, block_comment, comment_at, quoted_at, word_at, token_at, lexeme_at, extent}
use Rattle.apt_conf.specs.Tokens.{Placed, next_line, last_line, line_behind, placed, token_of, tokens_from, tokens_of}
use Rattle.apt_conf.specs.Pieces.{Piece, space, line_end, hash_comment, slash_comment, closed_comment, token, EachPair, IsWordByte, NothingBegins, IsWord, IsQuotable, EndsLine, IsToken, IsPiece, ArePieces, token_text, piece_text, text_of, is_word_piece, token_in, tokens_in, IsWritten}

-- ---- passing over bytes

pass : (last line m n : ℕ) (a t : List ℕ) → n ≡ length a + m → tokens_from last line n (a ++ t) ≡ tokens_from last (line_behind line a) m t
unfolding tokens_from line_behind
pass last line m n [] t e = let same : n ≡ m = omega arith in rw same refl
pass last line m zero (c ∷ a) t e = absurd (omega arith)
pass last line m (suc n) (c ∷ a) t e = let less : n ≡ length a + m = omega arith in pass last (next_line line c) m n a t less

pub cut_front : (last line m c : ℕ) (a t : List ℕ) → extent (lexeme_at (c ∷ a ++ t)) ≡ length a + m + 1
    → tokens_from last line 0 (c ∷ a ++ t) ≡ token_of last line (lexeme_at (c ∷ a ++ t)) (c ∷ a ++ t) ++ tokens_from last (line_behind line (c ∷ a)) m t
unfolding tokens_from line_behind
cut_front last line m c a t e =
    let less : extent (lexeme_at (c ∷ a ++ t)) - 1 ≡ length a + m = omega arith in
    ap (λ (ts : List Placed). token_of last line (lexeme_at (c ∷ a ++ t)) (c ∷ a ++ t) ++ ts) (pass last (next_line line c) m (extent (lexeme_at (c ∷ a ++ t)) - 1) a t less)

-- ---- how long comments, quoted values and words are

all_tail : (P : ℕ → Type 0) (c : ℕ) (rest : List ℕ) → All P (c ∷ rest) → All P rest
all_tail P c rest h = λ k d lt. h (suc k) d (omega arith)

all_head : (P : ℕ → Type 0) (c : ℕ) (rest : List ℕ) → All P (c ∷ rest) → P c
all_head P c rest h = h 0 c (omega arith)

feed_front : (t : List ℕ) → EndsLine t → length_until is_feed t ≡ 0
unfolding length_until
feed_front [] e = refl
feed_front (c ∷ t) (inl e) = absurd cc
feed_front (c ∷ t) (inr e) = rw e refl

pub line_end_at : (text t : List ℕ) → All (λ c. c ≢ 10) text → EndsLine t → length_until is_feed (text ++ t) ≡ length text
unfolding length_until
line_end_at [] t h e = feed_front t e
line_end_at (c ∷ text) t h e =
    let other : c ≢ 10 = all_head (λ d. d ≢ 10) c text h in
    let f : (c == 10) ≡ false = grind (arith, nat_tests) in
    rw f (omega (arith, line_end_at text t (all_tail (λ d. d ≢ 10) c text h) e))

stays_open : (c d : ℕ) → (c ≡ 42 → d ≢ 47) → ((c == 42) && (d == 47)) ≡ false
stays_open c d h = grind (arith, nat_tests)

pub closed_at : (text t : List ℕ) → EachPair (λ c d. c ≡ 42 → d ≢ 47) text → length_until closes_comment (text ++ 42 ∷ 47 ∷ t) ≡ length text
unfolding length_until closes_comment EachPair
closed_at [] t h = refl
closed_at (c ∷ []) t h =
    let f : closes_comment (c ∷ 42 ∷ 47 ∷ t) ≡ false = stays_open c 42 (λ e. omega arith) in
    rw f (omega (arith, closed_at [] t tt))
closed_at (c ∷ d ∷ text) t h =
    let f : closes_comment (c ∷ d ∷ text ++ 42 ∷ 47 ∷ t) ≡ false = stays_open c d h.0 in
    rw f (omega (arith, closed_at (d ∷ text) t h.1))

stays_quoted : (c d : ℕ) → d ≢ 10 → (d ≡ 34 → c ≡ 92) → ((d == 10) || ((d == 34) && not (c == 92))) ≡ false
stays_quoted c d feed quote = grind (arith, nat_tests)

pub quote_at : (before : ℕ) (text t : List ℕ) → All (λ c. c ≢ 10) text → EachPair (λ c d. d ≡ 34 → c ≡ 92) (before ∷ text) → ((front : List ℕ) → before ∷ text ≢ front ++ 92 ∷ [])
    → length_until closes_quote (before ∷ text ++ 34 ∷ t) ≡ length text
unfolding length_until closes_quote EachPair
quote_at before [] t feeds quotes end =
    let other : before ≢ 92 = λ e. end [] (ap (λ (c : ℕ). c ∷ []) e) in
    let f : (before == 92) ≡ false = grind (arith, nat_tests) in
    rw f refl
quote_at before (c ∷ text) t feeds quotes end =
    let f : closes_quote (before ∷ c ∷ text ++ 34 ∷ t) ≡ false = stays_quoted before c (all_head (λ d. d ≢ 10) c text feeds) quotes.0 in
    rw f (omega (arith, quote_at c text t (all_tail (λ d. d ≢ 10) c text feeds) quotes.1 (λ front e. end (before ∷ front) (ap (λ (l : List ℕ). before ∷ l) e))))

-- no word ends before such a byte, and none begins as something else
no_word_end : (d : ℕ) (r : List ℕ) → IsWordByte d → NothingBegins d (slice_index r 0) → ends_word (d ∷ r) ≡ false
unfolding ends_word is_boundary
no_word_end d r h b = grind (arith, nat_tests)

pair_front : (d : ℕ) (w t : List ℕ) → EachPair NothingBegins (d ∷ w ++ take 1 t) → NothingBegins d (slice_index (w ++ t) 0)
unfolding EachPair
pair_front d (e ∷ w) t h = h.0
pair_front d [] (e ∷ t) h = h.0
pair_front d [] [] h = (λ a. (λ b. omega arith, λ b. omega arith), λ a b. omega arith)

pair_tail : (d : ℕ) (w t : List ℕ) → EachPair NothingBegins (d ∷ w ++ take 1 t) → EachPair NothingBegins (w ++ take 1 t)
unfolding EachPair
pair_tail d (e ∷ w) t h = h.1
pair_tail d [] (e ∷ t) h = h.1
pair_tail d [] [] h = tt

word_front : (t : List ℕ) → ends_word t ≡ true → length_until ends_word t ≡ 0
unfolding length_until
word_front [] e = refl
word_front (c ∷ t) e = rw e refl

pub word_end_at : (w t : List ℕ) → All IsWordByte w → EachPair NothingBegins (w ++ take 1 t) → ends_word t ≡ true → length_until ends_word (w ++ t) ≡ length w
unfolding length_until
word_end_at [] t h b e = word_front t e
word_end_at (d ∷ w) t h b e =
    let f : ends_word (d ∷ w ++ t) ≡ false = no_word_end d (w ++ t) (all_head IsWordByte d w h) (pair_front d w t b) in
    rw f (omega (arith, word_end_at w t (all_tail IsWordByte d w h) (pair_tail d w t b) e))

-- ---- what stands at the front

at_space : (c : ℕ) (t : List ℕ) → (c ≡ 32) ⊎ ((c ≡ 9) ⊎ (c ≡ 10)) → lexeme_at (c ∷ t) ≡ lexemes.Gap 1
unfolding lexeme_at
at_space c t (inl e) = rw e refl
at_space c t (inr (inl e)) = rw e refl
at_space c t (inr (inr e)) = rw e refl

at_hash : (r : List ℕ) → is_command (35 ∷ r) ≡ false → lexeme_at (35 ∷ r) ≡ lexemes.Gap (length_until is_feed r + 1)
unfolding lexeme_at comment_at line_comment
at_hash r h = rw h refl

at_slashes : (r : List ℕ) → lexeme_at (47 ∷ 47 ∷ r) ≡ lexemes.Gap (length_until is_feed (47 ∷ r) + 1)
unfolding lexeme_at comment_at line_comment
at_slashes r = refl

at_closed : (text t : List ℕ) → EachPair (λ c d. c ≡ 42 → d ≢ 47) text → lexeme_at (47 ∷ 42 ∷ text ++ 42 ∷ 47 ∷ t) ≡ lexemes.Gap (length text + 4)
unfolding lexeme_at comment_at block_comment
at_closed text t h =
    let n : length (text ++ 42 ∷ 47 ∷ t) ≡ length text + length (42 ∷ 47 ∷ t) = length-append text (42 ∷ 47 ∷ t) in
    let f : nat_le (length text + 4) (length (47 ∷ 42 ∷ text ++ 42 ∷ 47 ∷ t)) ≡ true = grind (arith, nat_tests) in
    rw (closed_at text t h, f) refl

index_behind : (text t : List ℕ) (n : ℕ) → n ≡ length text → slice_index (text ++ t) n ≡ slice_index t 0
index_behind [] t n e = rw e refl
index_behind (c ∷ text) t zero e = absurd (omega arith)
index_behind (c ∷ text) t (suc n) e = index_behind text t n (omega arith)

pub begins_quoted : (r : List ℕ) → lexeme_at (34 ∷ r) ≡ quoted_at (34 ∷ r)
unfolding lexeme_at token_at
begins_quoted r = refl

quoted_if : (text : List ℕ) (n : ℕ) → length_until closes_quote text ≡ n → slice_index text (n + 1) ≡ 34 → quoted_at text ≡ lexemes.Quoted n
unfolding quoted_at
quoted_if text n e q = rw (e, q) refl

pub same_head : (a b : ℕ) (l m : List ℕ) → a ∷ l ≡ b ∷ m → a ≡ b
same_head a b l m e = cc

no_end_behind : (text : List ℕ) → ((front : List ℕ) → text ≢ front ++ 92 ∷ []) → (front : List ℕ) → 34 ∷ text ≢ front ++ 92 ∷ []
no_end_behind text h [] e = omega (arith, same_head 34 92 text [] e)
no_end_behind text h (c ∷ front) e = h front (ap (λ (l : List ℕ). drop 1 l) e)

at_quoted : (text t : List ℕ) → IsQuotable text → lexeme_at (34 ∷ text ++ 34 ∷ t) ≡ lexemes.Quoted (length text)
at_quoted text t h =
    let n = quote_at 34 text t h.0 h.1 (no_end_behind text h.2) in
    let q = index_behind (34 ∷ text) (34 ∷ t) (length text + 1) (omega arith) in
    begins_quoted (text ++ 34 ∷ t) ∙ quoted_if (34 ∷ text ++ 34 ∷ t) (length text) n q

begins_word : (c : ℕ) (r : List ℕ) → IsWordByte c → NothingBegins c (slice_index r 0) → lexeme_at (c ∷ r) ≡ word_at (c ∷ r)
unfolding lexeme_at token_at
begins_word c r h b =
    let blank : (c == 32 || c == 9 || c == 10) ≡ false = grind (arith, nat_tests) in
    let ending : (c == 13 && slice_index r 0 == 10) ≡ false = grind (arith, nat_tests) in
    let comment : (c == 35 || (c == 47 && (slice_index r 0 == 47 || slice_index r 0 == 42))) ≡ false = grind (arith, nat_tests) in
    let quote : (c == 34) ≡ false = grind (arith, nat_tests) in
    let semicolon : (c == 59) ≡ false = grind (arith, nat_tests) in
    let left : (c == 123) ≡ false = grind (arith, nat_tests) in
    let right : (c == 125) ≡ false = grind (arith, nat_tests) in
    rw (blank, ending, comment, quote, semicolon, left, right) refl

-- the `#` comment that ends a word
abbrev pub hash_length : List ℕ → ℕ
hash_length t = if slice_index t 0 == 35 then length_until is_feed t else 0

word_if : (r : List ℕ) (c n m : ℕ) (t : List ℕ) → length_until ends_word r ≡ n → slice_index (c ∷ r) (n + 1) ≡ slice_index t 0 → drop (n + 1) (c ∷ r) ≡ t → word_at (c ∷ r) ≡ lexemes.Word (n + 1) (hash_length t)
unfolding word_at
word_if r c n m t e f g = rw (e, f, g) refl

at_word : (c : ℕ) (w t : List ℕ) → IsWord (c ∷ w) t → ends_word t ≡ true → lexeme_at (c ∷ w ++ t) ≡ lexemes.Word (length w + 1) (hash_length t)
at_word c w t h e =
    let n = word_end_at w t (all_tail IsWordByte c w h.1) (pair_tail c w t h.2) e in
    begins_word c (w ++ t) (all_head IsWordByte c w h.1) (pair_front c w t h.2)
    ∙ word_if (w ++ t) c (length w) 0 t n (index_behind (c ∷ w) t (length w + 1) (omega arith)) (drop_at (c ∷ w) t (length w + 1) (omega arith))

-- ---- a piece is cut off

-- what gives no token
cut_gap : (last line c : ℕ) (a t : List ℕ) → lexeme_at (c ∷ a ++ t) ≡ lexemes.Gap (length a + 1) → tokens_from last line 0 (c ∷ a ++ t) ≡ tokens_from last (line_behind line (c ∷ a)) 0 t
cut_gap last line c a t e =
    let n : extent (lexeme_at (c ∷ a ++ t)) ≡ length a + 0 + 1 = ap extent e ∙ omega arith in
    cut_front last line 0 c a t n ∙ ap (λ (l : Lexeme). token_of last line l (c ∷ a ++ t) ++ tokens_from last (line_behind line (c ∷ a)) 0 t) e

cut_hash : (last line : ℕ) (text t : List ℕ) → All (λ c. c ≢ 10) text → EndsLine t → is_command (35 ∷ text ++ t) ≡ false → tokens_from last line 0 (35 ∷ text ++ t) ≡ tokens_from last (line_behind line (35 ∷ text)) 0 t
cut_hash last line text t h e command = cut_gap last line 35 text t (at_hash (text ++ t) command ∙ ap (λ n. lexemes.Gap (n + 1)) (line_end_at text t h e))

cut_slashes : (last line : ℕ) (text t : List ℕ) → All (λ c. c ≢ 10) text → EndsLine t → tokens_from last line 0 (47 ∷ 47 ∷ text ++ t) ≡ tokens_from last (line_behind line (47 ∷ 47 ∷ text)) 0 t
cut_slashes last line text t h e =
    let n : length_until is_feed (47 ∷ text ++ t) ≡ length (47 ∷ text) = line_end_at (47 ∷ text) t (all_with text h) e in
    cut_gap last line 47 (47 ∷ text) t (at_slashes (text ++ t) ∙ ap (λ n. lexemes.Gap (n + 1)) n)
  where
    all_with : (text : List ℕ) → All (λ c. c ≢ 10) text → All (λ c. c ≢ 10) (47 ∷ text)
    all_with text h zero d lt = λ e. omega arith
    all_with text h (suc k) d lt = h k d (omega arith)

cut_closed : (last line : ℕ) (text t : List ℕ) → EachPair (λ c d. c ≡ 42 → d ≢ 47) text → tokens_from last line 0 ((47 ∷ 42 ∷ text ++ 42 ∷ 47 ∷ []) ++ t) ≡ tokens_from last (line_behind line (47 ∷ 42 ∷ text ++ 42 ∷ 47 ∷ [])) 0 t
cut_closed last line text t h =
    let same : (text ++ 42 ∷ 47 ∷ []) ++ t ≡ text ++ 42 ∷ 47 ∷ t = append_assoc text (42 ∷ 47 ∷ []) t in
    let n : length (text ++ 42 ∷ 47 ∷ []) ≡ length text + 2 = length-append text (42 ∷ 47 ∷ []) in
    let count : length text + 4 ≡ length (42 ∷ text ++ 42 ∷ 47 ∷ []) + 1 = omega (arith, n) in
    cut_gap last line 47 (42 ∷ text ++ 42 ∷ 47 ∷ []) t
    (ap (λ (l : List ℕ). lexeme_at (47 ∷ 42 ∷ l)) same ∙ at_closed text t h ∙ ap (λ k. lexemes.Gap k) count)

cut_quoted : (last line : ℕ) (text t : List ℕ) → IsQuotable text
    → tokens_from last line 0 ((34 ∷ text ++ 34 ∷ []) ++ t) ≡ record { line = line; token = Quoted text } ∷ tokens_from last (line_behind line (34 ∷ text ++ 34 ∷ [])) 0 t
cut_quoted last line text t h =
    let same : (text ++ 34 ∷ []) ++ t ≡ text ++ 34 ∷ t = append_assoc text (34 ∷ []) t in
    let n : length (text ++ 34 ∷ []) ≡ length text + 1 = length-append text (34 ∷ []) in
    let e : lexeme_at (34 ∷ (text ++ 34 ∷ []) ++ t) ≡ lexemes.Quoted (length text) = ap (λ (l : List ℕ). lexeme_at (34 ∷ l)) same ∙ at_quoted text t h in
    let count : extent (lexeme_at (34 ∷ (text ++ 34 ∷ []) ++ t)) ≡ length (text ++ 34 ∷ []) + 0 + 1 = ap extent e ∙ omega (arith, n) in
    let kept : take (length text) ((text ++ 34 ∷ []) ++ t) ≡ text = ap (λ (l : List ℕ). take (length text) l) same ∙ take_at text (34 ∷ t) (length text) refl in
    let behind = tokens_from last (line_behind line (34 ∷ text ++ 34 ∷ [])) 0 t in
    cut_front last line 0 34 (text ++ 34 ∷ []) t count
    ∙ ap (λ (l : Lexeme). token_of last line l (34 ∷ (text ++ 34 ∷ []) ++ t) ++ behind) e
    ∙ ap (λ (l : List ℕ). record { line = line; token = Quoted l } ∷ behind) kept

-- a word; the `#` comment that ends it, if one does, is passed over with it
cut_word : (last line c : ℕ) (w t : List ℕ) → IsWord (c ∷ w) t → ends_word t ≡ true
    → tokens_from last line 0 (c ∷ w ++ t) ≡ record { line = line; token = Word (c ∷ w) } ∷ tokens_from last (line_behind line (c ∷ w)) (hash_length t) t
cut_word last line c w t h e =
    let l : lexeme_at (c ∷ w ++ t) ≡ lexemes.Word (length w + 1) (hash_length t) = at_word c w t h e in
    let count : extent (lexeme_at (c ∷ w ++ t)) ≡ length w + hash_length t + 1 = ap extent l ∙ omega arith in
    let kept : take (length w + 1) (c ∷ w ++ t) ≡ c ∷ w = take_at (c ∷ w) t (length w + 1) (omega arith) in
    let behind = tokens_from last (line_behind line (c ∷ w)) (hash_length t) t in
    cut_front last line (hash_length t) c w t count
    ∙ ap (λ (x : Lexeme). token_of last line x (c ∷ w ++ t) ++ behind) l
    ∙ ap (λ (l : List ℕ). record { line = line; token = Word l } ∷ behind) kept

-- a mark
cut_mark : (last line c : ℕ) (t : List ℕ) (found : Token) (l : Lexeme) → lexeme_at (c ∷ t) ≡ l → extent l ≡ 1 → token_of last line l (c ∷ t) ≡ record { line = line; token = found } ∷ []
    → tokens_from last line 0 (c ∷ t) ≡ record { line = line; token = found } ∷ tokens_from last (line_behind line (c ∷ [])) 0 t
cut_mark last line c t found l e one gives =
    cut_front last line 0 c [] t (ap extent e ∙ one)
    ∙ ap (λ (x : Lexeme). token_of last line x (c ∷ t) ++ tokens_from last (line_behind line (c ∷ [])) 0 t) e
    ∙ ap (λ (ts : List Placed). ts ++ tokens_from last (line_behind line (c ∷ [])) 0 t) gives

-- ---- pieces one behind the other

-- how much of a text is passed over already: behind a word the `#` comment that ends it
abbrev pub passed : Bool → List ℕ → ℕ
passed behind_word t = if behind_word then hash_length t else 0

abbrev pub Cut : ℕ → ℕ → ℕ → Piece → List ℕ → Type 0
Cut last line n piece t =
    tokens_from last line n (piece_text piece ++ t) ≡ placed line (token_in piece) ++ tokens_from last (line_behind line (piece_text piece)) (passed (is_word_piece piece) t) t

piece_cut : (last line : ℕ) (piece : Piece) (t : List ℕ) → IsPiece false piece t → (is_word_piece piece ≡ true → ends_word t ≡ true) → Cut last line 0 piece t
unfolding piece_text token_text IsPiece IsToken lexeme_at token_at
piece_cut last line (space c) t h e = cut_gap last line c [] t (at_space c t h)
piece_cut last line line_end t h e = cut_gap last line 13 (10 ∷ []) t refl
piece_cut last line (hash_comment text) t h e = cut_hash last line text t h.0 h.1 (h.2 refl)
piece_cut last line (slash_comment text) t h e = cut_slashes last line text t h.0 h.1
piece_cut last line (closed_comment text) t h e = cut_closed last line text t h
piece_cut last line (token (Word [])) t h e = absurd (h.1.0 refl)
piece_cut last line (token (Word (c ∷ w))) t h e = cut_word last line c w t h.1 (e refl)
piece_cut last line (token (Quoted text)) t h e = cut_quoted last line text t h
piece_cut last line (token Semicolon) t h e = cut_mark last line 59 t Semicolon lexemes.Semicolon refl refl refl
piece_cut last line (token Open) t h e = cut_mark last line 123 t Open lexemes.Open refl refl refl
piece_cut last line (token Close) t h e = cut_mark last line 125 t Close lexemes.Close refl refl refl
piece_cut last line (token Torn) t h e = absurd h

hash_end : (text t : List ℕ) → All (λ c. c ≢ 10) text → EndsLine t → length_until is_feed (35 ∷ text ++ t) ≡ length (35 ∷ text) + 0
unfolding length_until
hash_end text t h e = omega (arith, line_end_at text t h e)

-- directly behind a word
piece_cut_behind : (last line : ℕ) (piece : Piece) (t : List ℕ) → IsPiece true piece t → Cut last line (hash_length (piece_text piece ++ t)) piece t
unfolding piece_text token_text IsPiece IsToken
piece_cut_behind last line (space c) t (inl e) = rw e (piece_cut last line (space 32) t (inl refl) (λ f. absurd cc))
piece_cut_behind last line (space c) t (inr (inl e)) = rw e (piece_cut last line (space 9) t (inr (inl refl)) (λ f. absurd cc))
piece_cut_behind last line (space c) t (inr (inr e)) = rw e (piece_cut last line (space 10) t (inr (inr refl)) (λ f. absurd cc))
piece_cut_behind last line line_end t h = piece_cut last line line_end t tt (λ f. absurd cc)
piece_cut_behind last line (hash_comment text) t h = pass last line 0 (length_until is_feed (35 ∷ text ++ t)) (35 ∷ text) t (hash_end text t h.0 h.1)
piece_cut_behind last line (slash_comment text) t h = piece_cut last line (slash_comment text) t h (λ f. absurd cc)
piece_cut_behind last line (closed_comment text) t h = piece_cut last line (closed_comment text) t h (λ f. absurd cc)
piece_cut_behind last line (token (Word w)) t h = absurd cc
piece_cut_behind last line (token (Quoted text)) t h = piece_cut last line (token (Quoted text)) t h (λ f. absurd cc)
piece_cut_behind last line (token Semicolon) t h = piece_cut last line (token Semicolon) t tt (λ f. absurd cc)
piece_cut_behind last line (token Open) t h = piece_cut last line (token Open) t tt (λ f. absurd cc)
piece_cut_behind last line (token Close) t h = piece_cut last line (token Close) t tt (λ f. absurd cc)
piece_cut_behind last line (token Torn) t h = absurd h

ends_at : (c : ℕ) (t : List ℕ) → ((is_space (c ∷ t) || is_line_end (c ∷ t) || is_delimiter (c ∷ t)) || opens_comment (c ∷ t)) ≡ true → ends_word (c ∷ t) ≡ true
unfolding ends_word is_boundary
ends_at c t h =
    let some : (length (c ∷ t) == 0) ≡ false = grind (arith, nat_tests) in
    rw some h

ends_before_piece : (piece : Piece) (t : List ℕ) → IsPiece true piece t → ends_word (piece_text piece ++ t) ≡ true
unfolding piece_text token_text IsPiece IsToken
ends_before_piece (space c) t (inl e) = ends_at c t (rw e refl)
ends_before_piece (space c) t (inr (inl e)) = ends_at c t (rw e refl)
ends_before_piece (space c) t (inr (inr e)) = ends_at c t (rw e refl)
ends_before_piece line_end t h = ends_at 13 (10 ∷ t) refl
ends_before_piece (hash_comment text) t h = ends_at 35 (text ++ t) refl
ends_before_piece (slash_comment text) t h = ends_at 47 (47 ∷ text ++ t) refl
ends_before_piece (closed_comment text) t h = ends_at 47 (42 ∷ (text ++ 42 ∷ 47 ∷ []) ++ t) refl
ends_before_piece (token (Word text)) t h = absurd cc
ends_before_piece (token (Quoted text)) t h = ends_at 34 ((text ++ 34 ∷ []) ++ t) refl
ends_before_piece (token Semicolon) t h = ends_at 59 t refl
ends_before_piece (token Open) t h = ends_at 123 t refl
ends_before_piece (token Close) t h = ends_at 125 t refl
ends_before_piece (token Torn) t h = absurd h

-- a word ends before what may stand behind it
ends_before : (pieces : List Piece) → ArePieces true pieces → ends_word (text_of pieces) ≡ true
unfolding text_of ArePieces ends_word is_boundary
ends_before [] h = refl
ends_before (piece ∷ behind) h = ends_before_piece piece (text_of behind) h.0

ends_behind : (word : Bool) (pieces : List Piece) → ArePieces word pieces → word ≡ true → ends_word (text_of pieces) ≡ true
ends_behind true pieces h e = ends_before pieces h
ends_behind false pieces h e = absurd cc

pub front_cut : (last line : ℕ) (word : Bool) (piece : Piece) (t : List ℕ) → IsPiece word piece t → (is_word_piece piece ≡ true → ends_word t ≡ true) → Cut last line (passed word (piece_text piece ++ t)) piece t
front_cut last line true piece t h e = piece_cut_behind last line piece t h
front_cut last line false piece t h e = piece_cut last line piece t h e

cut : (last line : ℕ) (word : Bool) (pieces : List Piece) → ArePieces word pieces → tokens_from last line (passed word (text_of pieces)) (text_of pieces) ≡ tokens_in line pieces
unfolding tokens_from text_of ArePieces tokens_in
cut last line true [] h = refl
cut last line false [] h = refl
cut last line word (piece ∷ behind) h =
    front_cut last line word piece (text_of behind) h.0 (ends_behind (is_word_piece piece) behind h.1)
    ∙ ap (λ (ts : List Placed). placed line (token_in piece) ++ ts) (cut last (line_behind line (piece_text piece)) (is_word_piece piece) behind h.1)

-- a text that is written piece by piece has the tokens of its pieces
pub written_tokens : (text : List ℕ) (pieces : List Piece) → IsWritten text pieces → tokens_of text ≡ tokens_in 1 pieces
written_tokens text pieces h = ap (λ (t : List ℕ). tokens_of t) h.0 ∙ cut (last_line (text_of pieces)) 1 false pieces h.1
