-- How many lines and spaces the parts of a request have.
use Rattle.std.proofs.Common.{◌≡◌, ℕ, ◌+◌, ◌<◌, ◌≤◌, List, [], ◌∷◌, ◌++◌, length, drop, arith, true, false, Bool, cond, suc, sym, ap, subst, ◌∙◌, refl, append_assoc, append-nil}
use Rattle.std.specs.Prelude.{◌||◌, IsTrue, ◌==◌, ◌&&◌, if◌then◌else◌}
use Rattle.std.specs.List.{list_all, prefix_len, count_by}
use Rattle.std.proofs.lemmas.Bool.{and_parts}
use Rattle.std.proofs.lemmas.Bool.Decides.{nat_tests}
use Rattle.std.proofs.lemmas.List.{same_from_push}
use Rattle.std.proofs.lemmas.List.Elements.{All-head, All-tail}
use Rattle.std.proofs.lemmas.List.Sums.{sum_by-append, count_by-le-length}
use Rattle.httparse.specs.Pieces.{is_newline}
use Rattle.httparse.specs.Grammar.{AllPass, IsToken, is_token_byte, is_uri_byte, RequestHead, IsRequestHead, LineEnd, crlf, lf, print_end, print_blank, print_version, print_section}
use Rattle.httparse.specs.Spans.{RequestExceeds}
use Rattle.httparse.proofs.GrammarLemmas.{print_request-append}
use Rattle.http_wire.specs.Forms.{is_line_feed, line_feeds, lines_behind_blank}
use Rattle.http_wire.proofs.Lists.{snoc}
use Rattle.http_wire.proofs.LineCounts.{feeds-append, end_feeds, version_feeds, section_feeds, blank_newlines}
use Rattle.http_requests.specs.Heads.{behind_blank, is_space}

-- ---- bytes that a part doesn't have

-- a byte that passes isn't one that fails
other_than : (p : ℕ → Bool) (n x : ℕ) → p n ≡ false → p x ≡ true → (x == n) ≡ false
other_than p n x fails passes = by (x == n) refl
  where
    by : (t : Bool) → (x == n) ≡ t → (x == n) ≡ false
    by false is = is
    by true is = absurd (let same : x ≡ n = grind (arith, nat_tests) in let e : p x ≡ p n = ap p same in cc)

counts-append : (p : ℕ → Bool) (xs ys : List ℕ) → count_by p (xs ++ ys) ≡ count_by p xs + count_by p ys
counts-append p xs ys = sum_by-append (λ x. cond (p x) 1 0) xs ys

-- where each byte passes a test, none is one that fails it
none_of : (p : ℕ → Bool) (n : ℕ) → p n ≡ false → (xs : List ℕ) → AllPass p xs → count_by (λ x. x == n) xs ≡ 0
none_of p n fails [] all = refl
none_of p n fails (x ∷ xs) all =
    let here = other_than p n x fails (All-head (λ b. IsTrue (p b)) x xs all) in
    let rest = none_of p n fails xs (All-tail (λ b. IsTrue (p b)) x xs all) in
    let one : count_by (λ x. x == n) (x ∷ []) ≡ 0 = ap (λ t. 0 + cond {A = ℕ} t 1 0) here in
    let sum = counts-append (λ x. x == n) (x ∷ []) xs in
    omega (arith, rest, one, sum)

feed_in_token : is_token_byte 10 ≡ false
unfolding is_token_byte
feed_in_token = refl

return_in_token : is_token_byte 13 ≡ false
unfolding is_token_byte
return_in_token = refl

space_in_token : is_token_byte 32 ≡ false
unfolding is_token_byte
space_in_token = refl

-- ---- a head from its method on

abbrev rest_of_line : RequestHead → List ℕ
rest_of_line h = print_version h.minor ++ (print_end h.line_end ++ (print_section h.fields h.last ++ []))

abbrev from_method : RequestHead → List ℕ
from_method h = h.method ++ 32 ∷ (h.target ++ 32 ∷ rest_of_line h)

-- a line for each field, the request line and the empty one
lines_from_method : (h : RequestHead) → IsRequestHead h → line_feeds (from_method h) ≡ length h.fields + 2
lines_from_method h is =
    let fields = print_section h.fields h.last in
    let z : line_feeds (fields ++ []) ≡ line_feeds fields = ap line_feeds (append-nil fields) in
    let a = section_feeds h.fields h.last is.fields in
    let b = feeds-append (print_end h.line_end) (fields ++ []) in
    let d = end_feeds h.line_end in
    let e = feeds-append (print_version h.minor) (print_end h.line_end ++ (fields ++ [])) in
    let f = feeds-append (32 ∷ []) (rest_of_line h) in
    let g = feeds-append h.target (32 ∷ rest_of_line h) in
    let i = feeds-append (32 ∷ []) (h.target ++ 32 ∷ rest_of_line h) in
    let j = feeds-append h.method (32 ∷ (h.target ++ 32 ∷ rest_of_line h)) in
    let v = version_feeds h.minor is.minor in
    let m = none_of is_token_byte 10 feed_in_token h.method is.method.1 in
    let t = none_of is_uri_byte 10 refl h.target is.target.1 in
    omega (arith, z, a, b, d, e, f, g, i, j, v, m, t)

-- ---- behind empty lines

-- no line end begins a token
starts_token : (c : ℕ) → is_token_byte c ≡ true → ((c == 10) ≡ false) × ((c == 13) ≡ false)
starts_token c passes = (other_than is_token_byte 10 c feed_in_token passes, other_than is_token_byte 13 c return_in_token passes)

behind_feed : (t : List ℕ) → behind_blank (10 ∷ t) ≡ behind_blank t
behind_feed [] = refl
behind_feed (d ∷ t) = refl

behind_none : (c : ℕ) (rest : List ℕ) → (c == 10) ≡ false → (c == 13) ≡ false → behind_blank (c ∷ rest) ≡ c ∷ rest
behind_none c [] a b = ap (λ t. if t then [] else c ∷ []) a
behind_none c (d ∷ rest) a b =
    ap (λ t. if t then behind_blank (d ∷ rest) else (if (c == 13) && (d == 10) then behind_blank rest else c ∷ d ∷ rest)) a
    ∙ ap (λ t. if t && (d == 10) then behind_blank rest else c ∷ d ∷ rest) b

behind_all : (ends : List LineEnd) (c : ℕ) (rest : List ℕ) → (c == 10) ≡ false → (c == 13) ≡ false → behind_blank (print_blank ends ++ c ∷ rest) ≡ c ∷ rest
behind_all [] c rest a b = behind_none c rest a b
behind_all (crlf ∷ ends) c rest a b = behind_all ends c rest a b
behind_all (lf ∷ ends) c rest a b = behind_feed (print_blank ends ++ c ∷ rest) ∙ behind_all ends c rest a b

-- a text that ends within a target has one space and no line feed behind its empty lines
pub target_counts : (ends : List LineEnd) (method target : List ℕ) → IsToken method → AllPass is_uri_byte target
    → (count_by is_space (behind_blank (print_blank ends ++ (method ++ 32 ∷ target))) ≡ 1) × (line_feeds (behind_blank (print_blank ends ++ (method ++ 32 ∷ target))) ≡ 0)
target_counts ends [] target is all = absurd (let some = is.0 in omega (arith, some))
target_counts ends (c ∷ method) target is all =
    let first = starts_token c (All-head (λ b. IsTrue (is_token_byte b)) c method is.1) in
    let e = behind_all ends c (method ++ 32 ∷ target) first.0 first.1 in
    let x = counts-append is_space (c ∷ method) (32 ∷ target) in
    let y = counts-append is_space (32 ∷ []) target in
    let m = none_of is_token_byte 32 space_in_token (c ∷ method) is.1 in
    let t = none_of is_uri_byte 32 refl target all in
    let u = feeds-append (c ∷ method) (32 ∷ target) in
    let v = feeds-append (32 ∷ []) target in
    let f = none_of is_token_byte 10 feed_in_token (c ∷ method) is.1 in
    let g = none_of is_uri_byte 10 refl target all in
    (ap (count_by is_space) e ∙ omega (arith, x, y, m, t), ap line_feeds e ∙ omega (arith, u, v, f, g))

-- ---- a text with more fields than the limit

-- as `lines_behind_blank` counts them, line ends at the front left out
abbrev behind_newlines : List ℕ → List ℕ
behind_newlines xs = drop (prefix_len is_newline xs) xs

no_newline : (c : ℕ) → (c == 10) ≡ false → (c == 13) ≡ false → is_newline c ≡ false
no_newline c a b = ap (λ t. t || (c == 10)) b ∙ a

drop_one : (y : ℕ) (xs : List ℕ) (n : ℕ) → drop (1 + n) (y ∷ xs) ≡ drop n xs
drop_one y xs n = let more : 1 + n ≡ suc n = omega arith in ap (λ k. drop k (y ∷ xs)) more

newlines_left_out : (xs u : List ℕ) (x : ℕ) → list_all is_newline xs ≡ true → is_newline x ≡ false → behind_newlines (xs ++ x ∷ u) ≡ x ∷ u
newlines_left_out [] u x all other = ap (λ t. drop (cond t (1 + prefix_len is_newline u) 0) (x ∷ u)) other
newlines_left_out (y ∷ xs) u x all other =
    let both = and_parts (is_newline y) (list_all is_newline xs) all in
    let later = xs ++ x ∷ u in
    ap (λ t. drop (cond t (1 + prefix_len is_newline later) 0) (y ∷ later)) both.0 ∙ drop_one y later (prefix_len is_newline later) ∙ newlines_left_out xs u x both.1 other

-- a front that a line feed would make a text of 131 lines has 130 of them
lines_of_front : (blank front rest u text : List ℕ) (c : ℕ) → list_all is_newline blank ≡ true → is_newline c ≡ false → text ≡ front ++ rest → front ++ 10 ∷ [] ≡ blank ++ c ∷ u → 131 ≤ line_feeds (c ∷ u) → 129 < line_feeds (behind_newlines text)
lines_of_front blank front rest u text c newlines other is same many =
    let ends = snoc c u in
    let e : front ++ 10 ∷ [] ≡ (blank ++ ends.0) ++ ends.1 ∷ [] = same ∙ ap (λ t. blank ++ t) ends.2 ∙ sym (append_assoc blank ends.0 (ends.1 ∷ [])) in
    let cut : front ≡ blank ++ ends.0 = (same_from_push front (blank ++ ends.0) 10 ends.1 e).0 in
    let fewer : line_feeds (c ∷ u) ≡ line_feeds ends.0 + line_feeds (ends.1 ∷ []) = ap line_feeds ends.2 ∙ feeds-append ends.0 (ends.1 ∷ []) in
    let one : line_feeds (ends.1 ∷ []) ≤ 1 = count_by-le-length is_line_feed (ends.1 ∷ []) in
    of_own ends.0 ends.1 (is ∙ ap (λ t. t ++ rest) cut) ends.2 (omega (arith, fewer, one, many))
  where
    of_own : (own : List ℕ) (y : ℕ) → text ≡ (blank ++ own) ++ rest → c ∷ u ≡ own ++ y ∷ [] → 130 ≤ line_feeds own → 129 < line_feeds (behind_newlines text)
    of_own [] y is same many = absurd (omega arith)
    of_own (x ∷ own) y is same many =
        let x_is : x ≡ c = cc in
        let text_is : text ≡ blank ++ x ∷ (own ++ rest) = is ∙ append_assoc blank (x ∷ own) rest in
        let not_newline : is_newline x ≡ false = ap is_newline x_is ∙ other in
        let behind : line_feeds (behind_newlines text) ≡ line_feeds ((x ∷ own) ++ rest) = ap (λ t. line_feeds (behind_newlines t)) text_is ∙ ap line_feeds (newlines_left_out blank (own ++ rest) x newlines not_newline) in
        let sum = feeds-append (x ∷ own) rest in
        omega (arith, behind, sum, many)

pub head_exceeds : (text : List ℕ) → RequestExceeds 128 text → 129 < lines_behind_blank text
unfolding lines_behind_blank
head_exceeds text over = by over.3.method refl
  where
    by : (m : List ℕ) → over.3.method ≡ m → 129 < line_feeds (behind_newlines text)
    by [] is = absurd (let some = over.4.0.method.0 in let e : length over.3.method ≡ 0 = ap length is in omega (arith, some, e))
    by (c ∷ m) is =
        let h = over.3 in
        let many = lines_from_method h over.4.0 in
        let more = over.5 in
        let tail = 32 ∷ (h.target ++ 32 ∷ rest_of_line h) in
        let all : AllPass is_token_byte (c ∷ m) = subst (AllPass is_token_byte) is over.4.0.method.1 in
        let first = starts_token c (All-head (λ b. IsTrue (is_token_byte b)) c m all) in
        let e : from_method h ≡ c ∷ (m ++ tail) = ap (λ t. t ++ tail) is in
        let count : line_feeds (c ∷ (m ++ tail)) ≡ length h.fields + 2 = ap line_feeds (sym e) ∙ many in
        lines_of_front (print_blank h.blank) over.0 over.1 (m ++ tail) text c (blank_newlines h.blank) (no_newline c first.0 first.1) over.2
        (over.4.1 ∙ print_request-append h [] ∙ ap (λ t. print_blank h.blank ++ t) e) (omega (arith, count, more))
