-- A text is cut between two lines.
use Rattle.std.proofs.Common.{◌≡◌, inl, inr, ℕ, suc, ◌+◌, ◌<◌, ◌≤◌, ◌==◌, Bool, true, false, cond, not, List, [], ◌∷◌, ◌++◌, length, take, drop, refl, sym, ap, ◌∙◌, subst, append_assoc, arith}
use Rattle.std.proofs.lemmas.List.{append-nil, take-append-drop, take-take, drop-take, drop_all, take_all}
use Rattle.std.specs.List.{list_all, onto_first, position_or_len, slice_split}
use Rattle.std.specs.Str.Lines.{lines as text_lines, lines_of_parts, strip_carriage_return}
use Rattle.acq_base.proofs.Lists.{split_cons}
use Rattle.acq_base.specs.Words.{is_blank}
use Rattle.deb_fetch.specs.Paragraphs.{IsCut}

abbrev is_feed : ℕ → Bool
is_feed c = c == 10

-- the lines of a text that ends with a line feed don't rest on what comes behind it
pub record IsWhole (front : List ℕ) : Type 0 where
  pub on : (tail : List ℕ) → text_lines (front ++ tail) ≡ text_lines front ++ text_lines tail

pub whole-nothing : IsWhole []
whole-nothing = record { on = λ tail. refl }

whole-append : (front more : List ℕ) → IsWhole front → IsWhole more → IsWhole (front ++ more)
whole-append front more whole next = record {
  on = λ tail.
      ap text_lines (append_assoc front more tail) ∙ whole.on (more ++ tail) ∙ ap (λ (l : List (List ℕ)). text_lines front ++ l) (next.on tail)
      ∙ sym (append_assoc (text_lines front) (text_lines more) (text_lines tail)) ∙ ap (λ (l : List (List ℕ)). l ++ text_lines tail) (sym (whole.on more));
}

-- the first part of what is cut at line feeds
abbrev SplitsFirst : List ℕ → List ℕ → ℕ → Type 0
SplitsFirst xs tail n = slice_split is_feed (take (suc n) xs ++ tail) ≡ take n xs ∷ slice_split is_feed tail

split_here : (x : ℕ) (xs tail : List ℕ) (n : ℕ) → is_feed x ≡ true → n ≡ 0 → SplitsFirst (x ∷ xs) tail n
split_here x xs tail n feed is = subst (λ (k : ℕ). SplitsFirst (x ∷ xs) tail k) (sym is) (rw feed refl)

split_later : (x : ℕ) (xs tail : List ℕ) (n place : ℕ) → is_feed x ≡ false → n ≡ suc place → SplitsFirst xs tail place → SplitsFirst (x ∷ xs) tail n
split_later x xs tail n place other is inner = subst (λ (k : ℕ). SplitsFirst (x ∷ xs) tail k) (sym is) (rw other (ap (onto_first x) inner))

split_first : (xs tail : List ℕ) (n : ℕ) → n ≡ position_or_len is_feed xs → n < length xs → SplitsFirst xs tail n
split_first [] tail n is within = absurd (omega arith)
split_first (x ∷ xs) tail n is within = by (λ place is within. split_first xs tail place is within) (is_feed x) refl is within
  where
    by : ((place : ℕ) → place ≡ position_or_len is_feed xs → place < length xs → SplitsFirst xs tail place)
        → (b : Bool) → is_feed x ≡ b → n ≡ cond (not b) (1 + position_or_len is_feed xs) 0 → n < suc (length xs) → SplitsFirst (x ∷ xs) tail n
    by later true feed is within = split_here x xs tail n feed is
    by later false other is within = split_later x xs tail n (position_or_len is_feed xs) other (omega (arith, is)) (later (position_or_len is_feed xs) refl (omega (arith, within, is)))

line-on : (xs tail : List ℕ) (n : ℕ) → n ≡ position_or_len is_feed xs → n < length xs → text_lines (take (suc n) xs ++ tail) ≡ strip_carriage_return (take n xs) ∷ text_lines tail
line-on xs tail n is within =
    let more = split_cons is_feed tail in
    ap lines_of_parts (split_first xs tail n is within) ∙ ap (λ (parts : List (List ℕ)). lines_of_parts (take n xs ∷ parts)) more.2
    ∙ ap (λ (parts : List (List ℕ)). strip_carriage_return (take n xs) ∷ lines_of_parts parts) (sym more.2)

-- the first line with its line feed
one_line : (xs : List ℕ) (n : ℕ) → n ≡ position_or_len is_feed xs → n < length xs → text_lines (take (suc n) xs) ≡ strip_carriage_return (take n xs) ∷ []
one_line xs n is within = ap text_lines (sym (append-nil (take (suc n) xs))) ∙ line-on xs [] n is within

whole-line : (xs : List ℕ) (n : ℕ) → n ≡ position_or_len is_feed xs → n < length xs → IsWhole (take (suc n) xs)
whole-line xs n is within = record { on = λ tail. line-on xs tail n is within ∙ ap (λ (l : List (List ℕ)). l ++ text_lines tail) (sym (one_line xs n is within)) }

take-more : (at n : ℕ) (text : List ℕ) → take (at + n) text ≡ take at text ++ take n (drop at text)
take-more at n text = sym (take-append-drop at (take (at + n) text)) ∙ (λ i. take-take at (at + n) text (omega arith) i ++ drop-take at n text i)

front-more : (at n : ℕ) (text : List ℕ) → take (at + (n + 1)) text ≡ take at text ++ take (suc n) (drop at text)
front-more at n text = let same : n + 1 ≡ suc n = omega arith in take-more at (n + 1) text ∙ ap (λ (k : ℕ). take at text ++ take k (drop at text)) same

-- one line further on
pub whole-more : (text : List ℕ) (at n : ℕ) → n ≡ position_or_len is_feed (drop at text) → n < length (drop at text) → IsWhole (take at text) → IsWhole (take (at + (n + 1)) text)
whole-more text at n is within whole =
    subst (λ (l : List ℕ). IsWhole l) (sym (front-more at n text)) (whole-append (take at text) (take (suc n) (drop at text)) whole (whole-line (drop at text) n is within))

-- behind a separator
pub cut_behind : (text : List ℕ) (at n : ℕ) → n ≡ position_or_len is_feed (drop at text) → n < length (drop at text) → IsWhole (take at text) → list_all is_blank (strip_carriage_return (take n (drop at text))) ≡ true
    → IsCut text (take (at + (n + 1)) text) (drop (at + (n + 1)) text)
cut_behind text at n is within whole blank =
    let front : List ℕ = take at text in
    let line : List ℕ = take (suc n) (drop at text) in
    let lines : text_lines (take (at + (n + 1)) text) ≡ text_lines front ++ strip_carriage_return (take n (drop at text)) ∷ [] =
    ap text_lines (front-more at n text) ∙ whole.on line ∙ ap (λ (l : List (List ℕ)). text_lines front ++ l) (one_line (drop at text) n is within) in
    record {
      lines = ap text_lines (sym (take-append-drop (at + (n + 1)) text)) ∙ (whole-more text at n is within whole).on (drop (at + (n + 1)) text);
      ended = inr (text_lines front, strip_carriage_return (take n (drop at text)), lines, blank);
    }

-- at the end
pub cut_at_end : (text : List ℕ) (at : ℕ) → length text ≤ at → IsCut text (take at text) (drop at text)
cut_at_end text at end =
    let front : take at text ≡ text = take_all at text end in
    let rest : drop at text ≡ [] = drop_all at text end in
    record {
      lines = sym (append-nil (text_lines text)) ∙ (λ i. text_lines (sym front i) ++ text_lines (sym rest i));
      ended = inl rest;
    }

-- the same of what was cut before
pub whole_on : (text rest : List ℕ) (at n : ℕ) → rest ≡ drop at text → n ≡ position_or_len is_feed rest → n ≤ length rest → (n ≡ length rest → ⊥) → IsWhole (take at text) → IsWhole (take (at + (n + 1)) text)
whole_on text rest at n is place within other whole =
    let length_is : length rest ≡ length (drop at text) = ap length is in
    whole-more text at n (place ∙ ap (position_or_len is_feed) is) (omega (arith, within, other, length_is)) whole

pub cut_on : (text rest front back : List ℕ) (at n : ℕ) → rest ≡ drop at text → n ≡ position_or_len is_feed rest → n ≤ length rest → (n ≡ length rest → ⊥) → IsWhole (take at text) → list_all is_blank (strip_carriage_return (take n rest)) ≡ true
    → front ≡ take (at + (n + 1)) text → back ≡ drop (at + (n + 1)) text → IsCut text front back
cut_on text rest front back at n is place within other whole blank front_is back_is =
    let length_is : length rest ≡ length (drop at text) = ap length is in
    let cut = cut_behind text at n (place ∙ ap (position_or_len is_feed) is) (omega (arith, within, other, length_is)) whole (ap (λ (l : List ℕ). list_all is_blank (strip_carriage_return (take n l))) (sym is) ∙ blank) in
    subst (λ (f : List ℕ). IsCut text f back) (sym front_is) (subst (λ (b : List ℕ). IsCut text (take (at + (n + 1)) text) b) (sym back_is) cut)
