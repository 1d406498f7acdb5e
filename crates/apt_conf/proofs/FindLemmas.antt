-- The comment, the quoted value or the word at the front of a text is found.
use Rattle.std.proofs.Common.{◌≡◌, ◌≢◌, ◌⊎◌, inl, inr, ℕ, zero, suc, ◌+◌, ◌<◌, true, false, not, ◌&&◌, ◌||◌, List, [], ◌∷◌, ◌++◌, length, take, drop, All, refl, sym, ap, ◌∙◌, arith}
use Rattle.std.specs.Prelude.{◌==◌, slice_index}
use Rattle.std.proofs.lemmas.Bool.{cases_Bool}
use Rattle.std.proofs.lemmas.Bool.Decides.{nat_tests}
use Rattle.apt_conf.specs.Lexemes.{length_until, closes_comment, closes_quote, ends_word, is_boundary}
use Rattle.apt_conf.specs.Pieces.{EachPair, IsWordByte, NothingBegins, EndsLine}
use Rattle.apt_conf.proofs.PieceLemmas.{same_head}

all_nil : (P : ℕ → Type 0) → All P []
all_nil P k d lt = absurd (omega arith)

all_cons : (P : ℕ → Type 0) (c : ℕ) (rest : List ℕ) → P c → All P rest → All P (c ∷ rest)
all_cons P c rest p h zero d lt = p
all_cons P c rest p h (suc k) d lt = h k d (omega arith)

pub record Line (text : List ℕ) : Type 0 where
  pub inside : List ℕ
  pub rest : List ℕ
  pub is : text ≡ inside ++ rest
  pub none : All (λ c. c ≢ 10) inside
  pub ends : EndsLine rest

pub find_line : (text : List ℕ) → Line text
find_line [] = record { inside = []; rest = []; is = refl; none = all_nil (λ c. c ≢ 10); ends = inl refl }
find_line (c ∷ text) =
    elim (cases_Bool (c == 10)) [
      | inl t ↦ record { inside = []; rest = c ∷ text; is = refl; none = all_nil (λ c. c ≢ 10); ends = inr (grind (arith, nat_tests)) }
      | inr f ↦
          let l = find_line text in
          record { inside = c ∷ l.inside; rest = l.rest; is = ap (λ (m : List ℕ). c ∷ m) l.is; none = all_cons (λ d. d ≢ 10) c l.inside (grind (arith, nat_tests)) l.none; ends = l.ends }
    ]

pub record Enclosed (text : List ℕ) : Type 0 where
  pub inside : List ℕ
  pub rest : List ℕ
  pub is : text ≡ inside ++ 42 ∷ 47 ∷ rest
  pub none : EachPair (λ c d. c ≡ 42 → d ≢ 47) inside

-- what begins with another byte is no part of a `*/` with the byte before
pair_cons : (c : ℕ) (inside : List ℕ) → (c ≡ 42 → slice_index inside 0 ≢ 47) → EachPair (λ c d. c ≡ 42 → d ≢ 47) inside → EachPair (λ c d. c ≡ 42 → d ≢ 47) (c ∷ inside)
unfolding EachPair
pair_cons c [] p h = tt
pair_cons c (d ∷ inside) p h = (p, h)

first_of : (inside : List ℕ) (rest : List ℕ) → slice_index inside 0 ≡ 47 → slice_index (inside ++ 42 ∷ 47 ∷ rest) 0 ≡ 47
first_of [] rest e = absurd (omega (arith, e))
first_of (c ∷ inside) rest e = e

pub find_close : (text : List ℕ) → Enclosed text ⊎ (length text < length_until closes_comment text + 2)
unfolding length_until closes_comment EachPair
find_close [] = inr (omega arith)
find_close (c ∷ text) =
    elim (cases_Bool ((c == 42) && (slice_index text 0 == 47))) [
      | inl t ↦ closes c text t
      | inr f ↦ rw f (goes_on c text f (find_close text))
    ]
  where
    closes : (c : ℕ) (text : List ℕ) → ((c == 42) && (slice_index text 0 == 47)) ≡ true → Enclosed (c ∷ text) ⊎ (length (c ∷ text) < length_until closes_comment (c ∷ text) + 2)
    closes c [] t = absurd (grind (arith, nat_tests))
    closes c (d ∷ text) t =
        let one : c ≡ 42 = grind (arith, nat_tests) in
        let two : d ≡ 47 = grind (arith, nat_tests) in
        inl (record { inside = []; rest = text; is = rw (one, two) refl; none = tt })

    goes_on : (c : ℕ) (text : List ℕ) → ((c == 42) && (slice_index text 0 == 47)) ≡ false → Enclosed text ⊎ (length text < length_until closes_comment text + 2)
        → Enclosed (c ∷ text) ⊎ (length (c ∷ text) < (length_until closes_comment text + 1) + 2)
    goes_on c text f (inr short) = inr (omega arith)
    goes_on c text f (inl e) =
        let other : c ≡ 42 → slice_index e.inside 0 ≢ 47 = λ a b.
        let s : slice_index text 0 ≡ 47 = ap (λ (l : List ℕ). slice_index l 0) e.is ∙ first_of e.inside e.rest b in
        grind (arith, nat_tests) in
        inl (record { inside = c ∷ e.inside; rest = e.rest; is = ap (λ (l : List ℕ). c ∷ l) e.is; none = pair_cons c e.inside other e.none })

pub record Quote (before : ℕ) (text : List ℕ) : Type 0 where
  pub inside : List ℕ
  pub rest : List ℕ
  pub is : text ≡ inside ++ 34 ∷ rest
  pub feeds : All (λ c. c ≢ 10) inside
  pub quotes : EachPair (λ c d. d ≡ 34 → c ≡ 92) (before ∷ inside)
  pub end : (front : List ℕ) → before ∷ inside ≢ front ++ 92 ∷ []

index_up : (b : ℕ) (l : List ℕ) (n m : ℕ) → m ≡ suc n → slice_index (b ∷ l) m ≡ slice_index l n
index_up b l n m e = rw e refl

not_empty : (front : List ℕ) → [] ≡ front ++ 92 ∷ [] → ⊥
not_empty [] e = cc
not_empty (c ∷ front) e = cc

one_other : (before : ℕ) → before ≢ 92 → (front : List ℕ) → before ∷ [] ≢ front ++ 92 ∷ []
one_other before h [] e = h (same_head before 92 [] [] e)
one_other before h (c ∷ front) e = not_empty front (ap (λ (l : List ℕ). drop 1 l) e)

more_other : (before c : ℕ) (inside : List ℕ) → ((front : List ℕ) → c ∷ inside ≢ front ++ 92 ∷ []) → (front : List ℕ) → before ∷ c ∷ inside ≢ front ++ 92 ∷ []
more_other before c inside h [] e = let same : c ∷ inside ≡ [] = ap (λ (l : List ℕ). drop 1 l) e in cc
more_other before c inside h (d ∷ front) e = h front (ap (λ (l : List ℕ). drop 1 l) e)

pub find_quote : (before : ℕ) (text : List ℕ) → Quote before text ⊎ (slice_index (before ∷ text) (length_until closes_quote (before ∷ text) + 1) ≢ 34)
unfolding length_until closes_quote EachPair
find_quote before [] = inr (λ e. omega (arith, e))
find_quote before (c ∷ text) =
    elim (cases_Bool ((c == 10) || ((c == 34) && not (before == 92)))) [
      | inl t ↦ rw t (stops before c text t (cases_Bool (c == 34)))
      | inr f ↦ rw f (goes_on before c text f (find_quote c text))
    ]
  where
    stops : (before c : ℕ) (text : List ℕ) → ((c == 10) || ((c == 34) && not (before == 92))) ≡ true → ((c == 34) ≡ true) ⊎ ((c == 34) ≡ false) → Quote before (c ∷ text) ⊎ (c ≢ 34)
    stops before c text t (inr f) = inr (grind (arith, nat_tests))
    stops before c text t (inl e) =
        let quote : c ≡ 34 = grind (arith, nat_tests) in
        let other : before ≢ 92 = grind (arith, nat_tests) in
        inl (record { inside = []; rest = text; is = rw quote refl; feeds = all_nil (λ d. d ≢ 10); quotes = tt; end = one_other before other })

    goes_on : (before c : ℕ) (text : List ℕ) → ((c == 10) || ((c == 34) && not (before == 92))) ≡ false → Quote c text ⊎ (slice_index (c ∷ text) (length_until closes_quote (c ∷ text) + 1) ≢ 34)
        → Quote before (c ∷ text) ⊎ (slice_index (before ∷ c ∷ text) ((length_until closes_quote (c ∷ text) + 1) + 1) ≢ 34)
    goes_on before c text f (inr torn) =
        inr (λ e. torn (sym (index_up before (c ∷ text) (length_until closes_quote (c ∷ text) + 1) ((length_until closes_quote (c ∷ text) + 1) + 1) (omega arith)) ∙ e))
    goes_on before c text f (inl q) =
        let feed : c ≢ 10 = grind (arith, nat_tests) in
        let quote : c ≡ 34 → before ≡ 92 = grind (arith, nat_tests) in
        inl (record {
          inside = c ∷ q.inside;
          rest = q.rest;
          is = ap (λ (l : List ℕ). c ∷ l) q.is;
          feeds = all_cons (λ d. d ≢ 10) c q.inside feed q.feeds;
          quotes = (quote, q.quotes);
          end = more_other before c q.inside q.end;
        })

pub record Rest (c : ℕ) (text : List ℕ) : Type 0 where
  pub word : List ℕ
  pub rest : List ℕ
  pub is : text ≡ word ++ rest
  pub bytes : All IsWordByte (c ∷ word)
  pub none : EachPair NothingBegins (c ∷ word ++ take 1 rest)
  pub ends : ends_word rest ≡ true

no_end : ends_word [] ≡ true
unfolding ends_word is_boundary
no_end = refl

pub word_inside : (d : ℕ) (r : List ℕ) → ends_word (d ∷ r) ≡ false → IsWordByte d × NothingBegins d (slice_index r 0)
unfolding ends_word is_boundary
word_inside d r h = grind (arith, nat_tests)

pub find_word : (c : ℕ) (text : List ℕ) → IsWordByte c → NothingBegins c (slice_index text 0) → Rest c text
unfolding EachPair
find_word c [] h b = record { word = []; rest = []; is = refl; bytes = all_cons IsWordByte c [] h (all_nil IsWordByte); none = tt; ends = no_end }
find_word c (d ∷ text) h b =
    elim (cases_Bool (ends_word (d ∷ text))) [
      | inl t ↦ record { word = []; rest = d ∷ text; is = refl; bytes = all_cons IsWordByte c [] h (all_nil IsWordByte); none = (b, tt); ends = t }
      | inr f ↦
          let i = word_inside d text f in
          let w = find_word d text i.0 i.1 in
          record { word = d ∷ w.word; rest = w.rest; is = ap (λ (l : List ℕ). d ∷ l) w.is; bytes = all_cons IsWordByte c (d ∷ w.word) h w.bytes; none = (b, w.none); ends = w.ends }
    ]
