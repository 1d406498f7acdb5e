-- Empty lines before a head: they are no head yet, and one can follow.
use Rattle.std.proofs.Common.{◌≡◌, ℕ, ◌<◌, ◌≤◌, inl, inr, ⊎_elim, Bool, true, false, List, [], ◌∷◌, ◌++◌, length, drop, arith, sym, ap, ◌∙◌, refl, append_assoc, append-nil}
use Rattle.std.specs.Prelude.{◌&&◌}
use Rattle.std.specs.List.{list_all}
use Rattle.std.proofs.Math.Seq.{drop-append_seam}
use Rattle.std.proofs.lemmas.Grind.{flat_map-append}
use Rattle.std.proofs.lemmas.List.Folds.{list_all-append}
use Rattle.httparse.specs.Pieces.{is_newline}
use Rattle.httparse.specs.Grammar.{LineEnd, crlf, lf, print_end, print_blank, print_response}
use Rattle.httparse.proofs.GrammarLemmas.{print_response-append}
use Rattle.http_wire.specs.Forms.{HasNone, May, Unfinished, Bad, lines_behind_blank, head_form}
use Rattle.http_wire.specs.Wire.{StartsBlank}
use Rattle.http_wire.specs.Steps.{IsEmptyLine}
use Rattle.http_wire.proofs.LineCounts.{blank_newlines, blank_lines, newline_lines}
use Rattle.http_wire.proofs.Begins.{some_head, headed, headed_valid, headed_is}

pub blank_none : StartsBlank 0 []
blank_none = record { ends = []; rest = []; is = refl; long = refl }

pub blank_more : (size : ℕ) (text more : List ℕ) → StartsBlank size text → StartsBlank size (text ++ more)
blank_more size text more b = record {
  ends = b.ends;
  rest = b.rest ++ more;
  is = ap (λ t. t ++ more) b.is ∙ append_assoc (print_blank b.ends) b.rest more;
  long = b.long;
}

pub blank_whole : (text : List ℕ) (ends : List LineEnd) → text ≡ print_blank ends → StartsBlank (length text) text
blank_whole text ends is = record { ends = ends; rest = []; is = is ∙ sym (append-nil (print_blank ends)); long = ap length is }

one_more : (ends : List LineEnd) (e : LineEnd) → print_blank ends ++ print_end e ≡ print_blank (ends ++ e ∷ [])
one_more ends e = ap (λ t. print_blank ends ++ t) (sym (append-nil (print_end e))) ∙ sym (flat_map-append print_end ends (e ∷ []))

-- an empty line behind empty lines
pub all_blank : (size : ℕ) (text : List ℕ) → StartsBlank size text → IsEmptyLine (drop size text) → (ends : List LineEnd) × (text ≡ print_blank ends)
all_blank size text b line =
    ⊎_elim (λ (one : drop size text ≡ 10 ∷ []). (b.ends ++ lf ∷ [], ends_so lf one)) (λ (two : drop size text ≡ 13 ∷ 10 ∷ []). (b.ends ++ crlf ∷ [], ends_so crlf two)) line
  where
    behind : drop size text ≡ b.rest
    behind = ap (λ n. drop n text) b.long ∙ ap (drop (length (print_blank b.ends))) b.is ∙ drop-append_seam (print_blank b.ends) b.rest

    ends_so : (e : LineEnd) → drop size text ≡ print_end e → text ≡ print_blank (b.ends ++ e ∷ [])
    ends_so e last = b.is ∙ ap (λ t. print_blank b.ends ++ t) (sym behind ∙ last) ∙ one_more b.ends e

other_false : (a : Bool) → (a && false) ≡ false
other_false true = refl
other_false false = refl

not_all : (blank u : List ℕ) → list_all is_newline (blank ++ 72 ∷ u) ≡ false
not_all blank u = list_all-append is_newline blank (72 ∷ u) ∙ other_false (list_all is_newline blank)

-- a head has more than empty lines
pub no_head : (ends : List LineEnd) (text : List ℕ) → text ≡ print_blank ends → HasNone head_form text
no_head ends text is h rest whole =
    let head : list_all is_newline text ≡ false = ap (list_all is_newline) (whole.is ∙ print_response-append h rest) ∙ not_all (print_blank h.blank) _ in
    let blank : list_all is_newline text ≡ true = ap (list_all is_newline) is ∙ blank_newlines ends in
    cc

may_come : (ends : List LineEnd) (text : List ℕ) → text ≡ print_blank ends → May head_form text
may_come ends text is =
    (print_response some_head, headed ends, headed_valid ends, ap (λ t. t ++ print_response some_head) is ∙ headed_is ends)

pub blank_unfinished : (ends : List LineEnd) (text : List ℕ) → text ≡ print_blank ends → length text ≤ 65536 → Unfinished head_form text
blank_unfinished ends text is short = record {
  none = no_head ends text is;
  may = may_come ends text is;
  within = λ p. ⊎_elim (λ (long : 65536 < length text). let x : ⊥ = omega (arith, short, long) in x) (λ (many : 129 < lines_behind_blank text). let e : lines_behind_blank text ≡ 0 = ap lines_behind_blank is ∙ blank_lines ends in let x : ⊥ = omega (arith, e, many) in x) p;
}

pub blank_bad : (ends : List LineEnd) (text : List ℕ) → text ≡ print_blank ends → 65536 < length text → Bad head_form text
blank_bad ends text is long = record { none = no_head ends text is; why = inr (inl long) }

-- ---- a carriage return behind empty lines

pub return_behind : (size : ℕ) (text : List ℕ) → StartsBlank size text → drop size text ≡ 13 ∷ [] → (ends : List LineEnd) × (text ≡ print_blank ends ++ 13 ∷ [])
return_behind size text b line =
    (b.ends, b.is ∙ ap (λ t. print_blank b.ends ++ t) (sym behind ∙ line))
  where
    behind : drop size text ≡ b.rest
    behind = ap (λ n. drop n text) b.long ∙ ap (drop (length (print_blank b.ends))) b.is ∙ drop-append_seam (print_blank b.ends) b.rest

return_newlines : (ends : List LineEnd) (text : List ℕ) → text ≡ print_blank ends ++ 13 ∷ [] → list_all is_newline text ≡ true
return_newlines ends text is = ap (list_all is_newline) is ∙ list_all-append is_newline (print_blank ends) (13 ∷ []) ∙ ap (λ t. t && true) (blank_newlines ends)

return_none : (ends : List LineEnd) (text : List ℕ) → text ≡ print_blank ends ++ 13 ∷ [] → HasNone head_form text
return_none ends text is h rest whole =
    let head : list_all is_newline text ≡ false = ap (list_all is_newline) (whole.is ∙ print_response-append h rest) ∙ not_all (print_blank h.blank) _ in
    let blank : list_all is_newline text ≡ true = return_newlines ends text is in
    cc

return_may : (ends : List LineEnd) (text : List ℕ) → text ≡ print_blank ends ++ 13 ∷ [] → May head_form text
return_may ends text is =
    let P = print_response some_head in (
      10 ∷ P,
      headed (ends ++ crlf ∷ []),
      headed_valid (ends ++ crlf ∷ []),
      ap (λ t. t ++ 10 ∷ P) is ∙ append_assoc (print_blank ends) (13 ∷ []) (10 ∷ P) ∙ sym (append_assoc (print_blank ends) (13 ∷ 10 ∷ []) P) ∙ ap (λ t. t ++ P) (one_more ends crlf) ∙ headed_is (ends ++ crlf ∷ []),
    )

pub return_unfinished : (ends : List LineEnd) (text : List ℕ) → text ≡ print_blank ends ++ 13 ∷ [] → length text ≤ 65536 → Unfinished head_form text
return_unfinished ends text is short = record {
  none = return_none ends text is;
  may = return_may ends text is;
  within = λ p. ⊎_elim (λ (long : 65536 < length text). let x : ⊥ = omega (arith, short, long) in x) (λ (many : 129 < lines_behind_blank text). let e : lines_behind_blank text ≡ 0 = newline_lines text (return_newlines ends text is) in let x : ⊥ = omega (arith, e, many) in x) p;
}

pub return_bad : (ends : List LineEnd) (text : List ℕ) → text ≡ print_blank ends ++ 13 ∷ [] → 65536 < length text → Bad head_form text
return_bad ends text is long = record { none = return_none ends text is; why = inr (inl long) }
