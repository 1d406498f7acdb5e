-- A text of lines is unfinished before its first byte.
use Rattle.std.proofs.Common.{◌≡◌, ℕ, ◌<◌, ⊎_elim, List, [], ◌∷◌, ◌++◌, length, arith, sym, ap, ◌∙◌, refl, append-nil, length-append, None}
use Rattle.std.specs.Prelude.{IsTrue}
use Rattle.std.specs.Char.{is_ascii_digit, is_ascii_hexdigit}
use Rattle.std.proofs.lemmas.List.Elements.{All-cons, All-nil}
use Rattle.httparse.specs.Grammar.{AllPass, is_ows, is_value_byte, LineEnd, print_end, print_blank, print_version, print_reason, ResponseHead, IsResponseHead, print_response, IsField, lf, ChunkLine, print_chunk_line, IsChunkLine, print_section}
use Rattle.httparse.proofs.GrammarLemmas.{print_response-append}
use Rattle.http_wire.specs.Forms.{Form, HasNone, Unfinished, line_feeds, lines_behind_blank, head_form, size_form, trailer_form}
use Rattle.http_wire.proofs.FormLemmas.{Facts}
use Rattle.http_wire.proofs.FormFacts.{head_facts, size_facts, trailer_facts}

none_of_nothing : {V : Type 0} (form : Form V) → Facts form → HasNone form []
none_of_nothing form facts v rest whole =
    let last = facts.ends v in
    let e : length {A = ℕ} [] ≡ length ((last.0 ++ 10 ∷ []) ++ rest) = ap length (whole.is ∙ ap (λ p. p ++ rest) last.1) in
    let a = length-append (last.0 ++ 10 ∷ []) rest in
    let b = length-append last.0 (10 ∷ []) in
    omega (arith, e, a, b)

-- HTTP/1.1 200
pub some_head : ResponseHead
some_head = record { blank = []; minor = 1; digits = 50 ∷ 48 ∷ 48 ∷ []; reason = None; line_end = lf; fields = []; last = lf }

digits_pass : AllPass is_ascii_digit (50 ∷ 48 ∷ 48 ∷ [])
digits_pass =
    let P : ℕ → Type 0 = λ b. IsTrue (is_ascii_digit b) in
    All-cons P 50 (48 ∷ 48 ∷ []) refl (All-cons P 48 (48 ∷ []) refl (All-cons P 48 [] refl (All-nil P)))

some_valid : IsResponseHead some_head
unfolding some_head
some_valid = record { minor = omega arith; digits = (refl, digits_pass); reason = All-nil (λ b. IsTrue (is_value_byte b)); fields = All-nil IsField }

-- that head behind empty lines
pub headed : List LineEnd → ResponseHead
headed ends = record some_head { blank = ends }

pub headed_valid : (ends : List LineEnd) → IsResponseHead (headed ends)
unfolding headed
headed_valid ends = record { minor = some_valid.minor; digits = some_valid.digits; reason = some_valid.reason; fields = some_valid.fields }

-- what follows the empty lines of a head
abbrev behind_blank : ResponseHead → List ℕ
behind_blank h = print_version h.minor ++ 32 ∷ (h.digits ++ (print_reason h.reason ++ (print_end h.line_end ++ (print_section h.fields h.last ++ []))))

with_blank : (h : ResponseHead) (ends : List LineEnd) → h.blank ≡ [] → print_blank ends ++ print_response h ≡ print_response (record h { blank = ends }) ++ []
with_blank h ends none =
    let e : print_response h ≡ print_blank h.blank ++ behind_blank h = sym (append-nil (print_response h)) ∙ print_response-append h [] in
    let f : print_blank h.blank ++ behind_blank h ≡ behind_blank h = ap (λ b. print_blank b ++ behind_blank h) none in
    ap (λ t. print_blank ends ++ t) (e ∙ f) ∙ sym (print_response-append (record h { blank = ends }) [])

no_blank : some_head.blank ≡ []
unfolding some_head
no_blank = refl

pub headed_is : (ends : List LineEnd) → print_blank ends ++ print_response some_head ≡ print_response (headed ends) ++ []
unfolding headed
headed_is ends = with_blank some_head ends no_blank

few_lines : lines_behind_blank [] ≡ 0
unfolding lines_behind_blank
few_lines = refl

pub no_head_yet : Unfinished head_form []
no_head_yet = record {
  none = none_of_nothing head_form head_facts;
  may = (print_response some_head ++ [], some_head, some_valid, refl);
  within = λ p. ⊎_elim (λ (long : 65536 < length {A = ℕ} []). let x : ⊥ = omega arith in x) (λ (many : 129 < lines_behind_blank []). let x : ⊥ = omega (arith, few_lines, many) in x) p;
}

-- 0
some_line : ChunkLine
some_line = record { digits = 48 ∷ []; pad = []; extension = None }

line_valid : IsChunkLine some_line
unfolding some_line
line_valid = record { digits = (omega arith, omega arith, All-cons (λ b. IsTrue (is_ascii_hexdigit b)) 48 [] refl (All-nil (λ b. IsTrue (is_ascii_hexdigit b)))); pad = All-nil (λ b. IsTrue (is_ows b)); extension = tt }

pub no_size_yet : Unfinished size_form []
no_size_yet = record {
  none = none_of_nothing size_form size_facts;
  may = (print_chunk_line some_line ++ [], some_line, line_valid, refl);
  within = λ (long : 4096 < length {A = ℕ} []). let x : ⊥ = omega arith in x;
}

pub no_trailers_yet : Unfinished trailer_form []
no_trailers_yet = record {
  none = none_of_nothing trailer_form trailer_facts;
  may = (print_section [] lf ++ [], ([], lf), All-nil IsField, refl);
  within = λ p. ⊎_elim (λ (long : 65536 < length {A = ℕ} []). let x : ⊥ = omega arith in x) (λ (many : 128 < line_feeds []). let x : ⊥ = omega arith in x) p;
}
