-- What is answered is the text within a frame.
use Rattle.std.proofs.Common.{◌≡◌, ℕ, ◌+◌, nat_eq, Bool, true, false, List, [], ◌∷◌, ◌++◌, ◌&&◌, Option, Some, None, Result, Ok, Err, inl, inr, refl, sym, ap, ◌∙◌, append_assoc, arith}
use Rattle.std.specs.Prelude.{bytes_eq}
use Rattle.std.specs.List.{list_any, list_all}
use Rattle.std.proofs.lemmas.Bool.{cases_Bool}
use Rattle.std.proofs.lemmas.Bool.Decides.{nat_tests}
use Rattle.acq_base.specs.Words.{is_blank}
use Rattle.acq_base.proofs.Texts.{bytes_eq-true}
use Rattle.clear_text.specs.Frame.{begin_line, signature_line, end_line, begins_with, is_dash, is_header, IsEscape, AreEscapes, IsFrame, ended}
use Rattle.clear_text.specs.Unframed.{is_empty, unescaped, behind_dash, with_line, with_text_line, behind_frame, in_signature, in_text, in_headers}
use Rattle.clear_text.specs.declared.error.FrameError.{FrameError}

-- ---- behind the text

all_blank : (lines : List (List ℕ)) (at : ℕ) (bytes : List ℕ) → behind_frame at lines ≡ Ok bytes → (list_all (list_all is_blank) lines ≡ true) × (bytes ≡ [])
all_blank [] at bytes e = (refl, cc)
all_blank (line ∷ lines) at bytes e =
    elim (cases_Bool (list_all is_blank line)) [
      | inl blank ↦ let rest = all_blank lines (at + 1) bytes (rw blank at e) in (rw blank rest.0, rest.1)
      | inr isnt ↦ absurd (let bad = rw isnt at e in cc)
    ]

record IsSigned (lines : List (List ℕ)) : Type 0 where
  signature : List (List ℕ)
  behind : List (List ℕ)
  split : lines ≡ signature ++ end_line ∷ behind
  signed : list_any (λ line. bytes_eq line end_line) signature ≡ false
  blank : list_all (list_all is_blank) behind ≡ true

signed_rest : (lines : List (List ℕ)) (at : ℕ) (bytes : List ℕ) → in_signature at lines ≡ Ok bytes → IsSigned lines × (bytes ≡ [])
signed_rest [] at bytes e = absurd cc
signed_rest (line ∷ lines) at bytes e =
    elim (cases_Bool (bytes_eq line end_line)) [
      | inl is ↦
          let rest = all_blank lines (at + 1) bytes (rw is at e) in
          (record { signature = []; behind = lines; split = ap (λ l. l ∷ lines) (bytes_eq-true line end_line is); signed = refl; blank = rest.0 }, rest.1)
      | inr isnt ↦
          let rest = signed_rest lines (at + 1) bytes (rw isnt at e) in
          (record { signature = line ∷ rest.0.signature; behind = rest.0.behind; split = ap (λ ls. line ∷ ls) rest.0.split; signed = rw isnt rest.0.signed; blank = rest.0.blank }, rest.1)
    ]

-- ---- the text

behind_dash-is : (rest line : List ℕ) → behind_dash rest ≡ Some line → rest ≡ 32 ∷ line
behind_dash-is [] line e = absurd cc
behind_dash-is (c ∷ rest) line e =
    elim (cases_Bool (nat_eq c 32)) [
      | inl is ↦ let same : Some rest ≡ Some line = rw is at e in let blank : c ≡ 32 = grind (arith, nat_tests) in let rest_is : rest ≡ line = cc in (λ i. blank i ∷ rest_is i)
      | inr isnt ↦ absurd (let bad : None ≡ Some line = rw isnt at e in cc)
    ]

escape_of : (written line : List ℕ) → unescaped written ≡ Some line → IsEscape line written
escape_of [] line e = let nothing : line ≡ [] = cc in inr (sym nothing, ap (begins_with is_dash) nothing)
escape_of (c ∷ rest) line e =
    elim (cases_Bool (is_dash c)) [
      | inl dash ↦
          let behind = behind_dash-is rest line (rw dash at e) in
          let first : c ≡ 45 = grind (arith, nat_tests) in
          inl (λ i. first i ∷ behind i)
      | inr isnt ↦
          let same : Some (c ∷ rest) ≡ Some line = rw isnt at e in
          let is : c ∷ rest ≡ line = cc in
          inr (is, ap (begins_with is_dash) (sym is) ∙ isnt)
    ]

record IsText (lines : List (List ℕ)) (bytes : List ℕ) : Type 0 where
  text : List (List ℕ)
  escaped : List (List ℕ)
  more : List (List ℕ)
  split : lines ≡ escaped ++ signature_line ∷ more
  dashed : AreEscapes text escaped
  signed : IsSigned more
  bytes_are : bytes ≡ ended text

with_line-ok : (line : List ℕ) (rest : Result (List ℕ) FrameError) (bytes : List ℕ) → with_line line rest ≡ Ok bytes → (text : List ℕ) × (rest ≡ Ok text) × (bytes ≡ line ++ 10 ∷ text)
with_line-ok line (Ok text) bytes e = (text, refl, cc)
with_line-ok line (Err refusal) bytes e = absurd cc

text_of : (lines : List (List ℕ)) (at : ℕ) (bytes : List ℕ) → in_text at lines ≡ Ok bytes → IsText lines bytes
text_of [] at bytes e = absurd cc
text_of (written ∷ lines) at bytes e =
    elim (cases_Bool (bytes_eq written signature_line)) [
      | inl is ↦
          let rest = signed_rest lines (at + 1) bytes (rw is at e) in
          record { text = []; escaped = []; more = lines; split = ap (λ l. l ∷ lines) (bytes_eq-true written signature_line is); dashed = tt; signed = rest.0; bytes_are = rest.1 }
      | inr isnt ↦ by (unescaped written) refl (rw isnt at e) (λ text read. text_of lines (at + 1) text read)
    ]
  where
    by : (line : Option (List ℕ)) → unescaped written ≡ line → with_text_line at line (in_text (at + 1) lines) ≡ Ok bytes → ((text : List ℕ) → in_text (at + 1) lines ≡ Ok text → IsText lines text) → IsText (written ∷ lines) bytes
    by None is e rest = absurd cc
    by (Some line) is e rest =
        let more = with_line-ok line (in_text (at + 1) lines) bytes e in
        let h = rest more.0 more.1 in
        record {
          text = line ∷ h.text;
          escaped = written ∷ h.escaped;
          more = h.more;
          split = ap (λ ls. written ∷ ls) h.split;
          dashed = (escape_of written line is, h.dashed);
          signed = h.signed;
          bytes_are = more.2 ∙ ap (λ t. line ++ 10 ∷ t) h.bytes_are ∙ sym (append_assoc line (10 ∷ []) (ended h.text));
        }

-- ---- the whole

record IsHeaded (lines : List (List ℕ)) (bytes : List ℕ) : Type 0 where
  headers : List (List ℕ)
  more : List (List ℕ)
  split : lines ≡ headers ++ [] ∷ more
  headed : list_all is_header headers ≡ true
  text : IsText more bytes

and_of : (a b : Bool) → a ≡ true → b ≡ true → (a && b) ≡ true
and_of a b h g = rw (h, g) refl

empty_is : (line : List ℕ) → is_empty line ≡ true → line ≡ []
empty_is [] e = refl
empty_is (c ∷ line) e = absurd cc

one_header : (line : List ℕ) (lines : List (List ℕ)) (bytes : List ℕ) → is_header line ≡ true → IsHeaded lines bytes → IsHeaded (line ∷ lines) bytes
one_header line lines bytes is rest =
    record { headers = line ∷ rest.headers; more = rest.more; split = ap (λ ls. line ∷ ls) rest.split; headed = and_of (is_header line) (list_all is_header rest.headers) is rest.headed; text = rest.text }

headed_of : (lines : List (List ℕ)) (at : ℕ) (bytes : List ℕ) → in_headers at lines ≡ Ok bytes → IsHeaded lines bytes
headed_of [] at bytes e = absurd cc
headed_of (line ∷ lines) at bytes e =
    elim (cases_Bool (is_empty line)) [
      | inl none ↦ record { headers = []; more = lines; split = ap (λ l. l ∷ lines) (empty_is line none); headed = refl; text = text_of lines (at + 1) bytes (rw none at e) }
      | inr some ↦ elim (cases_Bool (is_header line)) [
        | inl is ↦ one_header line lines bytes is (headed_of lines (at + 1) bytes (rw (some, is) at e))
        | inr isnt ↦ absurd (let bad = rw (some, isnt) at e in cc)
      ]
    ]

abbrev pub Framed : List (List ℕ) → List ℕ → Type 0
Framed lines bytes = (text : List (List ℕ)) × IsFrame lines text × (bytes ≡ ended text)

pub sound : (lines : List (List ℕ)) (bytes : List ℕ) → in_headers 2 lines ≡ Ok bytes → Framed (begin_line ∷ lines) bytes
sound lines bytes e =
    let head = headed_of lines 2 bytes e in
    let body = head.text in
    let tail = body.signed in
    let inner : body.more ≡ tail.signature ++ end_line ∷ tail.behind = tail.split in
    let within : head.more ≡ body.escaped ++ signature_line ∷ (tail.signature ++ end_line ∷ tail.behind) = body.split ∙ ap (λ ls. body.escaped ++ signature_line ∷ ls) inner in (
      body.text,
      record {
        headers = head.headers;
        escaped = body.escaped;
        signature = tail.signature;
        behind = tail.behind;
        split = ap (λ ls. begin_line ∷ ls) (head.split ∙ ap (λ ls. head.headers ++ [] ∷ ls) within);
        headed = head.headed;
        dashed = body.dashed;
        signed = tail.signed;
        blank = tail.blank;
      },
      body.bytes_are,
    )
