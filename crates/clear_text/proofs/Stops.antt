-- Where lines are refused: a frame can go on behind those before, and not behind the one that is refused.
use Rattle.std.proofs.Common.{◌≡◌, ◌⊎◌, ℕ, ◌+◌, false, List, [], ◌∷◌, ◌++◌, length, Option, Some, None, Result, Ok, Err, inl, inr, refl, sym, ap, ◌∙◌, arith}
use Rattle.std.specs.Prelude.{bytes_eq}
use Rattle.std.specs.List.{list_all}
use Rattle.std.proofs.lemmas.Bool.{cases_Bool}
use Rattle.acq_base.specs.Words.{is_blank}
use Rattle.clear_text.specs.Frame.{signature_line, end_line, is_header}
use Rattle.clear_text.specs.Unframed.{is_empty, unescaped, with_line, with_text_line, behind_frame, in_signature, in_text, in_headers}
use Rattle.clear_text.specs.declared.error.FrameError.{FrameError}
use Rattle.clear_text.specs.declared.error.FrameError.TheVariants.{BadFrame}

-- a reading of lines, the first of which has a number
abbrev pub Reader : Type 0
Reader = ℕ → List (List ℕ) → Result (List ℕ) FrameError

-- it reads these lines with some behind them
abbrev pub GoesOn : Reader → ℕ → List (List ℕ) → Type 0
GoesOn read at lines = (more : List (List ℕ)) × (bytes : List ℕ) × (read at (lines ++ more) ≡ Ok bytes)

-- the line that it refuses, whatever stands behind it
pub record IsRefusedAt (read : Reader) (at : ℕ) (lines : List (List ℕ)) (fault : FrameError) : Type 0 where
  pub before : List (List ℕ)
  pub line : List ℕ
  pub behind : List (List ℕ)
  pub split : lines ≡ before ++ line ∷ behind
  pub number : fault ≡ BadFrame (at + length before)
  pub begun : GoesOn read at before
  pub refused : (more : List (List ℕ)) → read at (before ++ line ∷ more) ≡ Err fault

abbrev pub Stops : Reader → ℕ → List (List ℕ) → FrameError → Type 0
Stops read at lines fault = ((fault ≡ BadFrame 0) × GoesOn read at lines) ⊎ IsRefusedAt read at lines fault

-- what a reading of one line more makes of what the rest gives
abbrev Follows : Result (List ℕ) FrameError → Result (List ℕ) FrameError → Type 0
Follows whole (Ok bytes) = (all : List ℕ) × (whole ≡ Ok all)
Follows whole (Err fault) = whole ≡ Err fault

abbrev Steps : Reader → Reader → ℕ → List ℕ → Type 0
Steps read next at line = (more : List (List ℕ)) → Follows (read at (line ∷ more)) (next (at + 1) more)

ok_follows : (whole rest : Result (List ℕ) FrameError) (bytes : List ℕ) → Follows whole rest → rest ≡ Ok bytes → (all : List ℕ) × (whole ≡ Ok all)
ok_follows whole (Ok text) bytes h e = h
ok_follows whole (Err fault) bytes h e = absurd cc

err_follows : (whole rest : Result (List ℕ) FrameError) (fault : FrameError) → Follows whole rest → rest ≡ Err fault → whole ≡ Err fault
err_follows whole (Ok text) fault h e = absurd cc
err_follows whole (Err other) fault h e = h ∙ e

same_follows : (whole rest : Result (List ℕ) FrameError) → whole ≡ rest → Follows whole rest
same_follows whole (Ok text) e = (text, e)
same_follows whole (Err fault) e = e

goes_on : (read next : Reader) (at : ℕ) (line : List ℕ) (lines : List (List ℕ)) → Steps read next at line → GoesOn next (at + 1) lines → GoesOn read at (line ∷ lines)
goes_on read next at line lines steps h =
    let all = ok_follows (read at (line ∷ (lines ++ h.0))) (next (at + 1) (lines ++ h.0)) h.1 (steps (lines ++ h.0)) h.2 in
    (h.0, all.0, all.1)

-- one line more in front
in_front : (read next : Reader) (at : ℕ) (line : List ℕ) (lines : List (List ℕ)) (fault : FrameError) → Steps read next at line → Stops next (at + 1) lines fault → Stops read at (line ∷ lines) fault
in_front read next at line lines fault steps (inl early) = inl (early.0, goes_on read next at line lines steps early.1)
in_front read next at line lines fault steps (inr h) =
    inr (record {
      before = line ∷ h.before;
      line = h.line;
      behind = h.behind;
      split = ap (λ ls. line ∷ ls) h.split;
      number = h.number ∙ ap (λ n. BadFrame n) (omega arith);
      begun = goes_on read next at line h.before steps h.begun;
      refused = λ more. err_follows (read at (line ∷ (h.before ++ h.line ∷ more))) (next (at + 1) (h.before ++ h.line ∷ more)) fault (steps (h.before ++ h.line ∷ more)) (h.refused more);
    })

-- the first line is refused
here : (read : Reader) (at : ℕ) (line : List ℕ) (lines : List (List ℕ)) (fault : FrameError) → GoesOn read at [] → ((more : List (List ℕ)) → read at (line ∷ more) ≡ Err (BadFrame at)) → read at (line ∷ lines) ≡ Err fault → Stops read at (line ∷ lines) fault
here read at line lines fault begun bad e =
    let is : Err fault ≡ Err (BadFrame at) = sym e ∙ bad lines in
    let fault_is : fault ≡ BadFrame at = cc in
    inr (record {
      before = [];
      line = line;
      behind = lines;
      split = refl;
      number = fault_is ∙ ap (λ n. BadFrame n) (omega arith);
      begun = begun;
      refused = λ more. bad more ∙ ap (λ f. Err f) (sym fault_is);
    })

-- ---- behind the signature, and in it

behind_stops : (lines : List (List ℕ)) (at : ℕ) (fault : FrameError) → behind_frame at lines ≡ Err fault → Stops behind_frame at lines fault
behind_stops [] at fault e = absurd cc
behind_stops (line ∷ lines) at fault e =
    elim (cases_Bool (list_all is_blank line)) [
      | inl blank ↦ in_front behind_frame behind_frame at line lines fault (λ more. same_follows _ _ (rw blank refl)) (behind_stops lines (at + 1) fault (rw blank at e))
      | inr isnt ↦ here behind_frame at line lines fault ([], [], refl) (λ more. rw isnt refl) e
    ]

signature_ends : (at : ℕ) → GoesOn in_signature at []
signature_ends at = (end_line ∷ [], [], refl)

signature_stops : (lines : List (List ℕ)) (at : ℕ) (fault : FrameError) → in_signature at lines ≡ Err fault → Stops in_signature at lines fault
signature_stops [] at fault e = inl (cc, signature_ends at)
signature_stops (line ∷ lines) at fault e =
    elim (cases_Bool (bytes_eq line end_line)) [
      | inl is ↦ in_front in_signature behind_frame at line lines fault (λ more. same_follows _ _ (rw is refl)) (behind_stops lines (at + 1) fault (rw is at e))
      | inr isnt ↦ in_front in_signature in_signature at line lines fault (λ more. same_follows _ _ (rw isnt refl)) (signature_stops lines (at + 1) fault (rw isnt at e))
    ]

-- ---- in the text

text_ends : (at : ℕ) → GoesOn in_text at []
text_ends at = (signature_line ∷ end_line ∷ [], [], refl)

line_follows : (line : List ℕ) (rest : Result (List ℕ) FrameError) → Follows (with_line line rest) rest
line_follows line (Ok text) = (line ++ 10 ∷ text, refl)
line_follows line (Err fault) = refl

with_line-err : (line : List ℕ) (rest : Result (List ℕ) FrameError) (fault : FrameError) → with_line line rest ≡ Err fault → rest ≡ Err fault
with_line-err line (Ok text) fault e = absurd cc
with_line-err line (Err other) fault e = e

text_stops : (lines : List (List ℕ)) (at : ℕ) (fault : FrameError) → in_text at lines ≡ Err fault → Stops in_text at lines fault
text_stops [] at fault e = inl (cc, text_ends at)
text_stops (written ∷ lines) at fault e =
    elim (cases_Bool (bytes_eq written signature_line)) [
      | inl is ↦ in_front in_text in_signature at written lines fault (λ more. same_follows _ _ (rw is refl)) (signature_stops lines (at + 1) fault (rw is at e))
      | inr isnt ↦ by (unescaped written) refl isnt (rw isnt at e) (text_stops lines (at + 1) fault)
    ]
  where
    by : (line : Option (List ℕ)) → unescaped written ≡ line → bytes_eq written signature_line ≡ false → with_text_line at (unescaped written) (in_text (at + 1) lines) ≡ Err fault
        → (in_text (at + 1) lines ≡ Err fault → Stops in_text (at + 1) lines fault) → Stops in_text at (written ∷ lines) fault
    by None is isnt bad rest = here in_text at written lines fault (text_ends at) (λ more. rw (isnt, is) refl) e
    by (Some line) is isnt bad rest =
        in_front in_text in_text at written lines fault (λ more. rw (isnt, is) (line_follows line (in_text (at + 1) more))) (rest (with_line-err line (in_text (at + 1) lines) fault (rw is at bad)))

-- ---- in the headers

headers_end : (at : ℕ) → GoesOn in_headers at []
headers_end at = ([] ∷ signature_line ∷ end_line ∷ [], [], refl)

pub headers_stop : (lines : List (List ℕ)) (at : ℕ) (fault : FrameError) → in_headers at lines ≡ Err fault → Stops in_headers at lines fault
headers_stop [] at fault e = inl (cc, headers_end at)
headers_stop (line ∷ lines) at fault e =
    elim (cases_Bool (is_empty line)) [
      | inl none ↦ in_front in_headers in_text at line lines fault (λ more. same_follows _ _ (rw none refl)) (text_stops lines (at + 1) fault (rw none at e))
      | inr some ↦ elim (cases_Bool (is_header line)) [
        | inl is ↦ in_front in_headers in_headers at line lines fault (λ more. same_follows _ _ (rw (some, is) refl)) (headers_stop lines (at + 1) fault (rw (some, is) at e))
        | inr isnt ↦ here in_headers at line lines fault (headers_end at) (λ more. rw (some, isnt) refl) e
      ]
    ]
