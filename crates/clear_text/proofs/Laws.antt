-- The laws of frames, for what is answered of a text.
use Rattle.std.proofs.Common.{◌≡◌, ◌≢◌, ◌⊎◌, ℕ, true, false, not, List, [], ◌∷◌, ◌++◌, Option, Some, None, Result, Ok, Err, IfOk, IfErr, inl, inr, refl, sym, ap, subst, ◌∙◌, append_assoc, arith}
use Rattle.std.specs.Prelude.{bytes_eq}
use Rattle.std.specs.List.{list_any, list_all}
use Rattle.std.specs.Cmp.Lexicographic.{bytes_decides}
use Rattle.std.specs.Str.Lines.{lines as text_lines, strip_carriage_return}
use Rattle.std.proofs.lemmas.Bool.{cases_Bool, and_parts, not-true, false≢true}
use Rattle.acq_base.proofs.Texts.{bytes_eq-true}
use Rattle.clear_text.specs.Frame.{begin_line, is_line, IsFrame, ended}
use Rattle.clear_text.specs.Refused.{CanBegin, IsRefused, IsUnframedOf}
use Rattle.clear_text.specs.Unframed.{in_headers, framed, unframed_lines, unframed}
use Rattle.clear_text.specs.declared.error.FrameError.{FrameError}
use Rattle.clear_text.specs.declared.error.FrameError.TheVariants.{NoMemory}
use Rattle.clear_text.proofs.Complete.{complete}
use Rattle.clear_text.proofs.Lines.{is_feed, lines_feed}
use Rattle.clear_text.proofs.Sound.{sound}
use Rattle.clear_text.proofs.Stops.{Stops, GoesOn, headers_stop}

-- ---- what is told of lines

differs : (line : List ℕ) → bytes_eq line begin_line ≡ false → line ≢ begin_line
differs line isnt same = false≢true (sym isnt ∙ (bytes_decides line begin_line).1 same)

framed-ok : (read : Result (List ℕ) FrameError) (text : Option (List ℕ)) → framed read ≡ Ok text → (bytes : List ℕ) × (read ≡ Ok bytes) × (text ≡ Some bytes)
framed-ok (Ok bytes) text e = (bytes, refl, cc)
framed-ok (Err fault) text e = absurd cc

framed-err : (read : Result (List ℕ) FrameError) (fault : FrameError) → framed read ≡ Err fault → read ≡ Err fault
framed-err (Ok bytes) fault e = absurd cc
framed-err (Err other) fault e = cc

told_lines : (lines : List (List ℕ)) (text : Option (List ℕ)) → unframed_lines lines ≡ Ok text → IsUnframedOf lines text
unfolding unframed_lines
told_lines [] text e = let none : text ≡ None = cc in subst (IsUnframedOf []) (sym none) tt
told_lines (line ∷ lines) text e =
    elim (cases_Bool (bytes_eq line begin_line)) [
      | inl is ↦
          let read = framed-ok (in_headers 2 lines) text (rw is at e) in
          let whole = sound lines read.0 read.1 in
          subst (IsUnframedOf (line ∷ lines)) (sym read.2) (whole.0, subst (λ l. IsFrame (l ∷ lines) whole.0) (sym (bytes_eq-true line begin_line is)) whole.1, whole.2)
      | inr isnt ↦
          let plain : Ok None ≡ Ok text = rw isnt at e in
          let none : text ≡ None = cc in
          subst (IsUnframedOf (line ∷ lines)) (sym none) (differs line isnt)
    ]

-- ---- what is refused

begun_with : (lines : List (List ℕ)) → GoesOn in_headers 2 lines → CanBegin (begin_line ∷ lines)
begun_with lines h = let whole = sound (lines ++ h.0) h.1 h.2 in (h.0, whole.0, whole.1)

framed-refused : (lines : List (List ℕ)) (fault : FrameError) → in_headers 2 lines ≡ Err fault → unframed_lines (begin_line ∷ lines) ≡ Err fault
unfolding unframed_lines
framed-refused lines fault e = rw e refl

never : (lines text : List (List ℕ)) (fault : FrameError) → in_headers 2 lines ≡ Err fault → IsFrame (begin_line ∷ lines) text → ⊥
never lines text fault e h = let both = sym (framed-refused lines fault e) ∙ complete (begin_line ∷ lines) text h in cc

refused_within : (lines : List (List ℕ)) (fault : FrameError) → in_headers 2 lines ≡ Err fault → Stops in_headers 2 lines fault → IsRefused (begin_line ∷ lines) fault
refused_within lines fault e (inl (number, begun)) =
    subst (IsRefused (begin_line ∷ lines)) (sym number) (inl (refl, record { begun = begun_with lines begun; open_ended = λ text. never lines text fault e }))
refused_within lines fault e (inr h) =
    subst (IsRefused (begin_line ∷ lines)) (sym h.number) (inr (record {
      before = begin_line ∷ h.before;
      line = h.line;
      behind = h.behind;
      split = ap (λ ls. begin_line ∷ ls) h.split;
      number = omega arith;
      begun = begun_with h.before h.begun;
      refused = λ (more, text, frame). never (h.before ++ h.line ∷ more) text fault (h.refused more) (subst (λ ls. IsFrame (begin_line ∷ ls) text) (append_assoc h.before (h.line ∷ []) more) frame);
    }))

refused_lines : (lines : List (List ℕ)) (fault : FrameError) → unframed_lines lines ≡ Err fault → IsRefused lines fault
unfolding unframed_lines
refused_lines [] fault e = absurd cc
refused_lines (line ∷ lines) fault e =
    elim (cases_Bool (bytes_eq line begin_line)) [
      | inl is ↦
          let read = framed-err (in_headers 2 lines) fault (rw is at e) in
          subst (λ l. IsRefused (l ∷ lines) fault) (sym (bytes_eq-true line begin_line is)) (refused_within lines fault read (headers_stop lines 2 fault read))
      | inr isnt ↦ absurd (let plain : Ok None ≡ Err fault = rw isnt at e in cc)
    ]

-- ---- what is answered

abbrev Answers : Result (Option (List ℕ)) FrameError → List ℕ → Type 0
Answers result bytes = (result ≡ Err NoMemory) ⊎ (result ≡ unframed bytes)

pub told : (result : Result (Option (List ℕ)) FrameError) (bytes : List ℕ) → Answers result bytes → IfOk result (IsUnframedOf (text_lines bytes))
unfolding unframed
told (Ok text) bytes (inl memory) = absurd cc
told (Ok text) bytes (inr is) = told_lines (text_lines bytes) text (sym is)
told (Err fault) bytes is = tt

pub whole : (result : Result (Option (List ℕ)) FrameError) (bytes : List ℕ) → Answers result bytes → (text : List (List ℕ)) → IsFrame (text_lines bytes) text → (result ≡ Err NoMemory) ⊎ (result ≡ Ok (Some (ended text)))
unfolding unframed
whole result bytes (inl memory) text frame = inl memory
whole result bytes (inr is) text frame = inr (is ∙ complete (text_lines bytes) text frame)

pub refused : (result : Result (Option (List ℕ)) FrameError) (bytes : List ℕ) → Answers result bytes → IfErr result (λ fault. (fault ≡ NoMemory) ⊎ IsRefused (text_lines bytes) fault)
unfolding unframed
refused (Ok text) bytes is = tt
refused (Err fault) bytes (inl memory) = inl cc
refused (Err fault) bytes (inr is) = inr (refused_lines (text_lines bytes) fault (sym is))

-- ---- frames that are written

lines_again : (lines : List (List ℕ)) → list_all is_line lines ≡ true → text_lines (ended lines) ≡ lines
lines_again [] plain = refl
lines_again (line ∷ lines) plain =
    let parts = and_parts (is_line line) (list_all is_line lines) plain in
    let own = and_parts (not (list_any is_feed line)) (bytes_eq (strip_carriage_return line) line) parts.0 in
    let kept = bytes_eq-true (strip_carriage_return line) line own.1 in
    let rest = lines_again lines parts.1 in
    ap text_lines (append_assoc line (10 ∷ []) (ended lines))
    ∙ lines_feed line (ended lines) (not-true (list_any is_feed line) own.0)
    ∙ (λ i. kept i ∷ rest i)

pub comes_off : (lines text : List (List ℕ)) → list_all is_line lines ≡ true → IsFrame lines text → unframed (ended lines) ≡ Ok (Some (ended text))
unfolding unframed
comes_off lines text plain frame = ap unframed_lines (lines_again lines plain) ∙ complete lines text frame

pub ruleset laws = (told, whole, refused)

pub ruleset again = (comes_off)
