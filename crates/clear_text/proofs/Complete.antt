-- The text within every frame is answered.
use Rattle.std.proofs.Common.{◌≡◌, ℕ, ◌+◌, true, false, List, [], ◌∷◌, ◌++◌, Some, Ok, inl, inr, refl, sym, ap, ◌∙◌, append_assoc}
use Rattle.std.specs.Prelude.{bytes_eq}
use Rattle.std.specs.List.{list_any, list_all}
use Rattle.std.proofs.lemmas.Bool.{or_parts, and_parts, false≢true}
use Rattle.acq_base.specs.Words.{is_blank}
use Rattle.clear_text.specs.Frame.{signature_line, end_line, begins_with, is_dash, is_header, IsEscape, AreEscapes, IsFrame, ended}
use Rattle.clear_text.specs.Unframed.{is_empty, unescaped, behind_frame, in_signature, in_text, in_headers, unframed_lines}

blank_behind : (behind : List (List ℕ)) (at : ℕ) → list_all (list_all is_blank) behind ≡ true → behind_frame at behind ≡ Ok []
blank_behind [] at blank = refl
blank_behind (line ∷ behind) at blank =
    let parts = and_parts (list_all is_blank line) (list_all (list_all is_blank) behind) blank in
    rw (parts.0) (blank_behind behind (at + 1) parts.1)

signed_text : (signature behind : List (List ℕ)) (at : ℕ) → list_any (λ line. bytes_eq line end_line) signature ≡ false → list_all (list_all is_blank) behind ≡ true
    → in_signature at (signature ++ end_line ∷ behind) ≡ Ok []
signed_text [] behind at signed blank = blank_behind behind (at + 1) blank
signed_text (line ∷ signature) behind at signed blank =
    let parts = or_parts (bytes_eq line end_line) (list_any (λ other. bytes_eq other end_line) signature) signed in
    rw (parts.0) (signed_text signature behind (at + 1) parts.1 blank)

-- ---- a line of the text

plain_line : (line : List ℕ) → begins_with is_dash line ≡ false → (bytes_eq line signature_line ≡ false) × (unescaped line ≡ Some line)
plain_line [] plain = (refl, refl)
plain_line (c ∷ line) plain = (rw plain refl, rw plain refl)

escape_read : (line escaped : List ℕ) → IsEscape line escaped → (bytes_eq escaped signature_line ≡ false) × (unescaped escaped ≡ Some line)
escape_read line escaped (inl e) = (ap (λ l. bytes_eq l signature_line) e, ap unescaped e)
escape_read line escaped (inr h) =
    let plain = plain_line line h.1 in
    (ap (λ l. bytes_eq l signature_line) h.0 ∙ plain.0, ap unescaped h.0 ∙ plain.1)

escaped_text : (text escaped more : List (List ℕ)) (at : ℕ) → AreEscapes text escaped → ((below : ℕ) → in_signature below more ≡ Ok []) → in_text at (escaped ++ signature_line ∷ more) ≡ Ok (ended text)
escaped_text [] [] more at dashed signed = signed (at + 1)
escaped_text [] (line ∷ escaped) more at dashed signed = absurd dashed
escaped_text (line ∷ text) [] more at dashed signed = absurd dashed
escaped_text (line ∷ text) (written ∷ escaped) more at dashed signed =
    let read = escape_read line written dashed.0 in
    let rest = escaped_text text escaped more (at + 1) dashed.1 signed in
    rw (read.0, read.1, rest) (ap (λ t. Ok t) (sym (append_assoc line (10 ∷ []) (ended text))))

-- ---- the whole

header_some : (line : List ℕ) → is_header line ≡ true → is_empty line ≡ false
header_some [] header = absurd (false≢true header)
header_some (c ∷ line) header = refl

headed_text : (headers more : List (List ℕ)) (bytes : List ℕ) (at : ℕ) → list_all is_header headers ≡ true → ((below : ℕ) → in_text below more ≡ Ok bytes) → in_headers at (headers ++ [] ∷ more) ≡ Ok bytes
headed_text [] more bytes at headed text = text (at + 1)
headed_text (line ∷ headers) more bytes at headed text =
    let parts = and_parts (is_header line) (list_all is_header headers) headed in
    rw (header_some line parts.0, parts.0) (headed_text headers more bytes (at + 1) parts.1 text)

pub complete : (lines text : List (List ℕ)) → IsFrame lines text → unframed_lines lines ≡ Ok (Some (ended text))
unfolding unframed_lines
complete lines text h =
    let more = h.signature ++ end_line ∷ h.behind in
    let within = headed_text h.headers (h.escaped ++ signature_line ∷ more) (ended text) 2 h.headed (λ below. escaped_text text h.escaped more below h.dashed (λ at. signed_text h.signature h.behind at h.signed h.blank)) in
    ap unframed_lines h.split ∙ rw within refl
