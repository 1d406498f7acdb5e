-- What a text holds within its frame (RFC 9580, section 7), or the line at which it is no frame.
use Rattle.std.specs.Prelude.{ℕ, ◌+◌, ◌==◌, bytes_eq, Bool, true, false, if◌then◌else◌, List, [], ◌∷◌, ◌++◌, Option, Some, None, Result, Ok, Err}
use Rattle.std.specs.List.{list_all}
use Rattle.std.specs.Str.Lines.{lines as text_lines}
use Rattle.acq_base.specs.Words.{is_blank}
use Rattle.clear_text.specs.Frame.{begin_line, signature_line, end_line, is_dash, is_header}
use Rattle.clear_text.specs.declared.error.FrameError.{FrameError}
use Rattle.clear_text.specs.declared.error.FrameError.TheVariants.{BadFrame}

abbrev pub is_empty : List ℕ → Bool
is_empty [] = true
is_empty (c ∷ cs) = false

abbrev pub behind_dash : List ℕ → Option (List ℕ)
behind_dash [] = None
behind_dash (c ∷ line) = if c == 32 then Some line else None

-- the line that is written so in a frame, if one is
abbrev pub unescaped : List ℕ → Option (List ℕ)
unescaped [] = Some []
unescaped (c ∷ line) = if is_dash c then behind_dash line else Some (c ∷ line)

-- behind the signature
abbrev pub behind_frame : ℕ → List (List ℕ) → Result (List ℕ) FrameError
behind_frame at [] = Ok []
behind_frame at (line ∷ lines) = if list_all is_blank line then behind_frame (at + 1) lines else Err (BadFrame at)

-- in the signature
abbrev pub in_signature : ℕ → List (List ℕ) → Result (List ℕ) FrameError
in_signature at [] = Err (BadFrame 0)
in_signature at (line ∷ lines) = if bytes_eq line end_line then behind_frame (at + 1) lines else in_signature (at + 1) lines

abbrev pub with_line : List ℕ → Result (List ℕ) FrameError → Result (List ℕ) FrameError
with_line line (Ok text) = Ok (line ++ 10 ∷ text)
with_line line (Err refusal) = Err refusal

abbrev pub with_text_line : ℕ → Option (List ℕ) → Result (List ℕ) FrameError → Result (List ℕ) FrameError
with_text_line at None behind = Err (BadFrame at)
with_text_line at (Some line) behind = with_line line behind

-- in the text
abbrev pub in_text : ℕ → List (List ℕ) → Result (List ℕ) FrameError
in_text at [] = Err (BadFrame 0)
in_text at (line ∷ lines) =
    if bytes_eq line signature_line then in_signature (at + 1) lines else with_text_line at (unescaped line) (in_text (at + 1) lines)

-- in the headers
abbrev pub in_headers : ℕ → List (List ℕ) → Result (List ℕ) FrameError
in_headers at [] = Err (BadFrame 0)
in_headers at (line ∷ lines) =
    if is_empty line then in_text (at + 1) lines else if is_header line then in_headers (at + 1) lines else Err (BadFrame at)

abbrev pub framed : Result (List ℕ) FrameError → Result (Option (List ℕ)) FrameError
framed (Ok text) = Ok (Some text)
framed (Err refusal) = Err refusal

-- the text within a frame of these lines, or none where they begin none
unfoldable pub unframed_lines : List (List ℕ) → Result (Option (List ℕ)) FrameError
unframed_lines [] = Ok None
unframed_lines (line ∷ lines) = if bytes_eq line begin_line then framed (in_headers 2 lines) else Ok None

-- the text within the frame that the bytes are, or none where their first line begins none
unfoldable pub unframed : List ℕ → Result (Option (List ℕ)) FrameError
unframed bytes = unframed_lines (text_lines bytes)
