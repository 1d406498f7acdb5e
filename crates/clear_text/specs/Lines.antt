-- The lines that are still to be taken, and what stands before their text.
use Rattle.std.specs.Prelude.{ℕ, ◌+◌, ◌<◌, ◌^◌, List, ◌++◌, length, Result, Ok, Err}
use Rattle.clear_text.specs.declared.error.FrameError.{FrameError}

-- the lines below so many others can be numbered
abbrev pub IsCounted : ℕ → List (List ℕ) → Type 0
IsCounted above lines = above + length lines < 2 ^ 64

-- a text behind another, if there is one
abbrev pub with_front : List ℕ → Result (List ℕ) FrameError → Result (List ℕ) FrameError
with_front front (Ok text) = Ok (front ++ text)
with_front front (Err refusal) = Err refusal
