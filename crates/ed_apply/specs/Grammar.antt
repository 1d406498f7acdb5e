-- Edit scripts as `diff --ed` writes them (the commands a, c and d of ed, POSIX): what the lines of one say, or the line
-- at which they are refused.
use Rattle.std.specs.Prelude.{ℕ, ◌+◌, ◌-◌, ◌==◌, ◌&&◌, nat_le, Bool, true, false, if◌then◌else◌, List, [], ◌∷◌, ◌++◌, length, take, codes, bytes_eq, slice_get, slice_index, Option, Some, None, Result, Ok, Err}
use Rattle.std.specs.List.{list_any, before_first, after_first}
use Rattle.acq_base.specs.Digits.{number_of_digits}
use Rattle.ed_apply.specs.Edits.{file_lines}
use Rattle.ed_apply.specs.declared.command.Command.{Command}
use Rattle.ed_apply.specs.declared.reading.Phase.{Phase}
use Rattle.ed_apply.specs.declared.reading.Phase.TheVariants.{Commands, Within, Ended, Replaced}
use Rattle.ed_apply.specs.declared.script.Hunk.{Hunk}
use Rattle.ed_apply.specs.declared.script.Script.{Script}
use Rattle.ed_apply.specs.declared.error.ScriptError.{ScriptError}
use Rattle.ed_apply.specs.declared.error.ScriptError.TheVariants.{BadCommand, NotDown, NoDot}

-- ---- one command

abbrev pub is_comma : ℕ → Bool
is_comma c = c == 44

-- the number of a line: 1 to 18 decimal digits
abbrev pub line_number : List ℕ → Option ℕ
line_number text = if nat_le (length text) 18 then number_of_digits text else None

abbrev pub both : Option ℕ → Option ℕ → Option (ℕ × ℕ)
both (Some first) (Some last) = Some (first, last)
both _ _ = None

-- `N,M`, or `N` for `N,N`
unfoldable pub range_of : List ℕ → Option (ℕ × ℕ)
range_of places =
    if list_any is_comma places then both (line_number (before_first is_comma places)) (line_number (after_first is_comma places))
    else both (line_number places) (line_number places)

-- a text behind line N
abbrev pub added : Option ℕ → Option Command
added None = None
added (Some line) = Some (record { from = line; to = line; adds = true })

-- the lines N to M give way, for a text or for none; lines are counted from 1
abbrev pub changed : Bool → Option (ℕ × ℕ) → Option Command
changed adds None = None
changed adds (Some range) =
    if nat_le 1 range.0 && nat_le range.0 range.1 then Some (record { from = range.0 - 1; to = range.1; adds = adds }) else None

abbrev pub lettered : ℕ → List ℕ → Option Command
lettered letter places =
    if letter == 97 then added (line_number places)
    else if letter == 99 then changed true (range_of places)
    else if letter == 100 then changed false (range_of places)
    else None

-- the command that a line is: its last byte is the letter, a, c or d
unfoldable pub command_of : List ℕ → Option Command
command_of line = if nat_le 1 (length line) then lettered (slice_index line (length line - 1)) (take (length line - 1) line) else None

-- ---- a line of a script

-- without the line feed at its end, if it has one
abbrev pub without_feed : List ℕ → List ℕ
without_feed line = if slice_index line (length line - 1) == 10 then take (length line - 1) line else line

-- a hunk may follow one whose `from` is at least its `to`
abbrev pub goes_down : Option Hunk → ℕ → Bool
goes_down None to = true
goes_down (Some above) to = nat_le to above.from

-- hunks so far, and where in the script the next line stands
pub record State : Type 0 where
  pub hunks : List Hunk
  pub phase : Phase

abbrev pub last_of : List Hunk → Option Hunk
last_of hunks = slice_get hunks (length hunks - 1)

abbrev pub hunk_of : Command → ℕ → Hunk
hunk_of command at = record { from = command.from; to = command.to; text = []; at = at }

abbrev pub begun : List Hunk → Command → ℕ → State
begun hunks command at =
    if command.adds then record { hunks = hunks; phase = Within (hunk_of command at) false }
    else record { hunks = hunks ++ hunk_of command at ∷ []; phase = Commands }

abbrev pub after_command : List Hunk → Option Command → ℕ → Result State ScriptError
after_command hunks None at = Err (BadCommand at)
after_command hunks (Some command) at = if goes_down (last_of hunks) command.to then Ok (begun hunks command at) else Err (NotDown at)

-- a command behind whole hunks
unfoldable pub on_command : List Hunk → ℕ → List ℕ → Result State ScriptError
on_command hunks at line = after_command hunks (command_of line) at

abbrev pub with_line : Hunk → List ℕ → Hunk
with_line hunk line = record hunk { text = hunk.text ++ (line ++ 10 ∷ []) }

-- the last line of the text, which is `..`, becomes `.`
abbrev pub with_dot : Hunk → Hunk
with_dot hunk = record hunk { text = take (length hunk.text - 2) hunk.text ++ 10 ∷ [] }

-- a text runs to a line that is `.`
abbrev pub on_text : Hunk → Bool → List ℕ → Phase
on_text hunk dots line = if bytes_eq line (codes ".") then Ended hunk dots else Within (with_line hunk line) (bytes_eq line (codes ".."))

-- Where a text's last line is `..`, a line `s/.//` may follow, which makes that line `.`,
-- and directly behind that a line `a`, with more of the text. Any other line is a command.
unfoldable pub on_line : State → ℕ → List ℕ → Result State ScriptError
on_line state at line = elim state.phase [
  | Commands ↦ on_command state.hunks at line
  | Within hunk dots ↦ Ok (record { hunks = state.hunks; phase = on_text hunk dots line })
  | Ended hunk dots ↦
      if dots && bytes_eq line (codes "s/.//") then Ok (record { hunks = state.hunks; phase = Replaced (with_dot hunk) })
      else on_command (state.hunks ++ hunk ∷ []) at line
  | Replaced hunk ↦
      if bytes_eq line (codes "a") then Ok (record { hunks = state.hunks; phase = Within hunk false })
      else on_command (state.hunks ++ hunk ∷ []) at line
]

-- a script may end behind a command or a whole text
abbrev pub at_end : List Hunk → Phase → Result Script ScriptError
at_end hunks Commands = Ok (record { hunks = hunks })
at_end hunks (Within hunk dots) = Err NoDot
at_end hunks (Ended hunk dots) = Ok (record { hunks = hunks ++ hunk ∷ [] })
at_end hunks (Replaced hunk) = Ok (record { hunks = hunks ++ hunk ∷ [] })

abbrev pub and_then : Result State ScriptError → (State → Result Script ScriptError) → Result Script ScriptError
and_then (Ok state) more = more state
and_then (Err refusal) more = Err refusal

-- the script that further lines make, numbered from `at`
abbrev pub scanned : State → ℕ → List (List ℕ) → Result Script ScriptError
scanned state at [] = at_end state.hunks state.phase
scanned state at (line ∷ lines) = and_then (on_line state at (without_feed line)) (λ next. scanned next (at + 1) lines)

abbrev pub start : State
start = record { hunks = []; phase = Commands }

-- the script that the bytes are, or the refusal of the first line that can't stand there
unfoldable pub script_of : List ℕ → Result Script ScriptError
script_of bytes = scanned start 1 (file_lines bytes)
