-- The scan of a script's lines without their line feeds, line by line.
use Rattle.std.proofs.Common.{◌≡◌, ◌∙◌, ℕ, ◌+◌, ◌-◌, ◌==◌, ◌&&◌, Bool, true, false, List, [], ◌∷◌, ◌++◌, length, map, take, codes, Option, Some, None, Result, Ok, Err, inl, inr, refl, ap, arith, length-append}
use Rattle.std.specs.Prelude.{◌≢◌, bytes_eq, slice_index}
use Rattle.std.proofs.Math.Seq.{take-append_seam}
use Rattle.std.proofs.lemmas.Bool.{cases_Bool}
use Rattle.std.proofs.lemmas.Slice.Eq.{bytes_eq-Decides}
use Rattle.ed_apply.specs.Grammar.{State, without_feed, on_line, on_command, command_of, after_command, begun, goes_down, last_of, with_line, with_dot, at_end, and_then, scanned}
use Rattle.ed_apply.specs.declared.command.Command.{Command}
use Rattle.ed_apply.specs.declared.reading.Phase.{Phase}
use Rattle.ed_apply.specs.declared.reading.Phase.TheVariants.{Commands, Within, Ended, Replaced}
use Rattle.ed_apply.specs.declared.script.Hunk.{Hunk}
use Rattle.ed_apply.specs.declared.script.Script.{Script}
use Rattle.ed_apply.specs.declared.error.ScriptError.{ScriptError}

abbrev pub state_of : List Hunk → Phase → State
state_of hunks phase = record { hunks = hunks; phase = phase }

abbrev pub walked : State → ℕ → List (List ℕ) → Result Script ScriptError
walked state at [] = at_end state.hunks state.phase
walked state at (line ∷ lines) = and_then (on_line state at line) (λ next. walked next (at + 1) lines)

-- ---- with line feeds and without

same-next : (r : Result State ScriptError) (at : ℕ) (lines : List (List ℕ)) → ((s : State) → scanned s at lines ≡ walked s at (map without_feed lines))
    → and_then r (λ next. scanned next at lines) ≡ and_then r (λ next. walked next at (map without_feed lines))
same-next (Ok s) at lines same = same s
same-next (Err e) at lines same = refl

pub scanned-walked : (lines : List (List ℕ)) (state : State) (at : ℕ) → scanned state at lines ≡ walked state at (map without_feed lines)
scanned-walked [] state at = refl
scanned-walked (line ∷ lines) state at = same-next (on_line state at (without_feed line)) (at + 1) lines (λ s. scanned-walked lines s (at + 1))

abbrev pub fed : List ℕ → List ℕ
fed line = line ++ 10 ∷ []

last-fed : (line : List ℕ) → slice_index (fed line) (length line) ≡ 10
last-fed [] = refl
last-fed (c ∷ line) = last-fed line

pub fed-back : (line : List ℕ) → without_feed (fed line) ≡ line
fed-back line =
    let long : length (fed line) - 1 ≡ length line = omega (arith, length-append line (10 ∷ [])) in
    let test : (slice_index (fed line) (length (fed line) - 1) == 10) ≡ true = ap (λ k. slice_index (fed line) k == 10) long ∙ ap (λ c. c == 10) (last-fed line) in
    rw test (ap (λ k. take k (fed line)) long ∙ take-append_seam line (10 ∷ []))

pub all-back : (lines : List (List ℕ)) → map without_feed (map fed lines) ≡ lines
all-back [] = refl
all-back (line ∷ lines) = λ i. fed-back line i ∷ all-back lines i

-- ---- what one line does

pub is-not : (a b : List ℕ) → a ≢ b → bytes_eq a b ≡ false
is-not a b differs =
    elim (cases_Bool (bytes_eq a b)) [
      | inl same ↦ absurd (differs ((bytes_eq-Decides a b).0 same))
      | inr other ↦ other
    ]

pub on-commands : (hunks : List Hunk) (at : ℕ) (line : List ℕ) → on_line (state_of hunks Commands) at line ≡ on_command hunks at line
unfolding on_line
on-commands hunks at line = refl

pub on-dot : (hunks : List Hunk) (hunk : Hunk) (dots : Bool) (at : ℕ) → on_line (state_of hunks (Within hunk dots)) at (codes ".") ≡ Ok (state_of hunks (Ended hunk dots))
unfolding on_line
on-dot hunks hunk dots at = refl

pub on-other : (hunks : List Hunk) (hunk : Hunk) (dots : Bool) (at : ℕ) (line : List ℕ) → bytes_eq line (codes ".") ≡ false
    → on_line (state_of hunks (Within hunk dots)) at line ≡ Ok (state_of hunks (Within (with_line hunk line) (bytes_eq line (codes ".."))))
unfolding on_line
on-other hunks hunk dots at line isnt = rw isnt refl

pub on-replace : (hunks : List Hunk) (hunk : Hunk) (at : ℕ) → on_line (state_of hunks (Ended hunk true)) at (codes "s/.//") ≡ Ok (state_of hunks (Replaced (with_dot hunk)))
unfolding on_line
on-replace hunks hunk at = refl

pub on-ended : (hunks : List Hunk) (hunk : Hunk) (dots : Bool) (at : ℕ) (line : List ℕ) → (dots && bytes_eq line (codes "s/.//")) ≡ false
    → on_line (state_of hunks (Ended hunk dots)) at line ≡ on_command (hunks ++ hunk ∷ []) at line
unfolding on_line
on-ended hunks hunk dots at line isnt = rw isnt refl

pub on-more : (hunks : List Hunk) (hunk : Hunk) (at : ℕ) → on_line (state_of hunks (Replaced hunk)) at (codes "a") ≡ Ok (state_of hunks (Within hunk false))
unfolding on_line
on-more hunks hunk at = refl

pub on-replaced : (hunks : List Hunk) (hunk : Hunk) (at : ℕ) (line : List ℕ) → bytes_eq line (codes "a") ≡ false
    → on_line (state_of hunks (Replaced hunk)) at line ≡ on_command (hunks ++ hunk ∷ []) at line
unfolding on_line
on-replaced hunks hunk at line isnt = rw isnt refl

-- ---- commands

pub commanded : (hunks : List Hunk) (at : ℕ) (line : List ℕ) (command : Command) → command_of line ≡ Some command → goes_down (last_of hunks) command.to ≡ true
    → on_command hunks at line ≡ Ok (begun hunks command at)
unfolding on_command
commanded hunks at line command is down = ap (λ c. after_command hunks c at) is ∙ rw down refl

abbrev pub IsBegun : List Hunk → ℕ → Option Command → State → Type 0
IsBegun hunks at found next = (command : Command) × (found ≡ Some command) × (next ≡ begun hunks command at)

after-ok : (hunks : List Hunk) (at : ℕ) (found : Option Command) (next : State) → after_command hunks found at ≡ Ok next → IsBegun hunks at found next
after-ok hunks at None next e = absurd (cc)
after-ok hunks at (Some command) next e =
    elim (cases_Bool (goes_down (last_of hunks) command.to)) [
      | inl may ↦ let made = rw may at e in (command, refl, cc)
      | inr away ↦ let none = rw away at e in absurd (cc)
    ]

pub command-ok : (hunks : List Hunk) (at : ℕ) (line : List ℕ) (next : State) → on_command hunks at line ≡ Ok next → IsBegun hunks at (command_of line) next
unfolding on_command
command-ok hunks at line next e = after-ok hunks at (command_of line) next e

-- neither `s/.//` nor `a` alone is a command
pub no-replace : command_of (codes "s/.//") ≡ None
unfolding command_of
no-replace = refl

pub no-more : command_of (codes "a") ≡ None
unfolding command_of
no-more = refl

pub not-replace : (line : List ℕ) (command : Command) → command_of line ≡ Some command → bytes_eq line (codes "s/.//") ≡ false
not-replace line command is = is-not line (codes "s/.//") (λ same. let none : command_of line ≡ None = ap command_of same ∙ no-replace in cc)

pub not-more : (line : List ℕ) (command : Command) → command_of line ≡ Some command → bytes_eq line (codes "a") ≡ false
not-more line command is = is-not line (codes "a") (λ same. let none : command_of line ≡ None = ap command_of same ∙ no-more in cc)

-- a scan that ends well went on well
pub went-on : (r : Result State ScriptError) (f : State → Result Script ScriptError) (script : Script) → and_then r f ≡ Ok script → (s : State) × (r ≡ Ok s) × (f s ≡ Ok script)
went-on (Ok s) f script e = (s, refl, e)
went-on (Err x) f script e = absurd (cc)
