-- The scripts that are read are sound: each step keeps the hunks so far sound, the open one included.
use Rattle.std.proofs.Common.{◌≡◌, ◌∙◌, ◌⊎◌, ℕ, suc, ◌+◌, ◌-◌, ◌≤◌, ◌==◌, ◌&&◌, nat_le, Bool, true, false, List, [], ◌∷◌, ◌++◌, length, take, codes, Option, Some, None, Result, Ok, Err, inl, inr, refl, sym, ap, subst, append_assoc, arith}
use Rattle.std.specs.Prelude.{All, IfOk, bytes_eq, slice_get, slice_index}
use Rattle.std.proofs.lemmas.Bool.{cases_Bool}
use Rattle.std.proofs.lemmas.Bool.Decides.{nat_tests}
use Rattle.std.proofs.lemmas.List.Elements.{All-push, All-pop, All-nil}
use Rattle.ed_apply.specs.Edits.{IsWholeLines, IsSoundHunk, GoesDown, IsSound}
use Rattle.ed_apply.specs.Grammar.{State, line_number, added, changed, range_of, lettered, command_of, goes_down, last_of, hunk_of, begun, after_command, on_command, with_dot, on_text, on_line, at_end, and_then, scanned, script_of, start, without_feed}
use Rattle.ed_apply.specs.Edits.{file_lines}
use Rattle.ed_apply.specs.declared.command.Command.{Command}
use Rattle.ed_apply.specs.declared.reading.Phase.{Phase}
use Rattle.ed_apply.specs.declared.reading.Phase.TheVariants.{Commands, Within, Ended, Replaced}
use Rattle.ed_apply.specs.declared.script.Hunk.{Hunk}
use Rattle.ed_apply.specs.declared.script.Script.{Script}
use Rattle.ed_apply.specs.declared.error.ScriptError.{ScriptError}
use Rattle.ed_apply.specs.declared.error.ScriptError.TheVariants.{NoMemory}

pub record AreSound (hunks : List Hunk) : Type 0 where
  pub each : All IsSoundHunk hunks
  pub order : GoesDown hunks

-- ---- one more hunk

down-push : (hunks : List Hunk) (hunk : Hunk) → GoesDown hunks → goes_down (last_of hunks) hunk.to ≡ true → GoesDown (hunks ++ hunk ∷ [])
down-push [] hunk down may = tt
down-push (above ∷ []) hunk down may = (grind (arith, nat_tests), tt)
down-push (above ∷ next ∷ more) hunk down may =
    let e : length (above ∷ next ∷ more) - 1 ≡ suc (length (next ∷ more) - 1) = omega arith in
    (down.0, down-push (next ∷ more) hunk down.1 (ap (λ k. goes_down (slice_get (above ∷ next ∷ more) k) hunk.to) (sym e) ∙ may))

down-same : (hunks : List Hunk) (hunk other : Hunk) → other.to ≡ hunk.to → GoesDown (hunks ++ hunk ∷ []) → GoesDown (hunks ++ other ∷ [])
down-same [] hunk other e down = tt
down-same (above ∷ []) hunk other e down = (rw e down.0, tt)
down-same (above ∷ next ∷ more) hunk other e down = (down.0, down-same (next ∷ more) hunk other e down.1)

last-sound : (hunks : List Hunk) (hunk : Hunk) → All IsSoundHunk (hunks ++ hunk ∷ []) → (All IsSoundHunk hunks) × IsSoundHunk hunk
last-sound hunks hunk all = let parts = All-pop IsSoundHunk (hunks ++ hunk ∷ []) hunks (Some hunk) refl all in (parts.0, parts.1)

-- the open hunk with another text
retexted : (hunks : List Hunk) (hunk : Hunk) (text : List ℕ) → AreSound (hunks ++ hunk ∷ []) → IsWholeLines text → AreSound (hunks ++ record hunk { text = text } ∷ [])
retexted hunks hunk text sound whole =
    let parts = last-sound hunks hunk sound.each in
    record {
      each = All-push IsSoundHunk hunks (record hunk { text = text }) parts.0 (record { order = parts.1.order; text = whole });
      order = down-same hunks hunk (record hunk { text = text }) refl sound.order;
    }

-- ---- commands

change-sound : (adds : Bool) (range : Option (ℕ × ℕ)) (command : Command) → changed adds range ≡ Some command → command.from ≤ command.to
change-sound adds None command e = absurd (cc)
change-sound adds (Some range) command e =
    elim (cases_Bool (nat_le 1 range.0 && nat_le range.0 range.1)) [
      | inl is ↦
          let made = rw is at e in
          let from : command.from ≡ range.0 - 1 = cc in
          let to : command.to ≡ range.1 = cc in
          let order : range.0 ≤ range.1 = grind (arith, nat_tests) in
          omega arith
      | inr isnt ↦ let none = rw isnt at e in absurd (cc)
    ]

add-sound : (line : Option ℕ) (command : Command) → added line ≡ Some command → command.from ≤ command.to
add-sound None command e = absurd (cc)
add-sound (Some line) command e =
    let from : command.from ≡ line = cc in
    let to : command.to ≡ line = cc in
    omega arith

letter-sound : (letter : ℕ) (places : List ℕ) (command : Command) → lettered letter places ≡ Some command → command.from ≤ command.to
letter-sound letter places command e =
    elim (cases_Bool (letter == 97)) [
      | inl a ↦ add-sound (line_number places) command (rw a at e)
      | inr not_a ↦
          let rest = rw not_a at e in
          elim (cases_Bool (letter == 99)) [
            | inl c ↦ change-sound true (range_of places) command (rw c at rest)
            | inr not_c ↦
                let more = rw not_c at rest in
                elim (cases_Bool (letter == 100)) [
                  | inl d ↦ change-sound false (range_of places) command (rw d at more)
                  | inr not_d ↦ let none = rw not_d at more in absurd (cc)
                ]
          ]
    ]

command-sound : (line : List ℕ) (command : Command) → command_of line ≡ Some command → command.from ≤ command.to
unfolding command_of
command-sound line command e =
    elim (cases_Bool (nat_le 1 (length line))) [
      | inl is ↦ letter-sound (slice_index line (length line - 1)) (take (length line - 1) line) command (rw is at e)
      | inr isnt ↦ let none = rw isnt at e in absurd (cc)
    ]

-- ---- states

abbrev pub hunks_in : List Hunk → Phase → List Hunk
hunks_in hunks Commands = hunks
hunks_in hunks (Within hunk dots) = hunks ++ hunk ∷ []
hunks_in hunks (Ended hunk dots) = hunks ++ hunk ∷ []
hunks_in hunks (Replaced hunk) = hunks ++ hunk ∷ []

begun-same : (hunks : List Hunk) (command : Command) (at : ℕ) → hunks_in (begun hunks command at).hunks (begun hunks command at).phase ≡ hunks ++ hunk_of command at ∷ []
begun-same hunks command at = elim (cases_Bool command.adds) [ inl is ↦ rw is refl | inr isnt ↦ rw isnt refl ]

after-sound : (hunks : List Hunk) (command : Option Command) (at : ℕ) (next : State) → ((c : Command) → command ≡ Some c → c.from ≤ c.to) → AreSound hunks → after_command hunks command at ≡ Ok next → AreSound (hunks_in next.hunks next.phase)
after-sound hunks None at next ordered sound e = absurd (cc)
after-sound hunks (Some command) at next ordered sound e =
    elim (cases_Bool (goes_down (last_of hunks) command.to)) [
      | inl may ↦
          let made = rw may at e in
          let is : next ≡ begun hunks command at = cc in
          let hunk = hunk_of command at in
          let all : AreSound (hunks ++ hunk ∷ []) = record {
            each = All-push IsSoundHunk hunks hunk sound.each (record { order = ordered command refl; text = inl refl });
            order = down-push hunks hunk sound.order may;
          } in
          subst AreSound (sym (ap (λ (s : State). hunks_in s.hunks s.phase) is ∙ begun-same hunks command at)) all
      | inr away ↦ let none = rw away at e in absurd (cc)
    ]

on_command-sound : (hunks : List Hunk) (at : ℕ) (line : List ℕ) (next : State) → AreSound hunks → on_command hunks at line ≡ Ok next → AreSound (hunks_in next.hunks next.phase)
unfolding on_command
on_command-sound hunks at line next sound e = after-sound hunks (command_of line) at next (λ c is. command-sound line c is) sound e

text-sound : (hunks : List Hunk) (hunk : Hunk) (dots : Bool) (line : List ℕ) → AreSound (hunks ++ hunk ∷ []) → AreSound (hunks_in hunks (on_text hunk dots line))
text-sound hunks hunk dots line sound =
    elim (cases_Bool (bytes_eq line (codes "."))) [
      | inl is ↦ rw is sound
      | inr isnt ↦ rw isnt (retexted hunks hunk (hunk.text ++ (line ++ 10 ∷ [])) sound (inr (hunk.text ++ line, sym (append_assoc hunk.text line (10 ∷ [])))))
    ]

line-sound : (hunks : List Hunk) (phase : Phase) (at : ℕ) (line : List ℕ) (next : State) → AreSound (hunks_in hunks phase) → on_line (record { hunks = hunks; phase = phase }) at line ≡ Ok next → AreSound (hunks_in next.hunks next.phase)
unfolding on_line
line-sound hunks Commands at line next sound e = on_command-sound hunks at line next sound e
line-sound hunks (Within hunk dots) at line next sound e =
    let is : next ≡ record { hunks = hunks; phase = on_text hunk dots line } = cc in
    subst AreSound (sym (ap (λ (s : State). hunks_in s.hunks s.phase) is)) (text-sound hunks hunk dots line sound)
line-sound hunks (Ended hunk dots) at line next sound e =
    elim (cases_Bool (dots && bytes_eq line (codes "s/.//"))) [
      | inl hit ↦
          let made = rw hit at e in
          let is : next ≡ record { hunks = hunks; phase = Replaced (with_dot hunk) } = cc in
          subst AreSound (sym (ap (λ (s : State). hunks_in s.hunks s.phase) is)) (retexted hunks hunk (take (length hunk.text - 2) hunk.text ++ 10 ∷ []) sound (inr (take (length hunk.text - 2) hunk.text, refl)))
      | inr miss ↦ on_command-sound (hunks ++ hunk ∷ []) at line next sound (rw miss at e)
    ]
line-sound hunks (Replaced hunk) at line next sound e =
    elim (cases_Bool (bytes_eq line (codes "a"))) [
      | inl hit ↦
          let made = rw hit at e in
          let is : next ≡ record { hunks = hunks; phase = Within hunk false } = cc in
          subst AreSound (sym (ap (λ (s : State). hunks_in s.hunks s.phase) is)) sound
      | inr miss ↦ on_command-sound (hunks ++ hunk ∷ []) at line next sound (rw miss at e)
    ]

end-sound : (hunks : List Hunk) (phase : Phase) (script : Script) → AreSound (hunks_in hunks phase) → at_end hunks phase ≡ Ok script → IsSound script
end-sound hunks Commands script sound e = let is : script.hunks ≡ hunks = cc in record { hunks = rw is sound.each; order = rw is sound.order }
end-sound hunks (Within hunk dots) script sound e = absurd (cc)
end-sound hunks (Ended hunk dots) script sound e = let is : script.hunks ≡ hunks ++ hunk ∷ [] = cc in record { hunks = rw is sound.each; order = rw is sound.order }
end-sound hunks (Replaced hunk) script sound e = let is : script.hunks ≡ hunks ++ hunk ∷ [] = cc in record { hunks = rw is sound.each; order = rw is sound.order }

step-sound : (lines : List (List ℕ)) (at : ℕ) (script : Script) (next : Result State ScriptError) → ((s : State) → next ≡ Ok s → AreSound (hunks_in s.hunks s.phase)) → ((s : State) → AreSound (hunks_in s.hunks s.phase) → scanned s at lines ≡ Ok script → IsSound script) → and_then next (λ s. scanned s at lines) ≡ Ok script → IsSound script
step-sound lines at script (Ok s) kept rest e = rest s (kept s refl) e
step-sound lines at script (Err refusal) kept rest e = absurd (cc)

pub scan-sound : (lines : List (List ℕ)) (state : State) (at : ℕ) (script : Script) → AreSound (hunks_in state.hunks state.phase) → scanned state at lines ≡ Ok script → IsSound script
scan-sound [] state at script sound e = end-sound state.hunks state.phase script sound e
scan-sound (line ∷ lines) state at script sound e =
    step-sound lines (at + 1) script (on_line state at (without_feed line)) (λ s is. line-sound state.hunks state.phase at (without_feed line) s sound is) (λ s ss ee. scan-sound lines s (at + 1) script ss ee) e

pub script-sound : (bytes : List ℕ) (script : Script) → script_of bytes ≡ Ok script → IsSound script
unfolding script_of
script-sound bytes script e = scan-sound (file_lines bytes) start 1 script (record { each = All-nil IsSoundHunk; order = tt }) e

pub read-sound : (bytes : List ℕ) (result : Result Script ScriptError) → (result ≡ Err NoMemory) ⊎ (result ≡ script_of bytes) → IfOk result (λ script. IsSound script)
read-sound bytes (Ok script) (inl e) = absurd (cc)
read-sound bytes (Ok script) (inr e) = script-sound bytes script (sym e)
read-sound bytes (Err refusal) e = tt
