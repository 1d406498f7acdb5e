-- Lines that spell hunks are read as these hunks; where lines are refused, and where they end within a text.
use Rattle.std.proofs.Common.{◌≡◌, ◌∙◌, ◌⊎◌, ℕ, suc, ◌+◌, ◌-◌, ◌≤◌, ◌&&◌, Bool, true, false, List, [], ◌∷◌, ◌++◌, length, map, take, codes, Option, Some, None, Result, Ok, Err, inl, inr, refl, sym, ap, subst, arith, length-append, append_assoc}
use Rattle.std.specs.Prelude.{IfOk, bytes_eq, slice_get}
use Rattle.std.specs.List.{flat_map, AllByRecursion as Each}
use Rattle.std.proofs.lemmas.Bool.{cases_Bool}
use Rattle.std.proofs.lemmas.Bool.Decides.{nat_tests}
use Rattle.std.proofs.lemmas.Grind.{flat_map-append}
use Rattle.std.proofs.lemmas.List.{append-nil}
use Rattle.std.proofs.lemmas.List.Elements.{All-nil}
use Rattle.ed_apply.specs.Edits.{GoesDown, file_lines}
use Rattle.ed_apply.specs.Grammar.{State, on_line, on_command, command_of, after_command, goes_down, last_of, hunk_of, with_line, with_dot, at_end, and_then, scanned, script_of, start}
use Rattle.ed_apply.specs.Spelling.{Text, Plain, Dotted, DottedMore, written, said, IsWritable, with_feeds, Spelling, Removes, Puts, spelled_lines, Spells, AreSpelled, IsSpelled, lines_within, IsRefusedAt, IsUnended}
use Rattle.ed_apply.specs.declared.command.Command.{Command}
use Rattle.ed_apply.specs.declared.reading.Phase.{Phase}
use Rattle.ed_apply.specs.declared.reading.Phase.TheVariants.{Commands, Within, Ended, Replaced}
use Rattle.ed_apply.specs.declared.script.Hunk.{Hunk}
use Rattle.ed_apply.specs.declared.script.Script.{Script}
use Rattle.ed_apply.specs.declared.error.ScriptError.{ScriptError}
use Rattle.ed_apply.specs.declared.error.ScriptError.TheVariants.{BadCommand, NotDown, NoDot, NoMemory}
use Rattle.ed_apply.proofs.Sound.{scan-sound}
use Rattle.ed_apply.proofs.SpelledBy.{retexted, IsLine, dotted-text, spelled-by}
use Rattle.ed_apply.proofs.Walked.{state_of, walked, scanned-walked, fed, all-back, is-not, commanded, on-commands, on-dot, on-other, on-replace, on-ended, on-more, on-replaced, not-replace, not-more}

-- ---- texts

-- one line of a walk
one-line : (state next : State) (at : ℕ) (line : List ℕ) (lines : List (List ℕ)) → on_line state at line ≡ Ok next → walked state at (line ∷ lines) ≡ walked next (at + 1) lines
one-line state next at line lines is = ap (λ r. and_then r (λ next. walked next (at + 1) lines)) is

abbrev Reaches : List Hunk → Hunk → Bool → ℕ → List (List ℕ) → List (List ℕ) → Type 0
Reaches hunks hunk dots at lines rest =
    (d : Bool) × (walked (state_of hunks (Within hunk dots)) at (lines ++ rest) ≡ walked (state_of hunks (Within (retexted hunk (hunk.text ++ with_feeds lines)) d)) (at + length lines) rest)

over-lines : (lines : List (List ℕ)) (hunks : List Hunk) (hunk : Hunk) (dots : Bool) (at : ℕ) (rest : List (List ℕ)) → Each IsLine lines → Reaches hunks hunk dots at lines rest
over-lines [] hunks hunk dots at rest each =
    let number : at ≡ at + length {A = List ℕ} [] = omega arith in
    let same : hunk ≡ retexted hunk (hunk.text ++ []) = ap (retexted hunk) (sym (append-nil hunk.text)) in
    (dots, λ i. walked (state_of hunks (Within (same i) dots)) (number i) rest)
over-lines (line ∷ lines) hunks hunk dots at rest each =
    let d = bytes_eq line (codes "..") in
    let first = one-line (state_of hunks (Within hunk dots)) (state_of hunks (Within (with_line hunk line) d)) at line (lines ++ rest) (on-other hunks hunk dots at line (is-not line (codes ".") each.0)) in
    let more = over-lines lines hunks (with_line hunk line) d (at + 1) rest each.1 in
    let number : at + 1 + length lines ≡ at + length (line ∷ lines) = omega arith in
    let bytes : (hunk.text ++ (line ++ 10 ∷ [])) ++ with_feeds lines ≡ hunk.text ++ with_feeds (line ∷ lines) = append_assoc hunk.text (line ++ 10 ∷ []) (with_feeds lines) in
    (more.0, first ∙ more.1 ∙ (λ i. walked (state_of hunks (Within (retexted hunk (bytes i)) more.0)) (number i) rest))

-- a phase behind a hunk with its whole text
abbrev IsBehind : Phase → Hunk → Type 0
IsBehind Commands hunk = ⊥
IsBehind (Within h dots) hunk = ⊥
IsBehind (Ended h dots) hunk = h ≡ hunk
IsBehind (Replaced h) hunk = h ≡ hunk

record Passes (hunks : List Hunk) (hunk : Hunk) (dots : Bool) (at : ℕ) (text : Text) (rest : List (List ℕ)) : Type 0 where
  phase : Phase
  behind : IsBehind phase (retexted hunk (hunk.text ++ with_feeds (said text)))
  same : walked (state_of hunks (Within hunk dots)) at (written text ++ rest) ≡ walked (state_of hunks phase) (at + length (written text)) rest

-- a text in which the last of these lines is `.`, and stands as `..`
dotted-whole : (text : List ℕ) (lines : List (List ℕ))
    → take (length ((text ++ with_feeds lines) ++ (46 ∷ 46 ∷ 10 ∷ [])) - 2) ((text ++ with_feeds lines) ++ (46 ∷ 46 ∷ 10 ∷ [])) ++ 10 ∷ [] ≡ text ++ with_feeds (lines ++ codes "." ∷ [])
dotted-whole text lines =
    dotted-text (text ++ with_feeds lines) ((text ++ with_feeds lines) ++ (46 ∷ 46 ∷ 10 ∷ [])) refl ∙ append_assoc text (with_feeds lines) (46 ∷ 10 ∷ [])
    ∙ ap (λ (t : List ℕ). text ++ t) (sym (flat_map-append (λ (l : List ℕ). l ++ 10 ∷ []) lines (codes "." ∷ [])))

record Dotted3 (hunks : List Hunk) (hunk : Hunk) (dots : Bool) (at : ℕ) (lines rest : List (List ℕ)) : Type 0 where
  last : Hunk
  text : last ≡ retexted hunk (hunk.text ++ with_feeds (lines ++ codes "." ∷ []))
  same : walked (state_of hunks (Within hunk dots)) at (lines ++ codes ".." ∷ codes "." ∷ codes "s/.//" ∷ rest) ≡ walked (state_of hunks (Replaced last)) (at + length lines + 1 + 1 + 1) rest

over-dotted : (lines : List (List ℕ)) (hunks : List Hunk) (hunk : Hunk) (dots : Bool) (at : ℕ) (rest : List (List ℕ)) → Each IsLine lines → Dotted3 hunks hunk dots at lines rest
over-dotted lines hunks hunk dots at rest each =
    let r = over-lines lines hunks hunk dots at (codes ".." ∷ codes "." ∷ codes "s/.//" ∷ rest) each in
    let h = retexted hunk (hunk.text ++ with_feeds lines) in
    let n = at + length lines in
    let g = with_line h (codes "..") in
    let one = one-line (state_of hunks (Within h r.0)) (state_of hunks (Within g true)) n (codes "..") (codes "." ∷ codes "s/.//" ∷ rest) (on-other hunks h r.0 n (codes "..") refl) in
    let two = one-line (state_of hunks (Within g true)) (state_of hunks (Ended g true)) (n + 1) (codes ".") (codes "s/.//" ∷ rest) (on-dot hunks g true (n + 1)) in
    let three = one-line (state_of hunks (Ended g true)) (state_of hunks (Replaced (with_dot g))) (n + 1 + 1) (codes "s/.//") rest (on-replace hunks g (n + 1 + 1)) in
    record { last = with_dot g; text = ap (retexted hunk) (dotted-whole hunk.text lines); same = r.1 ∙ one ∙ two ∙ three }

over-text : (text : Text) (hunks : List Hunk) (hunk : Hunk) (dots : Bool) (at : ℕ) (rest : List (List ℕ)) → IsWritable text → Passes hunks hunk dots at text rest
over-text (Plain lines) hunks hunk dots at rest each =
    let r = over-lines lines hunks hunk dots at (codes "." ∷ rest) each in
    let h = retexted hunk (hunk.text ++ with_feeds lines) in
    let one = one-line (state_of hunks (Within h r.0)) (state_of hunks (Ended h r.0)) (at + length lines) (codes ".") rest (on-dot hunks h r.0 (at + length lines)) in
    let number : at + length lines + 1 ≡ at + length (lines ++ codes "." ∷ []) = omega (arith, length-append lines (codes "." ∷ [])) in
    record {
      phase = Ended h r.0;
      behind = refl;
      same = ap (walked (state_of hunks (Within hunk dots)) at) (append_assoc lines (codes "." ∷ []) rest) ∙ r.1 ∙ one ∙ ap (λ k. walked (state_of hunks (Ended h r.0)) k rest) number;
    }
over-text (Dotted lines) hunks hunk dots at rest each =
    let d = over-dotted lines hunks hunk dots at rest each in
    let number : at + length lines + 1 + 1 + 1 ≡ at + length (lines ++ codes ".." ∷ codes "." ∷ codes "s/.//" ∷ []) = omega (arith, length-append lines (codes ".." ∷ codes "." ∷ codes "s/.//" ∷ [])) in
    record {
      phase = Replaced d.last;
      behind = d.text;
      same = ap (walked (state_of hunks (Within hunk dots)) at) (append_assoc lines (codes ".." ∷ codes "." ∷ codes "s/.//" ∷ []) rest) ∙ d.same ∙ ap (λ k. walked (state_of hunks (Replaced d.last)) k rest) number;
    }
over-text (DottedMore lines more) hunks hunk dots at rest each =
    let tail = written more in
    let d = over-dotted lines hunks hunk dots at (codes "a" ∷ tail ++ rest) each.0 in
    let n = at + length lines + 1 + 1 + 1 in
    let base = hunk.text ++ with_feeds (lines ++ codes "." ∷ []) in
    let one = one-line (state_of hunks (Replaced d.last)) (state_of hunks (Within d.last false)) n (codes "a") (tail ++ rest) (on-more hunks d.last n) in
    let inner = over-text more hunks (retexted hunk base) false (n + 1) rest each.1 in
    let number : n + 1 + length tail ≡ at + length (lines ++ codes ".." ∷ codes "." ∷ codes "s/.//" ∷ codes "a" ∷ tail) =
    omega (arith, length-append lines (codes ".." ∷ codes "." ∷ codes "s/.//" ∷ codes "a" ∷ tail)) in
    let bytes : base ++ with_feeds (said more) ≡ hunk.text ++ with_feeds (lines ++ codes "." ∷ said more) =
    append_assoc hunk.text (with_feeds (lines ++ codes "." ∷ [])) (with_feeds (said more))
    ∙ ap (λ (t : List ℕ). hunk.text ++ t) (sym (flat_map-append (λ (l : List ℕ). l ++ 10 ∷ []) (lines ++ codes "." ∷ []) (said more)) ∙ ap with_feeds (append_assoc lines (codes "." ∷ []) (said more))) in
    record {
      phase = inner.phase;
      behind = subst (IsBehind inner.phase) (ap (retexted hunk) bytes) inner.behind;
      same = ap (walked (state_of hunks (Within hunk dots)) at) (append_assoc lines (codes ".." ∷ codes "." ∷ codes "s/.//" ∷ codes "a" ∷ tail) rest)
          ∙ d.same ∙ one ∙ ap (λ (h : Hunk). walked (state_of hunks (Within h false)) (n + 1) (tail ++ rest)) d.text
          ∙ inner.same ∙ ap (λ k. walked (state_of hunks inner.phase) k rest) number;
    }

-- ---- whole hunks

-- the command of a line that begins what is spelled
abbrev Begins : List ℕ → Type 0
Begins line = (command : Command) × (command_of line ≡ Some command)

-- behind a text a line with a command is taken as one, or the script ends
at-next : (phase : Phase) (hunk : Hunk) (hunks : List Hunk) (at : ℕ) (line : List ℕ) (lines : List (List ℕ)) → IsBehind phase hunk → Begins line
    → walked (state_of hunks phase) at (line ∷ lines) ≡ walked (state_of (hunks ++ hunk ∷ []) Commands) at (line ∷ lines)
at-next Commands hunk hunks at line lines none begins = absurd none
at-next (Within h dots) hunk hunks at line lines none begins = absurd none
at-next (Ended h dots) hunk hunks at line lines is begins =
    let miss : bytes_eq line (codes "s/.//") ≡ false = not-replace line begins.0 begins.1 in
    let both : (dots && bytes_eq line (codes "s/.//")) ≡ false = and-false dots (bytes_eq line (codes "s/.//")) miss in
    ap (λ r. and_then r (λ next. walked next (at + 1) lines))
    (on-ended hunks h dots at line both ∙ ap (λ (g : Hunk). on_command (hunks ++ g ∷ []) at line) is ∙ sym (on-commands (hunks ++ hunk ∷ []) at line))
  where
    and-false : (a b : Bool) → b ≡ false → (a && b) ≡ false
    and-false true b e = e
    and-false false b e = refl
at-next (Replaced h) hunk hunks at line lines is begins =
    ap (λ r. and_then r (λ next. walked next (at + 1) lines))
    (on-replaced hunks h at line (not-more line begins.0 begins.1) ∙ ap (λ (g : Hunk). on_command (hunks ++ g ∷ []) at line) is ∙ sym (on-commands (hunks ++ hunk ∷ []) at line))

at-last : (phase : Phase) (hunk : Hunk) (hunks : List Hunk) (at : ℕ) → IsBehind phase hunk
    → walked (state_of hunks phase) at [] ≡ walked (state_of (hunks ++ hunk ∷ []) Commands) at []
at-last Commands hunk hunks at none = absurd none
at-last (Within h dots) hunk hunks at none = absurd none
at-last (Ended h dots) hunk hunks at is = ap (λ (g : Hunk). at_end (hunks ++ g ∷ []) Commands) is
at-last (Replaced h) hunk hunks at is = ap (λ (g : Hunk). at_end (hunks ++ g ∷ []) Commands) is

behind-text : (phase : Phase) (hunk : Hunk) (hunks : List Hunk) (at : ℕ) (pieces : List Spelling) (more : List Hunk) → IsBehind phase hunk → AreSpelled pieces at more
    → walked (state_of hunks phase) at (flat_map spelled_lines pieces) ≡ walked (state_of (hunks ++ hunk ∷ []) Commands) at (flat_map spelled_lines pieces)
behind-text phase hunk hunks at [] more is spelled = at-last phase hunk hunks at is
behind-text phase hunk hunks at (piece ∷ pieces) [] is spelled = absurd spelled
behind-text phase hunk hunks at (Removes line ∷ pieces) (h ∷ more) is spelled =
    at-next phase hunk hunks at line (flat_map spelled_lines pieces) is (record { from = h.from; to = h.to; adds = false }, spelled.0.0)
behind-text phase hunk hunks at (Puts line text ∷ pieces) (h ∷ more) is spelled =
    at-next phase hunk hunks at line (written text ++ flat_map spelled_lines pieces) is (record { from = h.from; to = h.to; adds = true }, spelled.0.0)

-- ---- order

goes-on : (hunks : List Hunk) (hunk : Hunk) (more : List Hunk) → GoesDown (hunks ++ hunk ∷ more) → goes_down (last_of hunks) hunk.to ≡ true
goes-on [] hunk more down = refl
goes-on (above ∷ []) hunk more down = let first : hunk.to ≤ above.from = down.0 in grind (arith, nat_tests)
goes-on (above ∷ next ∷ rest) hunk more down =
    let e : length (above ∷ next ∷ rest) - 1 ≡ suc (length (next ∷ rest) - 1) = omega arith in
    ap (λ k. goes_down (slice_get (above ∷ next ∷ rest) k) hunk.to) e ∙ goes-on (next ∷ rest) hunk more down.1

-- ---- scripts

abbrev script_with : List Hunk → Result Script ScriptError
script_with hunks = Ok (record { hunks = hunks })

abbrev Follows : List Spelling → List Hunk → Type 0
Follows pieces more = (hunks : List Hunk) (at : ℕ) → AreSpelled pieces at more → GoesDown (hunks ++ more) → walked (state_of hunks Commands) at (flat_map spelled_lines pieces) ≡ script_with (hunks ++ more)

one-more : (hunks : List Hunk) (hunk : Hunk) (more : List Hunk) → (hunks ++ hunk ∷ []) ++ more ≡ hunks ++ hunk ∷ more
one-more hunks hunk more = append_assoc hunks (hunk ∷ []) more

next-piece : (piece : Spelling) (pieces : List Spelling) (hunk : Hunk) (more hunks : List Hunk) (at : ℕ) → Spells piece at hunk → AreSpelled pieces (at + length (spelled_lines piece)) more
    → GoesDown (hunks ++ hunk ∷ more) → Follows pieces more → walked (state_of hunks Commands) at (spelled_lines piece ++ flat_map spelled_lines pieces) ≡ script_with (hunks ++ hunk ∷ more)
next-piece (Removes line) pieces hunk more hunks at spells spelled down follows =
    let command : Command = record { from = hunk.from; to = hunk.to; adds = false } in
    let same : hunk_of command at ≡ hunk = λ i. record { from = hunk.from; to = hunk.to; text = sym spells.1 i; at = sym spells.2 i } in
    let first = one-line (state_of hunks Commands) (state_of (hunks ++ hunk_of command at ∷ []) Commands) at line (flat_map spelled_lines pieces)
    (on-commands hunks at line ∙ commanded hunks at line command spells.0 (goes-on hunks hunk more down)) in
    first ∙ ap (λ (h : Hunk). walked (state_of (hunks ++ h ∷ []) Commands) (at + 1) (flat_map spelled_lines pieces)) same
    ∙ follows (hunks ++ hunk ∷ []) (at + 1) spelled (subst GoesDown (sym (one-more hunks hunk more)) down) ∙ ap script_with (one-more hunks hunk more)
next-piece (Puts line text) pieces hunk more hunks at spells spelled down follows =
    let command : Command = record { from = hunk.from; to = hunk.to; adds = true } in
    let rest = flat_map spelled_lines pieces in
    let h = hunk_of command at in
    let first = one-line (state_of hunks Commands) (state_of hunks (Within h false)) at line (written text ++ rest)
    (on-commands hunks at line ∙ commanded hunks at line command spells.0 (goes-on hunks hunk more down)) in
    let t = over-text text hunks h false (at + 1) rest spells.1 in
    let same : retexted h (with_feeds (said text)) ≡ hunk = λ i. record { from = hunk.from; to = hunk.to; text = sym spells.2 i; at = sym spells.3 i } in
    let number : at + 1 + length (written text) ≡ at + length (line ∷ written text) = omega arith in
    let k = at + length (line ∷ written text) in
    first ∙ t.same ∙ ap (λ n. walked (state_of hunks t.phase) n rest) number
    ∙ behind-text t.phase hunk hunks k pieces more (subst (IsBehind t.phase) same t.behind) spelled
    ∙ follows (hunks ++ hunk ∷ []) k spelled (subst GoesDown (sym (one-more hunks hunk more)) down) ∙ ap script_with (one-more hunks hunk more)

follows : (pieces : List Spelling) (more : List Hunk) → Follows pieces more
follows [] [] = λ hunks at spelled down. ap script_with (sym (append-nil hunks))
follows [] (hunk ∷ more) = λ hunks at spelled down. absurd spelled
follows (piece ∷ pieces) [] = λ hunks at spelled down. absurd spelled
follows (piece ∷ pieces) (hunk ∷ more) = λ hunks at spelled down. next-piece piece pieces hunk more hunks at spelled.0 spelled.1 down (follows pieces more)

abbrev walk : List (List ℕ) → Result Script ScriptError
walk lines = walked (state_of [] Commands) 1 lines

read-back : (lines : List (List ℕ)) (script : Script) → IsSpelled lines script → walk lines ≡ Ok script
read-back lines script s = ap walk s.cut ∙ follows s.spellings script.hunks [] 1 s.hunks s.down

-- ---- both ways

walk-is : (bytes : List ℕ) → script_of bytes ≡ walk (lines_within bytes)
unfolding script_of
walk-is bytes = scanned-walked (file_lines bytes) start 1

walk-down : (lines : List (List ℕ)) (script : Script) → walk lines ≡ Ok script → GoesDown script.hunks
walk-down lines script e =
    let fed_lines = map fed lines in
    let same : scanned start 1 fed_lines ≡ Ok script = scanned-walked fed_lines start 1 ∙ ap walk (all-back lines) ∙ e in
    (scan-sound fed_lines start 1 script (record { each = All-nil _; order = tt }) same).order

spelled : (lines : List (List ℕ)) (script : Script) → walk lines ≡ Ok script → IsSpelled lines script
spelled lines script e =
    let s = spelled-by lines script e in
    record { spellings = s.0; cut = s.1; hunks = s.2; down = walk-down lines script e }

-- ---- refusals

-- lines are refused at one behind which nothing goes on
record Refuses (state : State) (at : ℕ) (lines : List (List ℕ)) (refusal : ScriptError) (bad : ℕ) : Type 0 where
  front : List (List ℕ)
  line : List ℕ
  rest : List (List ℕ)
  cut : lines ≡ front ++ line ∷ rest
  number : bad ≡ at + length front
  script : Script
  before : walked state at front ≡ Ok script
  never : (more : List (List ℕ)) → walked state at (front ++ line ∷ more) ≡ Err refusal

abbrev bad_line : ScriptError → ℕ → Type 0
bad_line refusal at = (refusal ≡ BadCommand at) ⊎ (refusal ≡ NotDown at)

command-refuses : (hunks : List Hunk) (at : ℕ) (found : Option Command) (refusal : ScriptError) → after_command hunks found at ≡ Err refusal → bad_line refusal at
command-refuses hunks at None refusal e = inl (cc)
command-refuses hunks at (Some command) refusal e =
    elim (cases_Bool (goes_down (last_of hunks) command.to)) [
      | inl may ↦ let made = rw may at e in absurd (cc)
      | inr away ↦ let none = rw away at e in inr (cc)
    ]

on_command-refuses : (hunks : List Hunk) (at : ℕ) (line : List ℕ) (refusal : ScriptError) → on_command hunks at line ≡ Err refusal → bad_line refusal at
unfolding on_command
on_command-refuses hunks at line refusal e = command-refuses hunks at (command_of line) refusal e

record LineRefuses (state : State) (at : ℕ) (refusal : ScriptError) : Type 0 where
  is : bad_line refusal at
  script : Script
  ends : at_end state.hunks state.phase ≡ Ok script

line-refuses : (hunks : List Hunk) (phase : Phase) (at : ℕ) (line : List ℕ) (refusal : ScriptError) → on_line (state_of hunks phase) at line ≡ Err refusal → LineRefuses (state_of hunks phase) at refusal
unfolding on_line
line-refuses hunks Commands at line refusal e = record { is = on_command-refuses hunks at line refusal e; script = record { hunks = hunks }; ends = refl }
line-refuses hunks (Within hunk dots) at line refusal e = absurd (cc)
line-refuses hunks (Ended hunk dots) at line refusal e =
    elim (cases_Bool (dots && bytes_eq line (codes "s/.//"))) [
      | inl hit ↦ let made = rw hit at e in absurd (cc)
      | inr miss ↦ record { is = on_command-refuses (hunks ++ hunk ∷ []) at line refusal (rw miss at e); script = record { hunks = hunks ++ hunk ∷ [] }; ends = refl }
    ]
line-refuses hunks (Replaced hunk) at line refusal e =
    elim (cases_Bool (bytes_eq line (codes "a"))) [
      | inl hit ↦ let made = rw hit at e in absurd (cc)
      | inr miss ↦ record { is = on_command-refuses (hunks ++ hunk ∷ []) at line refusal (rw miss at e); script = record { hunks = hunks ++ hunk ∷ [] }; ends = refl }
    ]

same-line : (refusal : ScriptError) (a b : ℕ) → bad_line refusal a → bad_line refusal b → a ≡ b
same-line refusal a b (inl x) (inl y) = cc
same-line refusal a b (inl x) (inr y) = absurd (cc)
same-line refusal a b (inr x) (inl y) = absurd (cc)
same-line refusal a b (inr x) (inr y) = cc

end-never : (hunks : List Hunk) (phase : Phase) (refusal : ScriptError) (at : ℕ) → at_end hunks phase ≡ Err refusal → bad_line refusal at → ⊥
end-never hunks Commands refusal at e bad = cc
end-never hunks (Within hunk dots) refusal at e (inl bad) = cc
end-never hunks (Within hunk dots) refusal at e (inr bad) = cc
end-never hunks (Ended hunk dots) refusal at e bad = cc
end-never hunks (Replaced hunk) refusal at e bad = cc

abbrev state_refusal : ScriptError → Result State ScriptError
state_refusal refusal = Err refusal

abbrev Found : ℕ → List (List ℕ) → ScriptError → ℕ → Type 0
Found at lines refusal bad = (s : State) → walked s (at + 1) lines ≡ Err refusal → Refuses s (at + 1) lines refusal bad

at-line : (state : State) (at : ℕ) (line : List ℕ) (lines : List (List ℕ)) (refusal : ScriptError) (bad : ℕ) (r : Result State ScriptError) → on_line state at line ≡ r
    → and_then r (λ next. walked next (at + 1) lines) ≡ Err refusal → bad_line refusal bad → Found at lines refusal bad → Refuses state at (line ∷ lines) refusal bad
at-line state at line lines refusal bad (Ok next) is e wrong further =
    let f = further next e in
    record {
      front = line ∷ f.front;
      line = f.line;
      rest = f.rest;
      cut = ap (λ (ls : List (List ℕ)). line ∷ ls) f.cut;
      number = let n = f.number in omega arith;
      script = f.script;
      before = one-line state next at line f.front is ∙ f.before;
      never = λ more. one-line state next at line (f.front ++ f.line ∷ more) is ∙ f.never more;
    }
at-line state at line lines refusal bad (Err other) is e wrong further =
    let same : other ≡ refusal = cc in
    let is2 : on_line state at line ≡ Err refusal = is ∙ ap state_refusal same in
    let here = line-refuses state.hunks state.phase at line refusal is2 in
    record {
      front = [];
      line = line;
      rest = lines;
      cut = refl;
      number = let n = same-line refusal at bad here.is wrong in omega arith;
      script = here.script;
      before = here.ends;
      never = λ more. ap (λ r. and_then r (λ next. walked next (at + 1) more)) is2;
    }

refused : (lines : List (List ℕ)) (state : State) (at : ℕ) (refusal : ScriptError) (bad : ℕ) → walked state at lines ≡ Err refusal → bad_line refusal bad → Refuses state at lines refusal bad
refused [] state at refusal bad e wrong = absurd (end-never state.hunks state.phase refusal bad e wrong)
refused (line ∷ lines) state at refusal bad e wrong =
    at-line state at line lines refusal bad (on_line state at line) refl e wrong (λ s h. refused lines s (at + 1) refusal bad h wrong)

refused-at : (lines : List (List ℕ)) (refusal : ScriptError) (at : ℕ) → walk lines ≡ Err refusal → bad_line refusal at → IsRefusedAt lines at
refused-at lines refusal at e wrong =
    let r = refused lines (state_of [] Commands) 1 refusal at e wrong in
    record {
      front = r.front;
      line = r.line;
      rest = r.rest;
      cut = r.cut;
      number = let n = r.number in omega arith;
      script = r.script;
      before = spelled r.front r.script r.before;
      none = λ more other s. let no = r.never more in let yes = read-back (r.front ++ r.line ∷ more) other s in absurd (cc);
    }

-- ---- texts without an end

abbrev Completed : List (List ℕ) → State → ℕ → Type 0
Completed lines state at = (script : Script) × (walked state at (lines ++ codes "." ∷ []) ≡ Ok script)

end-completes : (hunks : List Hunk) (phase : Phase) (at : ℕ) → at_end hunks phase ≡ Err NoDot → Completed [] (state_of hunks phase) at
end-completes hunks Commands at e = absurd (cc)
end-completes hunks (Within hunk dots) at e = (record { hunks = hunks ++ hunk ∷ [] }, one-line (state_of hunks (Within hunk dots)) (state_of hunks (Ended hunk dots)) at (codes ".") [] (on-dot hunks hunk dots at))
end-completes hunks (Ended hunk dots) at e = absurd (cc)
end-completes hunks (Replaced hunk) at e = absurd (cc)

line-completes : (state : State) (at : ℕ) (line : List ℕ) (lines : List (List ℕ)) (r : Result State ScriptError) → on_line state at line ≡ r
    → and_then r (λ next. walked next (at + 1) lines) ≡ Err NoDot → ((s : State) → walked s (at + 1) lines ≡ Err NoDot → Completed lines s (at + 1)) → Completed (line ∷ lines) state at
line-completes state at line lines (Ok next) is e further =
    let f = further next e in
    (f.0, one-line state next at line (lines ++ codes "." ∷ []) is ∙ f.1)
line-completes state at line lines (Err other) is e further =
    let same : other ≡ NoDot = cc in
    let here = line-refuses state.hunks state.phase at line other is in
    absurd (never here.is same)
  where
    never : {other : ScriptError} {at : ℕ} → bad_line other at → other ≡ NoDot → ⊥
    never (inl bad) same = cc
    never (inr bad) same = cc

completes : (lines : List (List ℕ)) (state : State) (at : ℕ) → walked state at lines ≡ Err NoDot → Completed lines state at
completes [] state at e = end-completes state.hunks state.phase at e
completes (line ∷ lines) state at e = line-completes state at line lines (on_line state at line) refl e (λ s h. completes lines s (at + 1) h)

unended : (lines : List (List ℕ)) → walk lines ≡ Err NoDot → IsUnended lines
unended lines e =
    let c = completes lines (state_of [] Commands) 1 e in
    record {
      none = λ other s. let yes = read-back lines other s in absurd (cc);
      script = c.0;
      ended = spelled (lines ++ codes "." ∷ []) c.0 c.1;
    }

-- ---- what is read

abbrev Reading : List ℕ → Result Script ScriptError → Type 0
Reading bytes result = (result ≡ Err NoMemory) ⊎ (result ≡ script_of bytes)

pub read-spelled : (bytes : List ℕ) (result : Result Script ScriptError) → Reading bytes result → IfOk result (λ script. IsSpelled (lines_within bytes) script)
read-spelled bytes (Ok script) (inl e) = absurd (cc)
read-spelled bytes (Ok script) (inr e) = spelled (lines_within bytes) script (sym (walk-is bytes) ∙ sym e)
read-spelled bytes (Err refusal) e = tt

pub read-grammar : (bytes : List ℕ) (result : Result Script ScriptError) → Reading bytes result
    → (script : Script) → IsSpelled (lines_within bytes) script → (result ≡ Err NoMemory) ⊎ (result ≡ Ok script)
read-grammar bytes result (inl e) script s = inl e
read-grammar bytes result (inr e) script s = inr (e ∙ walk-is bytes ∙ read-back (lines_within bytes) script s)

pub read-refused : (bytes : List ℕ) (result : Result Script ScriptError) → Reading bytes result
    → (at : ℕ) → (result ≡ Err (BadCommand at)) ⊎ (result ≡ Err (NotDown at)) → IsRefusedAt (lines_within bytes) at
read-refused bytes result (inl memory) at (inl is) = absurd (cc)
read-refused bytes result (inl memory) at (inr is) = absurd (cc)
read-refused bytes result (inr e) at (inl is) = refused-at (lines_within bytes) (BadCommand at) at (sym (walk-is bytes) ∙ sym e ∙ is) (inl refl)
read-refused bytes result (inr e) at (inr is) = refused-at (lines_within bytes) (NotDown at) at (sym (walk-is bytes) ∙ sym e ∙ is) (inr refl)

pub read-unended : (bytes : List ℕ) (result : Result Script ScriptError) → Reading bytes result → result ≡ Err NoDot → IsUnended (lines_within bytes)
read-unended bytes result (inl memory) is = absurd (cc)
read-unended bytes result (inr e) is = unended (lines_within bytes) (sym (walk-is bytes) ∙ sym e ∙ is)
