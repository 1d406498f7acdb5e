-- What is read as hunks is spelled by its lines.
use Rattle.std.proofs.Common.{◌≡◌, ◌∙◌, ℕ, zero, suc, ◌+◌, ◌-◌, ◌≤◌, ◌&&◌, Bool, true, false, List, [], ◌∷◌, ◌++◌, length, take, codes, Some, Result, Ok, inl, inr, refl, sym, ap, subst, arith, length-append, append_assoc}
use Rattle.std.specs.Prelude.{◌≢◌, bytes_eq}
use Rattle.std.specs.List.{flat_map, AllByRecursion as Each}
use Rattle.std.proofs.Math.Seq.{take-append-add}
use Rattle.std.proofs.lemmas.Bool.{cases_Bool, and_parts}
use Rattle.std.proofs.lemmas.Grind.{flat_map-append}
use Rattle.std.proofs.lemmas.List.{append-nil}
use Rattle.std.proofs.lemmas.Slice.Eq.{bytes_eq-Decides}
use Rattle.ed_apply.specs.Grammar.{State, on_command, command_of, begun, hunk_of, with_line, with_dot, and_then}
use Rattle.ed_apply.specs.Spelling.{Text, Plain, Dotted, DottedMore, written, said, IsWritable, with_feeds, Spelling, Removes, Puts, spelled_lines, AreSpelled}
use Rattle.ed_apply.specs.declared.command.Command.{Command}
use Rattle.ed_apply.specs.declared.reading.Phase.TheVariants.{Commands, Within, Ended, Replaced}
use Rattle.ed_apply.specs.declared.script.Hunk.{Hunk}
use Rattle.ed_apply.specs.declared.script.Script.{Script}
use Rattle.ed_apply.specs.declared.error.ScriptError.{ScriptError}
use Rattle.ed_apply.proofs.Walked.{state_of, walked, went-on, command-ok, on-commands, on-dot, on-other, on-replace, on-ended, on-more, on-replaced}

abbrev pub retexted : Hunk → List ℕ → Hunk
retexted hunk text = record hunk { text = text }

abbrev pub IsLine : List ℕ → Type 0
IsLine line = line ≢ codes "."

-- these lines are whole hunks behind those so far
record Spelt (hunks : List Hunk) (at : ℕ) (lines : List (List ℕ)) (script : Script) : Type 0 where
  pieces : List Spelling
  more : List Hunk
  cut : lines ≡ flat_map spelled_lines pieces
  spelled : AreSpelled pieces at more
  whole : script.hunks ≡ hunks ++ more

-- these lines are a text, which the hunk has behind `base`, and whole hunks
record SpeltText (hunks : List Hunk) (hunk : Hunk) (base : List ℕ) (start : ℕ) (lines : List (List ℕ)) (script : Script) : Type 0 where
  text : Text
  rest : List (List ℕ)
  cut : lines ≡ written text ++ rest
  writable : IsWritable text
  behind : Spelt (hunks ++ retexted hunk (base ++ with_feeds (said text)) ∷ []) (start + length (written text)) rest script

-- the last of the lines is `..` where that is noted
abbrev Dots : Bool → List (List ℕ) → Type 0
Dots dots lines = dots ≡ true → (front : List (List ℕ)) × (lines ≡ front ++ codes ".." ∷ [])

-- what holds for so many lines
record Reads (n : ℕ) : Type 0 where
  commands : (hunks : List Hunk) (at : ℕ) (lines : List (List ℕ)) (script : Script) → length lines ≤ n
      → walked (state_of hunks Commands) at lines ≡ Ok script → Spelt hunks at lines script
  texts : (hunks : List Hunk) (hunk : Hunk) (dots : Bool) (base : List ℕ) (so_far : List (List ℕ)) (start at : ℕ) (lines : List (List ℕ)) (script : Script)
      → length lines ≤ n → Each IsLine so_far → hunk.text ≡ base ++ with_feeds so_far → Dots dots so_far → at ≡ start + length so_far
      → walked (state_of hunks (Within hunk dots)) at lines ≡ Ok script → SpeltText hunks hunk base start (so_far ++ lines) script

-- ---- lists

each-behind : (lines : List (List ℕ)) (line : List ℕ) → Each IsLine lines → IsLine line → Each IsLine (lines ++ line ∷ [])
each-behind [] line h one = (one, tt)
each-behind (l ∷ ls) line h one = (h.0, each-behind ls line h.1 one)

each-front : (lines more : List (List ℕ)) → Each IsLine (lines ++ more) → Each IsLine lines
each-front [] more h = tt
each-front (l ∷ ls) more h = (h.0, each-front ls more h.1)

feeds-more : (base text : List ℕ) (lines : List (List ℕ)) (line : List ℕ) → text ≡ base ++ with_feeds lines → text ++ (line ++ 10 ∷ []) ≡ base ++ with_feeds (lines ++ line ∷ [])
feeds-more base text lines line is =
    ap (λ (t : List ℕ). t ++ (line ++ 10 ∷ [])) is ∙ append_assoc base (with_feeds lines) (line ++ 10 ∷ [])
    ∙ ap (λ (t : List ℕ). base ++ t) (ap (λ (t : List ℕ). with_feeds lines ++ t) (sym (append-nil (line ++ 10 ∷ []))) ∙ sym (flat_map-append (λ (l : List ℕ). l ++ 10 ∷ []) lines (line ∷ [])))

-- the last line `..` made `.`
pub dotted-text : (front text : List ℕ) → text ≡ front ++ (46 ∷ 46 ∷ 10 ∷ []) → take (length text - 2) text ++ 10 ∷ [] ≡ front ++ (46 ∷ 10 ∷ [])
dotted-text front text is =
    let long : length text ≡ length front + 3 = ap length is ∙ length-append front (46 ∷ 46 ∷ 10 ∷ []) in
    let cut : length text - 2 ≡ length front + 1 = omega arith in
    ap (λ (t : List ℕ). t ++ 10 ∷ []) ((λ i. take (cut i) (is i)) ∙ take-append-add front (46 ∷ 46 ∷ 10 ∷ []) 1) ∙ append_assoc front (46 ∷ []) (10 ∷ [])

made-dot : (base text : List ℕ) (front so_far : List (List ℕ)) → text ≡ base ++ with_feeds so_far → so_far ≡ front ++ codes ".." ∷ []
    → take (length text - 2) text ++ 10 ∷ [] ≡ base ++ with_feeds (front ++ codes "." ∷ [])
made-dot base text front so_far is ends =
    let whole : text ≡ (base ++ with_feeds front) ++ (46 ∷ 46 ∷ 10 ∷ []) =
    is ∙ ap (λ (ls : List (List ℕ)). base ++ with_feeds ls) ends
    ∙ ap (λ (t : List ℕ). base ++ t) (flat_map-append (λ (l : List ℕ). l ++ 10 ∷ []) front (codes ".." ∷ []))
    ∙ sym (append_assoc base (with_feeds front) (46 ∷ 46 ∷ 10 ∷ [])) in
    dotted-text (base ++ with_feeds front) text whole ∙ append_assoc base (with_feeds front) (46 ∷ 10 ∷ [])
    ∙ ap (λ (t : List ℕ). base ++ t) (sym (flat_map-append (λ (l : List ℕ). l ++ 10 ∷ []) front (codes "." ∷ [])))

-- ---- a command, and what follows it

at-command : (n : ℕ) → Reads n → (hunks : List Hunk) (at : ℕ) (line : List ℕ) (lines : List (List ℕ)) (script : Script) → length lines ≤ n
    → and_then (on_command hunks at line) (λ next. walked next (at + 1) lines) ≡ Ok script → Spelt hunks at (line ∷ lines) script
at-command n reads hunks at line lines script few e =
    let on = went-on (on_command hunks at line) (λ next. walked next (at + 1) lines) script e in
    let begins = command-ok hunks at line on.0 on.1 in
    by begins.0 (begins.0).adds refl begins.1 (ap (λ (s : State). walked s (at + 1) lines) (sym begins.2) ∙ on.2)
  where
    by : (command : Command) (adds : Bool) → command.adds ≡ adds → command_of line ≡ Some command → walked (begun hunks command at) (at + 1) lines ≡ Ok script
        → Spelt hunks at (line ∷ lines) script
    by command false is found e =
        let hunk = hunk_of command at in
        let e2 : walked (state_of (hunks ++ hunk ∷ []) Commands) (at + 1) lines ≡ Ok script = rw is at e in
        let more = reads.commands (hunks ++ hunk ∷ []) (at + 1) lines script few e2 in
        record {
          pieces = Removes line ∷ more.pieces;
          more = hunk ∷ more.more;
          cut = ap (λ (ls : List (List ℕ)). line ∷ ls) more.cut;
          spelled = ((found ∙ ap (λ (b : Bool). Some (record { from = command.from; to = command.to; adds = b })) is, refl, refl), more.spelled);
          whole = more.whole ∙ append_assoc hunks (hunk ∷ []) more.more;
        }
    by command true is found e =
        let hunk = hunk_of command at in
        let e2 : walked (state_of hunks (Within hunk false)) (at + 1) lines ≡ Ok script = rw is at e in
        let t = reads.texts hunks hunk false [] [] (at + 1) (at + 1) lines script few tt refl (λ no. absurd (cc)) (omega arith) e2 in
        let more = t.behind in
        let whole = retexted hunk (with_feeds (said t.text)) in
        let number : at + 1 + length (written t.text) ≡ at + length (line ∷ written t.text) = omega arith in
        record {
          pieces = Puts line t.text ∷ more.pieces;
          more = whole ∷ more.more;
          cut = ap (λ (ls : List (List ℕ)). line ∷ ls) (t.cut ∙ ap (λ (ls : List (List ℕ)). written t.text ++ ls) more.cut);
          spelled = (
            (found ∙ ap (λ (b : Bool). Some (record { from = command.from; to = command.to; adds = b })) is, t.writable, refl, refl),
            subst (λ (k : ℕ). AreSpelled more.pieces k more.more) number more.spelled,
          );
          whole = more.whole ∙ append_assoc hunks (whole ∷ []) more.more;
        }

-- ---- the end of a text

as-plain : (hunks : List Hunk) (hunk : Hunk) (base : List ℕ) (so_far : List (List ℕ)) (start at : ℕ) (rest : List (List ℕ)) (script : Script)
    → Each IsLine so_far → hunk.text ≡ base ++ with_feeds so_far → at ≡ start + length so_far
    → Spelt (hunks ++ hunk ∷ []) (at + 1) rest script → SpeltText hunks hunk base start (so_far ++ codes "." ∷ rest) script
as-plain hunks hunk base so_far start at rest script lines is number h =
    let counted : at + 1 ≡ start + length (so_far ++ codes "." ∷ []) = omega (arith, length-append so_far (codes "." ∷ [])) in
    let same : hunk ≡ retexted hunk (base ++ with_feeds so_far) = ap (retexted hunk) is in
    record {
      text = Plain so_far;
      rest = rest;
      cut = sym (append_assoc so_far (codes "." ∷ []) rest);
      writable = lines;
      behind = subst (λ (k : ℕ). Spelt (hunks ++ retexted hunk (base ++ with_feeds so_far) ∷ []) k rest script) counted
          (subst (λ (h : Hunk). Spelt (hunks ++ h ∷ []) (at + 1) rest script) same h);
    }

as-dotted : (hunks : List Hunk) (hunk : Hunk) (base : List ℕ) (front so_far : List (List ℕ)) (start at : ℕ) (rest : List (List ℕ)) (script : Script)
    → so_far ≡ front ++ codes ".." ∷ [] → Each IsLine so_far → hunk.text ≡ base ++ with_feeds so_far → at ≡ start + length so_far
    → Spelt (hunks ++ with_dot hunk ∷ []) (at + 1 + 1) rest script → SpeltText hunks hunk base start (so_far ++ codes "." ∷ codes "s/.//" ∷ rest) script
as-dotted hunks hunk base front so_far start at rest script ends lines is number h =
    let long : length so_far ≡ length front + 1 = ap length ends ∙ length-append front (codes ".." ∷ []) in
    let counted : at + 1 + 1 ≡ start + length (front ++ codes ".." ∷ codes "." ∷ codes "s/.//" ∷ []) =
    omega (arith, length-append front (codes ".." ∷ codes "." ∷ codes "s/.//" ∷ [])) in
    let same : with_dot hunk ≡ retexted hunk (base ++ with_feeds (front ++ codes "." ∷ [])) = ap (retexted hunk) (made-dot base hunk.text front so_far is ends) in
    record {
      text = Dotted front;
      rest = rest;
      cut = ap (λ (ls : List (List ℕ)). ls ++ codes "." ∷ codes "s/.//" ∷ rest) ends ∙ append_assoc front (codes ".." ∷ []) (codes "." ∷ codes "s/.//" ∷ rest)
          ∙ sym (append_assoc front (codes ".." ∷ codes "." ∷ codes "s/.//" ∷ []) rest);
      writable = each-front front (codes ".." ∷ []) (subst (Each IsLine) ends lines);
      behind = subst (λ (k : ℕ). Spelt (hunks ++ retexted hunk (base ++ with_feeds (front ++ codes "." ∷ [])) ∷ []) k rest script) counted
          (subst (λ (h : Hunk). Spelt (hunks ++ h ∷ []) (at + 1 + 1) rest script) same h);
    }

as-more : (hunks : List Hunk) (hunk : Hunk) (base : List ℕ) (front so_far : List (List ℕ)) (start at : ℕ) (rest : List (List ℕ)) (script : Script)
    → so_far ≡ front ++ codes ".." ∷ [] → Each IsLine so_far → hunk.text ≡ base ++ with_feeds so_far → at ≡ start + length so_far
    → SpeltText hunks (with_dot hunk) (base ++ with_feeds (front ++ codes "." ∷ [])) (at + 1 + 1 + 1) rest script
    → SpeltText hunks hunk base start (so_far ++ codes "." ∷ codes "s/.//" ∷ codes "a" ∷ rest) script
as-more hunks hunk base front so_far start at rest script ends lines is number h =
    let long : length so_far ≡ length front + 1 = ap length ends ∙ length-append front (codes ".." ∷ []) in
    let tail = written h.text in
    let counted : at + 1 + 1 + 1 + length tail ≡ start + length (front ++ codes ".." ∷ codes "." ∷ codes "s/.//" ∷ codes "a" ∷ tail) =
    omega (arith, length-append front (codes ".." ∷ codes "." ∷ codes "s/.//" ∷ codes "a" ∷ tail)) in
    let bytes : (base ++ with_feeds (front ++ codes "." ∷ [])) ++ with_feeds (said h.text) ≡ base ++ with_feeds (front ++ codes "." ∷ said h.text) =
    append_assoc base (with_feeds (front ++ codes "." ∷ [])) (with_feeds (said h.text))
    ∙ ap (λ (t : List ℕ). base ++ t) (sym (flat_map-append (λ (l : List ℕ). l ++ 10 ∷ []) (front ++ codes "." ∷ []) (said h.text)) ∙ ap with_feeds (append_assoc front (codes "." ∷ []) (said h.text))) in
    let same : retexted hunk ((base ++ with_feeds (front ++ codes "." ∷ [])) ++ with_feeds (said h.text)) ≡ retexted hunk (base ++ with_feeds (front ++ codes "." ∷ said h.text)) = ap (retexted hunk) bytes in
    record {
      text = DottedMore front h.text;
      rest = h.rest;
      cut = ap (λ (ls : List (List ℕ)). ls ++ codes "." ∷ codes "s/.//" ∷ codes "a" ∷ rest) ends
          ∙ append_assoc front (codes ".." ∷ []) (codes "." ∷ codes "s/.//" ∷ codes "a" ∷ rest)
          ∙ ap (λ (ls : List (List ℕ)). front ++ codes ".." ∷ codes "." ∷ codes "s/.//" ∷ codes "a" ∷ ls) h.cut
          ∙ sym (append_assoc front (codes ".." ∷ codes "." ∷ codes "s/.//" ∷ codes "a" ∷ tail) h.rest);
      writable = (each-front front (codes ".." ∷ []) (subst (Each IsLine) ends lines), h.writable);
      behind = subst (λ (k : ℕ). Spelt (hunks ++ retexted hunk (base ++ with_feeds (front ++ codes "." ∷ said h.text)) ∷ []) k h.rest script) counted
          (subst (λ (x : Hunk). Spelt (hunks ++ x ∷ []) (at + 1 + 1 + 1 + length tail) h.rest script) same h.behind);
    }

-- nothing behind whole hunks
abbrev done : List Hunk → Result Script ScriptError
done hunks = Ok (record { hunks = hunks })

at-the-end : (hunks : List Hunk) (at : ℕ) (script : Script) → done hunks ≡ Ok script → Spelt hunks at [] script
at-the-end hunks at script e =
    let is : script.hunks ≡ hunks = cc in
    record { pieces = []; more = []; cut = refl; spelled = tt; whole = is ∙ sym (append-nil hunks) }

-- behind the `s/.//` of a text
after-replace : (n : ℕ) → Reads n → (hunks : List Hunk) (hunk : Hunk) (base : List ℕ) (front so_far : List (List ℕ)) (start at : ℕ) (lines : List (List ℕ)) (script : Script)
    → length lines ≤ n → so_far ≡ front ++ codes ".." ∷ [] → Each IsLine so_far → hunk.text ≡ base ++ with_feeds so_far → at ≡ start + length so_far
    → walked (state_of hunks (Replaced (with_dot hunk))) (at + 1 + 1) lines ≡ Ok script → SpeltText hunks hunk base start (so_far ++ codes "." ∷ codes "s/.//" ∷ lines) script
after-replace n reads hunks hunk base front so_far start at [] script few ends each is number e =
    as-dotted hunks hunk base front so_far start at [] script ends each is number (at-the-end (hunks ++ with_dot hunk ∷ []) (at + 1 + 1) script e)
after-replace n reads hunks hunk base front so_far start at (line ∷ lines) script few ends each is number e =
    elim (cases_Bool (bytes_eq line (codes "a"))) [
      | inl hit ↦
          let same : line ≡ codes "a" = (bytes_eq-Decides line (codes "a")).0 hit in
          let e2 : walked (state_of hunks (Replaced (with_dot hunk))) (at + 1 + 1) (codes "a" ∷ lines) ≡ Ok script =
          subst (λ (l : List ℕ). walked (state_of hunks (Replaced (with_dot hunk))) (at + 1 + 1) (l ∷ lines) ≡ Ok script) same e in
          let e3 : walked (state_of hunks (Within (with_dot hunk) false)) (at + 1 + 1 + 1) lines ≡ Ok script =
          ap (λ r. and_then r (λ next. walked next (at + 1 + 1 + 1) lines)) (sym (on-more hunks (with_dot hunk) (at + 1 + 1))) ∙ e2 in
          let text : (with_dot hunk).text ≡ (base ++ with_feeds (front ++ codes "." ∷ [])) ++ [] = made-dot base hunk.text front so_far is ends ∙ sym (append-nil (base ++ with_feeds (front ++ codes "." ∷ []))) in
          let t = reads.texts hunks (with_dot hunk) false (base ++ with_feeds (front ++ codes "." ∷ [])) [] (at + 1 + 1 + 1) (at + 1 + 1 + 1) lines script (omega arith) tt text (λ no. absurd (cc)) (omega arith) e3 in
          subst (λ (l : List ℕ). SpeltText hunks hunk base start (so_far ++ codes "." ∷ codes "s/.//" ∷ l ∷ lines) script) (sym same)
          (as-more hunks hunk base front so_far start at lines script ends each is number t)
      | inr miss ↦
          let e2 : and_then (on_command (hunks ++ with_dot hunk ∷ []) (at + 1 + 1) line) (λ next. walked next (at + 1 + 1 + 1) lines) ≡ Ok script =
          ap (λ r. and_then r (λ next. walked next (at + 1 + 1 + 1) lines)) (sym (on-replaced hunks (with_dot hunk) (at + 1 + 1) line miss)) ∙ e in
          as-dotted hunks hunk base front so_far start at (line ∷ lines) script ends each is number
          (at-command n reads (hunks ++ with_dot hunk ∷ []) (at + 1 + 1) line lines script (omega arith) e2)
    ]

-- behind the `.` of a text
after-dot : (n : ℕ) → Reads n → (hunks : List Hunk) (hunk : Hunk) (dots : Bool) (base : List ℕ) (so_far : List (List ℕ)) (start at : ℕ) (lines : List (List ℕ)) (script : Script)
    → length lines ≤ n → Each IsLine so_far → hunk.text ≡ base ++ with_feeds so_far → Dots dots so_far → at ≡ start + length so_far
    → walked (state_of hunks (Ended hunk dots)) (at + 1) lines ≡ Ok script → SpeltText hunks hunk base start (so_far ++ codes "." ∷ lines) script
after-dot n reads hunks hunk dots base so_far start at [] script few each is dotted number e =
    as-plain hunks hunk base so_far start at [] script each is number (at-the-end (hunks ++ hunk ∷ []) (at + 1) script e)
after-dot n reads hunks hunk dots base so_far start at (line ∷ lines) script few each is dotted number e =
    elim (cases_Bool (dots && bytes_eq line (codes "s/.//"))) [
      | inl hit ↦
          let parts = and_parts dots (bytes_eq line (codes "s/.//")) hit in
          let same : line ≡ codes "s/.//" = (bytes_eq-Decides line (codes "s/.//")).0 parts.1 in
          let ends = dotted parts.0 in
          let e2 : walked (state_of hunks (Ended hunk true)) (at + 1) (codes "s/.//" ∷ lines) ≡ Ok script =
          subst (λ (d : Bool). walked (state_of hunks (Ended hunk d)) (at + 1) (codes "s/.//" ∷ lines) ≡ Ok script) parts.0
          (subst (λ (l : List ℕ). walked (state_of hunks (Ended hunk dots)) (at + 1) (l ∷ lines) ≡ Ok script) same e) in
          let e3 : walked (state_of hunks (Replaced (with_dot hunk))) (at + 1 + 1) lines ≡ Ok script =
          ap (λ r. and_then r (λ next. walked next (at + 1 + 1) lines)) (sym (on-replace hunks hunk (at + 1))) ∙ e2 in
          subst (λ (l : List ℕ). SpeltText hunks hunk base start (so_far ++ codes "." ∷ l ∷ lines) script) (sym same)
          (after-replace n reads hunks hunk base ends.0 so_far start at lines script (omega arith) ends.1 each is number e3)
      | inr miss ↦
          let e2 : and_then (on_command (hunks ++ hunk ∷ []) (at + 1) line) (λ next. walked next (at + 1 + 1) lines) ≡ Ok script =
          ap (λ r. and_then r (λ next. walked next (at + 1 + 1) lines)) (sym (on-ended hunks hunk dots (at + 1) line miss)) ∙ e in
          as-plain hunks hunk base so_far start at (line ∷ lines) script each is number
          (at-command n reads (hunks ++ hunk ∷ []) (at + 1) line lines script (omega arith) e2)
    ]

-- within a text
in-text : (n : ℕ) → Reads n → (hunks : List Hunk) (hunk : Hunk) (dots : Bool) (base : List ℕ) (so_far : List (List ℕ)) (start at : ℕ) (line : List ℕ) (lines : List (List ℕ)) (script : Script)
    → length lines ≤ n → Each IsLine so_far → hunk.text ≡ base ++ with_feeds so_far → Dots dots so_far → at ≡ start + length so_far
    → walked (state_of hunks (Within hunk dots)) at (line ∷ lines) ≡ Ok script → SpeltText hunks hunk base start (so_far ++ line ∷ lines) script
in-text n reads hunks hunk dots base so_far start at line lines script few each is dotted number e =
    elim (cases_Bool (bytes_eq line (codes "."))) [
      | inl hit ↦
          let same : line ≡ codes "." = (bytes_eq-Decides line (codes ".")).0 hit in
          let e2 : walked (state_of hunks (Within hunk dots)) at (codes "." ∷ lines) ≡ Ok script =
          subst (λ (l : List ℕ). walked (state_of hunks (Within hunk dots)) at (l ∷ lines) ≡ Ok script) same e in
          let e3 : walked (state_of hunks (Ended hunk dots)) (at + 1) lines ≡ Ok script =
          ap (λ r. and_then r (λ next. walked next (at + 1) lines)) (sym (on-dot hunks hunk dots at)) ∙ e2 in
          subst (λ (l : List ℕ). SpeltText hunks hunk base start (so_far ++ l ∷ lines) script) (sym same)
          (after-dot n reads hunks hunk dots base so_far start at lines script few each is dotted number e3)
      | inr miss ↦
          let e2 : walked (state_of hunks (Within (with_line hunk line) (bytes_eq line (codes "..")))) (at + 1) lines ≡ Ok script =
          ap (λ r. and_then r (λ next. walked next (at + 1) lines)) (sym (on-other hunks hunk dots at line miss)) ∙ e in
          let one : IsLine line = λ same. let hit : bytes_eq line (codes ".") ≡ true = (bytes_eq-Decides line (codes ".")).1 same in cc in
          let notes : Dots (bytes_eq line (codes "..")) (so_far ++ line ∷ []) =
          λ hit. (so_far, ap (λ (l : List ℕ). so_far ++ l ∷ []) ((bytes_eq-Decides line (codes "..")).0 hit)) in
          let counted : at + 1 ≡ start + length (so_far ++ line ∷ []) = omega (arith, length-append so_far (line ∷ [])) in
          let t = reads.texts hunks (with_line hunk line) (bytes_eq line (codes "..")) base (so_far ++ line ∷ []) start (at + 1) lines script few
          (each-behind so_far line each one) (feeds-more base hunk.text so_far line is) notes counted e2 in
          let whole : (so_far ++ line ∷ []) ++ lines ≡ so_far ++ line ∷ lines = append_assoc so_far (line ∷ []) lines in
          record { text = t.text; rest = t.rest; cut = sym whole ∙ t.cut; writable = t.writable; behind = t.behind }
    ]

reads : (n : ℕ) → Reads n
reads zero = record { commands = commands; texts = texts }
  where
    commands : (hunks : List Hunk) (at : ℕ) (lines : List (List ℕ)) (script : Script) → length lines ≤ 0
        → walked (state_of hunks Commands) at lines ≡ Ok script → Spelt hunks at lines script
    commands hunks at [] script few e = at-the-end hunks at script e
    commands hunks at (line ∷ lines) script few e = absurd (omega arith)

    texts : (hunks : List Hunk) (hunk : Hunk) (dots : Bool) (base : List ℕ) (so_far : List (List ℕ)) (start at : ℕ) (lines : List (List ℕ)) (script : Script)
        → length lines ≤ 0 → Each IsLine so_far → hunk.text ≡ base ++ with_feeds so_far → Dots dots so_far → at ≡ start + length so_far
        → walked (state_of hunks (Within hunk dots)) at lines ≡ Ok script → SpeltText hunks hunk base start (so_far ++ lines) script
    texts hunks hunk dots base so_far start at [] script few each is dotted number e = absurd (cc)
    texts hunks hunk dots base so_far start at (line ∷ lines) script few each is dotted number e = absurd (omega arith)
reads (suc n) = record { commands = commands (reads n); texts = texts (reads n) }
  where
    commands : Reads n → (hunks : List Hunk) (at : ℕ) (lines : List (List ℕ)) (script : Script) → length lines ≤ suc n
        → walked (state_of hunks Commands) at lines ≡ Ok script → Spelt hunks at lines script
    commands less hunks at [] script few e = at-the-end hunks at script e
    commands less hunks at (line ∷ lines) script few e =
        at-command n less hunks at line lines script (omega arith)
        (ap (λ r. and_then r (λ next. walked next (at + 1) lines)) (sym (on-commands hunks at line)) ∙ e)

    texts : Reads n → (hunks : List Hunk) (hunk : Hunk) (dots : Bool) (base : List ℕ) (so_far : List (List ℕ)) (start at : ℕ) (lines : List (List ℕ)) (script : Script)
        → length lines ≤ suc n → Each IsLine so_far → hunk.text ≡ base ++ with_feeds so_far → Dots dots so_far → at ≡ start + length so_far
        → walked (state_of hunks (Within hunk dots)) at lines ≡ Ok script → SpeltText hunks hunk base start (so_far ++ lines) script
    texts less hunks hunk dots base so_far start at [] script few each is dotted number e = absurd (cc)
    texts less hunks hunk dots base so_far start at (line ∷ lines) script few each is dotted number e =
        in-text n less hunks hunk dots base so_far start at line lines script (omega arith) each is dotted number e

-- the whole
pub spelled-by : (lines : List (List ℕ)) (script : Script) → walked (state_of [] Commands) 1 lines ≡ Ok script
    → (pieces : List Spelling) × (lines ≡ flat_map spelled_lines pieces) × AreSpelled pieces 1 script.hunks
spelled-by lines script e =
    let all = reads (length lines) in
    let s = all.commands [] 1 lines script (omega arith) e in
    (s.pieces, s.cut, subst (λ (hs : List Hunk). AreSpelled s.pieces 1 hs) (sym s.whole) s.spelled)
