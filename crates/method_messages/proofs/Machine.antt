-- A stream read byte by byte. It serves the laws alone: every reading and every refusal of a stream is what this gives.
use Rattle.std.proofs.Common.{◌≡◌, ℕ, ◌+◌, ◌<◌, ◌≤◌, true, false, cond, List, [], ◌∷◌, ◌++◌, length, inl, inr, refl, sym, ap, subst, ◌∙◌, append_assoc, append-nil, arith, rules}
use Rattle.std.specs.Prelude.{nat_le}
use Rattle.std.specs.List.{list_any, list_all}
use Rattle.std.proofs.lemmas.Bool.{and_parts, or_parts, false≢true, cases_lt}
use Rattle.std.proofs.lemmas.Bool.Decides.{nat_tests}
use Rattle.std.proofs.lemmas.List.{length-append}
use Rattle.method_messages.specs.declared.message.Message.{Message}
use Rattle.method_messages.specs.declared.error.MessageError.{MessageError}
use Rattle.method_messages.specs.declared.error.MessageError.TheVariants.{BadMessage, TooLong}
use Rattle.method_messages.specs.Lines.{is_feed, is_line, ended, message_in, is_first, is_field, can_begin, may_follow}
use Rattle.method_messages.specs.Streams.{IsMessage, AreMessages, IsOpen, place}
use Rattle.method_messages.proofs.Ended.{plain_of, all-right, ended-cons, ended-append, ended-push}

pub data Outcome : Type 0 where
  Stands : (messages : List Message) → (at : ℕ) → (bytes : List ℕ) → Outcome
  Stops : (fault : MessageError) → Outcome

abbrev pub with_first : Message → Outcome → Outcome
with_first m (Stands messages at bytes) = Stands (m ∷ messages) at bytes
with_first m (Stops fault) = Stops fault

abbrev pub with_all : List Message → Outcome → Outcome
with_all [] outcome = outcome
with_all (m ∷ messages) outcome = with_first m (with_all messages outcome)

-- what the end of a line tells
data Kind : Type 0 where
  Pass : Kind
  End : Kind
  Bad : Kind
  On : Kind

abbrev kind_of : List (List ℕ) → List ℕ → Kind
kind_of [] [] = Pass
kind_of (first ∷ fields) [] = End
kind_of lines (c ∷ line) = cond (may_follow lines (c ∷ line)) On Bad

abbrev said : List (List ℕ) → Message
said [] = message_in [] []
said (first ∷ fields) = message_in first fields

abbrev size : List (List ℕ) → List ℕ → ℕ
size lines line = length (ended lines) + length line

abbrev Next : Type 0
Next = ℕ → List (List ℕ) → List ℕ → Outcome

abbrev after : Kind → ℕ → List (List ℕ) → List ℕ → Next → Outcome
after Pass at lines line next = next (at + 1) [] []
after End at lines line next = with_first (said lines) (next (at + (size lines line + 1)) [] [])
after Bad at lines line next = Stops (BadMessage (place at))
after On at lines line next = cond (nat_le 65536 (size lines line + 1)) (Stops (TooLong (place at))) (next at (lines ++ line ∷ []) [])

abbrev on_byte : ℕ → ℕ → List (List ℕ) → List ℕ → Next → Outcome
on_byte c at lines line next =
    cond (is_feed c) (after (kind_of lines line) at lines line next) (cond (nat_le 65536 (size lines line + 1)) (Stops (TooLong (place at))) (next at lines (line ++ c ∷ [])))

-- from a place on, behind these lines and these bytes of the next
pub run : List ℕ → ℕ → List (List ℕ) → List ℕ → Outcome
run [] at lines line = Stands [] at (ended lines ++ line)
run (c ∷ bytes) at lines line = on_byte c at lines line (run bytes)

-- ---- tests

long : (n : ℕ) → 65536 ≤ n → nat_le 65536 n ≡ true
long n h = grind (arith, nat_tests)

short : (n : ℕ) → n < 65536 → nat_le 65536 n ≡ false
short n h = grind (arith, nat_tests)

on-kind : (lines : List (List ℕ)) (line : List ℕ) → may_follow lines line ≡ true → kind_of lines line ≡ On
on-kind [] [] follows = absurd (false≢true follows)
on-kind (first ∷ fields) [] follows = absurd (false≢true follows)
on-kind [] (c ∷ line) follows = rw follows refl
on-kind (first ∷ fields) (c ∷ line) follows = rw follows refl

bad-kind : (lines : List (List ℕ)) (line : List ℕ) → 0 < length line → may_follow lines line ≡ false → kind_of lines line ≡ Bad
bad-kind [] [] some refused = absurd (omega arith)
bad-kind (first ∷ fields) [] some refused = absurd (omega arith)
bad-kind [] (c ∷ line) some refused = rw refused refl
bad-kind (first ∷ fields) (c ∷ line) some refused = rw refused refl

next-follows : (lines : List (List ℕ)) (line : List ℕ) (more : List (List ℕ)) → can_begin (lines ++ line ∷ more) ≡ true → may_follow lines line ≡ true
next-follows [] line more sound = (and_parts (is_first line) (list_all is_field more) sound).0
next-follows (first ∷ fields) line more sound =
    let behind = (and_parts (is_first first) (list_all is_field (fields ++ line ∷ more)) sound).1 in
    (and_parts (is_field line) (list_all is_field more) (all-right is_field fields (line ∷ more) behind)).0

-- ---- one byte

byte-plain : (c : ℕ) (bytes : List ℕ) (at : ℕ) (lines : List (List ℕ)) (line : List ℕ) → is_feed c ≡ false → size lines line + 1 < 65536
    → run (c ∷ bytes) at lines line ≡ run bytes at lines (line ++ c ∷ [])
unfolding run
byte-plain c bytes at lines line plain room = rw (plain, short (size lines line + 1) room) refl

byte-long : (c : ℕ) (bytes : List ℕ) (at : ℕ) (lines : List (List ℕ)) (line : List ℕ) → is_feed c ≡ false → 65536 ≤ size lines line + 1
    → run (c ∷ bytes) at lines line ≡ Stops (TooLong (place at))
unfolding run
byte-long c bytes at lines line plain full = rw (plain, long (size lines line + 1) full) refl

byte-on : (bytes : List ℕ) (at : ℕ) (lines : List (List ℕ)) (line : List ℕ) → may_follow lines line ≡ true → size lines line + 1 < 65536
    → run (10 ∷ bytes) at lines line ≡ run bytes at (lines ++ line ∷ []) []
unfolding run
byte-on bytes at lines line follows room = rw (on-kind lines line follows, short (size lines line + 1) room) refl

byte-on-long : (bytes : List ℕ) (at : ℕ) (lines : List (List ℕ)) (line : List ℕ) → may_follow lines line ≡ true → 65536 ≤ size lines line + 1
    → run (10 ∷ bytes) at lines line ≡ Stops (TooLong (place at))
unfolding run
byte-on-long bytes at lines line follows full = rw (on-kind lines line follows, long (size lines line + 1) full) refl

byte-bad : (bytes : List ℕ) (at : ℕ) (lines : List (List ℕ)) (line : List ℕ) → 0 < length line → may_follow lines line ≡ false
    → run (10 ∷ bytes) at lines line ≡ Stops (BadMessage (place at))
unfolding run
byte-bad bytes at lines line some refused = rw (bad-kind lines line some refused) refl

byte-end : (bytes : List ℕ) (at : ℕ) (first : List ℕ) (fields : List (List ℕ))
    → run (10 ∷ bytes) at (first ∷ fields) [] ≡ with_first (message_in first fields) (run bytes (at + (size (first ∷ fields) [] + 1)) [] [])
unfolding run
byte-end bytes at first fields = refl

byte-pass : (bytes : List ℕ) (at : ℕ) → run (10 ∷ bytes) at [] [] ≡ run bytes (at + 1) [] []
unfolding run
byte-pass bytes at = refl

-- ---- one line

run-line : (xs ys : List ℕ) (at : ℕ) (lines : List (List ℕ)) (line : List ℕ) → list_any is_feed xs ≡ false → size lines line + length xs < 65536
    → run (xs ++ ys) at lines line ≡ run ys at lines (line ++ xs)
run-line [] ys at lines line plain room = ap (run ys at lines) (sym (append-nil line))
run-line (c ∷ xs) ys at lines line plain room =
    let parts = or_parts (is_feed c) (list_any is_feed xs) plain in
    byte-plain c (xs ++ ys) at lines line parts.0 (omega arith)
    ∙ run-line xs ys at lines (line ++ c ∷ []) parts.1 (omega (arith, length-append line (c ∷ [])))
    ∙ ap (run ys at lines) (append_assoc line (c ∷ []) xs)

run-line-long : (xs ys : List ℕ) (at : ℕ) (lines : List (List ℕ)) (line : List ℕ) → list_any is_feed xs ≡ false → size lines line < 65536 → 65536 ≤ size lines line + length xs
    → run (xs ++ ys) at lines line ≡ Stops (TooLong (place at))
run-line-long [] ys at lines line plain room full = absurd (omega arith)
run-line-long (c ∷ xs) ys at lines line plain room full =
    let parts = or_parts (is_feed c) (list_any is_feed xs) plain in
    elim (cases_lt (size lines line + 1) 65536) [
      | inl less ↦
          byte-plain c (xs ++ ys) at lines line parts.0 less
          ∙ run-line-long xs ys at lines (line ++ c ∷ []) parts.1 (omega (arith, length-append line (c ∷ []))) (omega (arith, length-append line (c ∷ [])))
      | inr there ↦ byte-long c (xs ++ ys) at lines line parts.0 there
    ]

-- ---- lines

-- a line and its line feed in front of what follows
split-line : (x : List ℕ) (more : List (List ℕ)) (ys : List ℕ) → ended (x ∷ more) ++ ys ≡ x ++ 10 ∷ (ended more ++ ys)
split-line x more ys = ap (λ t. t ++ ys) (ended-cons x more) ∙ append_assoc x (10 ∷ ended more) ys

-- how long lines are with one more in their midst
pushed-size : (lines : List (List ℕ)) (x : List ℕ) (more : List (List ℕ)) → length (ended (lines ++ x ∷ more)) ≡ length (ended lines) + length x + 1 + length (ended more)
pushed-size lines x more =
    omega (arith, ap length (ended-append lines (x ∷ more)), length-append (ended lines) (ended (x ∷ more)), ap length (ended-cons x more), length-append x (10 ∷ ended more))

push-assoc : (lines : List (List ℕ)) (x : List ℕ) (more : List (List ℕ)) → (lines ++ x ∷ []) ++ more ≡ lines ++ x ∷ more
push-assoc lines x more = append_assoc lines (x ∷ []) more

run-lines : (ms lines : List (List ℕ)) (ys : List ℕ) (at : ℕ) → list_all is_line ms ≡ true → can_begin (lines ++ ms) ≡ true → length (ended (lines ++ ms)) < 65536
    → run (ended ms ++ ys) at lines [] ≡ run ys at (lines ++ ms) []
run-lines [] lines ys at plain sound room = ap (λ (ls : List (List ℕ)). run ys at ls []) (sym (append-nil lines))
run-lines (x ∷ ms) lines ys at plain sound room =
    let parts = and_parts (is_line x) (list_all is_line ms) plain in
    let follows = next-follows lines x ms sound in
    let long = pushed-size lines x ms in
    ap (λ t. run t at lines []) (split-line x ms ys)
    ∙ run-line x (10 ∷ (ended ms ++ ys)) at lines [] (plain_of x parts.0) (omega arith)
    ∙ byte-on (ended ms ++ ys) at lines x follows (omega arith)
    ∙ run-lines ms (lines ++ x ∷ []) ys at parts.1 (ap can_begin (push-assoc lines x ms) ∙ sound) (subst (λ (ls : List (List ℕ)). length (ended ls) < 65536) (sym (push-assoc lines x ms)) room)
    ∙ ap (λ (ls : List (List ℕ)). run ys at ls []) (push-assoc lines x ms)

run-lines-long : (ms lines : List (List ℕ)) (ys : List ℕ) (at : ℕ) → list_all is_line ms ≡ true → can_begin (lines ++ ms) ≡ true → length (ended lines) < 65536 → 65536 ≤ length (ended (lines ++ ms))
    → run (ended ms ++ ys) at lines [] ≡ Stops (TooLong (place at))
run-lines-long [] lines ys at plain sound room full = absurd (omega (arith, ap (λ (ls : List (List ℕ)). length (ended ls)) (append-nil lines)))
run-lines-long (x ∷ ms) lines ys at plain sound room full =
    let parts = and_parts (is_line x) (list_all is_line ms) plain in
    let follows = next-follows lines x ms sound in
    let long = pushed-size lines x ms in
    ap (λ t. run t at lines []) (split-line x ms ys)
    ∙ elim (cases_lt (length (ended lines) + length x) 65536) [
      | inl less ↦
          run-line x (10 ∷ (ended ms ++ ys)) at lines [] (plain_of x parts.0) (omega arith)
          ∙ elim (cases_lt (length (ended lines) + length x + 1) 65536) [
            | inl fits ↦
                byte-on (ended ms ++ ys) at lines x follows fits
                ∙ run-lines-long ms (lines ++ x ∷ []) ys at parts.1 (ap can_begin (push-assoc lines x ms) ∙ sound)
                (omega (arith, fits, ap length (ended-push lines x), length-append (ended lines ++ x) (10 ∷ []), length-append (ended lines) x))
                (subst (λ (ls : List (List ℕ)). 65536 ≤ length (ended ls)) (sym (push-assoc lines x ms)) full)
            | inr there ↦ byte-on-long (ended ms ++ ys) at lines x follows there
          ]
      | inr beyond ↦ run-line-long x (10 ∷ (ended ms ++ ys)) at lines [] (plain_of x parts.0) (omega arith) (omega arith)
    ]

-- ---- what a stream is made of

run-none : (line : List ℕ) (lines : List (List ℕ)) (at : ℕ) → run [] at lines line ≡ Stands [] at (ended lines ++ line)
unfolding run
run-none line lines at = refl

pub run_open : (text : List ℕ) (at : ℕ) → IsOpen text → length text < 65536 → run text at [] [] ≡ Stands [] at text
run_open text at h room =
    let sizes : length text ≡ length (ended h.lines) + length h.line = ap length h.split ∙ length-append (ended h.lines) h.line in
    ap (λ t. run t at [] []) h.split
    ∙ run-lines h.lines [] h.line at h.plain h.sound (omega arith)
    ∙ ap (λ t. run t at h.lines []) (sym (append-nil h.line))
    ∙ run-line h.line [] at h.lines [] (plain_of h.line h.own) (omega arith)
    ∙ run-none h.line h.lines at
    ∙ ap (Stands [] at) (sym h.split)

pub run_long : (text more : List ℕ) (at : ℕ) → IsOpen text → 65536 ≤ length text → run (text ++ more) at [] [] ≡ Stops (TooLong (place at))
run_long text more at h full =
    let sizes : length text ≡ length (ended h.lines) + length h.line = ap length h.split ∙ length-append (ended h.lines) h.line in
    ap (λ t. run (t ++ more) at [] []) h.split
    ∙ ap (λ t. run t at [] []) (append_assoc (ended h.lines) h.line more)
    ∙ elim (cases_lt (length (ended h.lines)) 65536) [
      | inl less ↦
          run-lines h.lines [] (h.line ++ more) at h.plain h.sound less
          ∙ run-line-long h.line more at h.lines [] (plain_of h.line h.own) (omega arith) (omega arith)
      | inr beyond ↦ run-lines-long h.lines [] (h.line ++ more) at h.plain h.sound (omega arith) beyond
    ]

pub run_bad : (lines : List (List ℕ)) (line more : List ℕ) (at : ℕ) → list_all is_line lines ≡ true → can_begin lines ≡ true → is_line line ≡ true → 0 < length line
    → may_follow lines line ≡ false → length (ended lines) + length line < 65536 → run (ended lines ++ (line ++ 10 ∷ more)) at [] [] ≡ Stops (BadMessage (place at))
run_bad lines line more at plain sound own some refused room =
    run-lines lines [] (line ++ 10 ∷ more) at plain sound (omega arith)
    ∙ run-line line (10 ∷ more) at lines [] (plain_of line own) (omega arith)
    ∙ byte-bad more at lines line some refused

pub run_message : (text more : List ℕ) (message : Message) (at : ℕ) → IsMessage text message → run (text ++ more) at [] [] ≡ with_first message (run more (at + length text) [] [])
run_message text more message at h =
    let lines : List (List ℕ) = h.first ∷ h.fields in
    let sizes : length text ≡ length (ended (h.first ∷ h.fields)) + 1 = ap length h.split ∙ length-append (ended (h.first ∷ h.fields)) (10 ∷ []) in
    ap (λ t. run (t ++ more) at [] []) h.split
    ∙ ap (λ t. run t at [] []) (append_assoc (ended (h.first ∷ h.fields)) (10 ∷ []) more)
    ∙ run-lines (h.first ∷ h.fields) [] (10 ∷ more) at h.plain h.sound (omega (arith, h.short))
    ∙ byte-end more at h.first h.fields
    ∙ (λ i. with_first ((sym h.says) i) (run more ((ended_place at text (ended (h.first ∷ h.fields)) sizes) i) [] []))
  where
    ended_place : (at : ℕ) (text lines : List ℕ) → length text ≡ length lines + 1 → at + (length lines + 0 + 1) ≡ at + length text
    ended_place at text lines e = omega arith

run-feeds : (feeds more : List ℕ) (at : ℕ) → list_all is_feed feeds ≡ true → run (feeds ++ more) at [] [] ≡ run more (at + length feeds) [] []
run-feeds [] more at plain = ap (λ n. run more n [] []) (omega arith)
run-feeds (c ∷ feeds) more at plain =
    let parts = and_parts (is_feed c) (list_all is_feed feeds) plain in
    let same : c ≡ 10 = search rules in
    ap (λ d. run (d ∷ (feeds ++ more)) at [] []) same
    ∙ byte-pass (feeds ++ more) at
    ∙ run-feeds feeds more (at + 1) parts.1
    ∙ ap (λ n. run more n [] []) (omega arith)

pub run_messages : (text more : List ℕ) (messages : List Message) (at : ℕ) → AreMessages text messages → run (text ++ more) at [] [] ≡ with_all messages (run more (at + length text) [] [])
run_messages text more [] at plain = run-feeds text more at plain
run_messages text more (m ∷ messages) at (feeds, own, rest, split, plain, message, are) =
    let sizes : length text ≡ length feeds + (length own + length rest) = ap length split ∙ length-append feeds (own ++ rest) ∙ ap (λ n. length feeds + n) (length-append own rest) in
    ap (λ t. run (t ++ more) at [] []) split
    ∙ ap (λ t. run t at [] []) (append_assoc feeds (own ++ rest) more)
    ∙ run-feeds feeds ((own ++ rest) ++ more) at plain
    ∙ ap (λ t. run t (at + length feeds) [] []) (append_assoc own rest more)
    ∙ run_message own (rest ++ more) m (at + length feeds) message
    ∙ ap (with_first m) (run_messages rest more messages (at + length feeds + length own) are)
    ∙ ap (λ n. with_first m (with_all messages (run more n [] []))) (omega arith)
