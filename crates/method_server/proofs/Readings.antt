-- How the reading of a stream goes on, byte by byte, whatever bytes come: messages end, or it is refused behind all that have ended.
use Rattle.std.proofs.Common.{◌≡◌, ◌⊎◌, inl, inr, refl, sym, ap, subst, ◌∙◌, ℕ, ◌+◌, ◌<◌, ◌≤◌, Bool, true, false, List, [], ◌∷◌, ◌++◌, length, take, append_assoc, append-nil, Option, Some, None, arith, rules}
use Rattle.std.specs.List.{list_all, list_any}
use Rattle.std.proofs.lemmas.Bool.{cases_lt, or_parts}
use Rattle.std.proofs.lemmas.List.{length-append, take_all, take_at}
use Rattle.memchr.specs.Find.{IsFirstByte, is_byte}
use Rattle.method_messages.specs.declared.message.Message.{Message}
use Rattle.method_messages.specs.declared.error.MessageError.{MessageError}
use Rattle.method_messages.specs.declared.error.MessageError.TheVariants.{BadMessage, TooLong, NoMemory}
use Rattle.method_messages.specs.Lines.{is_feed, is_line, ended, message_in, can_begin, may_follow}
use Rattle.method_messages.specs.Streams.{IsMessage, AreMessages, IsOpen, Unended, Reads, begun_at, place}
use Rattle.method_messages.specs.Refused.{IsBad, IsRefused}
use Rattle.method_messages.proofs.Cuts.{next_feed_none, next_feed_some}
use Rattle.method_messages.proofs.Ended.{all-append, line-append, ended-push, begun-push, plain_of}
use Rattle.method_messages.proofs.Going.{are-append, are-one, are-feed}
use Rattle.method_messages.proofs.OneReading.{one_refusal, one_of_both}
use Rattle.method_server.specs.Input.{Input, Ended, Refused, IsRefusedBehind}
use Rattle.method_server.specs.Taking.{IsCut}

-- a stream stands behind these messages
abbrev pub Stands : List ℕ → List Message → Type 0
Stands stream messages = (rest : Unended) × Reads stream messages rest

abbrev pub Stops : List ℕ → List Message → Type 0
Stops stream messages = (at : ℕ) × IsRefusedBehind stream messages at

-- further messages may have ended
abbrev pub GoesOn : List ℕ → List Message → Type 0
GoesOn stream messages = ((new : List Message) × Stands stream (messages ++ new)) ⊎ Stops stream messages

-- ---- what is refused stays so

behind : (a b c d more : List ℕ) → (a ++ (b ++ (c ++ 10 ∷ d))) ++ more ≡ a ++ (b ++ (c ++ 10 ∷ (d ++ more)))
behind a b c d more = simp append_assoc

long-behind : (a b c more : List ℕ) → (a ++ (b ++ c)) ++ more ≡ a ++ (b ++ (c ++ more))
long-behind a b c more = simp append_assoc

pub refused_more : (bytes more : List ℕ) (messages : List Message) (at : ℕ) → IsRefusedBehind bytes messages at → IsRefusedBehind (bytes ++ more) messages at
refused_more bytes more messages at (inl (is, same)) = inl (
  record {
    front = is.front;
    messages = is.messages;
    lines = is.lines;
    line = is.line;
    behind = is.behind ++ more;
    split = ap (λ t. t ++ more) is.split ∙ behind is.front (ended is.lines) is.line is.behind more;
    before = is.before;
    plain = is.plain;
    sound = is.sound;
    own = is.own;
    some = is.some;
    refused = is.refused;
    short = is.short;
    begins = is.begins;
  },
  same,
)
refused_more bytes more messages at (inr (is, same)) = inr (
  record {
    front = is.front;
    messages = is.messages;
    text = is.text;
    behind = is.behind ++ more;
    split = ap (λ t. t ++ more) is.split ∙ long-behind is.front is.text is.behind more;
    before = is.before;
    goes_on = is.goes_on;
    long = is.long;
    begins = is.begins;
  },
  same,
)

-- ---- one byte more

more_open : (stream : List ℕ) (messages : List Message) (r : Unended) (h : Reads stream messages r) (c : ℕ) → stream ++ c ∷ [] ≡ h.front ++ (r.bytes ++ c ∷ [])
more_open stream messages r h c = ap (λ t. t ++ c ∷ []) h.split ∙ append_assoc h.front r.bytes (c ∷ [])

-- the message goes on with the byte, unless it is too long by it
opens : (stream : List ℕ) (messages : List Message) (r : Unended) (c : ℕ) → Reads stream messages r → IsOpen (r.bytes ++ c ∷ [])
    → Stands (stream ++ c ∷ []) messages ⊎ Stops (stream ++ c ∷ []) messages
opens stream messages r c h open_on = by_size (cases_lt (length r.bytes + 1) 65536)
  where
    by_size : (length r.bytes + 1 < 65536) ⊎ (65536 ≤ length r.bytes + 1) → Stands (stream ++ c ∷ []) messages ⊎ Stops (stream ++ c ∷ []) messages
    by_size (inl short) = inl (
      record { begins = r.begins; bytes = r.bytes ++ c ∷ [] },
      record {
        front = h.front;
        split = more_open stream messages r h c;
        before = h.before;
        goes_on = open_on;
        short = omega (arith, short, length-append r.bytes (c ∷ []));
        begins = h.begins;
      },
    )
    by_size (inr long) = inr (
      r.begins,
      inr (
        record {
          front = h.front;
          messages = messages;
          text = r.bytes ++ c ∷ [];
          behind = [];
          split = more_open stream messages r h c ∙ ap (λ t. h.front ++ t) (sym (append-nil (r.bytes ++ c ∷ [])));
          before = h.before;
          goes_on = open_on;
          long = omega (arith, long, length-append r.bytes (c ∷ []));
          begins = h.begins;
        },
        refl,
      ),
    )

open_plain : (text : List ℕ) (c : ℕ) → is_feed c ≡ false → IsOpen text → IsOpen (text ++ c ∷ [])
open_plain text c plain h = record {
  lines = h.lines;
  line = h.line ++ c ∷ [];
  split = ap (λ t. t ++ c ∷ []) h.split ∙ append_assoc (ended h.lines) h.line (c ∷ []);
  plain = h.plain;
  sound = h.sound;
  own = line-append h.line (c ∷ []) h.own (rw plain refl);
}

-- one that is no line feed ends nothing
pub plain_byte : (stream : List ℕ) (messages : List Message) (r : Unended) (c : ℕ) → is_feed c ≡ false → Reads stream messages r
    → Stands (stream ++ c ∷ []) messages ⊎ Stops (stream ++ c ∷ []) messages
plain_byte stream messages r c plain h = opens stream messages r c h (open_plain r.bytes c plain h.goes_on)

nothing_open : IsOpen []
nothing_open = record { lines = []; line = []; split = refl; plain = refl; sound = refl; own = refl }

-- a stream of nothing
pub nothing_read : Reads [] [] (record { begins = 0; bytes = [] })
nothing_read = record { front = []; split = refl; before = refl; goes_on = nothing_open; short = omega arith; begins = refl }

-- nothing is open behind a line feed that ends these messages
closes : (stream : List ℕ) (messages new : List Message) (r : Unended) → Reads stream messages r → AreMessages (r.bytes ++ 10 ∷ []) new → Stands (stream ++ 10 ∷ []) (messages ++ new)
closes stream messages new r h are = (
  record { begins = place (length (h.front ++ (r.bytes ++ 10 ∷ []))); bytes = [] },
  record {
    front = h.front ++ (r.bytes ++ 10 ∷ []);
    split = more_open stream messages r h 10 ∙ sym (append-nil (h.front ++ (r.bytes ++ 10 ∷ [])));
    before = are-append h.front (r.bytes ++ 10 ∷ []) messages new h.before are;
    goes_on = nothing_open;
    short = omega arith;
    begins = refl;
  },
)

-- the line that the feed ends may follow
open_line : (text : List ℕ) (lines : List (List ℕ)) (line : List ℕ) → text ≡ ended lines ++ line → list_all is_line lines ≡ true → can_begin lines ≡ true → is_line line ≡ true
    → may_follow lines line ≡ true → IsOpen (text ++ 10 ∷ [])
open_line text lines line split plain sound own follows = record {
  lines = lines ++ line ∷ [];
  line = [];
  split = ap (λ t. t ++ 10 ∷ []) split ∙ sym (ended-push lines line) ∙ sym (append-nil (ended (lines ++ line ∷ [])));
  plain = all-append is_line lines (line ∷ []) plain (rw own refl);
  sound = begun-push lines line sound follows;
  own = refl;
}

-- or not
bad_line : (stream : List ℕ) (messages : List Message) (r : Unended) (h : Reads stream messages r) (lines : List (List ℕ)) (line : List ℕ) → r.bytes ≡ ended lines ++ line
    → list_all is_line lines ≡ true → can_begin lines ≡ true → is_line line ≡ true → 0 < length line → may_follow lines line ≡ false → IsBad (stream ++ 10 ∷ []) r.begins
bad_line stream messages r h lines line split plain sound own some refused = record {
  front = h.front;
  messages = messages;
  lines = lines;
  line = line;
  behind = [];
  split = more_open stream messages r h 10 ∙ ap (λ t. h.front ++ (t ++ 10 ∷ [])) split ∙ ap (λ t. h.front ++ t) (append_assoc (ended lines) line (10 ∷ []));
  before = h.before;
  plain = plain;
  sound = sound;
  own = own;
  some = some;
  refused = refused;
  short = omega (arith, h.short, ap length split, length-append (ended lines) line);
  begins = h.begins;
}

whole_message : (text first : List ℕ) (fields : List (List ℕ)) → text ≡ ended (first ∷ fields) ++ [] → list_all is_line (first ∷ fields) ≡ true → can_begin (first ∷ fields) ≡ true
    → length text < 65536 → IsMessage (text ++ 10 ∷ []) (message_in first fields)
whole_message text first fields split plain sound short = record {
  first = first;
  fields = fields;
  split = ap (λ t. t ++ 10 ∷ []) (split ∙ append-nil (ended (first ∷ fields)));
  plain = plain;
  sound = sound;
  says = refl;
  short = omega (arith, short, length-append text (10 ∷ []));
}

as_going : {stream : List ℕ} {messages : List Message} → Stands stream messages ⊎ Stops stream messages → GoesOn stream messages
as_going {stream} {messages} (inl (rest, reads)) = inl ([], (rest, subst (λ (ms : List Message). Reads stream ms rest) (sym (append-nil messages)) reads))
as_going {stream} {messages} (inr stops) = inr stops

feed_byte : (stream : List ℕ) (messages : List Message) (r : Unended) (h : Reads stream messages r) (lines : List (List ℕ)) (line : List ℕ) → r.bytes ≡ ended lines ++ line
    → list_all is_line lines ≡ true → can_begin lines ≡ true → is_line line ≡ true → GoesOn (stream ++ 10 ∷ []) messages
unfolding bad_line
feed_byte stream messages r h [] [] split plain sound own = inl ([], closes stream messages [] r h (are-feed r.bytes split))
feed_byte stream messages r h (first ∷ fields) [] split plain sound own =
    inl (message_in first fields ∷ [], closes stream messages (message_in first fields ∷ []) r h (are-one (r.bytes ++ 10 ∷ []) (message_in first fields) (whole_message r.bytes first fields split plain sound h.short)))
feed_byte stream messages r h lines (c ∷ line) split plain sound own = by_line (may_follow lines (c ∷ line)) refl
  where
    by_line : (b : Bool) → may_follow lines (c ∷ line) ≡ b → GoesOn (stream ++ 10 ∷ []) messages
    by_line true follows = as_going (opens stream messages r 10 h (open_line r.bytes lines (c ∷ line) split plain sound own follows))
    by_line false refused = inr (r.begins, inl (bad_line stream messages r h lines (c ∷ line) split plain sound own (omega arith) refused, refl))

pub any_byte : (stream : List ℕ) (messages : List Message) (r : Unended) (c : ℕ) → Reads stream messages r → GoesOn (stream ++ c ∷ []) messages
any_byte stream messages r c h = by_byte (is_feed c) refl
  where
    by_byte : (b : Bool) → is_feed c ≡ b → GoesOn (stream ++ c ∷ []) messages
    by_byte true is =
        let same : c ≡ 10 = search rules in
        subst (λ d. GoesOn (stream ++ d ∷ []) messages) (sym same) (feed_byte stream messages r h h.goes_on.lines h.goes_on.line h.goes_on.split h.goes_on.plain h.goes_on.sound h.goes_on.own)
    by_byte false plain = as_going (plain_byte stream messages r c plain h)

-- ---- all bytes

abbrev pub HasInput : List ℕ → List Message → Type 0
HasInput bytes messages = (later : List Message) × (broken : Option ℕ) × Input bytes (messages ++ later) broken

same_input : (a b : List ℕ) (ms ns : List Message) (broken : Option ℕ) → a ≡ b → ms ≡ ns → Input a ms broken → Input b ns broken
same_input a b ms ns broken e f input = subst (λ (t : List ℕ). Input t ns broken) e (subst (λ (m : List Message). Input a m broken) f input)

next_input : (stream more : List ℕ) (c : ℕ) (messages : List Message) → ((s : List ℕ) (ms : List Message) (r : Unended) → Reads s ms r → HasInput (s ++ more) ms) → GoesOn (stream ++ c ∷ []) messages
    → HasInput (stream ++ c ∷ more) messages
next_input stream more c messages goes (inl (new, (rest, reads))) =
    let (later, broken, input) = goes (stream ++ c ∷ []) (messages ++ new) rest reads in
    (new ++ later, broken, same_input ((stream ++ c ∷ []) ++ more) (stream ++ c ∷ more) ((messages ++ new) ++ later) (messages ++ (new ++ later)) broken (append_assoc stream (c ∷ []) more) (append_assoc messages new later) input)
next_input stream more c messages goes (inr (at, refused)) = (
  [],
  Some at,
  same_input ((stream ++ c ∷ []) ++ more) (stream ++ c ∷ more) messages (messages ++ []) (Some at) (append_assoc stream (c ∷ []) more) (sym (append-nil messages))
      (Refused at (refused_more (stream ++ c ∷ []) more messages at refused) refl),
)

-- each stream ends somewhere, or is refused
pub every_input : (more stream : List ℕ) (messages : List Message) (r : Unended) → Reads stream messages r → HasInput (stream ++ more) messages
every_input [] stream messages r h = ([], begun_at r, same_input stream (stream ++ []) messages (messages ++ []) (begun_at r) (sym (append-nil stream)) (sym (append-nil messages)) (Ended r h refl))
every_input (c ∷ more) stream messages r h = next_input stream more c messages (every_input more) (any_byte stream messages r c h)

-- ---- a line

next_walk : (stream more : List ℕ) (c : ℕ) (messages : List Message) → ((s : List ℕ) (ms : List Message) (r : Unended) → Reads s ms r → GoesOn (s ++ more) ms)
    → Stands (stream ++ c ∷ []) messages ⊎ Stops (stream ++ c ∷ []) messages → GoesOn (stream ++ c ∷ more) messages
next_walk stream more c messages goes (inl (rest, reads)) = subst (λ (t : List ℕ). GoesOn t messages) (append_assoc stream (c ∷ []) more) (goes (stream ++ c ∷ []) messages rest reads)
next_walk stream more c messages goes (inr (at, refused)) =
    inr (at, subst (λ (t : List ℕ). IsRefusedBehind t messages at) (append_assoc stream (c ∷ []) more) (refused_more (stream ++ c ∷ []) more messages at refused))

walk : (line : List ℕ) → IsCut line → (stream : List ℕ) (messages : List Message) (r : Unended) → Reads stream messages r → GoesOn (stream ++ line) messages
walk [] cut stream messages r h = as_going (inl (r, subst (λ (t : List ℕ). Reads t messages r) (sym (append-nil stream)) h))
walk (c ∷ []) cut stream messages r h = any_byte stream messages r c h
walk (c ∷ d ∷ bytes) cut stream messages r h = next_walk stream (d ∷ bytes) c messages (walk (d ∷ bytes) cut.1) (plain_byte stream messages r c cut.0 h)

-- ---- where a piece is cut

cons_cut : (c : ℕ) (bytes : List ℕ) → is_feed c ≡ false → IsCut bytes → IsCut (c ∷ bytes)
cons_cut c [] plain cut = tt
cons_cut c (d ∷ bytes) plain cut = (plain, cut)

line_cut : (line : List ℕ) → list_any is_feed line ≡ false → IsCut (line ++ 10 ∷ [])
line_cut [] plain = tt
line_cut (c ∷ line) plain = let parts = or_parts (is_feed c) (list_any is_feed line) plain in cons_cut c (line ++ 10 ∷ []) parts.0 (line_cut line parts.1)

no_feed_cut : (text : List ℕ) → list_any is_feed text ≡ false → IsCut text
no_feed_cut [] plain = tt
no_feed_cut (c ∷ text) plain = let parts = or_parts (is_feed c) (list_any is_feed text) plain in cons_cut c text parts.0 (no_feed_cut text parts.1)

pub cut_behind_feed : (text : List ℕ) (at : ℕ) → IsFirstByte (is_byte 10) text (Some at) → IsCut (take (at + 1) text)
cut_behind_feed text at first =
    let next = next_feed_some text 0 at first in
    let long : length (next.more ++ 10 ∷ []) ≡ at + 1 = omega (arith, next.place, length-append next.more (10 ∷ [])) in
    let front : take (at + 1) text ≡ next.more ++ 10 ∷ [] =
    ap (take (at + 1)) (next.split ∙ sym (append_assoc next.more (10 ∷ []) next.behind)) ∙ take_at (next.more ++ 10 ∷ []) next.behind (at + 1) long in
    subst IsCut (sym front) (line_cut next.more (plain_of next.more next.own))

pub uncut : (text : List ℕ) → IsFirstByte (is_byte 10) text None → IsCut (take (length text) text)
uncut text none = subst IsCut (sym (take_all (length text) text (omega arith))) (no_feed_cut text (plain_of text (next_feed_none text 0 none)))

abbrev pub fault_place : MessageError → ℕ
fault_place (BadMessage at) = at
fault_place (TooLong at) = at
fault_place NoMemory = 0

-- a stream that is refused by a line is refused behind all messages that ended before
pub refused_by : (stream line : List ℕ) (messages : List Message) (r : Unended) (fault : MessageError) → IsCut line → Reads stream messages r → IsRefused (stream ++ line) fault
    → IsRefusedBehind (stream ++ line) messages (fault_place fault)
refused_by stream line messages r fault cut h refused = by_walk (walk line cut stream messages r h)
  where
    by_walk : GoesOn (stream ++ line) messages → IsRefusedBehind (stream ++ line) messages (fault_place fault)
    by_walk (inl (new, (rest, reads))) = absurd (one_of_both (stream ++ line) (messages ++ new) rest fault reads refused)
    by_walk (inr (at, inl (is, same))) =
        subst (λ n. IsRefusedBehind (stream ++ line) messages n) (ap fault_place (one_refusal (stream ++ line) (BadMessage at) fault is refused)) (inl (is, same))
    by_walk (inr (at, inr (is, same))) =
        subst (λ n. IsRefusedBehind (stream ++ line) messages n) (ap fault_place (one_refusal (stream ++ line) (TooLong at) fault is refused)) (inr (is, same))
