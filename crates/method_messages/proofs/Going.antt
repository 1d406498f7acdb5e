-- How reading a stream goes on, and where it stops.
use Rattle.std.proofs.Common.{◌≡◌, ℕ, ◌+◌, ◌-◌, ◌^◌, ◌<◌, ◌≤◌, min, Bool, true, false, List, [], ◌∷◌, ◌++◌, length, take, drop, Ok, Err, inl, inr, refl, sym, ap, subst, ◌∙◌, append_assoc, append-nil, arith}
use Rattle.std.specs.List.{list_all}
use Rattle.std.proofs.lemmas.List.{length-append, length-drop, take-append-drop, take_at, drop-drop, length-take-le, take_all}
use Rattle.method_messages.specs.declared.message.Message.{Message}
use Rattle.method_messages.specs.declared.error.MessageError.{MessageError}
use Rattle.method_messages.specs.declared.error.MessageError.TheVariants.{BadMessage, TooLong, NoMemory}
use Rattle.method_messages.specs.declared.step.Told.{Told}
use Rattle.method_messages.specs.declared.step.Told.TheVariants.{Passed, GoesOn, Ends}
use Rattle.method_messages.specs.Lines.{is_feed, is_line, ended}
use Rattle.method_messages.specs.Streams.{IsMessage, AreMessages, IsOpen, Unended, Reads, place}
use Rattle.method_messages.specs.Refused.{IsBad, IsTooLong}
use Rattle.method_messages.specs.Within.{IsNextFeed, Within, EndsBadly, IsReadOf, Steps, Refuses, unended}
use Rattle.method_messages.proofs.Ended.{all-append}
use Rattle.method_messages.proofs.Open.{open_none, next_split, next_inside, next_open, all_open}

-- ---- texts of messages

pub are-append : (a b : List ℕ) (ms ns : List Message) → AreMessages a ms → AreMessages b ns → AreMessages (a ++ b) (ms ++ ns)
are-append a b [] [] first second = all-append is_feed a b first second
are-append a b [] (n ∷ ns) first (feeds, own, more, split, plain, message, rest) =
    (a ++ feeds, own, more, ap (λ t. a ++ t) split ∙ sym (append_assoc a feeds (own ++ more)), all-append is_feed a feeds first plain, message, rest)
are-append a b (m ∷ ms) ns (feeds, own, more, split, plain, message, rest) second = (
  feeds,
  own,
  more ++ b,
  ap (λ t. t ++ b) split ∙ append_assoc feeds (own ++ more) b ∙ ap (λ t. feeds ++ t) (append_assoc own more b),
  plain,
  message,
  are-append more b ms ns rest second,
)

pub are-one : (text : List ℕ) (message : Message) → IsMessage text message → AreMessages text (message ∷ [])
are-one text message h = ([], text, [], sym (append-nil text), refl, h, refl)

pub are-feed : (text : List ℕ) → text ≡ [] → AreMessages (text ++ 10 ∷ []) []
are-feed text e = ap (λ t. list_all is_feed (t ++ 10 ∷ [])) e

-- ---- one line on

min-add : (n k limit : ℕ) → min (min n limit + k) limit ≡ min (n + k) limit
min-add n k limit = omega arith

-- a place so many bytes on
place-add : (n k : ℕ) → place (place n + k) ≡ place (n + k)
place-add n k = min-add n k (2 ^ 64 - 1)

pub goes-behind : (stream : List ℕ) (messages : List Message) (rest : List ℕ) (seen begins at : ℕ) (new : List Message) → Within stream messages rest seen begins → IsNextFeed rest seen at
    → AreMessages (take at rest ++ 10 ∷ []) new → Within stream (messages ++ new) (drop 1 (drop at rest)) 0 (place (begins + (at + 1)))
goes-behind stream messages rest seen begins at new h next are =
    let split = next_split rest seen at h.inside next in
    let inside = (next_inside rest seen at h.inside next).1 in
    let long : length (take at rest ++ 10 ∷ []) ≡ at + 1 = length-append (take at rest) (10 ∷ []) ∙ ap (λ n. n + 1) (length-take-le at rest (omega arith)) in
    record {
      front = h.front ++ (take at rest ++ 10 ∷ []);
      split = h.split ∙ ap (λ t. h.front ++ t) split ∙ sym (append_assoc h.front (take at rest ++ 10 ∷ []) (drop 1 (drop at rest)));
      before = are-append h.front (take at rest ++ 10 ∷ []) messages new h.before are;
      inside = omega arith;
      goes_on = open_none;
      counted = ap (λ n. place (n + (at + 1))) h.counted ∙ place-add (length h.front) (at + 1) ∙ ap place (omega (arith, long, length-append h.front (take at rest ++ 10 ∷ [])));
    }

pub goes-on : (stream : List ℕ) (messages : List Message) (rest : List ℕ) (seen begins at : ℕ) → Within stream messages rest seen begins → IsNextFeed rest seen at
    → IsOpen (take at rest ++ 10 ∷ []) → Within stream messages rest (at + 1) begins
goes-on stream messages rest seen begins at h next opens =
    let split = next_split rest seen at h.inside next in
    let inside = (next_inside rest seen at h.inside next).1 in
    let long : length (take at rest ++ 10 ∷ []) ≡ at + 1 = length-append (take at rest) (10 ∷ []) ∙ ap (λ n. n + 1) (length-take-le at rest (omega arith)) in
    let front : take (at + 1) rest ≡ take at rest ++ 10 ∷ [] = ap (take (at + 1)) split ∙ take_at (take at rest ++ 10 ∷ []) (drop 1 (drop at rest)) (at + 1) long in
    record {
      front = h.front;
      split = h.split;
      before = h.before;
      inside = omega arith;
      goes_on = subst IsOpen (sym front) opens;
      counted = h.counted;
    }

-- ---- where it stops

pub stops-badly : (stream : List ℕ) (messages : List Message) (rest : List ℕ) (seen begins at : ℕ) → Within stream messages rest seen begins → IsNextFeed rest seen at
    → EndsBadly (take at rest) → IsBad stream begins
stops-badly stream messages rest seen begins at h next bad =
    let split = next_split rest seen at h.inside next in
    let text : rest ≡ ended bad.lines ++ (bad.line ++ 10 ∷ drop 1 (drop at rest)) =
    split ∙ append_assoc (take at rest) (10 ∷ []) (drop 1 (drop at rest)) ∙ ap (λ t. t ++ 10 ∷ drop 1 (drop at rest)) bad.split
    ∙ append_assoc (ended bad.lines) bad.line (10 ∷ drop 1 (drop at rest)) in
    record {
      front = h.front;
      messages = messages;
      lines = bad.lines;
      line = bad.line;
      behind = drop 1 (drop at rest);
      split = h.split ∙ ap (λ t. h.front ++ t) text;
      before = h.before;
      plain = bad.plain;
      sound = bad.sound;
      own = bad.own;
      some = bad.some;
      refused = bad.refused;
      short = omega (arith, bad.short, ap length bad.split, length-append (ended bad.lines) bad.line);
      begins = h.counted;
    }

pub stops-long : (stream : List ℕ) (messages : List Message) (rest : List ℕ) (seen begins at : ℕ) → Within stream messages rest seen begins
    → IsOpen (take at rest) → 65536 ≤ length (take at rest) → IsTooLong stream begins
stops-long stream messages rest seen begins at h opens long = record {
  front = h.front;
  messages = messages;
  text = take at rest;
  behind = drop at rest;
  split = h.split ∙ ap (λ t. h.front ++ t) (sym (take-append-drop at rest));
  before = h.before;
  goes_on = opens;
  long = long;
  begins = h.counted;
}

-- ---- a text and the stream

pub comes-whole : (stream : List ℕ) (messages : List Message) (rest : List ℕ) (seen begins : ℕ) → Within stream messages rest seen begins → is_line (drop seen rest) ≡ true
    → length rest < 65536 → Reads stream messages (unended begins rest)
comes-whole stream messages rest seen begins h plain short = record {
  front = h.front;
  split = h.split;
  before = h.before;
  goes_on = all_open rest seen h.goes_on plain;
  short = short;
  begins = h.counted;
}

pub takes-piece : (stream piece : List ℕ) (messages : List Message) (r : Unended) → Reads stream messages r → Within (stream ++ piece) messages (r.bytes ++ piece) (length r.bytes) r.begins
takes-piece stream piece messages r h = record {
  front = h.front;
  split = ap (λ t. t ++ piece) h.split ∙ append_assoc h.front r.bytes piece;
  before = h.before;
  inside = omega (arith, length-append r.bytes piece);
  goes_on = subst IsOpen (sym (take_at r.bytes piece (length r.bytes) refl)) h.goes_on;
  counted = h.begins;
}

-- ---- for a step in code

-- the line that has ended of the rest of a text
pub record IsNextLine (text : List ℕ) (start seen at : ℕ) (rest line : List ℕ) : Type 0 where
  pub left : rest ≡ drop start text
  pub front : line ≡ take at rest
  pub next : IsNextFeed rest seen at

next-of : (text rest line : List ℕ) (start seen at : ℕ) → IsNextLine text start seen at rest line → IsNextFeed (drop start text) seen at
next-of text rest line start seen at h = subst (λ r. IsNextFeed r seen at) h.left h.next

line-of : (text rest line : List ℕ) (start seen at : ℕ) → IsNextLine text start seen at rest line → line ≡ take at (drop start text)
line-of text rest line start seen at h = h.front ∙ ap (take at) h.left

open-of : (text rest line : List ℕ) (start seen at : ℕ) → IsNextLine text start seen at rest line → seen ≤ length (drop start text) → IsOpen (take seen (drop start text)) → IsOpen line
open-of text rest line start seen at h inside goes_on =
    subst IsOpen (sym (line-of text rest line start seen at h)) (next_open (drop start text) seen at inside (next-of text rest line start seen at h) goes_on)

pub line_inside : (text rest line : List ℕ) (start seen at : ℕ) → start + seen ≤ length text → rest ≡ drop start text → IsNextFeed rest seen at → (seen ≤ at) × (at < length rest) × (start + at + 1 ≤ length text)
line_inside text rest line start seen at inside left next =
    let within = next_inside rest seen at (omega (arith, inside, ap length left, length-drop start text)) next in
    (within.0, within.1, omega (arith, inside, within.1, ap length left, length-drop start text))

pub told_on : (stream : List ℕ) (messages : List Message) (text rest line : List ℕ) (start seen begins at : ℕ) → IsNextLine text start seen at rest line
    → Within stream messages (drop start text) seen begins → (IsOpen line → IsOpen (line ++ 10 ∷ [])) → Within stream messages (drop start text) (at + 1) begins
told_on stream messages text rest line start seen begins at h within told =
    goes-on stream messages (drop start text) seen begins at within (next-of text rest line start seen at h)
    (subst (λ t. IsOpen (t ++ 10 ∷ [])) (line-of text rest line start seen at h) (told (open-of text rest line start seen at h within.inside within.goes_on)))

pub told_behind : (stream : List ℕ) (before old new after : List Message) (text rest line : List ℕ) (start seen begins at start' seen' begins' : ℕ) → IsNextLine text start seen at rest line
    → Within stream (before ++ old) (drop start text) seen begins → (IsOpen line → AreMessages (line ++ 10 ∷ []) new)
    → after ≡ old ++ new → start' ≡ start + at + 1 → seen' ≡ 0 → begins' ≡ place (begins + (at + 1))
    → Within stream (before ++ after) (drop start' text) seen' begins'
told_behind stream before old new after text rest line start seen begins at start' seen' begins' h within told more starts none counted =
    let are = subst (λ t. AreMessages (t ++ 10 ∷ []) new) (line-of text rest line start seen at h) (told (open-of text rest line start seen at h within.inside within.goes_on)) in
    let behind = goes-behind stream (before ++ old) (drop start text) seen begins at new within (next-of text rest line start seen at h) are in
    let messages : (before ++ old) ++ new ≡ before ++ after = append_assoc before old new ∙ ap (λ (ms : List Message). before ++ ms) (sym more) in
    let left : drop 1 (drop at (drop start text)) ≡ drop start' text = drop-drop 1 at (drop start text) ∙ drop-drop (at + 1) start text ∙ ap (λ n. drop n text) (omega (arith, starts)) in
    subst (λ ms. Within stream ms (drop start' text) seen' begins') messages
    (subst (λ t. Within stream ((before ++ old) ++ new) t seen' begins') left
    (subst (λ n. Within stream ((before ++ old) ++ new) (drop 1 (drop at (drop start text))) n begins') (sym none)
    (subst (λ n. Within stream ((before ++ old) ++ new) (drop 1 (drop at (drop start text))) 0 n) (sym counted) behind)))

refused_line : (stream : List ℕ) (messages : List Message) (rest : List ℕ) (seen begins at : ℕ) (fault : MessageError) → Within stream messages rest seen begins → IsNextFeed rest seen at
    → IsReadOf (take at rest) begins (Err fault) → Refuses stream fault
refused_line stream messages rest seen begins at (BadMessage place) h next (here, bad) = inr (subst (IsBad stream) (sym here) (stops-badly stream messages rest seen begins at h next bad))
refused_line stream messages rest seen begins at (TooLong place) h next (here, long) =
    inr (subst (IsTooLong stream) (sym here) (stops-long stream messages rest seen begins at h (next_open rest seen at h.inside next h.goes_on) long))
refused_line stream messages rest seen begins at NoMemory h next told = inl refl

pub told_err : (stream : List ℕ) (messages : List Message) (text rest line : List ℕ) (start seen begins at : ℕ) (fault : MessageError) → IsNextLine text start seen at rest line
    → Within stream messages (drop start text) seen begins → (IsOpen line → IsReadOf line begins (Err fault)) → Refuses stream fault
told_err stream messages text rest line start seen begins at fault h within told =
    refused_line stream messages (drop start text) seen begins at fault within (next-of text rest line start seen at h)
    (subst (λ t. IsReadOf t begins (Err fault)) (line-of text rest line start seen at h) (told (open-of text rest line start seen at h within.inside within.goes_on)))

-- ---- by what a line told

pub tell_on : (line : List ℕ) (begins : ℕ) (told : Told) → told ≡ GoesOn → (IsOpen line → IsReadOf line begins (Ok told)) → IsOpen line → IsOpen (line ++ 10 ∷ [])
tell_on line begins told is tells opens = subst (λ t. IsReadOf line begins (Ok t)) is (tells opens)

pub tell_passed : (line : List ℕ) (begins : ℕ) (told : Told) → told ≡ Passed → (IsOpen line → IsReadOf line begins (Ok told)) → IsOpen line → AreMessages (line ++ 10 ∷ []) []
tell_passed line begins told is tells opens = are-feed line (subst (λ t. IsReadOf line begins (Ok t)) is (tells opens))

pub tell_ends : (line : List ℕ) (begins : ℕ) (told : Told) (message : Message) → told ≡ Ends message → (IsOpen line → IsReadOf line begins (Ok told)) → IsOpen line → AreMessages (line ++ 10 ∷ []) (message ∷ [])
tell_ends line begins told message is tells opens = are-one (line ++ 10 ∷ []) message (subst (λ t. IsReadOf line begins (Ok t)) is (tells opens))

-- ---- where the text ends

told_long : (stream : List ℕ) (messages : List Message) (rest : List ℕ) (seen begins : ℕ) → Within stream messages rest seen begins → is_line (drop seen rest) ≡ true
    → 65536 ≤ length rest → Refuses stream (TooLong begins)
told_long stream messages rest seen begins h plain long =
    let all = take_all (length rest) rest (omega arith) in
    inr (stops-long stream messages rest seen begins (length rest) h (subst IsOpen (sym all) (all_open rest seen h.goes_on plain)) (omega (arith, long, ap length all)))

steps_false : (stream : List ℕ) (messages : List Message) (rest : List ℕ) (seen begins : ℕ) (went : Bool) → went ≡ false → Steps stream messages rest seen begins (Ok went)
    → Within stream messages rest seen begins × (is_line (drop seen rest) ≡ true)
steps_false stream messages rest seen begins went is told = subst (λ w. Steps stream messages rest seen begins (Ok w)) is told

pub steps_true : (stream : List ℕ) (messages : List Message) (rest : List ℕ) (seen begins : ℕ) (went : Bool) → went ≡ true → Steps stream messages rest seen begins (Ok went)
    → Within stream messages rest seen begins
steps_true stream messages rest seen begins went is told = subst (λ w. Steps stream messages rest seen begins (Ok w)) is told

pub ends_whole : (stream : List ℕ) (messages : List Message) (text : List ℕ) (start seen begins : ℕ) (went : Bool) → went ≡ false → Steps stream messages (drop start text) seen begins (Ok went)
    → length text - start < 65536 → Reads stream messages (unended begins (drop start text))
ends_whole stream messages text start seen begins went is told short =
    let (within, plain) = steps_false stream messages (drop start text) seen begins went is told in
    comes-whole stream messages (drop start text) seen begins within plain (omega (arith, length-drop start text))

pub ends_long : (stream : List ℕ) (messages : List Message) (text : List ℕ) (start seen begins : ℕ) (went : Bool) → went ≡ false → Steps stream messages (drop start text) seen begins (Ok went)
    → 65536 ≤ length text - start → Refuses stream (TooLong begins)
ends_long stream messages text start seen begins went is told long =
    let (within, plain) = steps_false stream messages (drop start text) seen begins went is told in
    told_long stream messages (drop start text) seen begins within plain (omega (arith, length-drop start text))

pub piece_within : (stream piece : List ℕ) (messages : List Message) (r : Unended) (begins : ℕ) (held text : List ℕ) (seen : ℕ) → unended begins held ≡ r → text ≡ held ++ piece → seen ≡ length held
    → Reads stream messages r → Within (stream ++ piece) messages text seen begins
piece_within stream piece messages r begins held text seen view more all h =
    let whole = takes-piece stream piece messages (unended begins held) (subst (λ (u : Unended). Reads stream messages u) (sym view) h) in
    subst (λ (t : List ℕ). Within (stream ++ piece) messages t seen begins) (sym more) (subst (λ n. Within (stream ++ piece) messages (held ++ piece) n begins) (sym all) whole)
