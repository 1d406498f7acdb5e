-- A message that is written is read again.
use Rattle.std.proofs.Common.{◌≡◌, ℕ, ◌+◌, ◌*◌, ◌-◌, ◌/◌, ◌%◌, ◌^◌, ◌<◌, ◌≤◌, min, true, false, not, List, [], ◌∷◌, ◌++◌, length, map, refl, sym, ap, subst, ◌∙◌, append_assoc, arith, nat_le}
use Rattle.std.specs.Prelude.{◌&&◌}
use Rattle.std.specs.List.{list_any, list_all, flat_map}
use Rattle.std.specs.Char.{is_ascii_digit}
use Rattle.std.proofs.lemmas.Bool.{and_parts, not-true}
use Rattle.std.proofs.Math.Bool.{or-true}
use Rattle.std.proofs.lemmas.Bool.Decides.{nat_tests}
use Rattle.std.proofs.lemmas.List.{length-append}
use Rattle.acq_base.specs.Words.{is_blank, trimmed_start}
use Rattle.method_messages.specs.declared.message.Message.{Message}
use Rattle.method_messages.specs.declared.error.MessageError.{MessageError}
use Rattle.method_messages.specs.declared.error.MessageError.TheVariants.{BadMessage, TooLong, NoMemory}
use Rattle.method_messages.specs.Lines.{is_feed, is_line, ended, is_first, number_in, is_colon, begins_with, is_name, is_name_character, may_begin_name, is_field, field_in}
use Rattle.method_messages.specs.Written.{three_digits, field_text, written, is_valid, is_valid_field, is_valid_number, is_valid_text}
use Rattle.method_messages.specs.Streams.{IsMessage, place}
use Rattle.method_messages.specs.Refused.{IsRefused}
use Rattle.method_messages.specs.Again.{ReadsAgain, fault_behind}
use Rattle.method_messages.proofs.Cuts.{front_of, behind_of}
use Rattle.method_messages.proofs.Ended.{line-append}

-- ---- its first line

abbrev pub first_of : Message → List ℕ
first_of message = three_digits message.number ++ 32 ∷ message.text

digits-back : (n : ℕ) → n < 1000 → 100 * (48 + n / 100 - 48) + 10 * (48 + n / 10 % 10 - 48) + (48 + n % 10 - 48) ≡ n
digits-back n small = omega arith

digit-is : (d : ℕ) → d < 10 → is_ascii_digit (48 + d) ≡ true
digit-is d small = grind (arith, nat_tests)

digit-plain : (d : ℕ) → d < 10 → is_feed (48 + d) ≡ false
digit-plain d small = grind (arith, nat_tests)

first-sound : (n : ℕ) (text : List ℕ) → n < 1000 → 0 < length text → is_first (three_digits n ++ 32 ∷ text) ≡ true
first-sound n [] small some = absurd (omega arith)
first-sound n (c ∷ text) small some = rw (digit-is (n / 100) (omega arith), digit-is (n / 10 % 10) (omega arith), digit-is (n % 10) (omega arith)) refl

first-plain : (n : ℕ) (text : List ℕ) → n < 1000 → is_line text ≡ true → is_line (three_digits n ++ 32 ∷ text) ≡ true
first-plain n text small plain =
    let own : is_line (three_digits n ++ 32 ∷ []) ≡ true = rw (digit-plain (n / 100) (omega arith), digit-plain (n / 10 % 10) (omega arith), digit-plain (n % 10) (omega arith)) refl in
    line-append (three_digits n ++ 32 ∷ []) text own plain

first-number : (n : ℕ) (text : List ℕ) → n < 1000 → number_in (three_digits n ++ 32 ∷ text) ≡ n
first-number n text small = digits-back n small

-- ---- a field

abbrev pub field_line : List ℕ × List ℕ → List ℕ
field_line field = field.0 ++ 58 ∷ 32 ∷ field.1

name-plain : (name : List ℕ) → list_all is_name_character name ≡ true → (list_any is_colon name ≡ false) × (is_line name ≡ true)
name-plain [] sound = (refl, refl)
name-plain (c ∷ name) sound =
    let parts = and_parts (is_name_character c) (list_all is_name_character name) sound in
    let rest = name-plain name parts.1 in
    let colon : is_colon c ≡ false = character-colon c parts.0 in
    let feed : is_feed c ≡ false = character-feed c parts.0 in
    (rw colon rest.0, ap not (any-cons c name feed (not-true (list_any is_feed name) rest.1)))
  where
    character-colon : (c : ℕ) → is_name_character c ≡ true → is_colon c ≡ false
    character-colon c h = grind (arith, nat_tests)

    character-feed : (c : ℕ) → is_name_character c ≡ true → is_feed c ≡ false
    character-feed c h = grind (arith, nat_tests)

    any-cons : (c : ℕ) (name : List ℕ) → is_feed c ≡ false → list_any is_feed name ≡ false → list_any is_feed (c ∷ name) ≡ false
    any-cons c name first rest = rw first rest

name-characters : (name : List ℕ) → is_name name ≡ true → list_all is_name_character name ≡ true
name-characters name sound = (and_parts (begins_with may_begin_name name) (list_all is_name_character name) sound).1

value-kept : (value : List ℕ) → begins_with is_blank value ≡ false → trimmed_start value ≡ value
value-kept [] plain = refl
value-kept (c ∷ value) plain = rw plain refl

-- what holds of a field that can be written
pub record IsKept (field : List ℕ × List ℕ) : Type 0 where
  pub plain : is_line (field_line field) ≡ true
  pub sound : is_field (field_line field) ≡ true
  pub same : field_in (field_line field) ≡ field

field-kept : (field : List ℕ × List ℕ) → is_valid_field field ≡ true → IsKept field
field-kept (name, value) valid =
    let parts = and_parts (is_name name) (is_line value && not (begins_with is_blank value)) valid in
    let rest = and_parts (is_line value) (not (begins_with is_blank value)) parts.1 in
    let own = name-plain name (name-characters name parts.0) in
    let front = front_of 58 name (32 ∷ value) own.0 in
    let behind = behind_of 58 name (32 ∷ value) own.0 in
    record {
      plain = line-append name (58 ∷ 32 ∷ value) own.1 rest.0;
      sound = rw (any-colon name (32 ∷ value), front, parts.0) refl;
      same = (λ i. (front i, (ap trimmed_start behind ∙ value-kept value (not-true (begins_with is_blank value) rest.1)) i));
    }
  where
    any-colon : (name more : List ℕ) → list_any is_colon (name ++ 58 ∷ more) ≡ true
    any-colon [] more = refl
    any-colon (c ∷ name) more = rw (any-colon name more) (or-true (is_colon c))

-- ---- all of it

fields-ended : (fields : List (List ℕ × List ℕ)) → ended (map field_line fields) ≡ flat_map field_text fields
fields-ended [] = refl
fields-ended (field ∷ fields) =
    ap (λ t. t ++ ended (map field_line fields)) (append_assoc field.0 (58 ∷ 32 ∷ field.1) (10 ∷ [])) ∙ ap (λ t. field_text field ++ t) (fields-ended fields)

-- what holds of fields that can be written
pub record AreKept (fields : List (List ℕ × List ℕ)) : Type 0 where
  pub plain : list_all is_line (map field_line fields) ≡ true
  pub sound : list_all is_field (map field_line fields) ≡ true
  pub same : map field_in (map field_line fields) ≡ fields

fields-kept : (fields : List (List ℕ × List ℕ)) → list_all is_valid_field fields ≡ true → AreKept fields
fields-kept [] valid = record { plain = refl; sound = refl; same = refl }
fields-kept (field ∷ fields) valid =
    let parts = and_parts (is_valid_field field) (list_all is_valid_field fields) valid in
    let own = field-kept field parts.0 in
    let rest = fields-kept fields parts.1 in
    record {
      plain = rw (own.plain) rest.plain;
      sound = rw (own.sound) rest.sound;
      same = λ i. own.same i ∷ rest.same i;
    }

-- what holds of a message that can be written
pub record CanBeWritten (message : Message) : Type 0 where
  pub number : message.number < 1000
  pub text : 0 < length message.text
  pub plain : is_line message.text ≡ true
  pub fields : list_all is_valid_field message.fields ≡ true
  pub short : length (written message) ≤ 65536

pub can_be_written : (message : Message) → is_valid message ≡ true → CanBeWritten message
unfolding is_valid
can_be_written message valid =
    let first = and_parts (is_valid_number message.number) _ valid in
    let second = and_parts (is_valid_text message.text) _ first.1 in
    let third = and_parts (list_all is_valid_field message.fields) _ second.1 in
    let numbers = and_parts (nat_le 100 message.number) _ first.0 in
    let texts = and_parts (nat_le 1 (length message.text)) _ second.0 in
    record {
      number = small message.number numbers.1;
      text = some (length message.text) texts.0;
      plain = texts.1;
      fields = third.0;
      short = room (length (written message)) third.1;
    }
  where
    small : (n : ℕ) → nat_le n 999 ≡ true → n < 1000
    small n h = grind (arith, nat_tests)

    some : (n : ℕ) → nat_le 1 n ≡ true → 0 < n
    some n h = grind (arith, nat_tests)

    room : (n : ℕ) → nat_le n 65536 ≡ true → n ≤ 65536
    room n h = grind (arith, nat_tests)

written-behind : (text fields own : List ℕ) → own ≡ fields → text ++ 10 ∷ (fields ++ 10 ∷ []) ≡ ((text ++ 10 ∷ []) ++ own) ++ 10 ∷ []
written-behind text fields own e =
    sym (ap (λ t. ((text ++ 10 ∷ []) ++ t) ++ 10 ∷ []) e ∙ ap (λ t. t ++ 10 ∷ []) (append_assoc text (10 ∷ []) fields) ∙ append_assoc text (10 ∷ fields) (10 ∷ []))

written-split : (message : Message) → written message ≡ ended (first_of message ∷ map field_line message.fields) ++ 10 ∷ []
unfolding written
written-split message =
    ap (λ t. three_digits message.number ++ 32 ∷ t) (written-behind message.text (flat_map field_text message.fields) (ended (map field_line message.fields)) (fields-ended message.fields))

pub written_message : (message : Message) → is_valid message ≡ true → IsMessage (written message) message
written_message message valid =
    let can = can_be_written message valid in
    let fields = fields-kept message.fields can.fields in
    let number = first-number message.number message.text can.number in
    record {
      first = first_of message;
      fields = map field_line message.fields;
      split = written-split message;
      plain = rw (first-plain message.number message.text can.number can.plain) fields.plain;
      sound = rw (first-sound message.number message.text can.number can.text) fields.sound;
      says = λ i. record { number = (sym number) i; text = message.text; fields = (sym fields.same) i };
      short = can.short;
    }

-- ---- in front of a stream

min-behind : (n k limit : ℕ) → min (n + min k limit) limit ≡ min (n + k) limit
min-behind n k limit = omega arith

-- a place in what follows, from the front on
place-behind : (n k : ℕ) → place (n + place k) ≡ place (n + k)
place-behind n k = min-behind n k (2 ^ 64 - 1)

begins-behind : (bytes front : List ℕ) (at : ℕ) → at ≡ place (length front) → place (length bytes + at) ≡ place (length (bytes ++ front))
begins-behind bytes front at e = ap (λ n. place (length bytes + n)) e ∙ place-behind (length bytes) (length front) ∙ ap place (sym (length-append bytes front))

in-front : (bytes more front rest : List ℕ) → more ≡ front ++ rest → bytes ++ more ≡ (bytes ++ front) ++ rest
in-front bytes more front rest e = ap (λ t. bytes ++ t) e ∙ sym (append_assoc bytes front rest)

refused-again : (bytes : List ℕ) (message : Message) → IsMessage bytes message → (more : List ℕ) (fault : MessageError) → IsRefused more fault → IsRefused (bytes ++ more) (fault_behind (length bytes) fault)
refused-again bytes message h more (BadMessage at) bad = record {
  front = bytes ++ bad.front;
  messages = message ∷ bad.messages;
  lines = bad.lines;
  line = bad.line;
  behind = bad.behind;
  split = in-front bytes more bad.front (ended bad.lines ++ (bad.line ++ 10 ∷ bad.behind)) bad.split;
  before = ([], bytes, bad.front, refl, refl, h, bad.before);
  plain = bad.plain;
  sound = bad.sound;
  own = bad.own;
  some = bad.some;
  refused = bad.refused;
  short = bad.short;
  begins = begins-behind bytes bad.front at bad.begins;
}
refused-again bytes message h more (TooLong at) long = record {
  front = bytes ++ long.front;
  messages = message ∷ long.messages;
  text = long.text;
  behind = long.behind;
  split = in-front bytes more long.front (long.text ++ long.behind) long.split;
  before = ([], bytes, long.front, refl, refl, h, long.before);
  goes_on = long.goes_on;
  long = long.long;
  begins = begins-behind bytes long.front at long.begins;
}
refused-again bytes message h more NoMemory none = absurd none

reads-again : (bytes : List ℕ) (message : Message) → IsMessage bytes message → ReadsAgain bytes message
reads-again bytes message h = record {
  read = λ more later rest reads. record {
    front = bytes ++ reads.front;
    split = in-front bytes more reads.front rest.bytes reads.split;
    before = ([], bytes, reads.front, refl, refl, h, reads.before);
    goes_on = reads.goes_on;
    short = reads.short;
    begins = begins-behind bytes reads.front rest.begins reads.begins;
  };
  refused = λ more fault refused. refused-again bytes message h more fault refused;
}

-- what is written of a message that can be written is read as it
pub read_again : (bytes : List ℕ) (message : Message) → is_valid message ≡ true → bytes ≡ written message → ReadsAgain bytes message
read_again bytes message valid is =
    subst (λ b. ReadsAgain b message) (sym is) (reads-again (written message) message (written_message message valid))

pub number_small : (message : Message) → is_valid message ≡ true → message.number < 1000
number_small message valid = (can_be_written message valid).number
