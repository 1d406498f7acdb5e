-- Texts behind which a message can go on.
use Rattle.std.proofs.Common.{◌≡◌, ℕ, ◌<◌, ◌≤◌, true, false, List, [], ◌∷◌, ◌++◌, length, take, drop, Result, Ok, Err, refl, sym, ap, subst, ◌∙◌, append_assoc, append-nil, arith}
use Rattle.std.specs.Prelude.{◌==◌}
use Rattle.std.specs.List.{list_all}
use Rattle.std.proofs.lemmas.List.{length-append, length-drop, take-append-drop, take_at, drop_at, length-take-le}
use Rattle.method_messages.specs.declared.message.Message.{Message}
use Rattle.method_messages.specs.declared.error.MessageError.{MessageError}
use Rattle.method_messages.specs.declared.error.MessageError.TheVariants.{BadMessage, TooLong, NoMemory}
use Rattle.method_messages.specs.declared.step.Told.{Told}
use Rattle.method_messages.specs.declared.step.Told.TheVariants.{Passed, GoesOn, Ends}
use Rattle.method_messages.specs.Lines.{is_line, ended, message_in, can_begin, may_follow}
use Rattle.method_messages.specs.Streams.{IsMessage, IsOpen}
use Rattle.method_messages.specs.Within.{IsNextFeed, IsReadOf, TellsLine}
use Rattle.method_messages.proofs.Ended.{all-append, line-append, ended-push, begun-push, some-rest, none-rest}

pub open_none : IsOpen []
open_none = record { lines = []; line = []; split = refl; plain = refl; sound = refl; own = refl }

-- more bytes of the last line
pub open_more : (text more : List ℕ) → IsOpen text → is_line more ≡ true → IsOpen (text ++ more)
open_more text more h plain = record {
  lines = h.lines;
  line = h.line ++ more;
  split = ap (λ t. t ++ more) h.split ∙ append_assoc (ended h.lines) h.line more;
  plain = h.plain;
  sound = h.sound;
  own = line-append h.line more h.own plain;
}

-- the last line ends
pub open_feed : (text : List ℕ) (h : IsOpen text) → may_follow h.lines h.line ≡ true → IsOpen (text ++ 10 ∷ [])
open_feed text h follows = record {
  lines = h.lines ++ h.line ∷ [];
  line = [];
  split = ap (λ t. t ++ 10 ∷ []) h.split ∙ sym (ended-push h.lines h.line) ∙ sym (append-nil (ended (h.lines ++ h.line ∷ [])));
  plain = all-append is_line h.lines (h.line ∷ []) h.plain (rw h.own refl);
  sound = begun-push h.lines h.line h.sound follows;
  own = refl;
}

-- ---- what the end of its last line tells

pub tells_on : (text lines line : List ℕ) (begins : ℕ) (result : Result Told MessageError) (h : IsOpen text) → lines ≡ ended h.lines → line ≡ h.line
    → length text < 65536 → (length line == 0) ≡ false → ((before : List (List ℕ)) → lines ≡ ended before → TellsLine before line begins result) → IsReadOf text begins result
tells_on text lines line begins (Ok Passed) h above last short some told = absurd (told h.lines above)
tells_on text lines line begins (Ok GoesOn) h above last short some told = open_feed text h (ap (may_follow h.lines) (sym last) ∙ told h.lines above)
tells_on text lines line begins (Ok (Ends message)) h above last short some told = absurd (told h.lines above)
tells_on text lines line begins (Err (BadMessage at)) h above last short some told =
    let (here, refused) = told h.lines above in (
      here,
      record {
        lines = h.lines;
        line = h.line;
        split = h.split;
        plain = h.plain;
        sound = h.sound;
        own = h.own;
        some = subst (λ (l : List ℕ). 0 < length l) last (some-rest line some);
        refused = ap (may_follow h.lines) (sym last) ∙ refused;
        short = short;
      },
    )
tells_on text lines line begins (Err (TooLong at)) h above last short some told = absurd (told h.lines above)
tells_on text lines line begins (Err NoMemory) h above last short some told = absurd (told h.lines above)

-- a whole message, which these lines say
whole : (text : List ℕ) (lines : List (List ℕ)) (message : Message) → text ≡ ended lines → list_all is_line lines ≡ true → can_begin lines ≡ true
    → 0 < length (ended lines) → length text < 65536
    → ((first : List ℕ) (fields : List (List ℕ)) → ended lines ≡ ended (first ∷ fields) → list_all is_line (first ∷ fields) ≡ true → message ≡ message_in first fields)
    → IsMessage (text ++ 10 ∷ []) message
whole text [] message e plain sound some short says = absurd (omega arith)
whole text (first ∷ fields) message e plain sound some short says = record {
  first = first;
  fields = fields;
  split = ap (λ t. t ++ 10 ∷ []) e;
  plain = plain;
  sound = sound;
  says = says first fields refl plain;
  short = omega (arith, length-append text (10 ∷ []));
}

pub tells_end : (text lines line : List ℕ) (message : Message) (h : IsOpen text) → lines ≡ ended h.lines → line ≡ h.line
    → length text < 65536 → (length line == 0) ≡ true → (length lines == 0) ≡ false
    → ((first : List ℕ) (fields : List (List ℕ)) → lines ≡ ended (first ∷ fields) → list_all is_line (first ∷ fields) ≡ true → message ≡ message_in first fields)
    → IsMessage (text ++ 10 ∷ []) message
tells_end text lines line message h above last short none some says =
    let empty : h.line ≡ [] = sym last ∙ none-rest line none in
    whole text h.lines message (h.split ∙ ap (λ t. ended h.lines ++ t) empty ∙ append-nil (ended h.lines)) h.plain h.sound
    (subst (λ (l : List ℕ). 0 < length l) above (some-rest lines some)) short (λ first fields e plain. says first fields (above ∙ e) plain)

-- ---- the next line of a text

-- up to its line feed, which the next bytes of the text are
pub next_front : (rest : List ℕ) (seen at : ℕ) → seen ≤ length rest → (h : IsNextFeed rest seen at) → take at rest ≡ take seen rest ++ h.more
next_front rest seen at inside h =
    let whole : rest ≡ (take seen rest ++ h.more) ++ 10 ∷ h.behind = sym (take-append-drop seen rest) ∙ ap (λ t. take seen rest ++ t) h.split ∙ sym (append_assoc (take seen rest) h.more (10 ∷ h.behind)) in
    ap (take at) whole ∙ take_at (take seen rest ++ h.more) (10 ∷ h.behind) at (omega (arith, h.place, length-append (take seen rest) h.more, length-take-le seen rest inside))

pub next_split : (rest : List ℕ) (seen at : ℕ) → seen ≤ length rest → IsNextFeed rest seen at → rest ≡ (take at rest ++ 10 ∷ []) ++ drop 1 (drop at rest)
next_split rest seen at inside h =
    let front = next_front rest seen at inside h in
    let whole : rest ≡ take at rest ++ 10 ∷ h.behind =
    sym (take-append-drop seen rest) ∙ ap (λ t. take seen rest ++ t) h.split ∙ sym (append_assoc (take seen rest) h.more (10 ∷ h.behind)) ∙ ap (λ t. t ++ 10 ∷ h.behind) (sym front) in
    let long : length (take at rest) ≡ at = ap length front ∙ omega (arith, h.place, length-append (take seen rest) h.more, length-take-le seen rest inside) in
    let behind : drop at rest ≡ 10 ∷ h.behind = ap (drop at) whole ∙ drop_at (take at rest) (10 ∷ h.behind) at long in
    whole ∙ sym (append_assoc (take at rest) (10 ∷ []) h.behind) ∙ ap (λ t. (take at rest ++ 10 ∷ []) ++ drop 1 t) (sym behind)

pub next_inside : (rest : List ℕ) (seen at : ℕ) → seen ≤ length rest → IsNextFeed rest seen at → (seen ≤ at) × (at < length rest)
next_inside rest seen at inside h =
    let long = ap length h.split in
    (omega (arith, h.place), omega (arith, h.place, long, length-append h.more (10 ∷ h.behind), length-drop seen rest))

pub next_open : (rest : List ℕ) (seen at : ℕ) → seen ≤ length rest → IsNextFeed rest seen at → IsOpen (take seen rest) → IsOpen (take at rest)
next_open rest seen at inside h goes_on = subst IsOpen (sym (next_front rest seen at inside h)) (open_more (take seen rest) h.more goes_on h.own)

-- what has been seen and no line feed is open
pub all_open : (rest : List ℕ) (seen : ℕ) → IsOpen (take seen rest) → is_line (drop seen rest) ≡ true → IsOpen rest
all_open rest seen goes_on plain = subst IsOpen (take-append-drop seen rest) (open_more (take seen rest) (drop seen rest) goes_on plain)
