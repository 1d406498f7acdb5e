-- Messages answered, one after another.
use Rattle.std.proofs.Common.{◌≡◌, inl, refl, sym, ap, subst, ◌∙◌, ℕ, ◌+◌, ◌≤◌, Bool, true, false, List, [], ◌∷◌, ◌++◌, length, take, take-add, append_assoc, append-nil, Option, Some, None, option_map, Result, Ok, Err, OnOk, OnErr, arith}
use Rattle.std.proofs.lemmas.List.{take_at, drop_at, take_all}
use Rattle.acq_base.specs.Mirror.{MirrorMap}
use Rattle.acq_outside.specs.Disk.{Files}
use Rattle.acq_outside.specs.Sink.{Wrote, WrotePart}
use Rattle.method_messages.specs.declared.message.Message.{Message}
use Rattle.method_server.specs.Asked.{is_request, wish_of}
use Rattle.method_server.specs.Turns.{Moment, ChangesOnly, IsAnswered, IsTurn, Answers, BeginsAtMostOne, Touches, TouchesFor, asked}
use Rattle.method_server.specs.Taking.{Answered, AnswersFront, AnswersOrHalts, Halts}
use Rattle.method_server.specs.declared.end.Stop.{Stop}
use Rattle.method_server.specs.declared.wish.Wish.{Wish}

-- ---- what is written

pub wrote_none : (before : Option (List ℕ)) → Wrote before [] before
wrote_none None = refl
wrote_none (Some written) = ap (λ (t : List ℕ). Some t) (sym (append-nil written))

pub wrote_more : (a b c : Option (List ℕ)) (text more : List ℕ) → Wrote a text b → Wrote b more c → Wrote a (text ++ more) c
wrote_more None b c text more first later = later ∙ ap (option_map (λ written. written ++ more)) first
wrote_more (Some written) b c text more first later = later ∙ ap (option_map (λ w. w ++ more)) first ∙ ap (λ (t : List ℕ). Some t) (append_assoc written text more)

take_behind : (text more : List ℕ) (n : ℕ) → take (length text + n) (text ++ more) ≡ text ++ take n more
take_behind text more n = take-add (length text) n (text ++ more) ∙ (λ i. (take_at text more (length text) refl) i ++ take n ((drop_at text more (length text) refl) i))

pub part_none : (before : Option (List ℕ)) (text : List ℕ) → WrotePart before text before
part_none before text = (0, wrote_none before)

pub part_all : (before after : Option (List ℕ)) (text : List ℕ) → Wrote before text after → WrotePart before text after
part_all before after text wrote = (length text, wrote ∙ ap (λ (t : List ℕ). option_map (λ w. w ++ t) before) (sym (take_all (length text) text (omega arith))))

pub part_more : (a b c : Option (List ℕ)) (text more : List ℕ) → Wrote a text b → WrotePart b more c → WrotePart a (text ++ more) c
part_more a b c text more first (n, later) =
    (length text + n, wrote_more a b c text (take n more) first later ∙ ap (λ (t : List ℕ). option_map (λ w. w ++ t) a) (sym (take_behind text more n)))

-- ---- files

pub changes_none : (http : Bool) (name : List ℕ) (files : Option Files) → ChangesOnly http name files files
changes_none false name files = refl
changes_none true name None = refl
changes_none true name (Some all) = λ other apart. refl

touches_none : (http : Bool) (messages : List Message) (moment : Moment) → Touches http messages moment moment
touches_none http [] moment = refl
touches_none http (message ∷ messages) moment = (omega arith, inl refl, for_wish (asked http message))
  where
    for_wish : (wish : Option Wish) → TouchesFor http wish moment.files moment.files
    for_wish None = refl
    for_wish (Some wish) = changes_none http wish.name moment.files

-- further messages that are not begun
pub touches_more : (http : Bool) (messages more : List Message) (old new : Moment) → Touches http messages old new → Touches http (messages ++ more) old new
touches_more http [] more old new same = subst (λ (m : Moment). Touches http more old m) (sym same) (touches_none http more old)
touches_more http (message ∷ messages) more old new touches = touches

pub touches_count : (http : Bool) (messages : List Message) (old new : Moment) → Touches http messages old new → old.count ≤ new.count
touches_count http [] old new same = omega (arith, ap (λ (m : Moment). m.count) same)
touches_count http (message ∷ messages) old new touches = touches.0

-- ---- messages

pub answers_append : (world : Option MirrorMap) (http : Bool) (old mid new : Moment) (ms ns : List Message) (text more : List ℕ) → Answers world http old ms text mid → Answers world http mid ns more new
    → Answers world http old (ms ++ ns) (text ++ more) new
answers_append world http old mid new [] ns text more (none, same) later =
    subst (λ (t : List ℕ). Answers world http old ns (t ++ more) new) (sym none) (subst (λ (m : Moment). Answers world http m ns more new) same later)
answers_append world http old mid new (m ∷ ms) ns text more (at, first, rest, turn, are, split) later =
    (at, first, rest ++ more, turn, answers_append world http at mid new ms ns rest more are later, ap (λ (t : List ℕ). t ++ more) split ∙ append_assoc first rest more)

pub answered_none : (world : Option MirrorMap) (http : Bool) (moment : Moment) (written : Option (List ℕ)) → Answered world http [] moment moment written written
answered_none world http moment written = record { text = []; are = (refl, refl); wrote = wrote_none written }

pub answered_append : (world : Option MirrorMap) (http : Bool) (ms ns : List Message) (old mid new : Moment) (a b c : Option (List ℕ)) → Answered world http ms old mid a b → Answered world http ns mid new b c
    → Answered world http (ms ++ ns) old new a c
answered_append world http ms ns old mid new a b c first later = record {
  text = first.text ++ later.text;
  are = answers_append world http old mid new ms ns first.text later.text first.are later.are;
  wrote = wrote_more a b c first.text later.text first.wrote later.wrote;
}

-- where answering stops behind answered messages, with more behind
pub halts_within : (world : Option MirrorMap) (http : Bool) (ms ns more all : List Message) (old mid new : Moment) (a b c : Option (List ℕ)) → all ≡ ms ++ (ns ++ more)
    → Answered world http ms old mid a b → Halts world http ns mid new b c → Halts world http all old new a c
halts_within world http ms ns more all old mid new a b c split first halts = record {
  handled = ms ++ halts.handled;
  later = halts.later ++ more;
  split = split ∙ ap (λ (l : List Message). ms ++ (l ++ more)) halts.split ∙ regrouped ms halts.handled halts.later more;
  text = first.text ++ halts.text;
  mid = halts.mid;
  are = answers_append world http old mid halts.mid ms halts.handled first.text halts.text first.are halts.are;
  last = touches_more http halts.later more halts.mid new halts.last;
  part = part_more a b c first.text halts.text first.wrote halts.part;
}
  where
    regrouped : (w x y z : List Message) → w ++ ((x ++ y) ++ z) ≡ (w ++ x) ++ (y ++ z)
    regrouped w x y z = simp append_assoc

-- before anything is answered
pub halts_first : (world : Option MirrorMap) (http : Bool) (messages : List Message) (old new : Moment) (written : Option (List ℕ)) → Touches http messages old new → Halts world http messages old new written written
halts_first world http messages old new written touches = record {
  handled = [];
  later = messages;
  split = refl;
  text = [];
  mid = old;
  are = (refl, refl);
  last = touches;
  part = part_none written [];
}

pub halts_none : (world : Option MirrorMap) (http : Bool) (messages : List Message) (moment : Moment) (written : Option (List ℕ)) → Halts world http messages moment moment written written
halts_none world http messages moment written = halts_first world http messages moment moment written (touches_none http messages moment)

-- ---- a list of messages

pub front_none : (world : Option MirrorMap) (http : Bool) (messages : List Message) (moment : Moment) (written : Option (List ℕ)) → AnswersFront world http messages messages moment moment written written
front_none world http messages moment written = record { handled = []; split = refl; answered = answered_none world http moment written }

pub front_more : (world : Option MirrorMap) (http : Bool) (messages rest others : List Message) (message : Message) (old mid new : Moment) (a b c : Option (List ℕ)) → rest ≡ message ∷ others
    → AnswersFront world http messages rest old mid a b → Answered world http (message ∷ []) mid new b c → AnswersFront world http messages others old new a c
front_more world http messages rest others message old mid new a b c next h answered = record {
  handled = h.handled ++ message ∷ [];
  split = h.split ∙ ap (λ (l : List Message). h.handled ++ l) next ∙ sym (append_assoc h.handled (message ∷ []) others);
  answered = answered_append world http h.handled (message ∷ []) old mid new a b c h.answered answered;
}

pub front_all : (world : Option MirrorMap) (http : Bool) (messages rest : List Message) (old new : Moment) (a b : Option (List ℕ)) → rest ≡ [] → AnswersFront world http messages rest old new a b
    → Answered world http messages old new a b
front_all world http messages rest old new a b none h =
    subst (λ (ms : List Message). Answered world http ms old new a b) (sym (h.split ∙ ap (λ (l : List Message). h.handled ++ l) none ∙ append-nil h.handled)) h.answered

pub front_halts : (world : Option MirrorMap) (http : Bool) (messages rest others : List Message) (message : Message) (old mid new : Moment) (a b c : Option (List ℕ)) → rest ≡ message ∷ others
    → AnswersFront world http messages rest old mid a b → Halts world http (message ∷ []) mid new b c → Halts world http messages old new a c
front_halts world http messages rest others message old mid new a b c next h halts =
    halts_within world http h.handled (message ∷ []) others messages old mid new a b c (h.split ∙ ap (λ (l : List Message). h.handled ++ l) next) h.answered halts

-- where a call hands the error on
pub halts_as : {T : Type 0} (world : Option MirrorMap) (http : Bool) (messages : List Message) (old new : Moment) (a b : Option (List ℕ)) (result : Result T Stop) (stop : Stop) → result ≡ Err stop
    → Halts world http messages old new a b → AnswersOrHalts world http messages old new a b result
halts_as {T} world http messages old new a b result stop is halts = subst (λ (r : Result T Stop). AnswersOrHalts world http messages old new a b r) (sym is) halts

-- ---- one message

one_turn : (world : Option MirrorMap) (http : Bool) (message : Message) (old new : Moment) (text : List ℕ) → IsTurn world http message old text new → Answers world http old (message ∷ []) text new
one_turn world http message old new text turn = (new, text, [], turn, (refl, refl), sym (append-nil text))

is_turn : (world : Option MirrorMap) (http : Bool) (message : Message) (old new : Moment) (text : List ℕ) → is_request message ≡ true → IsAnswered world http message (wish_of http message) old text new
    → IsTurn world http message old text new
unfolding IsTurn
is_turn world http message old new text asks answered = rw asks answered

no_turn : (world : Option MirrorMap) (http : Bool) (message : Message) (moment : Moment) → is_request message ≡ false → IsTurn world http message moment [] moment
unfolding IsTurn
no_turn world http message moment asks = rw asks (refl, refl)

pub no_request : (world : Option MirrorMap) (http : Bool) (message : Message) (moment : Moment) (written : Option (List ℕ)) → is_request message ≡ false → Answered world http (message ∷ []) moment moment written written
no_request world http message moment written asks =
    record { text = []; are = one_turn world http message moment moment [] (no_turn world http message moment asks); wrote = wrote_none written }

pub one_answered : (world : Option MirrorMap) (http : Bool) (message : Message) (old new : Moment) (a b : Option (List ℕ)) (text : List ℕ) → is_request message ≡ true
    → IsAnswered world http message (wish_of http message) old text new → Wrote a text b → Answered world http (message ∷ []) old new a b
one_answered world http message old new a b text asks answered wrote =
    record { text = text; are = one_turn world http message old new text (is_turn world http message old new text asks answered); wrote = wrote }

-- where the answer is written in part
pub one_halts : (world : Option MirrorMap) (http : Bool) (message : Message) (old new : Moment) (a b : Option (List ℕ)) (text : List ℕ) → is_request message ≡ true
    → IsAnswered world http message (wish_of http message) old text new → WrotePart a text b → Halts world http (message ∷ []) old new a b
one_halts world http message old new a b text asks answered part = record {
  handled = message ∷ [];
  later = [];
  split = refl;
  text = text;
  mid = new;
  are = one_turn world http message old new text (is_turn world http message old new text asks answered);
  last = refl;
  part = part;
}

-- where it can't be given
pub one_stops : (world : Option MirrorMap) (http : Bool) (message : Message) (old new : Moment) (written : Option (List ℕ)) → is_request message ≡ true → old.count ≤ new.count
    → BeginsAtMostOne old.begun new.begun → TouchesFor http (wish_of http message) old.files new.files → Halts world http (message ∷ []) old new written written
one_stops world http message old new written asks count begins touches = halts_first world http (message ∷ []) old new written (count, begins, rw asks touches)

-- the answer is written, or a part of it
pub said_answer : {T : Type 0} (world : Option MirrorMap) (http : Bool) (message : Message) (old new : Moment) (a b : Option (List ℕ)) (text : List ℕ) (result : Result T Stop) → is_request message ≡ true
    → IsAnswered world http message (wish_of http message) old text new → OnOk result (Wrote a text b) → OnErr result (WrotePart a text b) → AnswersOrHalts world http (message ∷ []) old new a b result
said_answer world http message old new a b text (Ok x) asks answered wrote part = one_answered world http message old new a b text asks answered wrote
said_answer world http message old new a b text (Err stop) asks answered wrote part = one_halts world http message old new a b text asks answered part
