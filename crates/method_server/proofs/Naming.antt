-- Files that are named, and those that aren't.
use Rattle.std.proofs.Common.{◌≡◌, ◌≢◌, refl, sym, ap, subst, ◌∙◌, ℕ, Bool, true, false, if◌then◌else◌, List, [], ◌∷◌, ◌++◌, Option, Some, None}
use Rattle.acq_base.specs.Mirror.{MirrorMap}
use Rattle.acq_base.specs.declared.fetch.Reply.{Reply}
use Rattle.acq_base.specs.declared.fetch.Reply.TheVariants.{Served, Not, NoMemory}
use Rattle.acq_outside.specs.Disk.{Files}
use Rattle.acq_outside.proofs.FileMaps.{with_file-here, with_file-other}
use Rattle.method_messages.specs.declared.message.Message.{Message}
use Rattle.method_server.specs.Asked.{is_request, wish_of}
use Rattle.method_server.specs.Named.{IsNamed, NamedByNone, Holds, file_at}
use Rattle.method_server.specs.Turns.{Moment, ChangesOnly, LeavesBy, holding, IsAnswered, IsReplied, IsTurn, IsTurnOf, Answers, Touches, TouchesFor, asked}
use Rattle.method_server.specs.Serving.{Serves}
use Rattle.method_server.specs.declared.wish.Wish.{Wish}

-- ---- one file changed

other_stays : (http : Bool) (name other : List ℕ) (old new : Option Files) → (http ≡ true → other ≢ name) → ChangesOnly http name old new → file_at other new ≡ file_at other old
other_stays false name other old new apart same = ap (file_at other) same
other_stays true name other None new apart same = ap (file_at other) same
other_stays true name other (Some all) None apart changes = absurd changes
other_stays true name other (Some all) (Some later) apart changes = ap (λ (f : Option (List ℕ)). Some f) (changes other (apart refl))

held_stays : (http : Bool) (name other bytes : List ℕ) (old : Option Files) → (http ≡ true → other ≢ name) → file_at other (holding http name old bytes) ≡ file_at other old
held_stays false name other bytes old apart = refl
held_stays true name other bytes None apart = refl
held_stays true name other bytes (Some all) apart = ap (λ (f : Option (List ℕ)). Some f) (with_file-other all name (Some bytes) other (apart refl))

reply_stays : (http : Bool) (name other : List ℕ) (reply : Reply) (old new : Option Files) → (http ≡ true → other ≢ name) → LeavesBy http name reply old new → file_at other new ≡ file_at other old
reply_stays http name other (Served bytes) old new apart leaves = ap (file_at other) leaves ∙ held_stays http name other bytes old apart
reply_stays http name other (Not end) old new apart leaves = other_stays http name other old new apart leaves
reply_stays http name other NoMemory old new apart leaves = absurd leaves

-- ---- one message

-- another name than that of a request that doesn't name this one
apart_from : (http : Bool) (name : List ℕ) (message : Message) (wish : Wish) → (IsNamed name message → ⊥) → is_request message ≡ true → wish_of http message ≡ Some wish → http ≡ true → name ≢ wish.name
apart_from http name message wish unnamed asks reads over same = unnamed (record {
  asks = asks;
  wish = wish;
  reads = subst (λ (b : Bool). wish_of b message ≡ Some wish) over reads;
  same = sym same;
})

answer_stays : (world : Option MirrorMap) (http : Bool) (message : Message) (name : List ℕ) (old new : Moment) (text : List ℕ) → (IsNamed name message → ⊥) → is_request message ≡ true
    → (wish : Option Wish) → wish_of http message ≡ wish → IsAnswered world http message wish old text new → file_at name new.files ≡ file_at name old.files
answer_stays world http message name old new text unnamed asks None reads answered = ap (λ (m : Moment). file_at name m.files) answered.1
answer_stays world http message name old new text unnamed asks (Some wish) reads answered =
    reply_stays http wish.name name answered.reply old.files new.files (apart_from http name message wish unnamed asks reads) answered.leaves

turn_of_stays : (world : Option MirrorMap) (http : Bool) (message : Message) (name : List ℕ) (old new : Moment) (text : List ℕ) → (IsNamed name message → ⊥)
    → (asks : Bool) → is_request message ≡ asks → IsTurnOf asks world http message old text new → file_at name new.files ≡ file_at name old.files
turn_of_stays world http message name old new text unnamed true asks answered = answer_stays world http message name old new text unnamed asks (wish_of http message) refl answered
turn_of_stays world http message name old new text unnamed false asks answered = ap (λ (m : Moment). file_at name m.files) answered.1

turn_stays : (world : Option MirrorMap) (http : Bool) (message : Message) (name : List ℕ) (old new : Moment) (text : List ℕ) → (IsNamed name message → ⊥) → IsTurn world http message old text new
    → file_at name new.files ≡ file_at name old.files
unfolding IsTurn
turn_stays world http message name old new text unnamed turn = turn_of_stays world http message name old new text unnamed (is_request message) refl turn

-- ---- messages

pub stays : (world : Option MirrorMap) (http : Bool) (old new : Moment) (messages : List Message) (text name : List ℕ) → Answers world http old messages text new → NamedByNone name messages
    → file_at name new.files ≡ file_at name old.files
stays world http old new [] text name are unnamed = ap (λ (m : Moment). file_at name m.files) are.1
stays world http old new (message ∷ messages) text name (mid, first, rest, turn, are, split) unnamed =
    stays world http mid new messages rest name are unnamed.1 ∙ turn_stays world http message name old mid first unnamed.0 turn

touch_stays : (http : Bool) (message : Message) (name : List ℕ) (old new : Option Files) → (IsNamed name message → ⊥) → is_request message ≡ true → (wish : Option Wish) → wish_of http message ≡ wish
    → TouchesFor http wish old new → file_at name new ≡ file_at name old
touch_stays http message name old new unnamed asks None reads same = ap (file_at name) same
touch_stays http message name old new unnamed asks (Some wish) reads changes = other_stays http wish.name name old new (apart_from http name message wish unnamed asks reads) changes

touch_of_stays : (http : Bool) (message : Message) (name : List ℕ) (old new : Option Files) → (IsNamed name message → ⊥) → (asks : Bool) → is_request message ≡ asks
    → TouchesFor http (if asks then wish_of http message else None) old new → file_at name new ≡ file_at name old
touch_of_stays http message name old new unnamed true asks touches = touch_stays http message name old new unnamed asks (wish_of http message) refl touches
touch_of_stays http message name old new unnamed false asks same = ap (file_at name) same

pub begun_stays : (http : Bool) (old new : Moment) (messages : List Message) (name : List ℕ) → Touches http messages old new → NamedByNone name messages → file_at name new.files ≡ file_at name old.files
begun_stays http old new [] name same unnamed = ap (λ (m : Moment). file_at name m.files) same
begun_stays http old new (message ∷ messages) name touches unnamed = touch_of_stays http message name old.files new.files unnamed.0 (is_request message) refl touches.2

-- ---- a file that was served

told_on : (name bytes : List ℕ) (old new : Option Files) → file_at name new ≡ file_at name old → Holds name bytes old → Holds name bytes new
told_on name bytes None None same holds = refl
told_on name bytes None (Some later) same holds = absurd cc
told_on name bytes (Some all) None same holds = absurd cc
told_on name bytes (Some all) (Some later) same holds = same ∙ holds

held : (name bytes : List ℕ) (old : Option Files) → Holds name bytes (holding true name old bytes)
held name bytes None = refl
held name bytes (Some all) = ap (λ (f : Option (List ℕ)). Some f) (with_file-here all name (Some bytes))

reply_holds : (name bytes : List ℕ) (reply : Reply) (old new : Option Files) → reply ≡ Served bytes → LeavesBy true name reply old new → Holds name bytes new
reply_holds name bytes reply old new is leaves =
    let left : new ≡ holding true name old bytes = subst (λ (r : Reply). LeavesBy true name r old new) is leaves in
    subst (λ (f : Option Files). Holds name bytes f) (sym left) (held name bytes old)

pub holds : (world : Option MirrorMap) (wish : Wish) (old mid new : Moment) (said text bytes : List ℕ) (later : List Message) → (replied : IsReplied world true wish old said mid) → replied.reply ≡ Served bytes
    → Answers world true mid later text new → NamedByNone wish.name later → Holds wish.name bytes new.files
holds world wish old mid new said text bytes later replied is are unnamed =
    told_on wish.name bytes mid.files new.files (stays world true mid new later text wish.name are unnamed) (reply_holds wish.name bytes replied.reply old.files mid.files is replied.leaves)

-- ---- without http

reply_apart : (name : List ℕ) (reply : Reply) (old new : Option Files) → LeavesBy false name reply old new → new ≡ old
reply_apart name (Served bytes) old new leaves = leaves
reply_apart name (Not end) old new leaves = leaves
reply_apart name NoMemory old new leaves = absurd leaves

answer_apart : (world : Option MirrorMap) (message : Message) (wish : Option Wish) (old new : Moment) (text : List ℕ) → IsAnswered world false message wish old text new → new.files ≡ old.files
answer_apart world message None old new text answered = ap (λ (m : Moment). m.files) answered.1
answer_apart world message (Some wish) old new text answered = reply_apart wish.name answered.reply old.files new.files answered.leaves

turn_of_apart : (world : Option MirrorMap) (message : Message) (asks : Bool) (old new : Moment) (text : List ℕ) → IsTurnOf asks world false message old text new → new.files ≡ old.files
turn_of_apart world message true old new text turn = answer_apart world message (wish_of false message) old new text turn
turn_of_apart world message false old new text turn = ap (λ (m : Moment). m.files) turn.1

turn_apart : (world : Option MirrorMap) (message : Message) (old new : Moment) (text : List ℕ) → IsTurn world false message old text new → new.files ≡ old.files
unfolding IsTurn
turn_apart world message old new text turn = turn_of_apart world message (is_request message) old new text turn

answers_apart : (world : Option MirrorMap) (old new : Moment) (messages : List Message) (text : List ℕ) → Answers world false old messages text new → new.files ≡ old.files
answers_apart world old new [] text are = ap (λ (m : Moment). m.files) are.1
answers_apart world old new (message ∷ messages) text (mid, first, rest, turn, are, split) = answers_apart world mid new messages rest are ∙ turn_apart world message old mid first turn

touch_apart : (wish : Option Wish) (old new : Option Files) → TouchesFor false wish old new → new ≡ old
touch_apart None old new same = same
touch_apart (Some wish) old new same = same

touches_apart : (messages : List Message) (old new : Moment) → Touches false messages old new → new.files ≡ old.files
touches_apart [] old new same = ap (λ (m : Moment). m.files) same
touches_apart (message ∷ messages) old new touches = touch_apart (asked false message) old.files new.files touches.2

pub serves_apart : (world : Option MirrorMap) (http : Bool) (old new : Moment) (bytes text : List ℕ) → Serves world http old new bytes text → http ≡ false → new.files ≡ old.files
serves_apart world http old new bytes text h over =
    let last : Touches false h.later h.mid new = subst (λ (b : Bool). Touches b h.later h.mid new) over h.last in
    let are : Answers world false old h.handled h.answers h.mid = subst (λ (b : Bool). Answers world b old h.handled h.answers h.mid) over h.are in
    touches_apart h.later h.mid new last ∙ answers_apart world old h.mid h.handled h.answers are

-- ---- all messages of an input

unnamed_parts : (name : List ℕ) (ms ns : List Message) → NamedByNone name (ms ++ ns) → NamedByNone name ms × NamedByNone name ns
unnamed_parts name [] ns unnamed = (tt, unnamed)
unnamed_parts name (m ∷ ms) ns unnamed = let rest = unnamed_parts name ms ns unnamed.1 in ((unnamed.0, rest.0), rest.1)

pub serves_stays : (world : Option MirrorMap) (http : Bool) (old new : Moment) (bytes text : List ℕ) (h : Serves world http old new bytes text) (name : List ℕ) → NamedByNone name (h.handled ++ h.later)
    → file_at name new.files ≡ file_at name old.files
serves_stays world http old new bytes text h name unnamed =
    let parts = unnamed_parts name h.handled h.later unnamed in
    begun_stays http h.mid new h.later name h.last parts.1 ∙ stays world http old h.mid h.handled h.answers name h.are parts.0
