-- What serving an input comes to.
use Rattle.std.specs.Prelude.{◌≡◌, ◌≢◌, ◌⊎◌, ℕ, ◌≤◌, Bool, false, List, [], ◌∷◌, ◌++◌, length, take, Option, Some, None}
use Rattle.acq_base.specs.Mirror.{MirrorMap}
use Rattle.acq_outside.specs.Count.{Rose}
use Rattle.acq_outside.specs.Inlet.{Gave, IsSpent}
use Rattle.acq_outside.specs.Sink.{Wrote}
use Rattle.acq_outside.specs.declared.files.Files as put_files
use Rattle.acq_outside.specs.declared.inlet.Inlet as inlets
use Rattle.acq_outside.specs.declared.method.Method as methods
use Rattle.acq_outside.specs.declared.sink.Sink as sinks
use Rattle.method_messages.specs.declared.message.Message.{Message}
use Rattle.method_server.specs.Answers.{capabilities, general_failure}
use Rattle.method_server.specs.Named.{NamedByNone, file_at}
use Rattle.method_server.specs.Turns.{Moment, moment, Answers, Touches}
use Rattle.method_server.specs.Input.{Input, IsRefusedBehind}
use Rattle.method_server.specs.declared.end.ServeEnd.{ServeEnd}
use Rattle.method_server.specs.declared.end.ServeEnd.TheVariants as ends

-- ---- what is said

abbrev pub last_text : Option ℕ → List ℕ
last_text None = []
last_text (Some at) = general_failure at

-- The text of a method for an input: what it can do, the answers in order, and a last message where the input breaks off.
-- The method's count of faults runs along, and fault answers are at most as many as it rose by.
pub record MethodText (world : Option MirrorMap) (http : Bool) (old new : Moment) (bytes text : List ℕ) (broken : Option ℕ) : Type 0 where
  pub messages : List Message
  pub input : Input bytes messages broken
  pub answers : List ℕ
  pub are : Answers world http old messages answers new
  pub text_is : text ≡ (capabilities ++ answers) ++ last_text broken

-- A front of such a text. Its fault answers are at most as many as the count rose by until it stood at this limit.
pub record BeginsText (world : Option MirrorMap) (http : Bool) (old : Moment) (limit : ℕ) (bytes text : List ℕ) : Type 0 where
  pub whole : List ℕ
  pub new : Moment
  pub broken : Option ℕ
  pub is : MethodText world http old new bytes whole broken
  pub within : new.count ≤ limit
  pub n : ℕ
  pub front : text ≡ take n whole

-- ---- the objects

-- what is left of the input and how often its end was given, the method's count with the files, and what is written
pub record Scene : Type 0 where
  pub left : Option (List ℕ)
  pub ends : ℕ
  pub at : Moment
  pub written : Option (List ℕ)

abbrev pub scene : {I M F S : Type 0} → inlets.Ghosts I → methods.Ghosts M → put_files.Ghosts F → sinks.Ghosts S → I → M → F → S → Scene
scene i m f s input method files out = record { left = i.left input; ends = i.ends input; at = moment m f method files; written = s.written out }

-- the input was read to its end
pub record IsRead (old new : Scene) : Type 0 where
  pub ended : Rose old.ends new.ends
  pub spent : IsSpent new.left

-- the most bytes that are read: 2 ^ 40
abbrev pub most_input : ℕ
most_input = 1099511627776

-- ---- what a call comes to

-- what is said behind these answers, where these messages are still to be answered: the last message comes behind all answers
abbrev pub text_so_far : List ℕ → List Message → Option ℕ → List ℕ
text_so_far answers [] broken = (capabilities ++ answers) ++ last_text broken
text_so_far answers (message ∷ later) broken = capabilities ++ answers

-- The first of the input's messages are answered, and each did to the files what it does. Of the others at most the file that
-- the next one names has changed. What is written is a front of what is said so far.
pub record Serves (world : Option MirrorMap) (http : Bool) (old new : Moment) (bytes text : List ℕ) : Type 0 where
  pub handled : List Message
  pub answers : List ℕ
  pub mid : Moment
  pub are : Answers world http old handled answers mid
  pub later : List Message
  pub broken : Option ℕ
  pub input : Input bytes (handled ++ later) broken
  pub last : Touches http later mid new
  pub n : ℕ
  pub front : text ≡ take n (text_so_far answers later broken)

-- what was said whole, and why it ended so
abbrev pub EndsBy : Option MirrorMap → Bool → Scene → Scene → List ℕ → List ℕ → ServeEnd → Type 0
EndsBy world http old new bytes text ends.Whole = MethodText world http old.at new.at bytes text None × IsRead old new
EndsBy world http old new bytes text ends.Broken =
    (at : ℕ) × MethodText world http old.at new.at bytes text (Some at)
    × (((messages : List Message) × IsRefusedBehind bytes messages at) ⊎ IsRead old new)
EndsBy world http old new bytes text ends.Full = (length bytes ≡ most_input) × (new.ends ≡ old.ends)
EndsBy world http old new bytes text ends.Files = Unit {0}
EndsBy world http old new bytes text ends.Memory = Unit {0}
EndsBy world http old new bytes text ends.Output = Unit {0}
EndsBy world http old new bytes text ends.Input = Unit {0}

-- all messages that were read are answered, and the answers are written
abbrev pub AllSaid : List ℕ → List Message → List ℕ → Type 0
AllSaid answers later text = (later ≡ []) × (text ≡ capabilities ++ answers)

-- How much of the answers is written. Only where the input broke off, or the output failed, may anything stand behind them.
abbrev pub SaidBy : List ℕ → List Message → List ℕ → ServeEnd → Type 0
SaidBy answers later text ends.Whole = AllSaid answers later text
SaidBy answers later text ends.Broken = Unit {0}
SaidBy answers later text ends.Full = AllSaid answers later text
SaidBy answers later text ends.Files = (n : ℕ) × (text ≡ take n (capabilities ++ answers))
SaidBy answers later text ends.Memory = (n : ℕ) × (text ≡ take n (capabilities ++ answers))
SaidBy answers later text ends.Output = Unit {0}
SaidBy answers later text ends.Input = AllSaid answers later text

pub record Served (world : Option MirrorMap) (http : Bool) (old new : Scene) (end : ServeEnd) : Type 0 where
  -- what was read, and what was written
  pub bytes : List ℕ
  pub text : List ℕ
  pub read : Gave old.left bytes new.left
  pub wrote : Wrote old.written text new.written
  pub few : length bytes ≤ most_input
  pub serves : Serves world http old.at new.at bytes text
  pub said : SaidBy serves.answers serves.later text end
  -- over files none changes, and over http a file that no request names stays as it was
  pub untouched : http ≡ false → new.at.files ≡ old.at.files
  pub stays : (name : List ℕ) → NamedByNone name (serves.handled ++ serves.later) → file_at name new.at.files ≡ file_at name old.at.files
  pub begins : BeginsText world http old.at new.at.count bytes text
  pub ends : EndsBy world http old new bytes text end

abbrev pub ServesCall : {I M F S : Type 0} → inlets.Ghosts I → methods.Ghosts M → put_files.Ghosts F → sinks.Ghosts S → Bool → I → I → M → M → F → F → S → S → ServeEnd → Type 0
ServesCall i m f s http input input' method method' files files' out out' end = Served (m.world method) http (scene i m f s input method files out) (scene i m f s input' method' files' out') end

-- ---- faults

-- an object's count never falls; it rose where the end blames it, and else stood still
pub record Blames (kind : ServeEnd) (before after : ℕ) (end : ServeEnd) : Type 0 where
  pub count : before ≤ after
  pub fault : end ≡ kind → Rose before after
  pub quiet : end ≢ kind → after ≡ before

-- the status of a program that ends so
abbrev pub status_of : ServeEnd → ℕ
status_of ends.Whole = 0
status_of ends.Broken = 100
status_of ends.Files = 102
status_of ends.Memory = 103
status_of ends.Output = 105
status_of ends.Input = 107
status_of ends.Full = 109
