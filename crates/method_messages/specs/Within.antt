-- How far a stream has been read, and what one line told.
use Rattle.std.specs.Prelude.{◌≡◌, ◌⊎◌, ℕ, ◌+◌, ◌<◌, ◌≤◌, Bool, true, false, List, [], ◌∷◌, ◌++◌, length, take, drop, Result, Ok, Err}
use Rattle.std.specs.List.{list_all}
use Rattle.method_messages.specs.declared.message.Message.{Message}
use Rattle.method_messages.specs.declared.error.MessageError.{MessageError}
use Rattle.method_messages.specs.declared.error.MessageError.TheVariants.{BadMessage, TooLong, NoMemory}
use Rattle.method_messages.specs.declared.progress.Progress.{Progress}
use Rattle.method_messages.specs.declared.step.Told.{Told}
use Rattle.method_messages.specs.declared.step.Told.TheVariants.{Passed, GoesOn, Ends}
use Rattle.method_messages.specs.Lines.{is_line, ended, can_begin, may_follow}
use Rattle.method_messages.specs.Streams.{IsMessage, AreMessages, IsOpen, Reads, Unended, place}
use Rattle.method_messages.specs.Refused.{IsRefused}

abbrev pub unended : ℕ → List ℕ → Unended
unended begins bytes = record { begins = begins; bytes = bytes }

-- the first line feed of a text from a place on
pub record IsNextFeed (text : List ℕ) (from at : ℕ) : Type 0 where
  pub more : List ℕ
  pub behind : List ℕ
  pub split : drop from text ≡ more ++ 10 ∷ behind
  pub own : is_line more ≡ true
  pub place : at ≡ from + length more

-- Behind these messages the rest of the stream begins here, and so much of it has been seen, in which none has ended.
pub record Within (stream : List ℕ) (messages : List Message) (rest : List ℕ) (seen begins : ℕ) : Type 0 where
  pub front : List ℕ
  pub split : stream ≡ front ++ rest
  pub before : AreMessages front messages
  pub inside : seen ≤ length rest
  pub goes_on : IsOpen (take seen rest)
  pub counted : begins ≡ place (length front)

-- the text has a last line that may not stand there
pub record EndsBadly (text : List ℕ) : Type 0 where
  pub lines : List (List ℕ)
  pub line : List ℕ
  pub split : text ≡ ended lines ++ line
  pub plain : list_all is_line lines ≡ true
  pub sound : can_begin lines ≡ true
  pub own : is_line line ≡ true
  pub some : 0 < length line
  pub refused : may_follow lines line ≡ false
  pub short : length text < 65536

-- what is told of an open text, whose last line has just ended
abbrev pub IsReadOf : List ℕ → ℕ → Result Told MessageError → Type 0
IsReadOf text begins (Ok Passed) = text ≡ []
IsReadOf text begins (Ok GoesOn) = IsOpen (text ++ 10 ∷ [])
IsReadOf text begins (Ok (Ends message)) = IsMessage (text ++ 10 ∷ []) message
IsReadOf text begins (Err (BadMessage at)) = (at ≡ begins) × EndsBadly text
IsReadOf text begins (Err (TooLong at)) = (at ≡ begins) × (65536 ≤ length text)
IsReadOf text begins (Err NoMemory) = Unit {0}

-- what is told of a line that isn't empty, behind these
abbrev pub TellsLine : List (List ℕ) → List ℕ → ℕ → Result Told MessageError → Type 0
TellsLine before line begins (Ok Passed) = ⊥
TellsLine before line begins (Ok GoesOn) = may_follow before line ≡ true
TellsLine before line begins (Ok (Ends message)) = ⊥
TellsLine before line begins (Err (BadMessage at)) = (at ≡ begins) × (may_follow before line ≡ false)
TellsLine before line begins (Err (TooLong at)) = ⊥
TellsLine before line begins (Err NoMemory) = ⊥

-- the stream is refused so, unless memory ran out
abbrev pub Refuses : List ℕ → MessageError → Type 0
Refuses stream fault = (fault ≡ NoMemory) ⊎ IsRefused stream fault

-- Behind the messages before, those that were read have ended in the stream, and the text from there on is open.
abbrev pub ReadsOn : List ℕ → List Message → List ℕ → Progress → Type 0
ReadsOn stream before text read = Reads stream (before ++ read.messages) (unended read.begins (drop read.start text))

-- What a step tells: that a line more has been read, or that no line of what is left has ended.
abbrev pub Steps : List ℕ → List Message → List ℕ → ℕ → ℕ → Result Bool MessageError → Type 0
Steps stream messages rest seen begins (Ok true) = Within stream messages rest seen begins
Steps stream messages rest seen begins (Ok false) = Within stream messages rest seen begins × (is_line (drop seen rest) ≡ true)
Steps stream messages rest seen begins (Err fault) = Refuses stream fault
