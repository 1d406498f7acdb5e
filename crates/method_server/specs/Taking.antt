-- How far messages have been answered, while a stream comes in pieces.
use Rattle.std.specs.Prelude.{◌≡◌, ℕ, ◌+◌, ◌≤◌, Bool, false, List, [], ◌∷◌, ◌++◌, length, Option, Some, None, Result, Ok, Err}
use Rattle.acq_base.specs.Mirror.{MirrorMap}
use Rattle.acq_outside.specs.Inlet.{Gave}
use Rattle.acq_outside.specs.Sink.{Wrote, WrotePart}
use Rattle.acq_outside.specs.declared.files.Files as put_files
use Rattle.acq_outside.specs.declared.inlet.Inlet as inlets
use Rattle.acq_outside.specs.declared.method.Method as methods
use Rattle.acq_outside.specs.declared.sink.Sink as sinks
use Rattle.method_messages.specs.declared.message.Message.{Message}
use Rattle.method_messages.specs.Lines.{is_feed}
use Rattle.method_messages.specs.Streams.{Unended, Reads}
use Rattle.method_server.specs.Answers.{capabilities, general_failure}
use Rattle.method_server.specs.Turns.{Moment, Answers, Touches, moment}
use Rattle.method_server.specs.Input.{IsRefusedBehind}
use Rattle.method_server.specs.Serving.{Scene, scene, Served, most_input}
use Rattle.method_server.specs.declared.end.ServeEnd.{ServeEnd}
use Rattle.method_server.specs.declared.end.ServeEnd.TheVariants as ends
use Rattle.method_server.specs.declared.end.Stop.{Stop}
use Rattle.method_server.specs.declared.end.Stop.TheVariants as stops
use Rattle.acq_outside.specs.declared.fault.OutError.{OutError}
use Rattle.acq_outside.specs.declared.fault.OutError.TheVariants as outs

-- ---- messages

-- all of them are answered
pub record Answered (world : Option MirrorMap) (http : Bool) (messages : List Message) (old new : Moment) (before after : Option (List ℕ)) : Type 0 where
  pub text : List ℕ
  pub are : Answers world http old messages text new
  pub wrote : Wrote before text after

-- the first of them are answered, of the others the next is under way, and a front of the answers is written
pub record Halts (world : Option MirrorMap) (http : Bool) (messages : List Message) (old new : Moment) (before after : Option (List ℕ)) : Type 0 where
  pub handled : List Message
  pub later : List Message
  pub split : messages ≡ handled ++ later
  pub text : List ℕ
  pub mid : Moment
  pub are : Answers world http old handled text mid
  pub last : Touches http later mid new
  pub part : WrotePart before text after

-- those before the rest are answered
pub record AnswersFront (world : Option MirrorMap) (http : Bool) (messages rest : List Message) (old new : Moment) (before after : Option (List ℕ)) : Type 0 where
  pub handled : List Message
  pub split : messages ≡ handled ++ rest
  pub answered : Answered world http handled old new before after

abbrev pub AnswersOrHalts : {T : Type 0} → Option MirrorMap → Bool → List Message → Moment → Moment → Option (List ℕ) → Option (List ℕ) → Result T Stop → Type 0
AnswersOrHalts world http messages old new before after (Ok x) = Answered world http messages old new before after
AnswersOrHalts world http messages old new before after (Err stop) = Halts world http messages old new before after

-- ---- pieces of a stream

-- a piece without a line feed but at its end
abbrev pub IsCut : List ℕ → Type 0
IsCut [] = Unit {0}
IsCut (c ∷ []) = Unit {0}
IsCut (c ∷ d ∷ bytes) = (is_feed c ≡ false) × IsCut (d ∷ bytes)

-- All messages that ended in this front of the piece are answered, and the reader stands behind it.
pub record TakesFront (world : Option MirrorMap) (http : Bool) (stream : List ℕ) (messages : List Message) (piece rest : List ℕ) (reader : Unended)
    (old new : Moment) (before after : Option (List ℕ)) : Type 0 where
  pub taken : List ℕ
  pub split : piece ≡ taken ++ rest
  pub more : List Message
  pub reads : Reads (stream ++ taken) (messages ++ more) reader
  pub answered : Answered world http more old new before after

-- The stream is refused in the piece, and all messages before that are answered.
pub record TakesBad (world : Option MirrorMap) (http : Bool) (stream : List ℕ) (messages : List Message) (piece : List ℕ) (at : ℕ)
    (old new : Moment) (before after : Option (List ℕ)) : Type 0 where
  pub more : List Message
  pub refused : IsRefusedBehind (stream ++ piece) (messages ++ more) at
  pub answered : Answered world http more old new before after

-- Of the messages that ended in a front of the piece the first ones are answered.
pub record TakesPart (world : Option MirrorMap) (http : Bool) (stream : List ℕ) (messages : List Message) (piece : List ℕ)
    (old new : Moment) (before after : Option (List ℕ)) : Type 0 where
  pub taken : List ℕ
  pub rest : List ℕ
  pub split : piece ≡ taken ++ rest
  pub more : List Message
  pub reader : Unended
  pub reads : Reads (stream ++ taken) (messages ++ more) reader
  pub halts : Halts world http more old new before after

abbrev pub TakesBy : Option MirrorMap → Bool → List ℕ → List Message → List ℕ → Unended → Moment → Moment → Option (List ℕ) → Option (List ℕ) → Result (Option ℕ) Stop → Type 0
TakesBy world http stream messages piece reader old new before after (Ok None) = TakesFront world http stream messages piece [] reader old new before after
TakesBy world http stream messages piece reader old new before after (Ok (Some at)) = TakesBad world http stream messages piece at old new before after
TakesBy world http stream messages piece reader old new before after (Err stop) = TakesPart world http stream messages piece old new before after

-- whatever the stream was before
abbrev pub Takes : Option MirrorMap → Bool → List ℕ → Unended → Unended → Moment → Moment → Option (List ℕ) → Option (List ℕ) → Result (Option ℕ) Stop → Type 0
Takes world http piece before_reader reader old new before after result =
    (stream : List ℕ) (messages : List Message) → Reads stream messages before_reader → TakesBy world http stream messages piece reader old new before after result

-- ---- the whole input

-- So many bytes were read, no read gave the end, and all messages that ended in them are answered.
pub record SoFar (world : Option MirrorMap) (http : Bool) (old new : Scene) (reader : Unended) (size : ℕ) : Type 0 where
  pub bytes : List ℕ
  pub long : size ≡ length bytes
  pub read : Gave old.left bytes new.left
  pub still : new.ends ≡ old.ends
  pub messages : List Message
  pub reads : Reads bytes messages reader
  pub text : List ℕ
  pub are : Answers world http old.at messages text new.at
  pub wrote : Wrote old.written (capabilities ++ text) new.written

-- a turn goes on, or is the last
abbrev pub TurnsBy : Option MirrorMap → Bool → Scene → Scene → Scene → Unended → ℕ → Result ℕ ServeEnd → Type 0
TurnsBy world http old mid new reader size (Ok n) = SoFar world http old new reader (size + n)
TurnsBy world http old mid new reader size (Err end) = Served world http old new end

abbrev pub Turns : Option MirrorMap → Bool → ℕ → Scene → Scene → Unended → Unended → Result ℕ ServeEnd → Type 0
Turns world http room mid new before_reader reader result =
    (old : Scene) (size : ℕ) → size + room ≤ most_input → SoFar world http old mid before_reader size → TurnsBy world http old mid new reader size result

-- ---- the last message

-- what is said of a message that begins here
abbrev pub FailsBy : ℕ → Option (List ℕ) → Option (List ℕ) → ServeEnd → Type 0
FailsBy at before after ends.Broken = Wrote before (general_failure at) after
FailsBy at before after ends.Output = WrotePart before (general_failure at) after
FailsBy at before after ends.Memory = after ≡ before
FailsBy at before after _ = ⊥

abbrev pub ClosesBy : Option ℕ → Option (List ℕ) → Option (List ℕ) → ServeEnd → Type 0
ClosesBy None before after end = (end ≡ ends.Whole) × (after ≡ before)
ClosesBy (Some at) before after end = FailsBy at before after end

-- ---- what stops it

-- a fault while a file is fetched is one of the files
abbrev pub stop_of : OutError → Stop
stop_of outs.Fault = stops.Files
stop_of outs.NoMemory = stops.Memory

abbrev pub end_of_stop : Stop → ServeEnd
end_of_stop stops.Files = ends.Files
end_of_stop stops.Memory = ends.Memory
end_of_stop stops.Output = ends.Output

-- ---- in the words of a call's objects

abbrev pub AnswersAllCall : {M F S T : Type 0} → methods.Ghosts M → put_files.Ghosts F → sinks.Ghosts S → Bool → List Message → M → M → F → F → S → S → Result T Stop → Type 0
AnswersAllCall m f s http messages method method' files files' out out' result =
    AnswersOrHalts (m.world method) http messages (moment m f method files) (moment m f method' files') (s.written out) (s.written out') result

abbrev pub TakesCall : {M F S : Type 0} → methods.Ghosts M → put_files.Ghosts F → sinks.Ghosts S → Bool → List ℕ → Unended → Unended → M → M → F → F → S → S → Result (Option ℕ) Stop → Type 0
TakesCall m f s http piece reader reader' method method' files files' out out' result =
    Takes (m.world method) http piece reader reader' (moment m f method files) (moment m f method' files') (s.written out) (s.written out') result

abbrev pub TurnsCall : {I M F S : Type 0} → inlets.Ghosts I → methods.Ghosts M → put_files.Ghosts F → sinks.Ghosts S
    → Bool → ℕ → Unended → Unended → I → I → M → M → F → F → S → S → Result ℕ ServeEnd → Type 0
TurnsCall i m f s http room reader reader' input input' method method' files files' out out' result =
    Turns (m.world method) http room (scene i m f s input method files out) (scene i m f s input' method' files' out') reader reader' result
