-- What a wire's state means: which bytes it was fed.
use Rattle.std.specs.Prelude.{◌≡◌, ◌≢◌, ◌⊎◌, ℕ, ◌+◌, ◌-◌, ◌<◌, ◌≤◌, Bool, true, false, List, [], ◌∷◌, ◌++◌, length, Option, Some, None}
use Rattle.httparse.specs.Grammar.{LineEnd, print_blank}
use Rattle.acq_base.specs.declared.fetch.Reply.{Reply}
use Rattle.acq_base.specs.declared.fetch.NotServed.TheVariants as nots
use Rattle.acq_base.specs.declared.fetch.Reply.TheVariants as replies
use Rattle.acq_base.specs.declared.uri.Uri.{Uri}
use Rattle.uri_names.specs.Redirect.{resolve_of}
use Rattle.http_wire.specs.declared.ending.Response.{Response}
use Rattle.http_wire.specs.declared.ending.Response.TheVariants.{Served, Absent, Moved, TooBig, Garbled}
use Rattle.http_wire.specs.declared.ending.State.{State}
use Rattle.http_wire.specs.declared.ending.State.TheVariants as states
use Rattle.http_wire.specs.declared.phase.Phase.{Phase}
use Rattle.http_wire.specs.declared.phase.Phase.TheVariants as phases
use Rattle.http_wire.specs.Forms.{Unfinished, head_form, size_form, trailer_form}
use Rattle.http_wire.specs.Plain.{IsPlain}
use Rattle.http_wire.specs.Stream.{Stage, Heads, Counted, Unbounded, SizeLine, Chunk, Closing, Trailing, Heard, capped, Leads, IsHeard}
use Rattle.http_wire.specs.State.{WireState, state_of}

-- the body has come to that byte of the file, within the limit
pub record InReach (w : WireState) (given : List ℕ) : Type 0 where
  pub is : w.reached ≡ w.start + length (given ++ w.body)
  pub within : w.reached ≤ w.max

-- so many bytes at the front of a text are empty lines
pub record StartsBlank (size : ℕ) (text : List ℕ) : Type 0 where
  pub ends : List LineEnd
  pub rest : List ℕ
  pub is : text ≡ print_blank ends ++ rest
  pub long : size ≡ length (print_blank ends)

-- the stage and the unread text at which a wire stands that goes on
abbrev pub Stands : Phase → WireState → List ℕ → Stage → List ℕ → Type 0
Stands (phases.Heads passed) w given stage text =
    (stage ≡ Heads passed) × (text ≡ w.part) × (given ++ w.body ≡ []) × (w.start ≡ 0) × Unfinished head_form text × StartsBlank w.blank w.part × IsPlain w.named w.valued w.part
Stands (phases.Counted left) w given stage text =
    (stage ≡ Counted w.start w.keep (length (given ++ w.body) + left)) × (text ≡ given ++ w.body) × (0 < left)
Stands phases.Unbounded w given stage text = (stage ≡ Unbounded w.start) × (text ≡ given ++ w.body) × InReach w given
Stands phases.SizeLine w given stage text =
    (stage ≡ SizeLine w.start w.keep (given ++ w.body)) × (text ≡ w.part) × InReach w given × Unfinished size_form text
Stands (phases.Chunk left) w given stage text =
    (read : List ℕ) × (stage ≡ Chunk w.start w.keep read (length text + left)) × (given ++ w.body ≡ read ++ text) × (0 < left) × InReach w given
Stands phases.ChunkCr w given stage text = (stage ≡ Closing w.start w.keep (given ++ w.body)) × (text ≡ []) × InReach w given
Stands phases.ChunkLf w given stage text = (stage ≡ Closing w.start w.keep (given ++ w.body)) × (text ≡ 13 ∷ []) × InReach w given
Stands phases.Trailing w given stage text =
    (stage ≡ Trailing w.start w.keep (given ++ w.body)) × (text ≡ w.part) × Unfinished trailer_form text × IsPlain w.named w.valued w.part

-- the wire goes on
pub record GoesOn (w : WireState) (given bytes : List ℕ) : Type 0 where
  pub parts : ℕ
  pub stage : Stage
  pub text : List ℕ
  pub leads : Leads w.max w.from parts (Heads 0) bytes stage text
  pub stands : Stands w.phase w given stage text
  pub count : w.count ≡ capped (length bytes)
  pub place : w.place ≡ capped (length bytes - length text)

-- What was given out and what wasn't are the body, but where it was too big; and no byte was taken from behind a whole
-- response.
abbrev pub IsBodyOf : Response → Heard → List ℕ → Type 0
IsBodyOf (Served keep) heard bytes = (heard.body ≡ bytes) × (heard.rest ≡ [])
IsBodyOf (Absent status) heard bytes = (heard.body ≡ bytes) × (heard.rest ≡ [])
IsBodyOf (Moved place) heard bytes = (heard.body ≡ bytes) × (heard.rest ≡ [])
IsBodyOf TooBig heard bytes = Unit {0}
IsBodyOf (Garbled at) heard bytes = heard.body ≡ bytes

-- the reading has ended so
pub record HasEnded (how : Response) (w : WireState) (given bytes : List ℕ) (ended : Bool) : Type 0 where
  pub heard : Heard
  pub is : IsHeard w.max w.from bytes ended heard
  pub ending : heard.ending ≡ Some how
  pub start : heard.start ≡ w.start
  pub holds : IsBodyOf how heard (given ++ w.body)

abbrev pub IsAt : Option Response → WireState → List ℕ → List ℕ → Bool → Type 0
IsAt None w given bytes ended = (ended ≡ false) × GoesOn w given bytes
IsAt (Some how) w given bytes ended = HasEnded how w given bytes ended

-- A wire for a file of at most `max` bytes from a byte on has taken these bytes and, where that holds, the peer's end, and
-- `given` of the body was taken out of it.
pub record Follows (w : WireState) (max from : ℕ) (given bytes : List ℕ) (ended : Bool) : Type 0 where
  pub max_is : w.max ≡ max
  pub from_is : w.from ≡ from
  pub is_at : IsAt w.ending w given bytes ended

abbrev pub wire_state : WireState → State
wire_state w = state_of w.ending

-- the reading hasn't ended
abbrev pub is_going : Option Response → Bool
is_going None = true
is_going (Some how) = false

-- the reading ended before a whole response
abbrev pub is_refused : Option Response → Bool
is_refused (Some TooBig) = true
is_refused (Some (Garbled at)) = true
is_refused _ = false

-- the body's bytes that weren't taken
abbrev pub held : WireState → List ℕ
held w = w.body

-- where in the file the body begins
abbrev pub starts_at : WireState → ℕ
starts_at w = w.start

-- the wire took these bytes
abbrev pub Takes : WireState → WireState → List ℕ → Type 0
Takes before after took =
    (max from : ℕ) (given bytes : List ℕ) (ended : Bool) → Follows before max from given bytes ended → Follows after max from given (bytes ++ took) ended

-- the wire was told that the peer has ended
abbrev pub Finishes : WireState → WireState → Type 0
Finishes before after =
    (max from : ℕ) (given bytes : List ℕ) (ended : Bool) → Follows before max from given bytes ended → Follows after max from given bytes true

-- the wire gave out what it held of the body
abbrev pub Gives : WireState → WireState → Type 0
Gives before after =
    (max from : ℕ) (given bytes : List ℕ) (ended : Bool) → Follows before max from given bytes ended → Follows after max from (given ++ held before) bytes ended

abbrev pub IsDone : State → Type 0
IsDone (states.Done keep) = Unit {0}
IsDone _ = ⊥

-- What a wire tells of these bytes: the one thing that is heard of them, with the body so far, unless that was too big; and
-- that no byte was taken from behind a whole response.
pub record IsStateOf (w : WireState) (max from : ℕ) (given bytes : List ℕ) (ended : Bool) : Type 0 where
  pub heard : Heard
  pub is : IsHeard max from bytes ended heard
  pub ending : heard.ending ≡ w.ending
  pub start : heard.start ≡ w.start
  pub body : w.ending ≢ Some TooBig → heard.body ≡ given ++ w.body
  pub rest : IsDone (wire_state w) → heard.rest ≡ []

-- the reply for an ending, with what is held of the body
abbrev pub reply_of : Uri → Option Response → List ℕ → Reply
reply_of uri (Some (Served keep)) bytes = replies.Served bytes
reply_of uri (Some (Absent status)) bytes = replies.Not (nots.Absent status)
reply_of uri (Some (Moved place)) bytes = replies.Not (nots.Moved (resolve_of uri place))
reply_of uri (Some TooBig) bytes = replies.Not nots.TooBig
reply_of uri (Some (Garbled at)) bytes = replies.Not (nots.Garbled at)
reply_of uri None bytes = replies.NoMemory

-- The reply to the asker; a body's part that was given out before isn't in it.
abbrev pub IsReply : Uri → List ℕ → Option Response → List ℕ → Reply → Type 0
IsReply uri given (Some (Served keep)) body reply = (held : List ℕ) × (reply ≡ replies.Served held) × (given ++ held ≡ body)
IsReply uri given (Some (Absent status)) body reply = reply ≡ (replies.Not (nots.Absent status))
IsReply uri given (Some (Moved place)) body reply = reply ≡ (replies.Not (nots.Moved (resolve_of uri place)))
IsReply uri given (Some TooBig) body reply = reply ≡ (replies.Not nots.TooBig)
IsReply uri given (Some (Garbled at)) body reply = reply ≡ (replies.Not (nots.Garbled at))
IsReply uri given None body reply = ⊥

-- the reply is that of the one thing that is heard
abbrev pub Replies : Uri → WireState → ℕ → ℕ → List ℕ → List ℕ → Bool → Reply → Type 0
Replies uri w max from given bytes ended reply =
    (reply ≡ replies.NoMemory) ⊎ ((heard : Heard) × IsHeard max from bytes ended heard × IsReply uri given heard.ending heard.body reply)
