-- What a method hears of a peer: the stream of a connection since its last request, in words.
use Rattle.std.specs.Prelude.{◌≡◌, ◌≢◌, ◌⊎◌, ℕ, ◌+◌, ◌≤◌, length, ◌∷◌, [], ◌==◌, ◌&&◌, nat_lt, not, Bool, true, false, if◌then◌else◌, List, ◌++◌, bytes_eq, Option, Some, None, IfSome, IsSome, is_some, option_map, unwrap_or}
use Rattle.acq_base.specs.declared.fetch.Job.{Job}
use Rattle.acq_base.specs.declared.fetch.Reply.{Reply}
use Rattle.acq_base.specs.declared.fetch.NotServed.TheVariants as nots
use Rattle.acq_base.specs.declared.fetch.Reply.TheVariants as replies
use Rattle.acq_base.specs.declared.uri.Uri.{Uri}
use Rattle.acq_base.specs.declared.uri.Scheme.{Scheme}
use Rattle.acq_base.specs.declared.uri.Scheme.TheVariants.{File, Http}
use Rattle.acq_base.specs.Mirror.{MirrorMap}
use Rattle.acq_base.specs.Uri.{IsSound}
use Rattle.acq_outside.specs.declared.word.Fetch.{Fetch}
use Rattle.acq_outside.specs.declared.word.Word.{Word}
use Rattle.acq_outside.specs.declared.word.Word.TheVariants.{Piece, Done, Not, NoMemory}
use Rattle.acq_outside.specs.Word.{CanBegin, IsWord}
use Rattle.acq_net.specs.Due.{Due, IsAnswerOf, fresh, owing}
use Rattle.acq_net.specs.Talk.{Talk, silent, is_none}
use Rattle.http_wire.specs.declared.ending.Response.{Response}
use Rattle.http_wire.specs.declared.ending.Response.TheVariants.{Served}
use Rattle.http_wire.specs.declared.ending.State.{State}
use Rattle.http_wire.specs.declared.ending.State.TheVariants as states
use Rattle.http_wire.specs.Request.{request_text}
use Rattle.http_wire.specs.Stream.{Heard, IsHeard}
use Rattle.http_wire.specs.Wire.{Follows, IsReply, held, wire_state}
use Rattle.http_method.specs.Line.{Gets, Line}
use Rattle.http_method.specs.declared.reading.Behind.{Behind}
use Rattle.http_method.specs.declared.reading.Behind.TheVariants.{Nothing, Bytes, End}
use Rattle.http_method.specs.declared.reading.Reading.{Reading}
use Rattle.http_method.specs.declared.reading.Place.{Place}
use Rattle.http_method.specs.declared.reading.Said.{Said}

-- what was said on a connection on which a request was sent whole and these bytes were received since
abbrev pub asked : Talk → Job → List ℕ → Bool → Talk
asked before job bytes ended = record { sent = before.sent ++ request_text job.uri job.from; received = before.received ++ bytes; ended = ended }

-- of the mirror's answer these bytes came since the request, and what else is to come of it is due; nothing is, where the
-- peer has ended
pub record IsOwed (entries : MirrorMap) (due : Option Due) (job : Job) (bytes : List ℕ) (ended : Bool) : Type 0 where
  pub rest : List ℕ
  pub keep : Bool
  pub is : due ≡ Some (owing job.uri rest keep)
  pub answers : IsAnswerOf entries job.uri job.from (bytes ++ rest) keep
  pub ends : ended ≡ true → rest ≡ []

-- so it was, where the link tells
pub record IsAsked (line : Line) (before : Talk) (job : Job) (bytes : List ℕ) (ended : Bool) : Type 0 where
  pub told : IfSome line.talk (λ talk. talk ≡ asked before job bytes ended)
  pub owed : IfSome line.world (λ entries. IsOwed entries line.due job bytes ended)

-- the peer has ended
abbrev pub is_end : Behind → Bool
is_end Nothing = false
is_end Bytes = false
is_end End = true

-- these bytes stand behind the response
abbrev pub StandsBehind : Behind → List ℕ → Type 0
StandsBehind Nothing rest = rest ≡ []
StandsBehind Bytes rest = rest ≢ []
StandsBehind End rest = rest ≡ []

-- A response is read: its wire follows the bytes received since the request, of which these, of the body, were given out.
pub record Reads (line : Line) (reading : Reading) (before : Talk) (given : List ℕ) : Type 0 where
  pub bytes : List ℕ
  pub rest : List ℕ
  pub follows : Follows reading.wire reading.fetch.job.max reading.fetch.job.from given bytes (is_end reading.behind)
  pub stands : StandsBehind reading.behind rest
  pub told : IsAsked line before reading.fetch.job (bytes ++ rest) (is_end reading.behind)

-- What holds of a response that is being read, of which these last bytes were given out and not said yet: the job has come
-- to the place behind what was said, and the wire holds no more than one piece.
pub record IsReading (line : Line) (reading : Reading) (out : List ℕ) : Type 0 where
  pub before : Talk
  pub given : List ℕ
  pub reads : Reads line reading before (given ++ out)
  pub place : reading.fetch.at ≡ reading.fetch.job.from + length given
  pub can : CanBegin reading.fetch.job
  pub sound : IsSound reading.fetch.job.uri
  pub going : wire_state reading.wire ≡ states.More → reading.behind ≡ Nothing
  pub small : wire_state reading.wire ≢ states.TooBig → length (held reading.wire) ≤ 65536

-- the reading took these bytes of the link, or the peer's end
pub record Received (reading next : Reading) (piece : List ℕ) : Type 0 where
  pub is : (line later : Line) (before : Talk) (given : List ℕ) → Gets piece line later → Reads line reading before given → Reads later next before given

-- the wire, which held nothing, holds no more than one piece
abbrev pub StaysSmall : Reading → Reading → Type 0
StaysSmall reading next =
    (max from : ℕ) (given bytes : List ℕ) → Follows reading.wire max from given bytes false → wire_state reading.wire ≡ states.More → held reading.wire ≡ [] → wire_state next.wire ≢ states.TooBig → length (held next.wire) ≤ 65536

-- the reading went on, and gave out these bytes
pub record Goes (line : Line) (reading : Reading) (later : Line) (next : Reading) (piece : List ℕ) : Type 0 where
  pub is : (before : Talk) (given : List ℕ) → Reads line reading before given → Reads later next before (given ++ piece)

-- what stands behind the bytes that a wire took of a piece
abbrev pub behind_of : ℕ → ℕ → Behind
behind_of taken size = if nat_lt taken size then Bytes else Nothing

-- the connection may serve another request
abbrev pub is_kept : Behind → State → Bool
is_kept Nothing (states.Done keep) = keep
is_kept behind state = false

-- the connection may serve another request: the response leaves it so, with nothing behind it
abbrev pub leaves_open : Option Response → Bool
leaves_open (Some (Served keep)) = keep
leaves_open _ = false

abbrev pub keeps : Heard → Bool → Bool
keeps heard ended = leaves_open heard.ending && is_none heard.rest && not ended

abbrev pub place_of : Uri → Place
place_of uri = record { host = uri.host; port = uri.port }

abbrev pub kept_if : Bool → Uri → Option Place
kept_if keep uri = if keep then Some (place_of uri) else None

abbrev pub kept_for : Uri → Heard → Bool → Option Place
kept_for uri heard ended = kept_if (keeps heard ended) uri

-- it is kept for a URI's host and port
abbrev pub is_for : Option Place → Uri → Bool
is_for None uri = false
is_for (Some place) uri = bytes_eq place.host uri.host && place.port == uri.port

-- what was said on a connection on which a request was sent whole and the peer ended before a byte of its response
abbrev pub ended_at_once : Job → Option Talk → Option Talk
ended_at_once job talk = option_map (λ before. asked before job [] true) talk

-- What was said on the connection before the one that a fetch makes: on the one that was kept for its host and port the
-- peer ended at once; where none was, nothing was said since.
abbrev pub before_anew : Option Place → Job → Option Talk → Option Talk
before_anew kept job talk = if is_for kept job.uri then ended_at_once job talk else talk

abbrev pub IsServed : Option Response → Type 0
IsServed (Some (Served keep)) = Unit {0}
IsServed _ = ⊥

-- the last word to a fetch is what is heard
abbrev pub IsSaid : Uri → List ℕ → Heard → Word → Type 0
IsSaid uri given heard (Piece place bytes) = ⊥
IsSaid uri given heard (Done size) = IsServed heard.ending × (heard.body ≡ given)
IsSaid uri given heard (Not end) = IsReply uri given heard.ending heard.body (replies.Not end)
IsSaid uri given heard NoMemory = IsReply uri given heard.ending heard.body replies.NoMemory

-- The last word: what is heard of all bytes received since the request, and of whether a `receive` gave 0. The body is
-- what was given out. The connection is kept exactly behind a whole response that leaves it open, with nothing behind it.
pub record Ends (line : Line) (job : Job) (before : Talk) (given : List ℕ) (word : Word) (kept : Option Place) : Type 0 where
  pub heard : Heard
  pub bytes : List ℕ
  pub ended : Bool
  pub is : IsHeard job.max job.from bytes ended heard
  pub told : IsAsked line before job bytes ended
  pub says : IsSaid job.uri given heard word
  pub keeps_is : kept ≡ kept_for job.uri heard ended

-- a piece goes on with the same job
abbrev pub GoesOn : Line → Job → Talk → List ℕ → Option Reading → Type 0
GoesOn line job before given None = ⊥
GoesOn line job before given (Some reading) = (reading.fetch.job ≡ job) × Reads line reading before given

-- What a word says of the bytes received since the request. A fault and want of memory say nothing of them.
abbrev pub Hears : Line → Job → Talk → List ℕ → Word → Option Place → Option Reading → Type 0
Hears line job before given (Piece place bytes) kept reading = GoesOn line job before (given ++ bytes) reading
Hears line job before given (Done size) kept reading = Ends line job before given (Done size) kept
Hears line job before given (Not (nots.Moved place)) kept reading = Ends line job before given (Not (nots.Moved place)) kept
Hears line job before given (Not (nots.Absent status)) kept reading = Ends line job before given (Not (nots.Absent status)) kept
Hears line job before given (Not nots.TooBig) kept reading = Ends line job before given (Not nots.TooBig) kept
Hears line job before given (Not (nots.Garbled at)) kept reading = Ends line job before given (Not (nots.Garbled at)) kept
Hears line job before given (Not (nots.Fault told_before told_after)) kept reading = Unit {0}
Hears line job before given NoMemory kept reading = Unit {0}

abbrev pub HearsSo : Line → Job → Talk → List ℕ → Said → Type 0
HearsSo line job before given said = Hears line job before given said.word said.kept said.reading

-- what is said next to a response that is being read
pub record SaysOn (line : Line) (reading : Reading) (later : Line) (said : Said) : Type 0 where
  pub is : (before : Talk) (given : List ℕ) → Reads line reading before given → HearsSo later reading.fetch.job before given said

-- a piece is said of a reading that gave out its bytes
pub record GivesOn (line : Line) (reading : Reading) (later : Line) (piece : List ℕ) (said : Said) : Type 0 where
  pub is : (before : Talk) (given : List ℕ) → Reads line reading before (given ++ piece) → HearsSo later reading.fetch.job before given said

-- the first word, on the connection that was kept for the URI's host and port, or on a new one
pub record BeginsOn (line : Line) (kept : Option Place) (later : Line) (job : Job) (said : Said) : Type 0 where
  pub is : ((is_for kept job.uri ≡ true) × HearsSo later job (unwrap_or line.talk silent) [] said) ⊎ HearsSo later job silent [] said

-- the first word on a new connection
pub record BeginsAnew (later : Line) (job : Job) (said : Said) : Type 0 where
  pub is : HearsSo later job silent [] said

-- the first word on the connection that is open, or on a new one
pub record BeginsAgain (line later : Line) (job : Job) (said : Said) : Type 0 where
  pub is : HearsSo later job (unwrap_or line.talk silent) [] said ⊎ HearsSo later job silent [] said

-- on the connection to this place no `receive` gave 0, and another request may be sent
pub record IsOpen (line : Line) (place : Place) : Type 0 where
  pub told : IfSome line.talk (λ talk. talk.ended ≡ false)
  pub ready : IfSome line.world (λ entries. line.due ≡ Some (fresh place.host place.port))

-- whether the connection is open behind a word: where it is kept, or, while a response is read, where its peer hasn't ended
abbrev pub is_open_for : Option Place → Option Reading → Bool
is_open_for kept None = is_some kept
is_open_for kept (Some reading) = not (is_end reading.behind)

-- the connection that is kept is open, and so is the one that a response is read from, until its peer ends
pub record StandsOpen (opened : Bool) (kept : Option Place) (reading : Option Reading) : Type 0 where
  pub kept_is : IfSome kept (λ _. opened ≡ true)
  pub reads_on : IfSome reading (λ one. opened ≡ not (is_end one.behind))

-- what a method keeps
pub record Keeps (line : Line) (kept : Option Place) (reading : Option Reading) : Type 0 where
  pub reads : IfSome reading (λ one. IsReading line one [])
  pub open_is : IfSome kept (IsOpen line)
  pub one : IsSome reading → kept ≡ None

abbrev pub under_of : Option Reading → Option Fetch
under_of None = None
under_of (Some reading) = Some reading.fetch

-- a word to a fetch, told of a mirror
pub record IsMirrorsWord (world : Option MirrorMap) (fetch : Fetch) (said : Said) : Type 0 where
  pub is : (n : ℕ) → IsWord n n world fetch (under_of said.reading) said.word

abbrev pub is_http : Scheme → Bool
is_http Http = true
is_http File = false

-- a mirror that has no `file` URI
abbrev pub has_no_file : MirrorMap → Bool
has_no_file [] = true
has_no_file (entry ∷ entries) = is_http entry.0.scheme && has_no_file entries

-- a method over HTTP tells the mirror of its link, where that has no `file` URI
abbrev pub world_of : Option MirrorMap → Option MirrorMap
world_of None = None
world_of (Some entries) = if has_no_file entries then Some entries else None

-- a whole file ends in its size, and what else is heard is said
abbrev pub word_of : ℕ → Reply → Word
word_of size (replies.Served bytes) = Done size
word_of size (replies.Not end) = Not end
word_of size replies.NoMemory = NoMemory

abbrev pub is_file : Reply → Bool
is_file (replies.Served bytes) = true
is_file reply = false

-- a word that stands for bytes of a peer, or for its end
abbrev pub IsFromPeer : Word → Type 0
IsFromPeer (Piece place bytes) = Unit {0}
IsFromPeer (Done size) = Unit {0}
IsFromPeer (Not (nots.Moved place)) = Unit {0}
IsFromPeer (Not (nots.Absent status)) = Unit {0}
IsFromPeer (Not nots.TooBig) = Unit {0}
IsFromPeer (Not (nots.Garbled at)) = Unit {0}
IsFromPeer (Not (nots.Fault told_before told_after)) = ⊥
IsFromPeer NoMemory = ⊥

-- a connection is kept only behind a whole file
abbrev pub IsKeptBehind : Word → Option Place → Type 0
IsKeptBehind (Piece place bytes) kept = kept ≡ None
IsKeptBehind (Done size) kept = Unit {0}
IsKeptBehind (Not end) kept = kept ≡ None
IsKeptBehind NoMemory kept = kept ≡ None

-- what is said, and kept, where a piece was given out
abbrev pub part_of : Reading → List ℕ → Said
part_of reading bytes = record {
  word = Piece reading.fetch.at bytes;
  kept = None;
  reading = Some (record { fetch = record { job = reading.fetch.job; at = reading.fetch.at + length bytes }; wire = reading.wire; behind = reading.behind });
}
