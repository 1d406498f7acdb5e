-- What a link owes that stands for a mirror: to each request the mirror's answer, as a response.
use Rattle.std.specs.Prelude.{◌≡◌, ◌⊎◌, ℕ, ◌<◌, ◌≤◌, ◌^◌, Bool, true, List, [], ◌++◌, length, drop, Option, Some}
use Rattle.acq_base.specs.declared.fetch.Answer.{Answer}
use Rattle.acq_base.specs.declared.fetch.Answer.TheVariants as answers
use Rattle.acq_base.specs.declared.uri.Scheme.TheVariants.{Http}
use Rattle.acq_base.specs.declared.uri.Uri.{Uri}
use Rattle.acq_base.specs.Mirror.{MirrorMap, answer_at}
use Rattle.acq_base.specs.Uri.{IsSound}
use Rattle.uri_names.specs.Redirect.{resolve_of}
use Rattle.http_wire.specs.declared.ending.Response.TheVariants.{Served, Absent, Moved, TooBig}
use Rattle.http_wire.specs.Request.{request_text}
use Rattle.http_wire.specs.Stream.{Heard, hear, IsHeard}

-- The host and port of the present connection; the bytes still to come on it of the response to the last request; and
-- whether that response, where it is a whole file, leaves the connection open.
pub record Due : Type 0 where
  pub host : List ℕ
  pub port : ℕ
  pub bytes : List ℕ
  pub keep : Bool

-- nothing is due, and a request may be sent
abbrev pub fresh : List ℕ → ℕ → Due
fresh host port = record { host = host; port = port; bytes = []; keep = true }

-- what is heard of a file: it is too big; or it ends within what the request leaves out; or its bytes from there on, with
-- nothing behind them
pub data HeardFile (all : List ℕ) (max from : ℕ) (keep : Bool) (heard : Heard) : Type 0 where
  Big : (over : max < length all) → (is : heard.ending ≡ Some TooBig) → HeardFile all max from keep heard
  Short : (left_out : 0 < from) → (ends : length all ≤ from) → (is : heard.ending ≡ Some (Absent 416)) → HeardFile all max from keep heard
  Whole : (begins : (from ≡ 0) ⊎ (from < length all)) → (fits : length all ≤ max) → (is : heard ≡ hear (Some (Served keep)) from (drop from all) []) → HeardFile all max from keep heard

-- what is heard of an answer to a request for the URI, of a file of at most `max` bytes, from a byte on
abbrev pub HeardAnswer : Answer → Uri → ℕ → ℕ → Bool → Heard → Type 0
HeardAnswer (answers.Served all) uri max from keep heard = HeardFile all max from keep heard
HeardAnswer (answers.Moved to) uri max from keep heard = (place : List ℕ) × (heard.ending ≡ Some (Moved place)) × (resolve_of uri place ≡ to)
HeardAnswer (answers.Absent status) uri max from keep heard = heard.ending ≡ Some (Absent status)

-- a whole response is the mirror's answer at the URI to a request from a byte on, whatever the limit
pub record IsAnswerOf (entries : MirrorMap) (uri : Uri) (from : ℕ) (response : List ℕ) (keep : Bool) : Type 0 where
  pub is : (max : ℕ) → (from ≡ 0) ⊎ (from < max) → (heard : Heard) × IsHeard max from response true heard × HeardAnswer (answer_at entries uri) uri max from keep heard

-- what is due of a response to a request for the URI
abbrev pub owing : Uri → List ℕ → Bool → Due
owing uri bytes keep = record { host = uri.host; port = uri.port; bytes = bytes; keep = keep }

-- the mirror's answer to the request is due
pub record IsAnswered (entries : MirrorMap) (uri : Uri) (from : ℕ) (later : Option Due) : Type 0 where
  pub response : List ℕ
  pub keep : Bool
  pub is : later ≡ Some (owing uri response keep)
  pub answers : IsAnswerOf entries uri from response keep

-- A request for a sound http URI, from a byte whose number is below 2^64 on, may be sent to its host and port while nothing
-- is due and the last response left the connection open. It makes the mirror's answer due. Nothing is said of any other one.
unfoldable pub Owes : MirrorMap → List ℕ → Option Due → Option Due → Type 0
Owes entries sent before later =
    (uri : Uri) (from : ℕ) → uri.scheme ≡ Http → IsSound uri → from < 2 ^ 64 → sent ≡ request_text uri from → before ≡ Some (fresh uri.host uri.port) → IsAnswered entries uri from later

-- the bytes came of what was due, and none where nothing was
pub record Came (piece : List ℕ) (due : Due) (later : Option Due) : Type 0 where
  pub rest : List ℕ
  pub is : due.bytes ≡ piece ++ rest
  pub left : later ≡ Some (record { host = due.host; port = due.port; bytes = rest; keep = due.keep })
  pub ends : piece ≡ [] → rest ≡ []
