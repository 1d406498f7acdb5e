-- What is heard of a peer's stream, whole and cut: a response is read in parts, each of which says what comes next, until
-- one stops the reading.
use Rattle.std.specs.Prelude.{◌≡◌, ℕ, ◌+◌, ◌-◌, ◌^◌, ◌<◌, ◌≤◌, ◌⊎◌, ◌==◌, min, nat_lt, zero, suc, Bool, true, false, if◌then◌else◌, List, [], ◌∷◌, ◌++◌, length, take, map, Option, Some, None}
use Rattle.httparse.specs.Grammar.{ResponseHead, status_code, ChunkLine, chunk_size}
use Rattle.httparse.specs.Spans.{name_and_value}
use Rattle.http_wire.specs.declared.meaning.Framing.{Framing}
use Rattle.http_wire.specs.declared.meaning.Framing.TheVariants as framings
use Rattle.http_wire.specs.declared.meaning.Meaning.{Meaning}
use Rattle.http_wire.specs.declared.meaning.Meaning.TheVariants as meanings
use Rattle.http_wire.specs.declared.ending.Response.{Response}
use Rattle.http_wire.specs.declared.ending.Response.TheVariants.{Served, Absent, Moved, TooBig, Garbled}
use Rattle.http_wire.specs.Meaning.{meaning}
use Rattle.http_wire.specs.Forms.{Form, Whole, Unfinished, Bad, head_form, size_form, Trailers, trailer_form}

-- A place in a stream: behind so many interim heads; or in a body that begins at a byte of the file, with what of it has
-- been read, and whether the connection is kept behind it.
pub data Stage : Type 0 where
  Heads : (passed : ℕ) → Stage
  Counted : (start : ℕ) → (keep : Bool) → (size : ℕ) → Stage
  Unbounded : (start : ℕ) → Stage
  SizeLine : (start : ℕ) → (keep : Bool) → (body : List ℕ) → Stage
  Chunk : (start : ℕ) → (keep : Bool) → (body : List ℕ) → (size : ℕ) → Stage
  Closing : (start : ℕ) → (keep : Bool) → (body : List ℕ) → Stage
  Trailing : (start : ℕ) → (keep : Bool) → (body : List ℕ) → Stage

-- what is heard: how the reading ends, if it does; where in the file the body begins; the body so far; and the bytes
-- behind what was read
pub record Heard : Type 0 where
  pub ending : Option Response
  pub start : ℕ
  pub body : List ℕ
  pub rest : List ℕ

abbrev pub hear : Option Response → ℕ → List ℕ → List ℕ → Heard
hear how from bytes behind = record { ending = how; start = from; body = bytes; rest = behind }

-- what is heard where more bytes follow
abbrev pub followed : Heard → List ℕ → Heard
followed heard more = hear heard.ending heard.start heard.body (heard.rest ++ more)

-- a count that stands at the greatest u64
abbrev pub capped : ℕ → ℕ
capped n = min n (2 ^ 64 - 1)

-- what a head leads to
pub data Next : Type 0 where
  Goes : Stage → Next
  Ends : Response → Next
  Breaks : Next

-- the bytes that a body is known to have
abbrev pub announced : Framing → ℕ
announced framings.Chunks = 0
announced (framings.Counted size) = size
announced framings.Unbounded = 0

abbrev pub stage_of : Framing → ℕ → Bool → Stage
stage_of framings.Chunks start keep = SizeLine start keep []
stage_of (framings.Counted size) start keep = Counted start keep size
stage_of framings.Unbounded start keep = Unbounded start

abbrev pub next_of : ℕ → ℕ → ℕ → Meaning → Next
next_of max passed start meanings.Interim = if nat_lt passed 16 then Goes (Heads (passed + 1)) else Breaks
next_of max passed start (meanings.Absent status) = Ends (Absent status)
next_of max passed start (meanings.Moved place) = Ends (Moved place)
next_of max passed start meanings.Wrong = Breaks
next_of max passed start (meanings.Body how keep) = if nat_lt max (start + announced how) then Ends TooBig else Goes (stage_of how start keep)

-- a part of the file begins at the byte that was asked for, a whole one at its first
abbrev pub start_of : ℕ → ℕ → ℕ
start_of from status = if status == 206 then from else 0

unfoldable pub behind_head : ℕ → ℕ → ℕ → ResponseHead → Next
behind_head max from passed h =
    next_of max passed (start_of from (status_code h)) (meaning from (status_code h) h.minor (map name_and_value h.fields))

-- a chunk, or the trailers behind the last one
abbrev pub behind_size : ℕ → Bool → List ℕ → ℕ → Stage
behind_size start keep body zero = Trailing start keep body
behind_size start keep body (suc less) = Chunk start keep body (suc less)

-- the text begins with a whole part, behind which the reading goes on
abbrev pub Step : ℕ → ℕ → Stage → List ℕ → Stage → List ℕ → Type 0
Step max from (Heads passed) text next rest = (h : ResponseHead) × Whole head_form text h rest × (behind_head max from passed h ≡ Goes next)
Step max from (Counted start keep size) text next rest = ⊥
Step max from (Unbounded start) text next rest = ⊥
Step max from (SizeLine start keep body) text next rest = (l : ChunkLine) × Whole size_form text l rest × (next ≡ behind_size start keep body (chunk_size l))
Step max from (Chunk start keep body size) text next rest =
    (part : List ℕ) × (length part ≡ size) × (text ≡ part ++ rest) × (start + length body + size ≤ max) × (next ≡ Closing start keep (body ++ part))
Step max from (Closing start keep body) text next rest = (text ≡ 13 ∷ 10 ∷ rest) × (next ≡ SizeLine start keep body)
Step max from (Trailing start keep body) text next rest = ⊥

-- a peer that ends in the middle of a part is garbled at the count of its bytes
abbrev pub cut : Bool → ℕ → Option Response
cut true count = Some (Garbled (capped count))
cut false count = None

-- a body without a known size ends with the connection
abbrev pub closed : Bool → Option Response
closed true = Some (Served false)
closed false = None

-- the place of the first byte of a text that ends so many bytes
abbrev pub garbled_at : ℕ → List ℕ → Option Response
garbled_at count text = Some (Garbled (capped (count - length text)))

-- the reading stands in an unfinished text of lines, or before a wrong one
abbrev pub Halts : {V : Type 0} → Form V → Bool → ℕ → ℕ → List ℕ → List ℕ → Heard → Type 0
Halts form ended count start body text heard =
    (Unfinished form text × (heard ≡ hear (cut ended count) start body []))
    ⊎ (Bad form text × (heard ≡ hear (garbled_at count text) start body text))

abbrev pub EndsBehind : Next → ℕ → List ℕ → ℕ → List ℕ → Heard → Type 0
EndsBehind (Goes next) count text start rest heard = ⊥
EndsBehind (Ends how) count text start rest heard = heard ≡ hear (Some how) start [] rest
EndsBehind Breaks count text start rest heard = heard ≡ hear (garbled_at count text) start [] rest

-- no end of a line can come
abbrev pub NeverCloses : List ℕ → Type 0
NeverCloses text = (more rest : List ℕ) → ¬ (text ++ more ≡ 13 ∷ 10 ∷ rest)

-- what stands at a stage stops the reading, `count` being the number of all bytes
abbrev pub Stops : ℕ → ℕ → Bool → ℕ → Stage → List ℕ → Heard → Type 0
Stops max from ended count (Heads passed) text heard =
    Halts head_form ended count 0 [] text heard
    ⊎ ((h : ResponseHead) × (rest : List ℕ) × Whole head_form text h rest
    × EndsBehind (behind_head max from passed h) count text (start_of from (status_code h)) rest heard)
Stops max from ended count (Counted start keep size) text heard =
    ((length text < size) × (heard ≡ hear (cut ended count) start text []))
    ⊎ ((part : List ℕ) × (rest : List ℕ) × (length part ≡ size) × (text ≡ part ++ rest) × (heard ≡ hear (Some (Served keep)) start part rest))
Stops max from ended count (Unbounded start) text heard =
    ((max < start + length text) × (heard ≡ hear (Some TooBig) start [] text))
    ⊎ ((start + length text ≤ max) × (heard ≡ hear (closed ended) start text []))
Stops max from ended count (SizeLine start keep body) text heard = Halts size_form ended count start body text heard
Stops max from ended count (Chunk start keep body size) text heard =
    ((max < start + length body + length (take size text)) × (heard ≡ hear (Some TooBig) start [] text))
    ⊎ ((length text < size) × (start + length body + length text ≤ max) × (heard ≡ hear (cut ended count) start (body ++ text) []))
Stops max from ended count (Closing start keep body) text heard =
    (((text ≡ []) ⊎ (text ≡ 13 ∷ [])) × (heard ≡ hear (cut ended count) start body []))
    ⊎ (NeverCloses text × (heard ≡ hear (garbled_at count text) start body text))
Stops max from ended count (Trailing start keep body) text heard =
    Halts trailer_form ended count start body text heard
    ⊎ ((t : Trailers) × (rest : List ℕ) × Whole trailer_form text t rest × (heard ≡ hear (Some (Served keep)) start body rest))

-- so many whole parts lead from a stage to a stage, and from a text to what is left of it
abbrev pub Leads : ℕ → ℕ → ℕ → Stage → List ℕ → Stage → List ℕ → Type 0
Leads max from zero stage text last rest = (stage ≡ last) × (text ≡ rest)
Leads max from (suc fewer) stage text last rest =
    (next : Stage) × (middle : List ℕ) × Step max from stage text next middle × Leads max from fewer next middle last rest

-- What is heard of all bytes of a peer's answer to a request for a file from a byte on, of at most `max` bytes, and of
-- whether the peer has ended.
pub record IsHeard (max from : ℕ) (bytes : List ℕ) (ended : Bool) (heard : Heard) : Type 0 where
  pub parts : ℕ
  pub stage : Stage
  pub text : List ℕ
  pub leads : Leads max from parts (Heads 0) bytes stage text
  pub stops : Stops max from ended (length bytes) stage text heard
