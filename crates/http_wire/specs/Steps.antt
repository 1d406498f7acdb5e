-- What the functions of a wire do to its state: each step as a function of the state, the bytes and what was read in them.
use Rattle.std.specs.Prelude.{◌≡◌, ◌⊎◌, ℕ, ◌+◌, ◌-◌, ◌==◌, nat_lt, Bool, true, false, if◌then◌else◌, List, [], ◌∷◌, ◌++◌, length, drop, map, Some}
use Rattle.httparse.specs.Grammar.{ResponseHead, status_code, ChunkLine, chunk_size}
use Rattle.httparse.specs.declared.spans.HeaderSpan.{HeaderSpan}
use Rattle.httparse.specs.Spans.{name_and_value, IsResponseAt, IsResponseWithin}
use Rattle.http_wire.specs.declared.ending.Response.{Response}
use Rattle.http_wire.specs.declared.ending.Response.TheVariants.{Served, Absent, Moved, TooBig, Garbled}
use Rattle.http_wire.specs.declared.meaning.Framing.{Framing}
use Rattle.http_wire.specs.declared.meaning.Framing.TheVariants as framings
use Rattle.http_wire.specs.declared.meaning.Meaning.{Meaning}
use Rattle.http_wire.specs.declared.meaning.Meaning.TheVariants as meanings
use Rattle.http_wire.specs.declared.phase.Phase.{Phase}
use Rattle.http_wire.specs.declared.phase.Phase.TheVariants as phases
use Rattle.http_wire.specs.declared.reading.HeadSpans.{HeadSpans}
use Rattle.http_wire.specs.declared.reading.HeadSpans.TheVariants as found
use Rattle.http_wire.specs.declared.reading.HeadRead.{HeadRead}
use Rattle.http_wire.specs.declared.reading.HeadRead.TheVariants as heads
use Rattle.http_wire.specs.declared.reading.SizeRead.{SizeRead}
use Rattle.http_wire.specs.declared.reading.SizeRead.TheVariants as sizes
use Rattle.http_wire.specs.declared.reading.TrailersRead.{TrailersRead}
use Rattle.http_wire.specs.declared.reading.TrailersRead.TheVariants as trails
use Rattle.http_wire.specs.Meaning.{meaning}
use Rattle.std.specs.List.{list_any}
use Rattle.http_wire.specs.Forms.{is_line_feed, Whole, Unfinished, Bad, head_form, size_form, Trailers, trailer_form}
use Rattle.http_wire.specs.Stream.{capped, start_of, announced}
use Rattle.http_wire.specs.State.{WireState}
use Rattle.http_wire.specs.Wire.{Follows}

-- the wire took these bytes
abbrev pub Moves : WireState → WireState → List ℕ → Type 0
Moves before after took =
    (max from : ℕ) (given bytes : List ℕ) → Follows before max from given bytes false → Follows after max from given (bytes ++ took) false

-- the wire was told that the peer has ended
abbrev pub Closes : WireState → WireState → Type 0
Closes before after =
    (max from : ℕ) (given bytes : List ℕ) → Follows before max from given bytes false → Follows after max from given bytes true

-- ---- what is read in a text

abbrev pub IsHeadAt : List ℕ → List HeaderSpan → HeadSpans → Type 0
IsHeadAt text spans found.More = Unfinished head_form text
IsHeadAt text spans found.Bad = Bad head_form text
IsHeadAt text spans (found.Whole head) =
    (h : ResponseHead) × Whole head_form text h (drop head.len text) × IsResponseAt text spans head h × IsResponseWithin text spans head

abbrev pub IsHeadRead : ℕ → List ℕ → HeadRead → Type 0
IsHeadRead from text heads.More = Unfinished head_form text
IsHeadRead from text heads.Bad = Bad head_form text
IsHeadRead from text (heads.Whole status says) =
    (h : ResponseHead) × (rest : List ℕ) × Whole head_form text h rest × (status ≡ status_code h) × (says ≡ meaning from (status_code h) h.minor (map name_and_value h.fields))

abbrev pub IsSizeRead : List ℕ → SizeRead → Type 0
IsSizeRead text sizes.More = Unfinished size_form text
IsSizeRead text sizes.Bad = Bad size_form text
IsSizeRead text (sizes.Whole size) = (l : ChunkLine) × (rest : List ℕ) × Whole size_form text l rest × (size ≡ chunk_size l)

abbrev pub AreTrailersRead : List ℕ → TrailersRead → Type 0
AreTrailersRead text trails.More = Unfinished trailer_form text
AreTrailersRead text trails.Bad = Bad trailer_form text
AreTrailersRead text trails.Whole = (t : Trailers) × (rest : List ℕ) × Whole trailer_form text t rest

-- ---- steps

abbrev pub stopped : Response → WireState → WireState
stopped how w = record w { ending = Some how }

abbrev pub garbled : WireState → WireState
garbled w = stopped (Garbled w.place) w

-- the peer ended in the middle of a part
abbrev pub cut_off : WireState → WireState
cut_off w = stopped (Garbled w.count) w

abbrev pub counted : ℕ → WireState → WireState
counted n w = record w { count = capped (w.count + n) }

-- the next part begins behind the last byte
abbrev pub marked : Phase → WireState → WireState
marked next w = record w { place = w.count; part = []; blank = 0; named = false; valued = false; phase = next }

abbrev pub joined : List ℕ → WireState → WireState
joined front w = record w { part = w.part ++ front; count = capped (w.count + length front) }

-- where the text of lines stops is known so, or not
abbrev pub settled : Bool → Bool → WireState → WireState
settled named valued w = record w { named = named; valued = valued }

-- empty lines before a head are passed over
abbrev pub blank_passed : WireState → WireState
blank_passed w = record w { blank = length w.part }

-- a text of lines that isn't whole yet is too long
abbrev pub in_line : ℕ → WireState → WireState
in_line most w = if nat_lt most (length w.part) then garbled w else w

abbrev pub sized_body : ℕ → Bool → WireState → WireState
sized_body size keep w = if size == 0 then stopped (Served keep) (marked (phases.Counted size) w) else marked (phases.Counted size) w

abbrev pub body_framed : Framing → Bool → WireState → WireState
body_framed framings.Chunks keep w = marked phases.SizeLine w
body_framed (framings.Counted size) keep w = sized_body size keep w
body_framed framings.Unbounded keep w = marked phases.Unbounded w

abbrev pub body_begun : Framing → Bool → WireState → WireState
body_begun how keep w =
    if nat_lt w.max (w.start + announced how) then stopped TooBig w
    else body_framed how keep (record w { reached = w.start; keep = keep })

abbrev pub head_ended : Meaning → WireState → WireState
head_ended meanings.Interim w = garbled w
head_ended (meanings.Absent status) w = stopped (Absent status) w
head_ended (meanings.Moved place) w = stopped (Moved place) w
head_ended meanings.Wrong w = garbled w
head_ended (meanings.Body how keep) w = body_begun how keep w

abbrev pub final_head : ℕ → Meaning → WireState → WireState
final_head status says w = head_ended says (record w { start = start_of w.from status })

abbrev pub head_whole : ℕ → ℕ → Meaning → WireState → WireState
head_whole passed status meanings.Interim w =
    if nat_lt passed 16 then marked (phases.Heads (passed + 1)) w else final_head status meanings.Interim w
head_whole passed status (meanings.Absent other) w = final_head status (meanings.Absent other) w
head_whole passed status (meanings.Moved place) w = final_head status (meanings.Moved place) w
head_whole passed status meanings.Wrong w = final_head status meanings.Wrong w
head_whole passed status (meanings.Body how keep) w = final_head status (meanings.Body how keep) w

abbrev pub head_read : ℕ → HeadRead → WireState → WireState
head_read passed heads.More w = w
head_read passed heads.Bad w = garbled w
head_read passed (heads.Whole status says) w = head_whole passed status says w

abbrev pub size_read : SizeRead → WireState → WireState
size_read sizes.More w = w
size_read sizes.Bad w = garbled w
size_read (sizes.Whole size) w = if size == 0 then marked phases.Trailing w else marked (phases.Chunk size) w

abbrev pub trailers_read : TrailersRead → WireState → WireState
trailers_read trails.More w = w
trailers_read trails.Bad w = garbled w
trailers_read trails.Whole w = stopped (Served w.keep) w

-- bytes of a body of a known size, of which so many were to come
abbrev pub sized_taken : ℕ → List ℕ → WireState → WireState
sized_taken left front w =
    let v : WireState = record w { body = w.body ++ front; count = capped (w.count + length front); phase = phases.Counted (left - length front) } in
    if left == length front then stopped (Served w.keep) v else v

-- bytes of a body without a known size
abbrev pub free_taken : List ℕ → WireState → WireState
free_taken front w =
    if nat_lt (w.max - w.reached) (length front) then stopped TooBig w
    else record w { body = w.body ++ front; count = capped (w.count + length front); reached = w.reached + length front }

-- bytes of a chunk of which so many were to come
abbrev pub chunk_taken : ℕ → List ℕ → WireState → WireState
chunk_taken left front w =
    if nat_lt (w.max - w.reached) (length front) then stopped TooBig w
    else (let v : WireState = record w { body = w.body ++ front; count = capped (w.count + length front); reached = w.reached + length front; phase = phases.Chunk (left - length front) } in
    if left == length front then marked phases.ChunkCr v else v)

-- the bytes behind a chunk
abbrev pub return_taken : ℕ → WireState → WireState
return_taken b w = if b == 13 then record w { count = capped (w.count + 1); phase = phases.ChunkLf } else garbled w

abbrev pub feed_taken : ℕ → WireState → WireState
feed_taken b w = if b == 10 then marked phases.SizeLine (counted 1 w) else garbled w

-- ---- lines

-- an empty line
abbrev pub IsEmptyLine : List ℕ → Type 0
IsEmptyLine line = (line ≡ 10 ∷ []) ⊎ (line ≡ 13 ∷ 10 ∷ [])

-- ---- fronts of a piece

-- up to the first line feed, or without one
abbrev pub IsFront : Bool → List ℕ → Type 0
IsFront true front = (line : List ℕ) × (front ≡ line ++ 10 ∷ []) × (list_any is_line_feed line ≡ false)
IsFront false front = list_any is_line_feed front ≡ false
