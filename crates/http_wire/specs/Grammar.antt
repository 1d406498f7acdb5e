-- Whole responses as the grammar of RFC 9112 has them: interim heads, a final head, and a body that it frames.
use Rattle.std.specs.Prelude.{◌≡◌, ℕ, ◌+◌, ◌<◌, ◌≤◌, Bool, List, ◌++◌, length, map, All, Some}
use Rattle.std.specs.List.{flat_map}
use Rattle.httparse.specs.Ascii.{crlf_bytes}
use Rattle.httparse.specs.Grammar.{ResponseHead, print_response, status_code, ChunkLine, print_chunk_line, chunk_size, print_section}
use Rattle.httparse.specs.Spans.{name_and_value}
use Rattle.http_wire.specs.declared.meaning.Framing.{Framing}
use Rattle.http_wire.specs.declared.meaning.Framing.TheVariants.{Chunks, Counted, Unbounded}
use Rattle.http_wire.specs.declared.meaning.Meaning.{Meaning}
use Rattle.http_wire.specs.declared.meaning.Meaning.TheVariants.{Interim, Body}
use Rattle.http_wire.specs.Meaning.{meaning}
use Rattle.http_wire.specs.Forms.{head_form, size_form, Trailers, trailer_form}
use Rattle.http_wire.specs.declared.ending.Response.TheVariants.{Served}
use Rattle.http_wire.specs.Stream.{start_of, Heard, hear}

-- what a head says to the request
abbrev pub says : ℕ → ResponseHead → Meaning
says from h = meaning from (status_code h) h.minor (map name_and_value h.fields)

-- a head within the limits that says so
pub record Says (from : ℕ) (what : Meaning) (h : ResponseHead) : Type 0 where
  pub valid : head_form.valid h
  pub fits : head_form.fits h
  pub is : says from h ≡ what

-- a chunk: its size line and its bytes (section 7.1)
abbrev pub ChunkOf : Type 0
ChunkOf = ChunkLine × List ℕ

pub record IsChunk (c : ChunkOf) : Type 0 where
  pub valid : size_form.valid c.0
  pub fits : size_form.fits c.0
  pub some : 0 < chunk_size c.0
  pub size : length c.1 ≡ chunk_size c.0

abbrev pub chunk_text : ChunkOf → List ℕ
chunk_text c = print_chunk_line c.0 ++ (c.1 ++ crlf_bytes)

abbrev pub chunk_bytes : ChunkOf → List ℕ
chunk_bytes c = c.1

-- a body in chunks, with the last chunk's line and the trailers
pub record IsChunked (text body : List ℕ) : Type 0 where
  pub chunks : List ChunkOf
  pub each : All IsChunk chunks
  pub last : ChunkLine
  pub last_valid : size_form.valid last
  pub last_fits : size_form.fits last
  pub last_size : chunk_size last ≡ 0
  pub trailers : Trailers
  pub trailers_valid : trailer_form.valid trailers
  pub trailers_fit : trailer_form.fits trailers
  pub text_is : text ≡ flat_map chunk_text chunks ++ (print_chunk_line last ++ print_section trailers.0 trailers.1)
  pub body_is : body ≡ flat_map chunk_bytes chunks

-- a body whose end is known without the connection's
abbrev pub IsFramed : Framing → List ℕ → List ℕ → Type 0
IsFramed Chunks text body = IsChunked text body
IsFramed (Counted size) text body = (text ≡ body) × (length body ≡ size)
IsFramed Unbounded text body = ⊥

-- a whole response to a request for a file of at most `max` bytes, from a byte on
pub record IsResponse (max from : ℕ) (text : List ℕ) (keep : Bool) (start : ℕ) (body : List ℕ) : Type 0 where
  pub interims : List ResponseHead
  pub few : length interims ≤ 16
  pub each : All (Says from Interim) interims
  pub head : ResponseHead
  pub how : Framing
  pub final : Says from (Body how keep) head
  pub body_text : List ℕ
  pub framed : IsFramed how body_text body
  pub text_is : text ≡ flat_map print_response interims ++ (print_response head ++ body_text)
  pub start_is : start ≡ start_of from (status_code head)
  pub within : start + length body ≤ max

-- what is heard of a whole response and the bytes behind it
abbrev pub served : Bool → ℕ → List ℕ → List ℕ → Heard
served keep start body rest = hear (Some (Served keep)) start body rest
