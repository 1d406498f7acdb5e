-- What the head of a response means (RFC 9110, section 15; RFC 9112, section 6.3).
use Rattle.std.specs.Prelude.{ℕ, ◌==◌, ◌&&◌, ◌||◌, not, nat_le, nat_lt, Bool, false, if◌then◌else◌, List, [], ◌∷◌, codes, Option, Some, None}
use Rattle.std.specs.List.{list_all, list_any}
use Rattle.http_wire.specs.declared.meaning.Framing.{Framing}
use Rattle.http_wire.specs.declared.meaning.Framing.TheVariants.{Chunks, Counted, Unbounded}
use Rattle.http_wire.specs.declared.meaning.Meaning.{Meaning}
use Rattle.http_wire.specs.declared.meaning.Meaning.TheVariants.{Interim, Absent, Moved, Wrong, Body}
use Rattle.http_wire.specs.Fields.{Fields, values, same_word, number, is_range, has_close}

-- this number, whatever the digits that write it
abbrev pub says : ℕ → Option ℕ → Bool
says size None = false
says size (Some n) = n == size

abbrev pub counted : Option ℕ → List (List ℕ) → Option Framing
counted None others = None
counted (Some size) others = if list_all (λ other. says size (number other)) others then Some (Counted size) else None

-- by the values of Content-Length, which mustn't differ
abbrev pub framing_by_length : List (List ℕ) → Option Framing
framing_by_length [] = Some Unbounded
framing_by_length (size ∷ others) = counted (number size) others

-- How a body ends, by the values of Transfer-Encoding and of Content-Length, of which the second aren't looked at where
-- there is one of the first.
abbrev pub framing : List (List ℕ) → List (List ℕ) → Option Framing
framing [] sizes = framing_by_length sizes
framing (coding ∷ []) sizes = if same_word coding (codes "chunked") then Some Chunks else None
framing (coding ∷ another ∷ more) sizes = None

abbrev pub framed : Option Framing → Bool → Meaning
framed None keep = Wrong
framed (Some how) keep = Body how keep

-- the connection may serve another request, by version and fields
abbrev pub is_kept : ℕ → Fields → Bool
is_kept minor fields = (minor == 1) && not (list_any has_close (values (codes "connection") fields))

unfoldable pub body_of : ℕ → Fields → Meaning
body_of minor fields =
    framed (framing (values (codes "transfer-encoding") fields) (values (codes "content-length") fields)) (is_kept minor fields)

-- of several places the first counts
abbrev pub moved : ℕ → List (List ℕ) → Meaning
moved status [] = Absent status
moved status (place ∷ others) = Moved place

abbrev pub is_one_range : ℕ → List (List ℕ) → Bool
is_one_range from [] = false
is_one_range from (value ∷ []) = is_range from value
is_one_range from (value ∷ another ∷ more) = false

abbrev pub is_redirect : ℕ → Bool
is_redirect status = (status == 301) || (status == 302) || (status == 303) || (status == 307) || (status == 308)

-- a part of the file, where it begins at that byte
abbrev pub part_of : ℕ → ℕ → Fields → Meaning
part_of from minor fields = if is_one_range from (values (codes "content-range") fields) then body_of minor fields else Wrong

-- what a head says to a request for a file from a byte on
unfoldable pub meaning : ℕ → ℕ → ℕ → Fields → Meaning
meaning from status minor fields =
    if nat_le 100 status && nat_lt status 200 then Interim
    else if status == 200 then (if from == 0 then body_of minor fields else Absent 200)
    else if status == 206 then (if from == 0 then Wrong else part_of from minor fields)
    else if is_redirect status then moved status (values (codes "location") fields)
    else Absent status
