-- What a message asks of a method (APT's method interface, message 600).
use Rattle.std.specs.Prelude.{ℕ, ◌-◌, ◌^◌, ◌==◌, nat_le, Bool, true, false, if◌then◌else◌, List, [], ◌∷◌, length, map, codes, bytes_eq, Option, Some, None, option_map, option_and_then}
use Rattle.std.specs.Char.{to_ascii_lowercase}
use Rattle.std.specs.Result.{result_ok}
use Rattle.hex.specs.Hex.{decode_sized}
use Rattle.acq_base.specs.Digits.{number_of_digits}
use Rattle.acq_base.specs.declared.fetch.Job.{Job}
use Rattle.acq_base.specs.declared.sum.Sha.{Sha}
use Rattle.acq_base.specs.declared.uri.Scheme.{Scheme}
use Rattle.acq_base.specs.declared.uri.Scheme.TheVariants.{Http, File}
use Rattle.acq_base.specs.declared.uri.Uri.{Uri}
use Rattle.uri_names.specs.Reading.{read_uri_of}
use Rattle.method_messages.specs.declared.message.Message.{Message}
use Rattle.method_server.specs.declared.wish.Wish.{Wish}

-- ---- fields

-- names are compared without regard to the case of ASCII letters
abbrev pub same_name : List ℕ → List ℕ → Bool
same_name a b = bytes_eq (map to_ascii_lowercase a) (map to_ascii_lowercase b)

-- the first value under a name
abbrev pub first_value : List ℕ → List (List ℕ × List ℕ) → Option (List ℕ)
first_value name [] = None
first_value name (field ∷ fields) = if same_name field.0 name then Some field.1 else first_value name fields

abbrev pub value_of : List ℕ → Message → Option (List ℕ)
value_of name message = first_value name message.fields

-- what a value says, or the usual where there is none
abbrev pub read_or : {A : Type 0} → A → (List ℕ → Option A) → Option (List ℕ) → Option A
read_or usual read None = Some usual
read_or usual read (Some text) = read text

-- ---- what each says

abbrev pub is_http : Scheme → Bool
is_http Http = true
is_http File = false

-- a URI of the method's own scheme
abbrev pub of_scheme : Bool → Uri → Option Uri
of_scheme true uri = if is_http uri.scheme then Some uri else None
of_scheme false uri = if is_http uri.scheme then None else Some uri

abbrev pub own_uri : Bool → List ℕ → Option Uri
own_uri http text = option_and_then (of_scheme http) (result_ok (read_uri_of text))

-- the most bytes that the file may have
abbrev pub max_of : Message → Option ℕ
max_of message = read_or (2 ^ 64 - 1) number_of_digits (value_of (codes "Maximum-Size") message)

-- the digest that 64 hexadecimal digits write
abbrev pub sha_in : List ℕ → Option Sha
sha_in text = option_map (λ (digest : List ℕ). record { 0 = digest }) (result_ok (decode_sized text 32))

abbrev pub some_sha : List ℕ → Option (Option Sha)
some_sha text = option_map (λ (sha : Sha). Some sha) (sha_in text)

-- the digest that the file should have, if one is told
abbrev pub wanted_of : Message → Option (Option Sha)
wanted_of message = read_or None some_sha (value_of (codes "Expected-SHA256") message)

-- a file's name has at most 4,096 bytes
abbrev pub short_name : List ℕ → Option (List ℕ)
short_name name = if nat_le (length name) 4096 then Some name else None

-- where the file goes: over http what the message names, and else where it lies
abbrev pub name_of : Bool → Message → Uri → Option (List ℕ)
name_of true message uri = option_and_then short_name (value_of (codes "Filename") message)
name_of false message uri = Some uri.path

-- ---- a request

-- the whole file is asked for
abbrev pub job_of : Uri → ℕ → Job
job_of uri max = record { no = 0; uri = uri; max = max; from = 0 }

abbrev pub wish_with : List ℕ → Uri → Option ℕ → Option (Option Sha) → Option (List ℕ) → Option Wish
wish_with text uri (Some max) (Some wanted) (Some name) = Some (record { text = text; job = job_of uri max; wanted = wanted; name = name })
wish_with text uri _ _ _ = None

abbrev pub wish_at : Bool → Message → List ℕ → Uri → Option Wish
wish_at http message text uri = wish_with text uri (max_of message) (wanted_of message) (name_of http message uri)

abbrev pub wish_in : Bool → Message → List ℕ → Option Wish
wish_in http message text = option_and_then (wish_at http message text) (own_uri http text)

-- what a request asks for, none where it is a bad one
unfoldable pub wish_of : Bool → Message → Option Wish
wish_of http message = option_and_then (wish_in http message) (value_of (codes "URI") message)

-- 600 URI Acquire
abbrev pub is_request : Message → Bool
is_request message = message.number == 600
