-- What a method says (APT's method interface, messages 100 to 401).
use Rattle.std.specs.Prelude.{ℕ, nat_le, Bool, true, false, if◌then◌else◌, List, [], ◌∷◌, ◌++◌, length, codes, bytes_eq, Option, Some, None}
use Rattle.std.specs.Fmt.{decimal}
use Rattle.std.specs.List.{flat_map}
use Rattle.hex.specs.Hex.{encode_lower}
use Rattle.acq_base.specs.Sum.{sum_of}
use Rattle.acq_base.specs.Uri.{uri_text}
use Rattle.acq_base.specs.declared.fetch.NotServed.{NotServed}
use Rattle.acq_base.specs.declared.fetch.NotServed.TheVariants.{Moved, Absent, TooBig, Garbled, Fault}
use Rattle.acq_base.specs.declared.fetch.Reply.{Reply}
use Rattle.acq_base.specs.declared.fetch.Reply.TheVariants.{Served, Not, NoMemory}
use Rattle.acq_base.specs.declared.sum.Sha.{Sha}
use Rattle.acq_base.specs.declared.sum.Sum.{Sum}
use Rattle.method_messages.specs.declared.message.Message.{Message}
use Rattle.method_messages.specs.Written.{field_text, written}
use Rattle.method_server.specs.Asked.{value_of}
use Rattle.method_server.specs.declared.wish.Wish.{Wish}

abbrev pub Fields : Type 0
Fields = List (List ℕ × List ℕ)

-- the text of a message
abbrev pub told : ℕ → List ℕ → Fields → List ℕ
told number text fields = written (record { number = number; text = text; fields = fields })

-- ---- around the answers

-- the first message: what the method can do
abbrev pub capabilities : List ℕ
capabilities = told 100 (codes "Capabilities") ((codes "Version", codes "1.0") ∷ [])

-- the last message, where the stream is refused or breaks off within a message that begins here
unfoldable pub general_failure : ℕ → List ℕ
general_failure at = told 401 (codes "General Failure") ((codes "Message", codes "bad message " ++ decimal at) ∷ [])

-- ---- no file

abbrev pub failed : Fields → List ℕ → List ℕ
failed fields why = told 400 (codes "URI Failure") (fields ++ (codes "Message", why) ∷ [])

-- a text is repeated where it isn't longer than a URI may be
abbrev pub repeated : Option (List ℕ) → Fields
repeated None = []
repeated (Some text) = if nat_le (length text) 4096 then (codes "URI", text) ∷ [] else []

-- fields, a line each
abbrev pub fields_text : Fields → List ℕ
fields_text fields = flat_map field_text fields

unfoldable pub bad_request : Message → List ℕ
bad_request message = failed (repeated (value_of (codes "URI") message)) (codes "bad request")

unfoldable pub failure : Wish → List ℕ → List ℕ
failure wish why = failed ((codes "URI", wish.text) ∷ []) why

unfoldable pub redirect : Wish → List ℕ → List ℕ
redirect wish to = told 103 (codes "Redirect") ((codes "URI", wish.text) ∷ (codes "New-URI", to) ∷ [])

abbrev pub not_served : Wish → NotServed → List ℕ
not_served wish (Moved (Some to)) = redirect wish (uri_text to)
not_served wish (Moved None) = failure wish (codes "bad redirect")
not_served wish (Absent status) = failure wish (codes "status " ++ decimal status)
not_served wish TooBig = failure wish (codes "too big")
not_served wish (Garbled at) = failure wish (codes "garbled at " ++ decimal at)
not_served wish (Fault before after) = failure wish (codes "fault")

-- ---- a file

unfoldable pub start : Wish → List ℕ
start wish = told 200 (codes "URI Start") ((codes "URI", wish.text) ∷ [])

unfoldable pub done : Wish → Sum → List ℕ
done wish sum =
    told 201 (codes "URI Done") ((codes "URI", wish.text) ∷ (codes "Filename", wish.name) ∷ (codes "Size", decimal sum.size) ∷ (codes "SHA256-Hash", encode_lower sum.sha.0) ∷ [])

abbrev pub differs : Option Sha → Sha → Bool
differs None sha = false
differs (Some wanted) sha = if bytes_eq wanted.0 sha.0 then false else true

-- of a file with this sum
abbrev pub served : Wish → Sum → List ℕ
served wish sum = if differs wish.wanted sum.sha then failure wish (codes "hash mismatch") else start wish ++ done wish sum

-- the answer by what the method replies; want of memory has none
abbrev pub reply_text : Wish → Reply → Option (List ℕ)
reply_text wish (Served bytes) = Some (served wish (sum_of bytes))
reply_text wish (Not end) = Some (not_served wish end)
reply_text wish NoMemory = None
