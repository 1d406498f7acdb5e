-- A text is one whole request or none.
use Rattle.std.proofs.Common.{◌<◌, ◌≤◌, ℕ, ap, arith, subst, List, [], length, drop, length-drop, Some, None}
use Rattle.std.proofs.lemmas.List.{drop_all}
use Rattle.http_requests.specs.Heads.{IsBad, IsUnfinished, request_form}
use Rattle.http_wire.specs.Forms.{Whole}
use Rattle.http_requests.specs.Reading.{IsRequestRead}
use Rattle.http_requests.specs.declared.request.Request.{Request}
use Rattle.http_requests.proofs.Parsed.{one_head}
use Rattle.served_link.specs.Link.{IsRequestIn}

-- nothing follows the request
pub request_read : (text : List ℕ) (len : ℕ) (request : Request) → IsRequestRead text len request → length text ≤ len → IsRequestIn text (Some request)
request_read text len request is all =
    record { head = is.head; whole = subst (Whole request_form text is.head) (drop_all len text all) is.whole; asks = is.asks }

-- more follows the request
pub more_follows : (text : List ℕ) (len : ℕ) (request : Request) → IsRequestRead text len request → len < length text → IsRequestIn text None
more_follows text len request is more h whole =
    let none = ap length (one_head text is.head h (drop len text) [] is.whole whole).1 in
    let d = length-drop len text in
    absurd (omega (arith, none, d, more))

pub unfinished : (text : List ℕ) → IsUnfinished text → IsRequestIn text None
unfinished text is h whole = is.none h [] whole

pub bad : (text : List ℕ) → IsBad text → IsRequestIn text None
bad text is h whole = is.none h [] whole

pub ruleset read = (request_read, more_follows, unfinished, bad)
