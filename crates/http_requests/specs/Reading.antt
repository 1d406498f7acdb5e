-- What a server reads of a text.
use Rattle.std.specs.Prelude.{◌≡◌, ℕ, ◌≤◌, List, length, drop}
use Rattle.httparse.specs.Grammar.{RequestHead}
use Rattle.httparse.specs.Spans.{IsRequestAt, IsRequestWithin}
use Rattle.httparse.specs.declared.spans.HeaderSpan.{HeaderSpan}
use Rattle.httparse.specs.declared.spans.RequestSpans.{RequestSpans}
use Rattle.http_wire.specs.Forms.{Whole}
use Rattle.http_requests.specs.Heads.{request_form, IsUnfinished, IsBad}
use Rattle.http_requests.specs.Asked.{request_of}
use Rattle.http_requests.specs.declared.head.Found.{Found}
use Rattle.http_requests.specs.declared.head.Found.TheVariants as founds
use Rattle.http_requests.specs.declared.reading.Reading.{Reading}
use Rattle.http_requests.specs.declared.reading.Reading.TheVariants as readings
use Rattle.http_requests.specs.declared.request.Request.{Request}

-- the text begins with a head of so many bytes, and this is what that asks for
pub record IsRequestRead (text : List ℕ) (len : ℕ) (request : Request) : Type 0 where
  pub head : RequestHead
  pub whole : Whole request_form text head (drop len text)
  pub within : len ≤ length text
  pub asks : request ≡ request_of head

abbrev pub IsReading : List ℕ → Reading → Type 0
IsReading text readings.More = IsUnfinished text
IsReading text readings.Bad = IsBad text
IsReading text (readings.Whole len request) = IsRequestRead text len request

-- the same of a head whose parts stand at these spans
pub record IsHeadAt (text : List ℕ) (spans : List HeaderSpan) (head : RequestSpans) : Type 0 where
  pub is : RequestHead
  pub whole : Whole request_form text is (drop head.len text)
  pub at : IsRequestAt text spans head is
  pub within : IsRequestWithin text spans head

abbrev pub IsFound : List ℕ → List HeaderSpan → Found → Type 0
IsFound text spans founds.More = IsUnfinished text
IsFound text spans founds.Bad = IsBad text
IsFound text spans (founds.Whole head) = IsHeadAt text spans head
