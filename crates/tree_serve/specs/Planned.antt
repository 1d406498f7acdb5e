-- A response that is planned: its head, and where its body stands.
use Rattle.std.specs.Prelude.{◌≡◌, ℕ, ◌+◌, ◌^◌, ◌<◌, ◌≤◌, not, Bool, if◌then◌else◌, List, ◌++◌, length, take, drop}
use Rattle.httparse.specs.Grammar.{RequestHead}
use Rattle.acq_outside.specs.Tree.{TreeFiles}
use Rattle.http_requests.specs.Asked.{request_of}
use Rattle.http_requests.specs.declared.request.Request.{Request}
use Rattle.tree_serve.specs.Answers.{answer_to, closes}
use Rattle.tree_serve.specs.Texts.{body_length, body_start, content_at, response_to}
use Rattle.tree_serve.specs.declared.answer.Answer.{Answer}
use Rattle.tree_serve.specs.declared.answer.Answer.TheVariants.{Bad, NotAllowed, NotFound, Part, Beyond, Whole}
use Rattle.tree_serve.specs.declared.planned.Planned.{Planned}

-- by its head, its answer, whether only that head is sent, and whether the connection stays open
abbrev pub planned_by : List ℕ → List ℕ → Answer → Bool → Bool → Planned
planned_by head path answer bare keep =
    record { head = head; path = path; at = body_start answer; left = (if bare then 0 else body_length answer); keep = keep }

-- so many bytes of the file at a path, from one of them on
abbrev pub part_at : TreeFiles → List ℕ → ℕ → ℕ → List ℕ
part_at files path at left = take left (drop at (content_at files path))

-- all that is to be sent
abbrev pub to_send : TreeFiles → Planned → List ℕ
to_send files planned = planned.head ++ part_at files planned.path planned.at planned.left

-- the file has the bytes that are to be sent of it
abbrev pub IsWithin : TreeFiles → Planned → Type 0
IsWithin files planned = planned.at + planned.left ≤ length (content_at files planned.path)

abbrev pub InRange : Planned → Type 0
InRange planned = planned.at + planned.left < 2 ^ 64

-- a file whose bytes are sent has fewer than 2^64
abbrev pub IsSmall : Answer → Type 0
IsSmall Bad = Unit {0}
IsSmall NotAllowed = Unit {0}
IsSmall NotFound = Unit {0}
IsSmall (Part from size) = size < 2 ^ 64
IsSmall (Beyond size) = Unit {0}
IsSmall (Whole size) = size < 2 ^ 64

-- the response of this number to the request
pub record IsPlanOf (files : TreeFiles) (root : List ℕ) (number : ℕ) (h : RequestHead) (planned : Planned) : Type 0 where
  pub sends : to_send files planned ≡ response_to files root number h
  pub keep : planned.keep ≡ not (closes files root number h)
  pub within : IsWithin files planned
  pub small : IsSmall (answer_to files root h)

-- the same for a request whose head isn't at hand
abbrev pub IsPlanFor : TreeFiles → List ℕ → ℕ → Request → Planned → Type 0
IsPlanFor files root number request planned = (h : RequestHead) → request ≡ request_of h → IsPlanOf files root number h planned
