-- What a request is answered over the files below a root (RFC 9110, section 15).
use Rattle.std.specs.Prelude.{◌≡◌, ℕ, ◌<◌, ◌==◌, ◌&&◌, ◌||◌, not, nat_lt, Bool, true, false, if◌then◌else◌, List, [], ◌∷◌, ◌++◌, length, codes, bytes_eq, Option, Some, None, option_map}
use Rattle.std.specs.List.{list_all, slice_split}
use Rattle.httparse.specs.Grammar.{RequestHead}
use Rattle.uri_names.specs.Folder.{is_below_character}
use Rattle.acq_outside.specs.Tree.{TreeFiles, file_at}
use Rattle.http_requests.specs.Asked.{capped, fields_of, is_last, is_proper, method_of, part_asked, path_of}
use Rattle.http_requests.specs.declared.request.Method.{Method}
use Rattle.http_requests.specs.declared.request.Method.TheVariants.{Get, Head, Other}
use Rattle.http_requests.specs.declared.request.Request.{Request}
use Rattle.tree_serve.specs.declared.answer.Answer.{Answer}
use Rattle.tree_serve.specs.declared.answer.Answer.TheVariants.{Bad, NotAllowed, NotFound, Part, Beyond, Whole}

abbrev pub is_slash : ℕ → Bool
is_slash c = c == 47

-- a segment of a path that leads nowhere else: it isn't empty, and neither `.` nor `..`
abbrev pub is_name : List ℕ → Bool
is_name segment = not (length segment == 0) && not (bytes_eq segment (codes ".") || bytes_eq segment (codes ".."))

-- a path below the root: names behind a slash each, of letters, digits and `._-+~:`
unfoldable pub is_below : List ℕ → Bool
is_below [] = false
is_below (c ∷ names) = is_slash c && list_all is_below_character names && list_all is_name (slice_split is_slash names)

-- what is sent of a file of so many bytes, or of none, where a part from a byte on is asked for, or none is
abbrev pub of_size : Option ℕ → Option ℕ → Answer
of_size None from = NotFound
of_size (Some size) None = Whole size
of_size (Some size) (Some from) = if nat_lt from size then Part from size else Beyond size

abbrev pub size_at : TreeFiles → List ℕ → Option ℕ
size_at files path = option_map length (file_at files path)

-- only files are sent, or the heads of what that would be
abbrev pub of_method : Method → Answer → Answer
of_method Get answer = answer
of_method Head answer = answer
of_method Other answer = NotAllowed

-- The first that holds: the request isn't proper, its method isn't allowed, its path leads to no file below the root, and
-- then by what is asked of the file, which has so many bytes.
abbrev pub answer_by : Option ℕ → Bool → Method → List ℕ → Option ℕ → Answer
answer_by size proper method path from = if proper then of_method method (if is_below path then of_size size from else NotFound) else Bad

abbrev pub answer_to : TreeFiles → List ℕ → RequestHead → Answer
answer_to files root h =
    answer_by (size_at files (root ++ path_of h.target)) (is_proper h.minor (fields_of h)) (method_of h.method) (path_of h.target)
    (part_asked (method_of h.method) (fields_of h))

-- it refuses more than this request
abbrev pub refuses : Answer → Bool
refuses Bad = true
refuses NotAllowed = true
refuses NotFound = false
refuses (Part from size) = false
refuses (Beyond size) = false
refuses (Whole size) = false

-- the most responses of one connection
abbrev pub most_responses : ℕ
most_responses = 10000

-- a response closes the connection, by its answer, by whether its request says so, and by its number on the connection,
-- counted from 1
abbrev pub closes_by : Answer → Bool → ℕ → Bool
closes_by answer last number = refuses answer || last || number == most_responses

abbrev pub closes : TreeFiles → List ℕ → ℕ → RequestHead → Bool
closes files root number h = closes_by (answer_to files root h) (is_last h.minor (fields_of h)) number

-- ---- what holds of an answer whose file isn't at hand

-- a part begins within the file
abbrev pub IsSound : Answer → Type 0
IsSound Bad = Unit {0}
IsSound NotAllowed = Unit {0}
IsSound NotFound = Unit {0}
IsSound (Part from size) = from < size
IsSound (Beyond size) = Unit {0}
IsSound (Whole size) = Unit {0}

-- the file whose bytes are sent has so many
abbrev pub IsOf : List ℕ → Answer → Type 0
IsOf file Bad = Unit {0}
IsOf file NotAllowed = Unit {0}
IsOf file NotFound = Unit {0}
IsOf file (Part from size) = (from < size) × (size ≡ length file)
IsOf file (Beyond size) = Unit {0}
IsOf file (Whole size) = size ≡ length file

-- what is answered to a request for a file of so many bytes, or of none, if its path is allowed
abbrev pub IsFileAnswer : Option ℕ → List ℕ → Option ℕ → Answer → Type 0
IsFileAnswer size path from answer = (asked : Option ℕ) → from ≡ option_map capped asked → answer ≡ (if is_below path then of_size size asked else NotFound)

-- what is answered to a request, which may ask for a part that begins beyond what it can say
abbrev pub IsAnswerBy : Option ℕ → Request → Answer → Type 0
IsAnswerBy size request answer = (asked : Option ℕ) → request.from ≡ option_map capped asked → answer ≡ answer_by size request.proper request.method request.path asked
