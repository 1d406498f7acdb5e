-- The mirror that a tree of files is behind its server.
use Rattle.std.specs.Prelude.{◌≡◌, ℕ, ◌^◌, ◌<◌, ◌&&◌, not, Bool, if◌then◌else◌, List, [], ◌∷◌, ◌++◌, length, take, drop, bytes_eq, Option, Some, None}
use Rattle.std.specs.List.{flat_map}
use Rattle.acq_base.specs.Mirror.{MirrorMap}
use Rattle.acq_base.specs.Uri.{IsSound, same_uri}
use Rattle.acq_base.specs.declared.fetch.Answer.{Answer}
use Rattle.acq_base.specs.declared.fetch.Answer.TheVariants as answers
use Rattle.acq_base.specs.declared.uri.Scheme.TheVariants.{Http}
use Rattle.acq_base.specs.declared.uri.Uri.{Uri}
use Rattle.httparse.specs.Grammar.{RequestHead}
use Rattle.http_wire.specs.Forms.{Whole}
use Rattle.http_wire.specs.Request.{request_text}
use Rattle.acq_outside.specs.Tree.{TreeFiles, file_at}
use Rattle.acq_net.specs.Due.{IsAnswerOf}
use Rattle.http_requests.specs.Heads.{request_form}
use Rattle.tree_serve.specs.Answers.{answer_to, closes, is_below}
use Rattle.tree_serve.specs.Planned.{IsSmall}
use Rattle.tree_serve.specs.Texts.{response_to}

-- the URI of a path at the server
abbrev pub served_uri : List ℕ → ℕ → List ℕ → Uri
served_uri host port path = record { scheme = Http; host = host; port = port; path = path }

-- a file is served whose path is the root's followed by a path that leads below it
abbrev pub is_served : List ℕ → List ℕ → Bool
is_served root path = bytes_eq (take (length root) path) root && is_below (drop (length root) path)

-- the file's bytes at its URI
abbrev pub entries_of : List ℕ → List ℕ → ℕ → List ℕ × List ℕ → MirrorMap
entries_of root host port file =
    if is_served root file.0 then (served_uri host port (drop (length root) file.0), answers.Served file.1) ∷ [] else []

-- The mirror that the files below a root are at a host's port: under the URI of each that is served its bytes, of two files
-- with one path those of the first. Under any other URI nothing is there.
abbrev pub mirror_of : List ℕ → List ℕ → ℕ → TreeFiles → MirrorMap
mirror_of root host port files = flat_map (entries_of root host port) files

-- a file that is there, or isn't
abbrev pub found : Option (List ℕ) → Answer
found None = answers.Absent 404
found (Some file) = answers.Served file

-- What it answers, URI by URI: at the server, where the path leads below the root, the file there.
abbrev pub served_at : List ℕ → List ℕ → ℕ → TreeFiles → Uri → Answer
served_at root host port files uri =
    if same_uri (served_uri host port uri.path) uri && is_below uri.path then found (file_at files (root ++ uri.path)) else answers.Absent 404

-- A written request for a sound URI of the server is one head, and its response, the one of any number on its connection, is
-- heard as the mirror's answer, if the file that is sent has fewer than 2^64 bytes.
abbrev pub IsHeardAsServed : List ℕ → List ℕ → ℕ → TreeFiles → Type 0
IsHeardAsServed root host port files =
    (uri : Uri) (from number : ℕ) → uri.scheme ≡ Http → IsSound uri → uri.host ≡ host → uri.port ≡ port → from < 2 ^ 64
    → (h : RequestHead) × Whole request_form (request_text uri from) h []
    × (IsSmall (answer_to files root h) → IsAnswerOf (mirror_of root host port files) uri from (response_to files root number h) (not (closes files root number h)))
