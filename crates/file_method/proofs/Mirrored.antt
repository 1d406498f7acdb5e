-- A tree's mirror answers with the tree's files.
use Rattle.std.proofs.Common.{◌≡◌, ◌∙◌, ℕ, Bool, true, false, if◌then◌else◌, bytes_eq, List, [], ◌∷◌, Option, Some, None, refl, ap}
use Rattle.acq_base.specs.declared.uri.Scheme.{Scheme}
use Rattle.acq_base.specs.declared.uri.Scheme.TheVariants.{Http, File}
use Rattle.acq_base.specs.declared.uri.Uri.{Uri}
use Rattle.acq_base.specs.declared.fetch.Answer.{Answer}
use Rattle.acq_base.specs.declared.fetch.Answer.TheVariants.{Served, Absent}
use Rattle.acq_base.specs.Mirror.{answer_at}
use Rattle.acq_base.specs.Uri.{IsAuthority, IsSound, same_uri}
use Rattle.acq_outside.specs.Tree.{TreeFiles, file_at}
use Rattle.file_method.specs.TreeMirror.{file_uri, mirror_of}

-- what is answered for what is at a path
abbrev pub answer_of : Option (List ℕ) → Answer
answer_of None = Absent 404
answer_of (Some bytes) = Served bytes

one : (same : Bool) (bytes : List ℕ) (other : Answer) (content : Option (List ℕ)) → other ≡ answer_of content → (if same then Served bytes else other) ≡ answer_of (if same then Some bytes else content)
one true bytes other content is = refl
one false bytes other content is = is

mirrored : (files : TreeFiles) (path : List ℕ) → answer_at (mirror_of files) (file_uri path) ≡ answer_of (file_at files path)
mirrored [] path = refl
mirrored (file ∷ files) path = one (bytes_eq file.0 path) file.1 (answer_at (mirror_of files) (file_uri path)) (file_at files path) (mirrored files path)

-- the answer at a URI that is the one of its path
pub answered : (files : TreeFiles) (uri : Uri) → uri ≡ file_uri uri.path → answer_at (mirror_of files) uri ≡ answer_of (file_at files uri.path)
answered files uri is = ap (λ (one : Uri). answer_at (mirror_of files) one) is ∙ mirrored files uri.path

passed : (scheme : Scheme) (host : List ℕ) (port : ℕ) (path at : List ℕ) (here other : Answer) → scheme ≡ Http
    → (if same_uri (file_uri at) (record { scheme = scheme; host = host; port = port; path = path }) then here else other) ≡ other
passed Http host port path at here other is = refl
passed File host port path at here other is = absurd cc

-- there is nothing of another scheme
pub elsewhere : (files : TreeFiles) (uri : Uri) → uri.scheme ≡ Http → answer_at (mirror_of files) uri ≡ Absent 404
elsewhere [] uri other = refl
elsewhere (file ∷ files) uri other = passed uri.scheme uri.host uri.port uri.path file.0 (Served file.1) (answer_at (mirror_of files) uri) other ∙ elsewhere files uri other

by_parts : (scheme : Scheme) (host : List ℕ) (port : ℕ) (path : List ℕ) → scheme ≡ File → IsAuthority scheme host port → ◌≡◌ {A = Uri} (record { scheme = scheme; host = host; port = port; path = path }) (file_uri path)
by_parts Http host port path file authority = absurd cc
by_parts File host port path file authority =
    ap (λ (name : List ℕ). record { scheme = File; host = name; port = port; path = path }) authority.0 ∙ ap (λ (number : ℕ). record { scheme = File; host = []; port = number; path = path }) authority.1

-- a sound file URI is the one of its path
pub is_file_uri : (uri : Uri) → IsSound uri → uri.scheme ≡ File → uri ≡ file_uri uri.path
is_file_uri uri sound file = by_parts uri.scheme uri.host uri.port uri.path file sound.authority
