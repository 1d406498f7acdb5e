-- What the mirror of a tree answers.
use Rattle.std.proofs.Common.{◌≡◌, ℕ, Bool, true, false, refl, sym, ap, ◌∙◌, List, [], ◌∷◌, ◌++◌, length, take, drop, All, Option, Some}
use Rattle.std.specs.Prelude.{◌==◌, ◌&&◌, if◌then◌else◌, bytes_eq}
use Rattle.std.proofs.Math.Seq.{take-append_seam, drop-append_seam}
use Rattle.std.proofs.lemmas.List.{take-append-drop, append_cancel_left}
use Rattle.std.proofs.lemmas.List.Elements.{All-cons, All-nil}
use Rattle.std.proofs.lemmas.Bool.{and_parts}
use Rattle.acq_base.proofs.Texts.{bytes_eq-refl, bytes_eq-true}
use Rattle.acq_base.specs.Mirror.{MirrorMap, answer_at}
use Rattle.acq_base.specs.Uri.{same_uri, scheme_index}
use Rattle.acq_base.specs.declared.fetch.Answer.{Answer}
use Rattle.acq_base.specs.declared.fetch.Answer.TheVariants as answers
use Rattle.acq_base.specs.declared.uri.Scheme.TheVariants.{Http}
use Rattle.acq_base.specs.declared.uri.Uri.{Uri}
use Rattle.acq_outside.specs.Tree.{TreeFiles, file_at}
use Rattle.tree_serve.specs.Answers.{is_below}
use Rattle.served_link.specs.Served.{found, is_served, mirror_of, served_at, served_uri}

-- two tests that hold together
one_test : (a b : Bool) → (a ≡ true → b ≡ true) → (b ≡ true → a ≡ true) → a ≡ b
one_test true b f g = sym (f refl)
one_test false true f g = g refl
one_test false false f g = refl

-- a full path below the root is the root and a path, exactly where the rest behind the root is that path
same_below : (root path full : List ℕ) → bytes_eq (take (length root) full) root ≡ true → bytes_eq (drop (length root) full) path ≡ bytes_eq full (root ++ path)
same_below root path full front = one_test (bytes_eq rest path) (bytes_eq full (root ++ path))
    (λ e. ap (λ f. bytes_eq f (root ++ path)) (joined ∙ ap (λ r. root ++ r) (bytes_eq-true rest path e)) ∙ bytes_eq-refl (root ++ path))
    (λ e. ap (λ r. bytes_eq r path) (append_cancel_left root rest path (sym joined ∙ bytes_eq-true full (root ++ path) e)) ∙ bytes_eq-refl path)
  where
    rest : List ℕ
    rest = drop (length root) full

    joined : full ≡ root ++ drop (length root) full
    joined = sym (take-append-drop (length root) full) ∙ ap (λ t. t ++ drop (length root) full) (bytes_eq-true (take (length root) full) root front)

-- the root and a path below it is a path that is served
served_is : (root path full : List ℕ) → bytes_eq full (root ++ path) ≡ true → is_below path ≡ true → is_served root full ≡ true
served_is root path full same below =
    ap (is_served root) (bytes_eq-true full (root ++ path) same)
    ∙ ap (λ t. bytes_eq t root && is_below (drop (length root) (root ++ path))) (take-append_seam root path)
    ∙ ap (λ d. bytes_eq root root && is_below d) (drop-append_seam root path)
    ∙ (let e = bytes_eq-refl root in rw (e, below) refl)

-- a URI is that of a path at the server where it is at the server and has that path
at_server : (host : List ℕ) (port : ℕ) (uri : Uri) (path : List ℕ) → same_uri (served_uri host port path) uri ≡ (same_uri (served_uri host port uri.path) uri && bytes_eq path uri.path)
at_server host port uri path = by (scheme_index Http == scheme_index uri.scheme) (bytes_eq host uri.host) (port == uri.port) (bytes_eq path uri.path) (bytes_eq uri.path uri.path) (bytes_eq-refl uri.path)
  where
    by : (s h p a b : Bool) → b ≡ true → (s && h && p && a) ≡ ((s && h && p && b) && a)
    by true true true a true is = refl
    by true true false a true is = refl
    by true false p a true is = refl
    by false h p a true is = refl
    by s h p a false is = absurd cc

-- the answer where one more file is looked at first, which is at the URI or isn't
abbrev with_first : Bool → Bool → Bool → List ℕ → Option (List ℕ) → Answer
with_first at below same file rest = if at && below then found (if same then Some file else rest) else answers.Absent 404

-- a file that is served is looked at in the mirror and in the tree alike
served_first : (at below same : Bool) (file : List ℕ) (rest : Option (List ℕ)) → (same ≡ true → below ≡ true)
    → (if at && same then answers.Served file else (if at && below then found rest else answers.Absent 404)) ≡ with_first at below same file rest
served_first false below same file rest so = refl
served_first true below false file rest so = refl
served_first true true true file rest so = refl
served_first true false true file rest so = absurd (let e = so refl in cc)

-- one that isn't served is at no URI
unserved_first : (at below same : Bool) (file : List ℕ) (rest : Option (List ℕ)) → (same ≡ true → below ≡ true → false ≡ true)
    → (if at && below then found rest else answers.Absent 404) ≡ with_first at below same file rest
unserved_first false below same file rest not_so = refl
unserved_first true false same file rest not_so = refl
unserved_first true true false file rest not_so = refl
unserved_first true true true file rest not_so = absurd (let e = not_so refl refl in cc)

-- what the mirror answers, URI by URI
pub mirror_answers : (root host : List ℕ) (port : ℕ) (files : TreeFiles) (uri : Uri) → answer_at (mirror_of root host port files) uri ≡ served_at root host port files uri
mirror_answers root host port [] uri = none (same_uri (served_uri host port uri.path) uri && is_below uri.path)
  where
    none : (t : Bool) → answers.Absent 404 ≡ (if t then answers.Absent 404 else answers.Absent 404)
    none true = refl
    none false = refl
mirror_answers root host port (file ∷ files) uri = by (mirror_answers root host port files uri) (is_served root file.0) refl
  where
    at : Bool
    at = same_uri (served_uri host port uri.path) uri

    rest : List ℕ
    rest = drop (length root) file.0

    same : Bool
    same = bytes_eq file.0 (root ++ uri.path)

    here : Bool → MirrorMap
    here t = (if t then (served_uri host port rest, answers.Served file.1) ∷ [] else []) ++ mirror_of root host port files

    by : answer_at (mirror_of root host port files) uri ≡ served_at root host port files uri → (t : Bool) → is_served root file.0 ≡ t
        → answer_at (here (is_served root file.0)) uri ≡ with_first at (is_below uri.path) same file.1 (file_at files (root ++ uri.path))
    by later true so =
        let parts = and_parts (bytes_eq (take (length root) file.0) root) (is_below rest) so in
        let one = same_below root uri.path file.0 parts.0 in
        ap (λ t. answer_at (here t) uri) so
        ∙ ap (λ t. if t then answers.Served file.1 else answer_at (mirror_of root host port files) uri) (at_server host port uri rest ∙ ap (λ s. at && s) one)
        ∙ ap (λ a. if at && same then answers.Served file.1 else a) later
        ∙ served_first at (is_below uri.path) same file.1 (file_at files (root ++ uri.path)) (λ e. ap is_below (sym (bytes_eq-true rest uri.path (one ∙ e))) ∙ parts.1)
    by later false so =
        ap (λ t. answer_at (here t) uri) so ∙ later
        ∙ unserved_first at (is_below uri.path) same file.1 (file_at files (root ++ uri.path)) (λ e below. sym so ∙ served_is root uri.path file.0 e below)

-- ---- the URIs that it has

-- its URI is an http one
abbrev IsHttpEntry : Uri × Answer → Type 0
IsHttpEntry entry = entry.0.scheme ≡ Http

-- each of the mirror's URIs is an http one
pub all_http : (root host : List ℕ) (port : ℕ) (files : TreeFiles) → All (λ entry. entry.0.scheme ≡ Http) (mirror_of root host port files)
all_http root host port [] = All-nil IsHttpEntry
all_http root host port (file ∷ files) = by (all_http root host port files) (is_served root file.0)
  where
    by : All IsHttpEntry (mirror_of root host port files) → (t : Bool) → All IsHttpEntry ((if t then (served_uri host port (drop (length root) file.0), answers.Served file.1) ∷ [] else []) ++ mirror_of root host port files)
    by rest true = All-cons IsHttpEntry (served_uri host port (drop (length root) file.0), answers.Served file.1) (mirror_of root host port files) refl rest
    by rest false = rest
