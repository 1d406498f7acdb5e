-- A response that is planned is the one that a request gets.
use Rattle.std.proofs.Common.{◌≡◌, ℕ, ◌+◌, ◌-◌, ◌≤◌, Bool, true, false, not, arith, ap, sym, subst, ◌∙◌, refl, List, [], ◌++◌, length, take, drop, length-drop, Option, Some, None, IfSome}
use Rattle.std.specs.Prelude.{if◌then◌else◌}
use Rattle.std.proofs.lemmas.List.{take_all}
use Rattle.httparse.specs.Grammar.{RequestHead}
use Rattle.acq_outside.specs.Tree.{TreeFiles}
use Rattle.http_requests.specs.Asked.{fields_of, is_last, is_proper, method_of, part_asked, path_of, request_of}
use Rattle.http_requests.specs.declared.request.Request.{Request}
use Rattle.tree_serve.specs.Answers.{IsAnswerBy, IsOf, answer_by, answer_to, closes_by, size_at}
use Rattle.tree_serve.specs.Planned.{IsPlanFor, IsPlanOf, IsSmall, IsWithin, part_at, planned_by}
use Rattle.tree_serve.specs.Texts.{body_length, body_of, body_start, content_at, head_text, is_bare, response_text, response_to}
use Rattle.tree_serve.specs.declared.answer.Answer.{Answer}
use Rattle.tree_serve.specs.declared.planned.Planned.{Planned}
use Rattle.tree_serve.specs.declared.answer.Answer.TheVariants.{Bad, NotAllowed, NotFound, Part, Beyond, Whole}

-- the bytes of a file that an answer has are its body
body_taken : (file : List ℕ) (answer : Answer) → IsOf file answer → take (body_length answer) (drop (body_start answer) file) ≡ body_of file answer
body_taken file Bad is = refl
body_taken file NotAllowed is = refl
body_taken file NotFound is = refl
body_taken file (Part from size) is = take_all (size - from) (drop from file) (let d = length-drop from file in let s = is.1 in omega (arith, d, s))
body_taken file (Beyond size) is = refl
body_taken file (Whole size) is = take_all size file (let s = is in omega (arith, s))

body_within : (file : List ℕ) (answer : Answer) → IsOf file answer → body_start answer + body_length answer ≤ length file
body_within file Bad is = omega arith
body_within file NotAllowed is = omega arith
body_within file NotFound is = omega arith
body_within file (Part from size) is = let a = is.0 in let b = is.1 in omega (arith, a, b)
body_within file (Beyond size) is = omega arith
body_within file (Whole size) is = let b = is in omega (arith, b)

start_within : (file : List ℕ) (answer : Answer) → IsOf file answer → body_start answer + 0 ≤ length file
start_within file answer is = let w = body_within file answer is in omega (arith, w)

-- what is to be sent behind the head
sent_behind : (files : TreeFiles) (path : List ℕ) (answer : Answer) (bare : Bool) → IsOf (content_at files path) answer
    → part_at files path (body_start answer) (if bare then 0 else body_length answer) ≡ (if bare then [] else body_of (content_at files path) answer)
sent_behind files path answer true of = refl
sent_behind files path answer false of = body_taken (content_at files path) answer of

left_within : (files : TreeFiles) (path : List ℕ) (answer : Answer) (bare : Bool) → IsOf (content_at files path) answer
    → body_start answer + (if bare then 0 else body_length answer) ≤ length (content_at files path)
left_within files path answer true of = start_within (content_at files path) answer of
left_within files path answer false of = body_within (content_at files path) answer of

-- of the request's head
plan_of_head : (files : TreeFiles) (root : List ℕ) (number : ℕ) (h : RequestHead) (answer : Answer) → IsOf (content_at files (root ++ path_of h.target)) answer → IsSmall answer → answer ≡ answer_to files root h
    → IsPlanOf files root number h (planned_by (head_text answer (closes_by answer (is_last h.minor (fields_of h)) number)) (root ++ path_of h.target) answer (is_bare (method_of h.method)) (not (closes_by answer (is_last h.minor (fields_of h)) number)))
unfolding response_to
plan_of_head files root number h answer of small is =
    let path = root ++ path_of h.target in
    let file = content_at files path in
    let last = is_last h.minor (fields_of h) in
    let bare = is_bare (method_of h.method) in
    record {
      sends = ap (λ b. head_text answer (closes_by answer last number) ++ b) (sent_behind files path answer bare of) ∙ ap (λ a. response_text file a (closes_by a last number) bare) is;
      keep = ap (λ a. not (closes_by a last number)) is;
      within = left_within files path answer bare of;
      small = subst IsSmall is small;
    }

pub plan_for : (files : TreeFiles) (root : List ℕ) (number : ℕ) (request : Request) (h : RequestHead) (answer : Answer) (close : Bool) (head path : List ℕ) (bare : Bool)
    → request ≡ request_of h → path ≡ root ++ request.path → IsOf (content_at files path) answer → IsSmall answer → IsAnswerBy (size_at files path) request answer
    → close ≡ closes_by answer request.last number → head ≡ head_text answer close → bare ≡ is_bare request.method
    → IsPlanOf files root number h (planned_by head path answer bare (not close))
plan_for files root number request h answer close head path bare asks path_is of small answers close_is head_is bare_is =
    let asked = part_asked (method_of h.method) (fields_of h) in
    let last = is_last h.minor (fields_of h) in
    let path_so : path ≡ root ++ path_of h.target = path_is ∙ ap (λ r. root ++ r.path) asks in
    let answer_so : answer ≡ answer_to files root h =
    answers asked (ap (λ r. r.from) asks)
    ∙ ap (λ r. answer_by (size_at files path) r.proper r.method r.path asked) asks
    ∙ ap (λ p. answer_by (size_at files p) (is_proper h.minor (fields_of h)) (method_of h.method) (path_of h.target) asked) path_so in
    let close_so : close ≡ closes_by answer last number = close_is ∙ ap (λ r. closes_by answer r.last number) asks in
    let head_so : head ≡ head_text answer (closes_by answer last number) = head_is ∙ ap (head_text answer) close_so in
    let bare_so : bare ≡ is_bare (method_of h.method) = bare_is ∙ ap (λ r. is_bare r.method) asks in
    let planned_so : planned_by head path answer bare (not close) ≡ planned_by (head_text answer (closes_by answer last number)) (root ++ path_of h.target) answer (is_bare (method_of h.method)) (not (closes_by answer last number)) =
    ap (λ t. planned_by t path answer bare (not close)) head_so
    ∙ ap (λ p. planned_by (head_text answer (closes_by answer last number)) p answer bare (not close)) path_so
    ∙ ap (λ b. planned_by (head_text answer (closes_by answer last number)) (root ++ path_of h.target) answer b (not close)) bare_so
    ∙ ap (λ c. planned_by (head_text answer (closes_by answer last number)) (root ++ path_of h.target) answer (is_bare (method_of h.method)) (not c)) close_so in
    subst (IsPlanOf files root number h) (sym planned_so) (plan_of_head files root number h answer (subst (λ p. IsOf (content_at files p) answer) path_so of) small answer_so)

-- where the tree tells its files
pub planned_in : (told : Option TreeFiles) (root : List ℕ) (number : ℕ) (request : Request) (answer : Answer) (close : Bool) (head path : List ℕ) (bare : Bool) (planned : Planned)
    → path ≡ root ++ request.path → IfSome told (λ files. IsOf (content_at files path) answer) → IsSmall answer → IfSome told (λ files. IsAnswerBy (size_at files path) request answer)
    → close ≡ closes_by answer request.last number → head ≡ head_text answer close → bare ≡ is_bare request.method → planned ≡ planned_by head path answer bare (not close)
    → IfSome told (λ files. IsPlanFor files root number request planned)
planned_in None root number request answer close head path bare planned path_is of small answers close_is head_is bare_is is = tt
planned_in (Some files) root number request answer close head path bare planned path_is of small answers close_is head_is bare_is is = λ h asks.
    subst (IsPlanOf files root number h) (sym is) (plan_for files root number request h answer close head path bare asks path_is of small answers close_is head_is bare_is)

-- the file has what is to be sent of it
pub within_in : (told : Option TreeFiles) (answer : Answer) (close : Bool) (head path : List ℕ) (bare : Bool) (planned : Planned) → IfSome told (λ files. IsOf (content_at files path) answer) → planned ≡ planned_by head path answer bare (not close)
    → IfSome told (λ files. IsWithin files planned)
within_in None answer close head path bare planned of is = tt
within_in (Some files) answer close head path bare planned of is = subst (IsWithin files) (sym is) (left_within files path answer bare of)
