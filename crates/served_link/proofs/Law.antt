-- The response to a request for a file is heard as the mirror's answer.
use Rattle.std.proofs.Common.{◌≡◌, ℕ, ◌+◌, ◌<◌, ◌≤◌, inl, inr, ◌^◌, Bool, true, false, not, refl, sym, ap, ◌∙◌, subst, List, [], ◌++◌, length, drop, arith, append-nil, length-drop, Option, Some, None}
use Rattle.std.specs.Prelude.{◌==◌, ◌&&◌, bytes_eq, if◌then◌else◌, nat_lt, option_map, unwrap_or}
use Rattle.std.proofs.lemmas.Bool.{cases_lt}
use Rattle.std.proofs.lemmas.Bool.Decides.{nat_tests}
use Rattle.std.proofs.lemmas.List.Elements.{All-nil}
use Rattle.httparse.specs.Grammar.{RequestHead, status_code}
use Rattle.acq_base.proofs.Texts.{bytes_eq-refl}
use Rattle.acq_base.specs.Mirror.{answer_at}
use Rattle.acq_base.specs.Uri.{same_uri, scheme_index}
use Rattle.acq_base.specs.declared.fetch.Answer.{Answer as MirrorAnswer}
use Rattle.acq_base.specs.declared.fetch.Answer.TheVariants as answers
use Rattle.acq_base.specs.declared.uri.Scheme.TheVariants.{Http}
use Rattle.acq_base.specs.declared.uri.Uri.{Uri}
use Rattle.acq_outside.specs.Tree.{TreeFiles, file_at}
use Rattle.acq_net.specs.Due.{Big, HeardAnswer, IsAnswerOf, Short, Whole as WholeFile}
use Rattle.http_wire.proofs.EndMoves.{heard_end}
use Rattle.http_wire.proofs.Responses.{response_heard}
use Rattle.http_wire.specs.Grammar.{IsResponse, Says, says}
use Rattle.http_wire.specs.Stream.{Ends, EndsBehind, Goes, Heads, Heard, IsHeard, Next, behind_head, hear, next_of, stage_of, start_of}
use Rattle.http_wire.specs.declared.ending.Response.{Response}
use Rattle.http_wire.specs.declared.ending.Response.TheVariants.{Absent, Served, TooBig}
use Rattle.http_wire.specs.declared.meaning.Framing.TheVariants.{Counted}
use Rattle.http_wire.specs.declared.meaning.Meaning.TheVariants as meanings
use Rattle.tree_serve.specs.Answers.{answer_to, closes, is_below, of_size}
use Rattle.tree_serve.specs.Planned.{IsSmall}
use Rattle.tree_serve.specs.Texts.{body_of, content_at, head_text, response_to}
use Rattle.tree_serve.specs.declared.answer.Answer.{Answer}
use Rattle.tree_serve.specs.declared.answer.Answer.TheVariants as replies
use Rattle.served_link.proofs.Asked.{answer_is, part_from, path_is}
use Rattle.served_link.proofs.Meanings.{absent_means, beyond_means, part_means, whole_means}
use Rattle.served_link.proofs.Mirrors.{mirror_answers}
use Rattle.served_link.proofs.Replies.{HasSmallNumbers, reply_fits, reply_head, reply_is, reply_valid, reply_whole}
use Rattle.served_link.proofs.Requests.{head_of, one_head}
use Rattle.served_link.specs.Served.{IsHeardAsServed, found, mirror_of, served_uri}

-- ---- what is heard of a response

-- where in the file the body begins
abbrev begins : ℕ → Answer → Bool → ℕ
begins from a last = start_of from (status_code (reply_head a last))

-- a head that ends the reading
ends_heard : (max from : ℕ) (a : Answer) (last : Bool) (body : List ℕ) (how : Response) → HasSmallNumbers a → next_of max 0 (begins from a last) (says from (reply_head a last)) ≡ Ends how
    → IsHeard max from (head_text a last ++ body) true (hear (Some how) (begins from a last) [] body)
unfolding behind_head
ends_heard max from a last body how small next =
    let text = head_text a last ++ body in
    let start = begins from a last in
    record {
      parts = 0;
      stage = Heads 0;
      text = text;
      leads = (refl, refl);
      stops = inr (reply_head a last, body, reply_whole a last body small, subst (λ (n : Next). EndsBehind n (length text) text start body (hear (Some how) start [] body)) (sym next) refl);
    }

-- a body of the size that is said
body_heard : (max from : ℕ) (a : Answer) (last keep : Bool) (body : List ℕ) → HasSmallNumbers a → says from (reply_head a last) ≡ meanings.Body (Counted (length body)) keep → begins from a last + length body ≤ max
    → IsHeard max from (head_text a last ++ body) true (hear (Some (Served keep)) (begins from a last) body [])
body_heard max from a last keep body small means within =
    heard_end max from text whole (λ none. let e : Some (Served keep) ≡ None = none in cc)
    (subst (λ t. IsHeard max from t false whole) (append-nil text) (response_heard max from text keep (begins from a last) body [] response))
  where
    text : List ℕ
    text = head_text a last ++ body

    whole : Heard
    whole = hear (Some (Served keep)) (begins from a last) body []

    response : IsResponse max from text keep (begins from a last) body
    response = record {
      interims = [];
      few = omega arith;
      each = All-nil (Says from meanings.Interim);
      head = reply_head a last;
      how = Counted (length body);
      final = record { valid = reply_valid a last small; fits = reply_fits a last small; is = means };
      body_text = body;
      framed = (refl, refl);
      text_is = ap (λ t. t ++ body) (reply_is a last);
      start_is = refl;
      within = within;
    }

-- a body that is too big ends the reading
too_big : (max start n : ℕ) (keep : Bool) → max < start + n → next_of max 0 start (meanings.Body (Counted n) keep) ≡ Ends TooBig
too_big max start n keep over =
    let test : nat_lt max (start + n) ≡ true = grind (arith, nat_tests) in
    ap (λ b. if b then Ends TooBig else Goes (stage_of (Counted n) start keep)) test

-- ---- each answer is heard as the mirror's

-- the response is heard as that answer of the mirror
abbrev IsHeardAs : MirrorAnswer → Uri → ℕ → ℕ → List ℕ → Answer → Bool → Type 0
IsHeardAs answer uri max from file a last = (heard : Heard) × IsHeard max from (head_text a last ++ body_of file a) true heard × HeardAnswer answer uri max from (not last) heard

-- no file
none_heard : (uri : Uri) (max from : ℕ) (file : List ℕ) (last : Bool) → IsHeardAs (found None) uri max from file replies.NotFound last
none_heard uri max from file last =
    (hear (Some (Absent 404)) 0 [] [], ends_heard max from replies.NotFound last [] (Absent 404) tt (ap (next_of max 0 0) (absent_means from last)), refl)

-- all of a file
whole_heard : (uri : Uri) (max : ℕ) (file : List ℕ) (last : Bool) → length file < 2 ^ 64 → IsHeardAs (found (Some file)) uri max 0 file (replies.Whole (length file)) last
whole_heard uri max file last small =
    let reply = replies.Whole (length file) in
    let means = whole_means (length file) last small in
    let over = λ (big : max < length file). ap (next_of max 0 0) means ∙ too_big max 0 (length file) (not last) (omega (arith, big)) in
    elim (cases_lt max (length file)) [
      | inl big ↦ (hear (Some TooBig) 0 [] file, ends_heard max 0 reply last file TooBig small (over big), Big big refl)
      | inr fits ↦ (hear (Some (Served (not last))) 0 file [], body_heard max 0 reply last (not last) file small means (omega (arith, fits)), WholeFile (inl refl) fits refl)
    ]

-- a file from one of its bytes on
part_heard : (uri : Uri) (max from : ℕ) (file : List ℕ) (last : Bool) → 0 < from → from < length file → length file < 2 ^ 64 → IsHeardAs (found (Some file)) uri max from file (replies.Part from (length file)) last
part_heard uri max from file last some inside small =
    let reply = replies.Part from (length file) in
    let rest = drop from file in
    let left = length-drop from file in
    let means : says from (reply_head reply last) ≡ meanings.Body (Counted (length rest)) (not last) = part_means from (length file) last some inside small ∙ ap (λ n. meanings.Body (Counted n) (not last)) (sym left) in
    let over = λ (big : max < length file). ap (next_of max 0 from) means ∙ too_big max from (length rest) (not last) (omega (arith, big, left, inside)) in
    elim (cases_lt max (length file)) [
      | inl big ↦ (hear (Some TooBig) from [] rest, ends_heard max from reply last rest TooBig (inside, small) (over big), Big big refl)
      | inr fits ↦ (hear (Some (Served (not last))) from rest [], body_heard max from reply last (not last) rest (inside, small) means (omega (arith, fits, left, inside)), WholeFile (inr inside) fits refl)
    ]

-- a file that ends before what is asked for
beyond_heard : (uri : Uri) (max from : ℕ) (file : List ℕ) (last : Bool) → 0 < from → length file ≤ from → from < 2 ^ 64 → IsHeardAs (found (Some file)) uri max from file (replies.Beyond (length file)) last
beyond_heard uri max from file last some ends small =
    (hear (Some (Absent 416)) 0 [] [], ends_heard max from (replies.Beyond (length file)) last [] (Absent 416) (omega (arith, ends, small)) (ap (next_of max 0 0) (beyond_means from (length file) last)), Short some ends refl)

-- a file of which all is asked for, or what follows a byte
file_heard : (uri : Uri) (max from : ℕ) (file : List ℕ) (last zero : Bool) → (from == 0) ≡ zero → from < 2 ^ 64 → IsSmall (of_size (Some (length file)) (if zero then None else Some from))
    → IsHeardAs (found (Some file)) uri max from file (of_size (Some (length file)) (if zero then None else Some from)) last
file_heard uri max from file last true is below small =
    let first : from ≡ 0 = grind (arith, nat_tests) in
    subst (λ f. IsHeardAs (found (Some file)) uri max f file (replies.Whole (length file)) last) (sym first) (whole_heard uri max file last small)
file_heard uri max from file last false is below small = by (nat_lt from (length file)) refl small
  where
    by : (t : Bool) → nat_lt from (length file) ≡ t → IsSmall (if t then replies.Part from (length file) else replies.Beyond (length file))
        → IsHeardAs (found (Some file)) uri max from file (if t then replies.Part from (length file) else replies.Beyond (length file)) last
    by true inside part_small = part_heard uri max from file last (grind (arith, nat_tests)) (grind (arith, nat_tests)) part_small
    by false outside none_small = beyond_heard uri max from file last (grind (arith, nat_tests)) (grind (arith, nat_tests)) below

-- what is at a path, if that leads below the root
path_heard : (uri : Uri) (max from : ℕ) (last allowed : Bool) (file : Option (List ℕ)) → from < 2 ^ 64
    → IsSmall (if allowed then of_size (option_map length file) (part_from from) else replies.NotFound)
    → IsHeardAs (if allowed then found file else answers.Absent 404) uri max from (unwrap_or file []) (if allowed then of_size (option_map length file) (part_from from) else replies.NotFound) last
path_heard uri max from last false file below small = none_heard uri max from (unwrap_or file []) last
path_heard uri max from last true None below small = none_heard uri max from [] last
path_heard uri max from last true (Some file) below small = file_heard uri max from file last (from == 0) refl below small

-- ---- the law

-- a URI of the server is that of its path there
at_server : (uri : Uri) (host : List ℕ) (port : ℕ) → uri.scheme ≡ Http → uri.host ≡ host → uri.port ≡ port → same_uri (served_uri host port uri.path) uri ≡ true
at_server uri host port http same_host same_port =
    let a : (scheme_index Http == scheme_index uri.scheme) ≡ true = ap (λ s. scheme_index Http == scheme_index s) http in
    let b = subst (λ h. bytes_eq h uri.host ≡ true) same_host (bytes_eq-refl uri.host) in
    let c : (port == uri.port) ≡ true = grind (arith, nat_tests) in
    let d = bytes_eq-refl uri.path in
    rw (a, b, c, d) refl

-- the response of each number, to each request, is heard as the mirror's answer
pub heard_as_served : (root host : List ℕ) (port : ℕ) (files : TreeFiles) → IsHeardAsServed root host port files
unfolding response_to
heard_as_served root host port files uri from number http sound same_host same_port small = (
  h,
  one_head uri from sound http small,
  λ small_answer.
      subst (λ p. Answers p (answer_to files root h)) (sym (path_is uri.path sound.rooted))
      (subst (Answers uri.path) (sym answer_so) (record {
        is = λ max within.
            subst (λ a. IsHeardAs a uri max from (content_at files (root ++ uri.path)) answer last) (sym mirror_so)
            (path_heard uri max from last below file small (subst IsSmall answer_so small_answer));
      })),
)
  where
    h : RequestHead
    h = head_of uri from

    file : Option (List ℕ)
    file = file_at files (root ++ uri.path)

    last : Bool
    last = closes files root number (head_of uri from)

    below : Bool
    below = is_below uri.path

    answer : Answer
    answer = if is_below uri.path then of_size (option_map length (file_at files (root ++ uri.path))) (part_from from) else replies.NotFound

    Answers : List ℕ → Answer → Type 0
    Answers path a = IsAnswerOf (mirror_of root host port files) uri from (head_text a last ++ body_of (content_at files (root ++ path)) a) (not last)

    answer_so : answer_to files root h ≡ answer
    answer_so = answer_is files root uri from sound http small

    mirror_so : answer_at (mirror_of root host port files) uri ≡ (if below then found file else answers.Absent 404)
    mirror_so =
        mirror_answers root host port files uri
        ∙ ap (λ t. if t && below then found file else answers.Absent 404) (at_server uri host port http same_host same_port)
