-- A link to a server owes the mirror's answers.
use Rattle.std.proofs.Common.{◌≡◌, ℕ, ◌+◌, ◌-◌, ◌<◌, ◌≤◌, ◌^◌, Bool, true, false, refl, sym, ap, ◌∙◌, subst, List, [], ◌∷◌, ◌++◌, length, take, drop, arith, length-drop, length-take, not, ◌&&◌, Option, Some, None, IfSome, min}
use Rattle.std.specs.Prelude.{◌==◌, if◌then◌else◌, bytes_eq, option_map, nat_le}
use Rattle.std.proofs.lemmas.Bool.{and_parts, eqb-true}
use Rattle.std.proofs.lemmas.Bool.Decides.{nat_tests}
use Rattle.std.proofs.lemmas.Slice.Eq.{bytes_eq-Decides}
use Rattle.httparse.specs.Grammar.{RequestHead}
use Rattle.acq_base.specs.declared.fetch.Answer.{Answer}
use Rattle.acq_base.specs.declared.fetch.Answer.TheVariants.{Absent}
use Rattle.acq_base.specs.declared.uri.Scheme.TheVariants.{Http}
use Rattle.acq_base.specs.declared.uri.Uri.{Uri}
use Rattle.acq_base.specs.Mirror.{MirrorMap, answer_at}
use Rattle.acq_base.specs.Uri.{IsSound, scheme_index}
use Rattle.acq_outside.specs.Tree.{TreeFiles, file_at}
use Rattle.acq_net.specs.Due.{Due, fresh, HeardAnswer, IsAnswerOf, IsAnswered, Owes}
use Rattle.http_wire.specs.Forms.{Whole}
use Rattle.http_wire.specs.Request.{request_text}
use Rattle.http_wire.specs.Stream.{Heard, IsHeard}
use Rattle.http_requests.specs.Heads.{request_form}
use Rattle.http_requests.proofs.Parsed.{one_head}
use Rattle.tree_serve.specs.Answers.{answer_to, closes, is_below}
use Rattle.tree_serve.specs.Planned.{IsPlanOf, IsSmall, IsWithin, part_at, to_send}
use Rattle.tree_serve.specs.Texts.{content_at, response_to}
use Rattle.tree_serve.specs.declared.planned.Planned.{Planned}
use Rattle.served_link.specs.Served.{found, mirror_of}
use Rattle.served_link.specs.Link.{IsResponse, PendingWithin, due_at, due_in, is_home, is_ready, to_come}
use Rattle.served_link.specs.declared.link.Place.{Place}
use Rattle.served_link.specs.declared.pending.Pending.{Pending}
use Rattle.served_link.proofs.Law.{heard_as_served}
use Rattle.served_link.proofs.Mirrors.{mirror_answers}

-- ---- at another place

other_place : (a b c d : Bool) → (b && c) ≡ false → (a && b && c && d) ≡ false
other_place true true true d no_one = absurd cc
other_place true true false d no_one = refl
other_place true false c d no_one = refl
other_place false b c d no_one = refl

-- nothing is under a URI of another place
pub none_elsewhere : (root host : List ℕ) (port : ℕ) (files : TreeFiles) (uri : Uri) → (bytes_eq host uri.host && (port == uri.port)) ≡ false → answer_at (mirror_of root host port files) uri ≡ Absent 404
none_elsewhere root host port files uri away =
    mirror_answers root host port files uri
    ∙ ap (λ t. if t && is_below uri.path then found (file_at files (root ++ uri.path)) else Absent 404)
    (other_place (scheme_index Http == scheme_index uri.scheme) (bytes_eq host uri.host) (port == uri.port) (bytes_eq uri.path uri.path) away)

-- what is answered depends on the mirror's answer alone
answers_alike : (a b : MirrorMap) (uri : Uri) (from : ℕ) (response : List ℕ) (keep : Bool) → answer_at a uri ≡ answer_at b uri → IsAnswerOf a uri from response keep → IsAnswerOf b uri from response keep
answers_alike a b uri from response keep same is = record {
  is = λ max can. subst (λ (m : Answer). (heard : Heard) × IsHeard max from response true heard × HeardAnswer m uri max from keep heard) same (is.is max can);
}

-- the response of the files behind the place is the mirror's answer
abbrev Answers : TreeFiles → MirrorMap → List ℕ → Uri → ℕ → ℕ → RequestHead → Type 0
Answers behind entries root uri from number h = IsAnswerOf entries uri from (response_to behind root number h) (not (closes behind root number h))

abbrev HasAnswer : TreeFiles → MirrorMap → List ℕ → Uri → ℕ → ℕ → Type 0
HasAnswer behind entries root uri from number = (h : RequestHead) × Whole request_form (request_text uri from) h [] × (IsSmall (answer_to behind root h) → Answers behind entries root uri from number h)

answered : (root host : List ℕ) (port : ℕ) (files : TreeFiles) (uri : Uri) (from number : ℕ) → uri.scheme ≡ Http → IsSound uri → from < 2 ^ 64
    → (home : Bool) → (bytes_eq host uri.host && (port == uri.port)) ≡ home → HasAnswer (if home then files else []) (mirror_of root host port files) root uri from number
answered root host port files uri from number http sound small true is =
    let both = and_parts (bytes_eq host uri.host) (port == uri.port) is in
    heard_as_served root host port files uri from number http sound (sym ((bytes_eq-Decides host uri.host).0 both.0)) (sym (eqb-true port uri.port both.1)) small
answered root host port files uri from number http sound small false is =
    let law = heard_as_served root uri.host uri.port [] uri from number http sound refl refl small in (
      law.0,
      law.1,
      λ few.
          answers_alike [] (mirror_of root host port files) uri from (response_to [] root number law.0) (not (closes [] root number law.0)) (sym (none_elsewhere root host port files uri is)) (law.2 few),
    )

-- ---- what is due

abbrev host_in : Option Due → List ℕ
host_in None = []
host_in (Some due) = due.host

abbrev port_in : Option Due → ℕ
port_in None = 0
port_in (Some due) = due.port

abbrev bytes_in : Option Due → List ℕ
bytes_in None = []
bytes_in (Some due) = due.bytes

abbrev keep_in : Option Due → Bool
keep_in None = true
keep_in (Some due) = due.keep

same_place : (files : TreeFiles) (place : Place) (old : Option Pending) (host : List ℕ) (port : ℕ) → due_at files (Some place) old ≡ Some (fresh host port) → (place.host ≡ host) × (place.port ≡ port)
same_place files place None host port is = absurd cc
same_place files place (Some p) host port is = (ap host_in is, ap port_in is)

-- a response of no file has no bytes of one
sends_alike : (files : TreeFiles) (home : Bool) (planned : Planned) → IsWithin (if home then files else []) planned → to_send files planned ≡ to_send (if home then files else []) planned
sends_alike files true planned within = refl
sends_alike files false planned within =
    let none : planned.left ≡ 0 = omega (arith, within) in
    ap (λ l. planned.head ++ take l (drop planned.at (content_at files planned.path))) none ∙ sym (ap (λ l. planned.head ++ take l (drop planned.at [])) none)

all_to_come : (files : TreeFiles) (p : Pending) → p.done ≡ 0 → to_come files p ≡ to_send files p.planned
all_to_come files p none = ap (λ n. drop n p.planned.head ++ part_at files p.planned.path p.planned.at p.planned.left) none

-- what is sent for the one request of the text is due
answered_by : (files : TreeFiles) (entries : MirrorMap) (root : List ℕ) (place : Place) (home : Bool) (number : ℕ) (text : List ℕ) (uri : Uri) (from : ℕ) (new : Option Pending)
    → IsResponse (if home then files else []) root number text new → place.host ≡ uri.host → place.port ≡ uri.port → (h : RequestHead) → Whole request_form text h []
    → (IsSmall (answer_to (if home then files else []) root h) → Answers (if home then files else []) entries root uri from number h) → IsAnswered entries uri from (due_at files (Some place) new)
answered_by files entries root place home number text uri from None none host_is port_is h one answers = absurd (none h one)
answered_by files entries root place home number text uri from (Some p) response host_is port_is h one answers =
    let behind = if home then files else [] in
    let same : response.head ≡ h = (one_head text response.head h [] [] response.whole one).0 in
    let plan = subst (λ (of : RequestHead). IsPlanOf behind root number of p.planned) same response.plan in
    let text_is : response_to behind root number h ≡ to_come files p = sym (all_to_come files p response.begins ∙ sends_alike files home p.planned plan.within ∙ plan.sends) in
    record {
      response = to_come files p;
      keep = p.planned.keep;
      is = ap (λ x. Some (record { host = x; port = place.port; bytes = to_come files p; keep = p.planned.keep })) host_is
          ∙ ap (λ x. Some (record { host = uri.host; port = x; bytes = to_come files p; keep = p.planned.keep })) port_is;
      answers = subst (λ t. IsAnswerOf entries uri from t p.planned.keep) text_is
          (subst (λ k. IsAnswerOf entries uri from (response_to behind root number h) k) (sym plan.keep) (answers plan.small));
    }

owes_at : (files : TreeFiles) (root host : List ℕ) (port : ℕ) (place : Place) (number : ℕ) (text : List ℕ) (old new : Option Pending)
    → IsResponse (if is_home host port place then files else []) root number text new → Owes (mirror_of root host port files) text (due_at files (Some place) old) (due_at files (Some place) new)
unfolding Owes
owes_at files root host port place number text old new response uri from http sound small sent ready =
    let at = same_place files place old uri.host uri.port ready in
    let home_is : (bytes_eq host uri.host && (port == uri.port)) ≡ is_home host port place =
    ap (λ h. bytes_eq host h && (port == uri.port)) (sym at.0) ∙ ap (λ q. bytes_eq host place.host && (port == q)) (sym at.1) in
    let law = answered root host port files uri from number http sound small (is_home host port place) home_is in
    answered_by files (mirror_of root host port files) root place (is_home host port place) number text uri from new response at.0 at.1 law.0
    (subst (λ t. Whole request_form t law.0 []) (sym sent) law.1) law.2

-- ---- whether a request may be sent

both_none : (a b : List ℕ) → a ++ b ≡ [] → (a ≡ []) × (b ≡ [])
both_none [] b is = (refl, is)
both_none (x ∷ a) b is = absurd cc

nothing_at : (xs : List ℕ) (n : ℕ) → drop n xs ≡ [] → nat_le (length xs) n ≡ true
nothing_at xs n none = let e = ap length none in let d = length-drop n xs in grind (arith, nat_tests)

-- where nothing is due and the connection stays open, all was sent
ready_is : (files : TreeFiles) (place : Place) (old : Option Pending) (host : List ℕ) (port : ℕ) → PendingWithin files old → due_at files (Some place) old ≡ Some (fresh host port) → is_ready old ≡ true
ready_is files place None host port within is = absurd cc
ready_is files place (Some p) host port within is =
    let file = content_at files p.planned.path in
    let parts = both_none (drop p.done p.planned.head) (part_at files p.planned.path p.planned.at p.planned.left) (ap bytes_in is) in
    let long : length (take p.planned.left (drop p.planned.at file)) ≡ 0 = ap length parts.1 in
    let t = length-take p.planned.left (drop p.planned.at file) in
    let d = length-drop p.planned.at file in
    all_hold (nat_le (length p.planned.head) p.done) (p.planned.left == 0) p.planned.keep (nothing_at p.planned.head p.done parts.0)
    (zero_is p.planned.left (none_left p.planned.left (length (drop p.planned.at file)) (length file) p.planned.at (sym t ∙ long) d within)) (ap keep_in is)
  where
    none_left : (left r n at : ℕ) → min left r ≡ 0 → r ≡ n - at → at + left ≤ n → left ≡ 0
    none_left left r n at a b c = omega (arith, a, b, c)

    zero_is : (n : ℕ) → n ≡ 0 → (n == 0) ≡ true
    zero_is n is = grind (arith, nat_tests)

    all_hold : (a b c : Bool) → a ≡ true → b ≡ true → c ≡ true → (a && b && c) ≡ true
    all_hold a b c x y z = rw (x, y, z) refl

-- ---- where the tree may tell nothing

-- what a link owes whose tree tells these files
abbrev pub OwesBy : Option TreeFiles → List ℕ → List ℕ → ℕ → List ℕ → Option Place → Option Pending → Option Pending → Type 0
OwesBy told root host port text place old new = IfSome (option_map (mirror_of root host port) told) (λ entries. Owes entries text (due_in told place old) (due_in told place new))

pub owes_planned : (told : Option TreeFiles) (root host : List ℕ) (port : ℕ) (place : Place) (home : Bool) (number : ℕ) (text : List ℕ) (old new : Option Pending) → home ≡ is_home host port place
    → IfSome told (λ files. IsResponse (if home then files else []) root number text new) → OwesBy told root host port text (Some place) old new
owes_planned None root host port place home number text old new home_is response = tt
owes_planned (Some files) root host port place home number text old new home_is response =
    owes_at files root host port place number text old new (subst (λ b. IsResponse (if b then files else []) root number text new) home_is response)

-- where a request may not be sent, or there is no connection, nothing is said
unready : (files : TreeFiles) (entries : MirrorMap) (place : Place) (text : List ℕ) (old new : Option Pending) → PendingWithin files old → is_ready old ≡ false → Owes entries text (due_at files (Some place) old) (due_at files (Some place) new)
unfolding Owes
unready files entries place text old new within not_ready uri from http sound small sent ready = (let now = ready_is files place old uri.host uri.port within ready in absurd cc)

nowhere : (entries : MirrorMap) (text : List ℕ) (after : Option Due) → Owes entries text None after
unfolding Owes
nowhere entries text after uri from http sound small sent ready = absurd cc

pub owes_unready : (told : Option TreeFiles) (root host : List ℕ) (port : ℕ) (place : Option Place) (text : List ℕ) (old new : Option Pending)
    → IfSome told (λ files. PendingWithin files old) → is_ready old ≡ false → OwesBy told root host port text place old new
owes_unready None root host port place text old new within not_ready = tt
owes_unready (Some files) root host port None text old new within not_ready = nowhere (mirror_of root host port files) text (due_at files None new)
owes_unready (Some files) root host port (Some place) text old new within not_ready = unready files (mirror_of root host port files) place text old new within not_ready

pub owes_nowhere : (told : Option TreeFiles) (root host : List ℕ) (port : ℕ) (text : List ℕ) (old new : Option Pending) → OwesBy told root host port text None old new
owes_nowhere None root host port text old new = tt
owes_nowhere (Some files) root host port text old new = nowhere (mirror_of root host port files) text (due_at files None new)
