-- What a method shows behind a word or a fault of its link.
use Rattle.std.proofs.Common.{◌≡◌, ◌∙◌, ℕ, ◌==◌, ◌&&◌, Bool, true, false, bytes_eq, if◌then◌else◌, [], ◌∷◌, Option, Some, None, IfSome, Result, Ok, Err, IfOk, OnOk, OnErr, refl, sym, ap, subst, arith}
use Rattle.std.proofs.lemmas.Bool.{and_parts}
use Rattle.acq_base.specs.declared.fetch.NotServed.TheVariants as nots
use Rattle.acq_base.specs.declared.fetch.Reply.TheVariants as replies
use Rattle.acq_outside.specs.Count.{Rose, one_more}
use Rattle.acq_outside.specs.declared.fault.Fault.{Fault}
use Rattle.acq_outside.specs.declared.word.Fetch.{Fetch}
use Rattle.acq_outside.specs.declared.word.Word.{Word}
use Rattle.acq_outside.specs.declared.word.Word.TheVariants.{Piece, Done, Not, NoMemory}
use Rattle.acq_base.specs.declared.fetch.Job.{Job}
use Rattle.acq_base.specs.declared.uri.Uri.{Uri}
use Rattle.acq_base.specs.declared.uri.Scheme.{Scheme}
use Rattle.acq_base.specs.declared.uri.Scheme.TheVariants.{File, Http}
use Rattle.acq_base.specs.declared.fetch.Answer.{Answer}
use Rattle.acq_base.specs.declared.fetch.Answer.TheVariants as answers
use Rattle.acq_base.specs.Mirror.{MirrorMap, answer_at}
use Rattle.acq_base.specs.Uri.{same_uri, scheme_index}
use Rattle.acq_outside.specs.Word.{IsWord, IsReplyOf, begun}
use Rattle.acq_outside.proofs.Framed.{rises}
use Rattle.http_method.specs.Line.{Line}
use Rattle.http_method.specs.declared.reading.Place.{Place}
use Rattle.http_method.specs.declared.reading.Reading.{Reading}
use Rattle.http_method.specs.declared.reading.Said.{Said}
use Rattle.http_method.specs.HttpMethod.{HttpState, CountsFault}
use Rattle.http_method.specs.Reading.{Hears, IsFromPeer, IsMirrorsWord, Keeps, SaysOn, StandsOpen, has_no_file, is_http, is_open_for, under_of, world_of}
use Rattle.http_method.proofs.Mirrors.{means_fault, told_word, untold_word}

fault_word : (world : Option MirrorMap) (n k m : ℕ) (fetch : Fetch) → k ≡ n → m ≡ one_more n → IsWord n m world fetch None (Not (nots.Fault k m))
fault_word world n k m fetch same rose =
    let is : IsWord n m None fetch None (Not (nots.Fault k m)) = record { counted = (same, refl, rises n m rose); ended = refl; told = tt } in
    told_word n m world fetch None (Not (nots.Fault k m)) is (means_fault world fetch k m)

pub settled_word : (world : Option MirrorMap) (n k m : ℕ) (fetch : Fetch) (said : Result Said Fault) (word : Word) (reading : Option Reading) → k ≡ n → IfOk said (IsMirrorsWord world fetch) → IfOk said (λ one. word ≡ one.word) → IfOk said (λ one. reading ≡ one.reading)
    → OnOk said (m ≡ k) → OnErr said (word ≡ Not (nots.Fault k m)) → OnErr said (reading ≡ None) → OnErr said (m ≡ one_more k) → IsWord n m world fetch (under_of reading) word
settled_word world n k m fetch (Ok one) word reading same told word_is reading_is quiet fault over counted =
    subst (λ w. IsWord n m world fetch (under_of reading) w) (sym word_is)
    (subst (λ r. IsWord n m world fetch (under_of r) one.word) (sym reading_is) (subst (λ j. IsWord n j world fetch (under_of one.reading) one.word) (sym (quiet ∙ same)) (told.is n)))
settled_word world n k m fetch (Err error) word reading same told word_is reading_is quiet fault over counted =
    subst (λ w. IsWord n m world fetch (under_of reading) w) (sym fault)
    (subst (λ r. IsWord n m world fetch (under_of r) (Not (nots.Fault k m))) (sym over) (fault_word world n k m fetch same (counted ∙ ap one_more same)))

never_rises : Rose 0 0 → ⊥
never_rises rose = omega (arith, rose)

quiet_word : (a b : ℕ) (fetch : Fetch) (under : Option Fetch) (word : Word) → b ≡ a → IsWord 0 0 None fetch under word → CountsFault a b word
quiet_word a b fetch under (Piece place bytes) same is = same
quiet_word a b fetch under (Done size) same is = same
quiet_word a b fetch under (Not (nots.Moved place)) same is = same
quiet_word a b fetch under (Not (nots.Absent status)) same is = same
quiet_word a b fetch under (Not nots.TooBig) same is = same
quiet_word a b fetch under (Not (nots.Garbled at)) same is = same
quiet_word a b fetch under (Not (nots.Fault x y)) same is = absurd (never_rises is.counted.2)
quiet_word a b fetch under NoMemory same is = same

pub settled_link : (world : Option MirrorMap) (a i b c x y : ℕ) (fetch : Fetch) (said : Result Said Fault) (word : Word) → i ≡ a → b ≡ c → IfOk said (IsMirrorsWord world fetch) → OnErr said (Rose i c) → OnOk said (c ≡ i) → IfOk said (λ one. word ≡ one.word)
    → OnErr said (word ≡ Not (nots.Fault x y)) → CountsFault a b word
settled_link world a i b c x y fetch (Ok one) word before after told rose quiet word_is fault =
    subst (λ w. CountsFault a b w) (sym word_is) (quiet_word a b fetch (under_of one.reading) one.word (after ∙ quiet ∙ before) (untold_word 0 0 world fetch (under_of one.reading) one.word (told.is 0)))
settled_link world a i b c x y fetch (Err error) word before after told rose quiet word_is fault =
    subst (λ w. CountsFault a b w) (sym fault) (subst (λ n. Rose n b) before (subst (λ n. Rose i n) (sym after) rose))

pub settled_says : (line first later last : Line) (r : Reading) (said : Result Said Fault) (word : Word) (kept : Option Place) (reading : Option Reading) (x y : ℕ) → first ≡ line → last ≡ later → IfOk said (SaysOn first r later)
    → IfOk said (λ one. word ≡ one.word) → IfOk said (λ one. kept ≡ one.kept) → IfOk said (λ one. reading ≡ one.reading) → OnErr said (word ≡ Not (nots.Fault x y)) → SaysOn line r last (record { word = word; kept = kept; reading = reading })
settled_says line first later last r (Ok one) word kept reading x y before after says word_is kept_is reading_is fault =
    let P : Word → Type 0 = λ w. SaysOn first r later (record { word = w; kept = kept; reading = reading }) in
    let Q : Option Place → Type 0 = λ k. SaysOn first r later (record { word = one.word; kept = k; reading = reading }) in
    let R : Option Reading → Type 0 = λ s. SaysOn first r later (record { word = one.word; kept = one.kept; reading = s }) in
    let S : Line → Type 0 = λ t. SaysOn t r later (record { word = word; kept = kept; reading = reading }) in
    let T : Line → Type 0 = λ t. SaysOn line r t (record { word = word; kept = kept; reading = reading }) in
    subst T (sym after) (subst S before (subst P (sym word_is) (subst Q (sym kept_is) (subst R (sym reading_is) says))))
settled_says line first later last r (Err error) word kept reading x y before after says word_is kept_is reading_is fault =
    record { is = λ said_before given reads. subst (λ w. Hears last r.fetch.job said_before given w kept reading) (sym fault) tt }

-- what holds of the response that was under way
pub of_reading : (was : Option Reading) (r : Reading) (P : Reading → Type 0) → was ≡ Some r → P r → IfSome was P
of_reading was r P is holds = subst (λ o. IfSome o P) (sym is) holds

pub of_fetch : (was : Option Reading) (r : Reading) (P : Fetch → Type 0) → was ≡ Some r → P r.fetch → IfSome (under_of was) P
of_fetch was r P is holds = subst (λ o. IfSome (under_of o) P) (sym is) holds

-- what is equal in two equal states
pub faults_same : {L : Type 0} {a b : HttpState L} → a ≡ b → a.faults ≡ b.faults
faults_same is = ap (λ (method : HttpState _). method.faults) is

pub reading_same : {L : Type 0} {a b : HttpState L} → a ≡ b → a.reading ≡ b.reading
reading_same is = ap (λ (method : HttpState _). method.reading) is

pub link_same : {L T : Type 0} (of : L → T) {a b : HttpState L} → a ≡ b → of a.link ≡ of b.link
link_same of is = ap (λ (method : HttpState _). of method.link) is

-- ---- the mirror without `file` URIs

narrowed_by : (n m : ℕ) (entries : MirrorMap) (test : Bool) (fetch : Fetch) (under : Option Fetch) (word : Word) → IsWord n m (Some entries) fetch under word → IsWord n m (if test then Some entries else None) fetch under word
narrowed_by n m entries true fetch under word is = is
narrowed_by n m entries false fetch under word is = untold_word n m (Some entries) fetch under word is

-- what is told of the link's mirror is told of the method's
pub narrowed : (n m : ℕ) (world : Option MirrorMap) (fetch : Fetch) (under : Option Fetch) (word : Word) → IsWord n m world fetch under word → IsWord n m (world_of world) fetch under word
narrowed n m None fetch under word is = is
narrowed n m (Some entries) fetch under word is = narrowed_by n m entries (has_no_file entries) fetch under word is

http_apart : (scheme : Scheme) → is_http scheme ≡ true → (scheme_index scheme == scheme_index File) ≡ false
http_apart Http is = refl
http_apart File is = absurd cc

other_uri : (a uri : Uri) → uri.scheme ≡ File → is_http a.scheme ≡ true → same_uri a uri ≡ false
other_uri a uri is other = ap (λ b. b && bytes_eq a.host uri.host && (a.port == uri.port) && bytes_eq a.path uri.path) (ap (λ s. scheme_index a.scheme == scheme_index s) is ∙ http_apart a.scheme other)

-- a `file` URI is absent there
file_absent : (uri : Uri) → uri.scheme ≡ File → (entries : MirrorMap) → has_no_file entries ≡ true → answer_at entries uri ≡ answers.Absent 404
file_absent uri is [] none = refl
file_absent uri is (entry ∷ entries) none =
    let both = and_parts (is_http entry.0.scheme) (has_no_file entries) none in
    ap (λ b. if b then entry.1 else answer_at entries uri) (other_uri entry.0 uri is both.0) ∙ file_absent uri is entries both.1

tells_absent : (answer : Answer) (job : Job) → answer ≡ answers.Absent 404 → IsReplyOf answer job (replies.Not (nots.Absent 404))
tells_absent answer job is = subst (λ a. IsReplyOf a job (replies.Not (nots.Absent 404))) (sym is) refl

file_told : (entries : MirrorMap) (test : Bool) (job : Job) → has_no_file entries ≡ test → job.uri.scheme ≡ File → IfSome (if test then Some entries else None) (λ some. IsReplyOf (answer_at some job.uri) job (replies.Not (nots.Absent 404)))
file_told entries true job none is = tells_absent (answer_at entries job.uri) job (file_absent job.uri is entries none)
file_told entries false job none is = tt

file_means : (world : Option MirrorMap) (job : Job) → job.uri.scheme ≡ File → IfSome (world_of world) (λ some. IsReplyOf (answer_at some job.uri) job (replies.Not (nots.Absent 404)))
file_means None job is = tt
file_means (Some entries) job is = file_told entries (has_no_file entries) job refl is

pub file_word : (n m : ℕ) (world : Option MirrorMap) (job : Job) (under : Option Fetch) → m ≡ n → under ≡ None → job.uri.scheme ≡ File → IsWord n m (world_of world) (begun job) under (Not (nots.Absent 404))
file_word n m world job under same none is = record { counted = same; ended = none; told = file_means world job is }

-- ---- whether the connection is open

-- so it stands where it is open just as what is kept wants it
pub stands_open : (line : Line) (opened : Bool) (kept : Option Place) (reading : Option Reading) → Keeps line kept reading → opened ≡ is_open_for kept reading → StandsOpen opened kept reading
stands_open line opened None None keeps is = record { kept_is = tt; reads_on = tt }
stands_open line opened None (Some one) keeps is = record { kept_is = tt; reads_on = is }
stands_open line opened (Some place) None keeps is = record { kept_is = is; reads_on = tt }
stands_open line opened (Some place) (Some one) keeps is = absurd (let none : Some place ≡ None = keeps.one refl in cc)

-- a word of the peer comes on a connection that was made, or on which the peer has answered
pub heard_so : (made : Type 0) (x y : ℕ) (said : Result Said Fault) (word : Word) → IfOk said (λ one. IsFromPeer one.word → made) → IfOk said (λ one. word ≡ one.word) → OnErr said (word ≡ Not (nots.Fault x y)) → IsFromPeer word → made
heard_so made x y (Ok one) word heard is fault from_peer = heard (subst IsFromPeer is from_peer)
heard_so made x y (Err error) word heard is fault from_peer = absurd (subst IsFromPeer fault from_peer)
