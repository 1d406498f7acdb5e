-- What a method says is what the mirror of its link has.
use Rattle.std.proofs.Common.{◌≡◌, ◌≢◌, ◌∙◌, ◌⊎◌, ℕ, ◌+◌, ◌-◌, ◌<◌, ◌≤◌, Bool, true, false, ◌&&◌, not, List, [], ◌∷◌, ◌++◌, length, take, drop, Option, Some, None, IfSome, inl, inr, refl, sym, ap, subst, arith, append_assoc, append-nil, length-append, length-drop}
use Rattle.std.proofs.lemmas.List.{drop-drop, drop_at, take_at}
use Rattle.std.proofs.lemmas.Bool.{not-true, and_parts}
use Rattle.acq_base.specs.declared.fetch.Answer.{Answer}
use Rattle.acq_base.specs.declared.fetch.Answer.TheVariants as answers
use Rattle.acq_base.specs.declared.fetch.Job.{Job}
use Rattle.acq_base.specs.declared.fetch.NotServed.{NotServed}
use Rattle.acq_base.specs.declared.fetch.Reply.{Reply}
use Rattle.acq_base.specs.declared.fetch.NotServed.TheVariants as nots
use Rattle.acq_base.specs.declared.fetch.Reply.TheVariants as replies
use Rattle.acq_base.specs.declared.uri.Uri.{Uri}
use Rattle.acq_base.specs.Mirror.{MirrorMap, answer_at}
use Rattle.acq_outside.specs.declared.word.Fetch.{Fetch}
use Rattle.acq_outside.specs.declared.word.Word.{Word}
use Rattle.acq_outside.specs.declared.word.Word.TheVariants.{Piece, Done, Not, NoMemory}
use Rattle.acq_outside.specs.Word.{CanBegin, HasSize, IsPieceOf, IsWord, IsReplyOf}
use Rattle.acq_net.specs.Due.{Due, HeardAnswer, HeardFile, Big, Short, Whole, owing}
use Rattle.acq_net.specs.Talk.{Talk, is_none}
use Rattle.http_wire.specs.declared.ending.Response.{Response}
use Rattle.http_wire.specs.declared.ending.Response.TheVariants.{Served, Absent, Moved, TooBig}
use Rattle.http_wire.specs.declared.ending.State.TheVariants as states
use Rattle.http_wire.specs.State.{state_of}
use Rattle.http_wire.specs.Stream.{Heard, followed, IsHeard}
use Rattle.http_wire.specs.BodyLaws.{Fits, bears_body}
use Rattle.http_wire.specs.Wire.{IsReply, wire_state}
use Rattle.http_method.specs.declared.reading.Behind.{Behind}
use Rattle.http_method.specs.declared.reading.Behind.TheVariants.{Nothing, Bytes, End}
use Rattle.http_method.specs.declared.reading.Place.{Place}
use Rattle.http_method.specs.declared.reading.Reading.{Reading}
use Rattle.http_method.specs.Line.{Line}
use Rattle.http_method.specs.Reading.{Ends, Hears, IsOpen, IsOwed, IsReading, IsServed, StandsBehind, asked, is_end, is_file, keeps, kept_if, leaves_open, place_of}
use Rattle.http_method.proofs.Received.{AllGrow, AllTell}

-- one stream has one reading
abbrev pub OneReading : Type 0
OneReading = (max from : ℕ) (bytes : List ℕ) (ended : Bool) (a b : Heard) → IsHeard max from bytes ended a → IsHeard max from bytes ended b → a ≡ b

-- what has ended stays so, whatever follows
abbrev pub Stays : Type 0
Stays = (max from : ℕ) (bytes more : List ℕ) (x : Heard) → x.ending ≢ None → IsHeard max from bytes false x → IsHeard max from (bytes ++ more) false (followed x more)

-- and if the peer ends
abbrev pub StaysAtEnd : Type 0
StaysAtEnd = (max from : ℕ) (bytes : List ℕ) (x : Heard) → x.ending ≢ None → IsHeard max from bytes false x → IsHeard max from bytes true x

abbrev pub AllFit : Type 0
AllFit = (max from : ℕ) (bytes : List ℕ) (ended : Bool) (x : Heard) → IsHeard max from bytes ended x → Fits max from x

abbrev pub AllRise : Type 0
AllRise = (max wide from : ℕ) (bytes : List ℕ) (ended : Bool) (x : Heard) → max ≤ wide → x.ending ≢ Some TooBig → IsHeard max from bytes ended x → IsHeard wide from bytes ended x

pub followed_none : (x : Heard) → followed x [] ≡ x
followed_none x = ap (λ r. with_rest r) (append-nil x.rest)
  where
    with_rest : List ℕ → Heard
    with_rest r = record { ending = x.ending; start = x.start; body = x.body; rest = r }

-- what has ended is what is heard of the whole response
same_heard : (one : OneReading) (stays : Stays) (till : StaysAtEnd) (max from : ℕ) (bytes rest : List ℕ) (ended : Bool) (x y : Heard) → x.ending ≢ None → IsHeard max from bytes ended x → (ended ≡ true → rest ≡ []) → IsHeard max from (bytes ++ rest) true y → y ≡ followed x rest
same_heard one stays till max from bytes rest false x y some is none whole =
    one max from (bytes ++ rest) true y (followed x rest) whole (till max from (bytes ++ rest) (followed x rest) some (stays max from bytes rest x some is))
same_heard one stays till max from bytes rest true x y some is none whole =
    let rest_is = none refl in
    one max from bytes true y x (subst (λ b. IsHeard max from b true y) (ap (λ r. bytes ++ r) rest_is ∙ append-nil bytes) whole) is
    ∙ sym (followed_none x) ∙ ap (followed x) (sym rest_is)

-- the mirror's answer is heard
answer_heard : (one : OneReading) (stays : Stays) (till : StaysAtEnd) (entries : MirrorMap) (due : Option Due) (job : Job) (bytes : List ℕ) (ended : Bool) (x : Heard) → CanBegin job → x.ending ≢ None → IsHeard job.max job.from bytes ended x
    → (owed : IsOwed entries due job bytes ended) → HeardAnswer (answer_at entries job.uri) job.uri job.max job.from owed.keep (followed x owed.rest)
answer_heard one stays till entries due job bytes ended x can some is owed =
    let whole = owed.answers.is job.max can in
    subst (HeardAnswer (answer_at entries job.uri) job.uri job.max job.from owed.keep) (same_heard one stays till job.max job.from bytes owed.rest ended x whole.0 some is owed.ends whole.1) whole.2

-- ---- last words

size_is : (from given all : ℕ) → (from ≡ 0) ⊎ (from < all) → given ≡ all - from → from + given ≡ all
size_is from given all (inl zero_from) is = omega (arith, zero_from, is)
size_is from given all (inr inside) is = omega (arith, inside, is)

means_done : (answer : Answer) (job : Job) (x : Heard) (rest given : List ℕ) (keep : Bool) (size : ℕ) → IsServed x.ending → x.body ≡ given → size ≡ job.from + length given → HeardAnswer answer job.uri job.max job.from keep (followed x rest) → HasSize answer job size
means_done (answers.Served all) job x rest given keep size served body at (Big over is) = absurd (subst IsServed is served)
means_done (answers.Served all) job x rest given keep size served body at (Short left_out ends is) = absurd (subst IsServed is served)
means_done (answers.Served all) job x rest given keep size served body at (Whole begins fits is) =
    let long : length given ≡ length all - job.from = ap length (sym body ∙ ap (λ z. z.body) is) ∙ length-drop job.from all in
    (at ∙ size_is job.from (length given) (length all) begins long, fits, begins)
means_done (answers.Moved to) job x rest given keep size served body at h = absurd (subst IsServed h.1 served)
means_done (answers.Absent status) job x rest given keep size served body at h = absurd (subst IsServed h served)

no_file : (reply : Reply) (bytes : List ℕ) → is_file reply ≡ false → reply ≡ replies.Served bytes → ⊥
no_file reply bytes other e = let file : is_file reply ≡ true = ap is_file e in cc

means_other : (answer : Answer) (job : Job) (x : Heard) (rest given : List ℕ) (keep : Bool) (reply : Reply) → is_file reply ≡ false → IsReply job.uri given x.ending x.body reply → HeardAnswer answer job.uri job.max job.from keep (followed x rest) → IsReplyOf answer job reply
means_other (answers.Served all) job x rest given keep reply other says (Big over is) =
    let reply_is : reply ≡ (replies.Not nots.TooBig) = subst (λ (e : Option Response). IsReply job.uri given e x.body reply) is says in
    subst (IsReplyOf (answers.Served all) job) (sym reply_is) over
means_other (answers.Served all) job x rest given keep reply other says (Short left_out ends is) =
    let reply_is : reply ≡ (replies.Not (nots.Absent 416)) = subst (λ (e : Option Response). IsReply job.uri given e x.body reply) is says in
    subst (IsReplyOf (answers.Served all) job) (sym reply_is) (refl, left_out, ends)
means_other (answers.Served all) job x rest given keep reply other says (Whole begins fits is) =
    let e : x.ending ≡ Some (Served keep) = ap (λ z. z.ending) is in
    let served : IsReply job.uri given (Some (Served keep)) x.body reply = subst (λ (e : Option Response). IsReply job.uri given e x.body reply) e says in
    absurd (no_file reply served.0 other served.1)
means_other (answers.Moved to) job x rest given keep reply other says h =
    let reply_is : reply ≡ (replies.Not (nots.Moved _)) = subst (λ (e : Option Response). IsReply job.uri given e x.body reply) h.1 says in
    subst (IsReplyOf (answers.Moved to) job) (sym reply_is) h.2
means_other (answers.Absent status) job x rest given keep reply other says h =
    let reply_is : reply ≡ (replies.Not (nots.Absent status)) = subst (λ (e : Option Response). IsReply job.uri given e x.body reply) h says in
    subst (IsReplyOf (answers.Absent status) job) (sym reply_is) refl

-- what a word says of an answer
abbrev pub Means : Answer → Fetch → Word → Type 0
Means answer fetch (Piece place bytes) = IsPieceOf answer fetch.at bytes
Means answer fetch (Done size) = HasSize answer fetch.job size
Means answer fetch (Not end) = IsReplyOf answer fetch.job (replies.Not end)
Means answer fetch NoMemory = IsReplyOf answer fetch.job replies.NoMemory

pub told_word : (n m : ℕ) (world : Option MirrorMap) (fetch : Fetch) (under : Option Fetch) (word : Word) → IsWord n m None fetch under word → IfSome world (λ entries. Means (answer_at entries fetch.job.uri) fetch word) → IsWord n m world fetch under word
told_word n m world fetch under (Piece place bytes) is told =
    record { quiet = is.quiet; goes_on = is.goes_on; nonempty = is.nonempty; small = is.small; within = is.within; under_way = is.under_way; told = told }
told_word n m world fetch under (Done size) is told = record { quiet = is.quiet; reached = is.reached; ended = is.ended; told = told }
told_word n m world fetch under (Not end) is told = record { counted = is.counted; ended = is.ended; told = told }
told_word n m world fetch under NoMemory is told = record { counted = is.counted; ended = is.ended; told = told }

pub untold_word : (n m : ℕ) (world : Option MirrorMap) (fetch : Fetch) (under : Option Fetch) (word : Word) → IsWord n m world fetch under word → IsWord n m None fetch under word
untold_word n m world fetch under (Piece place bytes) is =
    record { quiet = is.quiet; goes_on = is.goes_on; nonempty = is.nonempty; small = is.small; within = is.within; under_way = is.under_way; told = tt }
untold_word n m world fetch under (Done size) is = record { quiet = is.quiet; reached = is.reached; ended = is.ended; told = tt }
untold_word n m world fetch under (Not end) is = record { counted = is.counted; ended = is.ended; told = tt }
untold_word n m world fetch under NoMemory is = record { counted = is.counted; ended = is.ended; told = tt }

tells_dry : (answer : Answer) (job : Job) → IsReplyOf answer job replies.NoMemory
tells_dry (answers.Served all) job = tt
tells_dry (answers.Moved to) job = tt
tells_dry (answers.Absent status) job = tt

tells_fault : (answer : Answer) (job : Job) (a b : ℕ) → IsReplyOf answer job (replies.Not (nots.Fault a b))
tells_fault (answers.Served all) job a b = tt
tells_fault (answers.Moved to) job a b = tt
tells_fault (answers.Absent status) job a b = tt

pub means_dry : (world : Option MirrorMap) (fetch : Fetch) → IfSome world (λ entries. Means (answer_at entries fetch.job.uri) fetch NoMemory)
means_dry None fetch = tt
means_dry (Some entries) fetch = tells_dry (answer_at entries fetch.job.uri) fetch.job

pub means_fault : (world : Option MirrorMap) (fetch : Fetch) (a b : ℕ) → IfSome world (λ entries. Means (answer_at entries fetch.job.uri) fetch (Not (nots.Fault a b)))
means_fault None fetch a b = tt
means_fault (Some entries) fetch a b = tells_fault (answer_at entries fetch.job.uri) fetch.job a b

of_owed : (world : Option MirrorMap) (due : Option Due) (job : Job) (bytes : List ℕ) (ended : Bool) (P : MirrorMap → Type 0) → ((entries : MirrorMap) → IsOwed entries due job bytes ended → P entries) → IfSome world (λ entries. IsOwed entries due job bytes ended) → IfSome world P
of_owed None due job bytes ended P each owed = tt
of_owed (Some entries) due job bytes ended P each owed = each entries owed

over_of : (e : Option Response) → IsServed e → e ≢ None
over_of e served none = subst IsServed none served

reply_over : (uri : Uri) (given : List ℕ) (e : Option Response) (body : List ℕ) (reply : Reply) → IsReply uri given e body reply → e ≢ None
reply_over uri given e body reply says none = subst (λ z. IsReply uri given z body reply) none says

ends_done : (one : OneReading) (stays : Stays) (till : StaysAtEnd) (line : Line) (fetch : Fetch) (before : Talk) (given : List ℕ) (size : ℕ) (kept : Option Place) → CanBegin fetch.job → size ≡ fetch.job.from + length given → Ends line fetch.job before given (Done size) kept
    → IfSome line.world (λ entries. HasSize (answer_at entries fetch.job.uri) fetch.job size)
ends_done one stays till line fetch before given size kept can at e =
    of_owed line.world line.due fetch.job e.bytes e.ended _
    (λ entries owed. means_done (answer_at entries fetch.job.uri) fetch.job e.heard owed.rest given owed.keep size e.says.0 e.says.1 at
    (answer_heard one stays till entries line.due fetch.job e.bytes e.ended e.heard can (over_of e.heard.ending e.says.0) e.is owed)) e.told.owed

ends_other : (one : OneReading) (stays : Stays) (till : StaysAtEnd) (line : Line) (fetch : Fetch) (before : Talk) (given : List ℕ) (end : NotServed) (kept : Option Place) → CanBegin fetch.job → Ends line fetch.job before given (Not end) kept
    → IfSome line.world (λ entries. IsReplyOf (answer_at entries fetch.job.uri) fetch.job (replies.Not end))
ends_other one stays till line fetch before given end kept can e =
    of_owed line.world line.due fetch.job e.bytes e.ended _
    (λ entries owed. means_other (answer_at entries fetch.job.uri) fetch.job e.heard owed.rest given owed.keep (replies.Not end) refl e.says
    (answer_heard one stays till entries line.due fetch.job e.bytes e.ended e.heard can (reply_over fetch.job.uri given e.heard.ending e.heard.body (replies.Not end) e.says) e.is owed)) e.told.owed

-- the last word to a fetch
pub means_last : (one : OneReading) (stays : Stays) (till : StaysAtEnd) (line : Line) (fetch : Fetch) (before : Talk) (given : List ℕ) (word : Word) (kept : Option Place) (n : ℕ) → CanBegin fetch.job → fetch.at ≡ fetch.job.from + length given
    → IsWord n n None fetch None word → Hears line fetch.job before given word kept None → IfSome line.world (λ entries. Means (answer_at entries fetch.job.uri) fetch word)
means_last one stays till line fetch before given (Piece place bytes) kept n can at is hears = absurd hears
means_last one stays till line fetch before given (Done size) kept n can at is hears = ends_done one stays till line fetch before given size kept can (is.reached ∙ at) hears
means_last one stays till line fetch before given (Not (nots.Moved place)) kept n can at is hears = ends_other one stays till line fetch before given (nots.Moved place) kept can hears
means_last one stays till line fetch before given (Not (nots.Absent status)) kept n can at is hears = ends_other one stays till line fetch before given (nots.Absent status) kept can hears
means_last one stays till line fetch before given (Not nots.TooBig) kept n can at is hears = ends_other one stays till line fetch before given nots.TooBig kept can hears
means_last one stays till line fetch before given (Not (nots.Garbled place)) kept n can at is hears = ends_other one stays till line fetch before given (nots.Garbled place) kept can hears
means_last one stays till line fetch before given (Not (nots.Fault a b)) kept n can at is hears = means_fault line.world fetch a b
means_last one stays till line fetch before given NoMemory kept n can at is hears = means_dry line.world fetch

-- ---- what is kept

none_behind : (a b : List ℕ) → a ++ b ≡ [] → b ≡ []
none_behind [] b none = none
none_behind (x ∷ a) b none = absurd cc

idle_for : (answer : Answer) (job : Job) (x : Heard) (rest : List ℕ) (keep : Bool) → leaves_open x.ending ≡ true → HeardAnswer answer job.uri job.max job.from keep (followed x rest) → (keep ≡ true) × (rest ≡ [])
idle_for (answers.Served all) job x rest keep opens (Big over is) = absurd (let shut : leaves_open x.ending ≡ false = ap leaves_open is in cc)
idle_for (answers.Served all) job x rest keep opens (Short left_out ends is) = absurd (let shut : leaves_open x.ending ≡ false = ap leaves_open is in cc)
idle_for (answers.Served all) job x rest keep opens (Whole begins fits is) =
    (sym (ap (λ z. leaves_open z.ending) is) ∙ opens, none_behind x.rest rest (ap (λ z. z.rest) is))
idle_for (answers.Moved to) job x rest keep opens h = absurd (let shut : leaves_open x.ending ≡ false = ap leaves_open h.1 in cc)
idle_for (answers.Absent status) job x rest keep opens h = absurd (let shut : leaves_open x.ending ≡ false = ap leaves_open h in cc)

open_some : (e : Option Response) → leaves_open e ≡ true → e ≢ None
open_some e opens none = let shut : leaves_open e ≡ false = ap leaves_open none in cc

talk_open : (talk : Option Talk) (before : Talk) (job : Job) (bytes : List ℕ) (ended : Bool) → ended ≡ false → IfSome talk (λ told. told ≡ asked before job bytes ended) → IfSome talk (λ told. told.ended ≡ false)
talk_open None before job bytes ended false_is told = tt
talk_open (Some talk) before job bytes ended false_is told = ap (λ (t : Talk). t.ended) told ∙ false_is

keeps_by : (one : OneReading) (stays : Stays) (till : StaysAtEnd) (line : Line) (job : Job) (before : Talk) (given : List ℕ) (word : Word) (kept : Option Place) → CanBegin job → (e : Ends line job before given word kept) → keeps e.heard e.ended ≡ true → IsOpen line (place_of job.uri)
keeps_by one stays till line job before given word kept can e keep =
    let first = and_parts (leaves_open e.heard.ending && is_none e.heard.rest) (not e.ended) keep in
    let second = and_parts (leaves_open e.heard.ending) (is_none e.heard.rest) first.0 in
    record {
      told = talk_open line.talk before job e.bytes e.ended (not-true e.ended first.1) e.told.told;
      ready = of_owed line.world line.due job e.bytes e.ended _
          (λ entries owed.
          let idle = idle_for (answer_at entries job.uri) job e.heard owed.rest owed.keep second.0 (answer_heard one stays till entries line.due job e.bytes e.ended e.heard can (open_some e.heard.ending second.0) e.is owed) in
          owed.is ∙ ap (λ k. Some (owing job.uri owed.rest k)) idle.0 ∙ ap (λ r. Some (owing job.uri r true)) idle.1) e.told.owed;
    }

kept_open : (line : Line) (uri : Uri) (flag : Bool) → (flag ≡ true → IsOpen line (place_of uri)) → IfSome (kept_if flag uri) (IsOpen line)
kept_open line uri true opens = opens refl
kept_open line uri false opens = tt

-- a connection that is kept is open
pub ends_open : (one : OneReading) (stays : Stays) (till : StaysAtEnd) (line : Line) (job : Job) (before : Talk) (given : List ℕ) (word : Word) (kept : Option Place) → CanBegin job → Ends line job before given word kept → IfSome kept (IsOpen line)
ends_open one stays till line job before given word kept can e =
    subst (λ k. IfSome k (IsOpen line)) (sym e.keeps_is) (kept_open line job.uri (keeps e.heard e.ended) (keeps_by one stays till line job before given word kept can e))

-- ---- pieces

nothing_behind : (behind : Behind) (rest : List ℕ) → is_end behind ≡ true → StandsBehind behind rest → rest ≡ []
nothing_behind Nothing rest end stands = stands
nothing_behind Bytes rest end stands = absurd cc
nothing_behind End rest end stands = stands

-- the body of the whole response goes on where the one that was heard so far ends
goes_to : (one : OneReading) (grow : AllGrow) (rise : AllRise) (max wide from : ℕ) (bytes rest : List ℕ) (ended : Bool) (x y : Heard) → max ≤ wide → x.ending ≢ Some TooBig → y.ending ≢ Some TooBig → IsHeard max from bytes ended x → (ended ≡ true → rest ≡ []) → IsHeard wide from (bytes ++ rest) true y
    → (tail : List ℕ) × (y.body ≡ x.body ++ tail)
goes_to one grow rise max wide from bytes rest false x y wider fits whole_fits is none whole =
    let grown = grow wide from bytes rest true x y (rise max wide from bytes false x wider fits is) whole whole_fits in
    (grown.tail, grown.is)
goes_to one grow rise max wide from bytes rest true x y wider fits whole_fits is none whole =
    let at : IsHeard wide from bytes true y = subst (λ b. IsHeard wide from b true y) (ap (λ r. bytes ++ r) (none refl) ∙ append-nil bytes) whole in
    ([], ap (λ z. z.body) (one wide from bytes true y x at (rise max wide from bytes true x wider fits is)) ∙ sym (append-nil x.body))

no_body : (body given bytes more : List ℕ) → 0 < length bytes → body ≡ [] → body ≡ (given ++ bytes) ++ more → ⊥
no_body body given bytes more some none is =
    let long = sym (ap length none) ∙ ap length is ∙ length-append (given ++ bytes) more in
    let both = length-append given bytes in
    omega (arith, long, both, some)

in_file : (all given bytes more : List ℕ) (from at : ℕ) → at ≡ from + length given → 0 < length bytes → drop from all ≡ (given ++ bytes) ++ more → (bytes ≡ take (length bytes) (drop at all)) × (at + length bytes ≤ length all)
in_file all given bytes more from at at_is some is =
    let back : drop at all ≡ bytes ++ more = ap (λ n. drop n all) at_is ∙ sym (drop-drop (length given) from all) ∙ ap (drop (length given)) (is ∙ append_assoc given bytes more) ∙ drop_at given (bytes ++ more) (length given) refl in
    let long = sym (length-drop from all) ∙ ap length is ∙ length-append (given ++ bytes) more in
    let both = length-append given bytes in
    (sym (take_at bytes more (length bytes) refl) ∙ ap (take (length bytes)) (sym back), omega (arith, long, both, at_is, some))

-- what a piece needs of a reading that gave its bytes out
record Gave (tells : AllTell) (line : Line) (r : Reading) (bytes : List ℕ) : Type 0 where
  is : IsReading line r bytes
  some : 0 < length bytes
  fits : wire_state r.wire ≢ states.TooBig

heard_of : (tells : AllTell) (line : Line) (r : Reading) (bytes : List ℕ) (g : Gave tells line r bytes) → (x : Heard) × IsHeard r.fetch.job.max r.fetch.job.from g.is.reads.bytes (is_end r.behind) x × (x.ending ≢ Some TooBig) × (x.body ≡ (g.is.given ++ bytes) ++ r.wire.body)
heard_of tells line r bytes g =
    let t = tells r.wire r.fetch.job.max r.fetch.job.from (g.is.given ++ bytes) g.is.reads.bytes (is_end r.behind) g.is.reads.follows in
    (t.heard, t.is, (λ big. g.fits (ap state_of (sym t.ending ∙ big))), t.body (λ big. g.fits (ap state_of big)))

whole_of : (entries : MirrorMap) (due : Option Due) (job : Job) (bytes rest : List ℕ) (ended : Bool) (max : ℕ) → (job.from ≡ 0) ⊎ (job.from < max) → (owed : IsOwed entries due job (bytes ++ rest) ended)
    → (y : Heard) × IsHeard max job.from (bytes ++ (rest ++ owed.rest)) true y × HeardAnswer (answer_at entries job.uri) job.uri max job.from owed.keep y
whole_of entries due job bytes rest ended max can owed =
    let whole = owed.answers.is max can in
    (whole.0, subst (λ b. IsHeard max job.from b true whole.0) (append_assoc bytes rest owed.rest) whole.1, whole.2)

all_none : (a b : List ℕ) → a ≡ [] → b ≡ [] → a ++ b ≡ []
all_none a b first second = ap (λ z. z ++ b) first ∙ second

wide_can : (from max more : ℕ) → (from ≡ 0) ⊎ (from < max) → (from ≡ 0) ⊎ (from < max + more)
wide_can from max more (inl none) = inl none
wide_can from max more (inr less) = inr (omega (arith, less))

not_big : (y : Heard) (how : Response) → y.ending ≡ Some how → Some how ≢ Some TooBig → y.ending ≢ Some TooBig
not_big y how is other big = other (sym is ∙ big)

piece_of_file : (one : OneReading) (tells : AllTell) (fit : AllFit) (grow : AllGrow) (rise : AllRise) (line : Line) (entries : MirrorMap) (r : Reading) (bytes all : List ℕ) (g : Gave tells line r bytes) (owed : IsOwed entries line.due r.fetch.job (g.is.reads.bytes ++ g.is.reads.rest) (is_end r.behind))
    → (y : Heard) → IsHeard (r.fetch.job.max + length all) r.fetch.job.from (g.is.reads.bytes ++ (g.is.reads.rest ++ owed.rest)) true y → HeardFile all (r.fetch.job.max + length all) r.fetch.job.from owed.keep y → IsPieceOf (answers.Served all) r.fetch.at bytes
piece_of_file one tells fit grow rise line entries r bytes all g owed y whole (Big over is) = absurd (omega (arith, over))
piece_of_file one tells fit grow rise line entries r bytes all g owed y whole (Short left_out ends is) =
    let x = heard_of tells line r bytes g in
    let none = (λ (end : is_end r.behind ≡ true). all_none g.is.reads.rest owed.rest (nothing_behind r.behind g.is.reads.rest end g.is.reads.stands) (owed.ends end)) in
    let to = goes_to one grow rise r.fetch.job.max (r.fetch.job.max + length all) r.fetch.job.from g.is.reads.bytes (g.is.reads.rest ++ owed.rest) (is_end r.behind) x.0 y (omega arith) x.2 (not_big y (Absent 416) is (λ e. cc)) x.1 none whole in
    let bare : y.body ≡ [] = (fit (r.fetch.job.max + length all) r.fetch.job.from (g.is.reads.bytes ++ (g.is.reads.rest ++ owed.rest)) true y whole).bare (ap bears_body is) in
    absurd (no_body y.body g.is.given bytes (r.wire.body ++ to.0) g.some bare (to.1 ∙ ap (λ z. z ++ to.0) x.3 ∙ append_assoc (g.is.given ++ bytes) r.wire.body to.0))
piece_of_file one tells fit grow rise line entries r bytes all g owed y whole (Whole begins fits is) =
    let x = heard_of tells line r bytes g in
    let none = (λ (end : is_end r.behind ≡ true). all_none g.is.reads.rest owed.rest (nothing_behind r.behind g.is.reads.rest end g.is.reads.stands) (owed.ends end)) in
    let to = goes_to one grow rise r.fetch.job.max (r.fetch.job.max + length all) r.fetch.job.from g.is.reads.bytes (g.is.reads.rest ++ owed.rest) (is_end r.behind) x.0 y (omega arith) x.2 (not_big y (Served owed.keep) (ap (λ z. z.ending) is) (λ e. cc)) x.1 none whole in
    in_file all g.is.given bytes (r.wire.body ++ to.0) r.fetch.job.from r.fetch.at g.is.place g.some
    (sym (ap (λ z. z.body) is) ∙ to.1 ∙ ap (λ z. z ++ to.0) x.3 ∙ append_assoc (g.is.given ++ bytes) r.wire.body to.0)

-- behind another answer no piece comes
no_piece : (one : OneReading) (tells : AllTell) (fit : AllFit) (grow : AllGrow) (rise : AllRise) (line : Line) (entries : MirrorMap) (r : Reading) (bytes : List ℕ) (g : Gave tells line r bytes) (owed : IsOwed entries line.due r.fetch.job (g.is.reads.bytes ++ g.is.reads.rest) (is_end r.behind))
    → (y : Heard) (how : Response) → IsHeard r.fetch.job.max r.fetch.job.from (g.is.reads.bytes ++ (g.is.reads.rest ++ owed.rest)) true y → y.ending ≡ Some how → Some how ≢ Some TooBig → bears_body (Some how) ≡ false → ⊥
no_piece one tells fit grow rise line entries r bytes g owed y how whole is other bare =
    let x = heard_of tells line r bytes g in
    let none = (λ (end : is_end r.behind ≡ true). all_none g.is.reads.rest owed.rest (nothing_behind r.behind g.is.reads.rest end g.is.reads.stands) (owed.ends end)) in
    let to = goes_to one grow rise r.fetch.job.max r.fetch.job.max r.fetch.job.from g.is.reads.bytes (g.is.reads.rest ++ owed.rest) (is_end r.behind) x.0 y (omega arith) x.2 (not_big y how is other) x.1 none whole in
    let empty : y.body ≡ [] = (fit r.fetch.job.max r.fetch.job.from (g.is.reads.bytes ++ (g.is.reads.rest ++ owed.rest)) true y whole).bare (ap bears_body is ∙ bare) in
    no_body y.body g.is.given bytes (r.wire.body ++ to.0) g.some empty (to.1 ∙ ap (λ z. z ++ to.0) x.3 ∙ append_assoc (g.is.given ++ bytes) r.wire.body to.0)

piece_at : (one : OneReading) (tells : AllTell) (fit : AllFit) (grow : AllGrow) (rise : AllRise) (line : Line) (entries : MirrorMap) (r : Reading) (bytes : List ℕ) (g : Gave tells line r bytes) (owed : IsOwed entries line.due r.fetch.job (g.is.reads.bytes ++ g.is.reads.rest) (is_end r.behind))
    → (answer : Answer) → answer_at entries r.fetch.job.uri ≡ answer → IsPieceOf answer r.fetch.at bytes
piece_at one tells fit grow rise line entries r bytes g owed (answers.Served all) is =
    let whole = whole_of entries line.due r.fetch.job g.is.reads.bytes g.is.reads.rest (is_end r.behind) (r.fetch.job.max + length all) (wide_can r.fetch.job.from r.fetch.job.max (length all) g.is.can) owed in
    piece_of_file one tells fit grow rise line entries r bytes all g owed whole.0 whole.1 (subst (λ a. HeardAnswer a r.fetch.job.uri (r.fetch.job.max + length all) r.fetch.job.from owed.keep whole.0) is whole.2)
piece_at one tells fit grow rise line entries r bytes g owed (answers.Moved to) is =
    let whole = whole_of entries line.due r.fetch.job g.is.reads.bytes g.is.reads.rest (is_end r.behind) r.fetch.job.max g.is.can owed in
    let h : HeardAnswer (answers.Moved to) r.fetch.job.uri r.fetch.job.max r.fetch.job.from owed.keep whole.0 = subst (λ a. HeardAnswer a r.fetch.job.uri r.fetch.job.max r.fetch.job.from owed.keep whole.0) is whole.2 in
    no_piece one tells fit grow rise line entries r bytes g owed whole.0 (Moved h.0) whole.1 h.1 (λ e. cc) refl
piece_at one tells fit grow rise line entries r bytes g owed (answers.Absent status) is =
    let whole = whole_of entries line.due r.fetch.job g.is.reads.bytes g.is.reads.rest (is_end r.behind) r.fetch.job.max g.is.can owed in
    let h : HeardAnswer (answers.Absent status) r.fetch.job.uri r.fetch.job.max r.fetch.job.from owed.keep whole.0 = subst (λ a. HeardAnswer a r.fetch.job.uri r.fetch.job.max r.fetch.job.from owed.keep whole.0) is whole.2 in
    no_piece one tells fit grow rise line entries r bytes g owed whole.0 (Absent status) whole.1 h (λ e. cc) refl

pub means_piece : (one : OneReading) (tells : AllTell) (fit : AllFit) (grow : AllGrow) (rise : AllRise) (line : Line) (r : Reading) (bytes : List ℕ) → IsReading line r bytes → 0 < length bytes → wire_state r.wire ≢ states.TooBig
    → IfSome line.world (λ entries. IsPieceOf (answer_at entries r.fetch.job.uri) r.fetch.at bytes)
means_piece one tells fit grow rise line r bytes is some fits =
    let g : Gave tells line r bytes = record { is = is; some = some; fits = fits } in
    of_owed line.world line.due r.fetch.job (is.reads.bytes ++ is.reads.rest) (is_end r.behind) _
    (λ entries owed. piece_at one tells fit grow rise line entries r bytes g owed (answer_at entries r.fetch.job.uri) refl) is.reads.told.owed

-- a piece stays within the limit
pub piece_within : (tells : AllTell) (fit : AllFit) (line : Line) (r : Reading) (bytes : List ℕ) → IsReading line r bytes → 0 < length bytes → wire_state r.wire ≢ states.TooBig → r.fetch.at + length bytes ≤ r.fetch.job.max
piece_within tells fit line r bytes is some fits =
    let g : Gave tells line r bytes = record { is = is; some = some; fits = fits } in
    let x = heard_of tells line r bytes g in
    let f = fit r.fetch.job.max r.fetch.job.from is.reads.bytes (is_end r.behind) x.0 x.1 in
    by x.0 x.3 f.begins f.within
  where
    by : (x : Heard) → x.body ≡ (is.given ++ bytes) ++ r.wire.body → (x.body ≡ []) ⊎ (x.start ≡ r.fetch.job.from) → (x.body ≡ []) ⊎ (x.start + length x.body ≤ r.fetch.job.max) → r.fetch.at + length bytes ≤ r.fetch.job.max
    by x body (inl none) within = absurd (no_body x.body is.given bytes r.wire.body some none body)
    by x body (inr begins) (inl none) = absurd (no_body x.body is.given bytes r.wire.body some none body)
    by x body (inr begins) (inr within) =
        let long = ap length body ∙ length-append (is.given ++ bytes) r.wire.body in
        let both = length-append is.given bytes in
        let at = is.place in
        omega (arith, long, both, at, begins, within)
