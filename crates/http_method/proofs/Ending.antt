-- The last word to a fetch is what is heard of the bytes received since its request.
use Rattle.std.proofs.Common.{◌≡◌, ◌≢◌, ◌∙◌, ◌⊎◌, ℕ, ◌+◌, ◌<◌, ◌≤◌, Bool, true, false, not, ◌&&◌, List, [], ◌∷◌, ◌++◌, Option, Some, None, IfSome, ⊎_elim, inl, inr, refl, sym, ap, subst, arith, length, append-nil, length-append}
use Rattle.acq_base.specs.declared.fetch.Job.{Job}
use Rattle.acq_base.specs.declared.fetch.NotServed.{NotServed}
use Rattle.acq_base.specs.declared.fetch.Reply.{Reply}
use Rattle.acq_base.specs.declared.fetch.NotServed.TheVariants as nots
use Rattle.acq_base.specs.declared.fetch.Reply.TheVariants as replies
use Rattle.acq_base.specs.declared.uri.Uri.{Uri}
use Rattle.acq_outside.specs.declared.word.Fetch.{Fetch}
use Rattle.acq_outside.specs.declared.word.Word.{Word}
use Rattle.acq_outside.specs.declared.word.Word.TheVariants.{Piece, Done, Not, NoMemory}
use Rattle.acq_outside.specs.Word.{CanBegin, IsWord}
use Rattle.acq_base.specs.Mirror.{MirrorMap, answer_at}
use Rattle.acq_net.specs.declared.link.Link.{Ghosts}
use Rattle.acq_net.specs.Due.{Due}
use Rattle.acq_net.specs.OverLink.{Leaves}
use Rattle.acq_net.specs.Talk.{Talk, is_none}
use Rattle.http_wire.specs.declared.ending.Response.{Response}
use Rattle.http_wire.specs.declared.ending.Response.TheVariants.{Served, Absent, Moved, TooBig, Garbled}
use Rattle.http_wire.specs.declared.ending.State.{State}
use Rattle.http_wire.specs.declared.ending.State.TheVariants as states
use Rattle.http_wire.specs.State.{WireState, state_of}
use Rattle.http_wire.specs.Stream.{Heard, followed, IsHeard}
use Rattle.http_wire.specs.Wire.{Follows, IsDone, IsReply, Replies, IsStateOf, held, wire_state}
use Rattle.http_method.specs.declared.reading.Behind.{Behind}
use Rattle.http_method.specs.declared.reading.Behind.TheVariants.{Nothing, Bytes, End}
use Rattle.http_method.specs.declared.reading.Place.{Place}
use Rattle.http_method.specs.declared.reading.Reading.{Reading}
use Rattle.http_method.specs.declared.reading.Said.{Said}
use Rattle.http_method.specs.Line.{Line, line_of}
use Rattle.http_method.specs.Reading.{GivesOn, Goes, HearsSo, IsAsked, IsOpen, IsReading, IsServed, IsMirrorsWord, Keeps, Ends, Hears, Reads, SaysOn, StandsBehind, is_end, is_file, is_kept, keeps, kept_if, leaves_open, part_of, under_of, word_of}
use Rattle.http_method.proofs.Received.{AllGrow, AllTell}
use Rattle.http_method.proofs.Mirrors.{AllFit, AllRise, Means, OneReading, Stays, StaysAtEnd, ends_open, followed_none, means_last, means_piece, piece_within, told_word}

-- the reply is that of what is heard
abbrev pub AllReply : Uri → WireState → Reply → Type 0
AllReply uri w reply = (max from : ℕ) (given bytes : List ℕ) (ended : Bool) → Follows w max from given bytes ended → Replies uri w max from given bytes ended reply

-- ---- what is heard of all bytes received

all_heard : (stays : Stays) (max from : ℕ) (bytes rest : List ℕ) (behind : Behind) (x : Heard) → StandsBehind behind rest → x.ending ≢ None → IsHeard max from bytes (is_end behind) x
    → IsHeard max from (bytes ++ rest) (is_end behind) (followed x rest)
all_heard stays max from bytes rest Nothing x stands over is =
    subst (λ r. IsHeard max from (bytes ++ r) false (followed x r)) (sym stands) (subst (λ b. IsHeard max from b false (followed x [])) (sym (append-nil bytes)) (subst (λ y. IsHeard max from bytes false y) (sym (followed_none x)) is))
all_heard stays max from bytes rest Bytes x stands over is = stays max from bytes rest x over is
all_heard stays max from bytes rest End x stands over is =
    subst (λ r. IsHeard max from (bytes ++ r) true (followed x r)) (sym stands) (subst (λ b. IsHeard max from b true (followed x [])) (sym (append-nil bytes)) (subst (λ y. IsHeard max from bytes true y) (sym (followed_none x)) is))

-- ---- whether the connection is kept

some_rest : (rest : List ℕ) → rest ≢ [] → is_none rest ≡ false
some_rest [] some = absurd (some refl)
some_rest (byte ∷ rest) some = refl

-- the heard of a whole file, by its ending and what stands behind it
abbrev file_heard : ℕ → List ℕ → Bool → List ℕ → Heard
file_heard start body keep rest = record { ending = Some (Served keep); start = start; body = body; rest = rest }

keep_is : (behind : Behind) (rest : List ℕ) (keep : Bool) (start : ℕ) (body : List ℕ) → StandsBehind behind rest → keeps (file_heard start body keep rest) (is_end behind) ≡ is_kept behind (states.Done keep)
keep_is Nothing rest true start body stands = ap (λ r. is_none r && true) stands
keep_is Nothing rest false start body stands = refl
keep_is Bytes rest true start body stands = ap (λ b. b && true) (some_rest rest stands)
keep_is Bytes rest false start body stands = refl
keep_is End rest true start body stands = ap (λ r. is_none r && false) stands
keep_is End rest false start body stands = refl

served_ending : (e : Option Response) (uri : Uri) (given body bytes : List ℕ) → IsReply uri given e body (replies.Served bytes) → (keep : Bool) × (e ≡ Some (Served keep))
served_ending None uri given body bytes is = absurd is
served_ending (Some (Served keep)) uri given body bytes is = (keep, refl)
served_ending (Some (Absent status)) uri given body bytes is = absurd cc
served_ending (Some (Moved place)) uri given body bytes is = absurd cc
served_ending (Some TooBig) uri given body bytes is = absurd cc
served_ending (Some (Garbled at)) uri given body bytes is = absurd cc

no_fault : (e : Option Response) (uri : Uri) (given body : List ℕ) (before after : ℕ) → IsReply uri given e body (replies.Not (nots.Fault before after)) → ⊥
no_fault None uri given body before after is = is
no_fault (Some (Served keep)) uri given body before after is = absurd (fault_served before after is.0 is.1)
  where
    fault_served : (before after : ℕ) (bytes : List ℕ) → (replies.Not (nots.Fault before after)) ≡ replies.Served bytes → ⊥
    fault_served before after bytes e = cc
no_fault (Some (Absent status)) uri given body before after is = cc
no_fault (Some (Moved place)) uri given body before after is = cc
no_fault (Some TooBig) uri given body before after is = cc
no_fault (Some (Garbled at)) uri given body before after is = cc

not_open : (e : Option Response) (uri : Uri) (given body : List ℕ) (reply : Reply) → is_file reply ≡ false → IsReply uri given e body reply → leaves_open e ≡ false
not_open None uri given body reply other is = refl
not_open (Some (Served keep)) uri given body reply other is = absurd (file_is reply is.0 other is.1)
  where
    file_is : (reply : Reply) (bytes : List ℕ) → is_file reply ≡ false → reply ≡ replies.Served bytes → ⊥
    file_is reply bytes other e = let file : is_file reply ≡ true = ap is_file e in cc
not_open (Some (Absent status)) uri given body reply other is = refl
not_open (Some (Moved place)) uri given body reply other is = refl
not_open (Some TooBig) uri given body reply other is = refl
not_open (Some (Garbled at)) uri given body reply other is = refl

-- what is heard of a reading, and that the reply is its
pub record Answer (r : Reading) (given bytes : List ℕ) (reply : Reply) : Type 0 where
  pub tells : IsStateOf r.wire r.fetch.job.max r.fetch.job.from given bytes (is_end r.behind)
  pub over : tells.heard.ending ≢ None
  pub is : (reply ≡ replies.NoMemory) ⊎ IsReply r.fetch.job.uri given tells.heard.ending tells.heard.body reply

answered : (one : OneReading) (tells : AllTell) (r : Reading) (given bytes : List ℕ) (reply : Reply) → wire_state r.wire ≢ states.More → AllReply r.fetch.job.uri r.wire reply
    → Follows r.wire r.fetch.job.max r.fetch.job.from given bytes (is_end r.behind) → Answer r given bytes reply
answered one tells r given bytes reply over says follows =
    let t = tells r.wire r.fetch.job.max r.fetch.job.from given bytes (is_end r.behind) follows in
    record {
      tells = t;
      over = λ none. over (ap state_of (sym t.ending ∙ none));
      is = ⊎_elim (λ (dry : reply ≡ replies.NoMemory). inl dry)
          (λ (found : (heard : Heard) × IsHeard r.fetch.job.max r.fetch.job.from bytes (is_end r.behind) heard × IsReply r.fetch.job.uri given heard.ending heard.body reply).
          let same : found.0 ≡ t.heard = one r.fetch.job.max r.fetch.job.from bytes (is_end r.behind) found.0 t.heard found.1 t.is in
          inr (subst (λ (x : Heard). IsReply r.fetch.job.uri given x.ending x.body reply) same found.2))
          (says r.fetch.job.max r.fetch.job.from given bytes (is_end r.behind) follows);
    }

-- a call that leaves what the link tells leaves its line
pub line_stays : {L : Type 0} (g : Ghosts L) (old new : L) → Leaves g old new → line_of g new ≡ line_of g old
line_stays g old new leaves =
    ap (λ (talk : Option Talk). record { talk = talk; world = g.world new; due = g.due new }) leaves.talk ∙ ap (λ (world : Option MirrorMap). record { talk = g.talk old; world = world; due = g.due new }) leaves.same
    ∙ ap (λ (due : Option Due). record { talk = g.talk old; world = g.world old; due = due }) leaves.due

told_later : (line later : Line) (before : Talk) (job : Job) (bytes : List ℕ) (ended : Bool) → later ≡ line → IsAsked line before job bytes ended → IsAsked later before job bytes ended
told_later line later before job bytes ended same told = subst (λ t. IsAsked t before job bytes ended) (sym same) told

-- a whole file
file_ends : (stays : Stays) (line later : Line) (r : Reading) (before : Talk) (given bytes : List ℕ) (reads : Reads line r before given) → later ≡ line → (IsDone (wire_state r.wire) → held r.wire ≡ [])
    → Answer r given reads.bytes (replies.Served bytes) → Ends later r.fetch.job before given (Done r.fetch.at) (kept_if (is_kept r.behind (wire_state r.wire)) r.fetch.job.uri)
file_ends stays line later r before given bytes reads same all answer =
    let t = answer.tells in
    let x = t.heard in
    let is : IsReply r.fetch.job.uri given x.ending x.body (replies.Served bytes) = ⊎_elim (λ (dry : replies.Served bytes ≡ replies.NoMemory). absurd (never dry)) (λ (found : IsReply r.fetch.job.uri given x.ending x.body (replies.Served bytes)). found) answer.is in
    let served = served_ending x.ending r.fetch.job.uri given x.body bytes is in
    let keep = served.0 in
    let state : wire_state r.wire ≡ states.Done keep = ap state_of (sym t.ending ∙ served.1) in
    let done : IsDone (wire_state r.wire) = subst IsDone (sym state) tt in
    let body : x.body ≡ given = t.body (λ big. big_is keep (sym served.1 ∙ t.ending ∙ big)) ∙ ap (λ h. given ++ h) (all done) ∙ append-nil given in
    let none : x.rest ≡ [] = t.rest done in
    let opens : keeps (followed x reads.rest) (is_end r.behind) ≡ is_kept r.behind (wire_state r.wire) =
    ap (λ (e : Option Response). leaves_open e && is_none (x.rest ++ reads.rest) && not (is_end r.behind)) served.1
    ∙ ap (λ l. keep && is_none (l ++ reads.rest) && not (is_end r.behind)) none
    ∙ keep_is r.behind reads.rest keep x.start given reads.stands ∙ ap (is_kept r.behind) (sym state) in
    record {
      heard = followed x reads.rest;
      bytes = reads.bytes ++ reads.rest;
      ended = is_end r.behind;
      is = all_heard stays r.fetch.job.max r.fetch.job.from reads.bytes reads.rest r.behind x reads.stands answer.over t.is;
      told = told_later line later before r.fetch.job (reads.bytes ++ reads.rest) (is_end r.behind) same reads.told;
      says = (subst IsServed (sym served.1) tt, body);
      keeps_is = ap (λ b. kept_if b r.fetch.job.uri) (sym opens);
    }
  where
    never : replies.Served bytes ≡ replies.NoMemory → ⊥
    never e = cc

    big_is : (keep : Bool) → Some (Served keep) ≡ Some TooBig → ⊥
    big_is keep e = cc

-- anything else
other_ends : (stays : Stays) (line later : Line) (r : Reading) (before : Talk) (given : List ℕ) (end : NotServed) (reads : Reads line r before given) → later ≡ line
    → Answer r given reads.bytes (replies.Not end) → Ends later r.fetch.job before given (Not end) None
other_ends stays line later r before given end reads same answer =
    let t = answer.tells in
    let x = t.heard in
    let is : IsReply r.fetch.job.uri given x.ending x.body (replies.Not end) = ⊎_elim (λ (dry : replies.Not end ≡ replies.NoMemory). absurd cc) (λ (found : IsReply r.fetch.job.uri given x.ending x.body (replies.Not end)). found) answer.is in
    let shut : leaves_open x.ending ≡ false = not_open x.ending r.fetch.job.uri given x.body (replies.Not end) refl is in
    record {
      heard = followed x reads.rest;
      bytes = reads.bytes ++ reads.rest;
      ended = is_end r.behind;
      is = all_heard stays r.fetch.job.max r.fetch.job.from reads.bytes reads.rest r.behind x reads.stands answer.over t.is;
      told = told_later line later before r.fetch.job (reads.bytes ++ reads.rest) (is_end r.behind) same reads.told;
      says = is;
      keeps_is = ap (λ b. kept_if (b && is_none (x.rest ++ reads.rest) && not (is_end r.behind)) r.fetch.job.uri) (sym shut);
    }

-- what is said last
abbrev pub last_said : Reading → Reply → Said
last_said r reply = record { word = word_of r.fetch.at reply; kept = kept_if (is_file reply && is_kept r.behind (wire_state r.wire)) r.fetch.job.uri; reading = None }

abbrev saying : Word → Option Place → Said
saying word kept = record { word = word; kept = kept; reading = None }

hears_last : (stays : Stays) (line later : Line) (r : Reading) (before : Talk) (given : List ℕ) (reply : Reply) (reads : Reads line r before given) → later ≡ line → (IsDone (wire_state r.wire) → held r.wire ≡ [])
    → Answer r given reads.bytes reply → Hears later r.fetch.job before given (word_of r.fetch.at reply) (kept_if (is_file reply && is_kept r.behind (wire_state r.wire)) r.fetch.job.uri) None
hears_last stays line later r before given (replies.Served bytes) reads same all answer = file_ends stays line later r before given bytes reads same all answer
hears_last stays line later r before given (replies.Not (nots.Moved place)) reads same all answer = other_ends stays line later r before given (nots.Moved place) reads same answer
hears_last stays line later r before given (replies.Not (nots.Absent status)) reads same all answer = other_ends stays line later r before given (nots.Absent status) reads same answer
hears_last stays line later r before given (replies.Not nots.TooBig) reads same all answer = other_ends stays line later r before given nots.TooBig reads same answer
hears_last stays line later r before given (replies.Not (nots.Garbled at)) reads same all answer = other_ends stays line later r before given (nots.Garbled at) reads same answer
hears_last stays line later r before given (replies.Not (nots.Fault a b)) reads same all answer = tt
hears_last stays line later r before given replies.NoMemory reads same all answer = tt

pub last_says : (one : OneReading) (stays : Stays) (tells : AllTell) (line later : Line) (r : Reading) (reply : Reply) → later ≡ line → wire_state r.wire ≢ states.More → (IsDone (wire_state r.wire) → held r.wire ≡ [])
    → AllReply r.fetch.job.uri r.wire reply → SaysOn line r later (last_said r reply)
last_says one stays tells line later r reply same over all says = record {
  is = λ before given reads. hears_last stays line later r before given reply reads same all (answered one tells r given reads.bytes reply over says reads.follows);
}

told_last : (n at : ℕ) (fetch : Fetch) (reply : Reply) → at ≡ fetch.at → ((a b : ℕ) → reply ≡ (replies.Not (nots.Fault a b)) → ⊥) → IsWord n n None fetch None (word_of at reply)
told_last n at fetch (replies.Served bytes) same never = record { quiet = refl; reached = same; ended = refl; told = tt }
told_last n at fetch (replies.Not (nots.Moved place)) same never = record { counted = refl; ended = refl; told = tt }
told_last n at fetch (replies.Not (nots.Absent status)) same never = record { counted = refl; ended = refl; told = tt }
told_last n at fetch (replies.Not nots.TooBig) same never = record { counted = refl; ended = refl; told = tt }
told_last n at fetch (replies.Not (nots.Garbled place)) same never = record { counted = refl; ended = refl; told = tt }
told_last n at fetch (replies.Not (nots.Fault a b)) same never = absurd (never a b refl)
told_last n at fetch replies.NoMemory same never = record { counted = refl; ended = refl; told = tt }

last_untold : (one : OneReading) (tells : AllTell) (line : Line) (r : Reading) (reply : Reply) (n : ℕ) → IsReading line r [] → wire_state r.wire ≢ states.More → AllReply r.fetch.job.uri r.wire reply → IsWord n n None r.fetch None (word_of r.fetch.at reply)
last_untold one tells line r reply n is over says =
    told_last n r.fetch.at r.fetch reply refl (λ a b e.
    let answer = answered one tells r (is.given ++ []) is.reads.bytes reply over says is.reads.follows in
    let x = answer.tells.heard in
    ⊎_elim (λ (dry : reply ≡ replies.NoMemory). fault_dry a b (sym e ∙ dry))
    (λ (found : IsReply r.fetch.job.uri (is.given ++ []) x.ending x.body reply). no_fault x.ending r.fetch.job.uri (is.given ++ []) x.body a b (subst (λ y. IsReply r.fetch.job.uri (is.given ++ []) x.ending x.body y) e found)) answer.is)
  where
    fault_dry : (a b : ℕ) → (replies.Not (nots.Fault a b)) ≡ replies.NoMemory → ⊥
    fault_dry a b e = cc

-- what is heard last of a reading
last_hears : (one : OneReading) (stays : Stays) (tells : AllTell) (line later : Line) (r : Reading) (reply : Reply) → later ≡ line → (is : IsReading line r []) → wire_state r.wire ≢ states.More → (IsDone (wire_state r.wire) → held r.wire ≡ [])
    → AllReply r.fetch.job.uri r.wire reply → Hears later r.fetch.job is.before is.given (last_said r reply).word (last_said r reply).kept None
last_hears one stays tells line later r reply same is over all says =
    (last_says one stays tells line later r reply same over all says).is is.before is.given (subst (λ g. Reads line r is.before g) (append-nil is.given) is.reads)

last_told : (one : OneReading) (stays : Stays) (till : StaysAtEnd) (tells : AllTell) (line later : Line) (r : Reading) (reply : Reply) → later ≡ line → IsReading line r [] → wire_state r.wire ≢ states.More → (IsDone (wire_state r.wire) → held r.wire ≡ [])
    → AllReply r.fetch.job.uri r.wire reply → IsMirrorsWord line.world r.fetch (last_said r reply)
last_told one stays till tells line later r reply same is over all says = record {
  is = λ n.
      let untold = last_untold one tells line r reply n is over says in
      let hears = last_hears one stays tells line later r reply same is over all says in
      told_word n n line.world r.fetch None (word_of r.fetch.at reply) untold
      (subst (λ (l : Line). IfSome l.world (λ entries. Means (answer_at entries r.fetch.job.uri) r.fetch (word_of r.fetch.at reply))) same
      (means_last one stays till later r.fetch is.before is.given (word_of r.fetch.at reply) (last_said r reply).kept n is.can is.place untold hears));
}

-- what is kept is open
keeps_last : (one : OneReading) (stays : Stays) (till : StaysAtEnd) (line : Line) (job : Job) (before : Talk) (given : List ℕ) (at : ℕ) (reply : Reply) (keep : Bool) → CanBegin job
    → Hears line job before given (word_of at reply) (kept_if (is_file reply && keep) job.uri) None → IfSome (kept_if (is_file reply && keep) job.uri) (IsOpen line)
keeps_last one stays till line job before given at (replies.Served bytes) keep can hears = ends_open one stays till line job before given (Done at) (kept_if keep job.uri) can hears
keeps_last one stays till line job before given at (replies.Not end) keep can hears = tt
keeps_last one stays till line job before given at replies.NoMemory keep can hears = tt

last_keeps : (one : OneReading) (stays : Stays) (till : StaysAtEnd) (tells : AllTell) (line later : Line) (r : Reading) (reply : Reply) → later ≡ line → IsReading line r [] → wire_state r.wire ≢ states.More → (IsDone (wire_state r.wire) → held r.wire ≡ [])
    → AllReply r.fetch.job.uri r.wire reply → Keeps later (last_said r reply).kept None
last_keeps one stays till tells line later r reply same is over all says = record {
  reads = tt;
  open_is = keeps_last one stays till later r.fetch.job is.before is.given r.fetch.at reply (is_kept r.behind (wire_state r.wire)) is.can (last_hears one stays tells line later r reply same is over all says);
  one = λ some. absurd cc;
}

-- the last word by what was asked of the wire
said_last : (r : Reading) (reply : Reply) (word : Word) (kept : Option Place) (file keep : Bool) (state : State) → word ≡ word_of r.fetch.at reply → kept ≡ kept_if (file && keep) r.fetch.job.uri → file ≡ is_file reply → keep ≡ is_kept r.behind state
    → state ≡ wire_state r.wire → last_said r reply ≡ saying word kept
said_last r reply word kept file keep state word_is kept_is file_is keep_is state_is =
    let flag : file && keep ≡ is_file reply && is_kept r.behind (wire_state r.wire) = ap (λ b. b && keep) file_is ∙ ap (λ b. is_file reply && b) (keep_is ∙ ap (is_kept r.behind) state_is) in
    ap (λ w. saying w (last_said r reply).kept) (sym word_is) ∙ ap (saying word) (sym (kept_is ∙ ap (λ b. kept_if b r.fetch.job.uri) flag))

pub record Last (line later : Line) (r : Reading) (said : Said) : Type 0 where
  pub says : SaysOn line r later said
  pub told : IsMirrorsWord line.world r.fetch said
  pub keeps : Keeps later said.kept None

pub finish_all : (one : OneReading) (stays : Stays) (till : StaysAtEnd) (tells : AllTell) (line later : Line) (r : Reading) (reply : Reply) (word : Word) (kept : Option Place) (file keep : Bool) (state : State)
    → word ≡ word_of r.fetch.at reply → kept ≡ kept_if (file && keep) r.fetch.job.uri → file ≡ is_file reply → keep ≡ is_kept r.behind state → state ≡ wire_state r.wire
    → later ≡ line → IsReading line r [] → wire_state r.wire ≢ states.More → (IsDone (wire_state r.wire) → held r.wire ≡ []) → AllReply r.fetch.job.uri r.wire reply → Last line later r (record { word = word; kept = kept; reading = None })
finish_all one stays till tells line later r reply word kept file keep state word_is kept_is file_is keep_is state_is same is over all says =
    subst (Last line later r) (said_last r reply word kept file keep state word_is kept_is file_is keep_is state_is) (record {
      says = last_says one stays tells line later r reply same over all says;
      told = last_told one stays till tells line later r reply same is over all says;
      keeps = last_keeps one stays till tells line later r reply same is over all says;
    })

-- ---- what is said of a reading that gave bytes out

part_untold : (r : Reading) (bytes : List ℕ) (n : ℕ) → 0 < length bytes → length bytes ≤ 65536 → r.fetch.at + length bytes ≤ r.fetch.job.max → IsWord n n None r.fetch (under_of (part_of r bytes).reading) (Piece r.fetch.at bytes)
part_untold r bytes n some small within = record { quiet = refl; goes_on = refl; nonempty = (omega (arith, some)); small = small; within = within; under_way = refl; told = tt }

pub part_told : (one : OneReading) (tells : AllTell) (fit : AllFit) (grow : AllGrow) (rise : AllRise) (line : Line) (r : Reading) (bytes : List ℕ) (said : Said) → said ≡ part_of r bytes → IsReading line r bytes → 0 < length bytes → length bytes ≤ 65536
    → wire_state r.wire ≢ states.TooBig → IsMirrorsWord line.world r.fetch said
part_told one tells fit grow rise line r bytes said said_is is some small fits = subst (IsMirrorsWord line.world r.fetch) (sym said_is) (record {
  is = λ n. told_word n n line.world r.fetch (under_of (part_of r bytes).reading) (Piece r.fetch.at bytes)
      (part_untold r bytes n some small (piece_within tells fit line r bytes is some fits)) (means_piece one tells fit grow rise line r bytes is some fits);
})

part_is : (line : Line) (r : Reading) (bytes : List ℕ) → IsReading line r bytes → IsReading line (record { fetch = record { job = r.fetch.job; at = r.fetch.at + length bytes }; wire = r.wire; behind = r.behind }) []
part_is line r bytes is = record {
  before = is.before;
  given = is.given ++ bytes;
  reads = record {
    bytes = is.reads.bytes;
    rest = is.reads.rest;
    follows = subst (λ g. Follows r.wire r.fetch.job.max r.fetch.job.from g is.reads.bytes (is_end r.behind)) (sym (append-nil (is.given ++ bytes))) is.reads.follows;
    stands = is.reads.stands;
    told = is.reads.told;
  };
  place = (let at = is.place in let both = length-append is.given bytes in let e : r.fetch.at + length bytes ≡ r.fetch.job.from + length (is.given ++ bytes) = omega (arith, at, both) in e);
  can = is.can;
  sound = is.sound;
  going = is.going;
  small = is.small;
}

pub part_keeps : (line : Line) (r : Reading) (bytes : List ℕ) (said : Said) → said ≡ part_of r bytes → IsReading line r bytes → Keeps line said.kept said.reading
part_keeps line r bytes said said_is is = subst (λ (s : Said). Keeps line s.kept s.reading) (sym said_is) (record { reads = part_is line r bytes is; open_is = tt; one = λ some. refl })

pub dry_says : (line later : Line) (r : Reading) (said : Said) → said.word ≡ NoMemory → SaysOn line r later said
dry_says line later r said dry = record { is = λ before given reads. subst (λ w. Hears later r.fetch.job before given w said.kept said.reading) (sym dry) tt }

pub goes_says : (line middle later : Line) (r next : Reading) (bytes : List ℕ) (said : Said) → Goes line r middle next bytes → next.fetch ≡ r.fetch → GivesOn middle next later bytes said → SaysOn line r later said
goes_says line middle later r next bytes said goes same gives = record {
  is = λ before given reads. subst (λ (f : Fetch). HearsSo later f.job before given said) same (gives.is before given (goes.is before given reads));
}
