-- How a response begins behind its request.
use Rattle.std.proofs.Common.{◌≡◌, ◌∙◌, ℕ, ◌+◌, ◌<◌, ◌^◌, Bool, true, false, List, [], ◌++◌, Option, Some, None, IfSome, option_map, unwrap_or, ⊎_elim, inl, inr, refl, sym, ap, subst, arith, append-nil}
use Rattle.acq_base.specs.declared.fetch.Job.{Job}
use Rattle.acq_base.specs.Uri.{IsSound}
use Rattle.acq_outside.specs.declared.word.Fetch.{Fetch}
use Rattle.acq_outside.specs.declared.word.Word.TheVariants.{NoMemory}
use Rattle.acq_outside.specs.Word.{CanBegin, begun}
use Rattle.acq_base.specs.declared.uri.Uri.{Uri}
use Rattle.acq_base.specs.declared.uri.Scheme.TheVariants.{Http}
use Rattle.acq_base.specs.Mirror.{MirrorMap}
use Rattle.acq_net.specs.Due.{IsAnswered, Owes, fresh}
use Rattle.acq_net.specs.Talk.{Talk, silent, sends}
use Rattle.http_wire.specs.Request.{request_text}
use Rattle.http_wire.specs.declared.ending.State.TheVariants.{More}
use Rattle.http_wire.specs.Wire.{Follows, held, wire_state}
use Rattle.http_method.specs.declared.reading.Behind.{Behind}
use Rattle.http_method.specs.declared.reading.Behind.TheVariants.{Nothing}
use Rattle.http_method.specs.declared.reading.Reading.{Reading}
use Rattle.http_method.specs.declared.reading.Place.{Place}
use Rattle.http_method.specs.declared.reading.Said.{Said}
use Rattle.http_method.specs.Line.{Connects, Line, Sends}
use Rattle.http_method.specs.Reading.{Hears, HearsSo, IsAsked, IsOpen, IsOwed, IsReading, IsFromPeer, Reads, Goes, SaysOn, BeginsAnew, BeginsAgain, BeginsOn, asked, is_for, place_of}
use Rattle.http_method.proofs.Received.{small_none}

asked_with : Talk → List ℕ → List ℕ → Bool → Talk
asked_with before text received ended = record { sent = before.sent ++ text; received = received; ended = ended }

asked_as : (talk : Option Talk) (job : Job) (text : List ℕ) → text ≡ request_text job.uri job.from → IfSome talk (λ told. told.ended ≡ false) → IfSome (option_map (sends text) talk) (λ told. told ≡ asked (unwrap_or talk silent) job [] false)
unfolding asked_with
asked_as None job text is opened = tt
asked_as (Some talk) job text is opened =
    ap (λ t. asked_with talk t talk.received talk.ended) is
    ∙ ap (λ l. asked_with talk (request_text job.uri job.from) l talk.ended) (sym (append-nil talk.received))
    ∙ ap (λ e. asked_with talk (request_text job.uri job.from) (talk.received ++ []) e) opened

-- the mirror's answer to the request is due
owed_first : (line later : Line) (job : Job) (text : List ℕ) → job.uri.scheme ≡ Http → IsSound job.uri → job.from < 2 ^ 64 → text ≡ request_text job.uri job.from → IfSome line.world (λ entries. line.due ≡ Some (fresh job.uri.host job.uri.port)) → Sends text line later
    → IfSome later.world (λ entries. IsOwed entries later.due job [] false)
unfolding Owes
owed_first line later job text http sound small is ready sent = subst (λ w. IfSome w (λ entries. IsOwed entries later.due job [] false)) (sym sent.world) (on line.world ready sent.owes)
  where
    on : (world : Option MirrorMap) → IfSome world (λ entries. line.due ≡ Some (fresh job.uri.host job.uri.port)) → IfSome world (λ entries. Owes entries text line.due later.due) → IfSome world (λ entries. IsOwed entries later.due job [] false)
    on None ready owes = tt
    on (Some entries) ready owes =
        let answered : IsAnswered entries job.uri job.from later.due = owes job.uri job.from http sound small is ready in
        record { rest = answered.response; keep = answered.keep; is = answered.is; answers = answered.answers; ends = λ e. absurd cc }

-- a request was sent on the connection that is open
pub asked_again : (line later : Line) (job : Job) (text : List ℕ) → job.uri.scheme ≡ Http → IsSound job.uri → job.from < 2 ^ 64 → text ≡ request_text job.uri job.from → IsOpen line (place_of job.uri) → Sends text line later → IsAsked later (unwrap_or line.talk silent) job [] false
asked_again line later job text http sound small is opened sent = record {
  told = subst (λ t. IfSome t (λ told. told ≡ asked (unwrap_or line.talk silent) job [] false)) (sym sent.talk) (asked_as line.talk job text is opened.told);
  owed = owed_first line later job text http sound small is opened.ready sent;
}

fresh_open : (talk : Option Talk) → IfSome (option_map (λ _. silent) talk) (λ told. told.ended ≡ false)
fresh_open None = tt
fresh_open (Some talk) = refl

fresh_before : (talk : Option Talk) → unwrap_or (option_map (λ _. silent) talk) silent ≡ silent
fresh_before None = refl
fresh_before (Some talk) = refl

connected_open : (line fresh_line : Line) (uri : Uri) → Connects uri.host uri.port line fresh_line → IsOpen fresh_line (place_of uri)
connected_open line fresh_line uri made = record {
  told = subst (λ t. IfSome t (λ told. told.ended ≡ false)) (sym made.talk) (fresh_open line.talk);
  ready = subst (λ w. IfSome w (λ entries. fresh_line.due ≡ Some (fresh uri.host uri.port))) (sym made.world) made.due;
}

-- a request was sent on a new one
pub asked_anew : (line fresh_line later : Line) (job : Job) (text : List ℕ) → job.uri.scheme ≡ Http → IsSound job.uri → job.from < 2 ^ 64 → text ≡ request_text job.uri job.from → Connects job.uri.host job.uri.port line fresh_line → Sends text fresh_line later → IsAsked later silent job [] false
asked_anew line fresh_line later job text http sound small is made sent =
    subst (λ b. IsAsked later b job [] false) (ap (λ t. unwrap_or t silent) made.talk ∙ fresh_before line.talk)
    (asked_again fresh_line later job text http sound small is (connected_open line fresh_line job.uri made) sent)

-- nothing of the response has come
pub first_reads : (line : Line) (before : Talk) (r : Reading) (job : Job) → r.fetch ≡ begun job → r.behind ≡ Nothing → Follows r.wire job.max job.from [] [] false → IsAsked line before job [] false → Reads line r before []
first_reads line before r job fetch none follows told =
    let P : Behind → Fetch → Type 0 = λ b f. Reads line (record { fetch = f; wire = r.wire; behind = b }) before [] in
    subst (λ b. P b r.fetch) (sym none) (subst (λ f. P Nothing f) (sym fetch) (record { bytes = []; rest = []; follows = follows; stands = refl; told = told }))

pub first_is : (line : Line) (before : Talk) (r : Reading) (job : Job) → r.fetch ≡ begun job → r.behind ≡ Nothing → CanBegin job → IsSound job.uri → wire_state r.wire ≡ More → held r.wire ≡ [] → Reads line r before [] → IsReading line r []
first_is line before r job fetch none can sound more empty reads = record {
  before = before;
  given = [];
  reads = reads;
  place = subst (λ (f : Fetch). f.at ≡ f.job.from + 0) (sym fetch) (sym (plus_none job.from));
  can = subst (λ (f : Fetch). CanBegin f.job) (sym fetch) can;
  sound = subst (λ (f : Fetch). IsSound f.job.uri) (sym fetch) sound;
  going = λ more. none;
  small = λ _. small_none r.wire empty;
}
  where
    plus_none : (n : ℕ) → n + 0 ≡ n
    plus_none n = omega arith

hears_first : (line later : Line) (before : Talk) (r : Reading) (job : Job) (said : Said) → r.fetch ≡ begun job → Reads line r before [] → SaysOn line r later said → HearsSo later job before [] said
hears_first line later before r job said fetch reads says = subst (λ (f : Fetch). HearsSo later f.job before [] said) fetch (says.is before [] reads)

pub begins_anew : (line later : Line) (r : Reading) (job : Job) (said : Said) → r.fetch ≡ begun job → Reads line r silent [] → SaysOn line r later said → BeginsAnew later job said
begins_anew line later r job said fetch reads says = record { is = hears_first line later silent r job said fetch reads says }

pub begins_again : (first line later : Line) (r : Reading) (job : Job) (said : Said) → r.fetch ≡ begun job → Reads line r (unwrap_or first.talk silent) [] → SaysOn line r later said → BeginsAgain first later job said
begins_again first line later r job said fetch reads says = record { is = inl (hears_first line later (unwrap_or first.talk silent) r job said fetch reads says) }

-- it went on without giving bytes out
pub reads_on : (line later : Line) (r next : Reading) (before : Talk) → Reads line r before [] → Goes line r later next [] → Reads later next before []
reads_on line later r next before reads goes = goes.is before [] reads

pub anew_on : (line : Line) (kept : Option Place) (later : Line) (job : Job) (said : Said) → BeginsAnew later job said → BeginsOn line kept later job said
anew_on line kept later job said anew = record { is = inr anew.is }

pub again_on : (line : Line) (kept : Option Place) (later : Line) (job : Job) (said : Said) → is_for kept job.uri ≡ true → BeginsAgain line later job said → BeginsOn line kept later job said
again_on line kept later job said for_it again = record { is = ⊎_elim (λ (old : HearsSo later job (unwrap_or line.talk silent) [] said). inl (for_it, old)) (λ (new : HearsSo later job silent [] said). inr new) again.is }

dry_hears : (later : Line) (job : Job) (said : Said) → said.word ≡ NoMemory → HearsSo later job silent [] said
dry_hears later job said dry = subst (λ w. Hears later job silent [] w said.kept said.reading) (sym dry) tt

pub dry_anew : (later : Line) (job : Job) (said : Said) → said.word ≡ NoMemory → BeginsAnew later job said
dry_anew later job said dry = record { is = dry_hears later job said dry }

-- want of memory is no word of a peer
pub dry_heard : (made : Type 0) (said : Said) → said.word ≡ NoMemory → IsFromPeer said.word → made
dry_heard made said dry from_peer = absurd (subst IsFromPeer dry from_peer)
