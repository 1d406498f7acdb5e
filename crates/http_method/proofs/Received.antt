-- How a reading goes on with what a link receives.
use Rattle.std.proofs.Common.{◌≡◌, ◌≢◌, ◌∙◌, ℕ, ◌+◌, ◌<◌, ◌≤◌, Bool, true, false, nat_eq, List, [], ◌∷◌, ◌++◌, length, take, drop, nat_lt, Option, Some, None, IfSome, option_map, refl, sym, ap, subst, arith, append_assoc, append-nil, length-append, length-drop, length-take}
use Rattle.std.proofs.lemmas.List.{take-append-drop, nil_from_length}
use Rattle.std.proofs.lemmas.Bool.{ltb-true, ltb-false, eqb-true}
use Rattle.acq_base.specs.declared.fetch.Job.{Job}
use Rattle.acq_base.specs.Uri.{IsSound}
use Rattle.acq_outside.specs.declared.word.Fetch.{Fetch}
use Rattle.acq_base.specs.Mirror.{MirrorMap}
use Rattle.acq_outside.specs.Word.{CanBegin}
use Rattle.acq_net.specs.Due.{Came, Due, IsAnswerOf, owing}
use Rattle.acq_net.specs.Talk.{Talk, receives, is_none}
use Rattle.http_wire.specs.declared.ending.Response.TheVariants.{TooBig as Big}
use Rattle.http_wire.specs.BodyLaws.{Grows}
use Rattle.http_wire.specs.Stream.{Heard, IsHeard}
use Rattle.http_wire.specs.State.{WireState, state_of}
use Rattle.http_wire.specs.Wire.{Follows, Takes, IsStateOf, Finishes, Gives, held, wire_state}
use Rattle.http_wire.specs.declared.ending.State.TheVariants.{More, TooBig}
use Rattle.http_method.specs.declared.reading.Behind.{Behind}
use Rattle.http_method.specs.declared.reading.Behind.TheVariants.{Nothing, End}
use Rattle.http_method.specs.declared.reading.Reading.{Reading}
use Rattle.http_method.specs.Line.{Gets, Line}
use Rattle.http_method.specs.Reading.{asked, IsAsked, IsOwed, is_end, StandsBehind, Reads, IsReading, Received, StaysSmall, Goes, behind_of}

-- what was said on a connection, where that is told
abbrev ToldSo : Option Talk → Talk → Job → List ℕ → Bool → Type 0
ToldSo talk before job bytes ended = IfSome talk (λ told. told ≡ asked before job bytes ended)

-- the peer's end
told_end : (talk : Option Talk) (before : Talk) (job : Job) (bytes rest : List ℕ) (behind : Behind) → behind ≡ Nothing → rest ≡ [] → ToldSo talk before job (bytes ++ rest) (is_end behind)
    → ToldSo (option_map (receives []) talk) before job (bytes ++ []) true
told_end None before job bytes rest behind none rest_is told = tt
told_end (Some talk) before job bytes rest behind none rest_is told =
    let told_is : talk ≡ asked before job (bytes ++ rest) false = subst (λ b. talk ≡ asked before job (bytes ++ rest) (is_end b)) none told in
    ap (receives []) told_is ∙ ap (λ l. asked_with before job l true) (append-nil (before.received ++ (bytes ++ rest)) ∙ ap (λ z. before.received ++ (bytes ++ z)) rest_is)
  where
    asked_with : Talk → Job → List ℕ → Bool → Talk
    asked_with before job l ended = record { sent = (asked before job [] ended).sent; received = l; ended = ended }

-- what is due goes on with the bytes that came of it
owed_moves : (entries : MirrorMap) (due later : Option Due) (job : Job) (received piece target : List ℕ) (was ended : Bool) → target ≡ received ++ piece → (ended ≡ true → piece ≡ []) → IfSome due (λ one. Came piece one later)
    → IsOwed entries due job received was → IsOwed entries later job target ended
owed_moves entries due later job received piece target was ended same ends came owed =
    let c : Came piece (owing job.uri owed.rest owed.keep) later = subst (λ d. IfSome d (λ one. Came piece one later)) owed.is came in
    record {
      rest = c.rest;
      keep = owed.keep;
      is = c.left;
      answers = subst (λ z. IsAnswerOf entries job.uri job.from z owed.keep) (ap (λ z. received ++ z) c.is ∙ sym (append_assoc received piece c.rest) ∙ ap (λ z. z ++ c.rest) (sym same)) owed.answers;
      ends = λ e. c.ends (ends e);
    }

owed_gets : (line later : Line) (job : Job) (received piece target : List ℕ) (was ended : Bool) → target ≡ received ++ piece → (ended ≡ true → piece ≡ []) → Gets piece line later → IfSome line.world (λ entries. IsOwed entries line.due job received was)
    → IfSome later.world (λ entries. IsOwed entries later.due job target ended)
owed_gets line later job received piece target was ended same ends gets owed =
    subst (λ w. IfSome w (λ entries. IsOwed entries later.due job target ended)) (sym gets.world) (on line.world owed)
  where
    on : (world : Option MirrorMap) → IfSome world (λ entries. IsOwed entries line.due job received was) → IfSome world (λ entries. IsOwed entries later.due job target ended)
    on None owed = tt
    on (Some entries) owed = owed_moves entries line.due later.due job received piece target was ended same ends gets.came owed

nothing_yet : (behind : Behind) (rest : List ℕ) → behind ≡ Nothing → StandsBehind behind rest → rest ≡ []
nothing_yet behind rest none stands = subst (λ b. StandsBehind b rest) none stands

asked_end : (line later : Line) (before : Talk) (job : Job) (bytes rest : List ℕ) (behind : Behind) → behind ≡ Nothing → StandsBehind behind rest → Gets [] line later → IsAsked line before job (bytes ++ rest) (is_end behind)
    → IsAsked later before job (bytes ++ []) true
asked_end line later before job bytes rest behind none stands gets told =
    let rest_is = nothing_yet behind rest none stands in
    record {
      told = subst (λ t. ToldSo t before job (bytes ++ []) true) (sym gets.talk) (told_end line.talk before job bytes rest behind none rest_is told.told);
      owed = owed_gets line later job (bytes ++ rest) [] (bytes ++ []) (is_end behind) true (ap (λ z. bytes ++ z) (sym rest_is) ∙ sym (append-nil (bytes ++ rest))) (λ _. refl) gets told.owed;
    }

pub end_received : (r : Reading) (w : WireState) → r.behind ≡ Nothing → Finishes r.wire w → Received r (record { fetch = r.fetch; wire = w; behind = End }) []
end_received r w none finishes = record {
  is = λ line later before given gets reads. record {
    bytes = reads.bytes;
    rest = [];
    follows = finishes r.fetch.job.max r.fetch.job.from given reads.bytes (is_end r.behind) reads.follows;
    stands = refl;
    told = asked_end line later before r.fetch.job reads.bytes reads.rest r.behind none reads.stands gets reads.told;
  };
}

joined : (a bytes rest front back piece : List ℕ) → rest ≡ [] → front ++ back ≡ piece → (a ++ (bytes ++ rest)) ++ piece ≡ a ++ ((bytes ++ front) ++ back)
joined a bytes rest front back piece none cut =
    ap (λ z. (a ++ (bytes ++ z)) ++ piece) none
    ∙ ap (λ z. (a ++ z) ++ piece) (append-nil bytes)
    ∙ append_assoc a bytes piece
    ∙ ap (λ z. a ++ (bytes ++ z)) (sym cut)
    ∙ ap (λ z. a ++ z) (sym (append_assoc bytes front back))

told_fed : (talk : Option Talk) (before : Talk) (job : Job) (bytes rest front back piece : List ℕ) (behind : Behind) → behind ≡ Nothing → rest ≡ [] → front ++ back ≡ piece → is_none piece ≡ false
    → ToldSo talk before job (bytes ++ rest) (is_end behind) → ToldSo (option_map (receives piece) talk) before job ((bytes ++ front) ++ back) false
told_fed None before job bytes rest front back piece behind none rest_is cut some told = tt
told_fed (Some talk) before job bytes rest front back piece behind none rest_is cut some told =
    let told_is : talk ≡ asked before job (bytes ++ rest) false = subst (λ b. talk ≡ asked before job (bytes ++ rest) (is_end b)) none told in
    ap (receives piece) told_is
    ∙ ap (λ e. asked_with before job ((before.received ++ (bytes ++ rest)) ++ piece) e) some
    ∙ ap (λ l. asked_with before job l false) (joined before.received bytes rest front back piece rest_is cut)
  where
    asked_with : Talk → Job → List ℕ → Bool → Talk
    asked_with before job l ended = record { sent = (asked before job [] ended).sent; received = l; ended = ended }

asked_fed : (line later : Line) (before : Talk) (job : Job) (bytes rest front back piece : List ℕ) (behind : Behind) → behind ≡ Nothing → StandsBehind behind rest → front ++ back ≡ piece → is_none piece ≡ false → Gets piece line later
    → IsAsked line before job (bytes ++ rest) (is_end behind) → IsAsked later before job ((bytes ++ front) ++ back) false
asked_fed line later before job bytes rest front back piece behind none stands cut some gets told =
    let rest_is = nothing_yet behind rest none stands in
    record {
      told = subst (λ t. ToldSo t before job ((bytes ++ front) ++ back) false) (sym gets.talk) (told_fed line.talk before job bytes rest front back piece behind none rest_is cut some told.told);
      owed = owed_gets line later job (bytes ++ rest) piece ((bytes ++ front) ++ back) (is_end behind) false (sym (joined [] bytes rest front back piece rest_is cut)) (λ e. absurd cc) gets told.owed;
    }

pub some_bytes : (piece : List ℕ) → 0 < length piece → is_none piece ≡ false
some_bytes [] some = absurd (omega (arith, some))
some_bytes (byte ∷ piece) some = refl

stands_by : (taken : ℕ) (piece : List ℕ) (b : Bool) → nat_lt taken (length piece) ≡ b → (is_end (behind_of taken (length piece)) ≡ false) × StandsBehind (behind_of taken (length piece)) (drop taken piece)
stands_by taken piece true is =
    rw is (refl, (λ none. let less : taken < length piece = ltb-true taken (length piece) is in let len = length-drop taken piece in let zero : length (drop taken piece) ≡ 0 = ap length none in absurd (omega (arith, less, len, zero))))
stands_by taken piece false is =
    rw is (refl, (let less : length piece ≤ taken = ltb-false taken (length piece) is in let len = length-drop taken piece in nil_from_length (drop taken piece) (omega (arith, less, len))))

pub fed_behind : (taken : ℕ) (piece : List ℕ) → (is_end (behind_of taken (length piece)) ≡ false) × StandsBehind (behind_of taken (length piece)) (drop taken piece)
fed_behind taken piece = stands_by taken piece (nat_lt taken (length piece)) refl

fed_so : (r : Reading) (w : WireState) (behind : Behind) (piece : List ℕ) (taken : ℕ) → r.behind ≡ Nothing → Takes r.wire w (take taken piece) → 0 < length piece → is_end behind ≡ false
    → StandsBehind behind (drop taken piece) → Received r (record { fetch = r.fetch; wire = w; behind = behind }) piece
fed_so r w behind piece taken none takes some opened stands = record {
  is = λ line later before given gets reads. record {
    bytes = reads.bytes ++ take taken piece;
    rest = drop taken piece;
    follows = subst (λ e. Follows w r.fetch.job.max r.fetch.job.from given (reads.bytes ++ take taken piece) e) (ap is_end none ∙ sym opened) (takes r.fetch.job.max r.fetch.job.from given reads.bytes (is_end r.behind) reads.follows);
    stands = stands;
    told = subst (λ e. IsAsked later before r.fetch.job ((reads.bytes ++ take taken piece) ++ drop taken piece) e) (sym opened)
        (asked_fed line later before r.fetch.job reads.bytes reads.rest (take taken piece) (drop taken piece) piece r.behind none reads.stands (take-append-drop taken piece) (some_bytes piece some) gets reads.told);
  };
}

pub fed : (r : Reading) (w : WireState) (behind : Behind) (piece : List ℕ) (taken : ℕ) → r.behind ≡ Nothing → Takes r.wire w (take taken piece) → 0 < length piece → behind ≡ behind_of taken (length piece)
    → Received r (record { fetch = r.fetch; wire = w; behind = behind }) piece
fed r w behind piece taken none takes some is =
    let by = fed_behind taken piece in
    fed_so r w behind piece taken none takes some (ap is_end is ∙ by.0) (subst (λ b. StandsBehind b (drop taken piece)) (sym is) by.1)

-- what a link received goes on
pub goes_received : (r next : Reading) (line later : Line) (piece : List ℕ) → Received r next piece → Gets piece line later → Goes line r later next []
goes_received r next line later piece received gets = record {
  is = λ before given reads. subst (λ g. Reads later next before g) (sym (append-nil given)) (received.is line later before given gets reads);
}

pub goes_taken : (r next : Reading) (line later : Line) (piece out : List ℕ) (n : ℕ) → Received r next piece → piece ≡ take n out → later.talk ≡ option_map (receives (take n out)) line.talk → later.world ≡ line.world
    → IfSome line.due (λ one. Came (take n out) one later.due) → Goes line r later next []
goes_taken r next line later piece out n received is talk world came =
    let gets : Gets (take n out) line later = record { talk = talk; world = world; came = came } in
    goes_received r next line later piece received (subst (λ p. Gets p line later) (sym is) gets)

pub goes_on : (line middle later : Line) (r s next : Reading) (piece : List ℕ) → Goes line r middle s [] → Goes middle s later next piece → Goes line r later next piece
goes_on line middle later r s next piece first second = record {
  is = λ before given reads. second.is before given (subst (λ g. Reads middle s before g) (append-nil given) (first.is before given reads));
}

-- what a wire held was given out
pub goes_given : (line : Line) (r : Reading) (w : WireState) (bytes : List ℕ) → Gives r.wire w → bytes ≡ held r.wire → Goes line r line (record { fetch = r.fetch; wire = w; behind = r.behind }) bytes
goes_given line r w bytes gives is = record {
  is = λ before given reads. record {
    bytes = reads.bytes;
    rest = reads.rest;
    follows = subst (λ b. Follows w r.fetch.job.max r.fetch.job.from (given ++ b) reads.bytes (is_end r.behind)) (sym is) (gives r.fetch.job.max r.fetch.job.from given reads.bytes (is_end r.behind) reads.follows);
    stands = reads.stands;
    told = reads.told;
  };
}

-- what holds of a reading goes on
pub reading_on : (line later : Line) (r next : Reading) (piece : List ℕ) → IsReading line r [] → Goes line r later next piece → next.fetch ≡ r.fetch → (wire_state next.wire ≡ More → next.behind ≡ Nothing)
    → (wire_state next.wire ≢ TooBig → length (held next.wire) ≤ 65536) → IsReading later next piece
reading_on line later r next piece is goes same going small = record {
  before = is.before;
  given = is.given;
  reads = subst (λ g. Reads later next is.before (g ++ piece)) (append-nil is.given) (goes.is is.before (is.given ++ []) is.reads);
  place = subst (λ (f : Fetch). f.at ≡ f.job.from + length is.given) (sym same) is.place;
  can = subst (λ (f : Fetch). CanBegin f.job) (sym same) is.can;
  sound = subst (λ (f : Fetch). IsSound f.job.uri) (sym same) is.sound;
  going = going;
  small = small;
}

pub empty_is : (l : List ℕ) (b : Bool) → b ≡ nat_eq (length l) 0 → b ≡ true → l ≡ []
empty_is l b is none = nil_from_length l (eqb-true (length l) 0 (sym is ∙ none))

-- ---- a wire holds no more than one piece

-- a wire tells what is heard
abbrev pub AllTell : Type 0
AllTell = (w : WireState) (max from : ℕ) (given bytes : List ℕ) (ended : Bool) → Follows w max from given bytes ended → IsStateOf w max from given bytes ended

-- bodies only grow
abbrev pub AllGrow : Type 0
AllGrow = (max from : ℕ) (bytes more : List ℕ) (ended : Bool) (x y : Heard) → IsHeard max from bytes false x → IsHeard max from (bytes ++ more) ended y → y.ending ≢ Some Big → Grows x y more

held_grows : (tells : AllTell) (grow : AllGrow) (v w : WireState) (max from : ℕ) (given bytes more : List ℕ) (ended : Bool) → Follows v max from given bytes false → Follows w max from given (bytes ++ more) ended
    → wire_state v ≡ More → held v ≡ [] → wire_state w ≢ TooBig → length (held w) ≤ length more
held_grows tells grow v w max from given bytes more ended before after going none fits =
    let t = tells v max from given bytes false before in
    let u = tells w max from given (bytes ++ more) ended after in
    let big : u.heard.ending ≢ Some Big = λ b. fits (ap state_of (sym u.ending ∙ b)) in
    let grown = grow max from bytes more ended t.heard u.heard t.is u.is big in
    let first = ap length (t.body (λ b. more_not_big (sym going ∙ ap state_of b))) ∙ length-append given v.body in
    let second = ap length (u.body (λ b. fits (ap state_of b))) ∙ length-append given w.body in
    let both = ap length grown.is ∙ length-append t.heard.body grown.tail in
    let empty : length v.body ≡ 0 = ap length none in
    let few = grown.few in
    omega (arith, first, second, both, empty, few)
  where
    more_not_big : More ≡ TooBig → ⊥
    more_not_big e = cc

pub small_fed : (tells : AllTell) (grow : AllGrow) (r : Reading) (w : WireState) (behind : Behind) (piece : List ℕ) (taken : ℕ) → Takes r.wire w (take taken piece) → length piece ≤ 65536 → StaysSmall r (record { fetch = r.fetch; wire = w; behind = behind })
small_fed tells grow r w behind piece taken takes few max from given bytes follows going none fits =
    let grown = held_grows tells grow r.wire w max from given bytes (take taken piece) false follows (takes max from given bytes false follows) going none fits in
    let shorter = length-take taken piece in
    omega (arith, grown, shorter, few)

pub small_end : (tells : AllTell) (grow : AllGrow) (r : Reading) (w : WireState) → Finishes r.wire w → StaysSmall r (record { fetch = r.fetch; wire = w; behind = End })
small_end tells grow r w finishes max from given bytes follows going none fits =
    let after : Follows w max from given (bytes ++ []) true = subst (λ b. Follows w max from given b true) (sym (append-nil bytes)) (finishes max from given bytes false follows) in
    let grown = held_grows tells grow r.wire w max from given bytes [] true follows after going none fits in
    omega (arith, grown)

-- so it is where a response is read
pub small_on : (line : Line) (r next : Reading) (out : List ℕ) → IsReading line r out → StaysSmall r next → wire_state r.wire ≡ More → held r.wire ≡ [] → wire_state next.wire ≢ TooBig → length (held next.wire) ≤ 65536
small_on line r next out is stays going none fits =
    stays r.fetch.job.max r.fetch.job.from (is.given ++ out) is.reads.bytes
    (subst (λ b. Follows r.wire r.fetch.job.max r.fetch.job.from (is.given ++ out) is.reads.bytes (is_end b)) (is.going going) is.reads.follows) going none fits

pub small_none : (w : WireState) → held w ≡ [] → length (held w) ≤ 65536
small_none w none = let empty : length (held w) ≡ 0 = ap length none in omega (arith, empty)

pub some_is : (l : List ℕ) (b : Bool) → b ≡ nat_eq (length l) 0 → b ≡ false → 0 < length l
some_is [] b is some = absurd cc
some_is (byte ∷ l) b is some = omega arith
