-- A method's word is said under one's own count.
use Rattle.std.proofs.Common.{◌≡◌, ◌∙◌, ℕ, Option, Some, None, IfSome, refl, sym, ap, subst}
use Rattle.acq_base.specs.declared.fetch.Answer.{Answer}
use Rattle.acq_base.specs.declared.fetch.NotServed.TheVariants as nots
use Rattle.acq_base.specs.declared.fetch.Reply.TheVariants as replies
use Rattle.acq_base.specs.Mirror.{MirrorMap, answer_at}
use Rattle.acq_outside.specs.declared.word.Fetch.{Fetch}
use Rattle.acq_outside.specs.declared.word.Word.{Word}
use Rattle.acq_outside.specs.declared.word.Word.TheVariants.{Piece, Done, Not, NoMemory}
use Rattle.acq_outside.specs.Word.{HasSize, IsPieceOf, IsWord, IsReplyOf}
use Rattle.acq_outside.proofs.Framed.{rises}
use Rattle.acq_base.specs.declared.uri.Scheme.{Scheme}
use Rattle.acq_base.specs.declared.uri.Scheme.TheVariants.{Http, File}
use Rattle.both_method.specs.BothMethod.{BothState, IsTurn, joined, own_count, own_word, under_of}
use Rattle.both_method.proofs.Joined.{told_file, told_http}

-- what is told of one mirror is told of another
abbrev pub Carries : Option MirrorMap → Option MirrorMap → Fetch → Type 1
Carries world all fetch = (P : Answer → Type 0) → IfSome world (λ entries. P (answer_at entries fetch.job.uri)) → IfSome all (λ entries. P (answer_at entries fetch.job.uri))

own_quiet : (n m : ℕ) (all : Option MirrorMap) (fetch : Fetch) (under : Option Fetch) (word : Word) → m ≡ n → IsWord n n all fetch under word → IsWord n m all fetch under word
own_quiet n m all fetch under word same is = subst (λ k. IsWord n k all fetch under word) (sym same) is

fault_told : (all : Option MirrorMap) (fetch : Fetch) (n m : ℕ) → IfSome all (λ entries. IsReplyOf (answer_at entries fetch.job.uri) fetch.job (replies.Not (nots.Fault n m)))
fault_told None fetch n m = tt
fault_told (Some entries) fetch n m = tt

pub own_says : (x y n m : ℕ) (world all : Option MirrorMap) (fetch : Fetch) (under : Option Fetch) (word : Word) → Carries world all fetch → IsWord x y world fetch under word → m ≡ own_count n word → IsWord n m all fetch under (own_word n m word)
own_says x y n m world all fetch under (Piece place bytes) carries is counted = own_quiet n m all fetch under (Piece place bytes) counted (record {
  quiet = refl;
  goes_on = is.goes_on;
  nonempty = is.nonempty;
  small = is.small;
  within = is.within;
  under_way = is.under_way;
  told = carries (λ answer. IsPieceOf answer fetch.at bytes) is.told;
})
own_says x y n m world all fetch under (Done size) carries is counted =
    own_quiet n m all fetch under (Done size) counted (record { quiet = refl; reached = is.reached; ended = is.ended; told = carries (λ answer. HasSize answer fetch.job size) is.told })
own_says x y n m world all fetch under (Not (nots.Moved place)) carries is counted =
    own_quiet n m all fetch under (Not (nots.Moved place)) counted (record { counted = refl; ended = is.ended; told = carries (λ answer. IsReplyOf answer fetch.job (replies.Not (nots.Moved place))) is.told })
own_says x y n m world all fetch under (Not (nots.Absent status)) carries is counted =
    own_quiet n m all fetch under (Not (nots.Absent status)) counted (record { counted = refl; ended = is.ended; told = carries (λ answer. IsReplyOf answer fetch.job (replies.Not (nots.Absent status))) is.told })
own_says x y n m world all fetch under (Not nots.TooBig) carries is counted =
    own_quiet n m all fetch under (Not nots.TooBig) counted (record { counted = refl; ended = is.ended; told = carries (λ answer. IsReplyOf answer fetch.job (replies.Not nots.TooBig)) is.told })
own_says x y n m world all fetch under (Not (nots.Garbled at)) carries is counted =
    own_quiet n m all fetch under (Not (nots.Garbled at)) counted (record { counted = refl; ended = is.ended; told = carries (λ answer. IsReplyOf answer fetch.job (replies.Not (nots.Garbled at))) is.told })
own_says x y n m world all fetch under (Not (nots.Fault a b)) carries is counted = record { counted = (refl, refl, rises n m counted); ended = is.ended; told = fault_told all fetch n m }
own_says x y n m world all fetch under NoMemory carries is counted =
    own_quiet n m all fetch under NoMemory counted (record { counted = refl; ended = is.ended; told = carries (λ answer. IsReplyOf answer fetch.job replies.NoMemory) is.told })

pub file_word : (x y n k m : ℕ) (seen files peers : Option MirrorMap) (fetch : Fetch) (under other : Option Fetch) (turn : Option Scheme) (word result : Word) → k ≡ n → seen ≡ files → turn ≡ Some File → fetch.job.uri.scheme ≡ File
    → IsWord x y seen fetch under word → result ≡ own_word k m word → m ≡ own_count k word → IsWord n m (joined files peers) fetch (under_of turn under other) result
file_word x y n k m seen files peers fetch under other turn word result same told turn_is scheme is said counted =
    let all = joined files peers in
    let theirs : IsWord x y files fetch under word = subst (λ w. IsWord x y w fetch under word) told is in
    let own : IsWord k m all fetch under (own_word k m word) = own_says x y k m files all fetch under word (λ P holds. told_file P files peers fetch.job.uri scheme holds) theirs counted in
    subst (λ t. IsWord n m all fetch (under_of t under other) result) (sym turn_is)
    (subst (λ w. IsWord n m all fetch under w) (sym said) (subst (λ i. IsWord i m all fetch under (own_word k m word)) same own))

pub http_word : (x y n k m : ℕ) (seen files peers : Option MirrorMap) (fetch : Fetch) (under other : Option Fetch) (turn : Option Scheme) (word result : Word) → k ≡ n → seen ≡ peers → turn ≡ Some Http → fetch.job.uri.scheme ≡ Http
    → IsWord x y seen fetch under word → result ≡ own_word k m word → m ≡ own_count k word → IsWord n m (joined files peers) fetch (under_of turn other under) result
http_word x y n k m seen files peers fetch under other turn word result same told turn_is scheme is said counted =
    let all = joined files peers in
    let theirs : IsWord x y peers fetch under word = subst (λ w. IsWord x y w fetch under word) told is in
    let own : IsWord k m all fetch under (own_word k m word) = own_says x y k m peers all fetch under word (λ P holds. told_http P files peers fetch.job.uri scheme holds) theirs counted in
    subst (λ t. IsWord n m all fetch (under_of t other under) result) (sym turn_is)
    (subst (λ w. IsWord n m all fetch under w) (sym said) (subst (λ i. IsWord i m all fetch under (own_word k m word)) same own))

file_is : (scheme : Scheme) → Some File ≡ Some scheme → scheme ≡ File
file_is File same = refl
file_is Http same = absurd cc

http_is : (scheme : Scheme) → Some Http ≡ Some scheme → scheme ≡ Http
http_is Http same = refl
http_is File same = absurd cc

file_on : (x y n k m : ℕ) (seen files peers : Option MirrorMap) (turn : Option Scheme) (was under other : Option Fetch) (word result : Word) → k ≡ n → seen ≡ files → turn ≡ Some File → IfSome was (λ fetch. Some File ≡ Some fetch.job.uri.scheme)
    → IfSome was (λ fetch. IsWord x y seen fetch under word) → result ≡ own_word k m word → m ≡ own_count k word → IfSome was (λ fetch. IsWord n m (joined files peers) fetch (under_of turn under other) result)
file_on x y n k m seen files peers turn None under other word result same told turn_is schemes is said counted = tt
file_on x y n k m seen files peers turn (Some fetch) under other word result same told turn_is schemes is said counted =
    file_word x y n k m seen files peers fetch under other turn word result same told turn_is (file_is fetch.job.uri.scheme schemes) is said counted

http_on : (x y n k m : ℕ) (seen files peers : Option MirrorMap) (turn : Option Scheme) (was under other : Option Fetch) (word result : Word) → k ≡ n → seen ≡ peers → turn ≡ Some Http → IfSome was (λ fetch. Some Http ≡ Some fetch.job.uri.scheme)
    → IfSome was (λ fetch. IsWord x y seen fetch under word) → result ≡ own_word k m word → m ≡ own_count k word → IfSome was (λ fetch. IsWord n m (joined files peers) fetch (under_of turn other under) result)
http_on x y n k m seen files peers turn None under other word result same told turn_is schemes is said counted = tt
http_on x y n k m seen files peers turn (Some fetch) under other word result same told turn_is schemes is said counted =
    http_word x y n k m seen files peers fetch under other turn word result same told turn_is (http_is fetch.job.uri.scheme schemes) is said counted

pub file_more : (x y n k m : ℕ) (seen files peers : Option MirrorMap) (now turn : Option Scheme) (was seen_was other_was other_seen under other : Option Fetch) (word result : Word) → k ≡ n → seen ≡ files → turn ≡ now → turn ≡ Some File → seen_was ≡ was
    → IsTurn turn seen_was other_seen → IfSome seen_was (λ fetch. IsWord x y seen fetch under word) → result ≡ own_word k m word → m ≡ own_count k word
    → IfSome (under_of now was other_was) (λ fetch. IsWord n m (joined files peers) fetch (under_of turn under other) result)
file_more x y n k m seen files peers now turn was seen_was other_was other_seen under other word result same told turn_same turn_is was_is turns is said counted =
    let all = joined files peers in
    let schemes : IfSome seen_was (λ fetch. Some File ≡ Some fetch.job.uri.scheme) = subst (λ t. IsTurn t seen_was other_seen) turn_is turns in
    let on = file_on x y n k m seen files peers turn seen_was under other word result same told turn_is schemes is said counted in
    subst (λ t. IfSome (under_of t was other_was) (λ fetch. IsWord n m all fetch (under_of turn under other) result)) (sym turn_is ∙ turn_same) (subst (λ u. IfSome u (λ fetch. IsWord n m all fetch (under_of turn under other) result)) was_is on)

pub http_more : (x y n k m : ℕ) (seen files peers : Option MirrorMap) (now turn : Option Scheme) (was seen_was other_was other_seen under other : Option Fetch) (word result : Word) → k ≡ n → seen ≡ peers → turn ≡ now → turn ≡ Some Http → seen_was ≡ was
    → IsTurn turn other_seen seen_was → IfSome seen_was (λ fetch. IsWord x y seen fetch under word) → result ≡ own_word k m word → m ≡ own_count k word
    → IfSome (under_of now other_was was) (λ fetch. IsWord n m (joined files peers) fetch (under_of turn other under) result)
http_more x y n k m seen files peers now turn was seen_was other_was other_seen under other word result same told turn_same turn_is was_is turns is said counted =
    let all = joined files peers in
    let schemes : IfSome seen_was (λ fetch. Some Http ≡ Some fetch.job.uri.scheme) = subst (λ t. IsTurn t other_seen seen_was) turn_is turns in
    let on = http_on x y n k m seen files peers turn seen_was under other word result same told turn_is schemes is said counted in
    subst (λ t. IfSome (under_of t other_was was) (λ fetch. IsWord n m all fetch (under_of turn other under) result)) (sym turn_is ∙ turn_same) (subst (λ u. IfSome u (λ fetch. IsWord n m all fetch (under_of turn other under) result)) was_is on)

-- what is equal in two equal states
pub files_same : {F H T : Type 0} (of : F → T) {a b : BothState F H} → a ≡ b → of a.files ≡ of b.files
files_same of is = ap (λ (method : BothState _ _). of method.files) is

pub peers_same : {F H T : Type 0} (of : H → T) {a b : BothState F H} → a ≡ b → of a.peers ≡ of b.peers
peers_same of is = ap (λ (method : BothState _ _). of method.peers) is

pub faults_same : {F H : Type 0} {a b : BothState F H} → a ≡ b → a.faults ≡ b.faults
faults_same is = ap (λ (method : BothState _ _). method.faults) is

pub turn_same : {F H : Type 0} {a b : BothState F H} → a ≡ b → a.turn ≡ b.turn
turn_same is = ap (λ (method : BothState _ _). method.turn) is
