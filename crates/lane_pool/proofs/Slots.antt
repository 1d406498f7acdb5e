-- The slot of a lane: its room, and the coordinator's test.
use Rattle.std.proofs.Common.{◌≡◌, ◌∙◌, ℕ, ◌+◌, ◌≤◌, Bool, true, false, List, [], ◌++◌, length, Option, Some, None, IfSome, MatchOption, sym, refl, ap, subst, arith, codes, length-append}
use Rattle.acq_base.specs.declared.uri.Scheme.{Scheme}
use Rattle.acq_base.specs.declared.uri.Scheme.TheVariants.{Http, File}
use Rattle.acq_base.specs.declared.uri.Uri.{Uri}
use Rattle.acq_base.specs.Uri.{IsSound, IsAuthority, text_of_parts, port_text}
use Rattle.acq_outside.specs.declared.word.Fetch.{Fetch}
use Rattle.acq_outside.specs.declared.word.Word.{Word}
use Rattle.acq_outside.specs.declared.word.Word.TheVariants.{Piece}
use Rattle.acq_outside.specs.Word.{IsWithinLimit}
use Rattle.lane_pool.specs.declared.told.Told.{Told}
use Rattle.lane_pool.specs.Words.{StandsAt, IsInOrder}
use Rattle.lane_pool.specs.Slot.{fetch_of, HasRoom, PassesTest}

parts_room : (head host port path : List ℕ) → length (head ++ host ++ port ++ path) ≤ 16384 → (length host ≤ 16384) × (length path ≤ 16384)
parts_room head host port path short =
    let a = length-append (head ++ host ++ port) path in
    let b = length-append (head ++ host) port in
    let c = length-append head host in
    (omega arith, omega arith)

tail_room : (head path : List ℕ) → length (head ++ path) ≤ 16384 → length path ≤ 16384
tail_room head path short = let fits : length head + length path ≤ 16384 = subst (λ n. n ≤ 16384) (length-append head path) short in omega arith

http_room : (host path : List ℕ) (port : ℕ) → length (text_of_parts Http host port path) ≤ 16384 → (length host ≤ 16384) × (length path ≤ 16384)
unfolding text_of_parts
http_room host path port short = parts_room (codes "http://") host (port_text port) path short

file_room : (host path : List ℕ) (port : ℕ) → length (text_of_parts File host port path) ≤ 16384 → host ≡ [] → (length host ≤ 16384) × (length path ≤ 16384)
unfolding text_of_parts
file_room host path port short none = (let b = ap length none in omega arith, tail_room (codes "file://") path short)

room_of_parts : (scheme : Scheme) (host path : List ℕ) (port : ℕ) → length (text_of_parts scheme host port path) ≤ 16384 → IsAuthority scheme host port → (length host ≤ 16384) × (length path ≤ 16384)
room_of_parts Http host path port short is = http_room host path port short
room_of_parts File host path port short is = file_room host path port short is.0

-- a sound URI has room in a slot
pub sound_room : (uri : Uri) → IsSound uri → HasRoom uri
sound_room uri is = room_of_parts uri.scheme uri.host uri.path uri.port is.short is.authority

-- a piece ends within the limit of the job that is out
pub ends_within : (out : Bool) (number max from at : ℕ) (scheme : Scheme) (port : ℕ) (host path : List ℕ) (word : Word) (place : ℕ) (bytes : List ℕ) → word ≡ Piece place bytes
    → MatchOption (fetch_of out number max from at scheme port host path) ⊥ (λ fetch. IsWithinLimit fetch word) → at + length bytes ≤ max
ends_within false number max from at scheme port host path word place bytes is within = elim within [ ]
ends_within true number max from at scheme port host path word place bytes is within =
    let fetch : Fetch = record { job = record { no = number; uri = record { scheme = scheme; host = host; port = port; path = path }; max = max; from = from }; at = at } in
    subst (λ (w : Word). IsWithinLimit fetch w) is within

-- what is said of the fetch that is out
pub of_out : (out : Option Fetch) (fetch : Fetch) (P : Fetch → Type 0) → out ≡ Some fetch → IfSome out P → P fetch
of_out out fetch P is h = subst (λ (o : Option Fetch). IfSome o P) is h

-- the coordinator's test, passed and failed
pub passes_test : (out : Option Fetch) (last : ℕ) (told : Told) (at : ℕ) → out ≡ Some (record { job = told.job; at = at }) → StandsAt at told.word → IsInOrder last told.word → PassesTest out last told
passes_test out last told at is stands order = record { fetch = record { job = told.job; at = at }; out_is = is; job = refl; stands = stands; in_order = order }

pub other_job : (out : Option Fetch) (last : ℕ) (told : Told) → ((at : ℕ) → out ≡ Some (record { job = told.job; at = at }) → ⊥) → PassesTest out last told → ⊥
other_job out last told fails p = fails p.fetch.at (p.out_is ∙ ap (λ (f : Fetch). Some f) (λ i. record { job = sym p.job i; at = p.fetch.at }))

abbrev place_in : Option Fetch → ℕ
place_in None = 0
place_in (Some fetch) = fetch.at

pub stands_elsewhere : (out : Option Fetch) (last : ℕ) (told : Told) (at : ℕ) → out ≡ Some (record { job = told.job; at = at }) → (StandsAt at told.word → ⊥) → PassesTest out last told → ⊥
stands_elsewhere out last told at is fails p = fails (subst (λ (n : ℕ). StandsAt n told.word) (sym (ap place_in p.out_is) ∙ ap place_in is) p.stands)

pub out_of_order : (out : Option Fetch) (last : ℕ) (told : Told) → (IsInOrder last told.word → ⊥) → PassesTest out last told → ⊥
out_of_order out last told fails p = fails p.in_order
