-- Worked examples of lists, computed by the definitions. That a file has a sum or hasn't is a premise.
use Rattle.std.proofs.Common.{◌≡◌, ℕ, List, [], ◌∷◌, true, false, Some, None, refl, codes}
use Rattle.acq_base.specs.Sum.{sum_of}
use Rattle.acq_base.specs.declared.sum.Sum.{Sum}
use Rattle.acq_base.specs.declared.uri.Uri.{Uri}
use Rattle.by_hash.specs.Candidates.{by_hash_uri}
use Rattle.hash_gate.specs.declared.verdict.Verdict.TheVariants.{Long, Short}
use Rattle.hex.specs.Hex.{encode_with}
use Rattle.release_file.specs.Release.{listed_sum, same_sum}
use Rattle.update_model.specs.Obtained.{obtain}
use Rattle.update_model.specs.Trails.{Position, Trail, Agrees, Lives}
use Rattle.update_model.specs.Walks.{IsRoute, target_walk, list_ask}
use Rattle.update_model.specs.Wanted.{want}
use Rattle.update_model.specs.declared.ask.Body.TheVariants.{Bytes, Staged}
use Rattle.update_model.specs.declared.ask.Closed.{Closed}
use Rattle.acq_base.specs.declared.fetch.NotServed.TheVariants as nots
use Rattle.update_model.specs.declared.ask.Closed.TheVariants as closed
use Rattle.update_model.specs.declared.ask.Ending.TheVariants as endings
use Rattle.update_model.specs.declared.cause.Cause.TheVariants as causes
use Rattle.update_model.specs.declared.end.End.TheVariants.{Got, Ended}
use Rattle.update_model.proofs.Sample.{at, target, source, settings, sum_as, release, list, list_path, list_uri, serves, asks, plain_from, hashed_from}

abbrev HasSum : List ℕ → ℕ → List ℕ → Type 0
HasSum bytes size digest = same_sum (sum_of bytes) (sum_as size digest) ≡ true

abbrev HasOther : List ℕ → ℕ → List ℕ → Type 0
HasOther bytes size digest = same_sum (sum_of bytes) (sum_as size digest) ≡ false

-- ---- whole lists

-- an installed list that fits stands, and nothing is asked
stands : (digest : List ℕ) → HasSum (codes "abc") 3 digest → asks [] [] (target_walk (Some (codes "abc")) 0 (list false digest)) ≡ []
unfolding by_hash_uri listed_sum
stands digest has = rw has refl

-- one that was removed is asked
removed : (digest : List ℕ) → HasSum (codes "abc") 3 digest → asks (serves (codes "abc")) [] (target_walk None 0 (list false digest)) ≡ plain_from 0 ∷ []
unfolding by_hash_uri listed_sum
removed digest has = rw has refl

-- so is one that differs, and no patch Index where the Release lists none
differs : (digest : List ℕ) → HasSum (codes "abc") 3 digest → HasOther (codes "abd") 3 digest → asks (serves (codes "abc")) [] (target_walk (Some (codes "abd")) 0 (list false digest)) ≡ plain_from 0 ∷ []
unfolding by_hash_uri listed_sum
differs digest has other = rw other (rw has refl)

-- an empty list
empty : (digest : List ℕ) → HasSum [] 0 digest → obtain (serves []) None [] (want source (release false 0 digest) settings target (sum_as 0 digest)) ≡ Got (Bytes [])
unfolding by_hash_uri listed_sum
empty digest has = rw has refl

long : (digest : List ℕ) → obtain (serves (codes "abcd")) None [] (list false digest) ≡ Ended (causes.Differs list_path (sum_as 3 digest) Long)
unfolding by_hash_uri listed_sum
long digest = refl

short : (digest : List ℕ) → obtain (serves (codes "ab")) None [] (list false digest) ≡ Ended (causes.Differs list_path (sum_as 3 digest) (Short 2))
unfolding by_hash_uri listed_sum
short digest = refl

missing : (digest : List ℕ) → obtain [] None [] (list false digest) ≡ Ended (causes.Missing list_path 404)
unfolding by_hash_uri listed_sum
missing digest = refl

-- under the digest first, under the own name last
hashed_first : asks [] [] (target_walk None 0 (list true (171 ∷ []))) ≡ hashed_from 0 ∷ plain_from 0 ∷ []
unfolding by_hash_uri listed_sum encode_with
hashed_first = refl

hashed_absent : HasSum (codes "abc") 3 (171 ∷ []) → asks (serves (codes "abc")) [] (target_walk None 0 (list true (171 ∷ []))) ≡ hashed_from 0 ∷ plain_from 0 ∷ []
unfolding by_hash_uri listed_sum encode_with
hashed_absent has = rw has refl

hashed_absent_file : HasSum (codes "abc") 3 (171 ∷ []) → obtain (serves (codes "abc")) None [] (list true (171 ∷ [])) ≡ Got (Bytes (codes "abc"))
unfolding by_hash_uri listed_sum encode_with
hashed_absent_file has = rw has refl

-- ---- partial files

resumed : (digest : List ℕ) → HasSum (codes "abc") 3 digest → asks (serves (codes "abc")) (codes "ab") (target_walk None 2 (list false digest)) ≡ plain_from 2 ∷ []
unfolding by_hash_uri listed_sum
resumed digest has = rw has refl

resumed_file : (digest : List ℕ) → HasSum (codes "abc") 3 digest → obtain (serves (codes "abc")) None (codes "ab") (list false digest) ≡ Got (Bytes (codes "abc"))
unfolding by_hash_uri listed_sum
resumed_file digest has = rw has refl

stale : (digest : List ℕ) → HasSum (codes "abc") 3 digest → HasOther (codes "axc") 3 digest
    → asks (serves (codes "abc")) (codes "ax") (target_walk None 2 (list false digest)) ≡ plain_from 2 ∷ plain_from 0 ∷ []
unfolding by_hash_uri listed_sum
stale digest has other = rw other (rw has refl)

stale_file : (digest : List ℕ) → HasSum (codes "abc") 3 digest → HasOther (codes "axc") 3 digest → obtain (serves (codes "abc")) None (codes "ax") (list false digest) ≡ Got (Bytes (codes "abc"))
unfolding by_hash_uri listed_sum
stale_file digest has other = rw other (rw has refl)

-- by the digest, whose file is absent
resumed_hashed : HasSum (codes "abc") 3 (171 ∷ []) → asks (serves (codes "abc")) (codes "ab") (target_walk None 2 (list true (171 ∷ []))) ≡ hashed_from 2 ∷ hashed_from 0 ∷ plain_from 0 ∷ []
unfolding by_hash_uri listed_sum encode_with
resumed_hashed has = rw has refl

-- a partial file of the list's size or longer, or without bytes, isn't resumed
whole_part : (digest : List ℕ) → HasSum (codes "abc") 3 digest → asks (serves (codes "abc")) (codes "abc") (target_walk None 3 (list false digest)) ≡ plain_from 0 ∷ []
unfolding by_hash_uri listed_sum
whole_part digest has = rw has refl

longer_part : (digest : List ℕ) → HasSum (codes "abc") 3 digest → asks (serves (codes "abc")) (codes "abcd") (target_walk None 4 (list false digest)) ≡ plain_from 0 ∷ []
unfolding by_hash_uri listed_sum
longer_part digest has = rw has refl

-- a file that became shorter is answered 416, and asked from its beginning
shorter : (digest : List ℕ) → asks (serves (codes "a")) (codes "ab") (target_walk None 2 (list false digest)) ≡ plain_from 2 ∷ plain_from 0 ∷ []
unfolding by_hash_uri listed_sum
shorter digest = refl

abbrev hashed_uri : Uri
hashed_uri = at (codes "/d/dists/s/main/binary-amd64/by-hash/SHA256/ab")

abbrev heard : Closed → Position
heard c = record { uri = list_uri; told = record { lane = 0; closed = c } ∷ [] }

-- a peer that knows no beginnings and answers 200, or one that begins elsewhere
peer_200 : (s : Sum) → same_sum s (sum_as 3 (171 ∷ [])) ≡ true
    → IsRoute 3 (target_walk None 2 (list false (171 ∷ [])))
    (record { ask = list_ask list_uri (list false (171 ∷ [])) 2; positions = heard (closed.Not (nots.Absent 200)) ∷ []; ending = endings.Absent 200 }
    ∷ record { ask = list_ask list_uri (list false (171 ∷ [])) 0; positions = heard (closed.Served (Staged s)) ∷ []; ending = endings.Served (Staged s) } ∷ [])
    (Got (Staged s))
unfolding by_hash_uri listed_sum
peer_200 s has = (refl, (refl, (refl, (refl, refl))), (refl, (refl, (refl, (refl, refl))), rw has (refl, refl)))

other_start : (s : Sum) → same_sum s (sum_as 3 (171 ∷ [])) ≡ true
    → IsRoute 1 (target_walk None 2 (list false (171 ∷ [])))
    (record { ask = list_ask list_uri (list false (171 ∷ [])) 2; positions = heard (closed.Not (nots.Garbled 0)) ∷ []; ending = endings.Garbled 0 }
    ∷ record { ask = list_ask list_uri (list false (171 ∷ [])) 0; positions = heard (closed.Served (Staged s)) ∷ []; ending = endings.Served (Staged s) } ∷ [])
    (Got (Staged s))
unfolding by_hash_uri listed_sum
other_start s has = (refl, (refl, (refl, (refl, refl))), (refl, (refl, (refl, (refl, refl))), rw has (refl, refl)))

-- ---- faults

-- without a retry one fault is the end: lane 0, whose count went from 0 to 1
one_fault : IsRoute 0 (target_walk None 0 (list false (171 ∷ [])))
    (record { ask = list_ask list_uri (list false (171 ∷ [])) 0; positions = heard (closed.Not (nots.Fault 0 1)) ∷ []; ending = endings.Dead 0 0 1 } ∷ [])
    (Ended (causes.Method list_path 0 0 1))
unfolding by_hash_uri listed_sum
one_fault = (refl, (refl, (refl, (refl, refl))), (refl, refl))

-- with one retry the second answer counts
retried : (s : Sum) → same_sum s (sum_as 3 (171 ∷ [])) ≡ true
    → IsRoute 1 (target_walk None 0 (list false (171 ∷ [])))
    (record {
      ask = list_ask list_uri (list false (171 ∷ [])) 0;
      positions = record { uri = list_uri; told = record { lane = 0; closed = closed.Not (nots.Fault 0 1) } ∷ record { lane = 0; closed = closed.Served (Staged s) } ∷ [] } ∷ [];
      ending = endings.Served (Staged s);
    } ∷ [])
    (Got (Staged s))
unfolding by_hash_uri listed_sum
retried s has = (refl, (refl, (refl, (refl, refl))), rw has (refl, refl))

-- Where nothing answers under the digest, the list's own URI is asked, and the list is had.
abbrev own_trails : Sum → List Trail
own_trails s =
    record { ask = list_ask hashed_uri (list true (171 ∷ [])) 0; positions = record { uri = hashed_uri; told = record { lane = 0; closed = closed.Not (nots.Fault 0 1) } ∷ [] } ∷ []; ending = endings.Dead 0 0 1 }
    ∷ record { ask = list_ask list_uri (list true (171 ∷ [])) 0; positions = heard (closed.Served (Staged s)) ∷ []; ending = endings.Served (Staged s) } ∷ []

own_uri : (s : Sum) → same_sum s (sum_as 3 (171 ∷ [])) ≡ true → IsRoute 0 (target_walk None 0 (list true (171 ∷ []))) (own_trails s) (Got (Staged s))
unfolding by_hash_uri listed_sum encode_with
own_uri s has = (refl, (refl, (refl, (refl, refl))), (refl, (refl, (refl, (refl, refl))), rw has (refl, refl)))

-- and these trails agree with the mirror, though not every position lives
own_agrees : Agrees (serves (codes "abc")) [] (own_trails (sum_of (codes "abc")))
own_agrees = (((tt, tt), tt), (((refl, tt), tt), tt))

own_dead : Lives (own_trails (sum_of (codes "abc"))) → ⊥
own_dead h = h.0.0
