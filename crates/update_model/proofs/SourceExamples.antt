-- Worked examples of Releases, outcomes and commits, computed by the definitions. What the text of a Release says is a
-- premise.
use Rattle.std.proofs.Common.{◌≡◌, ℕ, ℤ, pos, zero, suc, ◌+◌, nat_le, List, [], ◌∷◌, length, map, true, false, Some, None, refl, codes, Ok, Err}
use Rattle.acq_base.specs.Mirror.{MirrorMap}
use Rattle.acq_base.specs.Sum.{sum_of}
use Rattle.acq_base.specs.declared.fetch.Answer.TheVariants as answers
use Rattle.acq_base.specs.declared.plan.Source.{Source}
use Rattle.acq_base.specs.declared.settings.Settings.{Settings}
use Rattle.acq_base.specs.declared.uri.Scheme.TheVariants.{File}
use Rattle.acq_base.specs.declared.uri.Uri.{Uri}
use Rattle.by_hash.specs.Candidates.{by_hash_uri}
use Rattle.release_file.specs.Changes.{first_refused}
use Rattle.release_file.specs.Dates.{judged, judged_end, judged_date, judged_age, end_of_validity, at_least, at_most}
use Rattle.release_file.specs.Release.{release_of, listed_sum, same_sum}
use Rattle.release_file.specs.declared.changing.Change.{Change}
use Rattle.release_file.specs.declared.changing.HeadField.TheVariants.{Origin}
use Rattle.release_file.specs.declared.error.ReleaseError.TheVariants.{BadFrame}
use Rattle.release_file.specs.declared.release.Release.{Release}
use Rattle.update_model.specs.Next.{commits, Installs, CleansUp}
use Rattle.update_model.specs.Outcomes.{AdmittedRelease, Outcome, Older, Kept, Directory, outcome, new_set}
use Rattle.update_model.specs.Releases.{obtain_release}
use Rattle.update_model.specs.Trails.{LaneAnswer}
use Rattle.update_model.specs.Walks.{IsRoute, release_walk, whole_ask}
use Rattle.update_model.specs.declared.ask.Body.TheVariants.{Bytes}
use Rattle.update_model.specs.declared.ask.Closed.{Closed}
use Rattle.acq_base.specs.declared.fetch.NotServed.TheVariants as nots
use Rattle.update_model.specs.declared.ask.Closed.TheVariants as closed
use Rattle.update_model.specs.declared.ask.Ending.{Ending}
use Rattle.update_model.specs.declared.ask.Ending.TheVariants as endings
use Rattle.update_model.specs.declared.cause.Cause.TheVariants as causes
use Rattle.update_model.specs.declared.end.End.TheVariants.{Got, Ended}
use Rattle.update_model.proofs.Sample.{at, source, settings, release, sum_as, serves, asks}

abbrev no_change : Change
no_change = record { origin = false; label = false; suite = false; codename = false }

abbrev plain : Release
plain = release false 3 []

-- ---- moves: ten are followed

abbrev place : ℕ → Uri
place n = at ((48 + n) ∷ [])

-- moves from place to place, and a file at the last
abbrev places : ℕ → ℕ → MirrorMap
places zero from = (place from, answers.Served (codes "x")) ∷ []
places (suc n) from = (place from, answers.Moved (Some (place (from + 1)))) ∷ places n (from + 1)

abbrev moves : ℕ → MirrorMap
moves n = (source.release, answers.Moved (Some (place 0))) ∷ places n 0

ten_moves : obtain_release (moves 9) source ≡ Got (Bytes (codes "x"))
ten_moves = refl

eleven_moves : obtain_release (moves 10) source ≡ Ended (causes.Redirects (codes "Release"))
eleven_moves = refl

-- InRelease, Release and ten places
twelve_asks : map (λ a. a.0) (asks (moves 9) [] (release_walk source))
    ≡ codes "/d/dists/s/InRelease" ∷ codes "/d/dists/s/Release" ∷ map (λ n. (48 + n) ∷ []) (0 ∷ 1 ∷ 2 ∷ 3 ∷ 4 ∷ 5 ∷ 6 ∷ 7 ∷ 8 ∷ 9 ∷ [])
twelve_asks = refl

abbrev a_file : Uri
a_file = record { scheme = File; host = []; port = 0; path = codes "/r" }

to_a_file : obtain_release ((source.release, answers.Moved (Some a_file)) ∷ []) source ≡ Ended (causes.Redirects (codes "Release"))
to_a_file = refl

to_no_uri : obtain_release ((source.release, answers.Moved None) ∷ []) source ≡ Ended (causes.Redirects (codes "Release"))
to_no_uri = refl

no_release : obtain_release [] source ≡ Ended (causes.NoRelease 404)
no_release = refl

-- ---- InRelease

abbrev in_release : Uri
in_release = at (codes "/d/dists/s/InRelease")

-- its file is the Release, whatever Release itself is, and that isn't asked
in_release_first : (text other : List ℕ) → text ≡ codes "x" → obtain_release ((in_release, answers.Served text) ∷ (source.release, answers.Served other) ∷ []) source ≡ Got (Bytes text)
in_release_first text other is = rw is refl

in_release_alone : map (λ a. a.0) (asks ((in_release, answers.Served (codes "x")) ∷ (source.release, answers.Served (codes "y")) ∷ []) [] (release_walk source)) ≡ codes "/d/dists/s/InRelease" ∷ []
in_release_alone = refl

-- a Release in a frame makes the new set, with its frame, beside the list that it names
framed_set : (b : List ℕ) (digest : List ℕ) → nat_le (length b) 16777216 ≡ true → release_of b ≡ Ok (release false 3 digest)
    → same_sum (sum_of (codes "abc")) (sum_as 3 digest) ≡ true
    → new_set ((in_release, answers.Served b) ∷ serves (codes "abc")) (λ name. None) (λ name. []) source settings no_change (pos 1686387313)
    ≡ Ok (record { bytes = b; release = release false 3 digest })
unfolding judged judged_end judged_date judged_age end_of_validity at_least at_most by_hash_uri listed_sum
framed_set b digest fits is has = rw fits (rw is (rw has refl))

-- a frame that is refused is a cause: at no line where it has no end, and at the line of a text line `-x`
bad_frame : (b : List ℕ) (line : ℕ) (now : ℤ) → release_of b ≡ Err (BadFrame line) → outcome (Got (Bytes b)) [] None settings no_change now ≡ Err (Kept (causes.BadRelease 33 line))
bad_frame b line now is = rw is refl

abbrev fault : ℕ → LaneAnswer
fault n = record { lane = 0; closed = closed.Not (nots.Fault n (n + 1)) }

-- two faults with one retry: no other file may stand in for an answer that never came
dead_in_release : IsRoute 1 (release_walk source)
    (record { ask = whole_ask in_release 16777216; positions = record { uri = in_release; told = fault 0 ∷ fault 1 ∷ [] } ∷ []; ending = endings.Dead 0 1 2 } ∷ [])
    (Ended (causes.Method (codes "Release") 0 1 2))
dead_in_release = (refl, (refl, (refl, (refl, refl))), (refl, refl))

-- any other ending without a file leads to Release
abbrev AsksRelease : Closed → Ending → Type 0
AsksRelease said ending = IsRoute 1 (release_walk source)
    (record { ask = whole_ask in_release 16777216; positions = record { uri = in_release; told = record { lane = 0; closed = said } ∷ [] } ∷ []; ending = ending }
    ∷ record { ask = whole_ask source.release 16777216; positions = record { uri = source.release; told = record { lane = 0; closed = closed.Not (nots.Absent 403) } ∷ [] } ∷ []; ending = endings.Absent 403 } ∷ [])
    (Ended (causes.NoRelease 403))

absent_in_release : AsksRelease (closed.Not (nots.Absent 404)) (endings.Absent 404)
absent_in_release = (refl, (refl, (refl, (refl, refl))), (refl, (refl, (refl, (refl, refl))), (refl, refl)))

garbled_in_release : AsksRelease (closed.Not (nots.Garbled 48)) (endings.Garbled 48)
garbled_in_release = (refl, (refl, (refl, (refl, refl))), (refl, (refl, (refl, (refl, refl))), (refl, refl)))

long_in_release : AsksRelease (closed.Not nots.TooBig) endings.TooBig
long_in_release = (refl, (refl, (refl, (refl, refl))), (refl, (refl, (refl, (refl, refl))), (refl, refl)))

lost_in_release : AsksRelease (closed.Not (nots.Moved (Some a_file))) endings.Lost
lost_in_release = (refl, (refl, (refl, (refl, refl))), (refl, (refl, (refl, (refl, refl))), (refl, refl)))

-- ---- dates and heads

-- valid until 2023-06-17 08:53:33 UTC
abbrev limited : Release
limited = record plain { until = Some (pos 1686992013) }

at_the_end : (b : List ℕ) → release_of b ≡ Ok limited → outcome (Got (Bytes b)) [] None settings no_change (pos 1686992013) ≡ Ok (record { bytes = b; release = limited })
unfolding judged judged_end judged_date judged_age end_of_validity at_least at_most
at_the_end b is = rw is refl

past_the_end : (b : List ℕ) → release_of b ≡ Ok limited → outcome (Got (Bytes b)) [] None settings no_change (pos 1686992014) ≡ Err (Kept (causes.Expired (pos 1686992013)))
unfolding judged judged_end judged_date judged_age end_of_validity at_least at_most
past_the_end b is = rw is refl

-- the date and a greatest time of a day make an earlier end, the date and a least time of two weeks a later one
abbrev with_times : ℕ → ℕ → Settings
with_times min max = record settings { dates = record { min = min; max = max; future = 10 } }

at_the_greatest : (b : List ℕ) → release_of b ≡ Ok limited
    → outcome (Got (Bytes b)) [] None (with_times 0 86400) no_change (pos 1686473613) ≡ Ok (record { bytes = b; release = limited })
unfolding judged judged_end judged_date judged_age end_of_validity at_least at_most
at_the_greatest b is = rw is refl

past_the_greatest : (b : List ℕ) → release_of b ≡ Ok limited
    → outcome (Got (Bytes b)) [] None (with_times 0 86400) no_change (pos 1686473614) ≡ Err (Kept (causes.Expired (pos 1686473613)))
unfolding judged judged_end judged_date judged_age end_of_validity at_least at_most
past_the_greatest b is = rw is refl

at_the_least : (b : List ℕ) → release_of b ≡ Ok limited
    → outcome (Got (Bytes b)) [] None (with_times 1209600 0) no_change (pos 1687596813) ≡ Ok (record { bytes = b; release = limited })
unfolding judged judged_end judged_date judged_age end_of_validity at_least at_most
at_the_least b is = rw is refl

past_the_least : (b : List ℕ) → release_of b ≡ Ok limited
    → outcome (Got (Bytes b)) [] None (with_times 1209600 0) no_change (pos 1687596814) ≡ Err (Kept (causes.Expired (pos 1687596813)))
unfolding judged judged_end judged_date judged_age end_of_validity at_least at_most
past_the_least b is = rw is refl

-- ten seconds ahead of the moment are allowed
just_ahead : (b : List ℕ) → release_of b ≡ Ok plain → outcome (Got (Bytes b)) [] None settings no_change (pos 1686387203) ≡ Ok (record { bytes = b; release = plain })
unfolding judged judged_end judged_date judged_age end_of_validity at_least at_most
just_ahead b is = rw is refl

too_far_ahead : (b : List ℕ) → release_of b ≡ Ok plain
    → outcome (Got (Bytes b)) [] None settings no_change (pos 1686387202) ≡ Err (Kept (causes.Future (pos 1686387213)))
unfolding judged judged_end judged_date judged_age end_of_validity at_least at_most
too_far_ahead b is = rw is refl

-- one second older than the installed one
older : (b old : List ℕ) → release_of b ≡ Ok (record plain { date = pos 1686387212 }) → release_of old ≡ Ok plain
    → outcome (Got (Bytes b)) [] (Some old) settings no_change (pos 1686387313) ≡ Err (Older (pos 1686387212))
unfolding judged judged_end judged_date judged_age end_of_validity at_least at_most
older b old is was = rw (is, was) refl

-- another origin than the installed one's
abbrev from_x : Release
from_x = record plain { head = record { origin = Some (codes "x"); label = None; suite = None; codename = None } }

changed : (b old : List ℕ) → release_of b ≡ Ok from_x → release_of old ≡ Ok plain
    → outcome (Got (Bytes b)) [] (Some old) settings no_change (pos 1686387313) ≡ Err (Kept (causes.Changed plain.head from_x.head Origin))
unfolding judged judged_end judged_date judged_age end_of_validity at_least at_most first_refused
changed b old is was = rw (is, was) refl

may_change : (b old : List ℕ) → release_of b ≡ Ok from_x → release_of old ≡ Ok plain
    → outcome (Got (Bytes b)) [] (Some old) settings (record no_change { origin = true }) (pos 1686387313) ≡ Ok (record { bytes = b; release = from_x })
unfolding judged judged_end judged_date judged_age end_of_validity at_least at_most first_refused
may_change b old is was = rw (is, was) refl

other_may_change : (b old : List ℕ) → release_of b ≡ Ok from_x → release_of old ≡ Ok plain
    → outcome (Got (Bytes b)) [] (Some old) settings (record no_change { label = true }) (pos 1686387313) ≡ Err (Kept (causes.Changed plain.head from_x.head Origin))
unfolding judged judged_end judged_date judged_age end_of_validity at_least at_most first_refused
other_may_change b old is was = rw (is, was) refl

-- a list without a file keeps the source, though the Release is good
without_a_list : (b : List ℕ) → release_of b ≡ Ok plain
    → outcome (Got (Bytes b)) (Ended (causes.Missing (codes "p") 404) ∷ Ended (causes.Missing (codes "q") 403) ∷ []) None settings no_change (pos 1686387313)
    ≡ Err (Kept (causes.Missing (codes "p") 404))
unfolding judged judged_end judged_date judged_age end_of_validity at_least at_most
without_a_list b is = rw is refl

-- ---- commits of two sources, of which the second was settled first

abbrev other : Source
other = record source { suite = codes "t" }

abbrev nothing : Directory
nothing = λ name. None

abbrev x_set : AdmittedRelease
x_set = record { bytes = codes "x"; release = plain }

abbrev y_set : AdmittedRelease
y_set = record { bytes = codes "y"; release = plain }

abbrev planned : List (Source × Outcome)
planned = (source, Ok x_set) ∷ (other, Ok y_set) ∷ []

abbrev settled : List (Source × Outcome)
settled = (other, Ok y_set) ∷ (source, Ok x_set) ∷ []

one_by_one : commits false nothing settings (codes "a_b" ∷ []) settled planned
    ≡ (Installs other y_set ∷ []) ∷ (Installs source x_set ∷ []) ∷ (CleansUp (codes "a_b" ∷ []) ∷ []) ∷ []
one_by_one = refl

together : commits true nothing settings (codes "a_b" ∷ []) settled planned ≡ (Installs source x_set ∷ Installs other y_set ∷ CleansUp (codes "a_b" ∷ []) ∷ []) ∷ []
together = refl

-- where one is kept, nothing is cleaned up
with_one_kept : commits true nothing settings (codes "a_b" ∷ []) [] ((source, Ok x_set) ∷ (other, Err (Kept (causes.NoRelease 404))) ∷ []) ≡ (Installs source x_set ∷ []) ∷ []
with_one_kept = refl

no_sources : commits false nothing settings (codes "a_b" ∷ []) [] [] ≡ (CleansUp (codes "a_b" ∷ []) ∷ []) ∷ []
no_sources = refl

nothing_to_do : commits true nothing settings [] [] [] ≡ []
nothing_to_do = refl
