-- A source of a sound plan has all that calls on one source ask for.
use Rattle.std.proofs.Common.{◌≢◌, ℕ, ◌+◌, ◌<◌, ◌≤◌, List, length, get_or, take, arith}
use Rattle.std.specs.List.{All, AllPairs, flat_map}
use Rattle.std.proofs.lemmas.List.Concat.{get_or-flat_map}
use Rattle.std.proofs.lemmas.List.Folds.{length-flat_map-take}
use Rattle.acq_base.specs.declared.plan.Plan.{Plan}
use Rattle.acq_base.specs.Plan.{IsPlanned, IsSound, names_of}

All-flat_map-at : {X A : Type 0} (f : X → List A) (P : A → Type 0) (xs : List X) (i : ℕ) (e : X) → i < length xs → All P (flat_map f xs) → All P (f (get_or xs i e))
All-flat_map-at f P xs i e here all j d below =
    let room = length-flat_map-take f xs i e here in
    let found = all (length (flat_map f (take i xs)) + j) d (omega arith) in
    rw (get_or-flat_map f xs i j e d here below) at found

AllPairs-flat_map-at : {X A : Type 0} (f : X → List A) (R : A → A → Type 0) (xs : List X) (i : ℕ) (e : X) → i < length xs → AllPairs R (flat_map f xs) → AllPairs R (f (get_or xs i e))
AllPairs-flat_map-at f R xs i e here all j k d before below =
    let room = length-flat_map-take f xs i e here in
    let found = all (length (flat_map f (take i xs)) + j) (length (flat_map f (take i xs)) + k) d (omega arith) (omega arith) in
    let at_j : j < length (f (get_or xs i e)) = omega arith in
    rw (get_or-flat_map f xs i j e d here at_j, get_or-flat_map f xs i k e d here below) at found

pub planned : (plan : Plan) → IsSound plan → All IsPlanned plan.sources
planned plan h i e here = record {
  sound = h.sources i e here;
  distinct = AllPairs-flat_map-at names_of (λ a b. a ≢ b) plan.sources i e here h.distinct;
  short = All-flat_map-at names_of (λ name. length name ≤ 240) plan.sources i e here h.short;
  few = (let room = length-flat_map-take names_of plan.sources i e here in let few = h.few in omega arith);
}
