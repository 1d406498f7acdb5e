-- The jobs that are out, of which one is changed.
use Rattle.std.proofs.Common.{◌≡◌, ◌∙◌, inl, inr, ℕ, zero, suc, Bool, true, false, List, [], ◌∷◌, length, map, Option, Some, None, refl, sym, ap}
use Rattle.std.specs.Prelude.{◌||◌, is_some, replicate, slice_get}
use Rattle.std.specs.List.{list_any}
use Rattle.std.proofs.lemmas.Bool.{cases_Bool, or_parts}
use Rattle.host_queues.specs.Lanes.{changed_at}
use Rattle.lane_jobs.specs.JobsOut.{fills, number_of}
use Rattle.lane_jobs.specs.declared.transfers.Transfer.{Transfer}

-- ---- their numbers

pub numbers_changed : (lane : ℕ) (r : Option Transfer) (rows : List (Option Transfer)) → map number_of (changed_at lane (λ was. r) rows) ≡ changed_at lane (λ was. number_of r) (map number_of rows)
numbers_changed lane r [] = refl
numbers_changed zero r (x ∷ rows) = refl
numbers_changed (suc lane) r (x ∷ rows) = ap (λ (ns : List (Option ℕ)). number_of x ∷ ns) (numbers_changed lane r rows)

pub number_at : (rows : List (Option Transfer)) (lane : ℕ) (t : Transfer) → slice_get rows lane ≡ Some (Some t) → slice_get (map number_of rows) lane ≡ Some (Some t.job.no)
number_at [] lane t e = absurd (cc)
number_at (x ∷ rows) zero t e = let same : x ≡ Some t = cc in ap (λ (o : Option Transfer). Some (number_of o)) same
number_at (x ∷ rows) (suc lane) t e = number_at rows lane t e

pub row_at : (rows : List (Option Transfer)) (lane n : ℕ) → slice_get (map number_of rows) lane ≡ Some (Some n) → (t : Transfer) × (slice_get rows lane ≡ Some (Some t)) × (t.job.no ≡ n)
row_at [] lane n e = absurd (cc)
row_at (x ∷ rows) zero n e = one x e
  where
    one : (x : Option Transfer) → Some (number_of x) ≡ Some (Some n) → (t : Transfer) × (Some x ≡ Some (Some t)) × (t.job.no ≡ n)
    one None e = absurd (cc)
    one (Some t) e = let same : t.job.no ≡ n = cc in (t, refl, same)
row_at (x ∷ rows) (suc lane) n e = row_at rows lane n e

-- no job is out
pub none_some : (rows : List (Option Transfer)) → list_any is_some rows ≡ false → map number_of rows ≡ replicate (length rows) None
none_some [] none = refl
none_some (None ∷ rows) none = ap (λ (ns : List (Option ℕ)). None ∷ ns) (none_some rows none)
none_some (Some t ∷ rows) none = absurd (cc)

-- ---- the files that are filled

pub filled_same : (name : List ℕ) (lane : ℕ) (r was : Option Transfer) (rows : List (Option Transfer)) → slice_get rows lane ≡ Some was → fills name r ≡ fills name was
    → list_any (fills name) (changed_at lane (λ w. r) rows) ≡ list_any (fills name) rows
filled_same name lane r was [] there same = refl
filled_same name zero r was (x ∷ rows) there same =
    let is : x ≡ was = cc in
    ap (λ (b : Bool). b || list_any (fills name) rows) (same ∙ ap (fills name) (sym is))
filled_same name (suc lane) r was (x ∷ rows) there same = ap (λ (b : Bool). fills name x || b) (filled_same name lane r was rows there same)

-- a file that isn't filled any more was filled from the lane that changed
pub filled_gone : (name : List ℕ) (lane : ℕ) (r was : Option Transfer) (rows : List (Option Transfer)) → slice_get rows lane ≡ Some was → list_any (fills name) rows ≡ true
    → list_any (fills name) (changed_at lane (λ w. r) rows) ≡ false → fills name was ≡ true
filled_gone name lane r was [] there before after = absurd (cc)
filled_gone name zero r was (x ∷ rows) there before after =
    let is : x ≡ was = cc in
    let rest = (or_parts (fills name r) (list_any (fills name) rows) after).1 in
    elim (cases_Bool (fills name x)) [
      | inl here ↦ ap (fills name) (sym is) ∙ here
      | inr isnt ↦ let filled : list_any (fills name) rows ≡ true = rw isnt at before in absurd (cc)
    ]
filled_gone name (suc lane) r was (x ∷ rows) there before after =
    let parts = or_parts (fills name x) (list_any (fills name) (changed_at lane (λ w. r) rows)) after in
    let filled : list_any (fills name) rows ≡ true = rw parts.0 at before in
    filled_gone name lane r was rows there filled parts.1

pub filled_here : (name : List ℕ) (lane : ℕ) (r : Option Transfer) (rows : List (Option Transfer)) → slice_get rows lane ≡ Some r → fills name r ≡ true → list_any (fills name) rows ≡ true
filled_here name lane r [] there fill = absurd (cc)
filled_here name zero r (x ∷ rows) there fill = let is : x ≡ r = cc in rw (ap (fills name) is ∙ fill) refl
filled_here name (suc lane) r (x ∷ rows) there fill =
    elim (cases_Bool (fills name x)) [
      | inl here ↦ rw here refl
      | inr isnt ↦ rw isnt (filled_here name lane r rows there fill)
    ]
