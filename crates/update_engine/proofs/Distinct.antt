-- Picked sources are apart, and make one commit.
use Rattle.std.proofs.Common.{◌≡◌, ◌≢◌, ◌⊎◌, ◌≤◌, ◌<◌, inl, inr, ⊎_elim, refl, sym, ap, subst, arith, ℕ, zero, suc, ◌+◌, List, [], ◌∷◌, ◌++◌, length, map, All, AllPairs, Contains, Some}
use Rattle.std.specs.Prelude.{slice_get}
use Rattle.std.specs.List.{flat_map, AllByRecursion as Each}
use Rattle.std.proofs.lemmas.List.{length-append}
use Rattle.std.proofs.lemmas.List.Elements.{All-cons, All-nil, Contains-append_left, Contains-append_right}
use Rattle.std.proofs.lemmas.List.Kept.{AllPairs-cons}
use Rattle.acq_base.specs.Plan.{names_of}
use Rattle.acq_base.specs.declared.plan.Source.{Source}
use Rattle.acq_base.proofs.Lists.{first-or-rest}
use Rattle.acq_outside.specs.Crash.{State}
use Rattle.board_model.specs.Runs.{Note}
use Rattle.commit_journal.specs.Changes.{AreApart, IsNone}
use Rattle.list_commits.specs.RecordLaws.{AllSynced, AreGathered, names_gathered}
use Rattle.run_jobs.specs.Running.{RunStart, IsSoundBegun}
use Rattle.update_model.specs.declared.settled.Settled.{Settled}
use Rattle.board_model.proofs.Making.{none-in}
use Rattle.list_commits.proofs.Apart.{there, apart_of, none_if, not_in}
use Rattle.list_commits.proofs.Recording.{right_apart}
use Rattle.run_model.specs.Runs.{AreRising}
use Rattle.update_engine.specs.Session.{IsNewSource, NewSource, numbers_of}

abbrev pub gathered_for : List NewSource → List (Source × Settled)
gathered_for picks = map (λ p. (p.source, p.settled)) picks

-- ---- lists within others

-- names that are among others, no more of them, and apart where those are
record Within (xs ys : List (List ℕ)) : Type 0 where
  fewer : length xs ≤ length ys
  among : (name : List ℕ) → Contains xs name → Contains ys name
  apart : AreApart ys → AreApart xs

within_none : (ys : List (List ℕ)) → Within [] ys
within_none ys = record { fewer = omega arith; among = λ name is. absurd (none-in name is); apart = λ apart. tt }

within_skip : (zs xs ys : List (List ℕ)) → Within xs ys → Within xs (zs ++ ys)
within_skip zs xs ys w = record {
  fewer = let long = length-append zs ys in let few = w.fewer in omega (arith, long, few);
  among = λ name is. Contains-append_right zs ys name (w.among name is);
  apart = λ apart. w.apart (right_apart zs ys apart);
}

pub either : (zs xs : List (List ℕ)) (name : List ℕ) → Contains (zs ++ xs) name → Contains zs name ⊎ Contains xs name
either [] xs name is = inr is
either (z ∷ zs) xs name is = ⊎_elim
    (λ same. inl (0, omega arith, same))
    (λ later. ⊎_elim (λ first. inl (there z zs name first)) inr (either zs xs name later))
    (first-or-rest z (zs ++ xs) name is)

among_keep : (zs xs ys : List (List ℕ)) → ((name : List ℕ) → Contains xs name → Contains ys name) → (name : List ℕ) → Contains (zs ++ xs) name → Contains (zs ++ ys) name
among_keep zs xs ys among name is = ⊎_elim (λ first. Contains-append_left zs ys name first) (λ later. Contains-append_right zs ys name (among name later)) (either zs xs name is)

apart_keep : (zs xs ys : List (List ℕ)) → ((name : List ℕ) → Contains xs name → Contains ys name) → (AreApart ys → AreApart xs) → AreApart (zs ++ ys) → AreApart (zs ++ xs)
apart_keep [] xs ys among rest apart = rest apart
apart_keep (z ∷ zs) xs ys among rest apart = (none_if z (zs ++ xs) (λ is. not_in z (zs ++ ys) apart.0 (among_keep zs xs ys among z is)), apart_keep zs xs ys among rest apart.1)

within_keep : (zs xs ys : List (List ℕ)) → Within xs ys → Within (zs ++ xs) (zs ++ ys)
within_keep zs xs ys w = record {
  fewer = let long = length-append zs ys in let short = length-append zs xs in let few = w.fewer in omega (arith, long, short, few);
  among = among_keep zs xs ys w.among;
  apart = apart_keep zs xs ys w.among w.apart;
}

-- ---- picks of a plan

abbrev sources_for : List NewSource → List Source
sources_for picks = map (λ p. p.source) picks

-- the pick is of the sources from the k-th on
record IsAt (rest : List Source) (k : ℕ) (p : NewSource) : Type 0 where
  j : ℕ
  n_is : p.n ≡ k + j
  at : slice_get rest j ≡ Some p.source

one_on : (s : Source) (rest : List Source) (k : ℕ) (p : NewSource) → k < p.n → IsAt (s ∷ rest) k p → IsAt rest (suc k) p
one_on s rest k p less a = by a.j a.n_is a.at
  where
    by : (j : ℕ) → p.n ≡ k + j → slice_get (s ∷ rest) j ≡ Some p.source → IsAt rest (suc k) p
    by zero n_is at = absurd (omega (arith, n_is, less))
    by (suc j) n_is at = record { j = j; n_is = omega (arith, n_is); at = at }

all_on : (s : Source) (rest : List Source) (k : ℕ) (picks : List NewSource) → Each (λ n. k < n) (numbers_of picks) → Each (IsAt (s ∷ rest) k) picks → Each (IsAt rest (suc k)) picks
all_on s rest k [] below each = tt
all_on s rest k (p ∷ picks) below each = (one_on s rest k p below.0 each.0, all_on s rest k picks below.1 each.1)

above : (n m : ℕ) (ns : List ℕ) → n < m → Each (λ k. m < k) ns → Each (λ k. n < k) ns
above n m [] less each = tt
above n m (k ∷ ns) less each = (let high = each.0 in omega (arith, less, high), above n m ns less each.1)

picks_within : (rest : List Source) (k : ℕ) (picks : List NewSource) → Each (IsAt rest k) picks → AreRising (numbers_of picks) → Within (flat_map names_of (sources_for picks)) (flat_map names_of rest)
picks_within rest k [] each turn = within_none (flat_map names_of rest)
picks_within [] k (p ∷ picks) each turn = absurd (none each.0.j each.0.at)
  where
    none : (j : ℕ) → slice_get [] j ≡ Some p.source → ⊥
    none j e = cc
picks_within (s ∷ rest) k (p ∷ picks) each turn = by each.0.j each.0.n_is each.0.at (picks_within rest (suc k) (p ∷ picks)) (picks_within rest (suc k) picks)
  where
    by : (j : ℕ) → p.n ≡ k + j → slice_get (s ∷ rest) j ≡ Some p.source
        → (Each (IsAt rest (suc k)) (p ∷ picks) → AreRising (numbers_of (p ∷ picks)) → Within (flat_map names_of (sources_for (p ∷ picks))) (flat_map names_of rest))
        → (Each (IsAt rest (suc k)) picks → AreRising (numbers_of picks) → Within (flat_map names_of (sources_for picks)) (flat_map names_of rest))
        → Within (flat_map names_of (sources_for (p ∷ picks))) (flat_map names_of (s ∷ rest))
    by zero n_is at skipped kept =
        let same : s ≡ p.source = cc in
        let here : p.n ≡ k = omega (arith, n_is) in
        let beyond = subst (λ (m : ℕ). Each (λ n. m < n) (numbers_of picks)) here turn.0 in
        subst (λ (x : Source). Within (flat_map names_of (sources_for (p ∷ picks))) (names_of x ++ flat_map names_of rest)) (sym same)
        (within_keep (names_of p.source) (flat_map names_of (sources_for picks)) (flat_map names_of rest) (kept (all_on s rest k picks beyond each.1) turn.1))
    by (suc j) n_is at skipped kept =
        let less : k < p.n = omega (arith, n_is) in
        within_skip (names_of s) (flat_map names_of (sources_for (p ∷ picks))) (flat_map names_of rest)
        (skipped (one_on s rest k p less each.0, all_on s rest k picks (above k p.n (numbers_of picks) less turn.0) each.1) turn)

-- ---- they make one commit

all_none : (x : List ℕ) (xs : List (List ℕ)) → IsNone x xs → All (λ y. x ≢ y) xs
all_none x [] none = All-nil (λ y. x ≢ y)
all_none x (y ∷ ys) none = All-cons (λ y. x ≢ y) y ys (λ same. none.0 (sym same)) (all_none x ys none.1)

pairs_apart : (xs : List (List ℕ)) → AreApart xs → AllPairs (λ a b. a ≢ b) xs
pairs_apart [] apart = λ i j d low high. absurd (omega (arith, high))
pairs_apart (x ∷ xs) apart = AllPairs-cons (λ a b. a ≢ b) x xs (all_none x xs apart.0) (pairs_apart xs apart.1)

gathered_sources : (picks : List NewSource) → map (λ s. s.0) (gathered_for picks) ≡ sources_for picks
gathered_sources [] = refl
gathered_sources (p ∷ picks) = ap (λ (ss : List Source). p.source ∷ ss) (gathered_sources picks)

at_first : (start : RunStart) (notes : List Note) (now : List State) (picks : List NewSource) → Each (IsNewSource start notes now) picks → Each (IsAt start.config.sources 0) picks
at_first start notes now [] each = tt
at_first start notes now (p ∷ picks) each = (record { j = p.n; n_is = omega arith; at = each.0.source_is }, at_first start notes now picks each.1)

each_gathered : (start : RunStart) (notes : List Note) (now : List State) (P : Source × Settled → Type 0) → ((p : NewSource) → IsNewSource start notes now p → P (p.source, p.settled)) → (picks : List NewSource) → Each (IsNewSource start notes now) picks
    → Each P (gathered_for picks)
each_gathered start notes now P f [] each = tt
each_gathered start notes now P f (p ∷ picks) each = (f p each.0, each_gathered start notes now P f picks each.1)

pub are_gathered : (start : RunStart) (notes : List Note) (now : List State) (picks : List NewSource) → IsSoundBegun start → Each (IsNewSource start notes now) picks → AreRising (numbers_of picks) → AreGathered start.config.sources (gathered_for picks)
are_gathered start notes now picks sound each turn =
    let w = picks_within start.config.sources 0 picks (at_first start notes now picks each) turn in
    let same : names_gathered (gathered_for picks) ≡ flat_map names_of (sources_for picks) = ap (flat_map names_of) (gathered_sources picks) in
    let few = w.fewer in
    let most = sound.few in
    let short : length (flat_map names_of (sources_for picks)) ≤ 4096 = omega (arith, few, most) in
    record {
      put = each_gathered start notes now _ (λ p is. is.put) picks each;
      own = each_gathered start notes now _ (λ p is. is.own) picks each;
      among = λ name is. w.among name (subst (λ (ns : List (List ℕ)). Contains ns name) same is);
      distinct = subst (λ (ns : List (List ℕ)). AllPairs (λ a b. a ≢ b) ns) (sym same) (pairs_apart (flat_map names_of (sources_for picks)) (w.apart (apart_of (flat_map names_of start.config.sources) sound.apart)));
      few = subst (λ (ns : List (List ℕ)). length ns ≤ 4096) (sym same) short;
    }

pub all_last : (start : RunStart) (notes : List Note) (s : State) (past : List State) (picks : List NewSource) → Each (IsNewSource start notes (s ∷ past)) picks → AllSynced s (gathered_for picks)
all_last start notes s past picks each = each_gathered start notes (s ∷ past) _ (λ p is. is.lasts) picks each
