-- What stays as a run goes on.
use Rattle.std.proofs.Common.{◌≡◌, ◌≢◌, ◌∙◌, refl, sym, ap, subst, arith, ℕ, zero, suc, ◌+◌, ◌<◌, Bool, true, false, List, [], ◌∷◌, ◌++◌, Contains, Option, Some, None}
use Rattle.std.specs.Prelude.{filter, if◌then◌else◌, option_map, slice_get}
use Rattle.std.specs.List.{AllByRecursion as Each}
use Rattle.std.proofs.lemmas.List.Elements.{All-contains}
use Rattle.acq_base.specs.Plan.{names_of}
use Rattle.acq_base.specs.declared.plan.Source.{Source}
use Rattle.acq_outside.specs.Crash.{reads}
use Rattle.journal_model.specs.Names.{is_installed_name}
use Rattle.acq_outside.specs.Disk.{Files}
use Rattle.board_model.specs.Boards.{first_ready}
use Rattle.board_model.specs.CallLaws.{SourcesAreSettledOnce}
use Rattle.board_model.specs.Laws.{BoardsStand}
use Rattle.board_model.specs.Slots.{Setup, Slot, SettledSlot, is_ready}
use Rattle.host_queues.specs.Lanes.{changed_at}
use Rattle.update_model.specs.declared.settled.Verdict2.{Verdict2}
use Rattle.update_model.proofs.Carried.{each-from}
use Rattle.board_model.proofs.Making.{none-in}
use Rattle.board_model.proofs.Places.{bound}
use Rattle.board_model.proofs.Events.{ready-slot}
use Rattle.board_bounds.proofs.Asking.{reached-stands}
use Rattle.list_commits.proofs.Apart.{here, there}
use Rattle.run_model.specs.Beginnings.{InstalledAreOnce, InstalledFollow, InstalledAreInTurn, ListsAreRead, LooseListsStay, NextIsInTurn, NoneIsInTurn}
use Rattle.run_model.specs.Groups.{all_groups}
use Rattle.run_model.specs.Runs.{AreRising, is_told_installed}
use Rattle.run_model.proofs.Carrying.{all_in_turn}
use Rattle.run_model.proofs.Cleaning.{stays_loose}
use Rattle.run_model.proofs.Counting.{there_too, verdicts_count}
use Rattle.run_model.proofs.Finishing.{once_filtered}
use Rattle.run_model.proofs.Ready.{Below}

pub installed_are_once : SourcesAreSettledOnce → InstalledAreOnce
installed_are_once law config olds notes b told r = once_filtered (λ n. is_told_installed (slice_get told n)) b.settled (law config olds notes b r).once

-- ---- the next that is ready

pub later_than : (slots : List Slot) (n m : ℕ) → first_ready slots ≡ Some n → first_ready (changed_at n (λ slot. SettledSlot) slots) ≡ Some m → n < m
later_than [] n m is is' = absurd (cc)
later_than (slot ∷ slots) zero m is is' = one (first_ready slots) is'
  where
    one : (o : Option ℕ) → option_map (λ k. k + 1) o ≡ Some m → 0 < m
    one None e = absurd (cc)
    one (Some k) e = let same : k + 1 ≡ m = cc in omega (arith, same)
later_than (slot ∷ slots) (suc n) m is is' = one (is_ready slot) (first_ready slots) (first_ready (changed_at n (λ slot. SettledSlot) slots)) refl refl is is' (later_than slots n)
  where
    one : (ready : Bool) (o o' : Option ℕ) → first_ready slots ≡ o → first_ready (changed_at n (λ slot. SettledSlot) slots) ≡ o'
        → (if ready then Some 0 else option_map (λ k. k + 1) o) ≡ Some (suc n) → (if ready then Some 0 else option_map (λ k. k + 1) o') ≡ Some m
        → ((j : ℕ) → first_ready slots ≡ Some n → first_ready (changed_at n (λ slot. SettledSlot) slots) ≡ Some j → n < j) → suc n < m
    one true o o' at at' e e' later = let wrong : 0 ≡ suc n = cc in absurd (omega (arith, wrong))
    one false None o' at at' e e' later = absurd (cc)
    one false (Some k) None at at' e e' later = absurd (cc)
    one false (Some k) (Some j) at at' e e' later =
        let k_is : k + 1 ≡ suc n = cc in
        let j_is : j + 1 ≡ m = cc in
        let same : k ≡ n = omega (arith, k_is) in
        let less = later j (at ∙ ap (λ (x : ℕ). Some x) same) at' in
        omega (arith, j_is, less)

-- ---- in plan order

rising_behind : (n : ℕ) (ns : List ℕ) → AreRising ns → Each (λ m. m < n) ns → AreRising (ns ++ n ∷ [])
rising_behind n [] rising below = (tt, tt)
rising_behind n (m ∷ ns) rising below = (later ns rising.0, rising_behind n ns rising.1 below.1)
  where
    later : (ks : List ℕ) → Each (λ k. m < k) ks → Each (λ k. m < k) (ks ++ n ∷ [])
    later [] above = (below.0, tt)
    later (k ∷ ks) above = (above.0, later ks above.1)

each_behind : (n m : ℕ) (ns : List ℕ) → n < m → Each (λ k. k < n) ns → Each (λ k. k < m) (ns ++ n ∷ [])
each_behind n m [] less below = (less, tt)
each_behind n m (k ∷ ns) less below = (let first : k < n = below.0 in omega (arith, less, first), each_behind n m ns less below.1)

above_filtered : (p : ℕ → Bool) (n : ℕ) (ns : List ℕ) → Each (λ m. n < m) ns → Each (λ m. n < m) (filter p ns)
above_filtered p n [] above = tt
above_filtered p n (m ∷ ns) above = one (p m) (above_filtered p n ns above.1)
  where
    one : (c : Bool) → Each (λ m. n < m) (filter p ns) → Each (λ m. n < m) (if c then m ∷ filter p ns else filter p ns)
    one true rest = (above.0, rest)
    one false rest = rest

rising_filtered : (p : ℕ → Bool) (ns : List ℕ) → AreRising ns → AreRising (filter p ns)
rising_filtered p [] rising = tt
rising_filtered p (n ∷ ns) rising = one (p n) (rising_filtered p ns rising.1)
  where
    one : (c : Bool) → AreRising (filter p ns) → AreRising (if c then n ∷ filter p ns else filter p ns)
    one true rest = (above_filtered p n ns rising.0, rest)
    one false rest = rest

pub none_is_in_turn : NoneIsInTurn
none_is_in_turn b none = record { rising = subst AreRising (sym none) tt; next = λ n is. subst (Each (λ m. m < n)) (sym none) tt }

pub next_is_in_turn : NextIsInTurn
next_is_in_turn b n verdict h ready = record {
  rising = rising_behind n b.settled h.rising (h.next n ready);
  next = λ m is. each_behind n m b.settled (later_than b.slots n m ready is) (h.next n ready);
}

pub installed_are_in_turn : InstalledAreInTurn
installed_are_in_turn b h = rising_filtered (λ k. is_told_installed (slice_get b.verdicts k)) b.settled h.rising

pub lists_are_read : Below → ListsAreRead
lists_are_read below source lists s planned rest =
    each-from (λ name. reads s name ≡ lists name) (names_of source) (λ name is. rest.lists_are name (All-contains (λ n. is_installed_name n ≡ true) (names_of source) name (below.lists source planned) is))

-- ---- the sources that are told as installed

filtered_both : (p : ℕ → Bool) (first later : List ℕ) → filter p (first ++ later) ≡ filter p first ++ filter p later
filtered_both p [] later = refl
filtered_both p (n ∷ first) later = one (p n) (filtered_both p first later)
  where
    one : (c : Bool) → filter p (first ++ later) ≡ filter p first ++ filter p later → (if c then n ∷ filter p (first ++ later) else filter p (first ++ later)) ≡ (if c then n ∷ filter p first else filter p first) ++ filter p later
    one true rest = ap (λ (ns : List ℕ). n ∷ ns) rest
    one false rest = rest

filtered_same : (p q : ℕ → Bool) (ns : List ℕ) → ((n : ℕ) → Contains ns n → p n ≡ q n) → filter p ns ≡ filter q ns
filtered_same p q [] same = refl
filtered_same p q (n ∷ ns) same =
    ap (λ (c : Bool). if c then n ∷ filter p ns else filter p ns) (same n (here n ns n refl))
    ∙ ap (λ (rest : List ℕ). if q n then n ∷ rest else rest) (filtered_same p q ns (λ m is. same m (there n ns m is)))

get_other : (f : Verdict2 → Verdict2) (told : List Verdict2) (n m : ℕ) → n ≢ m → slice_get (changed_at n f told) m ≡ slice_get told m
get_other f [] n m differ = refl
get_other f (v ∷ told) zero zero differ = absurd (differ refl)
get_other f (v ∷ told) zero (suc m) differ = refl
get_other f (v ∷ told) (suc n) zero differ = refl
get_other f (v ∷ told) (suc n) (suc m) differ = get_other f told n m (λ same. differ (ap suc same))

get_same : (f : Verdict2 → Verdict2) (told : List Verdict2) (n : ℕ) (v : Verdict2) → slice_get told n ≡ Some v → slice_get (changed_at n f told) n ≡ Some (f v)
get_same f [] n v is = absurd (cc)
get_same f (w ∷ told) zero v is = let same : w ≡ v = cc in ap (λ (x : Verdict2). Some (f x)) same
get_same f (w ∷ told) (suc n) v is = get_same f told n v is

pub installed_follow : BoardsStand → SourcesAreSettledOnce → InstalledFollow
installed_follow stand law config olds notes b n settled r ready comes =
    filtered_both told b.settled (n ∷ [])
    ∙ ap (λ (ns : List ℕ). ns ++ filter told (n ∷ [])) (filtered_same told (λ k. is_told_installed (slice_get b.verdicts k)) b.settled (λ m is. ap is_told_installed (get_other given b.verdicts n m (λ same. never (subst (λ (k : ℕ). Contains b.settled k) (sym same) is)))))
    ∙ ap (λ (c : Bool). filter (λ k. is_told_installed (slice_get b.verdicts k)) b.settled ++ (if c then n ∷ [] else [])) (ap is_told_installed (get_same given b.verdicts n was.0 was.1))
  where
    given : Verdict2 → Verdict2
    given = λ other. settled.verdict

    told : ℕ → Bool
    told = λ k. is_told_installed (slice_get (changed_at n given b.verdicts) k)

    found : (slot : Slot) × (slice_get b.slots n ≡ Some slot) × (is_ready slot ≡ true)
    found = ready-slot b.slots n ready

    never : Contains b.settled n → ⊥
    never is =
        let closed : slice_get b.slots n ≡ Some SettledSlot = ((law config olds notes b r).settled n).0 is in
        let both : Some SettledSlot ≡ Some found.0 = sym closed ∙ found.1 in
        let same : SettledSlot ≡ found.0 = cc in
        let wrong : false ≡ true = ap is_ready same ∙ found.2 in absurd (cc)

    source : (s : Source) × (slice_get config.sources n ≡ Some s)
    source =
        let p = bound (slice_get b.config.sources n) _ settled comes in
        let at = reached-stands stand config olds notes b r in
        (p.0, ap (λ (c : Setup). slice_get c.sources n) (sym at.config_is) ∙ p.1)

    was : (v : Verdict2) × (slice_get b.verdicts n ≡ Some v)
    was = there_too config.sources b.verdicts n source.0 (sym (verdicts_count config olds notes b r)) source.1

-- ---- names of no source

pub loose_lists_stay : Below → LooseListsStay
loose_lists_stay below begun lists files heard commits names begins groups none are same = record {
  files = files;
  are = are;
  same = λ name list out. same name list
      ∙ ap (λ (after : Files). after name) (all_in_turn commits lists)
      ∙ stays_loose below begun heard (all_groups commits) lists name begins.planned groups out (λ removed. none-in name (subst (λ (ns : List (List ℕ)). Contains ns name) none removed));
}
