-- A source that is settled, on its board.
use Rattle.std.proofs.Common.{◌≡◌, ◌≢◌, ◌⊎◌, ◌∙◌, inl, inr, refl, sym, ap, subst, arith, ℕ, zero, suc, ◌+◌, Bool, true, List, [], ◌∷◌, ◌++◌, Option, Some, None}
use Rattle.std.specs.Prelude.{◌<◌, filter, if◌then◌else◌, option_map, slice_get}
use Rattle.std.specs.List.{AllByRecursion as Each}
use Rattle.std.proofs.lemmas.Bool.{cases_Bool}
use Rattle.acq_base.specs.Plan.{IsPlanned}
use Rattle.acq_base.specs.declared.installed.Old.{Old}
use Rattle.acq_base.specs.declared.plan.Source.{Source}
use Rattle.acq_outside.specs.Crash.{State, reads}
use Rattle.board_model.specs.Boards.{Asker, Board, first_ready, settled_as, settled_of}
use Rattle.board_model.specs.CallLaws.{AreOnce}
use Rattle.board_model.specs.ReadAnew.{StandsOn}
use Rattle.board_model.specs.Reached.{Reached}
use Rattle.board_model.specs.Runs.{Note}
use Rattle.board_model.specs.Settling.{settled_in}
use Rattle.board_model.specs.Slots.{SettledSlot, Setup, Slot, ask_of, is_ready, item_at}
use Rattle.board_model.specs.Jobs.{NoneAsks}
use Rattle.board_model.specs.Keys.{key_at}
use Rattle.board_model.specs.declared.key.Key.{Key}
use Rattle.update_model.specs.declared.ask.Ask.{Ask}
use Rattle.board_model.specs.Stands.{AllStand, IsOpen, SourceStands, StandsAt, history_of}
use Rattle.board_model.specs.Uses.{wanted_part}
use Rattle.host_queues.specs.Lanes.{changed_at}
use Rattle.list_commits.specs.SetLaws.{OwnsChanges}
use Rattle.lists_dir.specs.Installed.{installed_of}
use Rattle.run_jobs.specs.Coupling.{HasWantedParts}
use Rattle.run_jobs.specs.Running.{RunStart, RunHasHeard, IsUnderWay}
use Rattle.run_model.specs.Runs.{is_installed, is_told_installed}
use Rattle.update_model.specs.Obtained.{◌>>=◌}
use Rattle.update_model.specs.declared.settled.Settled.{Settled}
use Rattle.update_model.specs.declared.settled.Verdict2.{Verdict2}
use Rattle.board_model.proofs.Places.{bound}
use Rattle.board_model.proofs.Resting.{olds-there}
use Rattle.board_model.proofs.Events.{ready-slot}
use Rattle.board_model.proofs.Agreement.{come-open}
use Rattle.run_jobs.proofs.Keeping.{falls_holds}
use Rattle.run_jobs.proofs.Lists.{HasLists, now_map}
use Rattle.update_engine.proofs.Known.{SettlingLaws}
use Rattle.update_engine.specs.Session.{HasSettled, OnlySettles, installed_in}
use Rattle.update_engine.proofs.Lists.{each_more, filter_last, filter_same}

-- ---- what it was

-- the source that was settled
pub record IsOf (b : Board) (n : ℕ) (settled : Settled) : Type 0 where
  pub source : Source
  pub source_is : slice_get b.config.sources n ≡ Some source
  pub slot : Slot
  pub slot_is : slice_get b.slots n ≡ Some slot
  pub comes_to : settled_in source slot ≡ Some settled

pub is_of : (b : Board) (n : ℕ) (settled : Settled) → settled_of b n ≡ Some settled → IsOf b n settled
is_of b n settled e =
    let p = bound (slice_get b.config.sources n) _ settled e in
    let q = bound (slice_get b.slots n) _ settled p.2 in
    record { source = p.0; source_is = p.1; slot = q.0; slot_is = q.1; comes_to = q.2 }

-- the source as it stands on a board that was reached
pub record AsOpen (config : Setup) (notes : List Note) (b : Board) (n : ℕ) (source : Source) (slot : Slot) : Type 0 where
  pub old : Old
  pub open_slot : IsOpen config n source old slot (history_of n notes)
  pub verdict : Verdict2
  pub verdict_is : slice_get b.verdicts n ≡ Some verdict

pub as_open : SettlingLaws → (config : Setup) (olds : List Old) (notes : List Note) (b : Board) (n : ℕ) (source : Source) (slot : Slot) → (r : Reached config olds notes b) → first_ready b.slots ≡ Some n
    → slice_get config.sources n ≡ Some source → slice_get b.slots n ≡ Some slot → AsOpen config notes b n source slot
as_open below config olds notes b n source slot r ready source_is slot_is =
    let all : AllStand config olds (record { board = b; jobs = r.jobs; queue = []; notes = notes }) = subst (AllStand config olds) r.leads (below.stand config olds r.lanes r.events) in
    let old = olds-there config.sources olds n source r.each source_is in
    let at : StandsAt config n source old.0 (record { board = b; jobs = r.jobs; queue = []; notes = notes }) = all.sources n source old.0 source_is old.1 in
    let x = ready-slot b.slots n ready in
    let x_both : Some x.0 ≡ Some slot = sym x.1 ∙ slot_is in
    let x_same : x.0 ≡ slot = cc in
    let both : Some at.slot ≡ Some slot = sym at.slot_is ∙ slot_is in
    let same : at.slot ≡ slot = cc in
    record {
      old = old.0;
      open_slot = come-open config n source old.0 slot at.verdict (history_of n notes) (subst (λ (s : Slot). SourceStands config n source old.0 s at.verdict (history_of n notes)) same at.stands)
          (subst (λ (y : Slot). is_ready y ≡ true) x_same x.2);
      verdict = at.verdict;
      verdict_is = at.verdict_is;
    }

-- its changes are of its own names, each once
pub owns : SettlingLaws → (config : Setup) (notes : List Note) (b : Board) (n : ℕ) (source : Source) (slot : Slot) (settled : Settled) → AsOpen config notes b n source slot → settled_in source slot ≡ Some settled → IsPlanned source
    → OwnsChanges source settled
owns below config notes b n source slot settled at comes planned = record {
  own = below.own source slot settled comes;
  apart = below.apart config n source at.old slot (history_of n notes) settled at.open_slot comes planned;
}

-- ---- the board behind it

-- what it wants of lists on their way is there where it was
pub uses_settled : SettlingLaws → (b : Board) (n : ℕ) (verdict : Verdict2) (first : List ℕ → List ℕ) (now : List State) → HasWantedParts (wanted_part b) first now → HasWantedParts (wanted_part (settled_as b n verdict)) first now
uses_settled below b n verdict first now uses = record { each = λ name told. falls_holds (wanted_part b name) (wanted_part (settled_as b n verdict) name) name (first name) now (below.rest b n verdict name) (uses.each name told) }

-- and where its other sources' Releases are asked for, the disk has what it knows as installed
pub lists_settled : SettlingLaws → (b : Board) (n : ℕ) (verdict : Verdict2) (now : List State) → HasLists b now → HasLists (settled_as b n verdict) now
lists_settled below b n verdict now has =
    now_map (λ s. StandsOn (installed_of (reads s)) b) (λ s. StandsOn (installed_of (reads s)) (settled_as b n verdict)) now (λ s. below.lists.after_settled (installed_of (reads s)) b n verdict) has

pub heard_settled : SettlingLaws → (start : RunStart) (notes : List Note) (b : Board) (n : ℕ) (settled : Settled) (now : List State) → first_ready b.slots ≡ Some n → settled_of b n ≡ Some settled
    → RunHasHeard start notes b now → RunHasHeard start notes (settled_as b n settled.verdict) now
heard_settled below start notes b n settled now ready comes heard = record {
  config = heard.config;
  olds = heard.olds;
  same = heard.same;
  reached = below.reached start.config heard.olds notes b n settled heard.reached ready comes;
  sound = heard.sound;
  answers = heard.answers;
}

pub under_settled : SettlingLaws → (start : RunStart) (notes : List Note) (b : Board) (n : ℕ) (settled : Settled) (now : List State) → first_ready b.slots ≡ Some n → settled_of b n ≡ Some settled
    → IsUnderWay start notes b now → IsUnderWay start notes (settled_as b n settled.verdict) now
under_settled below start notes b n settled now ready comes under = record {
  heard = heard_settled below start notes b n settled now ready comes under.heard;
  uses = uses_settled below b n settled.verdict start.parts now under.uses;
  lists = lists_settled below b n settled.verdict now under.lists;
}

-- ---- what it tells as installed

other_kept : {A : Type 0} (f : A → A) (xs : List A) (n m : ℕ) → m ≢ n → slice_get (changed_at n f xs) m ≡ slice_get xs m
other_kept f [] n m differ = refl
other_kept f (x ∷ xs) zero zero differ = absurd (differ refl)
other_kept f (x ∷ xs) zero (suc m) differ = refl
other_kept f (x ∷ xs) (suc n) zero differ = refl
other_kept f (x ∷ xs) (suc n) (suc m) differ = other_kept f xs n m (λ same. differ (ap suc same))

one_changed : {A : Type 0} (xs : List A) (n : ℕ) (x y : A) → slice_get xs n ≡ Some x → slice_get (changed_at n (λ other. y) xs) n ≡ Some y
one_changed [] n x y e = absurd (cc)
one_changed (z ∷ xs) zero x y e = refl
one_changed (z ∷ xs) (suc n) x y e = one_changed xs n x y e

last_once : (ns : List ℕ) (n : ℕ) → AreOnce (ns ++ n ∷ []) → Each (λ m. m ≢ n) ns
last_once [] n once = tt
last_once (m ∷ ns) n once = ((λ same. last_differs ns n m once.0 (sym same)), last_once ns n once.1)
  where
    last_differs : (xs : List ℕ) (x k : ℕ) → Each (λ j. j ≢ k) (xs ++ x ∷ []) → x ≢ k
    last_differs [] x k each = each.0
    last_differs (y ∷ xs) x k each = last_differs xs x k each.1

-- the source is one more, where it was installed
pub told_more : (b : Board) (n : ℕ) (verdict former : Verdict2) → slice_get b.verdicts n ≡ Some former → AreOnce (b.settled ++ n ∷ [])
    → installed_in (settled_as b n verdict) ≡ installed_in b ++ (if is_installed verdict then n ∷ [] else [])
told_more b n verdict former is once =
    let p = λ (m : ℕ). is_told_installed (slice_get (changed_at n (λ other. verdict) b.verdicts) m) in
    let q = λ (m : ℕ). is_told_installed (slice_get b.verdicts m) in
    let rest : filter p b.settled ≡ filter q b.settled = filter_same p q b.settled
    (each_more (λ m. m ≢ n) (λ m. p m ≡ q m) b.settled (λ m differ. ap is_told_installed (other_kept (λ other. verdict) b.verdicts n m differ)) (last_once b.settled n once)) in
    let here : p n ≡ is_installed verdict = ap is_told_installed (one_changed b.verdicts n former verdict is) in
    filter_last p b.settled n ∙ ap (λ (xs : List ℕ). xs ++ (if p n then n ∷ [] else [])) rest ∙ ap (λ (c : Bool). filter q b.settled ++ (if c then n ∷ [] else [])) here

-- ---- fewer are ready

abbrev pub ready_count : List Slot → ℕ
ready_count [] = 0
ready_count (slot ∷ slots) = (if is_ready slot then 1 else 0) + ready_count slots

fewer_ready : (slots : List Slot) (n : ℕ) → first_ready slots ≡ Some n → ready_count (changed_at n (λ slot. SettledSlot) slots) < ready_count slots
fewer_ready [] n e = absurd (cc)
fewer_ready (slot ∷ slots) n e = elim (cases_Bool (is_ready slot)) [
  | inl is ↦
      let zero_is : Some 0 ≡ Some n = rw is at e in
      let same : 0 ≡ n = cc in
      subst (λ (k : ℕ). ready_count (changed_at k (λ slot. SettledSlot) (slot ∷ slots)) < ready_count (slot ∷ slots)) same (rw is (omega arith))
  | inr isnt ↦ later (fewer_ready slots) (first_ready slots) refl (rw isnt at e)
]
  where
    later : ((k : ℕ) → first_ready slots ≡ Some k → ready_count (changed_at k (λ slot. SettledSlot) slots) < ready_count slots) → (o : Option ℕ) → first_ready slots ≡ o → option_map (λ k. k + 1) o ≡ Some n
        → ready_count (changed_at n (λ slot. SettledSlot) (slot ∷ slots)) < ready_count (slot ∷ slots)
    later less None is e = absurd (cc)
    later less (Some k) is e =
        let same : suc k ≡ n = let q : k + 1 ≡ n = cc in omega arith in
        let fewer = less k is in
        subst (λ (m : ℕ). ready_count (changed_at m (λ slot. SettledSlot) (slot ∷ slots)) < ready_count (slot ∷ slots)) same (omega (arith, fewer))

pub fewer_settled : (b c : Board) (n : ℕ) → first_ready b.slots ≡ Some n → HasSettled n b c → ready_count c.slots < ready_count b.slots
fewer_settled b c n ready settled = subst (λ (x : Board). ready_count x.slots < ready_count b.slots) (sym settled.is) (fewer_ready b.slots n ready)

-- ---- nothing more is asked

slot_then : (slots : List Slot) (n m : ℕ) → (slice_get (changed_at n (λ slot. SettledSlot) slots) m ≡ slice_get slots m) ⊎ (slice_get (changed_at n (λ slot. SettledSlot) slots) m ≡ Some SettledSlot)
slot_then [] n m = inl refl
slot_then (slot ∷ slots) zero zero = inr refl
slot_then (slot ∷ slots) zero (suc m) = inl refl
slot_then (slot ∷ slots) (suc n) zero = inl refl
slot_then (slot ∷ slots) (suc n) (suc m) = slot_then slots n m

abbrev asker_by : Key → Source → Option Ask → Option Asker
asker_by key source o = o >>= λ (ask : Ask). Some (record { key = key; source = source; ask = ask })

abbrev asker_with : List Slot → Setup → Option Key → Option Asker
asker_with slots config key = key >>= λ (k : Key). slice_get config.sources k.source >>= λ (source : Source). asker_by k source (ask_of (item_at slots k))

asker_then : (b : Board) (n : ℕ) (verdict : Verdict2) (number : ℕ) (key : Option Key) → asker_with b.slots b.config key ≡ None → asker_with (settled_as b n verdict).slots b.config key ≡ None
asker_then b n verdict number None e = refl
asker_then b n verdict number (Some key) e = one (slice_get b.config.sources key.source) e
  where
    two : (source : Source) → (slice_get (changed_at n (λ slot. SettledSlot) b.slots) key.source ≡ slice_get b.slots key.source) ⊎ (slice_get (changed_at n (λ slot. SettledSlot) b.slots) key.source ≡ Some SettledSlot)
        → asker_by key source (ask_of (item_at b.slots key)) ≡ None → asker_by key source (ask_of (item_at (changed_at n (λ slot. SettledSlot) b.slots) key)) ≡ None
    two source (inl same) e = rw same e
    two source (inr closed) e = rw closed refl

    one : (o : Option Source) → (o >>= λ (source : Source). asker_by key source (ask_of (item_at b.slots key))) ≡ None
        → (o >>= λ (source : Source). asker_by key source (ask_of (item_at (changed_at n (λ slot. SettledSlot) b.slots) key))) ≡ None
    one None e = refl
    one (Some source) e = two source (slot_then b.slots n key.source) e

quiet_settled : (b : Board) (n : ℕ) (verdict : Verdict2) → NoneAsks b → NoneAsks (settled_as b n verdict)
quiet_settled b n verdict none number = asker_then b n verdict number (key_at b.config.sources number) (none number)

pub only_settled : (b c : Board) (n : ℕ) → HasSettled n b c → OnlySettles b c
only_settled b c n settled = subst (λ (x : Board). OnlySettles b x) (sym settled.is) (record { config = refl; asks = refl; out = refl; quiet = quiet_settled b n settled.verdict })

pub only_none : (b : Board) → OnlySettles b b
only_none b = record { config = refl; asks = refl; out = refl; quiet = λ none. none }

pub only_more : (b c d : Board) → OnlySettles b c → OnlySettles c d → OnlySettles b d
only_more b c d one two = record { config = two.config ∙ one.config; asks = two.asks ∙ one.asks; out = two.out ∙ one.out; quiet = λ none. two.quiet (one.quiet none) }
