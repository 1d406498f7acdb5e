-- Which jobs go out, and when none does.
use Rattle.std.proofs.Common.{◌≡◌, ◌≢◌, ◌≤◌, ◌∙◌, ◌⊎◌, inl, inr, ℕ, zero, suc, ◌+◌, nat_eq, nat_lt, Bool, true, false, List, [], ◌∷◌, length, map, Option, Some, None, refl, sym, ap, subst, arith}
use Rattle.std.specs.Prelude.{if◌then◌else◌, is_none, is_some, option_map, option_and_then, slice_get}
use Rattle.std.specs.List.{list_all, AllByRecursion as Each}
use Rattle.std.proofs.lemmas.Bool.{cases_Bool}
use Rattle.std.proofs.lemmas.Bool.Decides.{nat_tests}
use Rattle.acq_base.specs.declared.installed.Old.{Old}
use Rattle.acq_base.specs.declared.plan.Source.{Source}
use Rattle.host_queues.specs.Lanes.{Queue, first, first_of, lane_of}
use Rattle.host_queues.specs.Laws.{HostsKeepLanes}
use Rattle.uri_names.specs.Names.{host_key_of}
use Rattle.update_model.specs.declared.ask.Ask.{Ask}
use Rattle.update_model.specs.declared.settled.Verdict2.{Verdict2}
use Rattle.board_model.specs.Boards.{Asker, Board, asker_of, first_ready, is_out, issued_job, job_for, lane_with}
use Rattle.board_model.specs.CallLaws.{IsServedLane, OutNumbersAsk, NoneGoesOutExactly, BoardsWithoutJobsAskNothing, QuietBoardsAreReady}
use Rattle.board_model.specs.Jobs.{NoneAsks, one_if, times_in, times_out, times_waiting}
use Rattle.board_model.specs.Keys.{key_at}
use Rattle.board_model.specs.Reached.{Reached}
use Rattle.board_model.specs.Runs.{Note, BoardRun}
use Rattle.board_model.specs.Slots.{Setup, Standing, Slot, Asking, Listing, Refused, SettledSlot, ask_of, has_ended, is_ready, item_at, item_in, joined}
use Rattle.board_model.specs.Stands.{History, SourceStands, StandsAt, history_of}
use Rattle.board_model.specs.declared.key.Key.{Key}
use Rattle.board_model.proofs.Askers.{asker-by}
use Rattle.board_model.proofs.Counting.{out-lane, out-there}
use Rattle.board_model.proofs.JobRuns.{LanesStand, first-asks, flags, there-asks, waits-alone}
use Rattle.board_model.proofs.JobWorlds.{world-stands}
use Rattle.board_model.proofs.Lanes.{WaitsIn}
use Rattle.board_model.proofs.Once.{GoesWell, KeepsAsking, boards-go-well}
use Rattle.board_model.proofs.Numbers.{base, key-there}
use Rattle.board_model.proofs.Reaching.{lane-out}
use Rattle.board_model.proofs.Resting.{lists-none, olds-there, reached-stands}

lanes-stand : HostsKeepLanes → (config : Setup) (olds : List Old) (notes : List Note) (b : Board) → Reached config olds notes b → LanesStand b
lanes-stand kept config olds notes b r = subst (λ (w : BoardRun). LanesStand w.board) r.leads (world-stands kept config olds r.lanes r.events r.each r.some).lanes

-- ---- what is out

out-has-lane : (outs : List (Option ℕ)) (number : ℕ) → is_some (lane_with outs number) ≡ true → (lane : ℕ) × (slice_get outs lane ≡ Some (Some number))
out-has-lane outs number e = one (lane_with outs number) refl e
  where
    one : (o : Option ℕ) → lane_with outs number ≡ o → is_some o ≡ true → (lane : ℕ) × (slice_get outs lane ≡ Some (Some number))
    one None is e = absurd (cc)
    one (Some lane) is e = (lane, lane-out outs number lane is)

out-is : (b : Board) (number lane : ℕ) → slice_get b.out lane ≡ Some (Some number) → is_out b number ≡ true
out-is b number lane out = ap (λ (o : Option ℕ). is_some o) (out-lane number b.out (out-there number lane b.out out)).1

pub out-asks : HostsKeepLanes → OutNumbersAsk
out-asks kept config olds notes b number r out =
    let h = lanes-stand kept config olds notes b r in
    let lane = out-has-lane b.out number out in
    let there = out-there number lane.0 b.out lane.1 in
    there-asks b number h (omega (arith, there))

-- ---- what waits

waits-somewhere : (number : ℕ) (queues : List Queue) → 1 ≤ times_waiting number queues
    → (lane : ℕ) × ((queue : Queue) × (slice_get queues lane ≡ Some queue) × (1 ≤ times_in number queue.waiting))
waits-somewhere number [] h = absurd (omega (arith, h))
waits-somewhere number (queue ∷ queues) h = one (times_in number queue.waiting) refl (waits-somewhere number queues)
  where
    one : (n : ℕ) → times_in number queue.waiting ≡ n
        → (1 ≤ times_waiting number queues → (lane : ℕ) × ((q : Queue) × (slice_get queues lane ≡ Some q) × (1 ≤ times_in number q.waiting)))
        → (lane : ℕ) × ((q : Queue) × (slice_get (queue ∷ queues) lane ≡ Some q) × (1 ≤ times_in number q.waiting))
    one zero is find = let rest = find (omega (arith, is, h)) in (suc rest.0, rest.1)
    one (suc n) is find = (0, (queue, refl, omega (arith, is)))

-- an item that asks is out, or waits in the lane of its host
out-or-waits : (b : Board) (number : ℕ) (a : Asker) → LanesStand b → asker_of b number ≡ Some a
    → (is_out b number ≡ true) ⊎ ((lane : ℕ) × WaitsIn b.lanes number lane × (lane_of b.lanes (host_key_of a.ask.uri) ≡ Some lane))
out-or-waits b number a h is = one (times_out number b.out) refl
  where
    count : times_waiting number b.lanes.queues + times_out number b.out ≡ 1
    count = h.once number ∙ ap (λ (o : Option Asker). one_if (is_some o)) is

    one : (n : ℕ) → times_out number b.out ≡ n → (is_out b number ≡ true) ⊎ ((lane : ℕ) × WaitsIn b.lanes number lane × (lane_of b.lanes (host_key_of a.ask.uri) ≡ Some lane))
    one (suc n) e = inl (ap (λ (o : Option ℕ). is_some o) (out-lane number b.out (omega (arith, e))).1)
    one zero e =
        let c = count in
        let waits = waits-somewhere number b.lanes.queues (omega (arith, c, e)) in
        inr (waits.0, waits.1, h.hosts number waits.0 a is (inl waits.1))

-- a lane in which something waits hands it out, or has a job out
hands-out : (b : Board) (lane number : ℕ) → LanesStand b → WaitsIn b.lanes number lane
    → ((m : ℕ) × (first_of b.lanes lane ≡ Some m)) ⊎ ((m : ℕ) × (slice_get b.out lane ≡ Some (Some m)))
hands-out b lane number h (queue, there, some) = one queue.is_out refl queue.waiting refl
  where
    flag : slice_get (flags b.lanes.queues) lane ≡ Some queue.is_out
    flag = mapped b.lanes.queues lane there
      where
        mapped : (queues : List Queue) (n : ℕ) → slice_get queues n ≡ Some queue → slice_get (flags queues) n ≡ Some queue.is_out
        mapped [] n e = absurd (cc)
        mapped (q ∷ queues) zero e = let same : q ≡ queue = cc in ap (λ (x : Queue). Some x.is_out) same
        mapped (q ∷ queues) (suc n) e = mapped queues n e

    out-there-now : (outs : List (Option ℕ)) (n : ℕ) → slice_get (map is_some outs) n ≡ Some true → (m : ℕ) × (slice_get outs n ≡ Some (Some m))
    out-there-now [] n e = absurd (cc)
    out-there-now (None ∷ outs) zero e = absurd (cc)
    out-there-now (Some m ∷ outs) zero e = (m, refl)
    out-there-now (out ∷ outs) (suc n) e = out-there-now outs n e

    one : (c : Bool) → queue.is_out ≡ c → (waiting : List ℕ) → queue.waiting ≡ waiting
        → ((m : ℕ) × (first_of b.lanes lane ≡ Some m)) ⊎ ((m : ℕ) × (slice_get b.out lane ≡ Some (Some m)))
    one true is waiting w = inr (out-there-now b.out lane (ap (λ (fs : List Bool). slice_get fs lane) (sym h.busy) ∙ flag ∙ ap Some is))
    one false is [] w = let none : times_in number queue.waiting ≡ 0 = ap (times_in number) w in absurd (omega (arith, none, some))
    one false is (m ∷ more) w = inl (m, ap (option_and_then first) there ∙ rw is (ap (λ (ns : List ℕ). slice_get ns 0) w))

-- a lane that hands out nothing hands out no job, and the other way round
none-issued : (b : Board) (lane : ℕ) → first_of b.lanes lane ≡ None → issued_job b lane ≡ None
none-issued b lane none = ap (option_and_then (λ number. option_map (λ (a : Asker). job_for number a.ask) (asker_of b number))) none

first-issued : (b : Board) (lane m : ℕ) → LanesStand b → first_of b.lanes lane ≡ Some m → issued_job b lane ≢ None
first-issued b lane m h is none =
    let asker = first-asks b lane m h is in
    let job : issued_job b lane ≡ Some (job_for m (asker.0).ask) =
    ap (option_and_then (λ number. option_map (λ (a : Asker). job_for number a.ask) (asker_of b number))) is ∙ ap (option_map (λ (a : Asker). job_for m a.ask)) asker.1 in
    let both : None ≡ Some (job_for m (asker.0).ask) = sym none ∙ job in
    cc

-- what is first in a lane waits there
first-waits : (b : Board) (lane m : ℕ) → first_of b.lanes lane ≡ Some m → WaitsIn b.lanes m lane × (slice_get (flags b.lanes.queues) lane ≡ Some false)
first-waits b lane m is = one (slice_get b.lanes.queues lane) refl is
  where
    flag : (queue : Queue) (queues : List Queue) (n : ℕ) → slice_get queues n ≡ Some queue → slice_get (flags queues) n ≡ Some queue.is_out
    flag queue [] n e = absurd (cc)
    flag queue (q ∷ queues) zero e = let same : q ≡ queue = cc in ap (λ (x : Queue). Some x.is_out) same
    flag queue (q ∷ queues) (suc n) e = flag queue queues n e

    waited : (c : Bool) (waiting : List ℕ) → (if c then None else slice_get waiting 0) ≡ Some m → (1 ≤ times_in m waiting) × (c ≡ false)
    waited true waiting e = absurd (cc)
    waited false [] e = absurd (cc)
    waited false (n ∷ more) e =
        let same : n ≡ m = cc in
        let own : one_if (nat_eq n m) ≡ 1 = grind (arith, nat_tests, same) in
        (omega (arith, own), refl)

    one : (o : Option Queue) → slice_get b.lanes.queues lane ≡ o → option_and_then first o ≡ Some m → WaitsIn b.lanes m lane × (slice_get (flags b.lanes.queues) lane ≡ Some false)
    one None there e = absurd (cc)
    one (Some queue) there e = let w = waited queue.is_out queue.waiting e in ((queue, there, w.0), flag queue b.lanes.queues lane there ∙ ap Some w.1)

pub none-exactly : HostsKeepLanes → NoneGoesOutExactly
none-exactly kept config olds notes b lane r = (served, back)
  where
    h : LanesStand b
    h = lanes-stand kept config olds notes b r

    all : (number : ℕ) (a : Asker) → issued_job b lane ≡ None → asker_of b number ≡ Some a → lane_of b.lanes (host_key_of a.ask.uri) ≡ Some lane → ((m : ℕ) → slice_get b.out lane ≢ Some (Some m))
        → is_out b number ≡ true
    all number a none asks at free = elim (out-or-waits b number a h asks) [
      | inl out ↦ out
      | inr (l, waits, host) ↦
          let lanes : Some l ≡ Some lane = sym host ∙ at in
          let same : l ≡ lane = cc in
          elim (hands-out b lane number h (subst (WaitsIn b.lanes number) same waits)) [
            | inl (m, first) ↦ absurd (first-issued b lane m h first none)
            | inr (m, out) ↦ absurd (free m out)
          ]
    ]

    served : issued_job b lane ≡ None → IsServedLane b lane
    served none = one (slice_get b.out lane) refl
      where
        one : (o : Option (Option ℕ)) → slice_get b.out lane ≡ o → IsServedLane b lane
        one (Some (Some m)) is = inl (m, is)
        one None is = inr (λ number a asks at. all number a none asks at (λ m e. let both : None ≡ Some (Some m) = sym is ∙ e in cc))
        one (Some None) is = inr (λ number a asks at. all number a none asks at (λ m e. let both : Some None ≡ Some (Some m) = sym is ∙ e in cc))

    back : IsServedLane b lane → issued_job b lane ≡ None
    back s = one (first_of b.lanes lane) refl s
      where
        busy-lane : (outs : List (Option ℕ)) (n m : ℕ) → slice_get outs n ≡ Some (Some m) → slice_get (map is_some outs) n ≡ Some true
        busy-lane [] n m e = absurd (cc)
        busy-lane (out ∷ outs) zero m e = let same : out ≡ Some m = cc in ap (λ (o : Option ℕ). Some (is_some o)) same
        busy-lane (out ∷ outs) (suc n) m e = busy-lane outs n m e

        one : (o : Option ℕ) → first_of b.lanes lane ≡ o → IsServedLane b lane → issued_job b lane ≡ None
        one None first s = none-issued b lane first
        one (Some m) first (inl (k, out)) =
            let flag = (first-waits b lane m first).1 in
            let busy : slice_get (flags b.lanes.queues) lane ≡ Some true = ap (λ (fs : List Bool). slice_get fs lane) h.busy ∙ busy-lane b.out lane k out in
            let both : Some false ≡ Some true = sym flag ∙ busy in
            absurd (cc)
        one (Some m) first (inr all) =
            let waits = (first-waits b lane m first).0 in
            let alone = waits-alone b m lane h waits in
            let asker = alone.1 in
            let out = all m asker.0 asker.1 (h.hosts m lane asker.0 asker.1 (inl waits)) in
            let from = out-has-lane b.out m out in
            let there = out-there m from.0 b.out from.1 in
            let none = alone.0 in
            absurd (omega (arith, there, none))

pub idle-boards : HostsKeepLanes → BoardsWithoutJobsAskNothing
idle-boards kept config olds notes b r none free number = one (asker_of b number) refl
  where
    h : LanesStand b
    h = lanes-stand kept config olds notes b r

    not-out : (m : ℕ) → is_out b m ≢ true
    not-out m e = let both : false ≡ true = sym (free m) ∙ e in cc

    one : (o : Option Asker) → asker_of b number ≡ o → asker_of b number ≡ None
    one None is = is
    one (Some a) is = elim (out-or-waits b number a h is) [
      | inl out ↦ absurd (not-out number out)
      | inr (lane, waits, host) ↦ elim (hands-out b lane number h waits) [
        | inl (m, first) ↦ absurd (first-issued b lane m h first (none lane))
        | inr (m, out) ↦ absurd (not-out m (out-is b m lane out))
      ]
    ]

-- ---- a board on which nothing is asked

none-ready : (slots : List Slot) → first_ready slots ≡ None → (n : ℕ) (slot : Slot) → slice_get slots n ≡ Some slot → is_ready slot ≡ false
none-ready [] e n slot there = absurd (cc)
none-ready (s ∷ slots) e n slot there = one (is_ready s) refl n there (none-ready slots)
  where
    one : (c : Bool) → is_ready s ≡ c → (n : ℕ) → slice_get (s ∷ slots) n ≡ Some slot
        → (first_ready slots ≡ None → (k : ℕ) (t : Slot) → slice_get slots k ≡ Some t → is_ready t ≡ false) → is_ready slot ≡ false
    one true is n there rest = let some : Some 0 ≡ None = rw is at e in absurd (cc)
    one false is zero there rest = let same : s ≡ slot = cc in ap is_ready (sym same) ∙ is
    one false is (suc n) there rest = rest (later (first_ready slots) (rw is at e)) n slot there
      where
        later : (o : Option ℕ) → option_map (λ k. k + 1) o ≡ None → o ≡ None
        later None e = refl
        later (Some k) e = absurd (cc)

ended-all : (lists : List (Option Standing)) → ((k : ℕ) → ask_of (joined (slice_get lists k)) ≡ None) → list_all has_ended lists ≡ true
ended-all [] h = refl
ended-all (list ∷ lists) h =
    let here : has_ended list ≡ true = ap (λ (o : Option Ask). is_none o) (h 0) in
    rw here (ended-all lists (λ k. h (suc k)))

-- a source none of whose items asks is ready or settled
quiet-slot : (slot : Slot) → KeepsAsking slot → ((place : ℕ) → ask_of (item_in slot place) ≡ None) → is_ready slot ≡ false → slot ≡ SettledSlot
quiet-slot (Asking old release) keeps quiet ready = absurd (keeps (quiet 0))
quiet-slot (Listing set there lists) keeps quiet ready =
    let ended : list_all has_ended lists ≡ true = ended-all lists (λ k. quiet (suc k)) in
    let both : true ≡ false = sym ended ∙ ready in
    absurd (cc)
quiet-slot (Refused why) keeps quiet ready = absurd (cc)
quiet-slot SettledSlot keeps quiet ready = refl

no-ask : (f : Ask → Asker) (o : Option Ask) → option_map f o ≡ None → o ≡ None
no-ask f None e = refl
no-ask f (Some ask) e = absurd (cc)

-- no item asks at a place
quiet-place : (b : Board) (n place : ℕ) (source : Source) (slot : Slot) → NoneAsks b → slice_get b.config.sources n ≡ Some source → slice_get b.slots n ≡ Some slot → place ≤ length source.targets
    → ask_of (item_in slot place) ≡ None
quiet-place b n place source slot none there is few =
    let key : Key = record { source = n; place = place } in
    let number = base b.config.sources n + place in
    let at : key_at b.config.sources number ≡ Some key = key-there b.config.sources 0 n place source there few ∙ ap (λ (k : ℕ). Some (record { source = k; place = place })) (omega arith) in
    let asks : option_map (λ ask. record { key = key; source = source; ask = ask }) (ask_of (item_at b.slots key)) ≡ None = sym (asker-by b number key source at there) ∙ none number in
    ap (λ (s : Option Slot). ask_of (option_and_then (λ slot. item_in slot place) s)) (sym is) ∙ no-ask (λ ask. record { key = key; source = source; ask = ask }) (ask_of (item_at b.slots key)) asks

past-none : (source : Source) (k : ℕ) → (suc k ≤ length source.targets → ⊥) → slice_get source.targets k ≡ None
past-none source k past = one source.targets k past
  where
    one : {A : Type 0} (xs : List A) (k : ℕ) → (suc k ≤ length xs → ⊥) → slice_get xs k ≡ None
    one [] k past = refl
    one (x ∷ xs) zero past = absurd (past (omega arith))
    one (x ∷ xs) (suc k) past = one xs k (λ few. past (omega (arith, few)))

-- behind the targets of a source there is no item
past-item : (config : Setup) (n : ℕ) (source : Source) (old : Old) (slot : Slot) (verdict : Verdict2) (history : History) (k : ℕ) → SourceStands config n source old slot verdict history
    → slice_get source.targets k ≡ None → item_in slot (suc k) ≡ None
past-item config n source old (Asking kept release) verdict history k h none = refl
past-item config n source old (Listing set there lists) verdict history k (inl h) none = lists-none config n source old set.release 1 source.targets lists history h.2 k none
past-item config n source old (Listing set there lists) verdict history k (inr h) none = let same = h.0 in absurd (cc)
past-item config n source old (Refused why) verdict history k h none = refl
past-item config n source old SettledSlot verdict history k h none = refl

each-slot : (slots : List Slot) (P : Slot → Type 0) → ((n : ℕ) (slot : Slot) → slice_get slots n ≡ Some slot → P slot) → Each P slots
each-slot [] P h = tt
each-slot (slot ∷ slots) P h = (h 0 slot refl, each-slot slots P (λ n s e. h (suc n) s e))

each-at : (slots : List Slot) (P : Slot → Type 0) (n : ℕ) (slot : Slot) → Each P slots → slice_get slots n ≡ Some slot → P slot
each-at [] P n slot h e = absurd (cc)
each-at (s ∷ slots) P zero slot h e = let same : s ≡ slot = cc in subst P same h.0
each-at (s ∷ slots) P (suc n) slot h e = each-at slots P n slot h.1 e

pub quiet-boards : QuietBoardsAreReady
quiet-boards config olds notes b r none ready = each-slot b.slots (λ slot. slot ≡ SettledSlot) one
  where
    well : GoesWell b
    well = subst (λ (w : BoardRun). GoesWell w.board) r.leads (boards-go-well config olds r.lanes r.events)

    one : (n : ℕ) (slot : Slot) → slice_get b.slots n ≡ Some slot → slot ≡ SettledSlot
    one n slot is =
        let stand = reached-stands config olds notes b r in
        let source = well.sources n slot is in
        let there : slice_get config.sources n ≡ Some source.0 = ap (λ (c : Setup). slice_get c.sources n) (sym stand.config_is) ∙ source.1 in
        let old = olds-there config.sources olds n source.0 r.each there in
        let at : StandsAt config n source.0 old.0 (record { board = b; jobs = r.jobs; queue = []; notes = notes }) = stand.sources n source.0 old.0 there old.1 in
        let both : Some at.slot ≡ Some slot = sym at.slot_is ∙ is in
        let same : at.slot ≡ slot = cc in
        let stands : SourceStands config n source.0 old.0 slot at.verdict (history_of n notes) = subst (λ (s : Slot). SourceStands config n source.0 old.0 s at.verdict (history_of n notes)) same at.stands in
        quiet-slot slot (each-at b.slots KeepsAsking n slot well.asking is) (places source.0 old.0 at.verdict source.1 stands) (none-ready b.slots ready n slot is)
      where
        places : (source : Source) (old : Old) (verdict : Verdict2) → slice_get b.config.sources n ≡ Some source → SourceStands config n source old slot verdict (history_of n notes) → (place : ℕ) → ask_of (item_in slot place) ≡ None
        places source old verdict there stands zero = quiet-place b n 0 source slot none there is (omega arith)
        places source old verdict there stands (suc k) = elim (cases_Bool (nat_lt k (length source.targets))) [
          | inl within ↦ quiet-place b n (suc k) source slot none there is (grind (arith, nat_tests, within))
          | inr past ↦ ap ask_of (past-item config n source old slot verdict (history_of n notes) k stands (past-none source k (λ few. grind (arith, nat_tests, past, few))))
        ]
