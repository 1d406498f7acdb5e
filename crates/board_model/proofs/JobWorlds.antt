-- Over every list of events, the jobs stand.
use Rattle.std.proofs.Common.{◌≡◌, ◌≢◌, ◌≤◌, ◌∙◌, ◌⊎◌, inl, inr, ℕ, zero, suc, nat_eq, Bool, true, false, List, [], ◌∷◌, ◌++◌, length, Option, Some, None, refl, sym, ap, subst, arith}
use Rattle.std.specs.Prelude.{◌||◌, if◌then◌else◌, is_some, option_map, option_and_then, replicate, slice_get}
use Rattle.std.specs.List.{list_any, AllByRecursion as Each}
use Rattle.std.proofs.lemmas.Bool.{cases_Bool}
use Rattle.std.proofs.lemmas.Bool.Decides.{nat_tests}
use Rattle.acq_base.specs.declared.fetch.Job.{Job}
use Rattle.acq_base.specs.declared.installed.Old.{Old}
use Rattle.host_queues.specs.Lanes.{changed_at, first_of}
use Rattle.host_queues.specs.Laws.{HostsKeepLanes}
use Rattle.host_queues.proofs.Changes.{get-changed}
use Rattle.update_model.specs.declared.ask.Closed.{Closed}
use Rattle.update_model.specs.declared.settled.Settled.{Settled}
use Rattle.board_model.specs.Boards.{Asker, Board, asker_of, first_ready, is_out, issued, issued_job, job_for, lane_with, put_out, settled_as, settled_of, took, took_from}
use Rattle.board_model.specs.CallLaws.{JobsAlwaysStand}
use Rattle.board_model.specs.Jobs.{AreAnsweredOnce, job_out, one_if, times_out}
use Rattle.board_model.specs.Runs.{Answered, Event, Issue, Answer, Absorb, Settle, BoardRun, answered, happens, note_of, noted, run, sent_job, settle_as, settle_first, start, take_first, lane_answer_of, without_job}
use Rattle.board_model.specs.Slots.{Setup, joined}
use Rattle.board_model.proofs.Counting.{out-cleared, out-lane, out-put, out-there}
use Rattle.board_model.proofs.JobRuns.{LanesStand, first-asks, free-lane, issued-stands, out-alone, took-same, took-stands}
use Rattle.board_model.proofs.JobStart.{first-stands, settled-asks, settled-stands}
use Rattle.board_model.proofs.Askers.{asker-asks}
use Rattle.board_model.proofs.Reaching.{AreNumbers, event-numbers, lane-out, numbers-changed, numbers_of, start-numbers}

-- what is out, and what was answered, is what its item asks
pub record Stands (w : BoardRun) : Type 0 where
  pub lanes : LanesStand w.board
  pub numbers : AreNumbers w
  pub asked : (lane : ℕ) (job : Job) → slice_get w.jobs lane ≡ Some (Some job) → job_out w.board job.no ≡ Some job
  pub told : Each (λ (a : Answered). job_out w.board a.job.no ≡ Some a.job) w.queue
  pub told_once : AreAnsweredOnce w.queue

-- ---- what is out

out-from : (b : Board) (number lane : ℕ) → slice_get b.out lane ≡ Some (Some number) → is_out b number ≡ true
out-from b number lane out =
    let found = out-lane number b.out (out-there number lane b.out out) in
    ap (λ (o : Option ℕ). is_some o) found.1

is-out-lane : (outs : List (Option ℕ)) (number : ℕ) → is_some (lane_with outs number) ≡ true → (lane : ℕ) × (lane_with outs number ≡ Some lane)
is-out-lane outs number e = one (lane_with outs number) refl e
  where
    one : (o : Option ℕ) → lane_with outs number ≡ o → is_some o ≡ true → (lane : ℕ) × (lane_with outs number ≡ Some lane)
    one None is e = absurd (cc)
    one (Some lane) is e = (lane, is)

-- the job of a number that is out and asks
pub job-of : (b : Board) (number : ℕ) (a : Asker) → is_out b number ≡ true → asker_of b number ≡ Some a → job_out b number ≡ Some (job_for number a.ask)
job-of b number a out is = rw out (ap (option_map (λ (x : Asker). job_for number x.ask)) is)

-- and back
record IsJob (b : Board) (number : ℕ) (job : Job) : Type 0 where
  asker : Asker
  out : is_out b number ≡ true
  is : asker_of b number ≡ Some asker
  job_is : job_for number asker.ask ≡ job

job-is : (b : Board) (number : ℕ) (job : Job) → job_out b number ≡ Some job → IsJob b number job
job-is b number job e = elim (cases_Bool (is_out b number)) [
  | inl out ↦ one (asker_of b number) refl out (rw out at e)
  | inr out ↦ let none : None ≡ Some job = rw out at e in absurd (cc)
]
  where
    one : (o : Option Asker) → asker_of b number ≡ o → is_out b number ≡ true → option_map (λ (a : Asker). job_for number a.ask) o ≡ Some job → IsJob b number job
    one None is out e = absurd (cc)
    one (Some a) is out e = record { asker = a; out = out; is = is; job_is = cc }

-- a job that is out stays the same where its number stays out and asks the same
kept-job : (b b' : Board) (number : ℕ) (job : Job) → job_out b number ≡ Some job → (is_out b number ≡ true → is_out b' number ≡ true)
    → ((a : Asker) → asker_of b number ≡ Some a → asker_of b' number ≡ Some a) → job_out b' number ≡ Some job
kept-job b b' number job e out asks =
    let is = job-is b number job e in
    job-of b' number is.asker (out is.out) (asks is.asker is.is) ∙ ap Some is.job_is

each-kept : (b b' : Board) (queue : List Answered) → ((a : Answered) → job_out b a.job.no ≡ Some a.job → job_out b' a.job.no ≡ Some a.job)
    → Each (λ (a : Answered). job_out b a.job.no ≡ Some a.job) queue → Each (λ (a : Answered). job_out b' a.job.no ≡ Some a.job) queue
each-kept b b' [] kept h = tt
each-kept b b' (a ∷ queue) kept h = (kept a h.0, each-kept b b' queue kept h.1)

-- ---- a job goes out

-- what was out stays out
put-out-still : (lane : ℕ) (number m : ℕ) (outs : List (Option ℕ)) → slice_get outs lane ≡ Some None → is_some (lane_with outs m) ≡ true → is_some (lane_with (changed_at lane (λ o. Some number) outs) m) ≡ true
put-out-still lane number m outs free out =
    let from = is-out-lane outs m out in
    let there = out-there m from.0 outs (lane-out outs m from.0 from.1) in
    let put = out-put m number lane outs free in
    let found = out-lane m (changed_at lane (λ o. Some number) outs) (omega (arith, there, put)) in
    ap (λ (o : Option ℕ). is_some o) found.1

-- the lane of a job that was sent
sent-jobs : (lane other : ℕ) (new job : Job) (jobs : List (Option Job)) → slice_get (changed_at lane (λ o. Some new) jobs) other ≡ Some (Some job)
    → (new ≡ job) ⊎ (slice_get jobs other ≡ Some (Some job))
sent-jobs lane other new job [] e = absurd (cc)
sent-jobs zero zero new job (x ∷ jobs) e = inl cc
sent-jobs zero (suc other) new job (x ∷ jobs) e = inr e
sent-jobs (suc lane) zero new job (x ∷ jobs) e = inr e
sent-jobs (suc lane) (suc other) new job (x ∷ jobs) e = sent-jobs lane other new job jobs e

-- the lane from which it goes out is free
record GoesOut (b : Board) (lane number : ℕ) (a : Asker) : Type 0 where
  is : first_of b.lanes lane ≡ Some number
  asks : asker_of b number ≡ Some a
  job : issued_job b lane ≡ Some (job_for number a.ask)
  free : slice_get b.out lane ≡ Some None

sent-stands : HostsKeepLanes → (w : BoardRun) (lane number : ℕ) (a : Asker) → Stands w → GoesOut w.board lane number a
    → Stands (record w { board = issued w.board lane; jobs = sent_job lane (issued_job w.board lane) w.jobs })
sent-stands kept w lane number a h goes =
    let b = w.board in
    let b' : Board = issued b lane in
    let out : b'.out ≡ changed_at lane (λ o. Some number) b.out = ap (λ (j : Option Job). put_out lane j b.out) goes.job in
    let still : (m : ℕ) → is_out b m ≡ true → is_out b' m ≡ true = λ m e. subst (λ (outs : List (Option ℕ)). is_some (lane_with outs m) ≡ true) (sym out) (put-out-still lane number m b.out goes.free e) in
    let here : slice_get b'.out lane ≡ Some (Some number) =
    ap (λ (outs : List (Option ℕ)). slice_get outs lane) out ∙ get-changed (λ (o : Option ℕ). Some number) b.out lane ∙ ap (option_map (λ (o : Option ℕ). Some number)) goes.free in
    let new : job_out b' number ≡ Some (job_for number a.ask) = job-of b' number a (out-from b' number lane here) goes.asks in
    record {
      lanes = issued-stands kept b lane h.lanes;
      numbers = event-numbers w (Issue lane) h.numbers;
      asked = λ other j there.
          elim (sent-jobs lane other (job_for number a.ask) j w.jobs (subst (λ (o : Option Job). slice_get (sent_job lane o w.jobs) other ≡ Some (Some j)) goes.job there)) [
            | inl same ↦ subst (λ (x : Job). job_out b' x.no ≡ Some x) same new
            | inr old ↦ kept-job b b' j.no j (h.asked other j old) (still j.no) (λ x e. e)
          ];
      told = each-kept b b' w.queue (λ x e. kept-job b b' x.job.no x.job e (still x.job.no) (λ y e. e)) h.told;
      told_once = h.told_once;
    }

-- nothing goes out
none-sent : HostsKeepLanes → (w : BoardRun) (lane : ℕ) → Stands w → issued_job w.board lane ≡ None
    → Stands (record w { board = issued w.board lane; jobs = sent_job lane (issued_job w.board lane) w.jobs })
none-sent kept w lane h none =
    let b = w.board in
    let b' : Board = issued b lane in
    let out : b'.out ≡ b.out = ap (λ (j : Option Job). put_out lane j b.out) none in
    let still : (m : ℕ) → is_out b m ≡ true → is_out b' m ≡ true = λ m e. subst (λ (outs : List (Option ℕ)). is_some (lane_with outs m) ≡ true) (sym out) e in
    record {
      lanes = issued-stands kept b lane h.lanes;
      numbers = event-numbers w (Issue lane) h.numbers;
      asked = λ other j there. kept-job b b' j.no j (h.asked other j (subst (λ (o : Option Job). slice_get (sent_job lane o w.jobs) other ≡ Some (Some j)) none there)) (still j.no) (λ x e. e);
      told = each-kept b b' w.queue (λ x e. kept-job b b' x.job.no x.job e (still x.job.no) (λ y e. e)) h.told;
      told_once = h.told_once;
    }

issue-stands : HostsKeepLanes → (w : BoardRun) (lane : ℕ) → Stands w → Stands (happens w (Issue lane))
issue-stands kept w lane h = one (first_of w.board.lanes lane) refl
  where
    one : (o : Option ℕ) → first_of w.board.lanes lane ≡ o → Stands (happens w (Issue lane))
    one None none = none-sent kept w lane h (ap (option_and_then (λ number. option_map (λ (a : Asker). job_for number a.ask) (asker_of w.board number))) none)
    one (Some number) is =
        let asker = first-asks w.board lane number h.lanes is in
        let job : issued_job w.board lane ≡ Some (job_for number (asker.0).ask) =
        ap (option_and_then (λ number. option_map (λ (a : Asker). job_for number a.ask) (asker_of w.board number))) is ∙ ap (option_map (λ (a : Asker). job_for number a.ask)) asker.1 in
        sent-stands kept w lane number asker.0 h (record { is = is; asks = asker.1; job = job; free = free-lane w.board lane number h.lanes is })

-- ---- an answer comes

or-first : (a b : Bool) → (a || b) ≡ false → a ≡ false
or-first true b e = absurd (cc)
or-first false b e = refl

or-rest : (a b : Bool) → (a || b) ≡ false → b ≡ false
or-rest true b e = absurd (cc)
or-rest false b e = e

not-same : (number m : ℕ) → m ≢ number → nat_eq number m ≡ false
not-same number m differs = elim (cases_Bool (nat_eq number m)) [
  | inr isnt ↦ isnt
  | inl is ↦ absurd (differs (grind (arith, nat_tests, is)))
]

told-append : (b : Board) (queue : List Answered) (x : Answered) → Each (λ (a : Answered). job_out b a.job.no ≡ Some a.job) queue → job_out b x.job.no ≡ Some x.job
    → Each (λ (a : Answered). job_out b a.job.no ≡ Some a.job) (queue ++ x ∷ [])
told-append b [] x h new = (new, tt)
told-append b (a ∷ queue) x h new = (h.0, told-append b queue x h.1 new)

each-append : (queue : List Answered) (x : Answered) (P : Answered → Type 0) → Each P queue → P x → Each P (queue ++ x ∷ [])
each-append [] x P h new = (new, tt)
each-append (a ∷ queue) x P h new = (h.0, each-append queue x P h.1 new)

once-append : (queue : List Answered) (x : Answered) → AreAnsweredOnce queue → list_any (λ (a : Answered). nat_eq a.job.no x.job.no) queue ≡ false → AreAnsweredOnce (queue ++ x ∷ [])
once-append [] x h new = (tt, tt)
once-append (a ∷ queue) x h new =
    let first : nat_eq a.job.no x.job.no ≡ false = or-first (nat_eq a.job.no x.job.no) (list_any (λ (y : Answered). nat_eq y.job.no x.job.no) queue) new in
    let rest : list_any (λ (y : Answered). nat_eq y.job.no x.job.no) queue ≡ false = or-rest (nat_eq a.job.no x.job.no) (list_any (λ (y : Answered). nat_eq y.job.no x.job.no) queue) new in
    (each-append queue x (λ (y : Answered). y.job.no ≢ a.job.no) h.0 (λ same. grind (arith, nat_tests, first, same)), once-append queue x h.1 rest)

joined-some : (o : Option (Option Job)) (job : Job) → joined o ≡ Some job → o ≡ Some (Some job)
joined-some None job e = absurd (cc)
joined-some (Some o) job e = ap Some e

answered-stands : (w : BoardRun) (method : ℕ) (closed : Closed) (lane : ℕ) → Stands w → (o : Option Job) → joined (slice_get w.jobs lane) ≡ o → Stands (answered w method closed o)
answered-stands w method closed lane h None e = h
answered-stands w method closed lane h (Some job) e = one (list_any (λ (a : Answered). nat_eq a.job.no job.no) w.queue) refl
  where
    one : (c : Bool) → list_any (λ (a : Answered). nat_eq a.job.no job.no) w.queue ≡ c
        → Stands (if c then w else record w { queue = w.queue ++ (record { job = job; lane = method; closed = closed }) ∷ [] })
    one true is = h
    one false is =
        let new : Answered = record { job = job; lane = method; closed = closed } in
        record {
          lanes = h.lanes;
          numbers = h.numbers;
          asked = h.asked;
          told = told-append w.board w.queue new h.told (h.asked lane job (joined-some (slice_get w.jobs lane) job e));
          told_once = once-append w.queue new h.told_once is;
        }

-- ---- an answer is taken in

cleared-jobs : (from other : ℕ) (job : Job) (jobs : List (Option Job)) → slice_get (changed_at from (λ o. None) jobs) other ≡ Some (Some job)
    → (nat_eq other from ≡ false) × (slice_get jobs other ≡ Some (Some job))
cleared-jobs from other job [] e = absurd (cc)
cleared-jobs zero zero job (x ∷ jobs) e = absurd (cc)
cleared-jobs zero (suc other) job (x ∷ jobs) e = (grind (arith, nat_tests), e)
cleared-jobs (suc from) zero job (x ∷ jobs) e = (grind (arith, nat_tests), e)
cleared-jobs (suc from) (suc other) job (x ∷ jobs) e = let rest = cleared-jobs from other job jobs e in let apart = rest.0 in (grind (arith, nat_tests, apart), rest.1)

number-there : (jobs : List (Option Job)) (lane : ℕ) (job : Job) → slice_get jobs lane ≡ Some (Some job) → slice_get (numbers_of jobs) lane ≡ Some (Some job.no)
number-there [] lane job e = absurd (cc)
number-there (x ∷ jobs) zero job e = let same : x ≡ Some job = cc in ap (λ (o : Option Job). Some (option_map (λ (j : Job). j.no) o)) same
number-there (x ∷ jobs) (suc lane) job e = number-there jobs lane job e

kept-told : (queue : List Answered) (b b' : Board) (number : ℕ) → ((m : ℕ) (job : Job) → nat_eq number m ≡ false → job_out b m ≡ Some job → job_out b' m ≡ Some job)
    → Each (λ (a : Answered). a.job.no ≢ number) queue → Each (λ (a : Answered). job_out b a.job.no ≡ Some a.job) queue → Each (λ (a : Answered). job_out b' a.job.no ≡ Some a.job) queue
kept-told [] b b' number kept apart h = tt
kept-told (a ∷ queue) b b' number kept apart h =
    let other : a.job.no ≢ number = apart.0 in
    (kept a.job.no a.job (not-same number a.job.no other) h.0, kept-told queue b b' number kept apart.1 h.1)

taken-in : HostsKeepLanes → (w : BoardRun) (queue : List Answered) (x : Answered) (from : ℕ) (a : Asker) → Stands w → w.queue ≡ x ∷ queue
    → lane_with w.board.out x.job.no ≡ Some from → asker_of w.board x.job.no ≡ Some a
    → Stands (record { board = took w.board x.job.no a from (lane_answer_of x); jobs = changed_at from (λ o. None) w.jobs; queue = queue; notes = w.notes ++ note_of a (lane_answer_of x) ∷ [] })
taken-in kept w queue x from a h waits out is =
    let b = w.board in
    let number = x.job.no in
    let b' : Board = took b number a from (lane_answer_of x) in
    let there = lane-out b.out number from out in
    let asks = asker-asks b number a is in
    let keeps : (m : ℕ) (job : Job) → nat_eq number m ≡ false → job_out b m ≡ Some job → job_out b' m ≡ Some job =
    λ m job apart e. kept-job b b' m job e
    (λ still. let lane = is-out-lane b.out m still in
    let was = out-there m lane.0 b.out (lane-out b.out m lane.0 lane.1) in
    let cleared = out-cleared m number from b.out there in
    let none : one_if (nat_eq number m) ≡ 0 = ap one_if apart in
    let found = out-lane m (changed_at from (λ o. None) b.out) (omega (arith, was, cleared, none)) in
    ap (λ (o : Option ℕ). is_some o) found.1)
    (λ y e. took-same b number from m a (lane_answer_of x) asks y e apart) in
    let first : Each (λ (y : Answered). job_out b y.job.no ≡ Some y.job) (x ∷ queue) = subst (λ (q : List Answered). Each (λ (y : Answered). job_out b y.job.no ≡ Some y.job) q) waits h.told in
    let once : AreAnsweredOnce (x ∷ queue) = subst AreAnsweredOnce waits h.told_once in
    let numbers : changed_at from (λ o. None) b.out ≡ numbers_of (changed_at from (λ o. None) w.jobs) = ap (changed_at from (λ o. None)) h.numbers ∙ sym (numbers-changed from None w.jobs) in
    record {
      lanes = took-stands kept b number from a (lane_answer_of x) is h.lanes there;
      numbers = numbers;
      asked = λ lane job e.
          let before = cleared-jobs from lane job w.jobs e in
          let now : slice_get (changed_at from (λ o. None) b.out) lane ≡ Some (Some job.no) = ap (λ (outs : List (Option ℕ)). slice_get outs lane) numbers ∙ number-there (changed_at from (λ o. None) w.jobs) lane job e in
          let apart : nat_eq number job.no ≡ false = elim (cases_Bool (nat_eq number job.no)) [
            | inr isnt ↦ isnt
            | inl itself ↦
                let one = out-there job.no lane (changed_at from (λ o. None) b.out) now in
                let cleared = out-cleared job.no number from b.out there in
                let own : one_if (nat_eq number job.no) ≡ 1 = ap one_if itself in
                let same : number ≡ job.no = grind (arith, nat_tests, itself) in
                let alone : times_out job.no b.out ≡ 1 = ap (λ (k : ℕ). times_out k b.out) (sym same) ∙ (out-alone b number from h.lanes there).1 in
                absurd (omega (arith, one, cleared, own, alone))
          ] in
          keeps job.no job apart (h.asked lane job before.1);
      told = kept-told queue b b' number keeps once.0 first.1;
      told_once = once.1;
    }

absorb-stands : HostsKeepLanes → (w : BoardRun) (queue : List Answered) → Stands w → w.queue ≡ queue → Stands (take_first w queue)
absorb-stands kept w [] h is = h
absorb-stands kept w (x ∷ queue) h waits = one (lane_with w.board.out x.job.no) (asker_of w.board x.job.no) refl refl
  where
    rest : AreAnsweredOnce (x ∷ queue)
    rest = subst AreAnsweredOnce waits h.told_once

    told : Each (λ (y : Answered). job_out w.board y.job.no ≡ Some y.job) (x ∷ queue)
    told = subst (λ (q : List Answered). Each (λ (y : Answered). job_out w.board y.job.no ≡ Some y.job) q) waits h.told

    one : (from : Option ℕ) (asker : Option Asker) → lane_with w.board.out x.job.no ≡ from → asker_of w.board x.job.no ≡ asker
        → Stands (record { board = took_from w.board x.job.no (lane_answer_of x) from asker; jobs = without_job from asker w.jobs; queue = queue; notes = w.notes ++ noted (lane_answer_of x) from asker })
    one None asker f e = record { lanes = h.lanes; numbers = h.numbers; asked = h.asked; told = told.1; told_once = rest.1 }
    one (Some from) None f e = record { lanes = h.lanes; numbers = h.numbers; asked = h.asked; told = told.1; told_once = rest.1 }
    one (Some from) (Some a) f e = taken-in kept w queue x from a h waits f e

-- ---- a source is settled

settle-stands : (w : BoardRun) → Stands w → Stands (happens w Settle)
settle-stands w h = one (first_ready w.board.slots) refl
  where
    three : (n : ℕ) (settled : Settled) → first_ready w.board.slots ≡ Some n → Stands (settle_as w n (Some settled))
    three n settled ready =
        let b' : Board = settled_as w.board n settled.verdict in
        record {
          lanes = settled-stands w.board n settled.verdict ready h.lanes;
          numbers = h.numbers;
          asked = λ lane job e. kept-job w.board b' job.no job (h.asked lane job e) (λ out. out) (λ a asks. settled-asks w.board n job.no settled.verdict ready ∙ asks);
          told = each-kept w.board b' w.queue (λ x e. kept-job w.board b' x.job.no x.job e (λ out. out) (λ a asks. settled-asks w.board n x.job.no settled.verdict ready ∙ asks)) h.told;
          told_once = h.told_once;
        }

    two : (n : ℕ) (settled : Option Settled) → first_ready w.board.slots ≡ Some n → Stands (settle_as w n settled)
    two n None ready = h
    two n (Some settled) ready = three n settled ready

    one : (first : Option ℕ) → first_ready w.board.slots ≡ first → Stands (settle_first w first)
    one None ready = h
    one (Some n) ready = two n (settled_of w.board n) ready

-- ---- all events

event-stands : HostsKeepLanes → (w : BoardRun) (event : Event) → Stands w → Stands (happens w event)
event-stands kept w (Issue lane) h = issue-stands kept w lane h
event-stands kept w (Answer lane method closed) h = answered-stands w method closed lane h (joined (slice_get w.jobs lane)) refl
event-stands kept w Absorb h = absorb-stands kept w w.queue h refl
event-stands kept w Settle h = settle-stands w h

run-stands : HostsKeepLanes → (events : List Event) (w : BoardRun) → Stands w → Stands (run events w)
run-stands kept [] w h = h
run-stands kept (event ∷ events) w h = run-stands kept events (happens w event) (event-stands kept w event h)

no-jobs : (lanes lane : ℕ) (job : Job) → slice_get (replicate {A = Option Job} lanes None) lane ≡ Some (Some job) → ⊥
no-jobs zero lane job e = absurd (cc)
no-jobs (suc lanes) zero job e = absurd (cc)
no-jobs (suc lanes) (suc lane) job e = no-jobs lanes lane job e

pub world-stands : HostsKeepLanes → (config : Setup) (olds : List Old) (lanes : ℕ) (events : List Event) → length olds ≡ length config.sources → 1 ≤ lanes
    → Stands (run events (start config olds lanes))
world-stands kept config olds lanes events each some =
    run-stands kept events (start config olds lanes) (record {
      lanes = first-stands kept config olds lanes each some;
      numbers = start-numbers config olds lanes;
      asked = λ lane job e. absurd (no-jobs lanes lane job e);
      told = tt;
      told_once = tt;
    })

pub jobs-stand : HostsKeepLanes → JobsAlwaysStand
jobs-stand kept config olds lanes events each some =
    let h = world-stands kept config olds lanes events each some in
    record { once = h.lanes.once; hosts = h.lanes.hosts; busy = h.lanes.busy; numbers = h.numbers; asked = h.asked; told = h.told; told_once = h.told_once }
