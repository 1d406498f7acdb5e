-- One job: which item asks it, where its file goes, and what its answer is to that item.
use Rattle.std.proofs.Common.{◌≡◌, ℕ, zero, suc, ◌==◌, Bool, true, false, List, [], ◌∷◌, Option, Some, None, refl, sym, ap, subst, arith}
use Rattle.std.specs.Prelude.{option_map, option_and_then, slice_get, map}
use Rattle.acq_base.specs.Mirror.{MirrorMap, answer_at}
use Rattle.acq_base.specs.Plan.{IsPlanned, names_of}
use Rattle.acq_base.specs.declared.fetch.Job.{Job}
use Rattle.acq_base.specs.declared.installed.Old.{Old}
use Rattle.std.proofs.lemmas.Bool.Decides.{nat_tests}
use Rattle.acq_base.specs.declared.plan.Source.{Source}
use Rattle.acq_base.specs.declared.plan.Target.{Target}
use Rattle.acq_base.specs.declared.uri.Uri.{Uri}
use Rattle.acq_base.specs.declared.uri.ListName.{ListName}
use Rattle.acq_outside.specs.Crash.{State}
use Rattle.host_queues.specs.Lanes.{first_of}
use Rattle.board_bounds.specs.Fetching.{AsksMayBeFetched, MayBeFetched}
use Rattle.board_bounds.specs.Names.{PlannedNamesArePutNames}
use Rattle.board_model.specs.Boards.{Asker, Board, absorbed, asker_of, issued, issued_job, job_for, lane_with, name_staged, took}
use Rattle.board_model.specs.CallLaws.{AbsorbedBoardsWantParts}
use Rattle.board_model.specs.Keys.{name_at}
use Rattle.board_model.specs.Laws.{BoardsStand}
use Rattle.board_model.specs.NameLaws.{AreNamedApart, StagedAsksAreWanted}
use Rattle.board_model.specs.Reached.{AbsorbedBoardsAreReached, IssuedBoardsAreReached, Reached}
use Rattle.board_model.specs.Runs.{Note}
use Rattle.board_model.specs.Slots.{Setup}
use Rattle.board_model.specs.Uses.{IsServedAs, wanted_part, use_from}
use Rattle.journal_model.specs.Names.{IsPutName}
use Rattle.update_model.specs.Trails.{IsFaultOr, answered}
use Rattle.update_model.specs.declared.ask.Ask.{Ask}
use Rattle.update_model.specs.declared.ask.Body.TheVariants as bodies
use Rattle.update_model.specs.declared.ask.Closed.{Closed}
use Rattle.acq_base.specs.declared.fetch.NotServed.TheVariants as nots
use Rattle.update_model.specs.declared.ask.Closed.TheVariants as closings
use Rattle.board_model.proofs.Askers.{asker-asks}
use Rattle.board_bounds.proofs.Walking.{at_all}
use Rattle.run_jobs.specs.Fetching.{ComesTo}
use Rattle.run_jobs.specs.Running.{RunStart, IsSoundBegun}
use Rattle.run_jobs.proofs.Lists.{ListLaws}
use Rattle.run_jobs.proofs.StagedLists.{staged_named}

-- what is known of boards
pub record Laws : Type 0 where
  pub stand : BoardsStand
  pub issued : IssuedBoardsAreReached
  pub absorbed : AbsorbedBoardsAreReached
  pub rest : AbsorbedBoardsWantParts
  pub asks : StagedAsksAreWanted
  pub fetched : AsksMayBeFetched
  pub put : PlannedNamesArePutNames
  pub lists : ListLaws

pub same_number : (n : ℕ) → (n == n) ≡ true
same_number n = grind (arith, nat_tests)

-- ---- the job that goes out

-- the item that asks it, and whether its file is staged
abbrev pub IsStagedAs : Board → Asker → Option ListName → Type 0
IsStagedAs b a None = (a.ask.stage ≡ false) × (a.ask.from ≡ 0)
IsStagedAs b a (Some name) = (a.ask.stage ≡ true) × (name_at a.source a.key.place ≡ Some name) × IsPutName name.0 × (wanted_part b name.0 ≡ use_from a.ask.from)

pub record IsIssued (b : Board) (job : Job) : Type 0 where
  pub a : Asker
  pub asks : asker_of b job.no ≡ Some a
  pub is : job ≡ job_for job.no a.ask

pub issued_is : (b : Board) (lane : ℕ) (job : Job) → issued_job b lane ≡ Some job → IsIssued b job
issued_is b lane job e = by (first_of b.lanes lane) e
  where
    one : (n : ℕ) (p : Option Asker) → asker_of b n ≡ p → option_map (λ (a : Asker). job_for n a.ask) p ≡ Some job → IsIssued b job
    one n None is e = absurd (cc)
    one n (Some a) is e = let same : job_for n a.ask ≡ job = cc in subst (λ (j : Job). IsIssued b j) same (record { a = a; asks = is; is = refl })

    by : (o : Option ℕ) → option_and_then (λ number. option_map (λ (a : Asker). job_for number a.ask) (asker_of b number)) o ≡ Some job → IsIssued b job
    by None e = absurd (cc)
    by (Some n) e = one n (asker_of b n) refl e

-- ---- whether it may be fetched

name_there : (targets : List Target) (k : ℕ) (target : Target) → slice_get targets k ≡ Some target → slice_get (map (λ (t : Target). t.name.0) targets) k ≡ Some target.name.0
name_there [] k target e = absurd (cc)
name_there (t ∷ targets) zero target e = let same : t ≡ target = cc in rw same refl
name_there (t ∷ targets) (suc k) target e = name_there targets k target e

pub put_name : PlannedNamesArePutNames → (source : Source) (k : ℕ) (target : Target) → IsPlanned source → slice_get source.targets k ≡ Some target → IsPutName target.name.0
put_name law source k target planned e = at_all IsPutName (names_of source) (suc k) target.name.0 (law source planned) (name_there source.targets k target e)

pub kind_of : {olds : List Old} → Laws → (begun : RunStart) (b : Board) (n : ℕ) (a : Asker) (notes : List Note) → IsSoundBegun begun → b.config ≡ begun.config → Reached begun.config olds notes b → asker_of b n ≡ Some a → MayBeFetched a.ask
    → IsStagedAs b a (name_staged a)
kind_of {olds = olds} laws begun b n a notes sound config reached asks may = by a.ask.stage refl
  where
    by : (stage : Bool) → a.ask.stage ≡ stage → IsStagedAs b a (name_staged a)
    by false e = rw e (refl, may.held e)
    by true e =
        let i = staged_named laws.stand begun.config olds notes b n a reached asks e in
        let source_is : slice_get begun.config.sources a.key.source ≡ Some a.source = subst (λ (c : Setup). slice_get c.sources a.key.source ≡ Some a.source) config (asker-asks b n a asks).source_is in
        let planned = at_all IsPlanned begun.config.sources a.key.source a.source sound.planned source_is in
        let wanted = laws.asks b n a i.target.name (subst (λ (c : Setup). AreNamedApart c) (sym config) sound.apart) asks e i.is in
        rw e (rw i.is (refl, i.is, put_name laws.put a.source i.k i.target planned i.at, wanted))

-- ---- the board that took its answer in

pub absorbed_is : (b : Board) (method n from : ℕ) (closed : Closed) (a : Asker) → lane_with b.out n ≡ Some from → asker_of b n ≡ Some a → absorbed b method n closed ≡ took b n a from (record { lane = method; closed = closed })
absorbed_is b method n from closed a lane asks = rw lane (rw asks refl)

pub served_as : (b : Board) (a : Asker) (staged : Option ListName) (now : List State) (closed : Closed) → IsStagedAs b a staged → ComesTo staged now closed → IsServedAs a.ask.stage closed
served_as b a None now (closings.Served (bodies.Bytes bytes)) kind comes = kind.0
served_as b a None now (closings.Served (bodies.Staged sum)) kind comes = absurd comes
served_as b a (Some name) now (closings.Served (bodies.Bytes bytes)) kind comes = absurd comes
served_as b a (Some name) now (closings.Served (bodies.Staged sum)) kind comes = kind.0
served_as b a staged now (closings.Not (nots.Moved place)) kind comes = tt
served_as b a staged now (closings.Not (nots.Absent status)) kind comes = tt
served_as b a staged now (closings.Not nots.TooBig) kind comes = tt
served_as b a staged now (closings.Not (nots.Garbled at)) kind comes = tt
served_as b a staged now (closings.Not (nots.Fault before after)) kind comes = tt

-- what the job asked is the item's ask
ask_is : (job : Job) (a : Ask) (stage : Bool) → job ≡ job_for job.no a → a.stage ≡ stage → (record { uri = job.uri; max = job.max; from = job.from; stage = stage }) ≡ a
ask_is job a stage e s =
    let uri : job.uri ≡ a.uri = ap (λ (x : Job). x.uri) e in
    let most : job.max ≡ a.max = ap (λ (x : Job). x.max) e in
    let from : job.from ≡ a.from = ap (λ (x : Job). x.from) e in
    rw (uri, most, from, ← s) refl

pub says_ask : (mirror : MirrorMap) (front : List ℕ) (job : Job) (a : Ask) (stage : Bool) (closed : Closed) → job ≡ job_for job.no a → a.stage ≡ stage
    → IsFaultOr closed (answered front (record { uri = job.uri; max = job.max; from = job.from; stage = stage }) (answer_at mirror job.uri)) → IsFaultOr closed (answered front a (answer_at mirror a.uri))
says_ask mirror front job a stage closed e s says =
    let uri : job.uri ≡ a.uri = ap (λ (x : Job). x.uri) e in
    subst (λ (u : Uri). IsFaultOr closed (answered front a (answer_at mirror u))) uri (subst (λ (x : Ask). IsFaultOr closed (answered front x (answer_at mirror job.uri))) (ask_is job a stage e s) says)
