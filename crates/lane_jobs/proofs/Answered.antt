-- An answer comes in, whichever lane it came from.
use Rattle.std.proofs.Common.{◌≡◌, ◌≢◌, ◌∙◌, ◌⊎◌, ◌<◌, ◌≤◌, ℕ, suc, ◌++◌, nat_eq, true, false, List, [], ◌∷◌, length, map, Option, Some, None, IfSome, refl, sym, ap, subst, arith, inl, inr, ⊎_elim}
use Rattle.std.specs.Prelude.{is_some, option_map, slice_get, slice_index_or}
use Rattle.std.proofs.lemmas.Bool.{cases_Bool}
use Rattle.std.proofs.lemmas.Bool.Decides.{nat_tests}
use Rattle.std.proofs.lemmas.Slice.Eq.{bytes_eq-Decides}
use Rattle.acq_base.specs.Mirror.{MirrorMap}
use Rattle.acq_base.specs.declared.fetch.Job.{Job}
use Rattle.acq_base.specs.declared.plan.Source.{Source}
use Rattle.acq_base.specs.declared.uri.ListName.{ListName}
use Rattle.acq_outside.specs.Crash.{State, reads}
use Rattle.acq_outside.specs.States.{IsTold}
use Rattle.board_model.proofs.Askers.{asker-asks}
use Rattle.board_model.proofs.JobRuns.{took-same}
use Rattle.board_model.specs.Agreeing.{IsMirrors, part_at}
use Rattle.board_model.specs.Boards.{Asker, Board, absorbed, asker_of, lane_with, name_staged, took}
use Rattle.board_model.specs.CallLaws.{JobsAlwaysStand}
use Rattle.board_model.specs.Jobs.{times_out}
use Rattle.board_model.specs.NameLaws.{AreNamedApart}
use Rattle.board_model.specs.ReadAnew.{StandsOn}
use Rattle.board_model.specs.Reached.{Reached}
use Rattle.board_model.specs.Runs.{Note, note_of}
use Rattle.board_model.specs.Slots.{Setup}
use Rattle.board_model.specs.Uses.{Falls, IsWholeOf, wanted_part, use_from}
use Rattle.host_queues.proofs.Changes.{get-changed, get-other}
use Rattle.host_queues.specs.Lanes.{changed_at}
use Rattle.job_fetch.proofs.Hears.{reaches}
use Rattle.job_fetch.specs.Fetched.{IsAnswer}
use Rattle.job_fetch.specs.Hearing.{CanHear, ChangesFile, at_of, name_of, RestsOn, ComesTo as ComesInto, KeepsBytes as KeepsBytesOf}
use Rattle.job_fetch.specs.declared.intake.Intake.{Intake}
use Rattle.job_fetch.specs.declared.intake.Intake.TheVariants.{Held, Unopened, Filling}
use Rattle.journal_model.proofs.Twice.{same_or_not}
use Rattle.journal_model.proofs.Views.{partial_apart}
use Rattle.journal_model.specs.Names.{partial}
use Rattle.journal_model.specs.Rest.{KeptAtRestSince, part_bytes}
use Rattle.lists_dir.specs.Installed.{installed_of}
use Rattle.run_jobs.proofs.Agreed.{agrees_on}
use Rattle.run_jobs.proofs.Keeping.{moments_of, told_back, uses_after}
use Rattle.run_jobs.proofs.Lists.{HasLists, lists_changed, now_map}
use Rattle.run_jobs.proofs.OnTheWay.{IsNoteOf, one_left}
use Rattle.run_jobs.proofs.OneJob.{IsStagedAs, Laws, absorbed_is, says_ask, served_as}
use Rattle.run_jobs.proofs.Rising.{IsCountedOn, faults_last, for_mirror_at}
use Rattle.run_jobs.proofs.Telling.{each_last, sound_answer}
use Rattle.run_jobs.specs.Coupling.{HasWantedParts}
use Rattle.run_jobs.specs.Fetching.{ComesTo, IsFetched, KeepsBytes}
use Rattle.run_jobs.specs.OnTheWay.{IsServed, LeftAs, StaysOnItsWay, WasLeft}
use Rattle.run_jobs.specs.Running.{AgreesWhereKnown, HasCounted, IsKnownOver, IsSoundBegun, IsUnderWay, RunHasHeard, RunStart}
use Rattle.update_model.specs.Trails.{LaneAnswer}
use Rattle.update_model.specs.declared.ask.Body.TheVariants as bodies
use Rattle.update_model.specs.declared.ask.Closed.{Closed}
use Rattle.update_model.specs.declared.ask.Closed.TheVariants as closings
use Rattle.lane_jobs.proofs.Fresh.{staged_as, staged_name_is}
use Rattle.lane_jobs.proofs.Kept.{StaysFor, lane_at, out_once, transfer_still}
use Rattle.lane_jobs.proofs.Places.{one_item}
use Rattle.lane_jobs.proofs.Rows.{filled_gone, number_at, numbers_changed}
use Rattle.lane_jobs.specs.Answering.{IsAnswered, LeavesList}
use Rattle.lane_jobs.specs.Going.{IsPast, IsTransfer}
use Rattle.lane_jobs.specs.JobsOut.{JobsOut, fills, fills_file, is_filled, number_of, with_row}
use Rattle.lane_jobs.specs.declared.transfers.Transfer.{Transfer}

-- ---- what is done to a file, by the list's name

abbrev pub into_of : Option ListName → Option (List ℕ)
into_of staged = option_map (λ (name : ListName). name.0) staged

pub fetched_by : (staged : Option ListName) (old now : List State) → ChangesFile (into_of staged) old now → IsFetched staged old now
fetched_by None old now is = is
fetched_by (Some name) old now is = is

pub kept_by : (staged : Option ListName) (from : ℕ) (old now : List State) → KeepsBytesOf (into_of staged) from old now → KeepsBytes staged from old now
kept_by None from old now is = is
kept_by (Some name) from old now is = is

comes_by : (staged : Option ListName) (now : List State) (closed : Closed) → ComesInto (into_of staged) now closed → ComesTo staged now closed
comes_by None now closed is = is
comes_by (Some name) now closed is = is

-- an answer that is known rests on nothing else
rests_on : (staged : Option ListName) (now : List State) (closed : Closed) → ComesInto (into_of staged) now closed → IsKnownOver now closed → RestsOn (into_of staged) now closed
rests_on None now closed comes known = tt
rests_on (Some name) now (closings.Served (bodies.Bytes bytes)) comes known = absurd comes
rests_on (Some name) now (closings.Served (bodies.Staged sum)) comes known = known
rests_on (Some name) now (closings.Not end) comes known = tt

stage_is : (b : Board) (a : Asker) (staged : Option ListName) → IsStagedAs b a staged → a.ask.stage ≡ is_some (into_of staged)
stage_is b a None kind = kind.0
stage_is b a (Some name) kind = kind.0

pub use_of : (b : Board) (a : Asker) (staged : Option ListName) → IsStagedAs b a staged → IfSome staged (λ name. wanted_part b name.0 ≡ use_from a.ask.from)
use_of b a None kind = tt
use_of b a (Some name) kind = kind.3

-- the files of other lists stay
pub others_stay : (into other : Option (List ℕ)) (old now : List State) → ChangesFile into old now → IfSome into (λ name. IfSome other (λ list. list ≢ name)) → StaysFor other old now
others_stay None None old now is apart = tt
others_stay None (Some list) old now is apart = rw is refl
others_stay (Some name) None old now is apart = tt
others_stay (Some name) (Some list) old now is apart = is.others (partial list) (partial_apart list name apart)

-- ---- two jobs that are out

-- they are of two items
numbers_apart : (out : List (Option ℕ)) (lane other n m : ℕ) → slice_get out lane ≡ Some (Some n) → slice_get out other ≡ Some (Some m) → times_out n out ≤ 1 → nat_eq other lane ≡ false → nat_eq n m ≡ false
numbers_apart out lane other n m at there once apart = by (cases_Bool (nat_eq n m))
  where
    by : (nat_eq n m ≡ true) ⊎ (nat_eq n m ≡ false) → nat_eq n m ≡ false
    by (inr differs) = differs
    by (inl same) =
        let number : n ≡ m = grind (arith, nat_tests, same) in
        let here : lane_with out n ≡ Some lane = lane_at out lane n at once in
        let also : lane_with out n ≡ Some other = lane_at out other n (subst (λ (k : ℕ). slice_get out other ≡ Some (Some k)) (sym number) there) once in
        let both : Some lane ≡ Some other = sym here ∙ also in
        let one : lane ≡ other = cc in
        absurd (grind (arith, nat_tests, apart, one))

-- and go into files of two lists
lists_apart : (begun : RunStart) (b : Board) (n m : ℕ) (a e : Asker) (staged other : Option ListName) → IsSoundBegun begun → b.config ≡ begun.config → asker_of b n ≡ Some a → asker_of b m ≡ Some e → name_staged a ≡ staged → name_staged e ≡ other
    → nat_eq n m ≡ false → IfSome (into_of staged) (λ name. IfSome (into_of other) (λ list. list ≢ name))
lists_apart begun b n m a e None other sound config asks also is are apart = tt
lists_apart begun b n m a e (Some x) None sound config asks also is are apart = tt
lists_apart begun b n m a e (Some x) (Some y) sound config asks also is are apart = λ same.
    let one : n ≡ m = one_item b n m a e x y (subst AreNamedApart (sym config) sound.apart) asks also is are (sym same) in
    absurd (grind (arith, nat_tests, apart, one))

-- ---- what it leaves of the lists on their way

pub note_is : (begun : RunStart) (b : Board) (n from : ℕ) (a : Asker) (staged : Option ListName) (told : LaneAnswer) → IsStagedAs b a staged → b.config ≡ begun.config → asker_of b n ≡ Some a → a.ask.from ≡ from
    → IsNoteOf begun.config.sources staged from (note_of a told)
note_is begun b n from a None told kind config asks is = record { from_is = is; stage = kind.0; list = tt }
note_is begun b n from a (Some name) told kind config asks is =
    let source_is : slice_get begun.config.sources a.key.source ≡ Some a.source = subst (λ (c : Setup). slice_get c.sources a.key.source ≡ Some a.source) config (asker-asks b n a asks).source_is in
    record { from_is = is; stage = kind.0; list = rw source_is (rw kind.1 refl) }

answer_leaves : (sources : List Source) (staged : Option ListName) (from : ℕ) (note : Note) (old now : List State) → IsNoteOf sources staged from note → ChangesFile (into_of staged) old now → LeavesList (into_of staged) from old now note.told.closed
    → IsTold now → (name : List ℕ) → StaysOnItsWay sources (note ∷ []) old now name
answer_leaves sources None from note old now n changes left told name = inl (rw changes refl, (λ staged served. let wrong : true ≡ false = sym staged.staged ∙ n.stage in absurd (cc), tt))
answer_leaves sources (Some staged) from note old now n changes left told name = ⊎_elim same other (same_or_not name staged.0)
  where
    same : name ≡ staged.0 → StaysOnItsWay sources (note ∷ []) old now name
    same is = subst (StaysOnItsWay sources (note ∷ []) old now) (sym is) (⊎_elim
        (λ still. inl (rw still.0 refl, (λ own served. still.1 served, tt)))
        (λ so. inr (one_left sources staged from note now n so))
        (left told))

    other : (name ≡ staged.0 → ⊥) → StaysOnItsWay sources (note ∷ []) old now name
    other apart = inl (changes.others (partial name) (partial_apart name staged.0 apart), (λ own served. let is : Some name ≡ Some staged.0 = sym own.own ∙ n.list in absurd (apart (cc)), tt))

unserved_left : (name : List ℕ) (job : Job) (intake : Intake) (closed : Closed) (old now : List State) → now ≡ old → (IsServed closed → ⊥) → job.from < length (part_bytes old name) → LeftAs name now job.from closed
unserved_left name job intake (closings.Served body) old now still unserved past = absurd (unserved tt)
unserved_left name job intake (closings.Not end) old now still unserved past = subst (λ (l : List State). job.from < length (part_bytes l name)) (sym still) past

ends_filled : (sources : List Source) (list : ListName) (job : Job) (intake : Intake) (note : Note) (old now : List State) → IsNoteOf sources (Some list) job.from note → name_of intake ≡ Some list.0 → CanHear job old intake → job.from < at_of job intake
    → LeavesList (Some list.0) job.from old now note.told.closed → (IsTold now → IsTold old) → IsTold now → WasLeft sources list.0 (note ∷ []) now
ends_filled sources list job intake note old now n named can past left back told = one_left sources list job.from note now n (⊎_elim
    (λ still. unserved_left list.0 job intake note.told.closed old now still.0 still.1 (reaches job intake list.0 old named can past (back told)))
    (λ so. so)
    (left told))

-- what was being filled is as the answer left it
answer_ends : (sources : List Source) (staged : Option ListName) (job : Job) (intake : Intake) (note : Note) (old now : List State) → IsNoteOf sources staged job.from note → name_of intake ≡ into_of staged → CanHear job old intake → IsPast job intake
    → LeavesList (into_of staged) job.from old now note.told.closed → (IsTold now → IsTold old) → IsTold now → (name : List ℕ) → fills_file intake name ≡ true → WasLeft sources name (note ∷ []) now
answer_ends sources staged job (Held bytes) note old now n named can past left back told name fills = absurd (cc)
answer_ends sources staged job (Unopened list) note old now n named can past left back told name fills = absurd (cc)
answer_ends sources None job (Filling filling) note old now n named can past left back told name fills = absurd (cc)
answer_ends sources (Some list) job (Filling filling) note old now n named can past left back told name fills =
    let own : filling.part.name ≡ name = (bytes_eq-Decides filling.part.name name).0 fills in
    let both : filling.part.name ≡ list.0 = cc in
    subst (λ (x : List ℕ). WasLeft sources x (note ∷ []) now) (sym both ∙ own) (ends_filled sources list job (Filling filling) note old now n (ap (λ (x : List ℕ). Some x) both) can past left back told)

-- ---- before it

abbrev pub AllAreTransfers : RunStart → Board → List State → JobsOut → Type 0
AllAreTransfers begun b now jobs = (lane : ℕ) (t : Transfer) → slice_get jobs.rows lane ≡ Some (Some t) → IsTransfer begun b now (slice_index_or begun.mirrors (suc lane) None) t

-- a job is out from this lane
pub record IsOutAt (begun : RunStart) (notes : List Note) (b : Board) (jobs : JobsOut) (now : List State) (k : ℕ) (t : Transfer) : Type 0 where
  pub sound : IsSoundBegun begun
  pub under : IsUnderWay begun notes b now
  pub numbers : b.out ≡ map number_of jobs.rows
  pub each : AllAreTransfers begun b now jobs
  pub at : slice_get jobs.rows k ≡ Some (Some t)

pub own_of : {begun : RunStart} {notes : List Note} {b : Board} {jobs : JobsOut} {now : List State} {k : ℕ} {t : Transfer} → IsOutAt begun notes b jobs now k t → IsTransfer begun b now (slice_index_or begun.mirrors (suc k) None) t
own_of {k = k} {t = t} p = p.each k t p.at

pub out_at : (b : Board) (jobs : JobsOut) (lane : ℕ) (t : Transfer) → b.out ≡ map number_of jobs.rows → slice_get jobs.rows lane ≡ Some (Some t) → slice_get b.out lane ≡ Some (Some t.job.no)
out_at b jobs lane t numbers at = subst (λ (out : List (Option ℕ)). slice_get out lane ≡ Some (Some t.job.no)) (sym numbers) (number_at jobs.rows lane t at)

pub lane_of_out : JobsAlwaysStand → (begun : RunStart) (notes : List Note) (b : Board) (jobs : JobsOut) (now : List State) (k : ℕ) (t : Transfer) → IsOutAt begun notes b jobs now k t → lane_with b.out t.job.no ≡ Some k
lane_of_out law begun notes b jobs now k t p = lane_at b.out k t.job.no (out_at b jobs k t p.numbers p.at) (out_once law begun.config p.under.heard.olds notes b t.job.no p.under.heard.reached)

-- the other jobs that are out, where the disk changed by this one's words, and their items ask the same
pub others_still : JobsAlwaysStand → (begun : RunStart) (notes : List Note) (b c : Board) (jobs : JobsOut) (row : Option Transfer) (old now : List State) (k : ℕ) (t : Transfer) → (p : IsOutAt begun notes b jobs old k t)
    → ChangesFile (name_of t.intake) old now → (IsTold now → IsTold old)
    → ((m : ℕ) (other : Asker) → nat_eq t.job.no m ≡ false → asker_of b m ≡ Some other → asker_of c m ≡ Some other)
    → ((own : Transfer) → row ≡ Some own → IsTransfer begun c now (slice_index_or begun.mirrors (suc k) None) own)
    → AllAreTransfers begun c now (with_row k row jobs)
others_still law begun notes b c jobs row old now k t p changes back asks own lane other at = by (cases_Bool (nat_eq lane k))
  where
    by : (nat_eq lane k ≡ true) ⊎ (nat_eq lane k ≡ false) → IsTransfer begun c now (slice_index_or begun.mirrors (suc lane) None) other
    by (inl same) =
        let here : lane ≡ k = grind (arith, nat_tests, same) in
        let put : slice_get (changed_at k (λ w. row) jobs.rows) k ≡ Some row = get-changed (λ w. row) jobs.rows k ∙ ap (option_map (λ (w : Option Transfer). row)) p.at in
        let there : slice_get (changed_at k (λ w. row) jobs.rows) k ≡ Some (Some other) = subst (λ (l : ℕ). slice_get (changed_at k (λ w. row) jobs.rows) l ≡ Some (Some other)) here at in
        let both : Some row ≡ Some (Some other) = sym put ∙ there in
        let is : row ≡ Some other = cc in
        subst (λ (l : ℕ). IsTransfer begun c now (slice_index_or begun.mirrors (suc l) None) other) (sym here) (own other is)
    by (inr differs) =
        let before : slice_get jobs.rows lane ≡ Some (Some other) = sym (get-other (λ w. row) jobs.rows k lane differs) ∙ at in
        let is = p.each lane other before in
        let mine = own_of p in
        let once = out_once law begun.config p.under.heard.olds notes b t.job.no p.under.heard.reached in
        let apart = numbers_apart b.out k lane t.job.no other.job.no (out_at b jobs k t p.numbers p.at) (out_at b jobs lane other p.numbers before) once differs in
        let lists = lists_apart begun b t.job.no other.job.no mine.a is.a (name_staged mine.a) (name_staged is.a) p.sound p.under.heard.config mine.asks is.asks refl refl apart in
        let stays = others_stay (into_of (name_staged mine.a)) (into_of (name_staged is.a)) old now (subst (λ (o : Option (List ℕ)). ChangesFile o old now) mine.list changes) lists in
        transfer_still begun b c old now (slice_index_or begun.mirrors (suc lane) None) other is (asks other.job.no is.a apart is.asks) back (subst (λ (o : Option (List ℕ)). StaysFor o old now) (sym is.list) stays)

-- ---- behind it

-- what a run is once an answer is taken in
pub record HasTakenIn (begun : RunStart) (notes : List Note) (later : List ℕ) (before after : JobsOut) (c : Board) (old now : List State) : Type 0 where
  pub note : Note
  pub under : IsUnderWay begun (notes ++ note ∷ []) c now
  pub counted : HasCounted begun later c
  pub numbers : c.out ≡ map number_of after.rows
  pub each : AllAreTransfers begun c now after
  pub left : IsTold now → (name : List ℕ) → StaysOnItsWay begun.config.sources (note ∷ []) old now name
  pub ended : IsTold now → (name : List ℕ) → is_filled before name ≡ true → is_filled after name ≡ false → WasLeft begun.config.sources name (note ∷ []) now

pub answer_comes : Laws → JobsAlwaysStand → (begun : RunStart) (notes : List Note) (b : Board) (jobs : JobsOut) (old now : List State) (k : ℕ) (t : Transfer) (method before after : ℕ) (counts later : List ℕ) (world : Option MirrorMap) (closed : Closed)
    → (p : IsOutAt begun notes b jobs old k t) → slice_get begun.mirrors method ≡ Some world → method < length begun.counts → length later ≡ length begun.counts → HasCounted begun counts b → IsCountedOn counts later method before after closed
    → IsAnswered world (part_at begun.parts begun.config.sources (own_of p).a.key) t.job (name_of t.intake) before after old now closed
    → HasTakenIn begun notes later jobs (with_row k None jobs) (absorbed b method t.job.no closed) old now
answer_comes laws stand begun notes b jobs old now k t method before after counts later world closed p mirror few sized counted on given =
    subst (λ (x : Board). HasTakenIn begun notes later jobs (with_row k None jobs) x old now) (sym is) (record {
      note = note;
      under = record { heard = heard; uses = subst (λ (x : Board). HasWantedParts (wanted_part x) begun.parts now) is uses; lists = subst (λ (x : Board). HasLists x now) is lists };
      counted = record { sized = sized; faults = faults_last begun.counts counts later b.asks _ method before after closed refl refl few on counted.faults };
      numbers = ap (changed_at k (λ (o : Option ℕ). None)) p.numbers ∙ sym (numbers_changed k None jobs.rows);
      each = others_still stand begun notes b behind jobs None old now k t p given.changes back (λ m other apart asks. took-same b n k m a told (asker-asks b n a own.asks) other asks apart) (λ x none. absurd (cc));
      left = answer_leaves begun.config.sources staged t.job.from note old now noted answer.changes answer.left;
      ended = λ tells name was isnt. answer_ends begun.config.sources staged t.job t.intake note old now noted own.list own.can own.past answer.left back tells name (filled_gone name k None (Some t) jobs.rows p.at was isnt);
    })
  where
    own : IsTransfer begun b old (slice_index_or begun.mirrors (suc k) None) t
    own = own_of p

    a : Asker
    a = own.a

    n : ℕ
    n = t.job.no

    staged : Option ListName
    staged = name_staged a

    told : LaneAnswer
    told = record { lane = method; closed = closed }

    note : Note
    note = note_of a told

    behind : Board
    behind = took b n a k told

    heard_before : RunHasHeard begun notes b old
    heard_before = p.under.heard

    lane : lane_with b.out n ≡ Some k
    lane = lane_of_out stand begun notes b jobs old k t p

    is : absorbed b method n closed ≡ behind
    is = absorbed_is b method n k closed a lane own.asks

    answer : IsAnswered world (part_at begun.parts begun.config.sources a.key) t.job (into_of staged) before after old now closed
    answer = subst (λ (o : Option (List ℕ)). IsAnswered world (part_at begun.parts begun.config.sources a.key) t.job o before after old now closed) own.list given

    fetched : IsFetched staged old now
    fetched = fetched_by staged old now answer.changes

    back : IsTold now → IsTold old
    back = told_back (KeptAtRestSince old) old now (moments_of staged old now fetched)

    kind : IsStagedAs b a staged
    kind = staged_as laws begun notes b n a p.sound heard_before.config heard_before.sound heard_before.reached own.asks

    from_is : t.job.from ≡ a.ask.from
    from_is = ap (λ (j : Job). j.from) own.job_is

    noted : IsNoteOf begun.config.sources staged t.job.from note
    noted = note_is begun b n t.job.from a staged told kind heard_before.config own.asks (sym from_is)

    reached : Reached begun.config heard_before.olds (notes ++ note ∷ []) (absorbed b method n closed)
    reached = laws.absorbed begun.config heard_before.olds notes b method n k closed a heard_before.reached lane own.asks

    mirrors : (m : MirrorMap) → world ≡ Some m → IsAnswer world (part_at begun.parts begun.config.sources a.key) (is_some (into_of staged)) t.job closed → IsMirrors m begun.parts begun.config.sources note
    mirrors m same known =
        says_ask m (part_at begun.parts begun.config.sources a.key) t.job a.ask (is_some (into_of staged)) closed own.job_is (stage_is b a staged kind)
        (subst (λ (w : Option MirrorMap). IsAnswer w (part_at begun.parts begun.config.sources a.key) (is_some (into_of staged)) t.job closed) same known).told

    heard : RunHasHeard begun (notes ++ note ∷ []) behind now
    heard = record {
      config = heard_before.config;
      olds = heard_before.olds;
      same = λ known. heard_before.same (back known);
      reached = subst (λ (x : Board). Reached begun.config heard_before.olds (notes ++ note ∷ []) x) is reached;
      sound = each_last _ notes note heard_before.sound (sound_answer closed answer.sound);
      answers = for_mirror_at begun.mirrors method world (λ (m : MirrorMap). AgreesWhereKnown old m begun.parts begun.config.sources notes) (λ (m : MirrorMap). AgreesWhereKnown now m begun.parts begun.config.sources (notes ++ note ∷ [])) mirror (λ m same agrees.
          each_last _ notes note (agrees_on old now m begun.parts begun.config.sources notes back agrees)
          (λ known. mirrors m same (answer.answer (rests_on staged now closed answer.comes known)))) heard_before.answers;
    }

    uses : HasWantedParts (wanted_part (absorbed b method n closed)) begun.parts now
    uses = uses_after staged a.ask.from closed (wanted_part b) (wanted_part (absorbed b method n closed)) begun.parts old now fetched
        (subst (λ (k : ℕ). KeepsBytes staged k old now) from_is (kept_by staged t.job.from old now answer.kept)) (comes_by staged now closed answer.comes) (use_of b a staged kind)
        (λ name. subst (λ (s : Option ListName). Falls (wanted_part b name) (wanted_part (absorbed b method n closed) name) ⊎ IsWholeOf s closed name (wanted_part (absorbed b method n closed) name)) (staged_name_is b n k a lane own.asks)
        (laws.rest begun.config heard_before.olds notes b method n k closed a name heard_before.reached lane own.asks (served_as b a staged now closed kind (comes_by staged now closed answer.comes))))
        p.under.uses

    lists : HasLists (absorbed b method n closed) now
    lists = now_map (λ s. StandsOn (installed_of (reads s)) b) (λ s. StandsOn (installed_of (reads s)) (absorbed b method n closed)) now (λ s. laws.lists.after_absorbed (installed_of (reads s)) b method n closed)
        (lists_changed laws.lists begun b (name_of t.intake) old now p.sound heard_before.config back given.changes p.under.lists)
