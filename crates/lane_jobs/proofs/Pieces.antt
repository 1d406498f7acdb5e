-- A piece comes in.
use Rattle.std.proofs.Common.{◌≡◌, ◌∙◌, ◌<◌, ◌≤◌, ℕ, zero, suc, true, false, List, [], ◌∷◌, map, Option, Some, None, refl, sym, ap, subst, arith, inl, ⊎_elim}
use Rattle.std.specs.Prelude.{option_map, slice_get, slice_index_or}
use Rattle.std.proofs.lemmas.Slice.Eq.{bytes_eq-Decides}
use Rattle.acq_base.specs.declared.fetch.Job.{Job}
use Rattle.acq_base.specs.declared.fetch.NotServed.TheVariants as nots
use Rattle.acq_base.specs.declared.uri.ListName.{ListName}
use Rattle.acq_outside.specs.Crash.{State}
use Rattle.acq_outside.specs.States.{IsTold}
use Rattle.board_model.specs.Agreeing.{part_at}
use Rattle.board_model.specs.Boards.{Asker, Board, name_staged}
use Rattle.board_model.specs.CallLaws.{JobsAlwaysStand}
use Rattle.board_model.specs.Runs.{Note}
use Rattle.board_model.specs.Uses.{wanted_part}
use Rattle.host_queues.proofs.Changes.{get-changed}
use Rattle.host_queues.specs.Lanes.{changed_at}
use Rattle.job_fetch.proofs.Words.{past_front}
use Rattle.job_fetch.specs.Hearing.{CanHear, ChangesFile, HasComeIn, KeepsBytes as KeepsBytesOf, at_of, name_of}
use Rattle.job_fetch.specs.declared.intake.Intake.{Intake}
use Rattle.job_fetch.specs.declared.intake.Intake.TheVariants.{Held, Unopened, Filling}
use Rattle.journal_model.proofs.Twice.{same_or_not}
use Rattle.journal_model.proofs.Views.{partial_apart}
use Rattle.journal_model.specs.Names.{partial}
use Rattle.journal_model.specs.Rest.{KeptAtRestSince}
use Rattle.run_jobs.proofs.Agreed.{heard_still}
use Rattle.run_jobs.proofs.Keeping.{moments_of, told_back, uses_after}
use Rattle.run_jobs.proofs.Lists.{lists_changed}
use Rattle.run_jobs.proofs.OneJob.{IsStagedAs, Laws}
use Rattle.run_jobs.specs.Fetching.{ComesTo, IsFetched, KeepsBytes}
use Rattle.run_jobs.specs.OnTheWay.{StaysOnItsWay, WasLeft}
use Rattle.run_jobs.specs.Running.{IsUnderWay, RunHasHeard, RunStart}
use Rattle.update_model.specs.declared.ask.Closed.TheVariants as closings
use Rattle.lane_jobs.proofs.Answered.{AllAreTransfers, IsOutAt, fetched_by, into_of, kept_by, others_still, out_at, own_of, use_of}
use Rattle.lane_jobs.proofs.Fresh.{staged_as}
use Rattle.lane_jobs.proofs.Rows.{filled_gone, filled_here, numbers_changed}
use Rattle.lane_jobs.specs.Going.{IsPast, IsTransfer}
use Rattle.lane_jobs.specs.JobsOut.{JobsOut, fills, fills_file, is_filled, number_of, with_row}
use Rattle.lane_jobs.specs.declared.transfers.Transfer.{Transfer}

changed_same : {A : Type 0} (xs : List A) (k : ℕ) (x : A) → slice_get xs k ≡ Some x → changed_at k (λ was. x) xs ≡ xs
changed_same [] k x at = refl
changed_same (y ∷ xs) zero x at = let same : y ≡ x = cc in ap (λ (z : _). z ∷ xs) (sym same)
changed_same (y ∷ xs) (suc k) x at = ap (λ (zs : List _). y ∷ zs) (changed_same xs k x at)

-- a row whose job stays has its number
pub numbers_stay : (rows : List (Option Transfer)) (k : ℕ) (t next : Transfer) → slice_get rows k ≡ Some (Some t) → next.job.no ≡ t.job.no → slice_get (map number_of rows) k ≡ Some (Some t.job.no)
    → map number_of (changed_at k (λ was. Some next) rows) ≡ map number_of rows
numbers_stay rows k t next at same there =
    numbers_changed k (Some next) rows ∙ changed_same (map number_of rows) k (Some next.job.no) (there ∙ ap (λ (n : ℕ). Some (Some n)) (sym same))

no_come : (staged : Option ListName) (now : List State) → ComesTo staged now (closings.Not nots.TooBig)
no_come None now = tt
no_come (Some name) now = tt

past_next : (job : Job) (next : Intake) (at : ℕ) → job.from ≤ at → at < at_of job next → IsPast job next
past_next job (Held bytes) at past more = tt
past_next job (Unopened name) at past more = tt
past_next job (Filling filling) at past more = omega (arith, past, more)

-- behind a piece the list's file is being filled
next_fills : (job : Job) (next : Intake) (at : ℕ) (name : List ℕ) → name_of next ≡ Some name → job.from ≤ at → at < at_of job next → fills_file next name ≡ true
next_fills job (Held bytes) at name named past more = absurd (cc)
next_fills job (Unopened list) at name named past more = absurd (omega (arith, past, more))
next_fills job (Filling filling) at name named past more = let own : filling.part.name ≡ name = cc in (bytes_eq-Decides filling.part.name name).1 own

fills_named : (intake : Intake) (name : List ℕ) → fills_file intake name ≡ true → name_of intake ≡ Some name
fills_named (Held bytes) name fills = absurd (cc)
fills_named (Unopened list) name fills = absurd (cc)
fills_named (Filling filling) name fills = ap (λ (x : List ℕ). Some x) ((bytes_eq-Decides filling.part.name name).0 fills)

-- what a run is once a piece is taken in
pub record HasGoneOn (begun : RunStart) (notes : List Note) (b : Board) (before after : JobsOut) (old now : List State) : Type 0 where
  pub under : IsUnderWay begun notes b now
  pub numbers : b.out ≡ map number_of after.rows
  pub each : AllAreTransfers begun b now after
  pub left : IsTold now → (name : List ℕ) → is_filled after name ≡ false → StaysOnItsWay begun.config.sources [] old now name
  pub ended : IsTold now → (name : List ℕ) → is_filled before name ≡ true → is_filled after name ≡ false → WasLeft begun.config.sources name [] now

pub piece_comes : Laws → JobsAlwaysStand → (begun : RunStart) (notes : List Note) (b : Board) (jobs : JobsOut) (old now : List State) (k : ℕ) (t : Transfer) (next : Intake)
    → (p : IsOutAt begun notes b jobs old k t) → ChangesFile (name_of t.intake) old now → KeepsBytesOf (name_of t.intake) t.job.from old now → name_of next ≡ name_of t.intake → CanHear t.job now next → at_of t.job t.intake < at_of t.job next
    → HasComeIn (slice_index_or begun.mirrors (suc k) None) (part_at begun.parts begun.config.sources (own_of p).a.key) t.job now next
    → HasGoneOn begun notes b jobs (with_row k (Some (record { job = t.job; intake = next })) jobs) old now
piece_comes laws stand begun notes b jobs old now k t next p changes kept named can further come = record {
  under = record {
    heard = heard_still begun notes b old now back heard;
    uses = uses_after staged a.ask.from (closings.Not nots.TooBig) (wanted_part b) (wanted_part b) begun.parts old now fetched
        (subst (λ (n : ℕ). KeepsBytes staged n old now) from_is (kept_by staged t.job.from old now (subst (λ (o : Option (List ℕ)). KeepsBytesOf o t.job.from old now) own.list kept)))
        (no_come staged now) (use_of b a staged kind) (λ name. inl (inl refl)) p.under.uses;
    lists = lists_changed laws.lists begun b (name_of t.intake) old now p.sound heard.config back changes p.under.lists;
  };
  numbers = p.numbers ∙ sym (numbers_stay jobs.rows k t later p.at refl (subst (λ (out : List (Option ℕ)). slice_get out k ≡ Some (Some t.job.no)) p.numbers there));
  each = others_still stand begun notes b b jobs (Some later) old now k t p changes back (λ m other apart asks. asks) (λ x is. let same : later ≡ x = cc in subst (IsTransfer begun b now (slice_index_or begun.mirrors (suc k) None)) same mine);
  left = λ told name isnt. leaves name isnt (subst (λ (o : Option (List ℕ)). ChangesFile o old now) own.list changes) staged refl;
  ended = λ told name was isnt. absurd (stops name (fills_named t.intake name (filled_gone name k (Some later) (Some t) jobs.rows p.at was isnt)) isnt);
}
  where
    own : IsTransfer begun b old (slice_index_or begun.mirrors (suc k) None) t
    own = own_of p

    a : Asker
    a = own.a

    staged : Option ListName
    staged = name_staged a

    later : Transfer
    later = record { job = t.job; intake = next }

    heard : RunHasHeard begun notes b old
    heard = p.under.heard

    from_is : t.job.from ≡ a.ask.from
    from_is = ap (λ (j : Job). j.from) own.job_is

    kind : IsStagedAs b a staged
    kind = staged_as laws begun notes b t.job.no a p.sound heard.config heard.sound heard.reached own.asks

    fetched : IsFetched staged old now
    fetched = fetched_by staged old now (subst (λ (o : Option (List ℕ)). ChangesFile o old now) own.list changes)

    back : IsTold now → IsTold old
    back = told_back (KeptAtRestSince old) old now (moments_of staged old now fetched)

    past : t.job.from ≤ at_of t.job t.intake
    past = past_front t.job t.intake old own.can

    mine : IsTransfer begun b now (slice_index_or begun.mirrors (suc k) None) later
    mine = record { a = a; asks = own.asks; job_is = own.job_is; list = named ∙ own.list; can = can; past = past_next t.job next (at_of t.job t.intake) past further; come = come }

    there : slice_get b.out k ≡ Some (Some t.job.no)
    there = out_at b jobs k t p.numbers p.at

    stops : (name : List ℕ) → name_of t.intake ≡ Some name → is_filled (with_row k (Some later) jobs) name ≡ false → ⊥
    stops name is isnt =
        let fills : fills_file next name ≡ true = next_fills t.job next (at_of t.job t.intake) name (named ∙ is) past further in
        let filled : is_filled (with_row k (Some later) jobs) name ≡ true =
        filled_here name k (Some later) (changed_at k (λ was. Some later) jobs.rows) (get-changed (λ was. Some later) jobs.rows k ∙ ap (option_map (λ (was : Option Transfer). Some later)) p.at) fills in
        let wrong : true ≡ false = sym filled ∙ isnt in
        absurd (cc)

    leaves : (name : List ℕ) → is_filled (with_row k (Some later) jobs) name ≡ false → ChangesFile (into_of staged) old now → (o : Option ListName) → staged ≡ o → StaysOnItsWay begun.config.sources [] old now name
    leaves name isnt changes None is = let still = rw is at changes in inl (rw still refl, tt)
    leaves name isnt changes (Some list) is =
        let stages = rw is at changes in
        ⊎_elim (λ same. absurd (stops name (own.list ∙ ap into_of is ∙ ap (λ (x : List ℕ). Some x) (sym same)) isnt)) (λ apart. inl (stages.others (partial name) (partial_apart name list.0 apart), tt)) (same_or_not name list.0)
