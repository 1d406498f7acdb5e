-- The set of one source is committed.
use Rattle.std.proofs.Common.{◌≡◌, ◌≢◌, ◌⊎◌, ◌∙◌, ◌≤◌, inl, inr, refl, sym, ap, subst, ℕ, zero, suc, Bool, true, false, List, [], ◌∷◌, ◌++◌, length, map, AllPairs, Contains, Option, Some, None, Result, Ok, Err}
use Rattle.std.specs.Prelude.{IfErr, IsErrAnd, if◌then◌else◌, option_map, slice_get}
use Rattle.std.specs.List.{flat_map, slice_index_or, AllByRecursion as Each}
use Rattle.std.proofs.lemmas.List.{append-nil}
use Rattle.std.proofs.lemmas.List.Elements.{All-contains, Contains-append_left, Contains-append_right}
use Rattle.acq_base.specs.Mirror.{MirrorMap}
use Rattle.acq_base.specs.Plan.{IsPlanned, names_of}
use Rattle.acq_base.specs.Sum.{sum_of}
use Rattle.acq_base.specs.declared.installed.Old.{Old}
use Rattle.acq_base.specs.declared.plan.Source.{Source}
use Rattle.acq_base.specs.declared.plan.Target.{Target}
use Rattle.acq_base.specs.declared.uri.ListName.{ListName}
use Rattle.acq_outside.specs.Crash.{State, synced}
use Rattle.acq_outside.specs.Disk.{Files}
use Rattle.acq_outside.specs.States.{IsTold, IsNow}
use Rattle.board_model.specs.Boards.{Asker, Board, asker_of, first_ready, name_staged, settled_as, settled_of}
use Rattle.board_model.specs.Keys.{name_at}
use Rattle.board_model.specs.NameLaws.{AreNamedApart, RestsOn}
use Rattle.board_model.specs.Runs.{Note}
use Rattle.board_model.specs.Slots.{Asking, SettledSlot, Setup, Slot, Standing, ask_of, item_in}
use Rattle.board_model.specs.Uses.{Free, WantedPart, wanted_part}
use Rattle.commit_journal.specs.Changes.{AreAllStaged, CanRecord, Filled, IsNone, filled, filled_all, all_changed_names}
use Rattle.commit_journal.specs.Commits.{KeepsUnchangedFiles}
use Rattle.commit_journal.specs.Runs.{Commit, CommitHasBegun, HasCommitted, CommitProgress}
use Rattle.commit_journal.specs.declared.changing.Change.{Change}
use Rattle.commit_journal.specs.declared.error.JournalError.{JournalError}
use Rattle.commit_journal.specs.declared.error.JournalError.TheVariants as journals
use Rattle.journal_model.specs.Names.{IsPutName, partial}
use Rattle.journal_model.specs.Rest.{IsAtRest, IsSynced, part_bytes, part_file}
use Rattle.list_commits.specs.Changes.{changes_for}
use Rattle.list_commits.specs.Made.{IsCommitStopped, CommitsMade, NoCommitBegun, after_all, makes}
use Rattle.list_commits.specs.RecordLaws.{AreGathered, IsSyncedPart}
use Rattle.list_commits.specs.SetLaws.{HasSum, HaveSums}
use Rattle.run_jobs.specs.Coupling.{HasWantedPart, HasWantedParts}
use Rattle.run_jobs.specs.Refusals.{run_error_for}
use Rattle.run_jobs.specs.Running.{RunStart, RunHasHeard, IsSoundBegun, IsUnderWay}
use Rattle.run_jobs.specs.declared.error.RunError.{RunError}
use Rattle.run_jobs.specs.declared.error.RunError.TheVariants.{BadJournal, DiskFault, NoMemory}
use Rattle.run_model.specs.Begun.{RunInput}
use Rattle.run_model.specs.Groups.{Group, SetOf, AreGroups, AreCommitGroups, IsNewSet, all_groups, commit_of, commits_of, removed_in, sources_in}
use Rattle.run_model.specs.Runs.{MayBeStopped, is_installed}
use Rattle.update_model.specs.Outcomes.{PartFiles}
use Rattle.update_model.specs.declared.ask.Body.{Body}
use Rattle.update_model.specs.declared.ask.Body.TheVariants.{Bytes, Staged}
use Rattle.update_model.specs.declared.settled.Held.{Held}
use Rattle.update_model.specs.declared.settled.Settled.{Settled}
use Rattle.update_model.specs.declared.settled.Verdict2.{Verdict2}
use Rattle.update_model.specs.declared.settled.Verdict2.TheVariants.{Installed}
use Rattle.board_model.proofs.Askers.{Asks, asker-asks}
use Rattle.board_model.proofs.Events.{ready-slot}
use Rattle.board_model.proofs.JobStart.{ready-asks, settled-asks}
use Rattle.board_model.proofs.Making.{none-in}
use Rattle.acq_outside.proofs.Going.{no_time}
use Rattle.host_queues.proofs.Changes.{get-changed}
use Rattle.host_queues.specs.Lanes.{changed_at}
use Rattle.journal_model.proofs.Views.{partial_apart, partial_not_journal}
use Rattle.commit_journal.proofs.Prepares.{settled_at}
use Rattle.board_bounds.proofs.Walking.{at_all}
use Rattle.run_model.proofs.Loose.{among}
use Rattle.run_model.proofs.Names.{in_plan, sources_apart}
use Rattle.run_model.proofs.Finishing.{is_held}
use Rattle.run_jobs.proofs.Agreed.{heard_still, reached_told, run_agrees}
use Rattle.run_jobs.proofs.Keeping.{stays_holds, told_back}
use Rattle.run_jobs.proofs.Lists.{HasLists, KeepsAsked, lists_stay}
use Rattle.list_commits.proofs.Apart.{apart_of, here, there}
use Rattle.job_fetch.specs.Hearing.{name_of}
use Rattle.lane_pool.specs.Pool.{Pool}
use Rattle.lane_jobs.specs.Going.{AreOut, IsTransfer, run_lanes}
use Rattle.lane_jobs.specs.JobsOut.{JobsOut}
use Rattle.lane_jobs.specs.declared.transfers.Transfer.{Transfer}
use Rattle.lane_jobs.proofs.Kept.{StaysFor, transfer_still}
use Rattle.lane_jobs.proofs.Places.{staged_list}
use Rattle.update_engine.proofs.Known.{CommittingLaws}
use Rattle.update_engine.proofs.Lists.{told_on}
use Rattle.update_engine.specs.Session.{KeepsRunGoing, HasMadeSets, HasProgress, CommitsOneSource, MayCommit, StopsBetweenAsks, begun_of, installed_in}
use Rattle.update_engine.proofs.Beside.{aside_committed, aside_none}
use Rattle.update_engine.specs.Run.{IsListOf, KeepsAside}
use Rattle.update_engine.proofs.Naming.{release_free, which_name}
use Rattle.update_engine.proofs.OnBoards.{as_open, heard_settled, is_of, lists_settled, owns, told_more, under_settled, uses_settled}

-- a source comes to a new set, of a run that is under way
pub record IsSettling (start : RunStart) (notes : List Note) (b : Board) (n : ℕ) (settled : Settled) (now : List State) : Type 0 where
  pub sound : IsSoundBegun start
  pub under : IsUnderWay start notes b now
  pub ready : first_ready b.slots ≡ Some n
  pub comes : settled_of b n ≡ Some settled

-- what is known of its source then
pub record IsChanging (start : RunStart) (b : Board) (n : ℕ) (settled : Settled) : Type 0 where
  pub source : Source
  pub here_is : slice_get b.config.sources n ≡ Some source
  pub source_is : slice_get start.config.sources n ≡ Some source
  pub planned : IsPlanned source
  pub gathered : AreGathered start.config.sources ((source, settled) ∷ [])
  pub former : Verdict2
  pub former_is : slice_get b.verdicts n ≡ Some former

pub changing : CommittingLaws → (start : RunStart) (notes : List Note) (b : Board) (n : ℕ) (settled : Settled) (now : List State) → IsSettling start notes b n settled now → IsChanging start b n settled
changing laws start notes b n settled now s =
    let o = is_of b n settled s.comes in
    let source_is : slice_get start.config.sources n ≡ Some o.source = subst (λ (c : Setup). slice_get c.sources n ≡ Some o.source) s.under.heard.config o.source_is in
    let planned = at_all IsPlanned start.config.sources n o.source s.sound.planned source_is in
    let open_at = as_open laws.settling start.config s.under.heard.olds notes b n o.source o.slot s.under.heard.reached s.ready source_is o.slot_is in
    let own = owns laws.settling start.config notes b n o.source o.slot settled open_at o.comes_to planned in
    let names : names_of o.source ++ [] ≡ names_of o.source = append-nil (names_of o.source) in
    record {
      source = o.source;
      here_is = o.source_is;
      source_is = source_is;
      planned = planned;
      gathered = record {
        put = (record { put = laws.put_names o.source planned; listed = laws.list_names o.source planned; others = laws.other_names o.source planned }, tt);
        own = (own, tt);
        among = λ name is. in_plan start.config.sources n o.source name source_is (subst (λ (ns : List (List ℕ)). Contains ns name) names is);
        distinct = subst (λ (ns : List (List ℕ)). AllPairs (λ a b. a ≢ b) ns) (sym names) planned.distinct;
        few = subst (λ (ns : List (List ℕ)). length ns ≤ 4096) (sym names) planned.few;
      };
      former = open_at.verdict;
      former_is = open_at.verdict_is;
    }

-- ---- the commit's conditions

pub can_record : CommittingLaws → (start : RunStart) (b : Board) (n : ℕ) (settled : Settled) (c : IsChanging start b n settled) → CanRecord (changes_for c.source settled ∷ [])
can_record laws start b n settled c = laws.can start.config.sources ((c.source, settled) ∷ []) None c.gathered tt

last_put : (wanted : List ℕ → WantedPart) (first : PartFiles) (s : State) (past : List State) (name : ListName) (body : Body) → RestsOn wanted (name, body) → HasWantedParts wanted first (s ∷ past) → IsSyncedPart s name body
last_put wanted first s past name (Bytes bytes) on uses = tt
last_put wanted first s past name (Staged sum) on uses =
    let holds = rw on at (uses.each name.0 tt) in
    (holds.bytes, record { is = holds.file })

pub last_puts : (wanted : List ℕ → WantedPart) (first : PartFiles) (s : State) (past : List State) (puts : List (ListName × Body)) → Each (RestsOn wanted) puts → HasWantedParts wanted first (s ∷ past) → Each (λ (put : ListName × Body). IsSyncedPart s put.0 put.1) puts
last_puts wanted first s past [] on uses = tt
last_puts wanted first s past ((name, body) ∷ puts) on uses = (last_put wanted first s past name body on.0 uses, last_puts wanted first s past puts on.1 uses)

pub puts_rest : CommittingLaws → (start : RunStart) (notes : List Note) (b : Board) (n : ℕ) (settled : Settled) (now : List State) → IsSettling start notes b n settled now → Each (RestsOn (wanted_part b)) settled.puts
puts_rest laws start notes b n settled now s = laws.puts b n settled (subst AreNamedApart (sym s.under.heard.config) s.sound.apart) s.comes

pub are_staged : CommittingLaws → (start : RunStart) (notes : List Note) (b : Board) (n : ℕ) (settled : Settled) (now : List State) (source : Source) → IsSettling start notes b n settled now
    → IsNow (AreAllStaged (changes_for source settled ∷ [])) now
are_staged laws start notes b n settled [] source s = tt
are_staged laws start notes b n settled (state ∷ past) source s =
    laws.staged ((source, settled) ∷ []) None state (last_puts (wanted_part b) start.parts state past settled.puts (puts_rest laws start notes b n settled (state ∷ past) s) s.under.uses, tt)

-- ---- the sums of what is put

bytes_synced : (now : List State) (name bytes : List ℕ) → part_file now name ≡ Some (synced bytes) → part_bytes now name ≡ bytes
bytes_synced now name bytes e = rw e refl

sum_put : (wanted : List ℕ → WantedPart) (first : PartFiles) (now : List State) (name : ListName) (body : Body) → IsTold now → RestsOn wanted (name, body) → HasWantedParts wanted first now → HasSum (part_bytes now) name body
sum_put wanted first now name (Bytes bytes) told on uses = tt
sum_put wanted first now name (Staged sum) told on uses =
    let holds = rw on at (uses.each name.0 told) in
    ap sum_of (bytes_synced now name.0 holds.bytes holds.file) ∙ holds.sums

sums_puts : (wanted : List ℕ → WantedPart) (first : PartFiles) (now : List State) (puts : List (ListName × Body)) → IsTold now → Each (RestsOn wanted) puts → HasWantedParts wanted first now → Each (λ (put : ListName × Body). HasSum (part_bytes now) put.0 put.1) puts
sums_puts wanted first now [] told on uses = tt
sums_puts wanted first now ((name, body) ∷ puts) told on uses = (sum_put wanted first now name body told on.0 uses, sums_puts wanted first now puts told on.1 uses)

pub have_sums : CommittingLaws → (start : RunStart) (notes : List Note) (b : Board) (n : ℕ) (settled : Settled) (now : List State) → IsTold now → IsSettling start notes b n settled now → HaveSums (part_bytes now) settled
have_sums laws start notes b n settled now told s = sums_puts (wanted_part b) start.parts now settled.puts told (puts_rest laws start notes b n settled now s) s.under.uses

-- ---- what is wanted of lists on their way is there behind it

holds_free : (wanted : WantedPart) (name first : List ℕ) (now : List State) → wanted ≡ Free → HasWantedPart wanted name first now
holds_free wanted name first now e = rw e tt

-- the lists of other sources stay
unnamed : CommittingLaws → (start : RunStart) (b : Board) (n : ℕ) (settled : Settled) (c : IsChanging start b n settled) (name : List ℕ) → (Contains (names_of c.source) name → ⊥) → IsNone (partial name) (all_changed_names (changes_for c.source settled ∷ []))
unnamed laws start b n settled c name out =
    let names : names_of c.source ++ [] ≡ names_of c.source = append-nil (names_of c.source) in
    laws.others start.config.sources ((c.source, settled) ∷ []) None (partial name) c.gathered
    (λ is. laws.other_names c.source c.planned (partial name) name (subst (λ (ns : List (List ℕ)). Contains ns (partial name)) names is) refl)
    (λ other is. partial_apart other name (λ same. out (subst (λ (x : List ℕ). Contains (names_of c.source) x) same (subst (λ (ns : List (List ℕ)). Contains ns other) names is))))
    (none-in (partial name))

-- and nothing is wanted of those of this one
own_free : CommittingLaws → (start : RunStart) (b : Board) (n : ℕ) (settled : Settled) (c : IsChanging start b n settled) (name : List ℕ) → AreNamedApart b.config → settled_of b n ≡ Some settled → Contains (names_of c.source) name
    → wanted_part (settled_as b n settled.verdict) name ≡ Free
own_free laws start b n settled c name apart comes within = elim (which_name c.source name within) [
  | inl same ↦ subst (λ (x : List ℕ). wanted_part (settled_as b n settled.verdict) x ≡ Free) same (release_free (settled_as b n settled.verdict) n c.source apart c.here_is)
  | inr t ↦ subst (λ (x : List ℕ). wanted_part (settled_as b n settled.verdict) x ≡ Free) t.is (laws.free b n t.k c.source t.target settled settled.verdict apart comes c.here_is t.at)
]

pub uses_committed : CommittingLaws → (start : RunStart) (notes : List Note) (b : Board) (n : ℕ) (settled : Settled) (old now : List State) → IsSettling start notes b n settled old → (c : IsChanging start b n settled)
    → (IsTold now → IsTold old) → KeepsUnchangedFiles (changes_for c.source settled ∷ []) old now → HasWantedParts (wanted_part (settled_as b n settled.verdict)) start.parts now
uses_committed laws start notes b n settled old now s c back keeps = record { each = λ name told. one name told (among name (names_of c.source)) }
  where
    apart : AreNamedApart b.config
    apart = subst AreNamedApart (sym s.under.heard.config) s.sound.apart

    one : (name : List ℕ) → IsTold now → Contains (names_of c.source) name ⊎ (Contains (names_of c.source) name → ⊥) → HasWantedPart (wanted_part (settled_as b n settled.verdict) name) name (start.parts name) now
    one name told (inl within) = holds_free (wanted_part (settled_as b n settled.verdict) name) name (start.parts name) now (own_free laws start b n settled c name apart s.comes within)
    one name told (inr out) = stays_holds (wanted_part (settled_as b n settled.verdict) name) name (start.parts name) old now (keeps (partial name) (partial_not_journal name) (unnamed laws start b n settled c name out))
        ((uses_settled laws.settling b n settled.verdict start.parts old s.under.uses).each name (back told))

-- ---- what is installed of the sources whose Releases are asked for is there behind it

-- the lists of other sources are none of its changes
unchanged_list : CommittingLaws → (start : RunStart) (b : Board) (n : ℕ) (settled : Settled) (c : IsChanging start b n settled) (other : Source) (name : List ℕ) → IsPlanned other → Contains (names_of other) name → (Contains (names_of c.source) name → ⊥)
    → IsNone name (all_changed_names (changes_for c.source settled ∷ []))
unchanged_list laws start b n settled c other name planned own out =
    let names : names_of c.source ++ [] ≡ names_of c.source = append-nil (names_of c.source) in
    laws.others start.config.sources ((c.source, settled) ∷ []) None name c.gathered
    (λ is. out (subst (λ (ns : List (List ℕ)). Contains ns name) names is))
    (λ list is. laws.other_names other planned name list own)
    (none-in name)

-- a source that is settled asks for no Release
asked_elsewhere : (b : Board) (n m : ℕ) (verdict : Verdict2) (files : Old) (release : Standing) → slice_get (settled_as b n verdict).slots m ≡ Some (Asking files release) → n ≢ m
asked_elsewhere b n m verdict files release asks = λ same.
    let at : slice_get (changed_at n (λ slot. SettledSlot) b.slots) n ≡ Some (Asking files release) = subst (λ (k : ℕ). slice_get (changed_at n (λ slot. SettledSlot) b.slots) k ≡ Some (Asking files release)) (sym same) asks in
    one (slice_get b.slots n) (sym (get-changed (λ slot. SettledSlot) b.slots n) ∙ at)
  where
    one : (o : Option Slot) → option_map (λ (slot : Slot). SettledSlot) o ≡ Some (Asking files release) → ⊥
    one None is = absurd (cc)
    one (Some slot) is = absurd (cc)

keeps_asked : CommittingLaws → (start : RunStart) (notes : List Note) (b : Board) (n : ℕ) (settled : Settled) (old now : List State) → IsSettling start notes b n settled old → (c : IsChanging start b n settled)
    → KeepsUnchangedFiles (changes_for c.source settled ∷ []) old now → KeepsAsked (settled_as b n settled.verdict) old now
keeps_asked laws start notes b n settled old now s c keeps m source files release at asks name own =
    let elsewhere : n ≢ m = asked_elsewhere b n m settled.verdict files release asks in
    let apart : AreNamedApart b.config = subst AreNamedApart (sym s.under.heard.config) s.sound.apart in
    let source_is : slice_get start.config.sources m ≡ Some source = subst (λ (x : Setup). slice_get x.sources m ≡ Some source) s.under.heard.config at in
    let planned = at_all IsPlanned start.config.sources m source s.sound.planned source_is in
    keeps name (All-contains IsPutName (names_of source) name (laws.put_names source planned) own).not_journal
    (unchanged_list laws start b n settled c source name planned own
    (λ within. sources_apart b.config.sources n m c.source source name (apart_of (flat_map names_of b.config.sources) apart) c.here_is at elsewhere within own))

lists_committed : CommittingLaws → (start : RunStart) (notes : List Note) (b : Board) (n : ℕ) (settled : Settled) (old now : List State) → IsSettling start notes b n settled old → (c : IsChanging start b n settled)
    → (IsTold now → IsTold old) → KeepsUnchangedFiles (changes_for c.source settled ∷ []) old now → HasLists (settled_as b n settled.verdict) now
lists_committed laws start notes b n settled old now s c back keeps =
    lists_stay laws.settling.lists (settled_as b n settled.verdict) old now back (keeps_asked laws start notes b n settled old now s c keeps) (lists_settled laws.settling b n settled.verdict old s.under.lists)

pub under_committed : CommittingLaws → (start : RunStart) (notes : List Note) (b : Board) (n : ℕ) (settled : Settled) (old now : List State) → IsSettling start notes b n settled old → (c : IsChanging start b n settled)
    → (IsTold now → IsTold old) → KeepsUnchangedFiles (changes_for c.source settled ∷ []) old now → IsUnderWay start notes (settled_as b n settled.verdict) now
under_committed laws start notes b n settled old now s c back keeps =
    record {
      heard = heard_still start notes (settled_as b n settled.verdict) old now back (heard_settled laws.settling start notes b n settled old s.ready s.comes s.under.heard);
      uses = uses_committed laws start notes b n settled old now s c back keeps;
      lists = lists_committed laws start notes b n settled old now s c back keeps;
    }

-- ---- the commits with one more

one_group : (part : List ℕ → List ℕ) (n : ℕ) (changes : List Change) → filled_all part (changes ∷ []) ≡ commit_of (SetOf n (filled part changes) ∷ [])
unfolding filled_all
one_group part n changes = refl

pub commits_last : (commits : List (List Group)) (groups : List Group) → commits_of (commits ++ groups ∷ []) ≡ commits_of commits ++ commit_of groups ∷ []
commits_last [] groups = refl
commits_last (other ∷ commits) groups = ap (λ (cs : List Commit). commit_of other ∷ cs) (commits_last commits groups)

groups_last : (begun : RunInput) (heard : List Note) (commits : List (List Group)) (n : ℕ) (changes : List Filled) → Each CommitsOneSource commits → AreGroups begun heard (all_groups commits) → IsNewSet begun heard n changes
    → AreGroups begun heard (all_groups (commits ++ (SetOf n changes ∷ []) ∷ []))
groups_last begun heard [] n changes each are new_set = (new_set, tt)
groups_last begun heard (groups ∷ commits) n changes each are new_set =
    let first = each.0 in
    let rest : AreGroups begun heard (SetOf first.n first.changes ∷ all_groups commits) = subst (λ (gs : List Group). AreGroups begun heard (gs ++ all_groups commits)) first.is are in
    subst (λ (gs : List Group). AreGroups begun heard (gs ++ all_groups (commits ++ (SetOf n changes ∷ []) ∷ []))) (sym first.is) (rest.0, groups_last begun heard commits n changes each.1 rest.1 new_set)

sources_last : (commits : List (List Group)) (n : ℕ) (changes : List Filled) → Each CommitsOneSource commits → sources_in (all_groups (commits ++ (SetOf n changes ∷ []) ∷ [])) ≡ sources_in (all_groups commits) ++ n ∷ []
sources_last [] n changes each = refl
sources_last (groups ∷ commits) n changes each =
    let first = each.0 in
    subst (λ (gs : List Group). sources_in (gs ++ all_groups (commits ++ (SetOf n changes ∷ []) ∷ [])) ≡ sources_in (gs ++ all_groups commits) ++ n ∷ []) (sym first.is)
    (ap (λ (ns : List ℕ). first.n ∷ ns) (sources_last commits n changes each.1))

each_last : (commits : List (List Group)) (n : ℕ) (changes : List Filled) → Each CommitsOneSource commits → Each CommitsOneSource (commits ++ (SetOf n changes ∷ []) ∷ [])
each_last [] n changes each = (record { n = n; changes = changes; is = refl }, tt)
each_last (groups ∷ commits) n changes each = (each.0, each_last commits n changes each.1)

pub have_shape : (commits : List (List Group)) → Each CommitsOneSource commits → AreCommitGroups false commits
have_shape [] each = tt
have_shape (groups ∷ commits) each = (ap length each.0.is, have_shape commits each.1)

pub new_set : CommittingLaws → (start : RunStart) (notes : List Note) (b : Board) (n : ℕ) (settled : Settled) (old : List State) (held : Held) → IsTold old → IsSettling start notes b n settled old → (c : IsChanging start b n settled)
    → settled.verdict ≡ Installed held → IsNewSet (begun_of start) notes n (filled (part_bytes old) (changes_for c.source settled))
new_set laws start notes b n settled old held told s c installs = record {
  source = c.source;
  source_is = c.source_is;
  settled = settled;
  settles = record { notes = notes; later = []; so_far = sym (append-nil notes); board = b; reached = reached_told start notes b old s.under.heard told; ready = s.ready; comes_to = s.comes };
  held = held;
  installs = installs;
  staged = part_bytes old;
  sums = have_sums laws start notes b n settled old told s;
  are = refl;
}

-- what is told as installed then
pub told_installed : CommittingLaws → (start : RunStart) (notes : List Note) (b : Board) (n : ℕ) (settled : Settled) (old : List State) → IsSettling start notes b n settled old → (c : IsChanging start b n settled)
    → installed_in (settled_as b n settled.verdict) ≡ installed_in b ++ (if is_installed settled.verdict then n ∷ [] else [])
told_installed laws start notes b n settled old s c =
    let reached = laws.settling.reached start.config s.under.heard.olds notes b n settled s.under.heard.reached s.ready s.comes in
    told_more b n settled.verdict c.former c.former_is (laws.settling.once start.config s.under.heard.olds notes (settled_as b n settled.verdict) reached).once

told_new : CommittingLaws → (start : RunStart) (notes : List Note) (b : Board) (n : ℕ) (settled : Settled) (old : List State) (held : Held) → IsSettling start notes b n settled old → (c : IsChanging start b n settled)
    → settled.verdict ≡ Installed held → installed_in (settled_as b n settled.verdict) ≡ installed_in b ++ n ∷ []
told_new laws start notes b n settled old held s c installs =
    told_installed laws start notes b n settled old s c ∙ ap (λ (v : Verdict2). installed_in b ++ (if is_installed v then n ∷ [] else [])) installs

-- and of no other source a list on its way changes
more_installed : CommittingLaws → (start : RunStart) (notes : List Note) (b : Board) (n : ℕ) (settled : Settled) (old : List State) (held : Held) → IsSettling start notes b n settled old → (c : IsChanging start b n settled)
    → settled.verdict ≡ Installed held → (m : ℕ) → Contains (installed_in b) m → Contains (installed_in (settled_as b n settled.verdict)) m
more_installed laws start notes b n settled old held s c installs m is =
    subst (λ (ns : List ℕ). Contains ns m) (sym (told_new laws start notes b n settled old held s c installs)) (Contains-append_left (installed_in b) (n ∷ []) m is)

aside_new : CommittingLaws → (start : RunStart) (notes : List Note) (b : Board) (n : ℕ) (settled : Settled) (old now : List State) (held : Held) → IsSettling start notes b n settled old → (c : IsChanging start b n settled)
    → settled.verdict ≡ Installed held → KeepsUnchangedFiles (changes_for c.source settled ∷ []) old now → KeepsAside start.config.sources (IsListOf start.config.sources (installed_in (settled_as b n settled.verdict))) [] old now
aside_new laws start notes b n settled old now held s c installs keeps =
    let here_too : Contains (installed_in (settled_as b n settled.verdict)) n = subst (λ (ns : List ℕ). Contains ns n) (sym (told_new laws start notes b n settled old held s c installs)) (Contains-append_right (installed_in b) (n ∷ []) n (here n [] n refl)) in
    aside_committed start.config.sources (IsListOf start.config.sources (installed_in (settled_as b n settled.verdict))) (changes_for c.source settled ∷ []) old now (can_record laws start b n settled c) keeps
    (λ name out. unnamed laws start b n settled c name (λ within. out (record { n = n; source = c.source; at = c.source_is; own = within; among = here_too })))

-- the sets so far, and one more
pub sets_committed : CommittingLaws → (start : RunStart) (notes : List Note) (opened : List State) (b : Board) (n : ℕ) (settled : Settled) (old now : List State) (held : Held) → IsSettling start notes b n settled old → (c : IsChanging start b n settled)
    → settled.verdict ≡ Installed held → IsTold now → HasCommitted (filled_all (part_bytes old) (changes_for c.source settled ∷ [])) old now
    → HasMadeSets (begun_of start) notes opened old b → HasMadeSets (begun_of start) notes opened now (settled_as b n settled.verdict)
sets_committed laws start notes opened b n settled old now held s c installs told done sets =
    let changes = filled (part_bytes old) (changes_for c.source settled) in
    let installed = told_new laws start notes b n settled old held s c installs in
    record {
      told = told;
      commits = sets.commits ++ (SetOf n changes ∷ []) ∷ [];
      made = subst (λ (cs : List Commit). CommitsMade cs opened now) (sym (commits_last sets.commits (SetOf n changes ∷ [])))
          (makes sets.made (commit_of (SetOf n changes ∷ [])) (subst (λ (x : Commit). HasCommitted x old now) (one_group (part_bytes old) n (changes_for c.source settled)) done));
      each = each_last sets.commits n changes sets.each;
      groups = groups_last (begun_of start) notes sets.commits n changes sets.each sets.groups (new_set laws start notes b n settled old held sets.told s c installs);
      order = sources_last sets.commits n changes sets.each ∙ ap (λ (ns : List ℕ). ns ++ n ∷ []) sets.order ∙ sym installed;
    }

-- ---- the jobs that are out

in_targets : (targets : List Target) (k : ℕ) (name : ListName) → option_map (λ (target : Target). target.name) (slice_get targets k) ≡ Some name → Contains (map (λ (target : Target). target.name.0) targets) name.0
in_targets [] k name e = absurd (cc)
in_targets (t ∷ targets) zero name e = let same : t.name ≡ name = cc in here t.name.0 (map (λ (target : Target). target.name.0) targets) name.0 (ap (λ (x : ListName). x.0) same)
in_targets (t ∷ targets) (suc k) name e = there t.name.0 (map (λ (target : Target). target.name.0) targets) name.0 (in_targets targets k name e)

-- the list of an item is one of its source
own_name : (source : Source) (place : ℕ) (name : ListName) → name_at source place ≡ Some name → Contains (names_of source) name.0
own_name source zero name e = absurd (cc)
own_name source (suc k) name e = there source.release_name.0 (map (λ (target : Target). target.name.0) source.targets) name.0 (in_targets source.targets k name e)

-- no item of a source that is settled asks
asks_elsewhere : (b : Board) (n number : ℕ) (a : Asker) → first_ready b.slots ≡ Some n → asker_of b number ≡ Some a → n ≢ a.key.source
asks_elsewhere b n number a ready asks = λ same.
    let known : Asks b number a = asker-asks b number a asks in
    let found = ready-slot b.slots n ready in
    let both : Some known.slot ≡ Some found.0 = sym known.slot_is ∙ (ap (slice_get b.slots) (sym same) ∙ found.1) in
    let slot : known.slot ≡ found.0 = cc in
    let none : ask_of (item_in known.slot a.key.place) ≡ None = subst (λ (x : Slot). ask_of (item_in x a.key.place) ≡ None) (sym slot) (ready-asks found.0 a.key.place found.2) in
    let wrong : Some a.ask ≡ None = sym known.asks ∙ none in
    absurd (cc)

-- so its list is none of that source
staged_elsewhere : (b : Board) (n number : ℕ) (source : Source) (a : Asker) (name : ListName) → AreNamedApart b.config → first_ready b.slots ≡ Some n → slice_get b.config.sources n ≡ Some source → asker_of b number ≡ Some a
    → name_staged a ≡ Some name → Contains (names_of source) name.0 → ⊥
staged_elsewhere b n number source a name apart ready source_is asks staged within =
    let known : Asks b number a = asker-asks b number a asks in
    sources_apart b.config.sources n a.key.source source a.source name.0 (apart_of (flat_map names_of b.config.sources) apart) source_is known.source_is (asks_elsewhere b n number a ready asks) within
    (own_name a.source a.key.place name (staged_list a name staged))

-- the files of jobs that are out stay
abbrev KeepsStaged : Board → List State → List State → Type 0
KeepsStaged b old now = (number : ℕ) (a : Asker) (name : ListName) → asker_of b number ≡ Some a → name_staged a ≡ Some name → part_file now name.0 ≡ part_file old name.0

stays_for : (start : RunStart) (b : Board) (old now : List State) (world : Option MirrorMap) (t : Transfer) → IsTransfer start b old world t → KeepsStaged b old now → StaysFor (name_of t.intake) old now
stays_for start b old now world t is keeps = by (name_staged is.a) refl is.list
  where
    by : (o : Option ListName) → name_staged is.a ≡ o → name_of t.intake ≡ option_map (λ (name : ListName). name.0) o → StaysFor (name_of t.intake) old now
    by None staged list = subst (λ (x : Option (List ℕ)). StaysFor x old now) (sym list) tt
    by (Some name) staged list = subst (λ (x : Option (List ℕ)). StaysFor x old now) (sym list) (keeps t.job.no is.a name is.asks staged)

-- each is its item's still
out_settled : (start : RunStart) (b : Board) (n : ℕ) (verdict : Verdict2) (old now : List State) (pool : Pool) (jobs : JobsOut) → first_ready b.slots ≡ Some n → (IsTold now → IsTold old) → KeepsStaged b old now
    → AreOut start (run_lanes pool jobs b) old → AreOut start (run_lanes pool jobs (settled_as b n verdict)) now
out_settled start b n verdict old now pool jobs ready back keeps out = record {
  numbers = out.numbers;
  each = λ lane t at.
      let is : IsTransfer start b old (slice_index_or start.mirrors (suc lane) None) t = out.each lane t at in
      transfer_still start b (settled_as b n verdict) old now (slice_index_or start.mirrors (suc lane) None) t is (settled-asks b n t.job.no verdict ready ∙ is.asks) back
      (stays_for start b old now (slice_index_or start.mirrors (suc lane) None) t is keeps);
  given = out.given;
}

keeps_staged : CommittingLaws → (start : RunStart) (notes : List Note) (b : Board) (n : ℕ) (settled : Settled) (old now : List State) → IsSettling start notes b n settled old → (c : IsChanging start b n settled)
    → KeepsUnchangedFiles (changes_for c.source settled ∷ []) old now → KeepsStaged b old now
keeps_staged laws start notes b n settled old now s c keeps = λ number a name asks staged.
    keeps (partial name.0) (partial_not_journal name.0)
    (unnamed laws start b n settled c name.0 (staged_elsewhere b n number c.source a name (subst AreNamedApart (sym s.under.heard.config) s.sound.apart) s.ready c.here_is asks staged))

-- ---- a stop

-- the disk was synced behind the commits that were made
pub settled_made : CommittingLaws → (commits : List Commit) (lists : Files) (opened now : List State) → CommitsMade commits opened now → IsNow (IsAtRest lists) opened → IsNow IsSynced now
settled_made laws commits lists opened now made rest = settled_at (after_all commits lists) now (laws.leaves commits lists opened now made rest)

pub none_removed : (commits : List (List Group)) → Each CommitsOneSource commits → removed_in (all_groups commits) ≡ []
none_removed [] each = refl
none_removed (groups ∷ commits) each = subst (λ (gs : List Group). removed_in (gs ++ all_groups commits) ≡ []) (sym each.0.is) (none_removed commits each.1)

unfoldable pub has_begun : (start : RunStart) (notes : List Note) (b : Board) (now : List State) (lists : Files) (commits : List (List Group)) → RunHasHeard start notes b now → IsTold now → Each CommitsOneSource commits
    → AreGroups (begun_of start) notes (all_groups commits) → sources_in (all_groups commits) ≡ installed_in b → MayBeStopped false (begun_of start) lists commits
has_begun start notes b now lists commits heard told each groups order = record {
  heard = notes;
  board = b;
  reached = reached_told start notes b now heard told;
  groups = groups;
  may = inl (record { rest = []; order = sym order ∙ sym (append-nil (sources_in (all_groups commits))); no_clean_up = none_removed commits each });
  in_turn = tt;
  shape = have_shape commits each;
}

-- where nothing was done, no commit was begun
pub nothing_begun : (old now : List State) → now ≡ old → NoCommitBegun old now
nothing_begun old now same = record { lists = no_time old now _ same; rest = no_time old now _ same }

-- where no commit was begun
pub stops_unbegun : CommittingLaws → (error : RunError) (start : RunStart) (notes : List Note) (lists : Files) (opened : List State) (b : Board) (old now : List State) → RunHasHeard start notes b old → NoCommitBegun old now → (IsNow IsSynced old → IsNow IsSynced now)
    → HasMadeSets (begun_of start) notes opened old b → HasProgress error start false lists opened now
unfolding has_begun
stops_unbegun laws error start notes lists opened b old now heard unbegun settled sets = record {
  commits = sets.commits;
  acknowledged = length (commits_of sets.commits);
  started = length (commits_of sets.commits);
  progress = laws.unbegun (commits_of sets.commits) opened old now sets.made unbegun;
  whole = λ dry. refl;
  has = has_begun start notes b old lists sets.commits heard sets.told sets.each sets.groups sets.order;
  agrees = λ told. run_agrees start notes old heard sets.told;
  synced = λ rest. settled (settled_made laws (commits_of sets.commits) lists opened old sets.made rest);
}

-- where the next was
pub stops_begun : CommittingLaws → (error : RunError) (start : RunStart) (notes : List Note) (lists : Files) (opened : List State) (b : Board) (n : ℕ) (settled : Settled) (old now : List State) (held : Held) → IsSettling start notes b n settled old
    → (c : IsChanging start b n settled) → settled.verdict ≡ Installed held → CommitHasBegun (filled_all (part_bytes old) (changes_for c.source settled ∷ [])) old now → error ≢ NoMemory → (IsNow IsSynced old → IsNow IsSynced now)
    → HasMadeSets (begun_of start) notes opened old b → HasProgress error start false lists opened now
unfolding has_begun
stops_begun laws error start notes lists opened b n settled old now held s c installs begun moist is_settled sets =
    let changes = filled (part_bytes old) (changes_for c.source settled) in
    let group = SetOf n changes ∷ [] in
    let heard = heard_settled laws.settling start notes b n settled old s.ready s.comes s.under.heard in
    record {
      commits = sets.commits ++ group ∷ [];
      acknowledged = length (commits_of sets.commits);
      started = suc (length (commits_of sets.commits));
      progress = subst (λ (cs : List Commit). CommitProgress cs (length (commits_of sets.commits)) (suc (length (commits_of sets.commits))) opened now) (sym (commits_last sets.commits group))
          (laws.begun (commits_of sets.commits) (commit_of group) opened old now sets.made (subst (λ (x : Commit). CommitHasBegun x old now) (one_group (part_bytes old) n (changes_for c.source settled)) begun));
      whole = λ dry. absurd (moist dry);
      has = has_begun start notes (settled_as b n settled.verdict) old lists (sets.commits ++ group ∷ []) heard sets.told (each_last sets.commits n changes sets.each)
          (groups_last (begun_of start) notes sets.commits n changes sets.each sets.groups (new_set laws start notes b n settled old held sets.told s c installs))
          (sources_last sets.commits n changes sets.each ∙ ap (λ (ns : List ℕ). ns ++ n ∷ []) sets.order ∙ sym (told_new laws start notes b n settled old held s c installs));
      agrees = λ told. run_agrees start notes old s.under.heard sets.told;
      synced = λ rest. is_settled (settled_made laws (commits_of sets.commits) lists opened old sets.made rest);
    }

pub stops_committing : CommittingLaws → (error : RunError) (start : RunStart) (notes : List Note) (lists : Files) (opened : List State) (b : Board) (n : ℕ) (settled : Settled) (old now : List State) (held : Held) → IsSettling start notes b n settled old
    → (c : IsChanging start b n settled) → settled.verdict ≡ Installed held → IsCommitStopped (filled_all (part_bytes old) (changes_for c.source settled ∷ [])) old now → (error ≡ NoMemory → now ≡ old) → (IsNow IsSynced old → IsNow IsSynced now)
    → HasMadeSets (begun_of start) notes opened old b → HasProgress error start false lists opened now
stops_committing laws error start notes lists opened b n settled old now held s c installs (inl unbegun) dry is_settled sets = stops_unbegun laws error start notes lists opened b old now s.under.heard unbegun is_settled sets
stops_committing laws NoMemory start notes lists opened b n settled old now held s c installs (inr begun) dry is_settled sets = stops_unbegun laws NoMemory start notes lists opened b old now s.under.heard (nothing_begun old now (dry refl)) is_settled sets
stops_committing laws DiskFault start notes lists opened b n settled old now held s c installs (inr begun) dry is_settled sets = stops_begun laws DiskFault start notes lists opened b n settled old now held s c installs begun (λ is. absurd (cc)) is_settled sets
stops_committing laws (BadJournal at) start notes lists opened b n settled old now held s c installs (inr begun) dry is_settled sets = stops_begun laws (BadJournal at) start notes lists opened b n settled old now held s c installs begun (λ is. absurd (cc)) is_settled sets

-- ---- what the settling of a source comes to

-- no new set was there
pub goes_settled : CommittingLaws → (b c : Board) (n : ℕ) (settled : Settled) (now : List State) → first_ready b.slots ≡ Some n → settled_of b n ≡ Some settled → c ≡ settled_as b n settled.verdict → is_installed settled.verdict ≡ false
    → KeepsRunGoing b c now now
goes_settled laws b c n settled now ready comes same none_new = subst (λ (x : Board). KeepsRunGoing b x now now) (sym same) (record {
  under_way = λ start notes sound under. under_settled laws.settling start notes b n settled now ready comes under;
  made = λ start notes opened sound under sets. record {
    told = sets.told;
    commits = sets.commits;
    made = sets.made;
    each = sets.each;
    groups = sets.groups;
    order = sets.order ∙ sym (told_none start notes sound under);
  };
  aside = λ start notes sound under. aside_none start.config.sources _ now now refl;
  more = λ start notes sound under m is. subst (λ (ns : List ℕ). Contains ns m) (sym (told_none start notes sound under)) is;
  out = λ start notes pool jobs sound under out. out_settled start b n settled.verdict now now pool jobs ready (λ told. told) (λ number a name asks staged. refl) out;
})
  where
    told_none : (start : RunStart) (notes : List Note) → IsSoundBegun start → IsUnderWay start notes b now → installed_in (settled_as b n settled.verdict) ≡ installed_in b
    told_none start notes sound under =
        let s : IsSettling start notes b n settled now = record { sound = sound; under = under; ready = ready; comes = comes } in
        let c = changing laws start notes b n settled now s in
        told_installed laws start notes b n settled now s c ∙ ap (λ (t : Bool). installed_in b ++ (if t then n ∷ [] else [])) none_new ∙ append-nil (installed_in b)

-- the groups of the commit are those of the source
abbrev pub AreGroupsOf : Board → ℕ → Settled → List (List Change) → Type 0
AreGroupsOf b n settled groups = (source : Source) → slice_get b.config.sources n ≡ Some source → groups ≡ changes_for source settled ∷ []

pub commit_can : CommittingLaws → (b : Board) (n : ℕ) (settled : Settled) (groups : List (List Change)) (now : List State) → MayCommit b now → first_ready b.slots ≡ Some n → settled_of b n ≡ Some settled → AreGroupsOf b n settled groups
    → CanRecord groups
commit_can laws b n settled groups now stands ready comes are =
    let s : IsSettling stands.start stands.notes b n settled now = record { sound = stands.sound; under = stands.under_way; ready = ready; comes = comes } in
    let c = changing laws stands.start stands.notes b n settled now s in
    subst CanRecord (sym (are c.source c.here_is)) (can_record laws stands.start b n settled c)

pub commit_staged : CommittingLaws → (b : Board) (n : ℕ) (settled : Settled) (groups : List (List Change)) (now : List State) → MayCommit b now → first_ready b.slots ≡ Some n → settled_of b n ≡ Some settled → AreGroupsOf b n settled groups
    → IsNow (AreAllStaged groups) now
commit_staged laws b n settled groups now stands ready comes are =
    let s : IsSettling stands.start stands.notes b n settled now = record { sound = stands.sound; under = stands.under_way; ready = ready; comes = comes } in
    let c = changing laws stands.start stands.notes b n settled now s in
    subst (λ (gs : List (List Change)). IsNow (AreAllStaged gs) now) (sym (are c.source c.here_is)) (are_staged laws stands.start stands.notes b n settled now c.source s)

back_committed : (commit : Commit) (old now : List State) → HasCommitted commit old now → IsTold now → IsTold old
back_committed commit old now done told = told_back _ old done.begun.prepared done.begun.before (told_back _ done.begun.prepared now done.begun.during told)

on_committed : (commit : Commit) (old now : List State) → HasCommitted commit old now → IsTold old → IsTold now
on_committed commit old now done told = told_on _ done.begun.prepared now done.begun.during (told_on _ old done.begun.prepared done.begun.before told)

-- the new set is committed
pub goes_committed : CommittingLaws → (b c : Board) (n : ℕ) (settled : Settled) (groups : List (List Change)) (old now : List State) → first_ready b.slots ≡ Some n → settled_of b n ≡ Some settled → c ≡ settled_as b n settled.verdict
    → is_installed settled.verdict ≡ true → AreGroupsOf b n settled groups → KeepsUnchangedFiles groups old now → HasCommitted (filled_all (part_bytes old) groups) old now → KeepsRunGoing b c old now
goes_committed laws b c n settled groups old now ready comes same new_one are keeps done = subst (λ (x : Board). KeepsRunGoing b x old now) (sym same) (record {
  under_way = λ start notes sound under.
      let s : IsSettling start notes b n settled old = record { sound = sound; under = under; ready = ready; comes = comes } in
      let d = changing laws start notes b n settled old s in
      under_committed laws start notes b n settled old now s d (back_committed (filled_all (part_bytes old) groups) old now done)
      (subst (λ (gs : List (List Change)). KeepsUnchangedFiles gs old now) (are d.source d.here_is) keeps);
  made = λ start notes opened sound under sets.
      let s : IsSettling start notes b n settled old = record { sound = sound; under = under; ready = ready; comes = comes } in
      let d = changing laws start notes b n settled old s in
      let held = is_held settled.verdict new_one in
      sets_committed laws start notes opened b n settled old now held.0 s d held.1 (on_committed (filled_all (part_bytes old) groups) old now done sets.told)
      (subst (λ (gs : List (List Change)). HasCommitted (filled_all (part_bytes old) gs) old now) (are d.source d.here_is) done) sets;
  aside = λ start notes sound under.
      let s : IsSettling start notes b n settled old = record { sound = sound; under = under; ready = ready; comes = comes } in
      let d = changing laws start notes b n settled old s in
      let held = is_held settled.verdict new_one in
      aside_new laws start notes b n settled old now held.0 s d held.1 (subst (λ (gs : List (List Change)). KeepsUnchangedFiles gs old now) (are d.source d.here_is) keeps);
  more = λ start notes sound under.
      let s : IsSettling start notes b n settled old = record { sound = sound; under = under; ready = ready; comes = comes } in
      let held = is_held settled.verdict new_one in
      more_installed laws start notes b n settled old held.0 s (changing laws start notes b n settled old s) held.1;
  out = λ start notes pool jobs sound under out.
      let s : IsSettling start notes b n settled old = record { sound = sound; under = under; ready = ready; comes = comes } in
      let d = changing laws start notes b n settled old s in
      out_settled start b n settled.verdict old now pool jobs ready (back_committed (filled_all (part_bytes old) groups) old now done)
      (keeps_staged laws start notes b n settled old now s d (subst (λ (gs : List (List Change)). KeepsUnchangedFiles gs old now) (are d.source d.here_is) keeps)) out;
})

-- ---- where it stops

-- nothing was done to the disk
pub stops_here : CommittingLaws → (error : RunError) (b : Board) (now : List State) → StopsBetweenAsks error b now now
stops_here laws error b now = λ start notes lists opened sound under sets.
    stops_unbegun laws error start notes lists opened b now now under.heard (nothing_begun now now refl) (λ is. is) sets

-- the commit was not made
pub stops_in_commit : CommittingLaws → (error : RunError) (b : Board) (n : ℕ) (settled : Settled) (groups : List (List Change)) (old now : List State) → first_ready b.slots ≡ Some n → settled_of b n ≡ Some settled → is_installed settled.verdict ≡ true
    → AreGroupsOf b n settled groups → IsCommitStopped (filled_all (part_bytes old) groups) old now → (error ≡ NoMemory → now ≡ old) → (IsNow IsSynced old → IsNow IsSynced now) → StopsBetweenAsks error b old now
stops_in_commit laws error b n settled groups old now ready comes new_one are stopped dry is_settled = λ start notes lists opened sound under sets.
    let s : IsSettling start notes b n settled old = record { sound = sound; under = under; ready = ready; comes = comes } in
    let d = changing laws start notes b n settled old s in
    let held = is_held settled.verdict new_one in
    stops_committing laws error start notes lists opened b n settled old now held.0 s d held.1
    (subst (λ (gs : List (List Change)). IsCommitStopped (filled_all (part_bytes old) gs) old now) (are d.source d.here_is) stopped) dry is_settled sets

pub groups_of : (b c : Board) (n : ℕ) (settled : Settled) (changes : List Change) (groups : List (List Change)) → c ≡ settled_as b n settled.verdict
    → ((source : Source) → slice_get c.config.sources n ≡ Some source → changes ≡ changes_for source settled) → groups ≡ changes ∷ [] → AreGroupsOf b n settled groups
groups_of b c n settled changes groups same made e = λ source is.
    e ∙ ap (λ (x : List Change). x ∷ []) (made source (subst (λ (x : Board). slice_get x.config.sources n ≡ Some source) (sym same) is))

pub on_err : {A E : Type 0} (r : Result A E) (P : E → Type 0) → ((error : E) → P error) → IfErr r P
on_err (Ok x) P p = tt
on_err (Err e) P p = p e

-- what holds of an error holds where it is handed on
pub handed_on : {A E : Type 0} (r : Result A E) (error : E) (P : E → Type 0) → IsErrAnd r (λ e. e ≡ error) → P error → IfErr r P
handed_on (Ok x) error P never p = absurd never
handed_on (Err e) error P same p = subst P (sym same) p

-- want of memory is handed on from the journal's alone
pub memory_of : (told : JournalError) → run_error_for told ≡ NoMemory → told ≡ journals.NoMemory
memory_of journals.DiskFault is = absurd (cc)
memory_of (journals.BadJournal at) is = absurd (cc)
memory_of journals.NoMemory is = refl
