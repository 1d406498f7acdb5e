-- A run that has ended: what each source has, and what its log tells.
use Rattle.std.proofs.Common.{◌≡◌, ◌≢◌, ◌∙◌, ⊎_elim, refl, sym, ap, subst, ℕ, Bool, true, false, List, [], ◌∷◌, ◌++◌, Contains, Some, Ok, Err}
use Rattle.std.specs.Prelude.{filter, if◌then◌else◌, slice_get}
use Rattle.std.specs.List.{flat_map, AllByRecursion as Each}
use Rattle.std.proofs.lemmas.List.{append-nil}
use Rattle.acq_base.specs.Plan.{names_of}
use Rattle.acq_base.specs.declared.installed.Old.{Old}
use Rattle.acq_base.specs.declared.plan.Source.{Source}
use Rattle.acq_base.proofs.Lists.{first-or-rest}
use Rattle.acq_outside.specs.Disk.{Files}
use Rattle.board_model.specs.Boards.{Board, is_finished}
use Rattle.board_model.specs.CallLaws.{AreOnce, SourcesAreSettledOnce}
use Rattle.board_model.specs.Changes.{IsInstalled}
use Rattle.board_model.specs.Ends.{ComesTo, verdict_for}
use Rattle.board_model.specs.Laws.{FinishedExactly, SetsThereAreHeld}
use Rattle.board_model.specs.Reached.{Reached}
use Rattle.board_model.specs.RunLaws.{FinishedBoardsTell, IsSourceAt}
use Rattle.board_model.specs.Runs.{Note, BoardRun, run as run_world, start as start_world}
use Rattle.board_model.specs.Settling.{held_of}
use Rattle.board_model.specs.Slots.{Setup, Slot, SettledSlot, is_there}
use Rattle.board_model.specs.Stands.{StandsAt, history_of}
use Rattle.commit_journal.specs.Changes.{AreApart, folder_steps}
use Rattle.update_model.specs.Laws.{HeldSetsAreFound}
use Rattle.update_model.specs.Next.{OutcomeLeaves, has_whole_set}
use Rattle.update_model.specs.Outcomes.{AdmittedRelease, Outcome, admitted}
use Rattle.update_model.specs.declared.end.End.{End}
use Rattle.update_model.specs.declared.log.RunLog.{RunLog}
use Rattle.update_model.specs.declared.settled.Held.{Held}
use Rattle.update_model.specs.declared.settled.Verdict2.{Verdict2}
use Rattle.update_model.specs.declared.settled.Verdict2.TheVariants.{Installed, Hit, Older, Kept}
use Rattle.update_model.proofs.Carried.{each-at}
use Rattle.board_model.proofs.Making.{none-in}
use Rattle.board_model.proofs.Resting.{olds-there}
use Rattle.board_bounds.proofs.Asking.{reached-stands}
use Rattle.list_commits.proofs.Apart.{here, there, apart_of}
use Rattle.run_model.specs.Begun.{RunInput, ReadsPlanned}
use Rattle.run_model.specs.Coming.{LogsAndLeavesOutcome, outcome_at}
use Rattle.run_model.specs.Groups.{Group, IsNewSet, all_groups, sources_in}
use Rattle.run_model.specs.Laws.{RunsLeaveOutcomes}
use Rattle.run_model.specs.Runs.{installed_by, is_installed, is_told_installed}
use Rattle.run_model.proofs.Carrying.{HasGroup, Made, after_groups, all_in_turn, has_group, is_made, kept}
use Rattle.run_model.proofs.Ends.{same_release, set_admitted, ok_once}
use Rattle.run_model.proofs.Names.{SameUnder, get_in, holds_moved, installed_moved, keeps_same}
use Rattle.run_model.proofs.Ready.{Below, installed_set}
use Rattle.run_model.proofs.Setting.{LeavesSet, leaves_set}

-- what the crates below say of a board that is finished
pub record Finished : Type 0 where
  pub below : Below
  pub tell : FinishedBoardsTell
  pub exactly : FinishedExactly
  pub once : SourcesAreSettledOnce
  pub there : SetsThereAreHeld
  pub found : HeldSetsAreFound

-- ---- filtered numbers

filter_in : (p : ℕ → Bool) (ns : List ℕ) (n : ℕ) → p n ≡ true → Contains ns n → Contains (filter p ns) n
filter_in p [] n passes is = absurd (none-in n is)
filter_in p (m ∷ ns) n passes is = one (p m) refl (filter_in p ns n passes)
  where
    one : (c : Bool) → p m ≡ c → (Contains ns n → Contains (filter p ns) n) → Contains (if c then m ∷ filter p ns else filter p ns) n
    one true passes' rest = ⊎_elim (here m (filter p ns) n) (λ later. there m (filter p ns) n (rest later)) (first-or-rest m ns n is)
    one false fails rest = ⊎_elim
        (λ same. let wrong : true ≡ false = sym passes ∙ ap p (sym same) ∙ fails in absurd (cc)) rest (first-or-rest m ns n is)

filter_out : (p : ℕ → Bool) (ns : List ℕ) (n : ℕ) → p n ≡ false → Contains (filter p ns) n → ⊥
filter_out p [] n fails is = none-in n is
filter_out p (m ∷ ns) n fails is = one (p m) refl (filter_out p ns n fails) is
  where
    one : (c : Bool) → p m ≡ c → (Contains (filter p ns) n → ⊥) → Contains (if c then m ∷ filter p ns else filter p ns) n → ⊥
    one true passes rest is = ⊎_elim (λ same. let wrong : true ≡ false = sym passes ∙ ap p same ∙ fails in absurd (cc)) rest (first-or-rest m (filter p ns) n is)
    one false fails' rest is = rest is

others_filtered : (p : ℕ → Bool) (n : ℕ) (ns : List ℕ) → Each (λ m. m ≢ n) ns → Each (λ m. m ≢ n) (filter p ns)
others_filtered p n [] others = tt
others_filtered p n (m ∷ ns) others = one (p m) (others_filtered p n ns others.1)
  where
    one : (c : Bool) → Each (λ m. m ≢ n) (filter p ns) → Each (λ m. m ≢ n) (if c then m ∷ filter p ns else filter p ns)
    one true rest = (others.0, rest)
    one false rest = rest

pub once_filtered : (p : ℕ → Bool) (ns : List ℕ) → AreOnce ns → AreOnce (filter p ns)
once_filtered p [] once = tt
once_filtered p (n ∷ ns) once = one (p n) (once_filtered p ns once.1)
  where
    one : (c : Bool) → AreOnce (filter p ns) → AreOnce (if c then n ∷ filter p ns else filter p ns)
    one true rest = (others_filtered p n ns once.0, rest)
    one false rest = rest

-- ---- a finished board

is_settled : Finished → (config : Setup) (olds : List Old) (notes : List Note) (b : Board) (n : ℕ) (source : Source) (old : Old) → Reached config olds notes b → is_finished b ≡ true → IsSourceAt config olds n source old
    → Contains b.settled n
is_settled laws config olds notes b n source old r finished at =
    let stand = reached-stands laws.below.stand config olds notes b r in
    let s : StandsAt config n source old (record { board = b; jobs = r.jobs; queue = []; notes = notes }) = stand.sources n source old at.source_is at.old_is in
    let board : (run_world r.events (start_world config olds r.lanes)).board ≡ b = ap (λ (w : BoardRun). w.board) r.leads in
    let all : Each (λ slot. slot ≡ SettledSlot) b.slots =
    subst (λ (x : Board). Each (λ slot. slot ≡ SettledSlot) x.slots) board ((laws.exactly config olds r.lanes r.events r.each).0 (ap is_finished board ∙ finished)) in
    let closed : s.slot ≡ SettledSlot = each-at (λ (slot : Slot). slot ≡ SettledSlot) b.slots s.slot all (get_in b.slots n s.slot s.slot_is) in
    ((laws.once config olds notes b r).settled n).1 (s.slot_is ∙ ap (λ (x : Slot). Some x) closed)

-- ---- a source that is not installed

left_alone : Finished → (source : Source) (old : Old) (came_to : Outcome) (verdict : Verdict2) (lists after : Files) → verdict ≡ verdict_for source old came_to → is_installed verdict ≡ false
    → IsInstalled source old lists → SameUnder source lists after → OutcomeLeaves came_to source lists after
left_alone laws source old (Err why) verdict lists after is never installed same = keeps_same source lists after same
left_alone laws source old (Ok set) verdict lists after is never installed same = one (is_there source old set) refl is
  where
    one : (c : Bool) → is_there source old set ≡ c → verdict ≡ (if c then Hit (held_of source set) else Installed (held_of source set)) → OutcomeLeaves (Ok set) source lists after
    one true there_is is =
        let held : has_whole_set lists source set ≡ true = sym (laws.there lists source old set installed.release installed.lists) ∙ there_is in
        holds_moved source set lists after same ((laws.found lists source set).0 held)
    one false there_is is = let wrong : true ≡ false = sym (ap is_installed is) ∙ never in absurd (cc)

-- ---- a source that is

pub is_held : (verdict : Verdict2) → is_installed verdict ≡ true → (held : Held) × (verdict ≡ Installed held)
is_held (Installed held) is = (held, refl)
is_held (Hit held) is = absurd (cc)
is_held (Older date) is = absurd (cc)
is_held (Kept cause) is = absurd (cc)

same_set : (begun : RunInput) (heard : List Note) (n : ℕ) (source : Source) (old : Old) (notes later : List Note) (before_verdict verdict : Verdict2) (held held' : Held) (before after : Files) → heard ≡ notes ++ later
    → (s : LeavesSet begun.config n source old notes before_verdict held before after) (comes : ComesTo begun.config n source old (history_of n heard) verdict) → verdict ≡ Installed held'
    → outcome_at begun.config old comes.end comes.lists ≡ Ok s.set
same_set begun heard n source old notes later before_verdict verdict held held' before after so_far s comes installs =
    let found = installed_set source old (outcome_at begun.config old comes.end comes.lists) verdict held' comes.is installs in
    let ended : s.comes.end ≡ comes.end = same_release begun.config n source old heard notes later before_verdict verdict so_far s.comes comes in
    let first : admitted comes.end old.release begun.config.settings begun.config.change begun.config.now ≡ Ok s.set =
    subst (λ (e : End). admitted e old.release begun.config.settings begun.config.change begun.config.now ≡ Ok s.set) ended (set_admitted begun.config old s.comes.end s.comes.lists s.set s.is) in
    let same : found.0 ≡ s.set = ok_once (admitted comes.end old.release begun.config.settings begun.config.change begun.config.now) found.0 s.set (set_admitted begun.config old comes.end comes.lists found.0 found.1) first in
    found.1 ∙ ap (λ (x : AdmittedRelease). Ok x) same

-- the lists after a group of a source hold its new set, which the log tells
group_left : Finished → (begun : RunInput) (heard : List Note) (board : Board) (log : RunLog) (n : ℕ) (source : Source) (lists after : Files)
    → ReadsPlanned begun lists → Reached begun.config begun.olds heard board → is_finished board ≡ true → log.verdicts ≡ board.verdicts → slice_get begun.config.sources n ≡ Some source
    → is_told_installed (slice_get log.verdicts n) ≡ true → HasGroup begun heard n source lists after → LogsAndLeavesOutcome begun heard n source log lists after
group_left laws begun heard board log n source lists after begins r finished told is installs group =
    let new_set : IsNewSet begun heard n group.changes = group.new_set in
    let both : Some new_set.source ≡ Some source = sym new_set.source_is ∙ is in
    let same : new_set.source ≡ source = cc in
    let m : Made begun heard n group.changes new_set group.between = is_made laws.below begun heard n group.changes new_set group.between begins.planned in
    let tells = laws.tell begun.config begun.olds heard board n new_set.source m.old r finished m.stands in
    let verdict_told : slice_get log.verdicts n ≡ Some tells.0 = ap (λ (vs : List Verdict2). slice_get vs n) told ∙ tells.1 in
    let held = is_held tells.0 (sym (ap is_told_installed verdict_told) ∙ installs) in
    let before : SameUnder new_set.source lists group.between = subst (λ (x : Source). SameUnder x lists group.between) (sym same) group.before in
    let s : LeavesSet begun.config n new_set.source m.old new_set.settles.notes new_set.settled.verdict new_set.held group.between (folder_steps group.changes group.between) =
    leaves_set laws.below begun.config n new_set.source m.old new_set.settles.notes new_set.settled new_set.held group.between (folder_steps group.changes group.between) m.was new_set.installs m.planned
    (installed_moved new_set.source m.old lists group.between before (begins.over.installed n new_set.source m.old m.stands)) m.made in
    subst (λ (x : Source). LogsAndLeavesOutcome begun heard n x log lists after) same (record {
      came_to = Ok s.set;
      came = record {
        former = m.old;
        stands = m.stands;
        notes = heard;
        later = [];
        so_far = sym (append-nil heard);
        verdict = tells.0;
        comes = tells.2;
        is = same_set begun heard n new_set.source m.old new_set.settles.notes new_set.settles.later new_set.settled.verdict tells.0 new_set.held held.0 group.between (folder_steps group.changes group.between)
            new_set.settles.so_far s tells.2 held.1;
      };
      all = refl;
      told = verdict_told;
      leaves = holds_moved new_set.source s.set (folder_steps group.changes group.between) after
          (subst (λ (x : Source). SameUnder x (folder_steps group.changes group.between) after) (sym same) group.behind) s.leaves;
    })

-- ---- each source

pub runs_leave_outcomes : Finished → RunsLeaveOutcomes
runs_leave_outcomes laws together begun lists log commits run n source begins is =
    subst (LogsAndLeavesOutcome begun run.heard n source log lists) (sym (all_in_turn commits lists)) (one (is_told_installed (slice_get log.verdicts n)) refl)
  where
    groups : List Group
    groups = all_groups commits

    r : Reached begun.config begun.olds run.heard run.board
    r = run.reached

    apart : AreApart (flat_map names_of begun.config.sources)
    apart = apart_of (flat_map names_of begun.config.sources) begins.apart

    verdicts_told : log.verdicts ≡ run.board.verdicts
    verdicts_told = ap (λ (l : RunLog). l.verdicts) run.told

    settled_told : log.settled ≡ run.board.settled
    settled_told = ap (λ (l : RunLog). l.settled) run.told

    order : sources_in groups ≡ installed_by log
    order = run.all.order ∙ ap installed_by (sym run.told)

    passes : ℕ → Bool
    passes = λ k. is_told_installed (slice_get log.verdicts k)

    old : (o : Old) × (slice_get begun.olds n ≡ Some o)
    old = olds-there begun.config.sources begun.olds n source r.each is

    at : IsSourceAt begun.config begun.olds n source old.0
    at = record { source_is = is; old_is = old.1 }

    once : AreOnce (sources_in groups)
    once = subst AreOnce (sym order) (once_filtered passes log.settled (subst AreOnce (sym settled_told) (laws.once begun.config begun.olds run.heard run.board r).once))

    one : (c : Bool) → is_told_installed (slice_get log.verdicts n) ≡ c → LogsAndLeavesOutcome begun run.heard n source log lists (after_groups groups lists)
    one true installs =
        let settled : Contains log.settled n = subst (λ (ns : List ℕ). Contains ns n) (sym settled_told) (is_settled laws begun.config begun.olds run.heard run.board n source old.0 r run.all.finished at) in
        let among : Contains (sources_in groups) n = subst (λ (ns : List ℕ). Contains ns n) (sym order) (filter_in passes log.settled n installs settled) in
        group_left laws begun run.heard run.board log n source lists (after_groups groups lists) begins r run.all.finished verdicts_told is installs
        (has_group laws.below begun run.heard groups lists n source begins.planned apart run.groups once is among)
    one false never =
        let tells = laws.tell begun.config begun.olds run.heard run.board n source old.0 r run.all.finished at in
        let verdict_told : slice_get log.verdicts n ≡ Some tells.0 = ap (λ (vs : List Verdict2). slice_get vs n) verdicts_told ∙ tells.1 in
        let comes : ComesTo begun.config n source old.0 (history_of n run.heard) tells.0 = tells.2 in
        let same : SameUnder source lists (after_groups groups lists) =
        kept laws.below begun run.heard groups lists n source begins.planned apart run.groups is (λ among. filter_out passes log.settled n never (subst (λ (ns : List ℕ). Contains ns n) order among)) in
        record {
          came_to = outcome_at begun.config old.0 comes.end comes.lists;
          came = record { former = old.0; stands = at; notes = run.heard; later = []; so_far = sym (append-nil run.heard); verdict = tells.0; comes = comes; is = refl };
          all = refl;
          told = verdict_told;
          leaves = left_alone laws source old.0 (outcome_at begun.config old.0 comes.end comes.lists) tells.0 lists (after_groups groups lists) comes.is
              (sym (ap is_told_installed verdict_told) ∙ never) (begins.over.installed n source old.0 at) same;
        }
