-- A run that heard a mirror.
use Rattle.std.proofs.Common.{◌≡◌, ◌∙◌, ⊎_elim, refl, sym, ap, subst, arith, ℕ, suc, Bool, true, false, List, [], ◌∷◌, length, map, Contains, Option, Some, None, Ok, Err}
use Rattle.std.specs.Prelude.{◌&&◌, not, if◌then◌else◌, slice_get}
use Rattle.std.specs.List.{flat_map, list_all, AllByRecursion as Each}
use Rattle.acq_base.specs.Mirror.{MirrorMap}
use Rattle.acq_base.specs.Plan.{names_of}
use Rattle.acq_base.specs.declared.installed.Old.{Old}
use Rattle.acq_base.specs.declared.plan.Source.{Source}
use Rattle.acq_base.proofs.Lists.{first-or-rest}
use Rattle.acq_outside.specs.Disk.{Files}
use Rattle.board_model.specs.Agreeing.{Agrees}
use Rattle.board_model.specs.Ends.{ListEnd, verdict_for}
use Rattle.board_model.specs.RunLaws.{FinishedBoardsTellMirrors, ToldSetsAreMirrors}
use Rattle.board_model.specs.Runs.{Note}
use Rattle.board_model.specs.Settling.{held_of}
use Rattle.board_model.specs.Slots.{is_there}
use Rattle.list_commits.specs.Made.{after_all}
use Rattle.update_model.specs.Faults.{ReleasesHadAreObtained}
use Rattle.update_model.specs.Laws.{NextsAreAlike, SetsAreAdmissible}
use Rattle.update_model.specs.Next.{OutcomeLeaves, cleans, lets_clean_up}
use Rattle.update_model.specs.Outcomes.{AdmittedRelease, Outcome, Older, Kept, admitted, obtained, wanted_by}
use Rattle.update_model.specs.Releases.{obtain_release}
use Rattle.update_model.specs.declared.end.End.{End}
use Rattle.update_model.specs.declared.log.RunLog.{RunLog}
use Rattle.update_model.specs.declared.settled.Verdict2.{Verdict2}
use Rattle.update_model.specs.declared.settled.Verdict2.TheVariants as verdicts
use Rattle.update_model.specs.declared.settled.Verdict2.TheVariants.{Installed, Hit}
use Rattle.update_model.proofs.Carried.{each-from}
use Rattle.board_model.proofs.Making.{none-in}
use Rattle.board_model.proofs.Agreement.{same-verdict}
use Rattle.run_model.specs.Begun.{RunInput, ReadsPlanned}
use Rattle.run_model.specs.Coming.{HasOutcome, LeavesMirrored, mirrored}
use Rattle.run_model.specs.Groups.{commits_of}
use Rattle.run_model.specs.Laws.{RunsAreComplete, RunsHoldMirrored, RunsLeadToNext, RunsLeaveAlike, RunsLeaveMirrored, RunsTellTheSame}
use Rattle.run_model.specs.Runs.{cleans_up, is_kept}
use Rattle.run_model.proofs.Always.{has_set, set_of}
use Rattle.run_model.proofs.Cleaning.{runs_clean_up}
use Rattle.run_model.proofs.Counting.{there_too, verdicts_count}
use Rattle.run_model.proofs.Ends.{outcome_admitted, set_admitted, ok_once}
use Rattle.run_model.proofs.Finishing.{Finished, runs_leave_outcomes}
use Rattle.run_model.proofs.Hearing.{release_is_mirrors}

-- what the crates below say of a board that heard a mirror
pub record Heard : Type 0 where
  pub finished : Finished
  pub admissible : SetsAreAdmissible
  pub told : FinishedBoardsTellMirrors
  pub sets : ToldSetsAreMirrors
  pub releases : ReleasesHadAreObtained
  pub alike : NextsAreAlike

-- ---- one source

-- a set that a source came to is the mirror's, where that has one
same_as_mirrors : Heard → (begun : RunInput) (lists : Files) (mirror : MirrorMap) (heard : List Note) (n : ℕ) (source : Source) (came_to : Outcome) (set mirrors : AdmittedRelease)
    → ReadsPlanned begun lists → slice_get begun.config.sources n ≡ Some source → Agrees mirror begun.parts begun.config.sources heard → (came : HasOutcome begun heard n source came_to) → came.notes ≡ heard
    → came_to ≡ Ok set → mirrored mirror begun lists source ≡ Ok mirrors → set ≡ mirrors
same_as_mirrors laws begun lists mirror heard n source came_to set mirrors begins is agrees came all came_is mirror_is =
    let from = (laws.admissible came.comes.end (map (λ (l : ListEnd). l.end) came.comes.lists) came.former.release begun.config.settings begun.config.change begun.config.now set).0 (came.is ∙ came_is) in
    let end : came.comes.end ≡ obtain_release mirror source =
    release_is_mirrors laws.releases mirror begun.parts begun.config n source came.former came.notes came.verdict set.bytes is
    (subst (λ (ns : List Note). Agrees mirror begun.parts begun.config.sources ns) (sym all) agrees) came.comes from.0 in
    let first : admitted (obtain_release mirror source) came.former.release begun.config.settings begun.config.change begun.config.now ≡ Ok set =
    subst (λ (e : End). admitted e came.former.release begun.config.settings begun.config.change begun.config.now ≡ Ok set) end
    (set_admitted begun.config came.former came.comes.end came.comes.lists set (came.is ∙ came_is)) in
    let second : admitted (obtain_release mirror source) (lists source.release_name.0) begun.config.settings begun.config.change begun.config.now ≡ Ok mirrors =
    outcome_admitted (obtain_release mirror source)
    (map (obtained mirror lists begun.parts) (wanted_by source begun.config.settings (admitted (obtain_release mirror source) (lists source.release_name.0) begun.config.settings begun.config.change begun.config.now)))
    (lists source.release_name.0) begun.config.settings begun.config.change begun.config.now mirrors mirror_is in
    let release = (begins.over.installed n source came.former came.stands).release in
    ok_once (admitted (obtain_release mirror source) came.former.release begun.config.settings begun.config.change begun.config.now) set mirrors first
    (subst (λ (o : Option (List ℕ)). admitted (obtain_release mirror source) o begun.config.settings begun.config.change begun.config.now ≡ Ok mirrors) (sym release) second)

-- outcomes with one verdict are one, where their sets are
same_outcome : (source : Source) (old : Old) (a b : Outcome) (verdict : Verdict2) → verdict ≡ verdict_for source old a → verdict ≡ verdict_for source old b → ((x y : AdmittedRelease) → a ≡ Ok x → b ≡ Ok y → x ≡ y) → a ≡ b
same_outcome source old (Ok x) (Ok y) verdict is is' sets = ap (λ (s : AdmittedRelease). Ok s) (sets x y refl refl)
same_outcome source old (Ok x) (Err why) verdict is is' sets =
    let found = set_of source old (Err why) verdict (held_of source x) is' (has_set source old x verdict is) in
    let wrong = found.2 in absurd (cc)
same_outcome source old (Err why) (Ok y) verdict is is' sets =
    let found = set_of source old (Err why) verdict (held_of source y) is (has_set source old y verdict is') in
    let wrong = found.2 in absurd (cc)
same_outcome source old (Err (Older d)) (Err (Older d')) verdict is is' sets = let both : verdicts.Older d ≡ verdicts.Older d' = sym is ∙ is' in cc
same_outcome source old (Err (Kept c)) (Err (Kept c')) verdict is is' sets = let both : verdicts.Kept c ≡ verdicts.Kept c' = sym is ∙ is' in cc
same_outcome source old (Err (Older d)) (Err (Kept c)) verdict is is' sets = let both : verdicts.Older d ≡ verdicts.Kept c = sym is ∙ is' in absurd (cc)
same_outcome source old (Err (Kept c)) (Err (Older d)) verdict is is' sets = let both : verdicts.Kept c ≡ verdicts.Older d = sym is ∙ is' in absurd (cc)

pub runs_leave_mirrored : Heard → RunsLeaveMirrored
runs_leave_mirrored laws together begun lists log commits run mirror n source begins heard is =
    let left = runs_leave_outcomes laws.finished together begun lists log commits run n source begins is in
    let came : HasOutcome begun run.heard n source left.came_to = left.came in
    let tells = laws.told begun.config begun.olds run.heard run.board mirror lists begun.parts n source came.former run.reached run.all.finished came.stands begins.over heard.agrees heard.lives in
    let told : slice_get log.verdicts n ≡ Some (verdict_for source came.former (mirrored mirror begun lists source)) = ap (λ (l : RunLog). slice_get l.verdicts n) run.told ∙ tells in
    let verdict : came.verdict ≡ verdict_for source came.former (mirrored mirror begun lists source) = same-verdict (slice_get log.verdicts n) came.verdict _ left.told told in
    let same : left.came_to ≡ mirrored mirror begun lists source =
    same_outcome source came.former left.came_to (mirrored mirror begun lists source) came.verdict (came.comes.is ∙ ap (verdict_for source came.former) came.is) verdict
    (λ x y e e'. same_as_mirrors laws begun lists mirror run.heard n source left.came_to x y begins is heard.agrees came left.all e e') in
    record {
      former = came.former;
      stands = came.stands;
      told = told;
      leaves = subst (λ (o : Outcome). OutcomeLeaves o source lists (after_all (commits_of commits) lists)) same left.leaves;
    }

pub runs_hold_mirrored : Heard → RunsHoldMirrored
runs_hold_mirrored laws together begun lists log commits run mirror n source verdict held begins agrees is told has =
    let left = runs_leave_outcomes laws.finished together begun lists log commits run n source begins is in
    let came : HasOutcome begun run.heard n source left.came_to = left.came in
    let board_told : slice_get run.board.verdicts n ≡ Some verdict = sym (ap (λ (l : RunLog). slice_get l.verdicts n) run.told) ∙ told in
    let mirrors = laws.sets begun.config begun.olds run.heard run.board mirror lists begun.parts n source came.former verdict held run.reached run.all.finished came.stands begins.over agrees board_told has in
    let same : verdict ≡ came.verdict = same-verdict (slice_get log.verdicts n) verdict came.verdict told left.told in
    let set = set_of source came.former left.came_to verdict held (same ∙ came.comes.is ∙ ap (verdict_for source came.former) came.is) has in
    let one : set.0 ≡ mirrors.0 = same_as_mirrors laws begun lists mirror run.heard n source left.came_to set.0 mirrors.0 begins is agrees came left.all set.2 mirrors.2 in
    record {
      set = mirrors.0;
      is = mirrors.2;
      told = mirrors.1;
      holds = subst (λ (o : Outcome). OutcomeLeaves o source lists (after_all (commits_of commits) lists)) (set.2 ∙ ap (λ (s : AdmittedRelease). Ok s) one) left.leaves;
    }

pub runs_are_complete : Heard → RunsAreComplete
runs_are_complete laws together begun lists log commits run mirror n source set begins heard is mirror_is =
    let left = runs_leave_mirrored laws together begun lists log commits run mirror n source begins heard is in (
      verdict_for source left.former (mirrored mirror begun lists source),
      left.told,
      has_set source left.former set (verdict_for source left.former (mirrored mirror begun lists source)) (ap (verdict_for source left.former) mirror_is),
    )

-- ---- all sources

get_of : {X : Type 0} (xs : List X) (x : X) → Contains xs x → (n : ℕ) × (slice_get xs n ≡ Some x)
get_of [] x is = absurd (none-in x is)
get_of (y ∷ ys) x is = ⊎_elim (λ same. (0, ap (λ z. Some z) same)) (λ later. let rest = get_of ys x later in (suc rest.0, rest.1)) (first-or-rest y ys x is)

well : (source : Source) (old : Old) (o : Outcome) (verdict : Verdict2) → verdict ≡ verdict_for source old o → not (is_kept verdict) ≡ lets_clean_up o
well source old (Ok set) verdict is = one (is_there source old set) is
  where
    one : (c : Bool) → verdict ≡ (if c then Hit (held_of source set) else Installed (held_of source set)) → not (is_kept verdict) ≡ true
    one true is = ap (λ (v : Verdict2). not (is_kept v)) is
    one false is = ap (λ (v : Verdict2). not (is_kept v)) is
well source old (Err (Older date)) verdict is = ap (λ (v : Verdict2). not (is_kept v)) is
well source old (Err (Kept cause)) verdict is = ap (λ (v : Verdict2). not (is_kept v)) is

all_well : (outcome_of : Source → Outcome) (sources : List Source) (told : List Verdict2) → length told ≡ length sources
    → ((n : ℕ) (source : Source) (verdict : Verdict2) → slice_get sources n ≡ Some source → slice_get told n ≡ Some verdict → not (is_kept verdict) ≡ lets_clean_up (outcome_of source))
    → list_all (λ verdict. not (is_kept verdict)) told ≡ list_all lets_clean_up (map outcome_of sources)
all_well outcome_of [] [] same each = refl
all_well outcome_of [] (verdict ∷ told) same each = absurd (omega (arith, same))
all_well outcome_of (source ∷ sources) [] same each = absurd (omega (arith, same))
all_well outcome_of (source ∷ sources) (verdict ∷ told) same each =
    ap (λ (b : Bool). b && list_all (λ v. not (is_kept v)) told) (each 0 source verdict refl refl)
    ∙ ap (λ (b : Bool). lets_clean_up (outcome_of source) && b) (all_well outcome_of sources told (omega (arith, same)) (λ n s v is is'. each (suc n) s v is is'))

pub runs_lead_to_next : Heard → RunsLeadToNext
runs_lead_to_next laws together begun lists log commits run mirror plan begins heard same = record {
  sources = subst (Each leaves) (sym same) (each-from leaves begun.config.sources (λ source among. let at = get_of begun.config.sources source among in (left at.0 source at.1).leaves));
  others = λ name out.
      runs_clean_up laws.finished.below together begun lists log commits name begins run (λ within. out (subst (λ (ss : List Source). Contains (flat_map names_of ss) name) (sym same) within))
      ∙ ap (λ (c : Bool). if c then None else lists name) clean;
}
  where
    leaves : Source → Type 0
    leaves source = OutcomeLeaves (mirrored mirror begun lists source) source lists (after_all (commits_of commits) lists)

    left : (n : ℕ) (source : Source) → slice_get begun.config.sources n ≡ Some source → LeavesMirrored mirror begun n source log lists (after_all (commits_of commits) lists)
    left n source is = runs_leave_mirrored laws together begun lists log commits run mirror n source begins heard is

    counted : length log.verdicts ≡ length begun.config.sources
    counted = ap (λ (l : RunLog). length l.verdicts) run.told ∙ verdicts_count begun.config begun.olds run.heard run.board run.reached

    clean : cleans_up begun.config.settings log.verdicts ≡ cleans begun.config.settings (map (mirrored mirror begun lists) plan.sources)
    clean =
        ap (λ (b : Bool). begun.config.settings.cleanup && b) (all_well (mirrored mirror begun lists) begun.config.sources log.verdicts counted
        (λ n source verdict is told. let l = left n source is in well source l.former (mirrored mirror begun lists source) verdict (same-verdict (slice_get log.verdicts n) verdict _ told l.told)))
        ∙ ap (λ (ss : List Source). begun.config.settings.cleanup && list_all lets_clean_up (map (mirrored mirror begun lists) ss)) (sym same)

-- ---- two runs

pub runs_leave_alike : Heard → RunsLeaveAlike
runs_leave_alike laws together together' begun lists log log' commits commits' run run' mirror plan begins heard heard' same =
    laws.alike mirror lists begun.parts plan begun.config.settings begun.config.change begun.config.now (after_all (commits_of commits) lists) (after_all (commits_of commits') lists)
    (runs_lead_to_next laws together begun lists log commits run mirror plan begins heard same) (runs_lead_to_next laws together' begun lists log' commits' run' mirror plan begins heard' same)

lists_same : {X : Type 0} (xs ys : List X) → length xs ≡ length ys → ((n : ℕ) (x : X) → slice_get xs n ≡ Some x → slice_get ys n ≡ Some x) → xs ≡ ys
lists_same [] [] same each = refl
lists_same [] (y ∷ ys) same each = absurd (omega (arith, same))
lists_same (x ∷ xs) [] same each = absurd (omega (arith, same))
lists_same (x ∷ xs) (y ∷ ys) same each =
    let first : Some y ≡ Some x = each 0 x refl in
    let one : x ≡ y = cc in
    let rest = lists_same xs ys (omega (arith, same)) (λ n z is. each (suc n) z is) in cc

pub runs_tell_the_same : Heard → RunsTellTheSame
runs_tell_the_same laws together together' begun lists log log' commits commits' run run' mirror begins heard heard' =
    lists_same log.verdicts log'.verdicts (counted ∙ sym counted') each
  where
    counted : length log.verdicts ≡ length begun.config.sources
    counted = ap (λ (l : RunLog). length l.verdicts) run.told ∙ verdicts_count begun.config begun.olds run.heard run.board run.reached

    counted' : length log'.verdicts ≡ length begun.config.sources
    counted' = ap (λ (l : RunLog). length l.verdicts) run'.told ∙ verdicts_count begun.config begun.olds run'.heard run'.board run'.reached

    each : (n : ℕ) (verdict : Verdict2) → slice_get log.verdicts n ≡ Some verdict → slice_get log'.verdicts n ≡ Some verdict
    each n verdict told =
        let source = there_too log.verdicts begun.config.sources n verdict counted told in
        let l = runs_leave_mirrored laws together begun lists log commits run mirror n source.0 begins heard source.1 in
        let r = runs_leave_mirrored laws together' begun lists log' commits' run' mirror n source.0 begins heard' source.1 in
        let both : Some l.former ≡ Some r.former = sym l.stands.old_is ∙ r.stands.old_is in
        let former : l.former ≡ r.former = cc in
        r.told ∙ ap (λ (o : Old). Some (verdict_for source.0 o (mirrored mirror begun lists source.0))) (sym former) ∙ sym l.told ∙ told
