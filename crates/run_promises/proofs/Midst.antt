-- A stop at any moment, also in the midst of a call, and the journal that it leaves.
use Rattle.std.proofs.Common.{◌≡◌, Some, None, refl}
use Rattle.acq_base.specs.declared.plan.Source.{Source}
use Rattle.acq_outside.proofs.Crashes.{leaves_within}
use Rattle.acq_outside.proofs.Going.{since_map}
use Rattle.acq_outside.specs.Crash.{State, IsImage, after}
use Rattle.acq_outside.specs.Disk.{Files}
use Rattle.acq_outside.specs.States.{IsSync}
use Rattle.acq_outside.specs.declared.change.DiskCall.{DiskCall}
use Rattle.acq_outside.specs.declared.change.DiskCall.TheVariants.{Write, Cut, Sync, Rename, Remove, SyncNames}
use Rattle.commit_journal.specs.Opening.{damage_at}
use Rattle.journal_model.specs.Names.{journal}
use Rattle.journal_model.specs.Reading.{journal_state_in}
use Rattle.journal_model.specs.Reopen.{installed_now, opened}
use Rattle.journal_model.specs.declared.step.JournalState.{JournalState}
use Rattle.journal_model.specs.declared.step.JournalState.TheVariants.{Open, Damaged, Shut}
use Rattle.run_promises.specs.Claims.{LeavesUndamaged, RunsStopUndamaged, StopsWithinCalls}
use Rattle.run_promises.specs.Promise.{HasSets, MayBeInstalled, RunsStopWithSets, StopLeavesWholeSets}
use Rattle.update_engine.specs.Run.{Run}
use Rattle.update_model.specs.Outcomes.{AdmittedRelease}

-- what is opened again has no damage
sound_journal : (files lists : Files) (state : JournalState) → opened files state ≡ Some lists → damage_at state ≡ None
sound_journal files lists (Open steps) is = refl
sound_journal files lists (Damaged at) is = absurd (cc)
sound_journal files lists Shut is = refl

undamaged : (run : Run) (IsNew : Source → AdmittedRelease → Type 0) (former : Files) (s : State) → StopLeavesWholeSets run IsNew former s → LeavesUndamaged s
undamaged run IsNew former s leaves image is =
    let has = leaves image is in
    sound_journal image has.lists (journal_state_in (image journal)) has.is

pub runs_stop_undamaged : RunsStopWithSets → RunsStopUndamaged
runs_stop_undamaged stops run before after safe synced =
    let stop = stops run before after safe synced in
    let lists = installed_now before.trace in
    (stop.0, stop.1.until, since_map (StopLeavesWholeSets run (MayBeInstalled run lists) lists) LeavesUndamaged stop.0 after.trace (undamaged run (MayBeInstalled run lists) lists) stop.1.since)

pub stops_within_calls : StopsWithinCalls
stops_within_calls run former s call image sound here behind left = by call (leaves_within s sound call image left) behind
  where
    by : (call : DiskCall) → ((IsSync call → ⊥) → IsImage (after s call) image) × (IsSync call → IsImage s image) → StopLeavesWholeSets run (MayBeInstalled run former) former (after s call) → HasSets run (MayBeInstalled run former) former image
    by (Write name at bytes) within done = done image (within.0 (λ no. no))
    by (Cut name len) within done = done image (within.0 (λ no. no))
    by (Sync name) within done = here image (within.1 tt)
    by (Rename from to) within done = done image (within.0 (λ no. no))
    by (Remove name) within done = done image (within.0 (λ no. no))
    by SyncNames within done = here image (within.1 tt)
