use Rattle.std.proofs.Common.{inl, inr, refl, w64}
use Rattle.std.proofs.lemmas.Int.{to_z-of_z}
use Rattle.update_program.proofs.Damage.{none_told}
use Rattle.update_program.proofs.Endings.{says_damage}
use Rattle.update_program.specs.Objects.{objects}
use Rattle.update_program.proofs.run.run_plan.Goals as goal

pub returns-in-Ok-run_update-clause-ended : goal.returns-in-Ok-run_update-clause-ended
returns-in-Ok-run_update-clause-ended g c =
    let by = c.in-Ok-run_update.ensures in
    inl (record {
      crash = rw (c.new-judge.ensures, to_z-of_z w64 c.args.now c.ranges.now) at by.run.crash;
      log = rw (c.new-judge.ensures, to_z-of_z w64 c.args.now c.ranges.now) at by.run.log;
      begins = by.run.begins;
      said = rw c.in-Ok.ensures at c.write_report.ensures.told;
      why = tt;
      undamaged = λ tells some. none_told _ c.in-Ok-run_update.log (by.run.damage tells);
    })

pub returns-clause-ended : goal.returns-clause-ended
returns-clause-ended g c =
    let dry = rw c.in-Err-NoMemory.field-0-is at c.in-Err-NoMemory.ensures.run.dry in
    let left = c.without_log-in-Err-NoMemory.ensures in
    inl (record {
      crash = rw (c.new-judge.ensures, to_z-of_z w64 c.args.now c.ranges.now) at c.in-Err-NoMemory.ensures.run.crash;
      log = rw left.log tt;
      begins = rw left.log tt;
      said = rw left.log tt;
      why = rw (left.log, left.status) (inr (inr (record { whole = rw (c.new-judge.ensures, to_z-of_z w64 c.args.now c.ranges.now) at (dry refl) }, c.write_fixed-in-Err-NoMemory.ensures.said)));
      undamaged = λ tells some. let never = rw left.log at some in absurd cc;
    })

pub returns-in-Err-BadJournal-clause-ended : goal.returns-in-Err-BadJournal-clause-ended
returns-in-Err-BadJournal-clause-ended g c =
    let finds = rw c.in-Err-BadJournal.field-0-is at c.in-Err-BadJournal.ensures.run.damage in
    let keeps = rw c.in-Err-BadJournal.field-0-is at c.in-Err-BadJournal.ensures.run.unchanged in
    let left = c.without_log-in-Err-BadJournal.ensures in
    let was = objects g.D.Disk g.M.Method g.S.Sink c.args.disk.now c.args.methods.now.items c.args.out.now in
    let is = objects g.D.Disk g.M.Method g.S.Sink c.run_update.new.disk c.run_update.new.methods.items c.write_fault.new.out in
    inl (record {
      crash = rw (c.new-judge.ensures, to_z-of_z w64 c.args.now c.ranges.now) at c.in-Err-BadJournal.ensures.run.crash;
      log = rw left.log tt;
      begins = rw left.log tt;
      said = rw left.log tt;
      why = rw (left.log, left.status) (says_damage _ was is c.in-Err-BadJournal.at c.write_fault.result.0 finds (keeps c.in-Err-BadJournal.at refl) c.write_fault.ensures.said);
      undamaged = λ tells some. let never = rw left.log at some in absurd cc;
    })
