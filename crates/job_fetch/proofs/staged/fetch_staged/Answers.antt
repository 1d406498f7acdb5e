use Rattle.std.proofs.Common.{rules, true, inl, refl}
use Rattle.journal_model.specs.Rest.{part_bytes}
use Rattle.job_fetch.proofs.Ends.{any_left, not_answer, not_counted, not_sound}
use Rattle.job_fetch.proofs.staged.fetch_staged.Goals as goal
use Rattle.update_model.specs.declared.ask.Closed.TheVariants.{Not}

pub returns-in-Not-clause-comes : goal.returns-in-Not-clause-comes
returns-in-Not-clause-comes g c = record {
  comes = record {
    method = search rules;
    method_dry = search rules;
    counted = not_counted (g.M.Method.faults c.args.method.now) (g.M.Method.faults c.begin.new.self) c.in-Not.end c.in-Not.ensures.word.counted;
    sound = not_sound c.in-Not.end c.in-Not.ensures.sound;
    staging = search rules;
    front = search rules;
    staged = search rules;
  };
  left = any_left c.args.job.now.from c.args.name.now.0 (g.D.Disk.trace c.args.disk.now) (g.D.Disk.trace c.args.disk.now) (Not c.in-Not.end) (inl refl);
  answer = λ known. not_answer (g.M.Method.world c.args.method.now) (part_bytes (g.D.Disk.trace c.args.disk.now) c.args.name.now.0) true c.args.job.now c.in-Not.end c.requires.from c.in-Not.ensures.word.told;
}

pub returns-in-NoMemory-clause-comes : goal.returns-in-NoMemory-clause-comes
returns-in-NoMemory-clause-comes g c = record {
  comes = record {
    method = search rules;
    method_dry = c.in-NoMemory.ensures.word.counted;
    counted = search rules;
    sound = search rules;
    staging = search rules;
    front = search rules;
    staged = search rules;
  };
  left = search rules;
  answer = search rules;
}
