use Rattle.std.specs.Prelude.{is_some}
use Rattle.std.proofs.Common.{rules, Option, Some, List, ℕ, inl, inr, refl, ap, ◌∙◌, subst, arith}
use Rattle.acq_outside.proofs.Framed.{stayed_on_counting}
use Rattle.journal_model.specs.Rest.{part_bytes}
use Rattle.job_fetch.specs.Fetched.{IsAnswer}
use Rattle.job_fetch.specs.Hearing.{ComesTo, KeepsBytes, RestsOn, fetch_of, name_of}
use Rattle.job_fetch.proofs.Ends.{on_err}
use Rattle.job_fetch.proofs.Fillings.{staging_more, told_before}
use Rattle.job_fetch.proofs.Hears.{end_leaves, fronts_on, still_stages, word_stages}
use Rattle.job_fetch.proofs.Words.{coming_on, file_coming, leads_on, past_front}
use Rattle.job_fetch.proofs.staged.receive.Goals as goal

pub loop-heard-init : goal.loop-heard-init
loop-heard-init g c =
    let disk = g.D.Disk.trace c.args.disk.now in
    record {
      frame = search rules;
      begins = refl;
      into = ap (λ l. Some l.0) c.in_ok-list.ensures;
      coming = file_coming g.M.Method c.args.job.now c.args.name.now c.in_ok-list.list c.args.method.now disk c.args.first c.in_ok-list.ensures c.requires.can c.requires.sound c.requires.word;
      staging = still_stages c.args.name.now.0 disk disk refl;
      front = record { front = λ told. refl; within = c.requires.can.keep };
      fresh = inl refl;
    }

pub loop-heard-preserved : goal.loop-heard-preserved
loop-heard-preserved g c =
    let inv = c.loop-heard.invariant in
    let name = c.args.name.now.0 in
    let job = c.args.job.now in
    let asked = c.args.method.now in
    let now = c.loop-heard.method in
    let old = g.D.Disk.trace c.args.disk.now in
    let mid = g.D.Disk.trace c.loop-heard.disk in
    let new = g.D.Disk.trace c.hear.new.disk in
    let leads = rw c.in-More.is at c.in_ok-heard.ensures.leads in
    let hears = rw c.in-More.is at c.in_ok-heard.ensures.hears (g.M.Method.faults asked) (g.M.Method.faults now) (g.M.Method.world asked) (part_bytes old name) (g.M.Method.under now) inv.coming.says inv.coming.come in
    let on = leads_on (g.M.Method.faults asked) (g.M.Method.faults now) (g.M.Method.world asked) (fetch_of job c.loop-heard.intake) (fetch_of job c.in-More.next) (g.M.Method.under now) c.loop-heard.word inv.coming.says leads.1 in
    let staged = word_stages c.loop-heard.word (name_of c.loop-heard.intake) name mid new inv.into c.hear.ensures.touches in
    record {
      frame = stayed_on_counting inv.frame c.in_ok-heard.ensures.frame;
      begins = c.more-word.ensures.begins ∙ inv.begins;
      into = leads.0 ∙ inv.into;
      coming = coming_on g.M.Method job (part_bytes old name) asked now c.more-word.new.self mid new c.loop-heard.intake c.in-More.next c.loop-heard.word c.more-word.result
          inv.coming leads hears c.more-word.ensures.frame c.more-word.ensures.sound c.more-word.ensures.word;
      staging = staging_more name old mid new inv.staging staged;
      front = fronts_on name job.from old mid new (told_before mid new staged.moments) inv.front (subst (λ n. KeepsBytes n job.from mid new) inv.into c.in_ok-heard.ensures.kept);
      fresh = inr (omega (arith, past_front job c.loop-heard.intake mid inv.coming.can, on.further));
    }

pub returns-in-Last-clause-comes : goal.returns-in-Last-clause-comes
returns-in-Last-clause-comes g c =
    let inv = c.loop-heard.invariant in
    let name = c.args.name.now.0 in
    let job = c.args.job.now in
    let asked = c.args.method.now in
    let now = c.loop-heard.method in
    let closed = c.in-Last.closed in
    let old = g.D.Disk.trace c.args.disk.now in
    let mid = g.D.Disk.trace c.loop-heard.disk in
    let new = g.D.Disk.trace c.hear.new.disk in
    let leads = rw c.in-Last.is at c.in_ok-heard.ensures.leads in
    let ends = rw c.in-Last.is at c.in_ok-heard.ensures.ends (g.M.Method.faults asked) (g.M.Method.faults now) (g.M.Method.world asked) (g.M.Method.under now) inv.coming.says in
    let hears = rw c.in-Last.is at c.in_ok-heard.ensures.hears (g.M.Method.faults asked) (g.M.Method.faults now) (g.M.Method.world asked) (part_bytes old name) (g.M.Method.under now) inv.coming.says inv.coming.come in
    let staged = word_stages c.loop-heard.word (name_of c.loop-heard.intake) name mid new inv.into c.hear.ensures.touches in
    let Rested : Option (List ℕ) → Type 0 = λ n. RestsOn n new closed → IsAnswer (g.M.Method.world asked) (part_bytes old name) (is_some n) job closed in
    record {
      comes = record {
        method = inv.coming.method;
        method_dry = tt;
        counted = ends.1;
        sound = leads.2 inv.coming.sound;
        staging = staging_more name old mid new inv.staging staged;
        front = fronts_on name job.from old mid new (told_before mid new staged.moments) inv.front (subst (λ n. KeepsBytes n job.from mid new) inv.into c.in_ok-heard.ensures.kept);
        staged = subst (λ n. ComesTo n new closed) inv.into ends.0;
      };
      left = end_leaves job c.loop-heard.intake name c.loop-heard.word closed old mid new inv.into inv.coming.can leads.1 c.hear.ensures.touches inv.fresh;
      answer = subst Rested inv.into hears;
    }

pub returns-in_err-heard-clause-comes : goal.returns-in_err-heard-clause-comes
returns-in_err-heard-clause-comes g c =
    let inv = c.loop-heard.invariant in
    record {
      comes = record {
        method = inv.coming.method;
        method_dry = on_err _ (c.in_err-heard.ensures.dry (g.M.Method.faults c.args.method.now) (g.M.Method.faults c.loop-heard.method) (g.M.Method.world c.args.method.now) (g.M.Method.under c.loop-heard.method) inv.coming.says);
        counted = search rules;
        sound = search rules;
        staging = staging_more _ _ _ _ inv.staging (word_stages c.loop-heard.word (name_of c.loop-heard.intake) _ _ _ inv.into c.hear.ensures.touches);
        front = search rules;
        staged = search rules;
      };
      left = search rules;
      answer = search rules;
    }
