use Rattle.std.proofs.Common.{◌∙◌, ap}
use Rattle.std.proofs.lemmas.Result.{err_from_is_err_and}
use Rattle.target_plan.specs.Drafts.{draft_of, files_in}
use Rattle.target_plan.specs.Planning.{long_name}
use Rattle.target_plan.specs.Seen.{seen_entry, seen_group}
use Rattle.target_plan.proofs.Refused.{no_files, drafts_stop, drafts_grow, drafts_fit}
use Rattle.target_plan.proofs.planning.drafts.Goals as goal

pub loop-group-init : goal.loop-group-init
loop-group-init g c = record {
  so_far = c.new-drafts.ensures.items;
  short = ap (λ drafts. long_name (files_in drafts)) c.new-drafts.ensures.items ∙ no_files;
}

pub returns-in_err-draft_source : goal.returns-in_err-draft_source
returns-in_err-draft_source g c =
    let e = c.in_err-draft_source.field-0.0 in
    let p = err_from_is_err_and c.from_residual.result c.from_residual.ensures.1 in
    rw (p.1, p.2) (drafts_stop (draft_of c.args.picker.now.pick c.args.settings.now) (seen_group seen_entry) c.args.groups.now c.loop-group.group-index c.group-item.result c.loop-group-test.true c.group-item.is
    c.loop-group.drafts.items e c.loop-group.invariant.so_far c.loop-group.invariant.short c.in_err-draft_source.ensures)

pub loop-group-preserved : goal.loop-group-preserved
loop-group-preserved g c =
    let draft = draft_of c.args.picker.now.pick c.args.settings.now in
    let i = c.loop-group.group-index in
    let d = c.in_ok-draft_source.field-0 in
    record {
      so_far = drafts_grow draft (seen_group seen_entry) c.args.groups.now i c.group-item.result c.loop-group-test.true c.group-item.is c.loop-group.drafts.items c.push.new.self.items d
          c.loop-group.invariant.so_far c.in_ok-push.ensures.items c.in_ok-draft_source.ensures.0;
      short = drafts_fit draft (seen_group seen_entry) c.args.groups.now i c.group-item.result c.loop-group-test.true c.group-item.is c.loop-group.drafts.items c.push.new.self.items d
          c.in_ok-push.ensures.items c.in_ok-draft_source.ensures.0 c.loop-group.invariant.short c.in_ok-draft_source.ensures.1;
    }
