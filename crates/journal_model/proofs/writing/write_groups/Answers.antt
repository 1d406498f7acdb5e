use Rattle.std.proofs.Common.{◌∙◌, ◌<◌, ◌^◌, ◌++◌, List, length, ap, sym, subst, arith}
use Rattle.journal_model.specs.Writing.{AreShortSteps}
use Rattle.journal_model.specs.Spelling.{group_bytes}
use Rattle.journal_model.specs.declared.step.Step.{Step}
use Rattle.journal_model.proofs.Shorts.{group_short, group_turn, groups_end}
use Rattle.journal_model.proofs.writing.write_groups.Goals as goal

pub write_group-requires-clause-few : goal.write_group-requires-clause-few
write_group-requires-clause-few c = subst (λ (g : List Step). length g < 2 ^ 32) (sym (c.as_slice.ensures ∙ c.group-item.is)) (group_short c.args.groups.now c.loop-group.group-index c.group-item.result c.requires c.loop-group-test.true).0

pub write_group-requires-clause-short : goal.write_group-requires-clause-short
write_group-requires-clause-short c = subst (λ (g : List Step). AreShortSteps g) (sym (c.as_slice.ensures ∙ c.group-item.is)) (group_short c.args.groups.now c.loop-group.group-index c.group-item.result c.requires c.loop-group-test.true).1

pub loop-group-preserved : goal.loop-group-preserved
loop-group-preserved c =
    group_turn c.args.groups.now c.loop-group.group-index c.group-item.result c.args.body.now c.loop-group.body c.write_group.new.body c.loop-group-test.true c.group-item.is c.loop-group.invariant
    (c.in_ok-write_group.ensures ∙ ap (λ (g : List Step). c.loop-group.body ++ group_bytes g) c.as_slice.ensures)

pub returns : goal.returns
returns c = groups_end c.args.groups.now c.loop-group.group-index c.args.body.now c.loop-group.body (omega (arith, c.loop-group-test.false)) c.loop-group.invariant
