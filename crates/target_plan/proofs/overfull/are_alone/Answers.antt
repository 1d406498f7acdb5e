use Rattle.std.proofs.Common.{Option, IfSome, map, subst, ap, ◌∙◌}
use Rattle.std.proofs.lemmas.List.{take_all}
use Rattle.target_plan.specs.declared.marks.Mark.{Mark}
use Rattle.target_plan.specs.Marks.{IsFolderMark}
use Rattle.target_plan.proofs.ManyNames.{folder_digest, folders_more, alone_by_folders}
use Rattle.target_plan.proofs.overfull.are_alone.Goals as goal

pub loop-entry-preserved : goal.loop-entry-preserved
loop-entry-preserved c =
    folders_more c.args.entries.now c.loop-entry.entry-index c.entry-item.result c.in-Some.folder c.loop-entry.digests.items c.push.new.self.items c.loop-entry-test.true c.entry-item.is
    (subst (λ (o : Option Mark). IfSome o (IsFolderMark c.entry-item.result)) c.in-Some.is c.in_ok-folder.ensures) c.loop-entry.invariant c.in_ok-push.ensures.items

pub returns : goal.returns
returns c = λ e.
    alone_by_folders c.args.entries.now c.loop-entry.digests.items
    (c.loop-entry.invariant ∙ ap (map folder_digest) (take_all c.loop-entry.entry-index c.args.entries.now c.loop-entry-test.false)) (c.are_distinct.ensures e)
