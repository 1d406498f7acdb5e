use Rattle.std.proofs.Common.{◌≡◌, List, [], map, Some, sym, subst, arith}
use Rattle.std.specs.List.{flat_map}
use Rattle.std.proofs.lemmas.List.{take_all}
use Rattle.source_lists.specs.declared.entry.Entry.{Entry}
use Rattle.target_plan.specs.declared.error.PlanError.TheVariants.{TooMany}
use Rattle.target_plan.specs.Drafts.{draft_of, drafts_of, files_in}
use Rattle.target_plan.specs.Marks.{AreMarked, alone, names_of}
use Rattle.target_plan.specs.Planning.{refusal_of}
use Rattle.target_plan.proofs.ManyNames.{overfull}
use Rattle.target_plan.proofs.Marked.{sources_more}
use Rattle.target_plan.proofs.overfull.is_overfull.Goals as goal

pub loop-entry-preserved : goal.loop-entry-preserved
loop-entry-preserved g c =
    sources_more (names_of c.args.picker.now.pick c.args.settings.now) alone c.args.entries.now c.loop-entry.entry-index c.entry-item.result c.loop-entry.digests.items c.mark_source.new.digests.items
    c.loop-entry-test.true c.entry-item.is c.loop-entry.invariant (c.in_ok-mark_source.ensures c.if-not-branch-2.false)

pub returns : goal.returns
unfolding drafts_of
returns g c = λ yes.
    let pick = c.args.picker.now.pick in
    let settings = c.args.settings.now in
    let digests = c.loop-entry.digests.items in
    subst (λ (groups : List (Entry × List Entry)). refusal_of (files_in (map (draft_of pick settings) groups)) ≡ Some TooMany) (sym (c.in_ok-are_alone.ensures c.if-not-branch.false))
    (overfull pick settings (map alone c.args.entries.now) digests
    (subst (λ (entries : List Entry). AreMarked (flat_map (names_of pick settings) (map alone entries)) [] digests) (take_all c.loop-entry.entry-index c.args.entries.now c.loop-entry-test.false) c.loop-entry.invariant)
    (c.are_distinct.ensures yes) (omega (arith, c.loop-entry.digests.ok, c.len.ensures, c.if-len-le-MOST_FILES.false)))
