use Rattle.std.proofs.Common.{◌≡◌, ◌∙◌, map, sym, ap}
use Rattle.target_plan.specs.Groups.{together}
use Rattle.target_plan.specs.Drafts.{is_same_source, draft_of, drafts_of, files_in, finished}
use Rattle.target_plan.specs.Planning.{long_name, clash, too_many}
use Rattle.target_plan.specs.Seen.{seen_entry, seen_group}
use Rattle.target_plan.proofs.PlanSources.{each_entry, each_source}
use Rattle.target_plan.proofs.PlanTargets.{picked_sources, named_sources}
use Rattle.target_plan.proofs.PlanNames.{distinct_names, few_names, no_long_names}
use Rattle.target_plan.proofs.SoundPlan.{plan_sound}
use Rattle.target_plan.proofs.PlanAsks.{all_asked}
use Rattle.target_plan.proofs.PlanAll.{all_planned}
use Rattle.target_plan.proofs.planning.plan.Goals as goal

pub returns-clause-each_entry : goal.returns-clause-each_entry
returns-clause-each_entry g c =
    each_entry c.args.picker.now.pick c.args.settings.now c.args.entries.now c.in_ok-sources.field-0
    (c.in_ok-sources.ensures ∙ ap (map finished) (c.as_slice-7.ensures.value ∙ c.in_ok-drafts.ensures.0
    ∙ ap (map (draft_of c.args.picker.now.pick c.args.settings.now)) (ap (map (seen_group seen_entry)) c.as_slice-3.ensures.value ∙ c.in_ok-groups.ensures ∙ ap (together is_same_source) c.as_slice-2.ensures)))

pub returns-clause-each_source : goal.returns-clause-each_source
returns-clause-each_source g c =
    each_source c.args.picker.now.pick c.args.settings.now c.args.entries.now c.in_ok-sources.field-0
    (c.in_ok-sources.ensures ∙ ap (map finished) (c.as_slice-7.ensures.value ∙ c.in_ok-drafts.ensures.0
    ∙ ap (map (draft_of c.args.picker.now.pick c.args.settings.now)) (ap (map (seen_group seen_entry)) c.as_slice-3.ensures.value ∙ c.in_ok-groups.ensures ∙ ap (together is_same_source) c.as_slice-2.ensures)))

pub returns-clause-picked : goal.returns-clause-picked
returns-clause-picked g c =
    picked_sources c.args.picker.now.pick c.args.settings.now (map (seen_group seen_entry) c.as_slice-3.result.now) c.in_ok-sources.field-0
    (c.in_ok-sources.ensures ∙ ap (map finished) (c.as_slice-7.ensures.value ∙ c.in_ok-drafts.ensures.0))

pub returns-clause-named : goal.returns-clause-named
returns-clause-named g c =
    named_sources c.args.picker.now.pick c.args.settings.now (map (seen_group seen_entry) c.as_slice-3.result.now) c.in_ok-sources.field-0
    (c.in_ok-sources.ensures ∙ ap (map finished) (c.as_slice-7.ensures.value ∙ c.in_ok-drafts.ensures.0))

pub returns-clause-distinct : goal.returns-clause-distinct
returns-clause-distinct g c =
    distinct_names c.in_ok-drafts.drafts.items c.in_ok-files.files.items c.in_ok-sources.field-0 (c.in_ok-files.ensures ∙ ap files_in c.as_slice-4.ensures.value) (c.in_ok-sources.ensures ∙ ap (map finished) c.as_slice-7.ensures.value)
    (ap clash (sym c.as_slice-5.ensures.value) ∙ c.in_ok-check_clashes.ensures)

pub returns-clause-short : goal.returns-clause-short
returns-clause-short g c =
    let drafts = c.in_ok-drafts.drafts.items in
    let are_files : c.in_ok-files.files.items ≡ files_in drafts = c.in_ok-files.ensures ∙ ap files_in c.as_slice-4.ensures.value in
    no_long_names drafts c.in_ok-files.files.items c.in_ok-sources.field-0 are_files (c.in_ok-sources.ensures ∙ ap (map finished) c.as_slice-7.ensures.value)
    (ap long_name (are_files ∙ ap files_in c.in_ok-drafts.ensures.0) ∙ c.in_ok-drafts.ensures.1)

pub returns-clause-few : goal.returns-clause-few
returns-clause-few g c =
    few_names c.in_ok-drafts.drafts.items c.in_ok-files.files.items c.in_ok-sources.field-0 (c.in_ok-files.ensures ∙ ap files_in c.as_slice-4.ensures.value) (c.in_ok-sources.ensures ∙ ap (map finished) c.as_slice-7.ensures.value)
    (ap too_many (sym c.as_slice-6.ensures.value) ∙ c.in_ok-check_count.ensures)

pub returns-clause-sound : goal.returns-clause-sound
unfolding drafts_of together
returns-clause-sound g c = λ entries settings.
    let drafts = c.in_ok-drafts.drafts.items in
    let are_files : c.in_ok-files.files.items ≡ files_in drafts = c.in_ok-files.ensures ∙ ap files_in c.as_slice-4.ensures.value in
    let are_drafts = c.in_ok-sources.ensures ∙ ap (map finished) c.as_slice-7.ensures.value in
    plan_sound c.files_below_are_sound.ensures c.args.picker.now.pick c.args.settings.now c.args.entries.now (record { sources = c.in_ok-sources.field-0 })
    (c.in_ok-sources.ensures ∙ ap (map finished) (c.as_slice-7.ensures.value ∙ c.in_ok-drafts.ensures.0
    ∙ ap (map (draft_of c.args.picker.now.pick c.args.settings.now)) (ap (map (seen_group seen_entry)) c.as_slice-3.ensures.value ∙ c.in_ok-groups.ensures ∙ ap (together is_same_source) c.as_slice-2.ensures)))
    entries settings
    (distinct_names drafts c.in_ok-files.files.items c.in_ok-sources.field-0 are_files are_drafts (ap clash (sym c.as_slice-5.ensures.value) ∙ c.in_ok-check_clashes.ensures))
    (no_long_names drafts c.in_ok-files.files.items c.in_ok-sources.field-0 are_files are_drafts (ap long_name (are_files ∙ ap files_in c.in_ok-drafts.ensures.0) ∙ c.in_ok-drafts.ensures.1))
    (few_names drafts c.in_ok-files.files.items c.in_ok-sources.field-0 are_files are_drafts (ap too_many (sym c.as_slice-6.ensures.value) ∙ c.in_ok-check_count.ensures))

pub returns-clause-asked : goal.returns-clause-asked
returns-clause-asked g c =
    all_asked c.args.picker.now.pick c.args.settings.now c.args.entries.now c.in_ok-sources.field-0
    (c.in_ok-sources.ensures ∙ ap (map finished) (c.as_slice-7.ensures.value ∙ c.in_ok-drafts.ensures.0
    ∙ ap (map (draft_of c.args.picker.now.pick c.args.settings.now)) (ap (map (seen_group seen_entry)) c.as_slice-3.ensures.value ∙ c.in_ok-groups.ensures ∙ ap (together is_same_source) c.as_slice-2.ensures)))

pub returns-clause-complete : goal.returns-clause-complete
returns-clause-complete g c =
    all_planned c.args.picker.now.pick c.args.settings.now c.args.entries.now c.in_ok-sources.field-0
    (c.in_ok-sources.ensures ∙ ap (map finished) (c.as_slice-7.ensures.value ∙ c.in_ok-drafts.ensures.0
    ∙ ap (map (draft_of c.args.picker.now.pick c.args.settings.now)) (ap (map (seen_group seen_entry)) c.as_slice-3.ensures.value ∙ c.in_ok-groups.ensures ∙ ap (together is_same_source) c.as_slice-2.ensures)))
