use Rattle.std.proofs.Common.{◌≡◌, map, take, None}
use Rattle.target_plan.specs.Drafts.{draft_of, files_in}
use Rattle.target_plan.specs.Planning.{long_name}
use Rattle.target_plan.specs.Seen.{seen_entry, seen_group}
use Rattle.target_plan.proofs.planning.drafts.Given as goal

abbrev pub invariant-loop-group : goal.invariant-loop-group
invariant-loop-group g l = record {
  so_far : l.drafts.items ≡ map (draft_of l.picker.pick l.settings) (map (seen_group seen_entry) (take l.group-index l.groups));
  short : long_name (files_in l.drafts.items) ≡ None;
}
