-- The report of a run: what each source came to, what was removed, and how many of each kind there were.
use Rattle.std.specs.Prelude.{◌≡◌, ℕ, Bool, true, false, List, [], ◌∷◌, ◌++◌, map, codes, ◌+◌, if◌then◌else◌}
use Rattle.std.specs.Cmp.Lexicographic.{slice_cmp}
use Rattle.std.specs.Fmt.{decimal}
use Rattle.std.specs.List.{flat_map}
use Rattle.std.specs.List.Sorted.{IsPermutation, IsSorted}
use Rattle.std.specs.Ordering.{nat_cmp}
use Rattle.acq_base.specs.declared.plan.Plan.{Plan}
use Rattle.acq_base.specs.declared.plan.Source.{Source}
use Rattle.report_text.specs.Sources.{newline, source_lines}
use Rattle.report_text.specs.declared.total.LineKind.{LineKind}
use Rattle.report_text.specs.declared.total.LineKind.TheVariants as words
use Rattle.update_model.specs.declared.log.RunLog.{RunLog}
use Rattle.update_model.specs.declared.settled.Verdict2.{Verdict2}
use Rattle.update_model.specs.declared.settled.Verdict2.TheVariants.{Installed, Hit, Older, Kept}

-- the sources in plan order, each with its verdict
abbrev pub all_lines : List Source → List Verdict2 → List ℕ
all_lines (source ∷ sources) (verdict ∷ verdicts) = source_lines source verdict ++ all_lines sources verdicts
all_lines _ _ = []

abbrev pub removed_line : List ℕ → List ℕ
removed_line name = codes "Removed " ++ name ++ newline

-- whether a verdict is told by this word
abbrev pub is_told_by : LineKind → Verdict2 → Bool
is_told_by words.Get (Installed held) = true
is_told_by words.Hit (Hit held) = true
is_told_by words.Older (Older date) = true
is_told_by words.Keep (Kept cause) = true
is_told_by _ _ = false

-- how many verdicts are
abbrev pub count_told : LineKind → List Verdict2 → ℕ
count_told word [] = 0
count_told word (verdict ∷ verdicts) = (if is_told_by word verdict then 1 else 0) + count_told word verdicts

abbrev pub count_of : LineKind → List Verdict2 → List ℕ
count_of word verdicts = decimal (count_told word verdicts)

abbrev pub total_line : List Verdict2 → List ℕ
total_line verdicts =
    codes "Total " ++ count_of words.Get verdicts ++ codes " installed, " ++ count_of words.Hit verdicts ++ codes " hit, "
    ++ count_of words.Older verdicts ++ codes " older, " ++ count_of words.Keep verdicts ++ codes " kept" ++ newline

-- the text is the report of a run over the plan that left this log: the removed lists stand in the byte order of names
pub record IsReport (plan : Plan) (log : RunLog) (text : List ℕ) : Type 0 where
  pub names : List (List ℕ)
  pub same : IsPermutation (map (λ name. name.0) log.removed) names
  pub order : IsSorted (slice_cmp nat_cmp) names
  pub whole : text ≡ all_lines plan.sources log.verdicts ++ flat_map removed_line names ++ total_line log.verdicts
