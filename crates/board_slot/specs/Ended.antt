-- What lists came to, in steps.
use Rattle.std.specs.Prelude.{ℕ, Bool, true, false, List, [], ◌∷◌, ◌++◌, filter_map, Option, Some, option_map, Result}
use Rattle.acq_base.specs.declared.plan.Source.{Source}
use Rattle.acq_base.specs.declared.plan.Target.{Target}
use Rattle.acq_base.specs.declared.sum.Sum.{Sum}
use Rattle.acq_base.specs.declared.uri.ListName.{ListName}
use Rattle.update_model.specs.Outcomes.{AdmittedRelease, Staying, all_had}
use Rattle.update_model.specs.declared.ask.Body.{Body}
use Rattle.update_model.specs.declared.end.End.{End}
use Rattle.update_model.specs.declared.settled.Settled.{Settled}
use Rattle.update_model.specs.declared.settled.Verdict2.TheVariants.{Hit, Installed}
use Rattle.board_model.specs.Settling.{drop_of, drops_of, held_of, put_of, unchanged}

-- the cause of the first that has no file, if there is one
abbrev pub all_had_in : List (Option End) → Result (Unit {0}) Staying
all_had_in ends = all_had (filter_map (λ end. end) ends)

-- the files that came, under their lists' names
abbrev pub puts_in : List Target → List (Option End) → List (ListName × Body)
puts_in [] ends = []
puts_in (target ∷ targets) [] = []
puts_in (target ∷ targets) (end ∷ ends) = put_of target end ++ puts_in targets ends

-- a list with its sum, where it has one
abbrev pub held_list : (List ℕ → Option Sum) → Target → Option (ListName × Sum)
held_list sums target = option_map (λ sum. (target.name, sum)) (sums target.path)

-- the name of a list that has none
abbrev pub dropped_list : (List ℕ → Option Sum) → Target → Option ListName
dropped_list sums target = drop_of target (sums target.path)

-- what a source comes to that has a new set
abbrev pub changed_set : Source → AdmittedRelease → List (Option End) → Bool → Settled
changed_set source set ends true = unchanged (Hit (held_of source set))
changed_set source set ends false = record {
  verdict = Installed (held_of source set);
  release = Some set.bytes;
  puts = puts_in source.targets ends;
  drops = drops_of set.release source.targets;
}
