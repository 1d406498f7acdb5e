-- What a source comes to once all its items have ended, and which of its files change.
use Rattle.std.specs.Prelude.{Bool, true, false, List, [], ◌∷◌, ◌++◌, filter_map, option_and_then, Option, Some, None, option_map, Result, Ok, Err}
use Rattle.acq_base.specs.Sum.{sum_of}
use Rattle.acq_base.specs.declared.plan.Source.{Source}
use Rattle.acq_base.specs.declared.plan.Target.{Target}
use Rattle.acq_base.specs.declared.sum.Sum.{Sum}
use Rattle.acq_base.specs.declared.uri.ListName.{ListName}
use Rattle.release_file.specs.Release.{listed_sum}
use Rattle.release_file.specs.declared.release.Release.{Release}
use Rattle.update_model.specs.Outcomes.{AdmittedRelease, Staying, Older, Kept, Outcome, all_had}
use Rattle.update_model.specs.Points.{Point, Over, At}
use Rattle.update_model.specs.declared.ask.Body.{Body}
use Rattle.update_model.specs.declared.end.End.{End}
use Rattle.update_model.specs.declared.end.End.TheVariants.{Got}
use Rattle.update_model.specs.declared.settled.Held.{Held}
use Rattle.update_model.specs.declared.settled.Settled.{Settled}
use Rattle.update_model.specs.declared.settled.Verdict2.{Verdict2}
use Rattle.update_model.specs.declared.settled.Verdict2.TheVariants as verdicts
use Rattle.board_model.specs.Slots.{Standing, Slot, Asking, Listing, Refused, SettledSlot}

-- ---- what it comes to

abbrev pub end_of : Point → Option End
end_of (Over end) = Some end
end_of (At ask left faults next) = None

abbrev pub end_in : Option Standing → Option End
end_in item = option_and_then (λ (i : Standing). end_of i.point) item

-- the ends of its lists, in plan order
abbrev pub ends_in : List (Option Standing) → List End
ends_in lists = filter_map end_in lists

abbrev pub had : AdmittedRelease → Result (Unit {0}) Staying → Outcome
had set (Ok each) = Ok set
had set (Err why) = Err why

-- by the Release's end and those of its lists
abbrev pub outcome_in : Slot → Option Outcome
outcome_in (Asking old release) = None
outcome_in (Listing set there lists) = Some (had set (all_had (ends_in lists)))
outcome_in (Refused why) = Some (Err why)
outcome_in SettledSlot = None

-- ---- what is told of it

-- the lists that a Release names, each with its sum
abbrev pub held_lists : Release → List Target → List (ListName × Sum)
held_lists release targets = filter_map (λ target. option_map (λ sum. (target.name, sum)) (listed_sum release target.path)) targets

-- what a set is known by
abbrev pub held_of : Source → AdmittedRelease → Held
held_of source set = record { release = sum_of set.bytes; date = set.release.date; lists = held_lists set.release source.targets }

abbrev pub staying_verdict : Staying → Verdict2
staying_verdict (Older date) = verdicts.Older date
staying_verdict (Kept cause) = verdicts.Kept cause

-- ---- which files change

abbrev pub put_of : Target → Option End → List (ListName × Body)
put_of target (Some (Got body)) = (target.name, body) ∷ []
put_of target other = []

-- the files that came, under their lists' names
abbrev pub puts_of : List Target → List (Option Standing) → List (ListName × Body)
puts_of [] lists = []
puts_of (target ∷ targets) [] = []
puts_of (target ∷ targets) (list ∷ lists) = put_of target (end_in list) ++ puts_of targets lists

abbrev pub drop_of : Target → Option Sum → Option ListName
drop_of target None = Some target.name
drop_of target (Some sum) = None

-- the lists that the Release doesn't name
abbrev pub drops_of : Release → List Target → List ListName
drops_of release targets = filter_map (λ target. drop_of target (listed_sum release target.path)) targets

-- no file changes
abbrev pub unchanged : Verdict2 → Settled
unchanged verdict = record { verdict = verdict; release = None; puts = []; drops = [] }

-- a set that is there already changes nothing; another one is put whole, but for lists that stand
abbrev pub set_there : Source → AdmittedRelease → List (Option Standing) → Bool → Settled
set_there source set lists true = unchanged (verdicts.Hit (held_of source set))
set_there source set lists false = record {
  verdict = verdicts.Installed (held_of source set);
  release = Some set.bytes;
  puts = puts_of source.targets lists;
  drops = drops_of set.release source.targets;
}

abbrev pub settled_lists : Source → AdmittedRelease → Bool → List (Option Standing) → Result (Unit {0}) Staying → Settled
settled_lists source set there lists (Ok each) = set_there source set lists there
settled_lists source set there lists (Err why) = unchanged (staying_verdict why)

-- what a source whose items have ended comes to
abbrev pub settled_in : Source → Slot → Option Settled
settled_in source (Asking old release) = None
settled_in source (Listing set there lists) = Some (settled_lists source set there lists (all_had (ends_in lists)))
settled_in source (Refused why) = Some (unchanged (staying_verdict why))
settled_in source SettledSlot = None
