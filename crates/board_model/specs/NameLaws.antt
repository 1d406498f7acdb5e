-- What a board wants of the partial files of lists with names of their own.
use Rattle.std.specs.Prelude.{◌≡◌, ◌≢◌, ℕ, true, List, AllPairs, slice_get, Some}
use Rattle.std.specs.List.{flat_map, AllByRecursion as Each}
use Rattle.acq_base.specs.Plan.{names_of}
use Rattle.acq_base.specs.declared.plan.Source.{Source}
use Rattle.acq_base.specs.declared.plan.Target.{Target}
use Rattle.acq_base.specs.declared.uri.ListName.{ListName}
use Rattle.update_model.specs.declared.ask.Body.{Body}
use Rattle.update_model.specs.declared.ask.Body.TheVariants.{Bytes, Staged}
use Rattle.update_model.specs.declared.settled.Settled.{Settled}
use Rattle.update_model.specs.declared.settled.Verdict2.{Verdict2}
use Rattle.board_model.specs.Boards.{Asker, Board, asker_of, settled_as, settled_of}
use Rattle.board_model.specs.Keys.{name_at}
use Rattle.board_model.specs.Slots.{Setup}
use Rattle.board_model.specs.Uses.{Free, WantedPart, Whole, wanted_part, use_from}

-- no two files of a plan share a name
abbrev pub AreNamedApart : Setup → Type 0
AreNamedApart config = AllPairs (λ a b. a ≢ b) (flat_map names_of config.sources)

-- an ask that goes into a partial file goes on behind just what is wanted of that
abbrev pub StagedAsksAreWanted : Type 0
StagedAsksAreWanted =
    (b : Board) (number : ℕ) (a : Asker) (name : ListName)
    → AreNamedApart b.config → asker_of b number ≡ Some a → a.ask.stage ≡ true → name_at a.source a.key.place ≡ Some name
    → wanted_part b name.0 ≡ use_from a.ask.from

-- a staged file that is put is wanted whole
abbrev pub RestsOn : (List ℕ → WantedPart) → ListName × Body → Type 0
RestsOn use_under (name, Bytes bytes) = Unit {0}
RestsOn use_under (name, Staged sum) = use_under name.0 ≡ Whole sum

abbrev pub SettledPutsAreWanted : Type 0
SettledPutsAreWanted =
    (b : Board) (n : ℕ) (settled : Settled) → AreNamedApart b.config → settled_of b n ≡ Some settled → Each (RestsOn (wanted_part b)) settled.puts

-- and nothing more once its source is settled
abbrev pub SettledSourcesFree : Type 0
SettledSourcesFree =
    (b : Board) (n k : ℕ) (source : Source) (target : Target) (settled : Settled) (verdict : Verdict2)
    → AreNamedApart b.config → settled_of b n ≡ Some settled → slice_get b.config.sources n ≡ Some source → slice_get source.targets k ≡ Some target
    → wanted_part (settled_as b n verdict) target.name.0 ≡ Free
