-- Names that are short enough to be written with their length.
use Rattle.std.specs.Prelude.{◌<◌, ◌^◌, List, [], ◌∷◌, length}
use Rattle.journal_model.specs.declared.step.Step.{Step}
use Rattle.journal_model.specs.declared.step.Step.TheVariants.{Put, Drop}

abbrev pub IsShortStep : Step → Type 0
IsShortStep (Put name) = length name < 2 ^ 16
IsShortStep (Drop name) = length name < 2 ^ 16

abbrev pub AreShortSteps : List Step → Type 0
AreShortSteps [] = Unit {0}
AreShortSteps (step ∷ steps) = IsShortStep step × AreShortSteps steps

-- and so few of them that their number can be written
abbrev pub AreShortGroups : List (List Step) → Type 0
AreShortGroups [] = Unit {0}
AreShortGroups (group ∷ groups) = ((length group < 2 ^ 32) × AreShortSteps group) × AreShortGroups groups
