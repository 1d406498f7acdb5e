use Rattle.std.proofs.Common.{◌≡◌, ◌++◌, map, take}
use Rattle.target_plan.specs.Offers.{translation_of}
use Rattle.target_plan.proofs.offers.translations.Given as goal

abbrev pub invariant-loop-language : goal.invariant-loop-language
invariant-loop-language l = l.offers.items ≡ l.fn.offers.items ++ map (translation_of l.component l.entry) (take l.language-index l.settings.langs)
