use Rattle.std.proofs.Common.{◌≡◌, map, take}
use Rattle.command_words.proofs.reading.texts.Given as goal

-- what was read of the values so far
abbrev pub invariant-loop-value : goal.invariant-loop-value
invariant-loop-value l = l.texts ≡ map (λ value. value.now) (take l.value-index l.values)
