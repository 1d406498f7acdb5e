use Rattle.std.proofs.Common.{◌≡◌, map, take, string_bytes}
use Rattle.start_values.proofs.mem_environment.texts_of.Given as goal

-- the texts so far are the words so far
abbrev pub invariant-loop-word : goal.invariant-loop-word
invariant-loop-word l = map string_bytes l.texts.items ≡ take l.word-index l.words
