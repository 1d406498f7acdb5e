use Rattle.std.proofs.Common.{◌≡◌, map, List, ℕ, Bor}
use Rattle.std.specs.Prelude.{codes}
use Rattle.std.specs.List.{list_any}
use Rattle.acq_base.specs.Words.{trimmed}
use Rattle.http_wire.specs.Fields.{same_word}
use Rattle.http_wire.proofs.fields.has_close.Given as goal

abbrev pub invariant-loop-word : goal.invariant-loop-word
invariant-loop-word l = l.found ≡ list_any (λ word. same_word (trimmed word) (codes "close")) (map (λ (word : Bor (List ℕ)). word.now) l.yielded)
