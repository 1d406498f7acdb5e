-- Which heads of Releases may follow which.
use Rattle.std.specs.Prelude.{◌≡◌, Bool}
use denote.Ref.{Bor}
use Rattle.release_file.specs.Changes.{allowed}
use Rattle.release_file.specs.declared.changing.Change.{Change}
use Rattle.release_file.specs.declared.release.Head.{Head}

-- whatever is answered at two heads is whether the second may follow the first
abbrev pub Allows : Change → (Bor Head → Bor Head → Bool → Type 0) → Type 0
Allows change Answers = (old new : Bor Head) (answer : Bool) → Answers old new answer → answer ≡ allowed change old.now new.now
