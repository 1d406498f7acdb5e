-- The changes of a source that is settled.
use Rattle.std.specs.Prelude.{ℕ, List, [], ◌∷◌, ◌++◌, map, Option, Some, None}
use Rattle.acq_base.specs.declared.plan.Source.{Source}
use Rattle.acq_base.specs.declared.uri.ListName.{ListName}
use Rattle.update_model.specs.declared.ask.Body.{Body}
use Rattle.update_model.specs.declared.ask.Body.TheVariants as bodies
use Rattle.update_model.specs.declared.settled.Settled.{Settled}
use Rattle.commit_journal.specs.declared.changing.Change.{Change}
use Rattle.commit_journal.specs.declared.changing.Change.TheVariants.{Put, Drop}
use Rattle.commit_journal.specs.declared.changing.Content.{Content}
use Rattle.commit_journal.specs.declared.changing.Content.TheVariants.{Held, Staged}

-- the Release is put under its name, where one came
abbrev pub release_for : ListName → Option (List ℕ) → List Change
release_for name None = []
release_for name (Some bytes) = Put name (Held bytes) ∷ []

-- a file that came: its bytes, or what is on its way under the list's name
abbrev pub content_for : Body → Content
content_for (bodies.Bytes bytes) = Held bytes
content_for (bodies.Staged sum) = Staged

abbrev pub put_for : ListName × Body → Change
put_for put = Put put.0 (content_for put.1)

abbrev pub drop_for : ListName → Change
drop_for name = Drop name.0

-- the lists that came first, then the Release, then the lists that go
abbrev pub changes_for : Source → Settled → List Change
changes_for source settled = map put_for settled.puts ++ release_for source.release_name settled.release ++ map drop_for settled.drops

-- what a clean-up removes
abbrev pub drops_for : List (List ℕ) → List Change
drops_for names = map (λ name. Drop name) names
