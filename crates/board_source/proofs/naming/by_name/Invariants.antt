use Rattle.std.proofs.Common.{◌≡◌, ◌++◌, ℕ, List, vec_len}
use Rattle.std.specs.BTreeMap.{get}
use Rattle.std.specs.Cmp.Lexicographic.{slice_cmp}
use Rattle.std.specs.Ordering.{nat_cmp}
use Rattle.acq_base.specs.declared.uri.ListName.{ListName}
use Rattle.board_model.specs.Keys.{named}
use Rattle.board_source.proofs.naming.by_name.Given as goal

-- the rows behind the rest are in the map
abbrev pub invariant-loop-name : goal.invariant-loop-name
invariant-loop-name g l =
    (behind : List (ListName × _)) × (l.fn.rows ≡ l.rest.items ++ behind)
    × ((name : List ℕ) → get (slice_cmp nat_cmp) l.map name ≡ named behind name)

abbrev pub decreases-loop-name : goal.decreases-loop-name
decreases-loop-name g l = vec_len l.rest
