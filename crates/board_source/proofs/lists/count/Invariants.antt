use Rattle.std.proofs.Common.{◌≡◌, ◌+◌, ◌≤◌, drop}
use Rattle.board_source.specs.Listed.{count_asking}
use Rattle.board_source.proofs.lists.count.Given as goal

abbrev pub invariant-loop-item : goal.invariant-loop-item
invariant-loop-item l = record {
  few : l.asking ≤ l.item-index;
  rest : l.asking + count_asking (drop l.item-index l.items) ≡ count_asking l.items;
}
