use Rattle.std.proofs.Common.{◌≡◌, All, None, vec_len}
use Rattle.crossbeam_channel.specs.Ends.{sends_on}
use Rattle.lane_pool.proofs.starting.kits.Given as goal

abbrev pub invariant-loop : goal.invariant-loop
invariant-loop l = record {
  len : vec_len l.kits ≡ l.counter;
  each : All (λ kit. (sends_on kit.sends ≡ sends_on l.replies.sends) × (kit.slot ≡ None)) l.kits.items;
}
