use Rattle.std.proofs.Common.{◌≡◌, ◌-◌, ◌+◌, length, arith}
use Rattle.apt_conf.proofs.EntryLemmas.{at_left}
use Rattle.apt_conf.proofs.reading.Reading.leave.Goals as goal

pub invariant_of-self-in-Some : goal.invariant_of-self-in-Some
invariant_of-self-in-Some c =
    let shorter : c.self.inside.prefix - (c.len.result + 2) ≡ c.self.inside.prefix - (length c.in-Some.key + 2) = omega (arith, c.len.ensures) in
    at_left c.self.inside.entries.items c.self.inside.blocks.items c.pop.new.self.items c.self.inside.prefix _ c.in-Some.key c.self.invariant c.in-Some.ensures.items shorter
