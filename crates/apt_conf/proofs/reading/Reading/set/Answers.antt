use Rattle.std.specs.Prelude.{Some}
use Rattle.apt_conf.proofs.EntryLemmas.{at_pushed, set_steps}
use Rattle.apt_conf.proofs.reading.Reading.set.Goals as goal

pub invariant_of-self-2 : goal.invariant_of-self-2
invariant_of-self-2 c = at_pushed c.self.inside.entries.items c.push.new.entries.items c.self.inside.blocks.items c.self.inside.prefix c.args.key (Some c.args.value) c.self.invariant c.in_ok-push.ensures.added

pub returns : goal.returns
returns c =
    set_steps c.self.inside.entries.items c.push.new.entries.items c.self.inside.blocks.items c.self.inside.prefix c.self.inside.part c.args.key c.args.value c.args.self.now c.self.view_is c.self.invariant c.in_ok-push.ensures.added
