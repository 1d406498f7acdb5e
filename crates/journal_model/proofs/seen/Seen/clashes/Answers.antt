use Rattle.std.proofs.Common.{◌∙◌}
use Rattle.journal_model.proofs.Names.{found_clash, last_clash}
use Rattle.journal_model.proofs.seen.Seen.clashes.Goals as goal

pub returns-then-contains : goal.returns-then-contains
returns-then-contains c = found_clash c.args.put c.contains.result c.args.name.now c.in_ok-own.own c.args.self.now c.self.inside.steps c.self.inside.names c.self.invariant c.self.view_is c.in_ok-own.ensures c.contains.ensures c.if-contains.true

pub returns : goal.returns
returns c =
    last_clash c.args.put c.contains.result c.contains-2.result c.args.name.now c.in_ok-own.own c.in_ok-aside.aside c.args.self.now c.self.inside.steps c.self.inside.names c.if-not-put.false c.self.invariant c.self.view_is c.in_ok-own.ensures c.contains.ensures c.if-contains.false
    (c.in_ok-aside.ensures ∙ c.as_bytes.ensures ∙ c.new.ensures) c.contains-2.ensures
