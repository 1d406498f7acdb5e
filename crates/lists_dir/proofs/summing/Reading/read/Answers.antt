use Rattle.std.proofs.Common.{◌≡◌, ◌∙◌, ap, length, refl, rules, subst, take}
use Rattle.std.proofs.lemmas.List.{take_at}
use Rattle.lists_dir.specs.Summing.{IsFilled}
use Rattle.lists_dir.proofs.Rounds.{pended}
use Rattle.lists_dir.proofs.summing.Reading.read.Goals as goal

pub returns-clause-pends : goal.returns-clause-pends
returns-clause-pends g c =
    let files = g.D.Disk.files c.args.disk.now in
    let room = c.min-room.result in
    let n = c.in_ok-n.n in
    let out = c.fill.new.room in
    let long : length c.as_mut_slice.result.now ≡ room = search rules in
    pended (g.D.Disk.tells c.args.disk.now) (files c.args.name.now.0) c.args.at c.args.step room n out c.args.self.now _ c.requires.stands
    (search rules) (search rules) (search rules)
    (λ told. subst (λ k. IsFilled (files c.args.name.now.0) c.args.at n k out) long
    (subst (λ name. IsFilled (files name) c.args.at n (length c.as_mut_slice.result.now) out) c.as_bytes.ensures (c.in_ok-n.ensures.told told)))
    (search rules) refl refl (c.truncate.ensures.items ∙ ap (take n) (take_at out _ c.resize.new.self.len (search rules))) c.in_ok-grow.ensures
