use Rattle.std.proofs.Common.{◌∙◌, ◌++◌, All, IsTrue, ap, drop, length, map, rules, subst, sym}
use Rattle.std.proofs.lemmas.List.{take_at}
use Rattle.acq_base.specs.declared.uri.ListName.{ListName}
use Rattle.hash_gate.specs.Pieces.{HasSummed}
use Rattle.lists_dir.specs.Summing.{AllStand, file_of}
use Rattle.lists_dir.specs.declared.summing.Reading.{Reading}
use Rattle.lists_dir.proofs.Rounds.{all_summed, came_to, on_disk}
use Rattle.lists_dir.proofs.batch.sum_batch.Goals as goal

pub read_all-requires-clause-stand : goal.read_all-requires-clause-stand
read_all-requires-clause-stand g c κs within =
    let opened = c.in_ok-open_all.ensures in
    subst (AllStand (g.D.Disk.tells c.open_all.new.disk) (g.D.Disk.files c.open_all.new.disk) 0 c.args.names.now) (sym (c.as_mut_slice.ensures.value ∙ c.into_vec-readings.ensures))
    (on_disk (λ tells files. AllStand tells files 0 c.args.names.now c.in_ok-open_all.field-0) _ _ _ _ opened.frame.telling opened.frame.same opened.stand)

pub end_all-requires : goal.end_all-requires
end_all-requires g c =
    let after = c.read_all.new.readings in
    subst (All (λ (reading : Reading). HasSummed reading.total reading.content)) (sym (take_at after (drop (length after) c.into_vec-readings.result.items) c.into_vec-readings.result.len (search rules)))
    (all_summed (g.D.Disk.tells c.open_all.new.disk) (g.D.Disk.files c.open_all.new.disk) c.args.names.now after c.in_ok-read_all.ensures.ends (search rules))

pub returns-clause-told : goal.returns-clause-told
returns-clause-told g c = λ told.
    let D = g.D.Disk in
    let opened = c.in_ok-open_all.ensures in
    let disk = c.open_all.new.disk in
    let names = c.args.names.now in
    let after = c.read_all.new.readings in
    c.in_ok-end_all.ensures ∙ ap (λ l. c.args.sums.now.items ++ l)
    (ap (map file_of) (take_at after (drop (length after) c.into_vec-readings.result.items) c.into_vec-readings.result.len (search rules))
    ∙ came_to (D.tells disk) (D.files disk) names after c.in_ok-read_all.ensures.ends (search rules) (subst (λ tells. IsTrue tells) (sym opened.frame.telling) told)
    ∙ ap (λ files. map (λ (name : ListName). files name.0) names) opened.frame.same)
