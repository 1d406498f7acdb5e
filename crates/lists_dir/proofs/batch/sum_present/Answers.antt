use Rattle.std.proofs.Common.{◌≤◌, ◌∙◌, ◌++◌, All, IsTrue, ap, length, map, rules, subst, sym}
use Rattle.std.proofs.lemmas.Bool.Decides.{nat_tests}
use Rattle.std.proofs.lemmas.List.{append-nil, take_all}
use Rattle.std.proofs.lemmas.List.Elements.{All-drop}
use Rattle.acq_base.specs.declared.uri.ListName.{ListName}
use Rattle.acq_outside.specs.Disk.{IsName}
use Rattle.acq_outside.proofs.Framed.{read_on_counting}
use Rattle.lists_dir.proofs.Dealing.{batched}
use Rattle.lists_dir.proofs.batch.sum_present.Goals as goal

pub loop-rest-preserved : goal.loop-rest-preserved
loop-rest-preserved g c =
    let inv = c.loop-rest.invariant in
    let files = g.D.Disk.files c.args.disk.now in
    let rest = c.loop-rest.rest.now in
    let front = c.split_at.result.0.now in
    let back = c.split_at.result.1.now in
    let sums = c.loop-rest.sums.items in
    record {
      frame = read_on_counting inv.frame c.in_ok-sum_batch.ensures.frame;
      names = subst (All (λ (name : ListName). IsName name.0)) (sym c.split_at.ensures.back) (All-drop (λ (name : ListName). IsName name.0) c.min.result rest inv.names);
      told = λ told.
          batched (λ (name : ListName). files name.0) rest front back c.min.result sums c.sum_batch.new.sums.items (map (λ (name : ListName). files name.0) c.args.names.now)
          c.split_at.ensures.front c.split_at.ensures.back
          (c.in_ok-sum_batch.ensures.told (subst (λ tells. IsTrue tells) (sym inv.frame.telling) told) ∙ ap (λ f. sums ++ map (λ (name : ListName). f name.0) front) inv.frame.same)
          (inv.told told);
    }

pub returns-clause-told : goal.returns-clause-told
returns-clause-told g c = λ told.
    let sums = c.loop-rest.sums.items in
    let rest = c.loop-rest.rest.now in
    let files = g.D.Disk.files c.args.disk.now in
    let short : length rest ≤ 0 = search (rules, nat_tests) in
    sym (append-nil sums) ∙ ap (λ l. sums ++ map (λ (name : ListName). files name.0) l) (take_all 0 rest short) ∙ c.loop-rest.invariant.told told
