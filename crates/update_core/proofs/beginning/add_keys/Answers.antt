use Rattle.std.proofs.Common.{◌≡◌, ◌∙◌, ◌+◌, ◌<◌, ◌++◌, ℕ, List, length, refl, sym, ap, subst, arith, append-nil}
use Rattle.board_model.specs.Keys as keys
use Rattle.board_model.specs.declared.key.Key.{Key}
use Rattle.update_core.proofs.Begun.{places-more, places-none}
use Rattle.update_core.proofs.beginning.add_keys.Goals as goal

pub loop-list-preserved : goal.loop-list-preserved
loop-list-preserved c =
    let list = c.loop-list.list in
    places-more c.args.place (list + 1) list (list + 1 + 1) (list + 1) c.loop-list.all.items c.push-in-loop-list.new.self.items c.args.source.now.targets
    (c.args.all.now.items ++ keys.keys_in c.args.place c.args.source.now)
    (subst (λ (n : ℕ). list < n) c.len-lists.ensures c.loop-list-test.true) refl refl c.in_ok-push-2.ensures.items c.loop-list.invariant

pub returns : goal.returns
returns c =
    let all : length c.args.source.now.targets ≡ c.loop-list.list = omega (arith, c.loop-list.auto.list-end, c.loop-list-test.false, c.len-lists.ensures) in
    sym (append-nil c.loop-list.all.items)
    ∙ ap (λ (ks : List Key). c.loop-list.all.items ++ ks) (sym (places-none c.args.place (c.loop-list.list + 1) c.loop-list.list c.args.source.now.targets all))
    ∙ c.loop-list.invariant
