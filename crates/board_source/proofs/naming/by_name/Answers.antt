use Rattle.std.proofs.Common.{◌≡◌, ◌∙◌, ◌++◌, List, [], ◌∷◌, length, sym, ap, rules, arith}
use Rattle.std.proofs.lemmas.List.{append-nil, append_assoc}
use Rattle.std.specs.BTreeMap.{get, is_at}
use Rattle.std.specs.Map.{lookup}
use Rattle.std.specs.Cmp.Lexicographic.{slice_cmp}
use Rattle.std.specs.Ordering.{nat_cmp}
use Rattle.acq_base.specs.declared.uri.ListName.{ListName}
use Rattle.board_model.specs.Keys.{named}
use Rattle.board_source.proofs.Rows.{put-named, none-left}
use Rattle.board_source.proofs.naming.by_name.Goals as goal

pub loop-name-init : goal.loop-name-init
loop-name-init g c = (
  [],
  sym c.into_vec-rest.ensures ∙ sym (append-nil c.into_vec-rest.result.items),
  λ name. ap (lookup (is_at (slice_cmp nat_cmp name))) c.new-map.ensures.empty,
)

pub loop-name-preserved : goal.loop-name-preserved
loop-name-preserved g c =
    let inv = c.loop-name.invariant in (
      (c.in-Some.name, c.in-Some.value) ∷ inv.0,
      inv.1 ∙ ap (λ (xs : List (ListName × g.row.V.Denot)). xs ++ inv.0) c.in-Some.ensures.items ∙ append_assoc c.pop.new.self.items ((c.in-Some.name, c.in-Some.value) ∷ []) inv.0,
      λ q. put-named inv.0 c.in-Some.name c.in-Some.value q (get (slice_cmp nat_cmp) c.insert.new.self q) (get (slice_cmp nat_cmp) c.loop-name.map q) (c.in_ok-insert.ensures.updates.0 q) (inv.2 q),
    )

pub returns : goal.returns
returns g c = λ name.
    let inv = c.loop-name.invariant in
    let none : length c.loop-name.rest.items ≡ 0 = search (rules, arith) in
    inv.2 name ∙ ap (λ (rows : List (ListName × g.row.V.Denot)). named rows name) (sym (inv.1 ∙ ap (λ (xs : List (ListName × g.row.V.Denot)). xs ++ inv.0) (none-left c.loop-name.rest.items none)))
