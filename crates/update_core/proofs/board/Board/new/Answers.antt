use Rattle.std.proofs.Common.{◌≡◌, ◌∙◌, ℕ, List, Option, map, ap, subst, arith, w64}
use Rattle.std.specs.Prelude.{ℤ, All, IfOk, unwrap_or}
use Rattle.std.specs.BTreeMap.{get}
use Rattle.std.specs.Cmp.Lexicographic.{slice_cmp}
use Rattle.std.specs.Ordering.{nat_cmp}
use Rattle.std.proofs.Math.Path.{fun_ext}
use Rattle.std.proofs.lemmas.Int.{to_z-of_z}
use Rattle.acq_base.specs.Plan.{IsPlanned}
use Rattle.board_model.specs.Boards as model
use Rattle.board_model.specs.Slots.{Setup}
use Rattle.board_source.proofs.Planned.{all-plain}
use Rattle.lists_dir.specs.Refinement.{old_in}
use Rattle.update_core.specs.BoardRefinement.{board_of}
use Rattle.update_core.proofs.Begun.{keys-count}
use Rattle.update_core.proofs.board.Board.new.Goals as goal

pub invariant_of-setup : goal.invariant_of-setup
invariant_of-setup c =
    let planned : All IsPlanned c.args.plan.sources = c.sources_are_planned.ensures c.args.plan c.requires.plan in
    record { named = λ k source below. (planned k source below).distinct; fits = all-plain c.args.plan.sources planned }

pub first-requires-clause-few : goal.first-requires-clause-few
first-requires-clause-few c = let count = keys-count 0 c.args.plan.sources in omega (arith, count, c.requires.plan.few)

pub returns : goal.returns
returns c =
    let kept : List ℕ → ℕ = λ name. unwrap_or (get (slice_cmp nat_cmp) c.in_ok-by_name.field-0 name) 0 in
    subst (λ (config : Setup). IfOk c.first.result (λ board. board_of board ≡ model.first_board config (map old_in c.args.old) c.args.lanes))
    (ap (λ (now : ℤ). record { sources = c.args.plan.sources; sizes = kept; settings = c.args.settings; change = c.args.change; now = now }) (to_z-of_z w64 c.args.now c.ranges.now)
    ∙ ap (λ (sizes : List ℕ → ℕ). record { sources = c.args.plan.sources; sizes = sizes; settings = c.args.settings; change = c.args.change; now = c.args.now })
    (fun_ext (λ name. ap (λ (o : Option ℕ). unwrap_or o 0) (c.in_ok-by_name.ensures name))))
    c.first.ensures
