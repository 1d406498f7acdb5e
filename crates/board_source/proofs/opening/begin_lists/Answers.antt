use Rattle.std.proofs.Common.{◌≡◌, ◌∙◌, ◌+◌, ◌<◌, ◌≤◌, ◌++◌, ◌&&◌, [], ◌∷◌, Bool, ℕ, List, length, get_or, map, take, Option, option_map, refl, sym, ap, subst, arith, rules}
use Rattle.std.specs.BTreeMap.{get}
use Rattle.std.specs.Cmp.Lexicographic.{slice_cmp}
use Rattle.std.specs.Ordering.{nat_cmp}
use Rattle.std.proofs.lemmas.List.{map-append}
use Rattle.acq_base.specs.declared.plan.Target.{Target}
use Rattle.acq_outside.specs.Disk.{Files, IsName}
use Rattle.board_model.specs.Keys.{named}
use Rattle.board_model.specs.Slots.{Standing}
use Rattle.std.proofs.Common.{All}
use Rattle.std.proofs.lemmas.List.{get_or-map, length-map}
use Rattle.lists_dir.specs.Refinement.{old_in}
use Rattle.board_source.specs.Anew.{IsFirst}
use Rattle.board_source.specs.Listed.{standing_of, standings}
use Rattle.board_source.specs.Refinement.{config_of, found_of}
use Rattle.board_source.proofs.Beside.{AreSoFar, all-so-far, none-so-far, so-far-more}
use Rattle.board_source.proofs.Taken.{still-there, target-name}
use Rattle.board_source.proofs.opening.begin_lists.Goals as goal
use Rattle.board_source.proofs.opening.begin_lists.Goals.{then-there, else-there}

pub begin_list-requires : goal.begin_list-requires
begin_list-requires g c =
    let source = c.args.source.now in
    let i = c.loop-target.target-index in
    let target : Target = c.target-item.result in
    let below : i < length source.targets = subst (λ (xs : List Target). i < length xs) c.as_slice-target-items.ensures c.loop-target-test.true in
    let is : target ≡ get_or source.targets i target = subst (λ (xs : List Target). target ≡ get_or xs i target) c.as_slice-target-items.ensures c.target-item.is in
    target-name source i target c.requires.fits below is

pub loop-target-init : goal.loop-target-init
loop-target-init g c = record {
  frame = search rules;
  begun = none-so-far (g.D.Disk.tells c.args.disk.now) (g.D.Disk.files c.args.disk.now) (config_of c.args.setup.now) c.args.source.now c.args.found.now.release (named c.args.old.lists) c.is_same-there.result
      (standings c.new-items.result.items) c.is_same-there.result (ap standings c.new-items.ensures.items) refl;
  left = λ k d above below. c.in_ok-installed.ensures (get_or c.args.source.now.targets k d).name.0;
}

pub loop-target-preserved : goal.loop-target-preserved
loop-target-preserved g c =
    let source = c.args.source.now in
    let release = c.args.found.now.release in
    let rows = named c.args.old.lists in
    let i = c.loop-target.target-index in
    let target : Target = c.target-item.result in
    let inv = c.loop-target.invariant in
    let config = config_of c.args.setup.now in
    let item : Option Standing = option_map standing_of c.in_ok-list.list.item in
    let below : i < length source.targets = subst (λ (xs : List Target). i < length xs) c.as_slice-target-items.ensures c.loop-target-test.true in
    let is : target ≡ get_or source.targets i target = subst (λ (xs : List Target). target ≡ get_or xs i target) c.as_slice-target-items.ensures c.target-item.is in
    let here : get (slice_cmp nat_cmp) c.loop-target.installed target.name.0 ≡ rows target.name.0 =
    subst (λ (t : Target). get (slice_cmp nat_cmp) c.loop-target.installed t.name.0 ≡ rows t.name.0) (sym is) (inv.left i target (omega arith) below) in
    let file : c.remove-file.result ≡ rows target.name.0 = c.remove-file.ensures.value ∙ here in
    let first : IsFirst (g.D.Disk.tells c.args.disk.now) (g.D.Disk.files c.args.disk.now) config source release target (rows target.name.0) item c.in_ok-list.list.there =
    subst (λ (t : Bool). IsFirst t (g.D.Disk.files c.args.disk.now) config source release target (rows target.name.0) item c.in_ok-list.list.there) inv.frame.telling
    (subst (λ (fs : Files). IsFirst (g.D.Disk.tells c.loop-target.disk) fs config source release target (rows target.name.0) item c.in_ok-list.list.there) inv.frame.same
    (subst (λ (o : Option (List ℕ)). IsFirst (g.D.Disk.tells c.loop-target.disk) (g.D.Disk.files c.loop-target.disk) config source release target o item c.in_ok-list.list.there) file c.in_ok-list.ensures.begun)) in
    let both : c.if-there.there ≡ (c.loop-target.there && c.in_ok-list.list.there) = elim c.if-there.branch [
      | then-there w ↦ w.there-is ∙ sym (ap (λ (b : Bool). b && c.in_ok-list.list.there) w.if-there.true)
      | else-there w ↦ w.there-is ∙ w.if-there.false ∙ sym (ap (λ (b : Bool). b && c.in_ok-list.list.there) w.if-there.false)
    ] in
    let items : standings c.add.new.items.items ≡ standings c.loop-target.items.items ++ item ∷ [] =
    ap standings c.in_ok-add.ensures ∙ map-append (option_map standing_of) c.loop-target.items.items (c.in_ok-list.list.item ∷ []) in
    record {
      frame = search rules;
      begun = subst (λ (xs : List (Option Standing)). AreSoFar (g.D.Disk.tells c.args.disk.now) (g.D.Disk.files c.args.disk.now) config source release rows c.is_same-there.result (i + 1) xs c.if-there.there) (sym items)
          (so-far-more (g.D.Disk.tells c.args.disk.now) (g.D.Disk.files c.args.disk.now) config source release rows c.is_same-there.result i (standings c.loop-target.items.items) c.loop-target.there target item c.in_ok-list.list.there c.if-there.there
          inv.begun first c.requires.named below is both);
      left = still-there source (get (slice_cmp nat_cmp) c.loop-target.installed) (get (slice_cmp nat_cmp) c.remove-file.new.self) rows i target target c.requires.named is c.remove-file.ensures.updates.0 inv.left;
    }

pub returns : goal.returns
returns g c =
    let all : c.loop-target.target-index ≡ length c.args.source.now.targets = omega (arith, ap length c.as_slice-target-items.ensures, c.loop-target-test.false, c.loop-target.auto.target-index-end) in
    record {
      frame = search rules;
      begun = all-so-far (g.D.Disk.tells c.args.disk.now) (g.D.Disk.files c.args.disk.now) (config_of c.args.setup.now) c.args.source.now (old_in c.args.old) (found_of c.args.found.now) c.loop-target.target-index
          (standings c.loop-target.items.items) c.loop-target.there all
          (subst (λ (b : Bool). AreSoFar (g.D.Disk.tells c.args.disk.now) (g.D.Disk.files c.args.disk.now) (config_of c.args.setup.now) c.args.source.now c.args.found.now.release (named c.args.old.lists) b c.loop-target.target-index (standings c.loop-target.items.items) c.loop-target.there)
          c.is_same-there.ensures c.loop-target.invariant.begun);
    }
