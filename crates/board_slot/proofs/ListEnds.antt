-- How lists ended.
use Rattle.std.proofs.Common.{◌≡◌, List, [], ◌∷◌, ◌++◌, map, Option, refl, ap}
use Rattle.std.specs.Prelude.{filter_map}
use Rattle.acq_base.specs.declared.plan.Target.{Target}
use Rattle.acq_base.specs.declared.uri.ListName.{ListName}
use Rattle.update_model.specs.declared.ask.Body.{Body}
use Rattle.board_model.specs.Settling.{end_in, put_of, puts_of}
use Rattle.board_model.specs.Slots.{Standing}
use Rattle.board_slot.specs.Ended.{puts_in}

pub filtered-ends : (lists : List (Option Standing)) → filter_map end_in lists ≡ filter_map (λ end. end) (map end_in lists)
filtered-ends [] = refl
filtered-ends (list ∷ lists) = rw (filtered-ends lists) refl

pub puts-ends : (targets : List Target) (lists : List (Option Standing)) → puts_of targets lists ≡ puts_in targets (map end_in lists)
puts-ends [] lists = refl
puts-ends (target ∷ targets) [] = refl
puts-ends (target ∷ targets) (list ∷ lists) = ap (λ (puts : List (ListName × Body)). put_of target (end_in list) ++ puts) (puts-ends targets lists)
