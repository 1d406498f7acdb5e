-- Which targets are planned: those whose kind is switched on.
use Rattle.std.specs.Prelude.{◌≡◌, Bool}
use denote.Ref.{Bor}
use Rattle.acq_base.specs.declared.plan.Kind.{Kind}
use Rattle.acq_base.specs.declared.plan.Kind.TheVariants.{Packages, Sources, Translation}
use Rattle.acq_base.specs.declared.plan.Target.{Target}
use Rattle.acq_base.specs.declared.settings.Pick.{Pick}

abbrev pub is_switched_on : Pick → Kind → Bool
is_switched_on pick (Packages arch) = pick.packages
is_switched_on pick Sources = pick.sources
is_switched_on pick (Translation language) = pick.translations

-- the target's kind is switched on
abbrev pub is_picked : Pick → Target → Bool
is_picked pick target = is_switched_on pick target.kind

-- whatever is answered at a target is whether its kind is switched on
abbrev pub Picks : Pick → (Bor Target → Bool → Type 0) → Type 0
Picks pick Answers = (target : Bor Target) (answer : Bool) → Answers target answer → answer ≡ is_picked pick target.now
