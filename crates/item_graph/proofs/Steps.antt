-- Where one answer leads, a fault aside.
use Rattle.std.proofs.Common.{◌≡◌, ◌∙◌, ◌-◌, ℕ, zero, suc, refl, sym, ap, arith}
use Rattle.acq_base.specs.declared.uri.Uri.{Uri}
use Rattle.update_model.specs.Points.{At, start, point_after, lead}
use Rattle.update_model.specs.Reach.{On, Stop, way}
use Rattle.update_model.specs.Trails.{less}
use Rattle.update_model.specs.Walks.{Walk}
use Rattle.update_model.specs.declared.ask.Ask.{Ask}
use Rattle.update_model.specs.declared.ask.Closed.TheVariants.{Not}
use Rattle.acq_base.specs.declared.fetch.NotServed.{NotServed}
use Rattle.acq_base.specs.declared.fetch.NotServed.TheVariants.{Moved, Absent, TooBig, Garbled, Fault}
use Rattle.update_model.specs.declared.ask.Ending.{Ending}

abbrev IsNoFault : NotServed → Type 0
IsNoFault end = (before after : ℕ) → end ≡ Fault before after → ⊥

leads-on : (retries : ℕ) (ask : Ask) (left faults lane : ℕ) (next : Ending → Walk) (end : NotServed) → IsNoFault end
    → point_after retries (At ask left faults next) (record { lane = lane; closed = Not end }) ≡ lead retries ask left next (way left ask.uri (Not end))
leads-on retries ask left faults lane next (Moved place) h = refl
leads-on retries ask left faults lane next (Absent status) h = refl
leads-on retries ask left faults lane next TooBig h = refl
leads-on retries ask left faults lane next (Garbled at) h = refl
leads-on retries ask left faults lane next (Fault before after) h = absurd (h before after refl)

less-is : (n : ℕ) → n - 1 ≡ less n
less-is zero = refl
less-is (suc n) = omega arith

pub heard-on : (retries : ℕ) (ask : Ask) (left more faults lane : ℕ) (next : Ending → Walk) (end : NotServed) (to : Uri) → IsNoFault end → more ≡ left - 1 → On to ≡ way left ask.uri (Not end)
    → At (record ask { uri = to }) more retries next ≡ point_after retries (At ask left faults next) (record { lane = lane; closed = Not end })
heard-on retries ask left more faults lane next end to h fewer is =
    ap (λ (n : ℕ). At (record ask { uri = to }) n retries next) (fewer ∙ less-is left) ∙ ap (lead retries ask left next) is ∙ sym (leads-on retries ask left faults lane next end h)

pub heard-stop : (retries : ℕ) (ask : Ask) (left faults lane : ℕ) (next : Ending → Walk) (end : NotServed) (ending : Ending) → IsNoFault end → Stop ending ≡ way left ask.uri (Not end)
    → start retries (next ending) ≡ point_after retries (At ask left faults next) (record { lane = lane; closed = Not end })
heard-stop retries ask left faults lane next end ending h is = ap (lead retries ask left next) is ∙ sym (leads-on retries ask left faults lane next end h)
