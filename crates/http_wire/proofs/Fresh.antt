-- A wire before its first byte.
use Rattle.std.proofs.Common.{◌≡◌, ℕ, ◌-◌, false, [], arith, refl, None}
use Rattle.http_wire.specs.declared.phase.Phase.TheVariants as phases
use Rattle.http_wire.specs.Stream.{Heads, capped}
use Rattle.http_wire.specs.State.{WireState}
use Rattle.http_wire.specs.Wire.{Follows}
use Rattle.http_wire.proofs.Begins.{no_head_yet}
use Rattle.http_wire.proofs.Blanks.{blank_none}
use Rattle.http_wire.proofs.Moving.{goes}
use Rattle.http_wire.proofs.Plain.{not_plain}

abbrev pub fresh_wire : ℕ → ℕ → WireState
fresh_wire max from = record { max = max; from = from; count = 0; place = 0; start = 0; keep = false; reached = 0; phase = phases.Heads 0; ending = None; part = []; blank = 0; named = false; valued = false; body = [] }

pub fresh : (max from : ℕ) → Follows (fresh_wire max from) max from [] [] false
fresh max from = goes (fresh_wire max from) max from [] [] refl refl refl (record {
  parts = 0;
  stage = Heads 0;
  text = [];
  leads = (refl, refl);
  stands = (refl, refl, refl, refl, no_head_yet, blank_none, not_plain []);
  count = (let z : 0 ≡ capped 0 = omega arith in z);
  place = (let z : 0 ≡ capped (0 - 0) = omega arith in z);
})
