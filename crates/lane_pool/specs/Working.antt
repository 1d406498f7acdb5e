-- What a worker keeps while it answers jobs.
use Rattle.std.specs.Prelude.{◌≡◌, ℕ, ◌<◌, ◌≤◌, Bool, true, false, Option}
use Rattle.acq_base.specs.Mirror.{MirrorMap}
use Rattle.acq_outside.specs.declared.word.Word.{Word}
use Rattle.acq_outside.specs.declared.word.Word.TheVariants.{Piece, Done, Not, NoMemory}
use Rattle.lane_pool.specs.declared.rule.View.{View}

-- a worker's view, beside the mirror and the count of its method
pub record IsWorker (lane : ℕ) (v : View) (world : Option MirrorMap) (count : ℕ) : Type 0 where
  pub live : v.live ≡ true
  pub lane_is : v.lane ≡ lane
  pub a_worker : 0 < lane
  pub mirror : v.world ≡ world
  pub below : v.last ≤ count

abbrev pub is_piece : Word → Bool
is_piece (Piece place bytes) = true
is_piece (Done size) = false
is_piece (Not end) = false
is_piece NoMemory = false
