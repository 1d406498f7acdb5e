use Rattle.std.proofs.Common.{◌∙◌, refl}
use Rattle.acq_memory.specs.MemDisk.{past_of}
use Rattle.mirror_maker.specs.Made.{first_moment, second_moment}
use Rattle.generated_days.proofs.Both.{days-of, held}
use Rattle.generated_days.proofs.Rest.{begins-empty, begins-settled}
use Rattle.generated_days.proofs.days.both_days.Goals as goal

pub run_day-requires-clause-synced : goal.run_day-requires-clause-synced
run_day-requires-clause-synced g c κs within = begins-settled (past_of c.in_ok-disk.disk) (rw c.new.ensures at c.in_ok-disk.ensures.past)

pub returns : goal.returns
returns g c = record {
  days = days-of c.args.number _ _ _ _ _ _ _ _ _ _ _ _ _ (c.in_ok-list.ensures ∙ c.in_ok-made.ensures.list) c.in_ok-made.ensures.list c.in_ok-configured.ensures.configures c.in_ok-again.ensures.configures
      c.in_ok-made.ensures.first c.in_ok-made.ensures.second (held _ first_moment c.in_ok-made.ensures.first_now refl) (held _ second_moment c.in_ok-made.ensures.second_now refl)
      (begins-empty (past_of c.in_ok-disk.disk) (rw c.new.ensures at c.in_ok-disk.ensures.past)) c.in_ok-first.ensures.day c.in_ok-second.ensures.day;
}
