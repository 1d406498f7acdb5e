use Rattle.lane_pool.proofs.Slots.{sound_room}
use Rattle.lane_pool.proofs.lane.Lane.give.Goals as goal

pub record_out-requires : goal.record_out-requires
record_out-requires g c = sound_room c.args.job.uri c.requires.sound
