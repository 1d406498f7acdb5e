-- The rows so far leave the mirror's answers sound.
use Rattle.acq_memory.specs.MapMethod.{HasSoundAnswers}
use Rattle.scenarios.proofs.objects.mirror.Given as goal

abbrev pub invariant-loop-row : goal.invariant-loop-row
invariant-loop-row l = HasSoundAnswers l.rows
