-- The rows so far leave the mirror's answers sound.
use Rattle.acq_memory.specs.MapMethod.{HasSoundAnswers}
use Rattle.command_cases.proofs.objects.mirror.Given as goal

abbrev pub invariant-loop-step : goal.invariant-loop-step
invariant-loop-step l = HasSoundAnswers l.rows
