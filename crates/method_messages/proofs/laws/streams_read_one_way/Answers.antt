use Rattle.method_messages.proofs.OneReading.{one_reading, one_refusal, one_of_both}
use Rattle.method_messages.proofs.laws.streams_read_one_way.Goals as goal

pub returns-clause-reading : goal.returns-clause-reading
returns-clause-reading c = one_reading

pub returns-clause-refusal : goal.returns-clause-refusal
returns-clause-refusal c = one_refusal

pub returns-clause-either : goal.returns-clause-either
returns-clause-either c = one_of_both
