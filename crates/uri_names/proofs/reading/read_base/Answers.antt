-- A base is in the URL Standard's spelling, and so reads back; a refusal has its reason in the text.
use Rattle.std.proofs.lemmas.Result.{IfOk-weaker}
use Rattle.uri_names.specs.Normal.{IsBase}
use Rattle.uri_names.specs.Reading.{ReadsBack}
use Rattle.uri_names.proofs.ReadsBack.{reads_back}
use Rattle.uri_names.proofs.Refusals.{base_answered}
use Rattle.uri_names.proofs.reading.read_base.Goals as goal

pub returns-clause-refused : goal.returns-clause-refused
returns-clause-refused c = base_answered c.args.text.now c.judged_base.result c.judged_base.ensures.value

pub returns-clause-again : goal.returns-clause-again
returns-clause-again c =
    IfOk-weaker c.judged_base.result IsBase ReadsBack (λ uri base. reads_back uri base.normal) c.judged_base.ensures.base
