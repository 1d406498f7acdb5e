-- What is read is in the URL Standard's spelling, and so reads back; a refusal has its reason in the text.
use Rattle.std.proofs.lemmas.Result.{IfOk-weaker}
use Rattle.uri_names.specs.Normal.{IsNormal}
use Rattle.uri_names.specs.Reading.{ReadsBack}
use Rattle.uri_names.proofs.ReadsBack.{reads_back}
use Rattle.uri_names.proofs.Refusals.{uri_answered}
use Rattle.uri_names.proofs.reading.read_uri.Goals as goal

pub returns-clause-refused : goal.returns-clause-refused
returns-clause-refused c = uri_answered c.args.text.now c.judged_text.result c.judged_text.ensures.value

pub returns-clause-again : goal.returns-clause-again
returns-clause-again c =
    IfOk-weaker c.judged_text.result IsNormal ReadsBack reads_back c.judged_text.ensures.normal
