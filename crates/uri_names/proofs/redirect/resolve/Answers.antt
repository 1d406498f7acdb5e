-- Where a redirect leads is in the URL Standard's spelling, and so reads back.
use Rattle.std.proofs.Common.{Option, IfSome}
use Rattle.std.proofs.lemmas.Option.{IfSome_then}
use Rattle.std.proofs.lemmas.Result.{IfOk-weaker}
use Rattle.acq_base.specs.declared.uri.Uri.{Uri}
use Rattle.uri_names.specs.Normal.{IsNormal}
use Rattle.uri_names.specs.Reading.{ReadsBack}
use Rattle.uri_names.proofs.ReadsBack.{reads_back}
use Rattle.uri_names.proofs.redirect.resolve.Goals as goal

pub returns-in-Ok-Ok-clause-again : goal.returns-in-Ok-Ok-clause-again
returns-in-Ok-Ok-clause-again c =
    IfOk-weaker c.join.result (λ (found : Option Uri). IfSome found IsNormal) (λ (found : Option Uri). IfSome found ReadsBack)
    (λ found normal. IfSome_then found {P = IsNormal} {Q = ReadsBack} normal reads_back) c.join.ensures.normal
