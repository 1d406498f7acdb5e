-- Where answers lead, as the program tells it.
use Rattle.std.specs.Prelude.{Result, Ok, Err}
use Rattle.acq_base.specs.declared.uri.Uri.{Uri}
use Rattle.update_model.specs.Reach.{Way, On, Stop}
use Rattle.update_model.specs.declared.ask.Ending.{Ending}

-- on to a URI, or an ending
abbrev pub way_of : Result Uri Ending → Way
way_of (Ok to) = On to
way_of (Err ending) = Stop ending
