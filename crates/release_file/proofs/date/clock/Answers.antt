use Rattle.std.proofs.Common.{◌∙◌}
use Rattle.release_file.proofs.LastPart.{clock_of_cut}
use Rattle.release_file.proofs.date.clock.Goals as goal

pub returns : goal.returns
returns c =
    c.clock_seconds.ensures ∙ clock_of_cut c.args.text.now c.in_ok-hour.hour.now c.in_ok-hour.rest.now c.in_ok-minute.minute.now c.in_ok-minute.second.now c.in_ok-hour.ensures c.in_ok-minute.ensures
