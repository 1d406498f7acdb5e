use Rattle.std.proofs.Common.{◌∙◌, sym, ap}
use Rattle.release_file.proofs.LastPart.{moment_in_zone, moment_in_no_zone}
use Rattle.release_file.specs.DateText.{moment_of, day_of_texts}
use Rattle.release_file.proofs.date.moment.Goals as goal

pub returns-then-not-is_utc : goal.returns-then-not-is_utc
returns-then-not-is_utc c =
    moment_in_no_zone c.args.text.now c.in_ok-day.day.now c.in_ok-day.rest.now c.in_ok-month.month.now c.in_ok-month.rest.now c.in_ok-year.year.now c.in_ok-year.rest.now c.in_ok-time.time.now c.in_ok-time.zone.now (sym c.if-not-is_utc.ensures) c.in_ok-day.ensures c.in_ok-month.ensures c.in_ok-year.ensures c.in_ok-time.ensures

pub returns : goal.returns
returns c =
    let day = c.in_ok-day.day.now in
    let month = c.in_ok-month.month.now in
    let year = c.in_ok-year.year.now in
    let both = c.combined.ensures ∙ ap (λ d. moment_of d c.clock.result) c.day_start.ensures.value ∙ ap (moment_of (day_of_texts day month year)) c.clock.ensures in
    both ∙ moment_in_zone c.args.text.now day c.in_ok-day.rest.now month c.in_ok-month.rest.now year c.in_ok-year.rest.now c.in_ok-time.time.now c.in_ok-time.zone.now (sym c.if-not-is_utc.ensures) c.in_ok-day.ensures c.in_ok-month.ensures c.in_ok-year.ensures c.in_ok-time.ensures
