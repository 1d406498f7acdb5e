use Rattle.std.proofs.Common.{◌≡◌, pos, FitsSigned, to_z, w8, w64, IsOk, rules, arith}
use Rattle.std.specs.Int.{w16}
use Rattle.std.proofs.lemmas.Bool.{false≢true}
use Rattle.jiff.specs.Words.{IsDate}
use Rattle.std.proofs.lemmas.Int.{ints, to_z-of_z}
use Rattle.release_file.proofs.Days.{seconds_of_date, seconds_within, day_of-date, day_of-none}
use Rattle.release_file.proofs.date.start_of.Goals as goal

pub returns-in-Ok-clause-value : goal.returns-in-Ok-clause-value
returns-in-Ok-clause-value c =
    let fits : FitsSigned w64 c.as_secs.result = search rules in
    let seconds = seconds_of_date c.in-Ok.date c.constant.result _ c.as_secs.result c.constant.ensures c.duration_since.ensures c.as_secs.ensures in
    let same = c.in-Ok.ensures.value in
    simp to_z-of_z (day_of-date c.in-Ok.date c.args.year c.args.month c.args.day c.as_secs.result (omega (arith, ints)) (omega (arith, ints)) (omega (arith, ints)) seconds)

pub returns-in-Ok-clause-bound : goal.returns-in-Ok-clause-bound
returns-in-Ok-clause-bound c =
    let fits : FitsSigned w64 c.as_secs.result = search rules in
    let seconds = seconds_of_date c.in-Ok.date c.constant.result _ c.as_secs.result c.constant.ensures c.duration_since.ensures c.as_secs.ensures in
    simp to_z-of_z (seconds_within c.in-Ok.date c.as_secs.result seconds)

pub returns-in-Err-clause-value : goal.returns-in-Err-clause-value
returns-in-Err-clause-value c =
    let y : to_z w16 c.args.year ≡ pos c.args.year = omega (arith, ints) in
    let m : to_z w8 c.args.month ≡ pos c.args.month = omega (arith, ints) in
    let d : to_z w8 c.args.day ≡ pos c.args.day = omega (arith, ints) in
    let absent : IsDate (pos c.args.year) (pos c.args.month) (pos c.args.day) → ⊥ =
    λ there. let ok : IsOk c.new.result = c.new.ensures.succeeds.1 (rw (y, m, d) there) in false≢true (rw c.in-Err.is at ok) in
    day_of-none c.args.year c.args.month c.args.day c.requires.year c.requires.month absent
