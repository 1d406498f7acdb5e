use Rattle.std.proofs.Common.{FitsSigned, w64}
use Rattle.std.proofs.lemmas.Int.{to_z-of_z}
use Rattle.release_file.proofs.Judged.{admissible}
use Rattle.release_file.proofs.judging.judge_dates.Goals as goal

pub returns-clause-admissible : goal.returns-clause-admissible
returns-clause-admissible c =
    let fits : FitsSigned w64 c.args.now = c.ranges.now in
    let value = simp to_z-of_z at c.judge.ensures in
    admissible c.args.release.now c.args.installed c.args.dates.now c.args.now c.judge.result value
