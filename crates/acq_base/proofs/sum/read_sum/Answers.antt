use Rattle.std.proofs.Common.{◌≡◌, rules, Ok, Err}
use Rattle.acq_base.proofs.Sums.{IsOk-read, BadHash-read}
use Rattle.acq_base.specs.Sum.{sum_of_texts}
use Rattle.acq_base.specs.declared.sum.SumError.TheVariants.{BadHash, BadSize}
use Rattle.acq_base.proofs.sum.read_sum.Goals as goal

pub returns-then-is_err : goal.returns-then-is_err
returns-then-is_err c =
    let value : Err BadHash ≡ sum_of_texts c.args.hash.now c.args.size.now = search rules in
    record { value = value; ok = IsOk-read _ _ _ value; bad_hash = BadHash-read _ _ _ value }

pub returns-in-Some : goal.returns-in-Some
returns-in-Some c =
    let value : Ok (record { size = c.in-Some.size; sha = record { 0 = c.decode_to_slice.new.out } }) ≡ sum_of_texts c.args.hash.now c.args.size.now = search rules in
    record { value = value; ok = IsOk-read _ _ _ value; bad_hash = BadHash-read _ _ _ value }

pub returns-in-None : goal.returns-in-None
returns-in-None c =
    let value : Err BadSize ≡ sum_of_texts c.args.hash.now c.args.size.now = search rules in
    record { value = value; ok = IsOk-read _ _ _ value; bad_hash = BadHash-read _ _ _ value }
