-- How a file compares with the sum that it should have.
use Rattle.std.specs.Prelude.{nat_lt, bytes_eq, if◌then◌else◌}
use Rattle.acq_base.specs.declared.sum.Sum.{Sum}
use Rattle.hash_gate.specs.declared.verdict.Verdict.{Verdict}
use Rattle.hash_gate.specs.declared.verdict.Verdict.TheVariants.{Fits, Short, Long, Differs}

-- of the sum that is wanted and the one that a file has: the length counts first, then the digest
abbrev pub verdict : Sum → Sum → Verdict
verdict wanted got =
    if nat_lt got.size wanted.size then Short got.size
    else if nat_lt wanted.size got.size then Long
    else if bytes_eq got.sha.0 wanted.sha.0 then Fits
    else Differs got.sha
