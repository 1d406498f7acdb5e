-- A reader's known bytes, over reads that gave none.
use Rattle.std.proofs.Common.{◌∙◌, sym, take, ℕ, List, Option, Some, None, Result, Ok, Err}
use Rattle.std.specs.Io.KnownBytes.{Consumes, Keeps, ReadConsumes}

pub kept_on : (a b c : Option (List ℕ)) → Keeps a b → Keeps b c → Keeps a c
kept_on None b c first second = tt
kept_on (Some x) None c first second = absurd first
kept_on (Some x) (Some y) None first second = absurd second
kept_on (Some x) (Some y) (Some z) first second = second ∙ first

consumed_on : (a b c : Option (List ℕ)) (bytes : List ℕ) → Keeps a b → Consumes b c bytes → Consumes a c bytes
consumed_on None b c bytes kept consumed = tt
consumed_on (Some x) None c bytes kept consumed = absurd kept
consumed_on (Some x) (Some y) None bytes kept consumed = absurd consumed
consumed_on (Some x) (Some y) (Some z) bytes kept consumed = sym kept ∙ consumed

-- the next read
pub read_on : {E : Type 0} (a b c : Option (List ℕ)) (answer : Result ℕ E) (out : List ℕ) → Keeps a b → ReadConsumes b c answer out → ReadConsumes a c answer out
read_on a b c (Ok n) out kept read = (consumed_on a b c (take n out) kept read.0, read.1)
read_on a b c (Err error) out kept read = kept_on a b c kept read
