use Rattle.std.proofs.Common.{◌≡◌, false, length, arith}
use Rattle.std.specs.Prelude.{nat_lt}
use Rattle.std.proofs.lemmas.Bool.Decides.{nat_tests}
use Rattle.apt_conf.specs.Reading.{pairs_of}
use Rattle.apt_conf.proofs.ReadingLemmas.{adds_read}
use Rattle.apt_conf.proofs.reader.read_file.Goals as goal

pub returns-clause-reads : goal.returns-clause-reads
unfolding pairs_of
returns-clause-reads c =
    let t : nat_lt 1048576 (length c.args.bytes.now) ≡ false = grind (arith, nat_tests) in
    rw t (adds_read c.args.entries.now.items c.in_ok-read.read.items c.append.new.self.items _ c.in_ok-read.ensures.ok c.in_ok-append.ensures.items)
