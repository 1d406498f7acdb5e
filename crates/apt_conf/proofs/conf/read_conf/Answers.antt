use Rattle.std.proofs.Common.{List, [], subst}
use Rattle.std.specs.Prelude.{OnOk}
use Rattle.apt_conf.specs.Keys.{Pair}
use Rattle.apt_conf.specs.Entries.{pairs_in}
use Rattle.apt_conf.specs.Grammar.{Adds}
use Rattle.apt_conf.proofs.GrammarLemmas.{spelled_read}
use Rattle.apt_conf.proofs.PieceLemmas.{written_tokens}
use Rattle.apt_conf.proofs.WrittenLemmas.{reads_pieces}
use Rattle.apt_conf.proofs.RefusalLemmas.{reads_refused}
use Rattle.apt_conf.proofs.TreeLemmas.{reads_adds}
use Rattle.apt_conf.proofs.conf.read_conf.Goals as goal

pub returns-clause-written : goal.returns-clause-written
returns-clause-written c = λ pieces h. written_tokens c.args.bytes.now pieces h

pub returns-clause-pieces : goal.returns-clause-pieces
returns-clause-pieces c = reads_pieces c.conf.inside.entries.items c.read_file.new.entries.items c.read_file.result c.args.bytes.now c.read_file.ensures.reads

pub returns-clause-grammar : goal.returns-clause-grammar
returns-clause-grammar c = λ items short h s. spelled_read c.args.bytes.now items short h s

pub returns-clause-spelled : goal.returns-clause-spelled
returns-clause-spelled c =
    let new = c.read_file.new.entries.items in
    let text = c.args.bytes.now in
    let P : List Pair → Type 0 = λ old. OnOk c.read_file.result (Adds old text (pairs_in [] new)) in
    subst P c.conf.view_is (reads_adds c.conf.inside.entries.items new c.read_file.result text c.read_file.ensures.reads)

pub returns-clause-refused : goal.returns-clause-refused
returns-clause-refused c = reads_refused c.conf.inside.entries.items c.read_file.new.entries.items c.read_file.result c.args.bytes.now c.read_file.ensures.reads
