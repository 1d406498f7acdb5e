use Rattle.apt_conf.proofs.EntryLemmas.{pushed_pair}
use Rattle.apt_conf.proofs.reader.push_pair.Goals as goal

pub returns-clause-reads : goal.returns-clause-reads
returns-clause-reads c = pushed_pair c.args.entries.now.items c.push.new.self.items c.args.key.now c.args.value.now _ _ c.in_ok-from_bytes.ensures c.in_ok-from_bytes-2.ensures c.in_ok-push.ensures.items
