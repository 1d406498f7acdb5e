use Rattle.apt_conf.proofs.SettingLemmas.{fetching_read}
use Rattle.apt_conf.proofs.table.ways_to_fetch.Goals as goal

pub returns : goal.returns
returns c = fetching_read c.args.conf.now _ _ _ _ _ c.in_ok-retries.ensures c.in_ok-by_hash.ensures c.in_ok-pdiffs.ensures c.in_ok-file_limit.ensures c.in_ok-size_limit.ensures
