use Rattle.std.proofs.Common.{◌∙◌, ap, option_map, take}
use Rattle.acq_outside.specs.Etc.{EtcFiles, bytes_at}
use Rattle.acq_memory.proofs.mem_etc.MemEtcEtc.read.Goals as goal

pub returns-clause-told : goal.returns-clause-told
returns-clause-told c =
    c.in_ok-front_of.ensures
    ∙ ap (λ file. option_map (take 1048577) file) c.find-found.ensures
    ∙ ap (λ (files : EtcFiles). option_map (take 1048577) (bytes_at files c.args.place c.args.name.now)) c.as_slice.ensures
