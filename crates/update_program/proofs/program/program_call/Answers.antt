use Rattle.std.proofs.Common.{refl}
use Rattle.update_program.proofs.Downloading.{since_none}
use Rattle.update_program.proofs.Sides.{for_any_package, for_any_server}
use Rattle.update_program.proofs.WithoutMemory.{dry_download, dry_server}
use Rattle.update_program.proofs.program.program_call.Goals as goal

pub returns-in-Err-clause-serves : goal.returns-in-Err-clause-serves
returns-in-Err-clause-serves g c =
    for_any_server _ _ (λ root port connections. dry_server _ _ _ _ _ _ _ _ root port connections (rw c.without_log.ensures.status c.write_fixed.ensures.said))

pub returns-in-Err-clause-downloads : goal.returns-in-Err-clause-downloads
returns-in-Err-clause-downloads g c =
    for_any_package _ _ (λ name version. dry_download _ _ _ _ _ _ _ c.args.methods.now _ _ _ name version c.requires.0 (rw c.without_log.ensures.status c.write_fixed.ensures.said))

pub returns-in-Err-clause-lists_reopen : goal.returns-in-Err-clause-lists_reopen
returns-in-Err-clause-lists_reopen g c = for_any_package _ _ (λ name version. since_none _ _ refl)
