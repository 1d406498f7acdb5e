-- What holds of the URI that the definition names holds of the result.
use Rattle.std.proofs.Common.{◌≡◌, sym, subst}
use Rattle.std.proofs.lemmas.Result.{IfOk-weaker}
use Rattle.acq_base.specs.declared.uri.Uri.{Uri}
use Rattle.acq_base.specs.Uri.{IsSound}
use Rattle.by_hash.specs.Beside as spec
use Rattle.by_hash.proofs.Folders.{replaces}
use Rattle.by_hash.proofs.Sound.{beside_sound}
use Rattle.by_hash.proofs.folder.beside.Goals as goal

pub returns-clause-replaced : goal.returns-clause-replaced
returns-clause-replaced c =
    let uri = c.args.uri.now in
    let name = c.args.name.now in
    let P : Uri → Type 0 = λ other. spec.ReplacesLast uri.path name other.path in
    IfOk-weaker c.sibling.result (λ other. other ≡ spec.beside uri name) P (λ other e. subst P (sym e) (replaces uri.path name)) c.sibling.ensures

pub returns-clause-sound : goal.returns-clause-sound
returns-clause-sound c = λ sound named short.
    let uri = c.args.uri.now in
    let name = c.args.name.now in
    IfOk-weaker c.sibling.result (λ other. other ≡ spec.beside uri name) IsSound (λ other e. subst IsSound (sym e) (beside_sound uri name sound named short)) c.sibling.ensures
