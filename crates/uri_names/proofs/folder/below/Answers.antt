-- What holds of the URI that the definition names holds of the result.
use Rattle.std.proofs.Common.{◌≡◌, ◌+◌, ◌++◌, ◌≤◌, length, sym, subst}
use Rattle.std.proofs.lemmas.Result.{IfOk-weaker}
use Rattle.acq_base.specs.declared.uri.Uri.{Uri}
use Rattle.acq_base.specs.Uri.{uri_text, IsSound}
use Rattle.uri_names.specs.DotSegments.{IsWithoutDots}
use Rattle.uri_names.specs.Folder.{below_of}
use Rattle.uri_names.specs.Normal.{IsNormal}
use Rattle.uri_names.specs.Reading.{ReadsBack}
use Rattle.uri_names.proofs.BelowSound.{below_short, below_sound}
use Rattle.uri_names.proofs.Removals.{below_rounds}
use Rattle.uri_names.proofs.Bases.{below_normal}
use Rattle.uri_names.proofs.ReadsBack.{reads_back}
use Rattle.uri_names.proofs.folder.below.Goals as goal

pub returns-clause-rounds : goal.returns-clause-rounds
returns-clause-rounds c = λ sound.
    let base = c.args.base.now in
    let path = c.args.path.now in
    let P : Uri → Type 0 = λ uri. IsWithoutDots (base.path ++ path) uri.path in
    IfOk-weaker c.appended.result (λ uri. uri ≡ below_of base path) P (λ uri e. subst P (sym e) (below_rounds base path sound)) c.appended.ensures

pub returns-clause-short : goal.returns-clause-short
returns-clause-short c =
    let base = c.args.base.now in
    let path = c.args.path.now in
    let P : Uri → Type 0 = λ uri. length (uri_text uri) ≤ length (uri_text base) + length path in
    IfOk-weaker c.appended.result (λ uri. uri ≡ below_of base path) P (λ uri e. subst P (sym e) (below_short base path)) c.appended.ensures

pub returns-clause-sound : goal.returns-clause-sound
returns-clause-sound c = λ sound characters.
    let base = c.args.base.now in
    let path = c.args.path.now in
    let P : Uri → Type 0 = λ uri. length (uri_text uri) ≤ 16384 → IsSound uri in
    IfOk-weaker c.appended.result (λ uri. uri ≡ below_of base path) P (λ uri e. subst P (sym e) (below_sound base path sound characters)) c.appended.ensures

pub returns-clause-normal : goal.returns-clause-normal
returns-clause-normal c = λ is_base characters.
    let base = c.args.base.now in
    let path = c.args.path.now in
    IfOk-weaker c.appended.result (λ uri. uri ≡ below_of base path) IsNormal (λ uri e. subst IsNormal (sym e) (below_normal base path is_base characters)) c.appended.ensures

pub returns-clause-again : goal.returns-clause-again
returns-clause-again c = λ is_base characters.
    let base = c.args.base.now in
    let path = c.args.path.now in
    IfOk-weaker c.appended.result (λ uri. uri ≡ below_of base path) ReadsBack (λ uri e. subst ReadsBack (sym e) (reads_back (below_of base path) (below_normal base path is_base characters))) c.appended.ensures
