-- What holds of the name that the definition gives holds of the result.
use Rattle.std.proofs.Common.{◌≡◌, ◌+◌, ◌≤◌, List, ℕ, length, Contains, sym, subst}
use Rattle.std.proofs.lemmas.Result.{IfOk-weaker}
use Rattle.acq_base.specs.declared.uri.ListName.{ListName}
use Rattle.acq_base.specs.Uri.{uri_text, list_name}
use Rattle.uri_names.proofs.SameName.{marked, text_short}
use Rattle.uri_names.proofs.names.list_name.Goals as goal

pub returns-clause-marked : goal.returns-clause-marked
returns-clause-marked c = λ sound.
    let uri = c.args.uri.now in
    let P : List ℕ → Type 0 = λ name. Contains name 95 in
    IfOk-weaker c.escaped.result (λ (name : ListName). name.0 ≡ list_name uri) (λ (name : ListName). P name.0) (λ name e. subst P (sym e) (marked uri sound)) c.escaped.ensures

pub returns-clause-short : goal.returns-clause-short
returns-clause-short c =
    let uri = c.args.uri.now in
    let P : List ℕ → Type 0 = λ name. length (uri_text uri) ≤ 7 + length name in
    IfOk-weaker c.escaped.result (λ (name : ListName). name.0 ≡ list_name uri) (λ (name : ListName). P name.0) (λ name e. subst P (sym e) (text_short uri)) c.escaped.ensures
