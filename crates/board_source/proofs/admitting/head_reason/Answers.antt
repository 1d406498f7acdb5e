use Rattle.std.proofs.Common.{◌≡◌, ◌∙◌, Option, None, true, sym, ap}
use Rattle.release_file.specs.Changes.{allowed, first_refused}
use Rattle.release_file.specs.declared.changing.Change.{Change}
use Rattle.release_file.specs.declared.changing.HeadField.{HeadField}
use Rattle.release_file.specs.declared.release.Release.{Release}
use Rattle.update_model.specs.Outcomes.{headed, unless_refused}
use Rattle.board_source.proofs.Heads.{allowed-unrefused}
use Rattle.board_source.proofs.admitting.head_reason.Goals as goal

pub returns-then-allows : goal.returns-then-allows
returns-then-allows g c =
    let change : Change = c.args.setup.now.change in
    let old : Release = c.in-Some.old in
    let release : Release = c.args.release.now in
    let may : allowed change old.head release.head ≡ true = sym (ap (λ (x : Change). allowed x old.head release.head) c.requires) ∙ sym c.allows.ensures ∙ c.if-allows.true in
    let none : first_refused change old.head release.head ≡ None = allowed-unrefused change old.head release.head may in
    sym (ap (λ (i : Option Release). headed change i release) c.in-Some.is ∙ ap (λ (f : Option HeadField). unless_refused f old.head release.head) none)
