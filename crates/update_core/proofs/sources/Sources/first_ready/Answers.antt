use Rattle.std.proofs.Common.{◌∙◌, sym}
use Rattle.std.proofs.lemmas.Map.Keys.{le_from_not_gt}
use Rattle.std.proofs.lemmas.Bool.{false≢true}
use Rattle.update_core.specs.Refinement.{slots_of}
use Rattle.update_core.proofs.Ready.{empty-contains, first-is, none-is}
use Rattle.update_core.proofs.sources.Sources.first_ready.Goals as goal

pub returns-in-Some : goal.returns-in-Some
returns-in-Some c =
    let slots = slots_of c.args.self.now.slots.items in
    let told = c.args.self.now.told in
    let place = c.in-Some.place.now in
    sym (first-is slots place (sym (told place) ∙ c.in-Some.ensures.member) (λ m is. le_from_not_gt place m (c.in-Some.ensures.least m (told m ∙ is))))

pub returns-in-None : goal.returns-in-None
returns-in-None c =
    sym (none-is (slots_of c.args.self.now.slots.items) (λ m. sym (c.args.self.now.told m) ∙ empty-contains c.args.self.now.ready (λ some. false≢true (c.in-None.ensures.variant.1 some)) m))
