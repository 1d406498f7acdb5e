-- Which damage is found.
use Rattle.std.proofs.Common.{◌≡◌, refl, arith, ℕ, nat_eq, true, false, List, [], ◌∷◌, Option, Some, None}
use Rattle.std.proofs.lemmas.Bool.Decides.{nat_tests}
use Rattle.journal_model.specs.Reading.{journal_state_in}
use Rattle.journal_model.specs.declared.step.JournalState.TheVariants.{Shut}
use Rattle.commit_journal.specs.Opening.{is_no_journal}

pub unmade_shut : (content : Option (List ℕ)) → is_no_journal content ≡ true → journal_state_in content ≡ Shut
unmade_shut None is = refl
unmade_shut (Some []) is = refl
unmade_shut (Some (gate ∷ body)) is = let other : nat_eq gate 1 ≡ false = grind (arith, nat_tests) in rw other refl
