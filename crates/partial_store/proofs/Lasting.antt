-- What is finished lasts with its name.
use Rattle.std.proofs.Common.{◌≡◌, sym, ap, ◌∙◌, subst, ℕ, List, [], Option, Some, None, option_map}
use Rattle.acq_outside.specs.Crash.{State, Names, IsOutcome, after, all_renamed, file_at, names_of, synced}
use Rattle.acq_outside.proofs.Crashes.{names_last, none_of_none}
use Rattle.acq_outside.proofs.Outcomes.{only_synced}
use Rattle.acq_outside.specs.declared.change.DiskCall.TheVariants.{SyncNames}
use Rattle.acq_outside.specs.declared.state.FileState.{FileState}
use Rattle.acq_outside.specs.declared.state.NameChange.{NameChange}
use Rattle.journal_model.specs.Names.{partial}
use Rattle.journal_model.specs.Rest.{IsPartSynced}
use Rattle.partial_store.specs.Refinement.{LeavesPart}

lasts_at : (s : State) (bytes : List ℕ) (o : Option ℕ) (left : ℕ → List ℕ) → ((i : ℕ) → IsOutcome (file_at s.files i) (left i)) → option_map (file_at s.files) o ≡ Some (synced bytes) → option_map left o ≡ Some bytes
lasts_at s bytes None left outcomes is = absurd cc
lasts_at s bytes (Some i) left outcomes is =
    let same : file_at s.files i ≡ synced bytes = cc in
    ap (λ (b : List ℕ). Some b) (only_synced bytes (left i) (subst (λ (f : FileState). IsOutcome f (left i)) same (outcomes i)))

pub lasts_synced : (name bytes : List ℕ) (s : State) → IsPartSynced name bytes s → LeavesPart name bytes (after s SyncNames)
lasts_synced name bytes s finished image left = names_last s image left (partial name) ∙ lasts_at s bytes (names_of s (partial name)) left.bytes left.outcomes finished.is

pub lasts_unmoved : (name bytes : List ℕ) (s : State) → IsPartSynced name bytes s → s.pending ≡ [] → LeavesPart name bytes s
lasts_unmoved name bytes s finished unmoved image left =
    let nothing : left.some ≡ [] = none_of_none left.some s.pending left.part unmoved in
    let same : all_renamed s.base left.some ≡ names_of s = ap (λ (l : List NameChange). all_renamed s.base l) nothing ∙ ap (λ (l : List NameChange). all_renamed s.base l) (sym unmoved) in
    left.shows (partial name) ∙ ap (λ (m : Names). option_map left.bytes (m (partial name))) same ∙ lasts_at s bytes (names_of s (partial name)) left.bytes left.outcomes finished.is
