-- A sources list is read by its place, its name, its label and its form, whatever these are called.
use Rattle.std.proofs.Common.{◌≡◌, subst, ℕ, List, Option, Result}
use Rattle.acq_outside.specs.Etc.{EtcFiles}
use Rattle.acq_outside.specs.declared.etc.Place.{Place}
use Rattle.source_lists.specs.declared.entry.Entry.{Entry}
use Rattle.source_lists.specs.declared.files.Form.{Form}
use Rattle.configuration.specs.declared.error.ConfigurationError.{ConfigurationError}
use Rattle.configuration.specs.Answers.{AddsText}
use Rattle.configuration.specs.Configured.{entries_by}
use Rattle.configuration.specs.Refusals.{in_list}

-- the entries of one file stand behind those from before
abbrev pub AddsFile : Option EtcFiles → List ℕ → List Entry → List Entry → Result (Unit {0}) ConfigurationError → Place → List ℕ → List ℕ → Option Form → Type 0
AddsFile told arch before after result place name label form = AddsText told place name (λ text. in_list label (entries_by form label arch text)) before after result

pub called : (told : Option EtcFiles) (arch : List ℕ) (before after : List Entry) (result : Result (Unit {0}) ConfigurationError)
    → (place : Place) (name label : List ℕ) (form : Option Form) (place2 : Place) (name2 label2 : List ℕ) (form2 : Option Form)
    → place ≡ place2 → name ≡ name2 → label ≡ label2 → form ≡ form2 → AddsFile told arch before after result place name label form → AddsFile told arch before after result place2 name2 label2 form2
called told arch before after result place name label form place2 name2 label2 form2 p n l f adds =
    subst (λ (q : Place). AddsFile told arch before after result q name2 label2 form2) p
    (subst (λ (m : List ℕ). AddsFile told arch before after result place m label2 form2) n
    (subst (λ (k : List ℕ). AddsFile told arch before after result place name k form2) l
    (subst (λ (o : Option Form). AddsFile told arch before after result place name label o) f adds)))
