-- One step of a configuration after another.
use Rattle.std.proofs.Common.{◌≡◌, ◌∙◌, refl, sym, ap, subst, inl, inr, ◌⊎◌, ℕ, true, List, [], ◌++◌, Option, Some, None, Result, Ok, Err}
use Rattle.std.specs.List.{list_all}
use Rattle.acq_outside.specs.Etc.{EtcFiles}
use Rattle.acq_outside.specs.declared.etc.Place.{Place}
use Rattle.acq_outside.specs.declared.etc.Place.TheVariants.{SourcesList, SourcesParts, Conf, ConfParts}
use Rattle.apt_conf.specs.Keys.{Pair}
use Rattle.source_lists.specs.declared.entry.Entry.{Entry}
use Rattle.configuration.specs.declared.error.ConfigurationError.{ConfigurationError}
use Rattle.configuration.specs.Answers.{Adds, AddsParts, AddsText, AreCounted, AreNames, AreParts, IsOrdered, IsOutside, IsText, ReadsConf, ReadsEntries}
use Rattle.configuration.specs.Configured.{all_of, conf_part, conf_text, entries_given, list_part, list_text, option_pair, pairs_given}
use Rattle.configuration.specs.Folder.{Folder, FolderFile, parts_in}
use Rattle.configuration.specs.Names.{counts}
use Rattle.configuration.proofs.Fronts.{some_text}
use Rattle.configuration.proofs.Order.{ordered_nil, Name}

-- ---- parts that count

pub some_counted : (told : Option EtcFiles) (place : Place) → (parts : List FolderFile) × AreCounted told place parts
some_counted (Some files) place = (parts_in files place, refl)
some_counted None place = ([], (ordered_nil, refl))

counted : (told : Option EtcFiles) (place : Place) (names : List Name) (parts : List FolderFile) → AreNames told place names → AreParts told place names parts → AreCounted told place parts
counted (Some files) place names parts listed are = are ∙ ap (λ (ns : List Name). Rattle.configuration.specs.Folder.parts_at files place ns) listed
counted None place names parts listed are = subst (λ (ns : List Name). IsOrdered ns × (list_all (counts place) ns ≡ true)) (sym are) listed

-- ---- apt.conf

module _ (parts : List FolderFile) (conf : List ℕ) (options : List Name) where
  parts_stop : (refusal : ConfigurationError) → all_of conf_part parts ≡ Err refusal → pairs_given parts conf options ≡ Err refusal
  unfolding pairs_given
  parts_stop refusal first = rw first refl

  conf_stop : (a : List Pair) (refusal : ConfigurationError) → all_of conf_part parts ≡ Ok a → conf_text conf ≡ Err refusal → pairs_given parts conf options ≡ Err refusal
  unfolding pairs_given
  conf_stop a refusal first second = rw (first, second) refl

  said_stop : (a b : List Pair) (refusal : ConfigurationError) → all_of conf_part parts ≡ Ok a → conf_text conf ≡ Ok b → all_of option_pair options ≡ Err refusal → pairs_given parts conf options ≡ Err refusal
  unfolding pairs_given
  said_stop a b refusal first second last = rw (first, second, last) refl

  said_end : (a b c : List Pair) → all_of conf_part parts ≡ Ok a → conf_text conf ≡ Ok b → all_of option_pair options ≡ Ok c → pairs_given parts conf options ≡ Ok (a ++ b ++ c)
  unfolding pairs_given
  said_end a b c first second last = rw (first, second, last) refl

-- a failure that no text explains
maybe : {P Q : Type 0} (refusal : ConfigurationError) → (P → Q) → IsOutside refusal ⊎ P → IsOutside refusal ⊎ Q
maybe refusal to (inl outside) = inl outside
maybe refusal to (inr is) = inr (to is)

module _ (told : Option EtcFiles) (options : List Name) where
  pub conf_outside : (refusal : ConfigurationError) → IsOutside refusal → ReadsConf told options (Err refusal)
  conf_outside refusal outside =
      let parts = some_counted told ConfParts in
      let text = some_text told Conf [] in
      record { parts = parts.0; conf = text.0; counted = parts.1; text = text.1; gives = inl outside }

  pub conf_parts_stop : (told1 : Option EtcFiles) (names : List Name) (after : List Pair) (refusal : ConfigurationError) → told1 ≡ told → AreNames told ConfParts names → AddsParts told1 ConfParts names conf_part [] after (Err refusal)
      → ReadsConf told options (Err refusal)
  conf_parts_stop told1 names after refusal same listed (parts, are, adds) =
      let text = some_text told Conf [] in
      record {
        parts = parts;
        conf = text.0;
        counted = counted told ConfParts names parts listed (subst (λ (t : Option EtcFiles). AreParts t ConfParts names parts) same are);
        text = text.1;
        gives = maybe refusal (parts_stop parts text.0 options refusal) adds;
      }

  module _ (told1 told2 : Option EtcFiles) (names : List Name) (pairs : List Pair) (done : Unit {0}) (same1 : told1 ≡ told) (same2 : told2 ≡ told) (listed : AreNames told ConfParts names) where
    pub conf_single_stop : (after : List Pair) (refusal : ConfigurationError) → AddsParts told1 ConfParts names conf_part [] pairs (Ok done) → AddsText told2 Conf [] conf_text pairs after (Err refusal) → ReadsConf told options (Err refusal)
    conf_single_stop after refusal (parts, are, (a, first, is)) (text, here, adds) = record {
      parts = parts;
      conf = text;
      counted = counted told ConfParts names parts listed (subst (λ (t : Option EtcFiles). AreParts t ConfParts names parts) same1 are);
      text = subst (λ (t : Option EtcFiles). IsText t Conf [] text) same2 here;
      gives = maybe refusal (conf_stop parts text options a refusal first) adds;
    }

    pub conf_options_stop : (later after : List Pair) (done2 : Unit {0}) (refusal : ConfigurationError) → AddsParts told1 ConfParts names conf_part [] pairs (Ok done) → AddsText told2 Conf [] conf_text pairs later (Ok done2)
        → Adds (all_of option_pair options) later after (Err refusal) → ReadsConf told options (Err refusal)
    conf_options_stop later after done2 refusal (parts, are, (a, first, is)) (text, here, (b, second, is2)) adds = record {
      parts = parts;
      conf = text;
      counted = counted told ConfParts names parts listed (subst (λ (t : Option EtcFiles). AreParts t ConfParts names parts) same1 are);
      text = subst (λ (t : Option EtcFiles). IsText t Conf [] text) same2 here;
      gives = maybe refusal (said_stop parts text options a b refusal first second) adds;
    }

    pub conf_ends : (later after : List Pair) (done2 done3 : Unit {0}) → AddsParts told1 ConfParts names conf_part [] pairs (Ok done) → AddsText told2 Conf [] conf_text pairs later (Ok done2)
        → Adds (all_of option_pair options) later after (Ok done3) → ReadsConf told options (Ok after)
    conf_ends later after done2 done3 (parts, are, (a, first, is)) (text, here, (b, second, is2)) (c, last, is3) = record {
      parts = parts;
      conf = text;
      counted = counted told ConfParts names parts listed (subst (λ (t : Option EtcFiles). AreParts t ConfParts names parts) same1 are);
      text = subst (λ (t : Option EtcFiles). IsText t Conf [] text) same2 here;
      gives = said_end parts text options a b c first second last ∙ sym (ap Ok (is3 ∙ ap (λ (xs : List Pair). xs ++ c) (is2 ∙ ap (λ (xs : List Pair). xs ++ b) is)));
    }

-- ---- sources lists

module _ (arch list : List ℕ) (parts : List FolderFile) where
  list_stop : (refusal : ConfigurationError) → list_text arch list ≡ Err refusal → entries_given arch list parts ≡ Err refusal
  unfolding entries_given
  list_stop refusal first = rw first refl

  others_stop : (a : List Entry) (refusal : ConfigurationError) → list_text arch list ≡ Ok a → all_of (list_part arch) parts ≡ Err refusal → entries_given arch list parts ≡ Err refusal
  unfolding entries_given
  others_stop a refusal first second = rw (first, second) refl

  others_end : (a b : List Entry) → list_text arch list ≡ Ok a → all_of (list_part arch) parts ≡ Ok b → entries_given arch list parts ≡ Ok (a ++ b)
  unfolding entries_given
  others_end a b first second = rw (first, second) refl

module _ (told : Option EtcFiles) (arch : List ℕ) where
  pub list_single_stop : (after : List Entry) (refusal : ConfigurationError) → AddsText told SourcesList [] (list_text arch) [] after (Err refusal) → ReadsEntries told arch (Err refusal)
  list_single_stop after refusal (text, here, adds) =
      let parts = some_counted told SourcesParts in
      record { list = text; parts = parts.0; text = here; counted = parts.1; gives = maybe refusal (list_stop arch text parts.0 refusal) adds }

  pub list_names_stop : (entries : List Entry) (done : Unit {0}) (refusal : ConfigurationError) → AddsText told SourcesList [] (list_text arch) [] entries (Ok done) → IsOutside refusal → ReadsEntries told arch (Err refusal)
  list_names_stop entries done refusal (text, here, adds) outside =
      let parts = some_counted told SourcesParts in
      record { list = text; parts = parts.0; text = here; counted = parts.1; gives = inl outside }

  module _ (told1 told2 : Option EtcFiles) (names : List Name) (entries : List Entry) (done : Unit {0}) (same1 : told1 ≡ told) (same2 : told2 ≡ told) (listed : AreNames told1 SourcesParts names) where
    listed_here : AreNames told SourcesParts names
    listed_here = subst (λ (t : Option EtcFiles). AreNames t SourcesParts names) same1 listed

    pub list_parts_stop : (after : List Entry) (refusal : ConfigurationError) → AddsText told SourcesList [] (list_text arch) [] entries (Ok done) → AddsParts told2 SourcesParts names (list_part arch) entries after (Err refusal)
        → ReadsEntries told arch (Err refusal)
    list_parts_stop after refusal (text, here, (a, first, is)) (parts, are, adds) = record {
      list = text;
      parts = parts;
      text = here;
      counted = counted told SourcesParts names parts listed_here (subst (λ (t : Option EtcFiles). AreParts t SourcesParts names parts) same2 are);
      gives = maybe refusal (others_stop arch text parts a refusal first) adds;
    }

    pub list_ends : (after : List Entry) (done2 : Unit {0}) → AddsText told SourcesList [] (list_text arch) [] entries (Ok done) → AddsParts told2 SourcesParts names (list_part arch) entries after (Ok done2) → ReadsEntries told arch (Ok after)
    list_ends after done2 (text, here, (a, first, is)) (parts, are, (b, second, is2)) = record {
      list = text;
      parts = parts;
      text = here;
      counted = counted told SourcesParts names parts listed_here (subst (λ (t : Option EtcFiles). AreParts t SourcesParts names parts) same2 are);
      gives = others_end arch text parts a b first second ∙ sym (ap Ok (is2 ∙ ap (λ (xs : List Entry). xs ++ b) is));
    }

-- ---- what a step starts from

pub conf_parts_from : (told : Option EtcFiles) (slice names : List Name) (start after : List Pair) (result : Result (Unit {0}) ConfigurationError) → slice ≡ names → start ≡ [] → AddsParts told ConfParts slice conf_part start after result
    → AddsParts told ConfParts names conf_part [] after result
conf_parts_from told slice names start after result same empty adds =
    subst (λ (ns : List Name). AddsParts told ConfParts ns conf_part [] after result) same (subst (λ (before : List Pair). AddsParts told ConfParts slice conf_part before after result) empty adds)

pub list_from : (told : Option EtcFiles) (arch : List ℕ) (start after : List Entry) (result : Result (Unit {0}) ConfigurationError) → start ≡ [] → AddsText told SourcesList [] (list_text arch) start after result
    → AddsText told SourcesList [] (list_text arch) [] after result
list_from told arch start after result empty adds = subst (λ (before : List Entry). AddsText told SourcesList [] (list_text arch) before after result) empty adds

pub list_parts_from : (told : Option EtcFiles) (arch : List ℕ) (slice names : List Name) (before after : List Entry) (result : Result (Unit {0}) ConfigurationError) → slice ≡ names → AddsParts told SourcesParts slice (list_part arch) before after result
    → AddsParts told SourcesParts names (list_part arch) before after result
list_parts_from told arch slice names before after result same adds = subst (λ (ns : List Name). AddsParts told SourcesParts ns (list_part arch) before after result) same adds

pub conf_given : (told : Option EtcFiles) (slice options : List Name) (result : Result (List Pair) ConfigurationError) → slice ≡ options → ReadsConf told slice result → ReadsConf told options result
conf_given told slice options result same read = subst (λ (os : List Name). ReadsConf told os result) same read
