-- How the crate's own functions answer.
use Rattle.std.specs.Prelude.{◌≡◌, ◌⊎◌, ℕ, true, List, [], ◌++◌, map, Option, Some, None, Result, Ok, Err}
use Rattle.std.specs.List.{list_all}
use Rattle.std.specs.List.Sorted.{IsStrictlySortedBy}
use Rattle.std.specs.Ordering.{nat_cmp}
use Rattle.std.specs.Cmp.Lexicographic.{slice_cmp}
use Rattle.acq_outside.specs.Etc.{EtcFiles, folder_names}
use Rattle.acq_outside.specs.declared.etc.Place.{Place}
use Rattle.configuration.specs.declared.error.ConfigurationError.{ConfigurationError}
use Rattle.configuration.specs.declared.error.ConfigurationError.TheVariants.{Fault, NoMemory}
use Rattle.configuration.specs.Names.{counts, listing}
use Rattle.acq_outside.specs.declared.etc.Place.TheVariants.{SourcesList, SourcesParts, Conf, ConfParts}
use Rattle.apt_conf.specs.Keys.{Pair}
use Rattle.source_lists.specs.declared.entry.Entry.{Entry}
use Rattle.configuration.specs.Folder.{FolderFile, parts_at, parts_in, text_at}
use Rattle.configuration.specs.Configured.{all_of, pairs_given, entries_given}

-- the folder failed, or memory ran out
abbrev pub IsOutside : ConfigurationError → Type 0
IsOutside refusal = (refusal ≡ Fault) ⊎ (refusal ≡ NoMemory)

-- the result is what was read, unless the folder failed or memory ran out
abbrev pub Gives : {A : Type 0} → Result A ConfigurationError → Result A ConfigurationError → Type 0
Gives read (Ok given) = read ≡ Ok given
Gives read (Err refusal) = IsOutside refusal ⊎ (read ≡ Err refusal)

-- what was read stands behind what was given before
abbrev pub Adds : {X : Type 0} → Result (List X) ConfigurationError → List X → List X → Result (Unit {0}) ConfigurationError → Type 0
Adds {X} read before after (Ok done) = (more : List X) × (read ≡ Ok more) × (after ≡ before ++ more)
Adds {X} read before after (Err refusal) = IsOutside refusal ⊎ (read ≡ Err refusal)

-- in byte order, each once
abbrev pub IsOrdered : List (List ℕ) → Type 0
IsOrdered names = IsStrictlySortedBy (slice_cmp nat_cmp) names

-- the names are those that count, as they are told, or some that count
abbrev pub AreNames : Option EtcFiles → Place → List (List ℕ) → Type 0
AreNames (Some files) place names = names ≡ listing (counts place) (folder_names files place)
AreNames None place names = IsOrdered names × (list_all (counts place) names ≡ true)

-- the text is the file's, where it is told
abbrev pub IsText : Option EtcFiles → Place → List ℕ → List ℕ → Type 0
IsText (Some files) place name text = text ≡ text_at files place name
IsText None place name text = Unit {0}

abbrev pub part_names : List FolderFile → List (List ℕ)
part_names parts = map (λ part. part.0) parts

-- the parts are the files of these names, with their texts where they are told
abbrev pub AreParts : Option EtcFiles → Place → List (List ℕ) → List FolderFile → Type 0
AreParts (Some files) place names parts = parts ≡ parts_at files place names
AreParts None place names parts = part_names parts ≡ names

-- one file adds what its text gives
abbrev pub AddsText : {X : Type 0} → Option EtcFiles → Place → List ℕ → (List ℕ → Result (List X) ConfigurationError) → List X → List X → Result (Unit {0}) ConfigurationError → Type 0
AddsText told place name read before after result = (text : List ℕ) × IsText told place name text × Adds (read text) before after result

-- the files of these names add what their texts give
abbrev pub AddsParts : {X : Type 0} → Option EtcFiles → Place → List (List ℕ) → (FolderFile → Result (List X) ConfigurationError) → List X → List X → Result (Unit {0}) ConfigurationError → Type 0
AddsParts told place names read before after result = (parts : List FolderFile) × AreParts told place names parts × Adds (all_of read parts) before after result

-- the parts are the files that count, as they are told, or some that count
abbrev pub AreCounted : Option EtcFiles → Place → List FolderFile → Type 0
AreCounted (Some files) place parts = parts ≡ parts_in files place
AreCounted None place parts = IsOrdered (part_names parts) × (list_all (counts place) (part_names parts) ≡ true)

-- apt.conf.d, apt.conf and the options give the pairs
pub record ReadsConf (told : Option EtcFiles) (options : List (List ℕ)) (result : Result (List Pair) ConfigurationError) : Type 0 where
  pub parts : List FolderFile
  pub conf : List ℕ
  pub counted : AreCounted told ConfParts parts
  pub text : IsText told Conf [] conf
  pub gives : Gives (pairs_given parts conf options) result

-- sources.list and sources.list.d give the entries
pub record ReadsEntries (told : Option EtcFiles) (arch : List ℕ) (result : Result (List Entry) ConfigurationError) : Type 0 where
  pub list : List ℕ
  pub parts : List FolderFile
  pub text : IsText told SourcesList [] list
  pub counted : AreCounted told SourcesParts parts
  pub gives : Gives (entries_given arch list parts) result
