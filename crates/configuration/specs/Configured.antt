-- What a configuration folder and the options of the command line give: plan, settings and change, or the first refusal.
use Rattle.std.specs.Prelude.{◌≡◌, ℕ, ◌⊎◌, List, [], ◌∷◌, ◌++◌, codes, Option, Some, None, IfSome, IsErrOf, Result, Ok, Err}
use Rattle.acq_outside.specs.Etc.{EtcFiles}
use Rattle.apt_conf.specs.declared.error.ConfError.{ConfError}
use Rattle.apt_conf.specs.Keys.{Pair}
use Rattle.apt_conf.specs.Reading.{pairs_of, pair_of}
use Rattle.apt_conf.specs.Settings.{settings_of}
use Rattle.source_lists.specs.declared.entry.Entry.{Entry}
use Rattle.source_lists.specs.declared.error.ListError.{ListError}
use Rattle.source_lists.specs.declared.files.Form.{Form}
use Rattle.source_lists.specs.declared.files.Form.TheVariants.{List as OneLine, Sources}
use Rattle.source_lists.specs.Files.{form_of}
use Rattle.source_lists.specs.Texts.{list_entries, sources_entries}
use Rattle.target_plan.specs.Planning.{plan_of}
use Rattle.configuration.specs.declared.configuring.Configured.{Configured}
use Rattle.configuration.specs.declared.error.ConfigurationError.{ConfigurationError}
use Rattle.configuration.specs.declared.error.ConfigurationError.TheVariants.{Fault, NoMemory}
use Rattle.configuration.specs.Folder.{FolderFile, Folder, folder_of}
use Rattle.configuration.specs.Changes.{change_given}
use Rattle.configuration.specs.Refusals.{in_conf, in_list, in_plan}

-- one step after another: the first refusal ends it
infixl 10 ◌>>=◌
abbrev pub ◌>>=◌ : {A B : Type 0} → Result A ConfigurationError → (A → Result B ConfigurationError) → Result B ConfigurationError
(Ok given) >>= next = next given
(Err refusal) >>= next = Err refusal

-- what texts give one behind another, or the refusal of the first that is refused
unfoldable pub all_of : {X Y : Type 0} → (X → Result (List Y) ConfigurationError) → List X → Result (List Y) ConfigurationError
all_of read [] = Ok []
all_of read (text ∷ texts) = do
  found ← read text
  others ← all_of read texts
  Ok (found ++ others)

-- ---- apt.conf

abbrev pub conf_part : FolderFile → Result (List Pair) ConfigurationError
conf_part part = in_conf (codes "apt.conf.d/" ++ part.0) (pairs_of part.1)

abbrev pub conf_text : List ℕ → Result (List Pair) ConfigurationError
conf_text text = in_conf (codes "apt.conf") (pairs_of text)

-- the value of an option of the command line
abbrev pub option_pair : List ℕ → Result (List Pair) ConfigurationError
option_pair word = in_conf (codes "-o") (pair_of word)

-- the pairs of apt.conf.d, of apt.conf and of the command line, in this order
unfoldable pub pairs_given : List FolderFile → List ℕ → List (List ℕ) → Result (List Pair) ConfigurationError
pairs_given parts conf options = do
  first ← all_of conf_part parts
  second ← conf_text conf
  last ← all_of option_pair options
  Ok (first ++ second ++ last)

-- ---- sources lists

abbrev pub entries_by : Option Form → List ℕ → List ℕ → List ℕ → Result (List Entry) ListError
entries_by (Some OneLine) file arch text = list_entries file arch text
entries_by (Some Sources) file arch text = sources_entries file arch text
entries_by None file arch text = Ok []

abbrev pub part_file : FolderFile → List ℕ
part_file part = codes "sources.list.d/" ++ part.0

-- a file of sources.list.d, in the form that its name says
abbrev pub list_part : List ℕ → FolderFile → Result (List Entry) ConfigurationError
list_part arch part = in_list (part_file part) (entries_by (form_of part.0) (part_file part) arch part.1)

abbrev pub list_text : List ℕ → List ℕ → Result (List Entry) ConfigurationError
list_text arch text = in_list (codes "sources.list") (list_entries (codes "sources.list") arch text)

-- the entries of sources.list and then of sources.list.d
unfoldable pub entries_given : List ℕ → List ℕ → List FolderFile → Result (List Entry) ConfigurationError
entries_given arch list parts = do
  first ← list_text arch list
  others ← all_of (list_part arch) parts
  Ok (first ++ others)

-- ---- the whole

-- a value is refused by its key, whichever file gave it
abbrev pub of_value : {A : Type 0} → Result A ConfError → Result A ConfigurationError
of_value read = in_conf [] read

-- settings and change before any sources list, the plan last
unfoldable pub configured : Folder → List (List ℕ) → Result Configured ConfigurationError
configured folder options = do
  pairs ← pairs_given folder.conf_parts folder.conf options
  settings ← of_value (settings_of pairs)
  change ← of_value (change_given pairs)
  entries ← entries_given settings.arch folder.list folder.list_parts
  plan ← in_plan (plan_of settings.pick settings entries)
  Ok (record { plan = plan; settings = settings; change = change })

-- memory ran out, or the folder failed, or the answer is that of the files that are told, or of some files where none are
abbrev pub IsAnswer : Option EtcFiles → List (List ℕ) → Result Configured ConfigurationError → Type 0
IsAnswer told options result =
    IsErrOf result NoMemory
    ⊎ (IsErrOf result Fault
    ⊎ ((files : EtcFiles) × IfSome told (λ all. files ≡ all) × (result ≡ configured (folder_of files) options)))
