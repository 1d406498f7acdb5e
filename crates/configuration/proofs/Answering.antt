-- The answer of the whole from those of its steps.
use Rattle.std.proofs.Common.{◌≡◌, ◌∙◌, refl, sym, ap, subst, inl, inr, ◌⊎◌, ℕ, List, [], Option, Some, None, Result, Ok, Err}
use Rattle.std.specs.Prelude.{IfSome}
use Rattle.acq_base.specs.declared.plan.Plan.{Plan}
use Rattle.acq_base.specs.declared.settings.Settings.{Settings}
use Rattle.acq_outside.specs.Etc.{EtcFiles}
use Rattle.acq_outside.specs.declared.etc.Place.TheVariants.{SourcesList, SourcesParts, Conf, ConfParts}
use Rattle.apt_conf.specs.Keys.{Pair}
use Rattle.apt_conf.specs.Settings.{settings_of}
use Rattle.release_file.specs.declared.changing.Change.{Change}
use Rattle.source_lists.specs.declared.entry.Entry.{Entry}
use Rattle.target_plan.specs.Planning.{plan_of}
use Rattle.configuration.specs.declared.configuring.Configured.{Configured}
use Rattle.configuration.specs.declared.error.ConfigurationError.{ConfigurationError}
use Rattle.configuration.specs.Answers.{AreCounted, Gives, IsOutside, IsText, ReadsConf, ReadsEntries}
use Rattle.configuration.specs.Changes.{change_given}
use Rattle.configuration.specs.Configured.{IsAnswer, configured, entries_given, of_value, pairs_given}
use Rattle.configuration.specs.Folder.{Folder, FolderFile, folder_of}
use Rattle.configuration.specs.Refusals.{in_plan}
use Rattle.configuration.proofs.Steps.{some_counted}
use Rattle.configuration.proofs.Fronts.{some_text}
use Rattle.configuration.proofs.Files.{some_files}
use Rattle.configuration.proofs.Order.{Name}

-- ---- the steps of the definition

module _ (folder : Folder) (options : List Name) where
  pairs_stop : (refusal : ConfigurationError) → pairs_given folder.conf_parts folder.conf options ≡ Err refusal → configured folder options ≡ Err refusal
  unfolding configured
  pairs_stop refusal first = rw first refl

  settings_stop : (pairs : List Pair) (refusal : ConfigurationError) → pairs_given folder.conf_parts folder.conf options ≡ Ok pairs → of_value (settings_of pairs) ≡ Err refusal → configured folder options ≡ Err refusal
  unfolding configured
  settings_stop pairs refusal first second = rw (first, second) refl

  change_stop : (pairs : List Pair) (settings : Settings) (refusal : ConfigurationError) → pairs_given folder.conf_parts folder.conf options ≡ Ok pairs → of_value (settings_of pairs) ≡ Ok settings → of_value (change_given pairs) ≡ Err refusal
      → configured folder options ≡ Err refusal
  unfolding configured
  change_stop pairs settings refusal first second third = rw (first, second, third) refl

  entries_stop : (pairs : List Pair) (settings : Settings) (change : Change) (refusal : ConfigurationError) → pairs_given folder.conf_parts folder.conf options ≡ Ok pairs → of_value (settings_of pairs) ≡ Ok settings → of_value (change_given pairs) ≡ Ok change
      → entries_given settings.arch folder.list folder.list_parts ≡ Err refusal → configured folder options ≡ Err refusal
  unfolding configured
  entries_stop pairs settings change refusal first second third fourth = rw (first, second, third, fourth) refl

  plan_stop : (pairs : List Pair) (settings : Settings) (change : Change) (entries : List Entry) (refusal : ConfigurationError) → pairs_given folder.conf_parts folder.conf options ≡ Ok pairs → of_value (settings_of pairs) ≡ Ok settings
      → of_value (change_given pairs) ≡ Ok change → entries_given settings.arch folder.list folder.list_parts ≡ Ok entries → in_plan (plan_of settings.pick settings entries) ≡ Err refusal → configured folder options ≡ Err refusal
  unfolding configured
  plan_stop pairs settings change entries refusal first second third fourth last = rw (first, second, third, fourth, last) refl

  plan_end : (pairs : List Pair) (settings : Settings) (change : Change) (entries : List Entry) (plan : Plan) → pairs_given folder.conf_parts folder.conf options ≡ Ok pairs → of_value (settings_of pairs) ≡ Ok settings
      → of_value (change_given pairs) ≡ Ok change → entries_given settings.arch folder.list folder.list_parts ≡ Ok entries → in_plan (plan_of settings.pick settings entries) ≡ Ok plan
      → configured folder options ≡ Ok (record { plan = plan; settings = settings; change = change })
  unfolding configured
  plan_end pairs settings change entries plan first second third fourth last = rw (first, second, third, fourth, last) refl

-- ---- the folder

-- each of its texts is told, or its files are some that count
pub record IsFolder (told : Option EtcFiles) (folder : Folder) : Type 0 where
  pub conf_parts : AreCounted told ConfParts folder.conf_parts
  pub conf : IsText told Conf [] folder.conf
  pub list : IsText told SourcesList [] folder.list
  pub list_parts : AreCounted told SourcesParts folder.list_parts

files_of : (told : Option EtcFiles) (folder : Folder) → IsFolder told folder → (files : EtcFiles) × IfSome told (λ all. files ≡ all) × (folder ≡ folder_of files)
unfolding folder_of
files_of (Some all) folder is = (all, refl, λ i. record { conf_parts = is.conf_parts i; conf = is.conf i; list = is.list i; list_parts = is.list_parts i })
files_of None folder is = let found = some_files folder is.conf_parts is.list_parts in (found.0, tt, sym found.1)

answers : (told : Option EtcFiles) (folder : Folder) (options : List Name) (result : Result Configured ConfigurationError) → IsFolder told folder → configured folder options ≡ result → IsAnswer told options result
answers told folder options result is whole =
    let found = files_of told folder is in
    inr (inr (found.0, found.1, sym whole ∙ ap (λ (f : Folder). configured f options) found.2))

outside_answer : (told : Option EtcFiles) (options : List Name) (refusal : ConfigurationError) → IsOutside refusal → IsAnswer told options (Err refusal)
outside_answer told options refusal (inl fault) = inr (inl (ap Err fault))
outside_answer told options refusal (inr memory) = inl (ap Err memory)

stops : (told : Option EtcFiles) (folder : Folder) (options : List Name) (refusal : ConfigurationError) {P : Type 0} → IsFolder told folder → (P → configured folder options ≡ Err refusal) → IsOutside refusal ⊎ P → IsAnswer told options (Err refusal)
stops told folder options refusal is to (inl outside) = outside_answer told options refusal outside
stops told folder options refusal is to (inr refused) = answers told folder options (Err refusal) is (to refused)

-- a folder with these texts of apt.conf, and some sources lists
module _ (told : Option EtcFiles) (options : List Name) where
  conf_folder : (parts : List FolderFile) (conf : List ℕ) → Folder
  conf_folder parts conf = record { conf_parts = parts; conf = conf; list = (some_text told SourcesList []).0; list_parts = (some_counted told SourcesParts).0 }

  is_conf_folder : (parts : List FolderFile) (conf : List ℕ) → AreCounted told ConfParts parts → IsText told Conf [] conf → IsFolder told (conf_folder parts conf)
  unfolding conf_folder
  is_conf_folder parts conf counted text = record { conf_parts = counted; conf = text; list = (some_text told SourcesList []).1; list_parts = (some_counted told SourcesParts).1 }

  pub pairs_fail : (refusal : ConfigurationError) → ReadsConf told options (Err refusal) → IsAnswer told options (Err refusal)
  unfolding conf_folder
  pairs_fail refusal read =
      let folder = conf_folder read.parts read.conf in
      stops told folder options refusal (is_conf_folder read.parts read.conf read.counted read.text) (pairs_stop folder options refusal) read.gives

  pub settings_fail : (pairs : List Pair) (refusal : ConfigurationError) → ReadsConf told options (Ok pairs) → Gives (of_value (settings_of pairs)) (Err refusal) → IsAnswer told options (Err refusal)
  unfolding conf_folder
  settings_fail pairs refusal read gives =
      let folder = conf_folder read.parts read.conf in
      stops told folder options refusal (is_conf_folder read.parts read.conf read.counted read.text) (settings_stop folder options pairs refusal read.gives) gives

  pub change_fail : (pairs : List Pair) (settings : Settings) (refusal : ConfigurationError) → ReadsConf told options (Ok pairs) → Gives (of_value (settings_of pairs)) (Ok settings) → Gives (of_value (change_given pairs)) (Err refusal)
      → IsAnswer told options (Err refusal)
  unfolding conf_folder
  change_fail pairs settings refusal read second gives =
      let folder = conf_folder read.parts read.conf in
      stops told folder options refusal (is_conf_folder read.parts read.conf read.counted read.text) (change_stop folder options pairs settings refusal read.gives second) gives

  module _ (told1 : Option EtcFiles) (pairs : List Pair) (settings : Settings) (change : Change) (same : told1 ≡ told) (read : ReadsConf told options (Ok pairs)) (second : Gives (of_value (settings_of pairs)) (Ok settings))
      (third : Gives (of_value (change_given pairs)) (Ok change)) where
    whole : (list : List ℕ) (parts : List FolderFile) → Folder
    whole list parts = record { conf_parts = read.parts; conf = read.conf; list = list; list_parts = parts }

    is_whole : (list : List ℕ) (parts : List FolderFile) → IsText told1 SourcesList [] list → AreCounted told1 SourcesParts parts → IsFolder told (whole list parts)
    unfolding whole
    is_whole list parts text counted = record {
      conf_parts = read.counted;
      conf = read.text;
      list = subst (λ (t : Option EtcFiles). IsText t SourcesList [] list) same text;
      list_parts = subst (λ (t : Option EtcFiles). AreCounted t SourcesParts parts) same counted;
    }

    pub entries_fail : (refusal : ConfigurationError) → ReadsEntries told1 settings.arch (Err refusal) → IsAnswer told options (Err refusal)
    unfolding whole
    entries_fail refusal lists =
        let folder = whole lists.list lists.parts in
        stops told folder options refusal (is_whole lists.list lists.parts lists.text lists.counted) (entries_stop folder options pairs settings change refusal read.gives second third) lists.gives

    pub plan_fail : (entries : List Entry) (refusal : ConfigurationError) → ReadsEntries told1 settings.arch (Ok entries) → Gives (in_plan (plan_of settings.pick settings entries)) (Err refusal) → IsAnswer told options (Err refusal)
    unfolding whole
    plan_fail entries refusal lists gives =
        let folder = whole lists.list lists.parts in
        stops told folder options refusal (is_whole lists.list lists.parts lists.text lists.counted) (plan_stop folder options pairs settings change entries refusal read.gives second third lists.gives) gives

    pub plan_ends : (entries : List Entry) (plan : Plan) → ReadsEntries told1 settings.arch (Ok entries) → Gives (in_plan (plan_of settings.pick settings entries)) (Ok plan)
        → IsAnswer told options (Ok (record { plan = plan; settings = settings; change = change }))
    unfolding whole
    plan_ends entries plan lists gives =
        let folder = whole lists.list lists.parts in
        answers told folder options _ (is_whole lists.list lists.parts lists.text lists.counted) (plan_end folder options pairs settings change entries plan read.gives second third lists.gives gives)
