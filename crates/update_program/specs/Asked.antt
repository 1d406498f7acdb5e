-- What words, configuration and clock ask for.
use Rattle.std.specs.Prelude.{◌≡◌, ◌⊎◌, ℕ, ℤ, Bool, List, map, Option, Some, None, Ok, Err, Result, IfSome, IsSomeAnd, String, string_bytes}
use Rattle.std.specs.Global.{Global}
use Rattle.acq_outside.specs.Etc.{EtcFiles}
use Rattle.command_words.specs.Words.{request_of}
use Rattle.command_words.specs.declared.request.Options.{Options}
use Rattle.command_words.specs.declared.request.Request.{Request}
use Rattle.command_words.specs.declared.request.Request.TheVariants.{Update, Generate}
use Rattle.configuration.specs.Configured.{configured}
use Rattle.configuration.specs.Folder.{folder_of}
use Rattle.configuration.specs.declared.configuring.Configured.{Configured}
use Rattle.configuration.specs.declared.error.ConfigurationError.{ConfigurationError}
use Rattle.update_engine.specs.Run.{Run, run_of}

-- what the words of a command line ask for
abbrev pub asked : List (String Global) → Option Request
asked words = request_of (map string_bytes words)

-- P of the options, where an update is asked for
abbrev pub IfUpdate : Option Request → (Options → Type 0) → Type 0
IfUpdate None P = Unit {0}
IfUpdate (Some (Update options)) P = P options
IfUpdate (Some (Generate number)) P = Unit {0}

-- P, where no update is asked for
abbrev pub IfNoUpdate : Option Request → Type 0 → Type 0
IfNoUpdate None P = P
IfNoUpdate (Some (Update options)) P = Unit {0}
IfNoUpdate (Some (Generate number)) P = P

-- P of the number, where a mirror is to be generated
abbrev pub IfGenerate : Option Request → (ℕ → Type 0) → Type 0
IfGenerate None P = Unit {0}
IfGenerate (Some (Update options)) P = Unit {0}
IfGenerate (Some (Generate number)) P = P number

-- the files of the configuration folder, where they are told, or some files where none are, give this with the options
pub record GivesConfiguration (told : Option EtcFiles) (options : List (List ℕ)) (answer : Result Configured ConfigurationError) : Type 0 where
  pub files : EtcFiles
  pub those : IfSome told (λ all. files ≡ all)
  pub give : answer ≡ configured (folder_of files) options

-- there is no configuration: the files, where they are told, refuse it with the options, or the status tells a fault of its
-- folder
abbrev pub RefusesConfiguration : Option EtcFiles → List (List ℕ) → ℕ → Type 0
RefusesConfiguration told options status =
    IsSomeAnd told (λ files. (refusal : ConfigurationError) × (configured (folder_of files) options ≡ Err refusal)) ⊎ (status ≡ 106)

-- this holds, where the configuration was refused with this status
abbrev pub WhereRefused : Option EtcFiles → ℕ → Type 0 → Options → Type 0
WhereRefused told status fact options = RefusesConfiguration told options.pairs status → fact

abbrev pub run_for : Configured → ℤ → Bool → Run
run_for it now together = run_of it.plan it.settings it.change now together

-- options, files and moment ask for this run
pub record AsksForRun (told : Option EtcFiles) (options : Options) (moment : Option ℤ) (run : Run) : Type 0 where
  pub it : Configured
  pub given : GivesConfiguration told options.pairs (Ok it)
  pub time : ℤ
  pub at : moment ≡ Some time
  pub is : run ≡ run_for it time options.together
