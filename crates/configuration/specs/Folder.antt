-- The texts of the configuration folder that count.
use Rattle.std.specs.Prelude.{ℕ, List, [], map, unwrap_or}
use Rattle.acq_outside.specs.Etc.{EtcFiles, bytes_at, folder_names}
use Rattle.acq_outside.specs.declared.etc.Place.{Place}
use Rattle.acq_outside.specs.declared.etc.Place.TheVariants.{SourcesList, SourcesParts, Conf, ConfParts}
use Rattle.configuration.specs.Names.{counts, listing}

-- a file's name in its folder, and its text
abbrev pub FolderFile : Type 0
FolderFile = List ℕ × List ℕ

-- apt.conf.d, apt.conf, sources.list and sources.list.d
pub record Folder : Type 0 where
  pub conf_parts : List FolderFile
  pub conf : List ℕ
  pub list : List ℕ
  pub list_parts : List FolderFile

-- a file that isn't there is an empty text
abbrev pub text_at : EtcFiles → Place → List ℕ → List ℕ
text_at files place name = unwrap_or (bytes_at files place name) []

-- the files of these names with their texts
abbrev pub parts_at : EtcFiles → Place → List (List ℕ) → List FolderFile
parts_at files place names = map (λ name. (name, text_at files place name)) names

-- those files of a folder that count, in byte order of their names
abbrev pub parts_in : EtcFiles → Place → List FolderFile
parts_in files place = parts_at files place (listing (counts place) (folder_names files place))

unfoldable pub folder_of : EtcFiles → Folder
folder_of files = record {
  conf_parts = parts_in files ConfParts;
  conf = text_at files Conf [];
  list = text_at files SourcesList [];
  list_parts = parts_in files SourcesParts;
}
