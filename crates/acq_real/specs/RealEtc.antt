-- What a real configuration folder shows, and where its files lie.
use Rattle.std.specs.Prelude.{◌≡◌, ◌≢◌, ℕ, List, [], ◌++◌, codes, Result, Ok, Err, string_bytes}
use Rattle.std.specs.Fs.{IsFile, file_type}
use Rattle.std.specs.IoError.{error_kind}
use Rattle.std.specs.declared.io.Error.{Error}
use Rattle.std.specs.declared.io.ErrorKind.TheVariants.{NotFound}
use Rattle.std.specs.declared.fs.Metadata.{Metadata}
use Rattle.acq_outside.specs.declared.etc.Place.{Place}
use Rattle.acq_outside.specs.declared.etc.Place.TheVariants.{SourcesList, SourcesParts, Conf, ConfParts}
use Rattle.acq_real.specs.Folder.{IsSegment}
use Rattle.acq_real.specs.declared.etc.RealEtc.{RealEtc}

abbrev pub faults_of : {R : Type 0} → RealEtc R → ℕ
faults_of etc = etc.faults

-- the path of the folder
abbrev pub folder_of : {R : Type 0} → RealEtc R → List ℕ
folder_of etc = string_bytes etc.folder

abbrev pub place_name : Place → List ℕ
place_name SourcesList = codes "sources.list"
place_name SourcesParts = codes "sources.list.d"
place_name Conf = codes "apt.conf"
place_name ConfParts = codes "apt.conf.d"

abbrev pub place_path : List ℕ → Place → List ℕ
place_path folder place = folder ++ (codes "/" ++ place_name place)

abbrev pub part_path : List ℕ → Place → List ℕ → List ℕ
part_path folder place name = place_path folder place ++ (codes "/" ++ name)

-- a single file lies at its place, and has no name
abbrev pub IsSingleAt : List ℕ → Place → List ℕ → List ℕ → Type 0
IsSingleAt folder place name path = (path ≡ place_path folder place) × (name ≡ [])

-- a part lies in its folder, and its name leads to no other
abbrev pub IsPartAt : List ℕ → Place → List ℕ → List ℕ → Type 0
IsPartAt folder place name path = (path ≡ part_path folder place name) × IsSegment name

abbrev pub IsPathAt : List ℕ → Place → List ℕ → List ℕ → Type 0
IsPathAt folder SourcesList name path = IsSingleAt folder SourcesList name path
IsPathAt folder SourcesParts name path = IsPartAt folder SourcesParts name path
IsPathAt folder Conf name path = IsSingleAt folder Conf name path
IsPathAt folder ConfParts name path = IsPartAt folder ConfParts name path

-- what a name leads to is a plain file, or can't be looked at although it is there
abbrev pub IsListed : Result Metadata Error → Type 0
IsListed (Ok found) = IsFile (file_type found)
IsListed (Err error) = error_kind error ≢ NotFound
