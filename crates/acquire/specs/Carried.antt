-- What the program does with what it was started with.
use Rattle.std.specs.Prelude.{◌≡◌, ◌⊎◌, ℕ, Bool, true, false, bytes_eq, codes, List, [], ◌∷◌, drop, map, Option, IfNone, IfSome, String, string_bytes}
use Rattle.std.specs.Global.{Global, Vec}
use Rattle.acq_net.specs.declared.port.Port.{Ghosts as Ports}
use Rattle.acq_outside.specs.declared.clock.Clock.{Ghosts as Clocks}
use Rattle.acq_outside.specs.declared.disk.Disk.{Ghosts as Disks}
use Rattle.acq_outside.specs.declared.etc.Etc.{Ghosts as Etcs}
use Rattle.acq_outside.specs.declared.files.Files.{Ghosts as PutFiles}
use Rattle.acq_outside.specs.declared.inlet.Inlet.{Ghosts as Inlets}
use Rattle.acq_outside.specs.declared.method.Method.{Ghosts as Methods}
use Rattle.acq_outside.specs.declared.sink.Sink.{Ghosts as Sinks}
use Rattle.acq_outside.specs.declared.tree.Tree.{Ghosts as Trees}
use Rattle.start_values.specs.Environment.{Known}
use Rattle.start_values.specs.Start.{IsFolderRefusal, NamesFolders, etc_of, lists_of, place_of}
use Rattle.start_values.specs.declared.refused.Refused.{Refused}
use Rattle.start_values.specs.declared.refused.Refused.TheVariants.{Environment}
use Rattle.start_values.specs.Telling.{IsRefusalWritten, WritesRefusal}
use Rattle.update_program.specs.Asked.{IfGenerate, asked}
use Rattle.update_program.specs.Downloads.{DownloadsByFirst}
use Rattle.update_program.specs.Ending.{EndsUpdate, RefusesWords}
use Rattle.update_program.specs.Generated.{IsGenerated}
use Rattle.update_program.specs.Headline.{Headline}
use Rattle.update_program.specs.Objects.{output, span}
use Rattle.update_program.specs.Sides.{IfDownload, IfMethod, IfServe, IfUpdating, Otherwise, ServesPort, SpeaksByFirst, side_asked}
use Rattle.update_program.specs.declared.ran.Ran.{Ran}

-- the first word is that of the command which puts a file into the folder for package files
abbrev pub is_package : List (List ℕ) → Bool
is_package [] = false
is_package (command ∷ words) = bytes_eq command (codes "download")

-- this is the folder for package files that the environment names, or the words put no file there
abbrev pub IsPlace : Known → List (List ℕ) → List ℕ → Type 0
IsPlace known words place = (is_package words ≡ false) ⊎ (place ≡ place_of known)

-- why there is none: the words put a file there, and the environment names no folder for it; or memory ran out
abbrev pub IsPlaceRefusal : Known → List (List ℕ) → Refused → Type 0
IsPlaceRefusal known words refused = IsFolderRefusal (known.value (codes "ACQUIRE_PLACE")) refused × (refused ≡ Environment → is_package words ≡ true)

-- and that was told
abbrev pub RefusesPlace : Option Known → ℕ → ℕ → Option (List ℕ) → Option (List ℕ) → ℕ → Type 0
RefusesPlace told faults_before faults_after before after status =
    (refused : Refused) × IfSome told (λ known. IsPlaceRefusal known (drop 1 known.words) refused)
    × WritesRefusal faults_before faults_after before after refused status

-- One call of the top call over these methods and this input: its words are those behind the program's own name, its folders are
-- those that the environment names, whose variables are unset or paths, and the status is the call's; and how the call ends by
-- its words, with its headline. The causes of statuses of an update or a download are not among it, nor what stays as it was.
pub record CallsProgram {E D M C S I F P T : Type 0} (e : Etcs E) (d : Disks D) (m : Methods M) (c : Clocks C) (s : Sinks S) (i : Inlets I) (f : PutFiles F) (p : Ports P) (t : Trees T)
    (etc_folder : E → List ℕ) (folder : D → List ℕ) (told : Option Known) (methods methods' : Vec M) (input : I) (out out' : S) (status : ℕ) : Type 0 where
  pub words : List (String Global)
  pub words_are : IfSome told (λ known. map string_bytes words ≡ drop 1 known.words)
  pub folders_are : IfSome told NamesFolders
  pub etc : E
  pub etc_is : IfSome told (λ known. etc_folder etc ≡ etc_of known)
  pub lists : D
  pub lists' : D
  pub lists_is : IfSome told (λ known. folder lists ≡ lists_of known)
  pub clock' : C
  pub ran : Ran
  pub status_is : status ≡ ran.status.0
  pub refused : Otherwise (side_asked words) (IfNone (asked words) (RefusesWords (span d m s lists lists' methods methods' out out') ran))
  pub generated : Otherwise (side_asked words) (IfGenerate (asked words) (λ number. IsGenerated number (output s out) (output s out') ran.status.0))
  pub ended : IfUpdating words (EndsUpdate (e.files etc) (c.last clock') (span d m s lists lists' methods methods' out out') ran)
  pub headline : IfUpdating words (Headline (e.files etc) (c.last clock') (span d m s lists lists' methods methods' out out') ran)
  -- beside updates
  pub input' : I
  pub files : F
  pub files' : F
  pub speaks : IfMethod (side_asked words) (SpeaksByFirst i m f s input input' methods methods' files files' out out' ran)
  pub port : P
  pub port' : P
  pub tree : T
  pub tree' : T
  pub serves : IfServe (side_asked words) (ServesPort p t s port port' tree tree' out out' ran)
  pub place : D
  pub place' : D
  pub place_is : IfSome told (λ known. IsPlace known (map string_bytes words) (folder place))
  pub downloads : IfDownload (side_asked words) (DownloadsByFirst d d m s (e.files etc) lists lists' place place' methods methods' out out' ran)

-- words or a folder can't be had or memory ran out, which is told, or it ends as such a call may
abbrev pub CarriesOut : {E D M C S I F P T : Type 0} → Etcs E → Disks D → Methods M → Clocks C → Sinks S → Inlets I → PutFiles F → Ports P → Trees T
    → (E → List ℕ) → (D → List ℕ) → Option Known → Vec M → Vec M → I → S → S → ℕ → Type 0
CarriesOut e d m c s i f p t etc_folder folder told methods methods' input out out' status =
    IsRefusalWritten told (s.faults out) (s.faults out') (s.written out) (s.written out') status
    ⊎ (RefusesPlace told (s.faults out) (s.faults out') (s.written out) (s.written out') status
    ⊎ CallsProgram e d m c s i f p t etc_folder folder told methods methods' input out out' status)
