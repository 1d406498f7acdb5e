-- What routes come to whatever is answered: with a mirror behind the answers or without, faults and all.
use Rattle.std.specs.Prelude.{◌≡◌, ℕ, ℤ, List, [], map, length, Contains, Option, Ok}
use Rattle.std.specs.List.{AllByRecursion as Each}
use Rattle.acq_base.specs.Mirror.{MirrorMap}
use Rattle.acq_base.specs.declared.plan.Source.{Source}
use Rattle.acq_base.specs.declared.settings.Settings.{Settings}
use Rattle.acq_base.specs.declared.sum.Sum.{Sum}
use Rattle.release_file.specs.Release.{release_of}
use Rattle.release_file.specs.declared.changing.Change.{Change}
use Rattle.update_model.specs.Files.{sum_of_body}
use Rattle.update_model.specs.Laws.{by_sum, IsHad, IsFileOf, ListEnd}
use Rattle.update_model.specs.Obtained.{obtain}
use Rattle.update_model.specs.Outcomes.{AdmittedRelease, Directory, PartFiles, admitted, bytes_of, outcome, wanted_by, new_set}
use Rattle.update_model.specs.Releases.{IsAdmissible, installed_release, obtain_release}
use Rattle.update_model.specs.Trails.{Trail, Agrees}
use Rattle.update_model.specs.Walks.{IsRoute, target_walk, release_walk}
use Rattle.update_model.specs.Wanted.{wanted_of}
use Rattle.update_model.specs.declared.wanted.Wanted.{Wanted}
use Rattle.update_model.specs.declared.ask.Body.{Body}
use Rattle.update_model.specs.declared.ask.Ending.TheVariants.{Served}
use Rattle.update_model.specs.declared.end.End.{End}
use Rattle.update_model.specs.declared.end.End.TheVariants.{Got, Stands, Ended}

-- ---- whatever is answered

-- the file that came has this sum, or the installed one is there and has it
abbrev pub IsListed : Sum → Option (List ℕ) → End → Type 0
IsListed sum installed (Got body) = sum_of_body body ≡ sum
IsListed sum installed Stands = IsFileOf sum installed
IsListed sum installed (Ended cause) = ⊥

-- a list that has a file has the listed one
abbrev pub ListsEndAsListed : Type 0
ListsEndAsListed =
    (installed : Option (List ℕ)) (part : ℕ) (w : Wanted) (retries : ℕ) (trails : List Trail) (end : End)
    → IsRoute retries (target_walk installed part w) trails end → IsHad end → IsListed w.sum installed end

-- a Release that came is the file with which a trail of its route ended
abbrev pub ReleasesEndAsServed : Type 0
ReleasesEndAsServed =
    (source : Source) (retries : ℕ) (trails : List Trail) (end : End)
    → IsRoute retries (release_walk source) trails end → IsHad end
    → (trail : Trail) × (body : Body) × Contains trails trail × (trail.ending ≡ Served body) × (end ≡ Got body)

-- these are routes of the lists that a source asks
abbrev pub AreRoutes : Directory → PartFiles → ℕ → List ListEnd → Type 0
AreRoutes dir parts retries =
    Each (λ l. IsRoute retries (target_walk (dir l.wanted.name.0) (length (parts l.wanted.name.0)) l.wanted) l.trails l.end)

-- the set is that of an admissible Release, and each list that this Release names has the file that it lists
pub record IsSetOf (dir : Directory) (source : Source) (settings : Settings) (change : Change) (now : ℤ) (r : End) (lists : List ListEnd) (set : AdmittedRelease) : Type 0 where
  pub bytes : bytes_of r ≡ Ok set.bytes
  pub reads : release_of set.bytes ≡ Ok set.release
  pub admissible : IsAdmissible set.release (installed_release (dir source.release_name.0)) settings.dates change now
  pub named : map (λ l. l.wanted) lists ≡ wanted_of source set.release settings
  pub listed : Each (λ l. IsListed l.wanted.sum (dir l.wanted.name.0) l.end) lists

-- so is each new set
abbrev pub SetsAreAsListed : Type 0
SetsAreAsListed =
    (dir : Directory) (parts : PartFiles) (source : Source) (settings : Settings) (change : Change) (now : ℤ) (retries : ℕ)
    (r : End) (lists : List ListEnd) (set : AdmittedRelease)
    → map (λ l. l.wanted) lists ≡ wanted_by source settings (admitted r (dir source.release_name.0) settings change now)
    → AreRoutes dir parts retries lists
    → outcome r (map (λ l. l.end) lists) (dir source.release_name.0) settings change now ≡ Ok set
    → IsSetOf dir source settings change now r lists set

-- ---- where each answer that is no fault is a mirror's

-- a list that has a file has the one that is obtained from the mirror, whichever asks were never answered
abbrev pub ListsHadAreObtained : Type 0
ListsHadAreObtained =
    (world : MirrorMap) (installed : Option (List ℕ)) (part : List ℕ) (w : Wanted) (retries : ℕ) (trails : List Trail) (end : End)
    → IsRoute retries (target_walk installed (length part) w) trails end → Agrees world part trails
    → IsHad end → by_sum end ≡ by_sum (obtain world installed part w)

-- and a Release that came is the one that is obtained
abbrev pub ReleasesHadAreObtained : Type 0
ReleasesHadAreObtained =
    (world : MirrorMap) (source : Source) (retries : ℕ) (trails : List Trail) (end : End)
    → IsRoute retries (release_walk source) trails end → Agrees world [] trails
    → IsHad end → end ≡ obtain_release world source

-- these are routes of the lists that a source asks, and they agree with a mirror
abbrev pub AreAgreeing : MirrorMap → Directory → PartFiles → ℕ → List ListEnd → Type 0
AreAgreeing world dir parts retries =
    Each (λ l. IsRoute retries (target_walk (dir l.wanted.name.0) (length (parts l.wanted.name.0)) l.wanted) l.trails l.end
    × Agrees world (parts l.wanted.name.0) l.trails)

-- a new set is what the mirror has for the source, faults of methods notwithstanding
abbrev pub SetsMadeAreNew : Type 0
SetsMadeAreNew =
    (world : MirrorMap) (dir : Directory) (parts : PartFiles) (source : Source) (settings : Settings) (change : Change) (now : ℤ) (retries : ℕ)
    (trails : List Trail) (r : End) (lists : List ListEnd) (set : AdmittedRelease)
    → IsRoute retries (release_walk source) trails r → Agrees world [] trails
    → map (λ l. l.wanted) lists ≡ wanted_by source settings (admitted r (dir source.release_name.0) settings change now)
    → AreAgreeing world dir parts retries lists
    → outcome r (map (λ l. l.end) lists) (dir source.release_name.0) settings change now ≡ Ok set
    → new_set world dir parts source settings change now ≡ Ok set
