-- Which lists an entry asks for by itself, and what a plan has of them (sources.list(5)).
use Rattle.std.specs.Prelude.{◌≡◌, ◌⊎◌, ℕ, Bool, true, false, List, ◌++◌, codes, bytes_eq, Contains}
use Rattle.std.specs.List.{list_any}
use Rattle.acq_base.specs.declared.plan.Kind.{Kind}
use Rattle.acq_base.specs.declared.plan.Kind.TheVariants.{Packages, Sources, Translation}
use Rattle.acq_base.specs.declared.plan.Source.{Source}
use Rattle.acq_base.specs.declared.plan.Target.{Target}
use Rattle.acq_base.specs.declared.settings.Pick.{Pick}
use Rattle.acq_base.specs.declared.settings.Settings.{Settings}
use Rattle.acq_base.specs.Uri.{list_name}
use Rattle.uri_names.specs.Folder.{below_of}
use Rattle.kept_hooks.specs.Picking.{is_switched_on}
use Rattle.source_lists.specs.declared.entry.Entry.{Entry}
use Rattle.target_plan.specs.Drafts.{folder_of}
use Rattle.target_plan.specs.Offers.{is_exact, architectures}
use Rattle.target_plan.specs.Planned.{names}

-- the one list of an exact path, of binary or source packages
abbrev pub AsksExact : Settings → Entry → List ℕ → Kind → Type 0
AsksExact settings entry path kind =
    ((entry.binary ≡ true) × (path ≡ codes "Packages") × (kind ≡ Packages settings.arch))
    ⊎ ((entry.source ≡ true) × (path ≡ codes "Sources") × (kind ≡ Sources))

-- a component's binary packages of an architecture that the entry names, or the setting's
abbrev pub AsksPackages : Settings → Entry → List ℕ → List ℕ → Kind → Type 0
AsksPackages settings entry component path kind =
    (entry.binary ≡ true) × (arch : List ℕ) × Contains (architectures settings entry) arch
    × (path ≡ component ++ codes "/binary-" ++ arch ++ codes "/Packages") × (kind ≡ Packages arch)

abbrev pub AsksSources : Entry → List ℕ → List ℕ → Kind → Type 0
AsksSources entry component path kind = (entry.source ≡ true) × (path ≡ component ++ codes "/source/Sources") × (kind ≡ Sources)

-- a component's descriptions in a language of the setting's
abbrev pub AsksTranslation : Settings → Entry → List ℕ → List ℕ → Kind → Type 0
AsksTranslation settings entry component path kind =
    (entry.binary ≡ true) × (language : List ℕ) × Contains settings.langs language
    × (path ≡ component ++ codes "/i18n/Translation-" ++ language) × (kind ≡ Translation language)

abbrev pub AsksOf : Settings → Entry → List ℕ → List ℕ → Kind → Type 0
AsksOf settings entry component path kind =
    AsksPackages settings entry component path kind ⊎ (AsksSources entry component path kind ⊎ AsksTranslation settings entry component path kind)

-- of one of the components that the entry names
abbrev pub AsksIn : Settings → Entry → List ℕ → Kind → Type 0
AsksIn settings entry path kind = (component : List ℕ) × Contains entry.components component × AsksOf settings entry component path kind

-- the entry of this suite asks for a list of this path below the folder of the Release, and of this kind
abbrev pub Asks : Settings → List ℕ → Entry → List ℕ → Kind → Type 0
Asks settings suite entry path kind =
    ((is_exact suite ≡ true) × AsksExact settings entry path kind) ⊎ ((is_exact suite ≡ false) × AsksIn settings entry path kind)

-- some entry names the source and asks for the target
pub record IsAskedFor (settings : Settings) (entries : List Entry) (source : Source) (target : Target) : Type 0 where
  pub entry : Entry
  pub stands : Contains entries entry
  pub named : names source entry ≡ true
  pub asks : Asks settings source.suite entry target.path target.kind

-- the source has a target of the list name of this path below the folder of its Release
abbrev pub has_target : Source → List ℕ → Bool
has_target source path = list_any (λ target. bytes_eq target.name.0 (list_name (below_of source.base (folder_of source.suite ++ path)))) source.targets

-- whatever an entry that names the source asks for is planned, where its kind is switched on
abbrev pub PlansAll : Pick → Settings → List Entry → Source → Type 0
PlansAll pick settings entries source =
    (entry : Entry) (path : List ℕ) (kind : Kind) → Contains entries entry → names source entry ≡ true
    → Asks settings source.suite entry path kind → is_switched_on pick kind ≡ true → has_target source path ≡ true
