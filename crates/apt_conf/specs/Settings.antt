-- The settings that pairs give: of each key its last value or its default, and the first bad value in this order.
use Rattle.std.specs.Prelude.{ℕ, Bool, true, List, [], ◌∷◌, Option, Some, None, Result, Ok, Err, option_map, codes}
use Rattle.acq_base.specs.declared.plan.ByHash.{ByHash}
use Rattle.acq_base.specs.declared.plan.ByHash.TheVariants.{Yes}
use Rattle.acq_base.specs.declared.settings.Dates.{Dates}
use Rattle.acq_base.specs.declared.settings.Pick.{Pick}
use Rattle.acq_base.specs.declared.settings.Settings.{Settings}
use Rattle.apt_conf.specs.declared.error.ConfError.{ConfError}
use Rattle.apt_conf.specs.declared.error.ConfError.TheVariants.{BadValue}
use Rattle.apt_conf.specs.declared.table.Fetching.{Fetching}
use Rattle.apt_conf.specs.declared.table.Wanted.{Wanted}
use Rattle.apt_conf.specs.declared.values.Words.TheVariants.{Architectures, Languages, Kinds}
use Rattle.apt_conf.specs.Keys.{Pair, value_of}
use Rattle.apt_conf.specs.Statements.{◌>>=◌}
use Rattle.apt_conf.specs.Values.{architecture_of, listed, but_none, picked, number_of, by_hash_of, boolean_of}

-- a value that isn't allowed is refused with its key as it is spelled here
abbrev pub allowed : {T : Type 0} → List ℕ → Option T → Result T ConfError
allowed key (Some x) = Ok x
allowed key None = Err (BadValue key)

-- what the value of a key reads as, or the default where it has none
abbrev pub read_or : {T : Type 0} → (List ℕ → Option T) → T → List ℕ → Option (List ℕ) → Result T ConfError
read_or read default key (Some value) = allowed key (read value)
read_or read default key None = Ok default

abbrev pub setting : {T : Type 0} → (List ℕ → Option T) → T → List Pair → List ℕ → Result T ConfError
setting read default pairs key = read_or read default key (value_of pairs key)

unfoldable pub architecture : List Pair → Result (List ℕ) ConfError
architecture pairs = setting architecture_of (codes "amd64") pairs (codes "APT::Architecture")

unfoldable pub architectures : List ℕ → List Pair → Result (List (List ℕ)) ConfError
architectures own pairs = setting (listed Architectures) (own ∷ []) pairs (codes "APT::Architectures")

unfoldable pub languages : List Pair → Result (List (List ℕ)) ConfError
languages pairs = setting (λ text. option_map but_none (listed Languages text)) (codes "en" ∷ []) pairs (codes "Acquire::Languages")

unfoldable pub pick : List Pair → Result Pick ConfError
pick pairs = setting (λ text. option_map picked (listed Kinds text)) (record { packages = true; sources = true; translations = true }) pairs (codes "Acquire::Pick")

unfoldable pub number : ℕ → ℕ → List Pair → List ℕ → Result ℕ ConfError
number most default pairs key = setting (number_of most) default pairs key

unfoldable pub by_hash : List Pair → Result ByHash ConfError
by_hash pairs = setting by_hash_of Yes pairs (codes "Acquire::By-Hash")

unfoldable pub boolean : Bool → List Pair → List ℕ → Result Bool ConfError
boolean default pairs key = setting boolean_of default pairs key

-- in seconds
unfoldable pub dates : List Pair → Result Dates ConfError
dates pairs = do
  min ← number 4294967295 0 pairs (codes "Acquire::Min-ValidTime")
  max ← number 4294967295 0 pairs (codes "Acquire::Max-ValidTime")
  future ← number 4294967295 10 pairs (codes "Acquire::Max-FutureTime")
  Ok (record { min = min; max = max; future = future })

-- which lists are wanted
unfoldable pub wanted : List Pair → Result Wanted ConfError
wanted pairs = do
  arch ← architecture pairs
  archs ← architectures arch pairs
  langs ← languages pairs
  kinds ← pick pairs
  Ok (record { arch = arch; archs = archs; langs = langs; pick = kinds })

-- how lists are fetched
unfoldable pub fetching : List Pair → Result Fetching ConfError
fetching pairs = do
  retries ← number 10 1 pairs (codes "Acquire::Retries")
  hashes ← by_hash pairs
  pdiffs ← boolean true pairs (codes "Acquire::PDiffs")
  file_limit ← number 1000 100 pairs (codes "Acquire::PDiffs::FileLimit")
  size_limit ← number 1000 100 pairs (codes "Acquire::PDiffs::SizeLimit")
  Ok (record { retries = retries; by_hash = hashes; pdiffs = pdiffs; file_limit = file_limit; size_limit = size_limit })

-- all settings, in the order in which their values are judged
unfoldable pub settings_of : List Pair → Result Settings ConfError
settings_of pairs = do
  lists ← wanted pairs
  limits ← dates pairs
  ways ← fetching pairs
  cleanup ← boolean true pairs (codes "APT::Get::List-Cleanup")
  Ok (record {
    arch = lists.arch;
    archs = lists.archs;
    langs = lists.langs;
    pick = lists.pick;
    dates = limits;
    retries = ways.retries;
    by_hash = ways.by_hash;
    pdiffs = ways.pdiffs;
    file_limit = ways.file_limit;
    size_limit = ways.size_limit;
    cleanup = cleanup;
  })
