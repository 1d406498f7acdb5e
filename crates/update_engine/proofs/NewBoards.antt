-- A run begins.
use Rattle.std.proofs.Common.{◌≡◌, ◌∙◌, ◌≤◌, ◌-◌, ◌^◌, ⊎_elim, refl, sym, ap, subst, arith, ℕ, ℤ, zero, suc, Bool, true, false, List, [], ◌∷◌, ◌++◌, All, Contains, IsTrue, length, map, take, replicate, Option, Some, None, bytes_eq}
use Rattle.std.specs.Prelude.{if◌then◌else◌, nat_lt, slice_get, unwrap_or}
use Rattle.std.specs.List.{flat_map, AllByRecursion as Each}
use Rattle.std.proofs.lemmas.List.{length-replicate, length-take-le}
use Rattle.std.proofs.lemmas.List.Elements.{All-head, All-tail}
use Rattle.std.proofs.lemmas.Slice.Eq.{bytes_eq-Decides}
use Rattle.acq_base.specs.Plan.{IsPlanned, IsSound}
use Rattle.acq_base.specs.declared.installed.Old.{Old}
use Rattle.acq_base.specs.declared.plan.Plan.{Plan}
use Rattle.acq_base.specs.declared.plan.Source.{Source}
use Rattle.acq_base.specs.declared.plan.Target.{Target}
use Rattle.acq_base.specs.declared.settings.Settings.{Settings}
use Rattle.acq_base.specs.declared.uri.ListName.{ListName}
use Rattle.acq_base.proofs.Lists.{first-or-rest}
use Rattle.acq_outside.specs.Crash.{IsShown, State, reads}
use Rattle.acq_outside.specs.Disk.{Files}
use Rattle.acq_outside.specs.States.{IsNow, IsTold, ToldAs}
use Rattle.board_model.specs.Boards.{Board, first_board}
use Rattle.board_model.specs.Keys.{named}
use Rattle.board_model.specs.ReadAnew.{StandsOn}
use Rattle.board_model.specs.Slots.{Setup}
use Rattle.board_model.specs.Uses.{wanted_part, use_from}
use Rattle.journal_model.specs.Reopen.{installed_now}
use Rattle.journal_model.specs.Rest.{IsAtRest, part_bytes, size_below}
use Rattle.lists_dir.specs.Installed.{installed_of}
use Rattle.release_file.specs.declared.changing.Change.{Change}
use Rattle.run_jobs.specs.Coupling.{HasWantedPart, HasWantedParts}
use Rattle.run_jobs.specs.Running.{AgreesWhereKnown, RunStart}
use Rattle.lane_pool.specs.Pool.{Pool}
use Rattle.lane_jobs.specs.Going.{AreOut, run_lanes}
use Rattle.lane_jobs.specs.JobsOut.{none_out, number_of}
use Rattle.lane_jobs.specs.declared.transfers.Transfer.{Transfer}
use Rattle.update_core.specs.BoardRefinement.{config_for}
use Rattle.update_model.specs.Next.{Keeps}
use Rattle.update_model.specs.Outcomes.{PartFiles}
use Rattle.board_model.proofs.Making.{none-in}
use Rattle.list_commits.proofs.Apart.{here, there}
use Rattle.run_model.proofs.Loose.{among}
use Rattle.run_jobs.proofs.Keeping.{falls_holds}
use Rattle.run_jobs.proofs.Lists.{HasLists, installed_alike}
use Rattle.run_jobs.proofs.Rising.{for_any, none_told}
use Rattle.update_engine.proofs.Known.{BeginningLaws}
use Rattle.update_engine.specs.Reading.{size_of, sizes_in, sizes_of}
use Rattle.update_engine.specs.Run.{IsReadFromDisk, run_of, resumable_part, target_names}
use Rattle.update_engine.specs.Session.{IsNewPool, IsNewRun, StartsRun}

-- ---- sizes

below_is : (most n : ℕ) → size_below most n ≤ n
below_is most n = one (nat_lt n most)
  where
    one : (t : Bool) → (if t then n else 0) ≤ n
    one true = omega arith
    one false = omega arith

abbrev IsWithin : List State → ListName × ℕ → Type 0
IsWithin now row = row.1 ≤ length (part_bytes now row.0.0)

each_both : {A : Type 0} (P : A → Type 0) (xs ys : List A) → Each P xs → Each P ys → Each P (xs ++ ys)
each_both P [] ys a b = b
each_both P (x ∷ xs) ys a b = (a.0, each_both P xs ys a.1 b)

targets_within : (now : List State) (targets : List Target) → Each (IsWithin now) (map (size_of now) targets)
targets_within now [] = tt
targets_within now (t ∷ targets) = (below_is (2 ^ 64 - 1) (length (part_bytes now t.name.0)), targets_within now targets)

sources_within : (now : List State) (sources : List Source) → Each (IsWithin now) (sizes_of now sources)
sources_within now [] = tt
sources_within now (s ∷ sources) = each_both (IsWithin now) (sizes_in now s) (sizes_of now sources) (targets_within now s.targets) (sources_within now sources)

named_within : (now : List State) (rows : List (ListName × ℕ)) (name : List ℕ) → Each (IsWithin now) rows → unwrap_or (named rows name) 0 ≤ length (part_bytes now name)
named_within now [] name each = omega arith
named_within now (row ∷ rows) name each = one (bytes_eq row.0.0 name) refl (named_within now rows name each.1)
  where
    one : (t : Bool) → bytes_eq row.0.0 name ≡ t → unwrap_or (named rows name) 0 ≤ length (part_bytes now name) → unwrap_or (if t then Some row.1 else named rows name) 0 ≤ length (part_bytes now name)
    one true same rest = subst (λ (x : List ℕ). row.1 ≤ length (part_bytes now x)) ((bytes_eq-Decides row.0.0 name).0 same) each.0
    one false differ rest = rest

-- ---- the lists on their way, as far as they may be resumed

parts_at : List State → (List ℕ → ℕ) → PartFiles
parts_at [] sizes name = replicate (sizes name) 0
parts_at (s ∷ past) sizes name = take (sizes name) (part_bytes (s ∷ past) name)

parts_long : (now : List State) (sizes : List ℕ → ℕ) (name : List ℕ) → (IsTold now → sizes name ≤ length (part_bytes now name)) → length (parts_at now sizes name) ≡ sizes name
unfolding parts_at
parts_long [] sizes name within = length-replicate (sizes name) 0
parts_long (s ∷ past) sizes name within = length-take-le (sizes name) (part_bytes (s ∷ past) name) (within tt)

take_twice : (n : ℕ) (xs : List ℕ) → take n xs ≡ take n (take n xs)
take_twice zero xs = refl
take_twice (suc n) [] = refl
take_twice (suc n) (x ∷ xs) = ap (λ (ys : List ℕ). x ∷ ys) (take_twice n xs)

use_at_first : (n : ℕ) (now : List State) (name : List ℕ) → n ≤ length (part_bytes now name) → HasWantedPart (use_from n) name (take n (part_bytes now name)) now
use_at_first zero now name within = tt
use_at_first (suc n) now name within = record { front = take_twice (suc n) (part_bytes now name); within = within }

uses_at_first : BeginningLaws → (config : Setup) (olds : List Old) (lanes : ℕ) (now : List State) → (IsTold now → (name : List ℕ) → config.sizes name ≤ length (part_bytes now name)) → HasWantedParts (wanted_part (first_board config olds lanes)) (parts_at now config.sizes) now
unfolding parts_at
uses_at_first laws config olds lanes [] within = record { each = λ name told. absurd told }
uses_at_first laws config olds lanes (s ∷ past) within = record {
  each = λ name told. falls_holds (use_from (config.sizes name)) (wanted_part (first_board config olds lanes) name) name (take (config.sizes name) (part_bytes (s ∷ past) name)) (s ∷ past)
      (laws.rest config olds lanes name) (use_at_first (config.sizes name) (s ∷ past) name (within tt name));
}

-- ---- what is installed, and the lists on their way, as they are read

abbrev part_size : List State → List ℕ → ℕ
part_size now name = size_below (2 ^ 64 - 1) (length (part_bytes now name))

abbrev size_under : List (ListName × ℕ) → List ℕ → ℕ
size_under rows name = unwrap_or (named rows name) 0

size_of_target : (now : List State) (targets : List Target) (rest : List (ListName × ℕ)) (name : List ℕ) → Contains (map (λ (t : Target). t.name.0) targets) name
    → size_under (map (size_of now) targets ++ rest) name ≡ part_size now name
size_of_target now [] rest name is = absurd (none-in name is)
size_of_target now (t ∷ targets) rest name is = one (bytes_eq t.name.0 name) refl (size_of_target now targets rest name)
  where
    one : (c : Bool) → bytes_eq t.name.0 name ≡ c → (Contains (map (λ (x : Target). x.name.0) targets) name → size_under (map (size_of now) targets ++ rest) name ≡ part_size now name)
        → unwrap_or (if c then Some (part_size now t.name.0) else named (map (size_of now) targets ++ rest) name) 0 ≡ part_size now name
    one true same later = ap (part_size now) ((bytes_eq-Decides t.name.0 name).0 same)
    one false differ later = ⊎_elim
        (λ same. let wrong : true ≡ false = sym ((bytes_eq-Decides t.name.0 name).1 same) ∙ differ in absurd (cc))
        later
        (first-or-rest t.name.0 (map (λ (x : Target). x.name.0) targets) name is)

size_past_targets : (now : List State) (targets : List Target) (rest : List (ListName × ℕ)) (name : List ℕ) → size_under rest name ≡ part_size now name
    → size_under (map (size_of now) targets ++ rest) name ≡ part_size now name
size_past_targets now [] rest name later = later
size_past_targets now (t ∷ targets) rest name later = one (bytes_eq t.name.0 name) refl (size_past_targets now targets rest name later)
  where
    one : (c : Bool) → bytes_eq t.name.0 name ≡ c → size_under (map (size_of now) targets ++ rest) name ≡ part_size now name
        → unwrap_or (if c then Some (part_size now t.name.0) else named (map (size_of now) targets ++ rest) name) 0 ≡ part_size now name
    one true same past = ap (part_size now) ((bytes_eq-Decides t.name.0 name).0 same)
    one false differ past = past

in_later : (xs ys : List (List ℕ)) (name : List ℕ) → Contains (xs ++ ys) name → (Contains xs name → ⊥) → Contains ys name
in_later [] ys name is never = is
in_later (x ∷ xs) ys name is never = ⊎_elim
    (λ same. absurd (never (here x xs name same)))
    (λ later. in_later xs ys name later (λ within. never (there x xs name within)))
    (first-or-rest x (xs ++ ys) name is)

sizes_are_read : (now : List State) (sources : List Source) (name : List ℕ) → Contains (flat_map target_names sources) name → size_under (sizes_of now sources) name ≡ part_size now name
sizes_are_read now [] name is = absurd (none-in name is)
sizes_are_read now (s ∷ sources) name is = ⊎_elim
    (λ within. size_of_target now s.targets (sizes_of now sources) name within)
    (λ never. size_past_targets now s.targets (sizes_of now sources) name (sizes_are_read now sources name (in_later (target_names s) (flat_map target_names sources) name is never)))
    (among name (target_names s))

parts_are_read : (now : List State) (sizes : List ℕ → ℕ) (name : List ℕ) → IsTold now → sizes name ≡ part_size now name → parts_at now sizes name ≡ resumable_part (part_bytes now name)
unfolding parts_at
parts_are_read [] sizes name told read = absurd told
parts_are_read (s ∷ past) sizes name told read = ap (λ (n : ℕ). take n (part_bytes (s ∷ past) name)) read

all_alike : (sources : List Source) (lists files : Files) → All IsPlanned sources → ((source : Source) → IsPlanned source → Keeps source lists files) → map (installed_of files) sources ≡ map (installed_of lists) sources
all_alike [] lists files planned alike = refl
all_alike (s ∷ sources) lists files planned alike =
    ap (λ (o : Old). o ∷ map (installed_of files) sources) (installed_alike s lists files (alike s (All-head IsPlanned s sources planned)))
    ∙ ap (λ (os : List Old). installed_of lists s ∷ os) (all_alike sources lists files (All-tail IsPlanned s sources planned) alike)

-- what was read of its files is what reads give, where the disk tells
pub olds_are_seen : (tells : Bool) (files : Files) (now : List State) (olds : List Old) (sources sources' : List Source) → IsShown tells files now → sources' ≡ sources → (IsTrue tells → olds ≡ map (installed_of files) sources')
    → IsNow (λ s. olds ≡ map (installed_of (reads s)) sources) now
olds_are_seen tells files [] olds sources sources' shown same read = tt
olds_are_seen tells files (s ∷ past) olds sources sources' shown same read =
    read shown.0
    ∙ ap (map (installed_of files)) same
    ∙ ap (λ (f : Files). map (installed_of f) sources) shown.1

-- and over a disk at rest, what its lists have
olds_are_read : BeginningLaws → (now : List State) (olds : List Old) (sources : List Source) → All IsPlanned sources → IsNow (λ s. olds ≡ map (installed_of (reads s)) sources) now → (lists : Files) → ToldAs (IsAtRest lists) now
    → olds ≡ map (installed_of lists) sources
olds_are_read laws [] olds sources planned seen lists rest = absurd rest
olds_are_read laws (s ∷ past) olds sources planned seen lists rest = seen ∙ all_alike sources lists (reads s) planned (λ source is. laws.read source lists s is rest)

-- so a new board knows what the disk has
lists_at_first : BeginningLaws → (config : Setup) (olds : List Old) (lanes : ℕ) (now : List State) → IsNow (λ s. olds ≡ map (installed_of (reads s)) config.sources) now → HasLists (first_board config olds lanes) now
lists_at_first laws config olds lanes [] seen = tt
lists_at_first laws config olds lanes (s ∷ past) seen =
    subst (λ (os : List Old). StandsOn (installed_of (reads s)) (first_board config os lanes)) (sym seen) (laws.lists.at_first (installed_of (reads s)) config lanes)

-- ---- no job is out

none_numbered : (lanes : ℕ) → replicate lanes None ≡ map number_of (replicate lanes None)
none_numbered zero = refl
none_numbered (suc lanes) = ap (λ (ns : List (Option ℕ)). None ∷ ns) (none_numbered lanes)

none_there : (lanes lane : ℕ) (t : Transfer) → slice_get (replicate lanes None) lane ≡ Some (Some t) → ⊥
none_there zero lane t at = absurd (cc)
none_there (suc lanes) zero t at = absurd (cc)
none_there (suc lanes) (suc lane) t at = none_there lanes lane t at

none_is_out : (start : RunStart) (pool : Pool) (lanes : ℕ) (b : Board) (now : List State) → IsNewPool pool → b.out ≡ replicate lanes None → AreOut start (run_lanes pool (none_out lanes) b) now
none_is_out start pool lanes b now new none = record {
  numbers = none ∙ none_numbered lanes;
  each = λ lane t at. absurd (none_there lanes lane t at);
  given = λ used lane fetch at. absurd (new.idle lane fetch at);
}

-- ---- it begins

pub starts : BeginningLaws → (plan : Plan) (settings : Settings) (change : Change) (moment : ℤ) (together : Bool) (olds : List Old) (sizes : List (ListName × ℕ)) (lanes : ℕ) (now : List State) (b : Board) → IsSound plan → 1 ≤ lanes → All IsPlanned plan.sources
    → length olds ≡ length plan.sources → IsNow (λ s. olds ≡ map (installed_of (reads s)) plan.sources) now → (IsTold now → sizes ≡ sizes_of now plan.sources) → b ≡ first_board (config_for plan sizes settings change moment) olds lanes → StartsRun (run_of plan settings change moment together) lanes now b
starts laws plan settings change moment together olds sizes lanes now b sound some planned each seen read is = subst (StartsRun (run_of plan settings change moment together) lanes now) (sym is) (λ pool new. started pool new)
  where
    config : Setup
    config = config_for plan sizes settings change moment

    within : IsTold now → (name : List ℕ) → config.sizes name ≤ length (part_bytes now name)
    within told name = subst (λ (rows : List (ListName × ℕ)). unwrap_or (named rows name) 0 ≤ length (part_bytes now name)) (sym (read told)) (named_within now (sizes_of now plan.sources) name (sources_within now plan.sources))

    long : (name : List ℕ) → config.sizes name ≡ length (parts_at now config.sizes name)
    long name = sym (parts_long now config.sizes name (λ told. within told name))

    old_lists : (lists : Files) → ToldAs (IsAtRest lists) now → olds ≡ map (installed_of lists) plan.sources
    old_lists = olds_are_read laws now olds plan.sources planned seen

    told_at : (lists : Files) (now : List State) → ToldAs (IsAtRest lists) now → IsTold now
    told_at lists [] rest = absurd rest
    told_at lists (s ∷ past) rest = tt

    begins : (entry : List State) → ToldAs (IsAtRest (installed_now entry)) now → IsReadFromDisk entry now (record { config = config; olds = olds; parts = parts_at now config.sizes })
    begins entry rest = record {
      olds = old_lists (installed_now entry) rest;
      begins = record {
        planned = planned;
        apart = sound.distinct;
        over = laws.over config olds (installed_now entry) (parts_at now config.sizes) (old_lists (installed_now entry) rest) long;
        alone = laws.alone entry;
      };
      parts = λ name is. let told : IsTold now = told_at (installed_now entry) now rest in
          parts_are_read now config.sizes name told
          (subst (λ (rows : List (ListName × ℕ)). size_under rows name ≡ part_size now name) (sym (read told)) (sizes_are_read now plan.sources name is));
    }

    started : (pool : Pool) → IsNewPool pool → IsNewRun (run_of plan settings change moment together) pool lanes now (first_board config olds lanes)
    started pool new = record {
      start = record { config = config; olds = olds; parts = parts_at now config.sizes; mirrors = pool.worlds; counts = pool.counts };
      from = refl;
      at = refl;
      sound = record { planned = planned; apart = sound.distinct; few = sound.few; sizes = long };
      of_run = record { sources = refl; settings = refl; change = refl; moment = refl; sizes = long };
      running = record {
        under_way = record {
          heard = record {
            config = refl;
            olds = olds;
            same = λ told. refl;
            reached = laws.reached config olds lanes each some;
            sound = tt;
            answers = for_any pool.worlds (λ mirror. AgreesWhereKnown now mirror (parts_at now config.sizes) plan.sources []) (λ mirror. tt);
          };
          uses = uses_at_first laws config olds lanes now within;
          lists = lists_at_first laws config olds lanes now seen;
        };
        counted = record { sized = refl; faults = none_told pool.counts };
        methods = record { worlds = refl; mirrors = new.worlds; outs = new.outs; some = new.some };
        out = none_is_out (record { config = config; olds = olds; parts = parts_at now config.sizes; mirrors = pool.worlds; counts = pool.counts }) pool lanes (first_board config olds lanes) now new refl;
      };
      none = refl;
      read = begins;
    }

-- what was read of a disk that didn't change
pub read_told : (old mid : List State) (rows : List (ListName × ℕ)) (sources sources' : List Source) → mid ≡ old → sources' ≡ sources → (IsTold mid → rows ≡ sizes_of mid sources') → IsTold old → rows ≡ sizes_of old sources
read_told old mid rows sources sources' still same read told =
    subst (λ (t : List State). rows ≡ sizes_of t sources) still (read (subst IsTold (sym still) told) ∙ ap (sizes_of mid) same)
