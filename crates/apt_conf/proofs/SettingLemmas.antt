-- What is read of each setting is what is read of all.
use Rattle.std.proofs.Common.{◌≡◌, ℕ, ◌≤◌, Bool, true, List, Option, Some, None, Result, Ok, Err, refl, ap, ◌∙◌, subst}
use Rattle.std.specs.Prelude.{IfOk, IfSome, option_map, codes}
use Rattle.acq_base.specs.declared.plan.ByHash.{ByHash}
use Rattle.acq_base.specs.declared.settings.Dates.{Dates}
use Rattle.apt_conf.specs.declared.error.ConfError.{ConfError}
use Rattle.apt_conf.specs.declared.error.ConfError.TheVariants.{LongFile, BadConf, BadValue, NoMemory}
use Rattle.apt_conf.specs.declared.table.Fetching.{Fetching}
use Rattle.apt_conf.specs.declared.table.Wanted.{Wanted}
use Rattle.apt_conf.specs.declared.values.Words.TheVariants.{Languages}
use Rattle.apt_conf.specs.Answers.{Fails, Gives}
use Rattle.apt_conf.specs.Keys.{Pair, value_of}
use Rattle.apt_conf.specs.Values.{listed, but_none}
use Rattle.apt_conf.specs.Settings.{allowed, languages, number, by_hash, boolean, dates, wanted, fetching, settings_of}

-- a number that is allowed is within what its reading says
pub allowed_within : (most : ℕ) (key : List ℕ) (r : Result ℕ ConfError) (read : Option ℕ) → Gives r (allowed key read) → IfSome read (λ n. n ≤ most) → IfOk r (λ n. n ≤ most)
allowed_within most key (Ok n) (Some m) given bound = let same : m ≡ n = cc in rw (← same) bound
allowed_within most key (Ok n) None given bound = absurd cc
allowed_within most key (Err e) read given bound = tt

pub languages_read : (pairs : List Pair) (r : Result (List (List ℕ)) ConfError) (text value : List ℕ) (found shown : Option (List (List ℕ))) → Some value ≡ value_of pairs (codes "Acquire::Languages") → text ≡ value → found ≡ listed Languages text → shown ≡ option_map but_none found
    → Gives r (allowed (codes "Acquire::Languages") shown) → Gives r (languages pairs)
unfolding languages
languages_read pairs r text value found shown v t f s given =
    let named : shown ≡ option_map but_none (listed Languages value) = s ∙ ap (option_map but_none) (f ∙ ap (listed Languages) t) in
    let allowed_so : Gives r (allowed (codes "Acquire::Languages") (option_map but_none (listed Languages value))) =
    subst (λ (o : Option (List (List ℕ))). Gives r (allowed (codes "Acquire::Languages") o)) named given in
    rw (← v) allowed_so

pub dates_read : (pairs : List Pair) (min max future : ℕ) → number 4294967295 0 pairs (codes "Acquire::Min-ValidTime") ≡ Ok min → number 4294967295 0 pairs (codes "Acquire::Max-ValidTime") ≡ Ok max
    → number 4294967295 10 pairs (codes "Acquire::Max-FutureTime") ≡ Ok future → dates pairs ≡ Ok (record { min = min; max = max; future = future })
unfolding dates
dates_read pairs min max future a b c = rw (a, b, c) refl

pub fetching_read : (pairs : List Pair) (retries file_limit size_limit : ℕ) (hashes : ByHash) (pdiffs : Bool) → number 10 1 pairs (codes "Acquire::Retries") ≡ Ok retries → by_hash pairs ≡ Ok hashes
    → boolean true pairs (codes "Acquire::PDiffs") ≡ Ok pdiffs → number 1000 100 pairs (codes "Acquire::PDiffs::FileLimit") ≡ Ok file_limit → number 1000 100 pairs (codes "Acquire::PDiffs::SizeLimit") ≡ Ok size_limit
    → fetching pairs ≡ Ok (record { retries = retries; by_hash = hashes; pdiffs = pdiffs; file_limit = file_limit; size_limit = size_limit })
unfolding fetching
fetching_read pairs retries file_limit size_limit hashes pdiffs a b c d e = rw (a, b, c, d, e) refl

pub settings_read : (pairs : List Pair) (lists : Wanted) (limits : Dates) (ways : Fetching) (cleanup : Bool) → wanted pairs ≡ Ok lists → dates pairs ≡ Ok limits → fetching pairs ≡ Ok ways → boolean true pairs (codes "APT::Get::List-Cleanup") ≡ Ok cleanup
    → settings_of pairs ≡ Ok (record {
      arch = lists.arch;
      archs = lists.archs;
      langs = lists.langs;
      pick = lists.pick;
      dates = limits;
      retries = ways.retries;
      by_hash = ways.by_hash;
      pdiffs = ways.pdiffs;
      file_limit = ways.file_limit;
      size_limit = ways.size_limit;
      cleanup = cleanup;
    })
unfolding settings_of
settings_read pairs lists limits ways cleanup a b c d = rw (a, b, c, d) refl

pub settings_fail : (e : ConfError) (pairs : List Pair) (lists : Wanted) (limits : Dates) (ways : Fetching) → wanted pairs ≡ Ok lists → dates pairs ≡ Ok limits → fetching pairs ≡ Ok ways → Fails e (boolean true pairs (codes "APT::Get::List-Cleanup"))
    → Fails e (settings_of pairs)
unfolding settings_of
settings_fail LongFile pairs lists limits ways a b c d = rw (a, b, c, d) refl
settings_fail (BadConf line) pairs lists limits ways a b c d = rw (a, b, c, d) refl
settings_fail (BadValue key) pairs lists limits ways a b c d = rw (a, b, c, d) refl
settings_fail NoMemory pairs lists limits ways a b c d = tt
