-- A source with one list, whose Release lists three bytes for it, and what a mirror may have.
use Rattle.std.specs.Prelude.{ℕ, pos, List, [], ◌∷◌, codes, map, Bool, true, None}
use Rattle.acq_base.specs.Mirror.{MirrorMap}
use Rattle.acq_base.specs.declared.fetch.Answer.TheVariants as answers
use Rattle.acq_base.specs.declared.plan.ByHash.TheVariants.{Yes}
use Rattle.acq_base.specs.declared.plan.Kind.TheVariants.{Packages}
use Rattle.acq_base.specs.declared.plan.Source.{Source}
use Rattle.acq_base.specs.declared.plan.Target.{Target}
use Rattle.acq_base.specs.declared.settings.Settings.{Settings}
use Rattle.acq_base.specs.declared.sum.Sum.{Sum}
use Rattle.acq_base.specs.declared.uri.Scheme.TheVariants.{Http}
use Rattle.acq_base.specs.declared.uri.Uri.{Uri}
use Rattle.release_file.specs.declared.release.Release.{Release}
use Rattle.update_model.specs.Mirrored.{trails_over}
use Rattle.update_model.specs.Trails.{entries}
use Rattle.update_model.specs.Walks.{Walk}
use Rattle.update_model.specs.Wanted.{want}
use Rattle.update_model.specs.declared.wanted.Wanted.{Wanted}

abbrev pub at : List ℕ → Uri
at path = record { scheme = Http; host = codes "m.example"; port = 80; path = path }

abbrev pub list_path : List ℕ
list_path = codes "main/binary-amd64/Packages"

abbrev pub list_uri : Uri
list_uri = at (codes "/d/dists/s/main/binary-amd64/Packages")

abbrev pub target : Target
target = record {
  path = list_path;
  uri = list_uri;
  name = record { 0 = codes "m.example_d_dists_s_main_binary-amd64_Packages" };
  kind = Packages (codes "amd64");
}

abbrev pub source : Source
source = record {
  base = at (codes "/d/");
  suite = codes "s";
  release = at (codes "/d/dists/s/Release");
  release_name = record { 0 = codes "m.example_d_dists_s_Release" };
  by_hash = Yes;
  pdiffs = true;
  targets = target ∷ [];
}

abbrev pub settings : Settings
settings = record {
  arch = codes "amd64";
  archs = codes "amd64" ∷ [];
  langs = [];
  pick = record { packages = true; sources = true; translations = true };
  dates = record { min = 0; max = 0; future = 10 };
  retries = 3;
  by_hash = Yes;
  pdiffs = true;
  file_limit = 100;
  size_limit = 100;
  cleanup = true;
}

-- a sum of some digest
abbrev pub sum_as : ℕ → List ℕ → Sum
sum_as size digest = record { size = size; sha = record { 0 = digest } }

-- the Release of 2023-06-10 08:53:33 UTC
abbrev pub release : Bool → ℕ → List ℕ → Release
release said size digest = record {
  date = pos 1686387213;
  until = None;
  by_hash = said;
  head = record { origin = None; label = None; suite = None; codename = None };
  files = record { path = list_path; sum = sum_as size digest } ∷ [];
}

-- the list of three bytes that it names; whether the Release says by-hash
abbrev pub list : Bool → List ℕ → Wanted
list said digest = want source (release said 3 digest) settings target (sum_as 3 digest)

-- a mirror of the list alone
abbrev pub serves : List ℕ → MirrorMap
serves bytes = (list_uri, answers.Served bytes) ∷ []

-- the paths and the beginnings of what a walk asks of a mirror
abbrev pub asks : MirrorMap → List ℕ → Walk → List (List ℕ × ℕ)
asks world part walk = map (λ a. (a.uri.path, a.from)) (entries 0 list_path (trails_over world part walk))

-- the list's own path, and the one under a digest of one byte
abbrev pub plain_from : ℕ → List ℕ × ℕ
plain_from n = (codes "/d/dists/s/main/binary-amd64/Packages", n)

abbrev pub hashed_from : ℕ → List ℕ × ℕ
hashed_from n = (codes "/d/dists/s/main/binary-amd64/by-hash/SHA256/ab", n)
