-- What is asked for a list that a Release names.
use Rattle.std.specs.Prelude.{ℕ, ◌++◌, if◌then◌else◌, List, [], ◌∷◌, codes, filter_map, option_to_list, Option, None, option_map, option_and_then}
use Rattle.std.specs.Result.{result_ok}
use Rattle.acq_base.specs.Sum.{sum_of}
use Rattle.acq_base.specs.declared.plan.Source.{Source}
use Rattle.acq_base.specs.declared.plan.Target.{Target}
use Rattle.acq_base.specs.declared.settings.Settings.{Settings}
use Rattle.acq_base.specs.declared.sum.Sum.{Sum}
use Rattle.acq_base.specs.declared.uri.Uri.{Uri}
use Rattle.by_hash.specs.Candidates.{by_hash_uri}
use Rattle.ed_apply.specs.Edits.{applied}
use Rattle.pdiff_index.specs.Chain.{links}
use Rattle.pdiff_index.specs.Index.{index_of}
use Rattle.pdiff_index.specs.declared.index.Step.{Step}
use Rattle.release_file.specs.Release.{listed_sum}
use Rattle.release_file.specs.declared.release.Release.{Release}
use Rattle.ed_apply.specs.Grammar.{script_of}
use Rattle.update_model.specs.declared.wanted.Wanted.{Wanted}

-- the path of a list's patch Index
abbrev pub index_path : List ℕ → List ℕ
index_path path = path ++ codes ".diff/Index"

-- a target with the sum that the Release lists for it
abbrev pub want : Source → Release → Settings → Target → Sum → Wanted
want source release settings target sum = record {
  path = target.path;
  name = target.name;
  sum = sum;
  uri = target.uri;
  hashed = by_hash_uri source target sum release.by_hash;
  index = if source.pdiffs then listed_sum release (index_path target.path) else None;
  file_limit = settings.file_limit;
  size_limit = settings.size_limit;
}

-- the lists of a source that a Release names, in plan order
abbrev pub wanted_of : Source → Release → Settings → List Wanted
wanted_of source release settings =
    filter_map (λ target. option_map (want source release settings target) (listed_sum release target.path)) source.targets

-- where a list may be asked for: under its digest first, where it is there, and under its own name last
abbrev pub uris : Wanted → List Uri
uris w = option_to_list w.hashed ++ w.uri ∷ []

-- where the patch Index and the patches of a list lie
abbrev pub patch_uri : Wanted → List ℕ → Uri
patch_uri w name = record (w.uri) { path = w.uri.path ++ codes ".diff/" ++ name }

-- the patches that lead from an installed file to the wanted one, by the bytes of a patch Index
abbrev pub chain : Wanted → List ℕ → List ℕ → Option (List Step)
chain w file bytes =
    option_and_then (λ index. result_ok (links index (sum_of file) w.sum w.file_limit w.size_limit)) (result_ok (index_of bytes))

-- the file that a patch makes of another, where it is an edit script and applies
abbrev pub edited_by : List ℕ → List ℕ → Option (List ℕ)
edited_by file patch = option_and_then (λ script. applied file script) (result_ok (script_of patch))
