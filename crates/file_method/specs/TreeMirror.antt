-- The mirror that a tree of files is: each file under the `file` URI of its path (RFC 8089, section 2).
use Rattle.std.specs.Prelude.{ℕ, List, [], map}
use Rattle.acq_base.specs.declared.uri.Scheme.TheVariants.{File}
use Rattle.acq_base.specs.declared.uri.Uri.{Uri}
use Rattle.acq_base.specs.declared.fetch.Answer.TheVariants.{Served}
use Rattle.acq_base.specs.Mirror.{MirrorMap}
use Rattle.acq_outside.specs.Tree.{TreeFiles}

-- the path is taken as it stands
abbrev pub file_uri : List ℕ → Uri
file_uri path = record { scheme = File; host = []; port = 0; path = path }

abbrev pub mirror_of : TreeFiles → MirrorMap
mirror_of files = map (λ file. (file_uri file.0, Served file.1)) files
