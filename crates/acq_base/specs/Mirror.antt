-- What a mirror has: an answer under each URI.
use Rattle.std.specs.Prelude.{List, [], ◌∷◌, if◌then◌else◌}
use Rattle.acq_base.specs.declared.uri.Uri.{Uri}
use Rattle.acq_base.specs.Uri.{same_uri}
use Rattle.acq_base.specs.declared.fetch.Answer.{Answer}
use Rattle.acq_base.specs.declared.fetch.Answer.TheVariants.{Absent}

-- a finite map from URIs to answers
abbrev pub MirrorMap : Type 0
MirrorMap = List (Uri × Answer)

-- the answer under a URI; what isn't in the map is absent with status 404 (RFC 9110, section 15.5.5)
abbrev pub answer_at : MirrorMap → Uri → Answer
answer_at [] uri = Absent 404
answer_at (entry ∷ entries) uri = if same_uri entry.0 uri then entry.1 else answer_at entries uri
