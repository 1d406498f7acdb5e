-- What is asked for a single file that no Release names.
use Rattle.std.specs.Prelude.{ℕ, List, None}
use Rattle.acq_base.specs.declared.sum.Sum.{Sum}
use Rattle.acq_base.specs.declared.uri.Uri.{Uri}
use Rattle.update_model.specs.Walks.{Walk, plain_walk}
use Rattle.update_model.specs.declared.wanted.Wanted.{Wanted}

-- it lies at this URI alone, and no patches lead to it; its path stands for the name of a list
abbrev pub single : Uri → List ℕ → Sum → Wanted
single uri path sum = record {
  path = path;
  name = record { 0 = path };
  sum = sum;
  uri = uri;
  hashed = None;
  index = None;
  file_limit = 0;
  size_limit = 0;
}

abbrev pub file_walk : Uri → List ℕ → Sum → Walk
file_walk uri path sum = plain_walk (single uri path sum)
