-- What lies below a sound base is sound, where its list name isn't too long.
use Rattle.std.proofs.Common.{ℕ, ◌≤◌, List, length, arith}
use Rattle.acq_base.specs.declared.uri.Uri.{Uri}
use Rattle.acq_base.specs.Uri.{list_name, IsSound}
use Rattle.uri_names.specs.Folder.{below_of, AreBelowCharacters}
use Rattle.uri_names.proofs.BelowSound.{below_sound}
use Rattle.uri_names.proofs.SameName.{text_short}

pub named_sound : (base : Uri) (path : List ℕ) → IsSound base → AreBelowCharacters path → length (list_name (below_of base path)) ≤ 16377 → IsSound (below_of base path)
named_sound base path sound characters short = below_sound base path sound characters (omega (arith, short, text_short (below_of base path)))
