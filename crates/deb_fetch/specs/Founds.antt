-- What stanzas come to while they are read.
use Rattle.std.specs.Prelude.{◌≡◌, ◌||◌, not, Bool, true, false, List, [], ◌∷◌, Option, Some, None, IfSome}
use Rattle.std.specs.List.{list_any}
use Rattle.acq_base.specs.Uri.{IsSound}
use Rattle.acq_base.specs.declared.sum.Sum.{Sum}
use Rattle.release_file.specs.Release.{same_sum}
use Rattle.deb_fetch.specs.Filenames.{is_deb_path}
use Rattle.deb_fetch.specs.declared.found.Found.{Found}
use Rattle.deb_fetch.specs.declared.stanza.Stanza.{Stanza}

abbrev pub nothing : Found
nothing = record { first = None; several = false }

-- the first stanza, and whether another has another sum
abbrev pub found_of : List Stanza → Found
found_of [] = nothing
found_of (stanza ∷ more) = record { first = Some stanza; several = list_any (λ other. not (same_sum other.sum stanza.sum)) more }

abbrev pub one_found : Option Stanza → Found
one_found stanza = record { first = stanza; several = false }

-- a stanza is there, and has another sum
abbrev pub has_other_sum : Option Stanza → Sum → Bool
has_other_sum None sum = false
has_other_sum (Some stanza) sum = not (same_sum stanza.sum sum)

abbrev pub joined_to : Option Stanza → Bool → Found → Found
joined_to None several later = later
joined_to (Some stanza) several later = record { first = Some stanza; several = several || later.several || has_other_sum later.first stanza.sum }

-- and with what was found behind it
abbrev pub joined : Found → Found → Found
joined found later = joined_to found.first found.several later

-- the first stanza's base is sound, and its path one that a list may name
abbrev pub IsSoundStanza : Stanza → Type 0
IsSoundStanza stanza = IsSound stanza.base × (is_deb_path stanza.path ≡ true)

abbrev pub IsSoundFound : Found → Type 0
IsSoundFound found = IfSome found.first IsSoundStanza
