-- Which files of the configuration folder count, and in which order (sources.list(5) and apt.conf(5)).
use Rattle.std.specs.Prelude.{ℕ, ◌==◌, ◌&&◌, ◌||◌, not, Bool, false, if◌then◌else◌, List, [], ◌∷◌, codes, is_some}
use Rattle.std.specs.List.{list_all, list_any}
use Rattle.std.specs.Ordering.{nat_cmp}
use Rattle.std.specs.declared.cmp.Ordering.{Ordering}
use Rattle.std.specs.declared.cmp.Ordering.TheVariants.{Less, Equal, Greater}
use Rattle.std.specs.Cmp.Lexicographic.{slice_cmp}
use Rattle.source_lists.specs.Files.{form_of, has_ending, is_file_character}
use Rattle.acq_outside.specs.declared.etc.Place.{Place}
use Rattle.acq_outside.specs.declared.etc.Place.TheVariants.{SourcesList, SourcesParts, Conf, ConfParts}

-- a file of apt.conf.d has letters, digits, `_`, `-` and `.` in its name, and no `.`, or the end `.conf`
abbrev pub is_conf_name : List ℕ → Bool
is_conf_name name = list_all is_file_character name && (not (list_any (λ c. c == 46) name) || has_ending (codes ".conf") name)

-- whether a file of a folder counts; the two single files are in no folder
abbrev pub counts : Place → List ℕ → Bool
counts SourcesList name = false
counts SourcesParts name = is_some (form_of name)
counts Conf name = false
counts ConfParts name = is_conf_name name

-- a name compared with the first of some names, in front of it, equal to it or with its place among the others
abbrev pub placed : Ordering → List ℕ → List ℕ → List (List ℕ) → List (List ℕ) → List (List ℕ)
placed Less name first others among = name ∷ first ∷ others
placed Equal name first others among = first ∷ others
placed Greater name first others among = first ∷ among

-- a name in its place among names that stand in byte order, each once
unfoldable pub with_name : List ℕ → List (List ℕ) → List (List ℕ)
with_name name [] = name ∷ []
with_name name (first ∷ others) = placed (slice_cmp nat_cmp name first) name first others (with_name name others)

-- the names that count, in byte order, each once
unfoldable pub listing : (List ℕ → Bool) → List (List ℕ) → List (List ℕ)
listing is_counted [] = []
listing is_counted (name ∷ names) = if is_counted name then with_name name (listing is_counted names) else listing is_counted names
