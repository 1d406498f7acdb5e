-- The Release of a source and its patch index.
use Rattle.std.specs.Prelude.{ℕ, ◌==◌, if◌then◌else◌, List, [], ◌++◌, codes}
use Rattle.std.specs.Fmt.{decimal}
use Rattle.hex.specs.Hex.{encode_lower}
use Rattle.acq_base.specs.Sum.{sum_of}
use Rattle.mirror_maker.specs.declared.lists.Day.{Day}
use Rattle.mirror_maker.specs.declared.lists.Day.TheVariants.{First, Second}
use Rattle.mirror_maker.specs.declared.lists.Lists.{Lists}

abbrev pub date_of : Day → List ℕ
date_of First = codes "Date: Sat, 10 Jun 2023 08:53:33 UTC\n"
date_of Second = codes "Date: Sun, 11 Jun 2023 08:53:33 UTC\n"

-- a file's digest and size
unfoldable pub sum_text : List ℕ → List ℕ
sum_text file = encode_lower (sum_of file).sha.0 ++ codes " " ++ decimal (sum_of file).size

-- the sum line of a list, and that of its patch index
unfoldable pub listed : List ℕ → List ℕ
listed list = codes " " ++ sum_text list ++ codes " main/binary-amd64/Packages\n"

unfoldable pub listed_index : List ℕ → List ℕ
listed_index index = codes " " ++ sum_text index ++ codes " main/binary-amd64/Packages.diff/Index\n"

-- a Release that names this list
abbrev pub release_text : ℕ → Day → List ℕ → List ℕ
release_text source day list =
    date_of day ++ (if source == 0 then codes "Acquire-By-Hash: yes\n" else []) ++ codes "SHA256:\n" ++ listed list

-- one that names its patch index too
abbrev pub patched_release : ℕ → List ℕ → List ℕ → List ℕ
patched_release source list index = release_text source Second list ++ listed_index index

-- the lines of a patch index with the one patch p1 (Debian repository format, "indices diff files")
unfoldable pub current_line : List ℕ → List ℕ
current_line list = codes "SHA256-Current: " ++ sum_text list ++ codes "\n"

unfoldable pub history_lines : List ℕ → List ℕ
history_lines former = codes "SHA256-History:\n " ++ sum_text former ++ codes " p1\n"

unfoldable pub patches_lines : List ℕ → List ℕ
patches_lines patch = codes "SHA256-Patches:\n " ++ sum_text patch ++ codes " p1\n"

-- that of a source's lists
abbrev pub index_text : Lists → List ℕ
index_text lists = current_line lists.second ++ history_lines lists.first ++ patches_lines lists.script
