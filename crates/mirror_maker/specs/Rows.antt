-- What a source's mirror answers on two days.
use Rattle.std.specs.Prelude.{ℕ, ◌+◌, ◌==◌, ◌||◌, if◌then◌else◌, List, [], ◌∷◌, ◌++◌, codes, Some}
use Rattle.hex.specs.Hex.{encode_lower}
use Rattle.acq_base.specs.Mirror.{MirrorMap}
use Rattle.acq_base.specs.Sum.{sum_of}
use Rattle.acq_base.specs.declared.fetch.Answer.TheVariants.{Served, Moved}
use Rattle.acq_base.specs.declared.uri.Scheme.TheVariants.{Http}
use Rattle.acq_base.specs.declared.uri.Uri.{Uri}
use Rattle.mirror_maker.specs.Texts.{index_text, patched_release, release_text}
use Rattle.mirror_maker.specs.declared.lists.Day.TheVariants.{First, Second}
use Rattle.mirror_maker.specs.declared.lists.Lists.{Lists}

-- a URI of a source's host: h0.example to h3.example
unfoldable pub uri_of : ℕ → List ℕ → Uri
uri_of source path = record { scheme = Http; host = codes "h" ++ (48 + source) ∷ codes ".example"; port = 80; path = path }

-- a source's Release, which the third source has elsewhere
unfoldable pub release_rows : ℕ → List ℕ → MirrorMap
release_rows source text =
    if source == 2
    then (uri_of source (codes "/g/dists/s/Release"), Moved (Some (uri_of source (codes "/r")))) ∷ (uri_of source (codes "/r"), Served text) ∷ []
    else (uri_of source (codes "/g/dists/s/Release"), Served text) ∷ []

-- the path of a list under its digest (Debian repository format, "Acquire-By-Hash")
unfoldable pub hash_path : List ℕ → List ℕ
hash_path list = codes "/g/dists/s/main/binary-amd64/by-hash/SHA256/" ++ encode_lower (sum_of list).sha.0

-- a source's list, which the first source has under its digest alone
unfoldable pub list_rows : ℕ → List ℕ → MirrorMap
list_rows source list =
    (uri_of source (if source == 0 then hash_path list else codes "/g/dists/s/main/binary-amd64/Packages"), Served list) ∷ []

-- the last source's script has `x` in place of its first byte
abbrev pub spoiled : List ℕ → List ℕ
spoiled [] = []
spoiled (byte ∷ rest) = 120 ∷ rest

unfoldable pub served_script : ℕ → List ℕ → List ℕ
served_script source script = if source == 3 then spoiled script else script

unfoldable pub patch_rows : ℕ → List ℕ → List ℕ → MirrorMap
patch_rows source index script =
    (uri_of source (codes "/g/dists/s/main/binary-amd64/Packages.diff/Index"), Served index)
    ∷ (uri_of source (codes "/g/dists/s/main/binary-amd64/Packages.diff/p1"), Served script) ∷ []

-- a source on its first day
unfoldable pub first_rows : ℕ → Lists → MirrorMap
first_rows source lists = release_rows source (release_text source First lists.first) ++ list_rows source lists.first

-- and on its second, on which two sources have a patch
unfoldable pub second_rows : ℕ → Lists → MirrorMap
second_rows source lists =
    if (source == 1) || (source == 3)
    then release_rows source (patched_release source lists.second (index_text lists)) ++ list_rows source lists.second ++ patch_rows source (index_text lists) (served_script source lists.script)
    else release_rows source (release_text source Second lists.second) ++ list_rows source lists.second
