-- The mirror of a number.
use Rattle.std.specs.Prelude.{ℕ, zero, suc, ℤ, pos, List, [], ◌++◌, codes}
use Rattle.acq_base.specs.Mirror.{MirrorMap}
use Rattle.mirror_maker.specs.Lists.{lists_of}
use Rattle.mirror_maker.specs.Packages.{after_source, packages_from}
use Rattle.mirror_maker.specs.Rows.{first_rows, second_rows}
use Rattle.mirror_maker.specs.declared.lists.Lists.{Lists}

-- the state before a source's draws: for the first source it is the number itself
unfoldable pub state_of : ℕ → ℕ → ℕ
state_of n zero = n
state_of n (suc source) = after_source (state_of n source)

-- a source's lists
abbrev pub lists_in : ℕ → ℕ → Lists
lists_in n source = lists_of (packages_from (state_of n source))

-- what the sources before one answer on the first day
unfoldable pub first_before : ℕ → ℕ → MirrorMap
first_before n zero = []
first_before n (suc source) = first_before n source ++ first_rows source (lists_in n source)

-- and on the second
unfoldable pub second_before : ℕ → ℕ → MirrorMap
second_before n zero = []
second_before n (suc source) = second_before n source ++ second_rows source (lists_in n source)

-- the mirror of a number on its first day: that of four sources
abbrev pub first_mirror : ℕ → MirrorMap
first_mirror n = first_before n 4

-- and on its second
abbrev pub second_mirror : ℕ → MirrorMap
second_mirror n = second_before n 4

-- a sources list of them (sources.list(5))
abbrev pub list_text : List ℕ
list_text = codes "deb http://h0.example/g s main\ndeb http://h1.example/g s main\ndeb http://h2.example/g s main\ndeb http://h3.example/g s main\n"

-- a minute behind each day's Release, in seconds since 1970-01-01 00:00:00 UTC
abbrev pub first_moment : ℤ
first_moment = pos 1686387273

abbrev pub second_moment : ℤ
second_moment = pos 1686473673
