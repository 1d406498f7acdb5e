-- The lists of a source on two days, and the edit script from one to the other.
use Rattle.std.specs.Prelude.{ℕ, suc, ◌+◌, ◌*◌, ◌%◌, ◌==◌, if◌then◌else◌, List, [], ◌∷◌, ◌++◌, codes}
use Rattle.std.specs.Fmt.{decimal}
use Rattle.mirror_maker.specs.declared.lists.Day.{Day}
use Rattle.mirror_maker.specs.declared.lists.Day.TheVariants.{First, Second}
use Rattle.mirror_maker.specs.declared.lists.Lists.{Lists}
use Rattle.mirror_maker.specs.declared.packages.Package.{Package}

-- a package's paragraph (Debian Policy, section 5.1), and the empty line behind it
abbrev pub paragraph : ℕ → ℕ → ℕ → List ℕ
paragraph place version size =
    codes "Package: p" ++ decimal place ++ codes "\nVersion: " ++ decimal version ++ codes "\nSize: " ++ decimal size ++ codes "\n\n"

-- a day's later version
unfoldable pub later : ℕ → ℕ
later version = version + 1000

-- which every tenth package has on the second day
abbrev pub version_on : Day → ℕ → ℕ → ℕ
version_on First place version = version
version_on Second place version = if place % 10 == 0 then later version else version

-- the list of packages from a place on
abbrev pub list_from : Day → ℕ → List Package → List ℕ
list_from day place [] = []
list_from day place (one ∷ packages) =
    paragraph place (version_on day place one.version) one.size ++ list_from day (suc place) packages

-- the second of a package's four lines, counted from 1
unfoldable pub line_of : ℕ → ℕ
line_of place = 4 * place + 2

-- a command behind its line's number, which puts a version in its place (POSIX ed)
unfoldable pub change : ℕ → List ℕ
change version = codes "c\nVersion: " ++ decimal version ++ codes "\n.\n"

-- the one that gives a package its later version
abbrev pub command : ℕ → ℕ → List ℕ
command place version = decimal (line_of place) ++ change (later version)

-- every tenth package has one
abbrev pub command_at : ℕ → ℕ → List ℕ
command_at place version = if place % 10 == 0 then command place version else []

-- the commands, from the last package to the first
abbrev pub script_from : ℕ → List Package → List ℕ
script_from place [] = []
script_from place (one ∷ packages) = script_from (suc place) packages ++ command_at place one.version

abbrev pub lists_of : List Package → Lists
lists_of packages = record { first = list_from First 0 packages; second = list_from Second 0 packages; script = script_from 0 packages }
