-- What words ask for beside updates: these words exactly, each in its place.
use Rattle.std.specs.Prelude.{ℕ, ◌==◌, ◌&&◌, nat_le, Bool, true, false, not, if◌then◌else◌, List, [], ◌∷◌, codes, bytes_eq, reverse, Option, Some, None, option_and_then, option_map}
use Rattle.std.specs.List.{before_first, after_first}
use Rattle.acq_base.specs.Digits.{number_of_digits}
use Rattle.command_words.specs.declared.side.Side.{Side}
use Rattle.command_words.specs.declared.side.Side.TheVariants.{Method, Serve, Download}

-- ---- method

abbrev pub method_in : List ℕ → Option Side
method_in word =
    if bytes_eq word (codes "file") then Some (Method false)
    else if bytes_eq word (codes "http") then Some (Method true)
    else None

-- ---- download

abbrev pub is_equals : ℕ → Bool
is_equals c = c == 61

abbrev pub is_empty : List ℕ → Bool
is_empty [] = true
is_empty (c ∷ text) = false

-- a name and a version, apart at the first `=`, neither of them empty
abbrev pub download_in : List ℕ → Option Side
download_in word =
    let name = before_first is_equals word in
    let version = after_first is_equals word in
    if is_empty name then None else if is_empty version then None else Some (Download name version)

-- ---- serve

abbrev pub begins_with_slash : List ℕ → Bool
begins_with_slash [] = false
begins_with_slash (c ∷ text) = c == 47

abbrev pub is_root : List ℕ → Bool
is_root path = begins_with_slash path && not (begins_with_slash (reverse path))

-- decimal digits of a number from 1 to another
abbrev pub number_to : ℕ → List ℕ → Option ℕ
number_to most word = option_and_then (λ number. if nat_le 1 number && nat_le number most then Some number else None) (number_of_digits word)

abbrev pub serve_in : List ℕ → List ℕ → List ℕ → Option Side
serve_in root port connections =
    if is_root root
    then option_and_then (λ port. option_map (Serve root port) (number_to 1000000 connections)) (number_to 65535 port)
    else None

-- ---- the words

abbrev pub method_of : List (List ℕ) → Option Side
method_of (word ∷ []) = method_in word
method_of _ = None

abbrev pub serve_of : List (List ℕ) → Option Side
serve_of (root ∷ port ∷ connections ∷ []) = serve_in root port connections
serve_of _ = None

abbrev pub download_of : List (List ℕ) → Option Side
download_of (word ∷ []) = download_in word
download_of _ = None

abbrev pub side_by : List ℕ → List (List ℕ) → Option Side
side_by command words =
    if bytes_eq command (codes "method") then method_of words
    else if bytes_eq command (codes "serve") then serve_of words
    else if bytes_eq command (codes "download") then download_of words
    else None

unfoldable pub side_of : List (List ℕ) → Option Side
side_of [] = None
side_of (command ∷ words) = side_by command words
