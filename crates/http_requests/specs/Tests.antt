-- What this crate's own functions answer, as tests.
use Rattle.std.specs.Prelude.{ℕ, ◌==◌, ◌&&◌, ◌||◌, nat_lt, Bool, if◌then◌else◌, List, [], ◌∷◌, length}
use Rattle.std.specs.List.{count_by}
use Rattle.http_wire.specs.Forms.{line_feeds, lines_behind_blank}
use Rattle.http_requests.specs.Heads.{behind_blank, is_space}

abbrev pub passes_limits : List ℕ → Bool
passes_limits text = nat_lt 65536 (length text) || nat_lt 129 (lines_behind_blank text)

abbrev pub ends_in_target : List ℕ → Bool
ends_in_target text = (count_by is_space (behind_blank text) == 1) && (line_feeds (behind_blank text) == 0)

-- the length of the empty line at the front, or 0
abbrev pub empty_line : List ℕ → ℕ
empty_line [] = 0
empty_line (c ∷ []) = if c == 10 then 1 else 0
empty_line (c ∷ d ∷ text) = if c == 10 then 1 else if (c == 13) && (d == 10) then 2 else 0
