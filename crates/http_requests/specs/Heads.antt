-- What bytes are of the head of a request: one is whole, none can come of them whatever follows, or one may still come. By
-- the grammar of RFC 9112 (sections 2.2, 3 and 5) and this profile's limits.
use Rattle.std.specs.Prelude.{◌≡◌, ◌⊎◌, ℕ, ◌<◌, ◌≤◌, ◌==◌, ◌&&◌, Bool, if◌then◌else◌, List, [], ◌∷◌, length}
use Rattle.std.specs.List.{count_by}
use Rattle.httparse.specs.Grammar.{RequestHead, print_request, IsRequestHead}
use Rattle.http_wire.specs.Forms.{Form, HasNone, May, Never, line_feeds, lines_behind_blank}

-- The head of a request: at most 65,536 bytes, the empty lines before it included, and 128 fields. The 129th field has come
-- where 130 lines have ended, the request line being the first.
abbrev pub request_form : Form RequestHead
request_form = record {
  valid = IsRequestHead;
  print = print_request;
  fits = λ h. (length h.fields ≤ 128) × (length (print_request h) ≤ 65536);
  passes = λ text. (65536 < length text) ⊎ (129 < lines_behind_blank text);
}

-- the bytes behind the empty lines at the front, each of which is a line feed or a carriage return and a line feed
abbrev pub behind_blank : List ℕ → List ℕ
behind_blank [] = []
behind_blank (c ∷ []) = if c == 10 then [] else c ∷ []
behind_blank (c ∷ d ∷ text) =
    if c == 10 then behind_blank (d ∷ text) else if (c == 13) && (d == 10) then behind_blank text else c ∷ d ∷ text

abbrev pub is_space : ℕ → Bool
is_space c = c == 32

-- the bytes end within the target: one space has come, and no line has ended
pub record EndsInTarget (text : List ℕ) : Type 0 where
  pub one : count_by is_space (behind_blank text) ≡ 1
  pub no_line : line_feeds (behind_blank text) ≡ 0

-- No head yet, but one may come, or the bytes end within the target, of which nothing is judged before it has ended but how
-- long all is.
pub record IsUnfinished (text : List ℕ) : Type 0 where
  pub none : HasNone request_form text
  pub may : May request_form text ⊎ EndsInTarget text
  pub within : ¬ (request_form.passes text)

-- no head, and none can come within the limits
pub record IsBad (text : List ℕ) : Type 0 where
  pub none : HasNone request_form text
  pub why : (Never request_form text × ¬ (EndsInTarget text)) ⊎ request_form.passes text
