-- The frame of a text that is signed in clear (RFC 9580, section 7), line by line.
use Rattle.std.specs.Prelude.{◌≡◌, ℕ, ◌==◌, ◌||◌, ◌&&◌, ◌⊎◌, not, nat_le, bytes_eq, Bool, true, false, List, [], ◌∷◌, ◌++◌, codes}
use Rattle.std.specs.List.{list_any, list_all, before_first, flat_map}
use Rattle.std.specs.Str.Lines.{strip_carriage_return}
use Rattle.acq_base.specs.Words.{is_blank}

-- ---- one line

abbrev pub begin_line : List ℕ
begin_line = codes "-----BEGIN PGP SIGNED MESSAGE-----"

abbrev pub signature_line : List ℕ
signature_line = codes "-----BEGIN PGP SIGNATURE-----"

abbrev pub end_line : List ℕ
end_line = codes "-----END PGP SIGNATURE-----"

-- the first byte passes the test, and there is one
abbrev pub begins_with : (ℕ → Bool) → List ℕ → Bool
begins_with test [] = false
begins_with test (c ∷ cs) = test c

abbrev pub is_colon : ℕ → Bool
is_colon c = c == 58

abbrev pub is_dash : ℕ → Bool
is_dash c = c == 45

-- neither `#` nor `-`
abbrev pub may_begin_name : ℕ → Bool
may_begin_name c = not (c == 35 || is_dash c)

abbrev pub is_name_character : ℕ → Bool
is_name_character c = nat_le 33 c && nat_le c 126 && not (is_colon c)

-- a name as in control text: printable ASCII but space and colon, at least one, `#` and `-` not first
abbrev pub is_name : List ℕ → Bool
is_name name = begins_with may_begin_name name && list_all is_name_character name

-- a name and a colon, whatever follows
abbrev pub is_header : List ℕ → Bool
is_header line = list_any is_colon line && is_name (before_first is_colon line)

-- A line may be written behind `- `, and one that begins with `-` must be (section 7.1).
abbrev pub IsEscape : List ℕ → List ℕ → Type 0
IsEscape line escaped = (escaped ≡ 45 ∷ 32 ∷ line) ⊎ ((escaped ≡ line) × (begins_with is_dash line ≡ false))

-- each line of a text, escaped
abbrev pub AreEscapes : List (List ℕ) → List (List ℕ) → Type 0
AreEscapes [] [] = Unit {0}
AreEscapes (line ∷ lines) (escaped ∷ more) = IsEscape line escaped × AreEscapes lines more
AreEscapes _ _ = ⊥

-- ---- the whole

-- The lines are a frame around the lines of a text: a first line, headers, an empty line, the text's lines escaped, a
-- signature, and nothing but blanks behind it.
pub record IsFrame (lines text : List (List ℕ)) : Type 0 where
  pub headers : List (List ℕ)
  pub escaped : List (List ℕ)
  pub signature : List (List ℕ)
  pub behind : List (List ℕ)
  pub split : lines ≡ begin_line ∷ (headers ++ [] ∷ (escaped ++ signature_line ∷ (signature ++ end_line ∷ behind)))
  pub headed : list_all is_header headers ≡ true
  pub dashed : AreEscapes text escaped
  pub signed : list_any (λ line. bytes_eq line end_line) signature ≡ false
  pub blank : list_all (list_all is_blank) behind ≡ true

-- lines, each ended by a line feed
abbrev pub ended : List (List ℕ) → List ℕ
ended lines = flat_map (λ line. line ++ 10 ∷ []) lines

-- no line feed, and no carriage return at the end
abbrev pub is_line : List ℕ → Bool
is_line line = not (list_any (λ c. c == 10) line) && bytes_eq (strip_carriage_return line) line
