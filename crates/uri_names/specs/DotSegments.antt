-- The removal of dot segments in rounds, as RFC 3986, section 5.2.4, has it.
use Rattle.std.specs.Prelude.{◌≡◌, ◌≢◌, ◌⊎◌, ℕ, List, [], ◌∷◌, ◌++◌, All, codes}

-- the rest of a path behind a segment: there is none, or it begins with a `/`
abbrev pub EndsSegment : List ℕ → Type 0
EndsSegment rest = (rest ≡ []) ⊎ ((behind : List ℕ) × (rest ≡ 47 ∷ behind))

abbrev pub HasNoSlash : List ℕ → Type 0
HasNoSlash text = All (λ c. c ≢ 47) text

-- a segment that is no dot segment
abbrev pub IsPlainSegment : List ℕ → Type 0
IsPlainSegment text = HasNoSlash text × (text ≢ codes ".") × (text ≢ codes "..")

-- the output without its last segment and the `/` before it; of an empty output nothing goes
abbrev pub IsWithoutLast : List ℕ → List ℕ → Type 0
IsWithoutLast output shorter = ((output ≡ []) × (shorter ≡ [])) ⊎ ((text : List ℕ) × HasNoSlash text × (output ≡ shorter ++ 47 ∷ text))

-- With this output and this input the rounds end with this result. The constructors are the standard's cases for an input
-- that begins with `/`: `dot` and `last_dot` its B, `dots` and `last_dots` its C, `segment` its E. A and D are of other inputs.
pub data Removes : List ℕ → List ℕ → List ℕ → Type 0 where
  ended : (output : List ℕ) → Removes output [] output
  dot : (output rest result : List ℕ) → Removes output (codes "/" ++ rest) result → Removes output (codes "/./" ++ rest) result
  last_dot : (output result : List ℕ) → Removes output (codes "/") result → Removes output (codes "/.") result
  dots : (output shorter rest result : List ℕ) → IsWithoutLast output shorter → Removes shorter (codes "/" ++ rest) result → Removes output (codes "/../" ++ rest) result
  last_dots : (output shorter result : List ℕ) → IsWithoutLast output shorter → Removes shorter (codes "/") result → Removes output (codes "/..") result
  segment : (output text rest result : List ℕ) → IsPlainSegment text → EndsSegment rest → Removes (output ++ 47 ∷ text) rest result → Removes output (47 ∷ text ++ rest) result

-- a path, and the same without its dot segments
abbrev pub IsWithoutDots : List ℕ → List ℕ → Type 0
IsWithoutDots path result = Removes [] path result
