-- Where a text stops within a long line, behind whose bytes those of a name, or of a value, may follow.
use Rattle.std.specs.Prelude.{◌≡◌, ℕ, ◌≤◌, ◌⊎◌, Bool, true, false, List, [], ◌∷◌, ◌++◌, length}
use Rattle.std.specs.List.{list_all}
use Rattle.httparse.specs.Grammar.{AllPass, is_token_byte, is_value_byte}

-- no line has begun behind these
abbrev pub StartsLine : List ℕ → Type 0
StartsLine text = (text ≡ []) ⊎ ((lines : List ℕ) × (text ≡ lines ++ 10 ∷ []))

-- a text whose last line has so far 13 bytes or more, one more than `HTTP/1.1 200`, which all pass the test
pub record InLine (test : ℕ → Bool) (text : List ℕ) : Type 0 where
  pub lines : List ℕ
  pub front : List ℕ
  pub is : text ≡ lines ++ front
  pub starts : StartsLine lines
  pub bytes : AllPass test front
  pub long : 13 ≤ length front

-- within a field's name
abbrev pub InName : List ℕ → Type 0
InName text = InLine is_token_byte text

-- within a field's value or a reason phrase: a byte of the line is none of a name
pub record InValue (text : List ℕ) : Type 0 where
  pub line : InLine is_value_byte text
  pub past : list_all is_token_byte line.front ≡ false

-- what a wire knows of where a text stops: within a name, or within a value, or nothing
pub record IsPlain (named valued : Bool) (text : List ℕ) : Type 0 where
  pub name : named ≡ true → (valued ≡ false) × InName text
  pub value : valued ≡ true → InValue text

-- these bytes may follow by what it knows
abbrev pub GoesPlain : Bool → Bool → List ℕ → Type 0
GoesPlain named valued bytes =
    ((named ≡ true) × (list_all is_token_byte bytes ≡ true)) ⊎ ((valued ≡ true) × (list_all is_value_byte bytes ≡ true))
