-- What a crash leaves, chosen by bytes: which pending changes of names happened, and what is left of each file.
use Rattle.std.specs.Prelude.{◌≡◌, ◌<◌, ◌-◌, ℕ, nat_eq, ◌&&◌, if◌then◌else◌, List, [], ◌∷◌, drop, get_or, Option, Some, None, option_map}
use Rattle.acq_outside.specs.Disk.{Files}
use Rattle.acq_outside.specs.Crash.{State, IsImage, all_renamed}
use Rattle.acq_outside.specs.declared.state.FileState.{FileState}
use Rattle.acq_outside.specs.declared.state.NameChange.{NameChange}

-- A choice is read byte by byte, and again from its first byte where it ends; an empty one counts as one 0.
abbrev pub first_byte : List ℕ → ℕ
first_byte [] = 0
first_byte (b ∷ rest) = b

abbrev pub next_byte : List ℕ → List ℕ → ℕ
next_byte whole [] = first_byte whole
next_byte whole (b ∷ rest) = b

abbrev pub next_rest : List ℕ → List ℕ → List ℕ
next_rest whole [] = drop 1 whole
next_rest whole (b ∷ rest) = rest

-- what is read, and what is left of the choice
pub record Drawn (A : Type 0) : Type 0 where
  pub value : A
  pub rest : List ℕ

abbrev pub put_first : {A : Type 0} → A → Drawn (List A) → Drawn (List A)
put_first x drawn = record { value = x ∷ drawn.value; rest = drawn.rest }

-- One byte for each pending change of names: 0 leaves it out.
abbrev pub drawn_part : List ℕ → List NameChange → List ℕ → Drawn (List NameChange)
drawn_part whole [] rest = record { value = []; rest = rest }
drawn_part whole (change ∷ changes) rest =
    if nat_eq (next_byte whole rest) 0 then drawn_part whole changes (next_rest whole rest) else put_first change (drawn_part whole changes (next_rest whole rest))

abbrev pub cell_byte : Option ℕ → ℕ → ℕ
cell_byte None b = b
cell_byte (Some kept) b = kept

-- Two bytes for each byte of a file: a first one of 0 ends the file, where it may end there; the second is what a byte
-- that may be any is.
abbrev pub drawn_bytes : List ℕ → ℕ → List (Option ℕ) → List ℕ → Drawn (List ℕ)
drawn_bytes whole least [] rest = record { value = []; rest = rest }
drawn_bytes whole least (cell ∷ cells) rest =
    if nat_eq (next_byte whole rest) 0 && nat_eq least 0
    then record { value = []; rest = next_rest whole rest }
    else put_first (cell_byte cell (next_byte whole (next_rest whole rest))) (drawn_bytes whole (least - 1) cells (next_rest whole (next_rest whole rest)))

abbrev pub drawn_files : List ℕ → List FileState → List ℕ → Drawn (List (List ℕ))
drawn_files whole [] rest = record { value = []; rest = rest }
drawn_files whole (file ∷ files) rest = put_first (drawn_bytes whole file.least file.cells rest).value (drawn_files whole files (drawn_bytes whole file.least file.cells rest).rest)

abbrev pub image_of : State → List ℕ → Files
image_of s choice = λ name. option_map (λ i. get_or (drawn_files choice s.files (drawn_part choice s.pending choice).rest).value i []) (all_renamed s.base (drawn_part choice s.pending choice).value name)

abbrev pub AreBytes : List ℕ → Type 0
AreBytes [] = Unit {0}
AreBytes (b ∷ bytes) = (b < 256) × AreBytes bytes

-- each file's content is bytes
abbrev pub HasBytes : Files → Type 0
HasBytes files = (name bytes : List ℕ) → files name ≡ Some bytes → AreBytes bytes

-- a choice always stands for something that a crash may leave, and everything that a crash may leave, its content being
-- bytes, is what some choice stands for
abbrev pub ChoicesLeave : State → Type 0
ChoicesLeave s =
    ((choice : List ℕ) → IsImage s (image_of s choice))
    × ((image : Files) → IsImage s image → HasBytes image → (choice : List ℕ) × AreBytes choice × (image_of s choice ≡ image))
