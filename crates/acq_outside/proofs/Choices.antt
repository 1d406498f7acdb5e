-- Each choice of bytes stands for what a crash may leave, and whatever a crash may leave for some choice.
use Rattle.std.proofs.Common.{◌≡◌, refl, sym, ap, ◌∙◌, arith, ℕ, zero, suc, ◌-◌, ◌<◌, ◌≤◌, nat_eq, nat_lt, ◌&&◌, Bool, true, false, if◌then◌else◌, List, [], ◌∷◌, ◌++◌, length, get_or, Option, Some, None, option_map, append_assoc}
use Rattle.std.proofs.Math.Path.{fun_ext}
use Rattle.std.proofs.lemmas.List.{append-nil}
use Rattle.std.proofs.lemmas.Bool.Decides.{nat_tests}
use Rattle.std.proofs.lemmas.Bool.{and_parts}
use Rattle.acq_outside.specs.Disk.{Files}
use Rattle.acq_outside.specs.Crash.{State, Fits, FitsAll, IsOutcome, IsSubsequence, none, left_out, taken, IsImage, IsSound, file_at, all_renamed}
use Rattle.acq_outside.specs.Choice.{next_byte, next_rest, Drawn, put_first, drawn_part, cell_byte, drawn_bytes, drawn_files, image_of, AreBytes, HasBytes}
use Rattle.acq_outside.specs.declared.state.FileState.{FileState}
use Rattle.acq_outside.specs.declared.state.NameChange.{NameChange}

-- What a choice gives is an outcome.
pub fits_length : (cells : List (Option ℕ)) (bytes : List ℕ) → FitsAll cells bytes → length bytes ≤ length cells
fits_length cells [] fits = omega arith
fits_length [] (b ∷ bytes) fits = absurd fits
fits_length (cell ∷ cells) (b ∷ bytes) fits = omega (arith, fits_length cells bytes fits.1)

cell_fits : (cell : Option ℕ) (b : ℕ) → Fits cell (cell_byte cell b)
cell_fits None b = tt
cell_fits (Some kept) b = refl

long_case : (t : Bool) (least : ℕ) (ended further : Drawn (List ℕ)) → (t ≡ true → least ≡ 0) → least ≤ length further.value → least ≤ length (if t then ended else further).value
long_case true least ended further short long = let none : least ≡ 0 = short refl in omega (arith, none)
long_case false least ended further short long = long

fits_case : (t : Bool) (cells : List (Option ℕ)) (ended further : Drawn (List ℕ)) → FitsAll cells ended.value → FitsAll cells further.value → FitsAll cells (if t then ended else further).value
fits_case true cells ended further a b = a
fits_case false cells ended further a b = b

may_end : (a : Bool) (least : ℕ) → (a && nat_eq least 0) ≡ true → least ≡ 0
may_end a least is = let zero_is : nat_eq least 0 ≡ true = (and_parts a (nat_eq least 0) is).1 in grind (arith, nat_tests)

drawn_long : (whole : List ℕ) (least : ℕ) (cells : List (Option ℕ)) (rest : List ℕ) → least ≤ length cells → least ≤ length (drawn_bytes whole least cells rest).value
drawn_long whole least [] rest within = within
drawn_long whole least (cell ∷ cells) rest within =
    long_case (nat_eq (next_byte whole rest) 0 && nat_eq least 0) least _ _ (may_end (nat_eq (next_byte whole rest) 0) least)
    (let later : least - 1 ≤ length (drawn_bytes whole (least - 1) cells (next_rest whole (next_rest whole rest))).value = drawn_long whole (least - 1) cells (next_rest whole (next_rest whole rest)) (omega arith) in omega (arith, later))

drawn_fits : (whole : List ℕ) (least : ℕ) (cells : List (Option ℕ)) (rest : List ℕ) → FitsAll cells (drawn_bytes whole least cells rest).value
drawn_fits whole least [] rest = tt
drawn_fits whole least (cell ∷ cells) rest =
    fits_case (nat_eq (next_byte whole rest) 0 && nat_eq least 0) (cell ∷ cells) _ _ tt
    (cell_fits cell (next_byte whole (next_rest whole rest)), drawn_fits whole (least - 1) cells (next_rest whole (next_rest whole rest)))

drawn_outcome : (whole : List ℕ) (file : FileState) (rest : List ℕ) → IsOutcome file file.seen → IsOutcome file (drawn_bytes whole file.least file.cells rest).value
drawn_outcome whole file rest sound = record {
  long = drawn_long whole file.least file.cells rest (omega (arith, sound.long, fits_length file.cells file.seen sound.fits));
  fits = drawn_fits whole file.least file.cells rest;
}

all_outcomes : (whole : List ℕ) (files : List FileState) (rest : List ℕ) → ((i : ℕ) → IsOutcome (file_at files i) (file_at files i).seen) → (i : ℕ) → IsOutcome (file_at files i) (get_or (drawn_files whole files rest).value i [])
all_outcomes whole [] rest sound i = record { long = omega arith; fits = tt }
all_outcomes whole (file ∷ files) rest sound zero = drawn_outcome whole file rest (sound zero)
all_outcomes whole (file ∷ files) rest sound (suc i) = all_outcomes whole files (drawn_bytes whole file.least file.cells rest).rest (λ k. sound (suc k)) i

part_case : (t : Bool) (change : NameChange) (changes : List NameChange) (later : Drawn (List NameChange)) → IsSubsequence later.value changes → IsSubsequence (if t then later else put_first change later).value (change ∷ changes)
part_case true change changes later part = left_out change part
part_case false change changes later part = taken change part

pub drawn_is_part : (whole : List ℕ) (changes : List NameChange) (rest : List ℕ) → IsSubsequence (drawn_part whole changes rest).value changes
drawn_is_part whole [] rest = none
drawn_is_part whole (change ∷ changes) rest = part_case (nat_eq (next_byte whole rest) 0) change changes (drawn_part whole changes (next_rest whole rest)) (drawn_is_part whole changes (next_rest whole rest))

pub image_of-is : (s : State) (choice : List ℕ) → IsSound s → IsImage s (image_of s choice)
image_of-is s choice sound = record {
  some = (drawn_part choice s.pending choice).value;
  part = drawn_is_part choice s.pending choice;
  bytes = λ i. get_or (drawn_files choice s.files (drawn_part choice s.pending choice).rest).value i [];
  outcomes = all_outcomes choice s.files (drawn_part choice s.pending choice).rest sound.outcomes;
  shows = λ name. refl;
}

-- An outcome, as the choice that gives it.
small : ℕ → ℕ
small b = if nat_lt b 256 then b else 0

small_below : (b : ℕ) → small b < 256
unfolding small
small_below b = grind (arith, nat_tests)

small_same : (b : ℕ) → b < 256 → small b ≡ b
unfolding small
small_same b below = grind (arith, nat_tests)

abbrev encode_bytes : List (Option ℕ) → List ℕ → List ℕ
encode_bytes [] bytes = []
encode_bytes (cell ∷ cells) [] = 0 ∷ []
encode_bytes (cell ∷ cells) (b ∷ bytes) = 1 ∷ small b ∷ encode_bytes cells bytes

-- what is read of it again
abbrev refit : List (Option ℕ) → List ℕ → List ℕ
refit [] bytes = []
refit (cell ∷ cells) [] = []
refit (cell ∷ cells) (b ∷ bytes) = cell_byte cell (small b) ∷ refit cells bytes

decoded : (whole : List ℕ) (least : ℕ) (cells : List (Option ℕ)) (bytes more : List ℕ) → least ≤ length bytes → drawn_bytes whole least cells (encode_bytes cells bytes ++ more) ≡ record { value = refit cells bytes; rest = more }
decoded whole least [] bytes more long = refl
decoded whole least (cell ∷ cells) [] more long = let none : least ≡ 0 = omega arith in rw none refl
decoded whole least (cell ∷ cells) (b ∷ bytes) more long = ap (put_first (cell_byte cell (small b))) (decoded whole (least - 1) cells bytes more (omega arith))

cell_same : (cell : Option ℕ) (b : ℕ) → Fits cell b → b < 256 → cell_byte cell (small b) ≡ b
cell_same None b fits below = small_same b below
cell_same (Some kept) b fits below = sym fits

refit_same : (cells : List (Option ℕ)) (bytes : List ℕ) → FitsAll cells bytes → AreBytes bytes → refit cells bytes ≡ bytes
refit_same [] [] fits are = refl
refit_same (cell ∷ cells) [] fits are = refl
refit_same [] (b ∷ bytes) fits are = absurd fits
refit_same (cell ∷ cells) (b ∷ bytes) fits are =
    ap (λ (first : ℕ). first ∷ refit cells bytes) (cell_same cell b fits.0 are.0) ∙ ap (λ (later : List ℕ). b ∷ later) (refit_same cells bytes fits.1 are.1)

encode_small : (cells : List (Option ℕ)) (bytes : List ℕ) → AreBytes (encode_bytes cells bytes)
encode_small [] bytes = tt
encode_small (cell ∷ cells) [] = (omega arith, tt)
encode_small (cell ∷ cells) (b ∷ bytes) = (omega arith, (small_below b, encode_small cells bytes))

abbrev encode_files : List FileState → (ℕ → List ℕ) → List ℕ
encode_files [] bytes = []
encode_files (file ∷ files) bytes = encode_bytes file.cells (bytes zero) ++ encode_files files (λ i. bytes (suc i))

abbrev refit_files : List FileState → (ℕ → List ℕ) → List (List ℕ)
refit_files [] bytes = []
refit_files (file ∷ files) bytes = refit file.cells (bytes zero) ∷ refit_files files (λ i. bytes (suc i))

decoded_files : (whole : List ℕ) (files : List FileState) (bytes : ℕ → List ℕ) (more : List ℕ) → ((i : ℕ) → IsOutcome (file_at files i) (bytes i)) → drawn_files whole files (encode_files files bytes ++ more) ≡ record { value = refit_files files bytes; rest = more }
decoded_files whole [] bytes more outcomes = refl
decoded_files whole (file ∷ files) bytes more outcomes =
    let later : List ℕ = encode_files files (λ i. bytes (suc i)) ++ more in
    let this : drawn_bytes whole file.least file.cells (encode_files (file ∷ files) bytes ++ more) ≡ record { value = refit file.cells (bytes zero); rest = later } =
    ap (drawn_bytes whole file.least file.cells) (append_assoc (encode_bytes file.cells (bytes zero)) (encode_files files (λ i. bytes (suc i))) more) ∙ decoded whole file.least file.cells (bytes zero) later (outcomes zero).long in
    ap (λ (d : Drawn (List ℕ)). put_first d.value (drawn_files whole files d.rest)) this
    ∙ ap (put_first (refit file.cells (bytes zero))) (decoded_files whole files (λ i. bytes (suc i)) more (λ i. outcomes (suc i)))

nothing_fits : (bytes : List ℕ) → FitsAll [] bytes → [] ≡ bytes
nothing_fits [] fits = refl
nothing_fits (b ∷ bytes) fits = absurd fits

refit_at : (files : List FileState) (bytes : ℕ → List ℕ) (i : ℕ) → ((k : ℕ) → IsOutcome (file_at files k) (bytes k)) → AreBytes (bytes i) → get_or (refit_files files bytes) i [] ≡ bytes i
refit_at [] bytes i outcomes are = nothing_fits (bytes i) (outcomes i).fits
refit_at (file ∷ files) bytes zero outcomes are = refit_same file.cells (bytes zero) (outcomes zero).fits are
refit_at (file ∷ files) bytes (suc i) outcomes are = refit_at files (λ k. bytes (suc k)) i (λ k. outcomes (suc k)) are

are_append : (a b : List ℕ) → AreBytes a → AreBytes b → AreBytes (a ++ b)
are_append [] b in_a in_b = in_b
are_append (x ∷ a) b in_a in_b = (in_a.0, are_append a b in_a.1 in_b)

encode_files_small : (files : List FileState) (bytes : ℕ → List ℕ) → AreBytes (encode_files files bytes)
encode_files_small [] bytes = tt
encode_files_small (file ∷ files) bytes = are_append (encode_bytes file.cells (bytes zero)) (encode_files files (λ i. bytes (suc i))) (encode_small file.cells (bytes zero)) (encode_files_small files (λ i. bytes (suc i)))

-- One byte for each change: whether it is taken.
encode_part : (some all : List NameChange) → IsSubsequence some all → List ℕ
encode_part some all none = []
encode_part some all (left_out change part) = 0 ∷ encode_part _ _ part
encode_part some all (taken change part) = 1 ∷ encode_part _ _ part

decoded_part : (whole : List ℕ) (some all : List NameChange) (part : IsSubsequence some all) (more : List ℕ) → drawn_part whole all (encode_part some all part ++ more) ≡ record { value = some; rest = more }
unfolding encode_part
decoded_part whole some all none more = refl
decoded_part whole some all (left_out change part) more = decoded_part whole _ _ part more
decoded_part whole some all (taken change part) more = ap (put_first change) (decoded_part whole _ _ part more)

encode_part_small : (some all : List NameChange) (part : IsSubsequence some all) → AreBytes (encode_part some all part)
unfolding encode_part
encode_part_small some all none = tt
encode_part_small some all (left_out change part) = (omega arith, encode_part_small _ _ part)
encode_part_small some all (taken change part) = (omega arith, encode_part_small _ _ part)

-- each image that is bytes is some choice's
pub every_image : (s : State) (image : Files) → IsImage s image → HasBytes image → (choice : List ℕ) × AreBytes choice × (image_of s choice ≡ image)
every_image s image is has = (choice, are_append first later (encode_part_small is.some s.pending is.part) (encode_files_small s.files is.bytes), fun_ext shown)
  where
    first : List ℕ
    first = encode_part is.some s.pending is.part

    later : List ℕ
    later = encode_files s.files is.bytes

    choice : List ℕ
    choice = first ++ later

    part_read : drawn_part choice s.pending choice ≡ record { value = is.some; rest = later }
    part_read = decoded_part choice is.some s.pending is.part later

    files_read : drawn_files choice s.files later ≡ record { value = refit_files s.files is.bytes; rest = [] }
    files_read = ap (drawn_files choice s.files) (sym (append-nil later)) ∙ decoded_files choice s.files is.bytes [] is.outcomes

    same : (o : Option ℕ) (x : Option (List ℕ)) → x ≡ option_map is.bytes o → ((bytes : List ℕ) → x ≡ Some bytes → AreBytes bytes) → option_map (λ i. get_or (refit_files s.files is.bytes) i []) o ≡ x
    same None x at are = sym at
    same (Some i) x at are = ap (λ (bytes : List ℕ). Some bytes) (refit_at s.files is.bytes i is.outcomes (are (is.bytes i) at)) ∙ sym at

    shown : (name : List ℕ) → image_of s choice name ≡ image name
    shown name =
        ap (λ (d : Drawn (List NameChange)). option_map (λ i. get_or (drawn_files choice s.files d.rest).value i []) (all_renamed s.base d.value name)) part_read
        ∙ ap (λ (d : Drawn (List (List ℕ))). option_map (λ i. get_or d.value i []) (all_renamed s.base is.some name)) files_read
        ∙ same (all_renamed s.base is.some name) (image name) (is.shows name) (has name)
