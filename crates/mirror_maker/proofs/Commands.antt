-- The commands of a source's patch are those of a script.
use Rattle.std.proofs.Common.{◌≡◌, ℕ, suc, ◌+◌, ◌-◌, ◌*◌, ◌%◌, ◌<◌, ◌≤◌, ◌==◌, ◌&&◌, ◌^◌, if◌then◌else◌, nat_le, true, false, List, [], ◌∷◌, ◌++◌, length, map, slice_index, codes, decimal, Some, inl, inr, refl, sym, ap, ◌∙◌, append_assoc, append-nil, length-append, arith}
use Rattle.std.specs.Char.{is_ascii_digit}
use Rattle.std.specs.Int.{IsInRange}
use Rattle.std.specs.List.{AllByRecursion as Each, flat_map, list_any}
use Rattle.std.proofs.Math.Seq.{get_or-append_seam, take-append_seam}
use Rattle.std.proofs.lemmas.Bool.{cases_Bool, eqb-false, ne_eqb}
use Rattle.std.proofs.lemmas.Bool.Decides.{nat_tests}
use Rattle.std.proofs.lemmas.Fmt.{decimal_is_IsNumeral, length-decimal-le}
use Rattle.std.proofs.lemmas.Grind.{flat_map-append}
use Rattle.std.proofs.lemmas.List.{map-append}
use Rattle.acq_base.specs.Digits.{is_number}
use Rattle.ed_apply.specs.Edits.{GoesDown}
use Rattle.ed_apply.specs.Grammar.{changed, command_of, is_comma, line_number, range_of}
use Rattle.ed_apply.specs.Spelling.{AreSpelled, IsSpelled, Plain, Puts, Spelling, lines_within, spelled_lines, with_feeds}
use Rattle.ed_apply.specs.declared.command.Command.{Command}
use Rattle.ed_apply.specs.declared.script.Hunk.{Hunk}
use Rattle.ed_apply.specs.declared.script.Script.{Script}
use Rattle.mirror_maker.specs.Lists.{change, command, later, line_of, script_from}
use Rattle.mirror_maker.specs.declared.packages.Package.{Package}
use Rattle.mirror_maker.proofs.Lines.{IsLine, digits_miss, digits_pass, each_append, line_append, number_line, within}

-- ---- one command

abbrev changes_line : ℕ → ℕ → Command
changes_line from to = record { from = from; to = to; adds = true }

digit_passes : (c : ℕ) → IsInRange 48 57 c → is_ascii_digit c ≡ true
digit_passes c digit = let low = digit.0 in let high = digit.1 in grind (arith, nat_tests)

digit_misses : (c : ℕ) → IsInRange 48 57 c → is_comma c ≡ false
digit_misses c digit = let low = digit.0 in ne_eqb c 44 (λ e. omega (arith, e, low))

number_read : (n : ℕ) → n < 10 ^ 18 → line_number (decimal n) ≡ Some n
number_read n small =
    let fits : n < 2 ^ 64 = omega (arith, small) in
    let long = length-decimal-le 18 n (omega arith) small fits in
    let numeral = decimal_is_IsNumeral n fits in
    let digits = digits_pass is_ascii_digit digit_passes (decimal n) numeral.0.1 in
    let some = numeral.0.0 in
    let value = numeral.1 in
    let short : nat_le (length (decimal n)) 18 ≡ true = grind (arith, nat_tests) in
    let is : is_number (decimal n) ≡ true = grind (arith, nat_tests) in
    rw (short, is) (ap (λ (k : ℕ). Some k) value)

one_line : (places : List ℕ) (n : ℕ) → list_any is_comma places ≡ false → line_number places ≡ Some n → range_of places ≡ Some (n, n)
unfolding range_of
one_line places n none is = rw (none, is) refl

lettered_c : (places : List ℕ) → command_of (places ++ codes "c") ≡ changed true (range_of places)
unfolding command_of
lettered_c places =
    let long = length-append places (codes "c") in
    let some : nat_le 1 (length (places ++ 99 ∷ [])) ≡ true = grind (arith, nat_tests) in
    let place : length (places ++ 99 ∷ []) - 1 ≡ length places = omega (arith, long) in
    rw (some, place, get_or-append_seam places 99 [] 0, take-append_seam places (99 ∷ [])) refl

changes_one : (from n : ℕ) → n ≡ suc from → changed true (Some (n, n)) ≡ Some (changes_line from n)
changes_one from n is =
    let both : (nat_le 1 n && nat_le n n) ≡ true = grind (arith, nat_tests) in
    let before : n - 1 ≡ from = omega (arith, is) in
    rw both (ap (λ (k : ℕ). Some (changes_line k n)) before)

reads_command : (place : ℕ) → place < 10000 → command_of (decimal (4 * place + 2) ++ codes "c") ≡ Some (changes_line (4 * place + 1) (4 * place + 2))
reads_command place few =
    let small : 4 * place + 2 < 10 ^ 18 = omega (arith, few) in
    let fits : 4 * place + 2 < 2 ^ 64 = omega (arith, few) in
    let numeral = decimal_is_IsNumeral (4 * place + 2) fits in
    lettered_c (decimal (4 * place + 2))
    ∙ ap (changed true) (one_line (decimal (4 * place + 2)) (4 * place + 2) (digits_miss is_comma digit_misses (decimal (4 * place + 2)) numeral.0.1) (number_read (4 * place + 2) small))
    ∙ changes_one (4 * place + 1) (4 * place + 2) (omega arith)

-- ---- commands, each with its package's place and its version on the first day

abbrev pub text : ℕ → List ℕ
text version = codes "Version: " ++ decimal (version + 1000)

abbrev spelling : ℕ × ℕ → Spelling
spelling c = Puts (decimal (4 * c.0 + 2) ++ codes "c") (Plain (text c.1 ∷ []))

abbrev pub hunk : ℕ × ℕ → ℕ → Hunk
hunk c at = record { from = 4 * c.0 + 1; to = 4 * c.0 + 2; text = with_feeds (text c.1 ∷ []); at = at }

abbrev pub hunks_from : ℕ → List (ℕ × ℕ) → List Hunk
hunks_from at [] = []
hunks_from at (c ∷ cs) = hunk c at ∷ hunks_from (at + 3) cs

abbrev pub changes_at : ℕ → ℕ → List (ℕ × ℕ)
changes_at place version = if place % 10 == 0 then (place, version) ∷ [] else []

abbrev pub changes_from : ℕ → List Package → List (ℕ × ℕ)
changes_from place [] = []
changes_from place (one ∷ packages) = changes_from (suc place) packages ++ changes_at place one.version

abbrev IsSmall : ℕ × ℕ → Type 0
IsSmall c = (c.0 < 10000) × (c.1 < 1000)

is_spelled : (cs : List (ℕ × ℕ)) (at : ℕ) → Each IsSmall cs → AreSpelled (map spelling cs) at (hunks_from at cs)
is_spelled [] at small = tt
is_spelled (c ∷ cs) at small =
    ((reads_command c.0 small.0.0, ((λ e. eqb-false 86 46 refl (ap (λ (l : List ℕ). slice_index l 0) e)), tt), refl, refl), is_spelled cs (at + 3) small.1)

-- ---- their order

abbrev Descend : List (ℕ × ℕ) → Type 0
Descend [] = Unit {0}
Descend (c ∷ []) = Unit {0}
Descend (c ∷ d ∷ cs) = (d.0 < c.0) × Descend (d ∷ cs)

last_below : (cs : List (ℕ × ℕ)) (c : ℕ × ℕ) → Descend cs → Each (λ d. c.0 < d.0) cs → Descend (cs ++ c ∷ [])
last_below [] c down above = tt
last_below (d ∷ []) c down above = (above.0, tt)
last_below (d ∷ e ∷ cs) c down above = (down.0, last_below (e ∷ cs) c down.1 above.1)

goes_down : (cs : List (ℕ × ℕ)) (at : ℕ) → Descend cs → GoesDown (hunks_from at cs)
goes_down [] at down = tt
goes_down (c ∷ []) at down = tt
goes_down (c ∷ d ∷ cs) at down = let below = down.0 in (omega (arith, below), goes_down (d ∷ cs) (at + 3) down.1)

-- what holds of each package's command
every : (P : ℕ × ℕ → Type 0) (packages : List Package) (place : ℕ) → ((k version : ℕ) → place ≤ k → k < place + length packages → version < 1000 → P (k, version))
    → Each (λ one. one.version < 1000) packages → Each P (changes_from place packages)
every P [] place holds small = tt
every P (one ∷ packages) place holds small =
    each_append P (changes_from (suc place) packages) (changes_at place one.version)
    (every P packages (suc place) (λ k version low high few. holds k version (omega (arith, low)) (omega (arith, high)) few) small.1)
    (elim (cases_Bool (place % 10 == 0)) [ inl is ↦ rw is (holds place one.version (omega arith) (omega arith) small.0, tt) | inr isnt ↦ rw isnt tt ])

descend : (packages : List Package) (place : ℕ) → Each (λ one. one.version < 1000) packages → Descend (changes_from place packages)
descend [] place small = tt
descend (one ∷ packages) place small =
    let more = descend packages (suc place) small.1 in
    elim (cases_Bool (place % 10 == 0)) [
      | inl is ↦ rw is (last_below (changes_from (suc place) packages) (place, one.version) more (every (λ d. place < d.0) packages (suc place) (λ k version low high few. omega (arith, low)) small.1))
      | inr isnt ↦ rw (isnt, append-nil (changes_from (suc place) packages)) more
    ]

-- ---- their lines

abbrev script_lines : List (ℕ × ℕ) → List (List ℕ)
script_lines cs = flat_map spelled_lines (map spelling cs)

joined : (cs ds : List (ℕ × ℕ)) → with_feeds (script_lines (cs ++ ds)) ≡ with_feeds (script_lines cs) ++ with_feeds (script_lines ds)
joined cs ds =
    ap (λ (ss : List Spelling). with_feeds (flat_map spelled_lines ss)) (map-append spelling cs ds)
    ∙ ap with_feeds (flat_map-append spelled_lines (map spelling cs) (map spelling ds))
    ∙ flat_map-append (λ (line : List ℕ). line ++ 10 ∷ []) (script_lines cs) (script_lines ds)

regrouped : (a b : List ℕ) → with_feeds ((a ++ codes "c") ∷ (codes "Version: " ++ b) ∷ codes "." ∷ []) ≡ a ++ (codes "c\nVersion: " ++ b ++ codes "\n.\n")
regrouped a b =
    let rest = with_feeds ((codes "Version: " ++ b) ∷ codes "." ∷ []) in
    append_assoc (a ++ 99 ∷ []) (10 ∷ []) rest ∙ append_assoc a (99 ∷ []) (10 ∷ rest)
    ∙ ap (λ (t : List ℕ). a ++ (codes "c\nVersion: " ++ t)) (append_assoc b (10 ∷ []) (46 ∷ 10 ∷ []))

command_is : (place version : ℕ) → command place version ≡ with_feeds (script_lines ((place, version) ∷ []))
unfolding change later line_of
command_is place version = sym (regrouped (decimal (4 * place + 2)) (decimal (version + 1000)))

script_is : (packages : List Package) (place : ℕ) → script_from place packages ≡ with_feeds (script_lines (changes_from place packages))
script_is [] place = refl
script_is (one ∷ packages) place =
    let cs = changes_from (suc place) packages in
    let more = script_is packages (suc place) in
    elim (cases_Bool (place % 10 == 0)) [
      | inl is ↦
          rw is (ap (λ (t : List ℕ). t ++ command place one.version) more ∙ ap (λ (t : List ℕ). with_feeds (script_lines cs) ++ t) (command_is place one.version)
          ∙ sym (joined cs ((place, one.version) ∷ [])))
      | inr isnt ↦ rw isnt (append-nil (script_from (suc place) packages) ∙ more ∙ ap (λ (ds : List (ℕ × ℕ)). with_feeds (script_lines ds)) (sym (append-nil cs)))
    ]

are_lines : (cs : List (ℕ × ℕ)) → Each IsSmall cs → Each IsLine (script_lines cs)
are_lines [] small = tt
are_lines (c ∷ cs) small =
    let place = small.0.0 in
    let version = small.0.1 in (
      line_append (decimal (4 * c.0 + 2)) (codes "c") (number_line (4 * c.0 + 2) (omega (arith, place))) refl,
      (
        line_append (codes "Version: ") (decimal (c.1 + 1000)) refl (number_line (c.1 + 1000) (omega (arith, version))),
        (refl, are_lines cs small.1),
      ),
    )

-- ---- the patch

abbrev pub script_of_packages : List Package → Script
script_of_packages packages = record { hunks = hunks_from 1 (changes_from 0 packages) }

pub patch_spelled : (packages : List Package) → length packages < 10000 → Each (λ one. one.version < 1000) packages
    → IsSpelled (lines_within (script_from 0 packages)) (script_of_packages packages)
patch_spelled packages few small =
    let cs = changes_from 0 packages in
    let each = every IsSmall packages 0 (λ k version low high below. (omega (arith, high, few), below)) small in
    record {
      spellings = map spelling cs;
      cut = ap lines_within (script_is packages 0) ∙ within (script_lines cs) (are_lines cs each);
      hunks = is_spelled cs 1 each;
      down = goes_down cs 1 (descend packages 0 small);
    }
