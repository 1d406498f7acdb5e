-- The last part of a date text: where it may hold nothing of what separates parts, a reader needn't look for that.
use Rattle.std.proofs.Common.{◌≡◌, ◌∙◌, ℕ, ◌==◌, not, true, false, List, [], ◌∷◌, ◌++◌, codes, nat_eq, Option, Some, None, ℤ, refl, sym, ap, arith, if◌then◌else◌}
use Rattle.std.proofs.lemmas.Bool.Decides.{nat_tests}
use Rattle.std.proofs.lemmas.List.Splits.{join_with_byte-slice_split}
use Rattle.std.specs.Char.{is_ascii_digit}
use Rattle.std.specs.Cmp.Lexicographic.{pointwise}
use Rattle.std.specs.List.{list_all, join_with_byte}
use Rattle.release_file.specs.DateText.{◌>>=◌, parts_at, number_of, is_zone, clock_of, clock_of_texts, clock_of_parts, day_of_texts, moment_of, moment_of_parts}

-- ---- the seconds

-- a colon is no digit
digits_without_colon : (front back : List ℕ) → list_all is_ascii_digit (front ++ 58 ∷ back) ≡ false
digits_without_colon [] back = refl
digits_without_colon (c ∷ front) back = rw (digits_without_colon front back) (grind (arith, nat_tests))

number_with_colon : (least most : ℕ) (front back : List ℕ) → number_of least most (front ++ 58 ∷ back) ≡ None
unfolding number_of
number_with_colon least most front back = rw (digits_without_colon front back) (grind (arith, nat_tests))

bind_none : (a b c : Option ℕ) (f : ℕ → ℕ → ℕ → Option ℕ) → c ≡ None → (a >>= λ x. b >>= λ y. c >>= λ z. f x y z) ≡ None
bind_none None b c f e = refl
bind_none (Some x) None c f e = refl
bind_none (Some x) (Some y) c f e = rw e refl

no_seconds : (hour minute second : List ℕ) → number_of 2 2 second ≡ None → clock_of_texts hour minute second ≡ None
unfolding clock_of_texts
no_seconds hour minute second e = bind_none (number_of 2 2 hour) (number_of 2 2 minute) (number_of 2 2 second) clock_of e

no_number : number_of 2 2 [] ≡ None
unfolding number_of
no_number = refl

clock_by_parts : (hour minute second : List ℕ) (parts : List (List ℕ)) → join_with_byte 58 parts ≡ second → clock_of_texts hour minute second ≡ clock_of_parts (hour ∷ minute ∷ parts)
clock_by_parts hour minute second [] e = rw (← e) (no_seconds hour minute [] no_number)
clock_by_parts hour minute second (part ∷ []) e = rw e refl
clock_by_parts hour minute second (part ∷ next ∷ parts) e = rw (← e) (no_seconds hour minute _ (number_with_colon 2 2 part (join_with_byte 58 (next ∷ parts))))

pub clock_of_cut : (text hour rest minute second : List ℕ) → parts_at 58 text ≡ hour ∷ parts_at 58 rest → parts_at 58 rest ≡ minute ∷ parts_at 58 second → clock_of_texts hour minute second ≡ clock_of_parts (parts_at 58 text)
clock_of_cut text hour rest minute second e f =
    clock_by_parts hour minute second (parts_at 58 second) (join_with_byte-slice_split 58 second) ∙ sym (ap clock_of_parts (e ∙ ap (λ p. hour ∷ p) f))

-- ---- the zone

-- a text with a space isn't one without
differs : (text front back : List ℕ) → list_all (λ b. not (b == 32)) text ≡ true → pointwise nat_eq (front ++ 32 ∷ back) text ≡ false
differs [] [] back h = refl
differs [] (c ∷ front) back h = refl
differs (b ∷ text) [] back h = grind (arith, nat_tests)
differs (b ∷ text) (c ∷ front) back h = let rest = differs text front back (grind (arith, nat_tests)) in rw rest (grind (arith, nat_tests))

no_zone : (front back : List ℕ) → is_zone (front ++ 32 ∷ back) ≡ false
unfolding is_zone
no_zone front back =
    rw (differs (codes "UTC") front back refl, differs (codes "GMT") front back refl, differs (codes "Z") front back refl, differs (codes "+0000") front back refl, differs (codes "-0000") front back refl) refl

no_text : is_zone [] ≡ false
unfolding is_zone
no_text = refl

abbrev zoned : List ℕ → List ℕ → List ℕ → List ℕ → List ℕ → Option ℤ
zoned day month year time zone = if is_zone zone then moment_of (day_of_texts day month year) (clock_of_parts (parts_at 58 time)) else None

moment_by_parts : (day month year time zone : List ℕ) (parts : List (List ℕ)) → join_with_byte 32 parts ≡ zone → zoned day month year time zone ≡ moment_of_parts (day ∷ month ∷ year ∷ time ∷ parts)
moment_by_parts day month year time zone [] e = rw (← e, no_text) refl
moment_by_parts day month year time zone (part ∷ []) e = rw e refl
moment_by_parts day month year time zone (part ∷ next ∷ parts) e = rw (← e, no_zone part (join_with_byte 32 (next ∷ parts))) refl

moment_of_cut : (text day more month rest year last time zone : List ℕ) → parts_at 32 text ≡ day ∷ parts_at 32 more → parts_at 32 more ≡ month ∷ parts_at 32 rest → parts_at 32 rest ≡ year ∷ parts_at 32 last → parts_at 32 last ≡ time ∷ parts_at 32 zone → zoned day month year time zone ≡ moment_of_parts (parts_at 32 text)
moment_of_cut text day more month rest year last time zone e f g h =
    moment_by_parts day month year time zone (parts_at 32 zone) (join_with_byte-slice_split 32 zone) ∙ sym (ap moment_of_parts (e ∙ ap (λ p. day ∷ p) (f ∙ ap (λ p. month ∷ p) (g ∙ ap (λ p. year ∷ p) h))))

pub moment_in_zone : (text day more month rest year last time zone : List ℕ) → is_zone zone ≡ true → parts_at 32 text ≡ day ∷ parts_at 32 more → parts_at 32 more ≡ month ∷ parts_at 32 rest → parts_at 32 rest ≡ year ∷ parts_at 32 last → parts_at 32 last ≡ time ∷ parts_at 32 zone → moment_of (day_of_texts day month year) (clock_of_parts (parts_at 58 time)) ≡ moment_of_parts (parts_at 32 text)
moment_in_zone text day more month rest year last time zone is e f g h = rw is at (moment_of_cut text day more month rest year last time zone e f g h)

pub moment_in_no_zone : (text day more month rest year last time zone : List ℕ) → is_zone zone ≡ false → parts_at 32 text ≡ day ∷ parts_at 32 more → parts_at 32 more ≡ month ∷ parts_at 32 rest → parts_at 32 rest ≡ year ∷ parts_at 32 last → parts_at 32 last ≡ time ∷ parts_at 32 zone → None ≡ moment_of_parts (parts_at 32 text)
moment_in_no_zone text day more month rest year last time zone isnt e f g h = rw isnt at (moment_of_cut text day more month rest year last time zone e f g h)
