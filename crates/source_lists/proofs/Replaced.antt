-- `$(ARCH)` is replaced from the left.
use Rattle.std.proofs.Common.{◌≡◌, ◌∙◌, ℕ, zero, suc, ◌-◌, ◌<◌, ◌≤◌, true, false, List, [], ◌∷◌, ◌++◌, length, take, drop, get_or, append_assoc, refl, sym, ap, arith}
use Rattle.std.proofs.lemmas.List.{take_all, append-nil}
use Rattle.source_lists.specs.Values.{begins_with_name, replaced, replaced_behind}

-- bytes that are passed
passed : (arch : List ℕ) (n : ℕ) (text : List ℕ) → replaced_behind arch n text ≡ replaced arch (drop n text)
unfolding replaced_behind
passed arch zero text = refl
passed arch (suc n) [] = refl
passed arch (suc n) (c ∷ rest) = passed arch n rest

at_name : (arch text : List ℕ) → begins_with_name text ≡ true → 1 ≤ length text → replaced arch text ≡ arch ++ replaced arch (drop 7 text)
unfolding replaced_behind
at_name arch [] is long = absurd (omega arith)
at_name arch (c ∷ rest) is long = rw is (ap (λ t. arch ++ t) (passed arch 6 rest))

at_byte : (arch text : List ℕ) → begins_with_name text ≡ false → 1 ≤ length text → replaced arch text ≡ get_or text 0 0 ∷ replaced arch (drop 1 text)
unfolding replaced_behind
at_byte arch [] isnt long = absurd (omega arith)
at_byte arch (c ∷ rest) isnt long = rw isnt refl

pub name-step : (arch text behind whole new all : List ℕ) → whole ++ replaced arch text ≡ all → 1 ≤ length text → begins_with_name text ≡ true → behind ≡ drop 7 text → new ≡ whole ++ arch → new ++ replaced arch behind ≡ all
name-step arch text behind whole new all so_far long is cut more =
    ap (λ t. t ++ replaced arch behind) more ∙ append_assoc whole arch (replaced arch behind) ∙ ap (λ t. whole ++ (arch ++ replaced arch t)) cut ∙ ap (λ t. whole ++ t) (sym (at_name arch text is long)) ∙ so_far

pub byte-step : (arch text whole new all : List ℕ) (c : ℕ) → whole ++ replaced arch text ≡ all → 1 ≤ length text → begins_with_name text ≡ false → new ≡ whole ++ c ∷ [] → c ≡ get_or text 0 0 → new ++ replaced arch (take (length text - 1) (drop 1 text)) ≡ all
byte-step arch [] whole new all c so_far long isnt more first = absurd (omega arith)
byte-step arch (d ∷ rest) whole new all c so_far long isnt more first =
    let same : take (length (d ∷ rest) - 1) rest ≡ rest = take_all (length (d ∷ rest) - 1) rest (omega arith) in
    ap (λ t. t ++ replaced arch (take (length (d ∷ rest) - 1) rest)) more ∙ append_assoc whole (c ∷ []) (replaced arch (take (length (d ∷ rest) - 1) rest)) ∙ ap (λ t. whole ++ c ∷ replaced arch t) same ∙ ap (λ e. whole ++ e ∷ replaced arch rest) first ∙ ap (λ t. whole ++ t) (sym (at_byte arch (d ∷ rest) isnt long)) ∙ so_far

pub ended : (arch text whole all : List ℕ) → whole ++ replaced arch text ≡ all → length text < 1 → whole ≡ all
unfolding replaced_behind
ended arch [] whole all so_far short = sym (append-nil whole) ∙ so_far
ended arch (c ∷ rest) whole all so_far short = absurd (omega arith)
