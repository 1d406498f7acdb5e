-- Names whose digests come in, one more or a list more.
use Rattle.std.proofs.Common.{◌≡◌, ◌≢◌, ℕ, ◌+◌, ◌-◌, ◌^◌, ◌≤◌, ◌<◌, zero, suc, List, [], ◌∷◌, ◌++◌, map, take, length, get_or, refl, sym, ap, ◌∙◌, subst, codes, append_assoc, arith}
use Rattle.std.specs.Prelude.{fold}
use Rattle.std.specs.List.{All, AllPairs, flat_map}
use Rattle.std.proofs.lemmas.List.{append-nil, map-append, take_more, length-map}
use Rattle.std.proofs.lemmas.List.Concat.{flat_map-append}
use Rattle.std.proofs.lemmas.List.Elements.{All-nil, All-cons, All-append}
use Rattle.std.proofs.lemmas.List.Sums.{fold-append}
use Rattle.target_plan.specs.declared.draft.Planned.{Planned}
use Rattle.target_plan.specs.declared.marks.Mark.{Mark}
use Rattle.target_plan.specs.Marks.{step, start, mark_of, digest_of, AreMarked, IsPlain, escaped, path_of, names_behind, names_below, MarksLists, MarksFiles}

-- ---- sizes

exact-size : (front : Mark) (bytes : List ℕ) → (fold step front bytes).size < 2 ^ 64 - 1 → (fold step front bytes).size ≡ front.size + length bytes
unfolding step
exact-size front [] small = omega arith
exact-size front (c ∷ bytes) small =
    let rest = exact-size (step front c) bytes small in
    omega (arith, rest, small)

pub size_short : (name : List ℕ) → (mark_of name).size ≤ 240 → length name ≤ 240
size_short name small = omega (arith, exact-size start name (omega (arith, small)), small)

-- ---- digests

IsShort : List ℕ → Type 0
IsShort name = length name ≤ 240

pub marked_none : (old : List ℕ) → AreMarked [] old old
marked_none old = record { added = sym (append-nil old); short = All-nil (λ (name : List ℕ). length name ≤ 240) }

pub marked_append : (a b : List (List ℕ)) (old mid new : List ℕ) → AreMarked a old mid → AreMarked b mid new → AreMarked (a ++ b) old new
marked_append a b old mid new front back = record {
  added = back.added ∙ ap (λ (m : List ℕ). m ++ map digest_of b) front.added ∙ append_assoc old (map digest_of a) (map digest_of b) ∙ ap (λ (m : List ℕ). old ++ m) (sym (map-append digest_of a b));
  short = All-append (λ (name : List ℕ). length name ≤ 240) a b front.short back.short;
}

pub marked_one : (name : List ℕ) (mark : Mark) (old new : List ℕ) → mark ≡ mark_of name → mark.size ≤ 240 → new ≡ old ++ mark.digest ∷ [] → AreMarked (name ∷ []) old new
marked_one name mark old new is small added = record {
  added = added ∙ ap (λ (m : Mark). old ++ m.digest ∷ []) is;
  short = All-cons (λ (n : List ℕ). length n ≤ 240) name [] (size_short name (subst (λ (m : Mark). m.size ≤ 240) is small)) (All-nil (λ (n : List ℕ). length n ≤ 240));
}

-- ---- lists of a component

pub lists_none : (mark : Mark) (old : List ℕ) → MarksLists mark [] old old
lists_none mark old = λ front is. marked_none old

pub lists_more : (front mark : Mark) (tails : List (List ℕ)) (i : ℕ) (tail : List ℕ) (old mid new : List ℕ) → i < length tails → tail ≡ get_or tails i tail → mark ≡ fold step front tail → mark.size ≤ 240
    → MarksLists front (take i tails) old mid → new ≡ mid ++ mark.digest ∷ [] → MarksLists front (take (i + 1) tails) old new
lists_more front mark tails i tail old mid new within is made small so_far added = λ text of_front.
    let one = marked_one (text ++ tail) mark mid new (made ∙ ap (λ (m : Mark). fold step m tail) of_front ∙ sym (fold-append step start text tail)) small added in
    subst (λ (ts : List (List ℕ)). AreMarked (names_behind text ts) old new) (ap (λ (t : List ℕ). take i tails ++ t ∷ []) is ∙ sym (take_more tails i tail within))
    (subst (λ (names : List (List ℕ)). AreMarked names old new) (sym (map-append (λ (t : List ℕ). text ++ t) (take i tails) (tail ∷ [])))
    (marked_append (names_behind text (take i tails)) ((text ++ tail) ∷ []) old mid new (so_far text of_front) one))

-- ---- files

pub files_none : (folder release : Mark) (tails : List (List ℕ)) (old new : List ℕ) → release ≡ fold step folder (codes "Release") → release.size ≤ 240 → new ≡ old ++ release.digest ∷ [] → MarksFiles folder [] tails old new
files_none folder release tails old new made small added = record {
  marked = λ text of_folder. marked_one (text ++ codes "Release") release old new (made ∙ ap (λ (m : Mark). fold step m (codes "Release")) of_folder ∙ sym (fold-append step start text (codes "Release"))) small added;
  plain = All-nil IsPlain;
}

pub files_more : (folder : Mark) (components tails : List (List ℕ)) (i : ℕ) (component : List ℕ) (old mid new : List ℕ) → i < length components → component ≡ get_or components i component → IsPlain component
    → MarksFiles folder (take i components) tails old mid → MarksLists (fold step folder (escaped component)) tails mid new → MarksFiles folder (take (i + 1) components) tails old new
files_more folder components tails i component old mid new within is plain so_far lists =
    let upto : take i components ++ component ∷ [] ≡ take (i + 1) components = ap (λ (c : List ℕ). take i components ++ c ∷ []) is ∙ sym (take_more components i component within) in
    record {
      marked = λ text of_folder.
          let behind = λ (c : List ℕ). names_behind (text ++ escaped c) tails in
          let more = lists (text ++ escaped component) (ap (λ (m : Mark). fold step m (escaped component)) of_folder ∙ sym (fold-append step start text (escaped component))) in
          subst (λ (cs : List (List ℕ)). AreMarked (names_below text cs tails) old new) upto
          (subst (λ (names : List (List ℕ)). AreMarked ((text ++ codes "Release") ∷ names) old new)
          (sym (flat_map-append behind (take i components) (component ∷ []) ∙ ap (λ (names : List (List ℕ)). flat_map behind (take i components) ++ names) (append-nil (behind component))))
          (marked_append (names_below text (take i components) tails) (behind component) old mid new (so_far.marked text of_folder) more));
      plain = subst (All IsPlain) upto (All-append IsPlain (take i components) (component ∷ []) so_far.plain (All-cons IsPlain component [] plain (All-nil IsPlain)));
    }

-- ---- items whose digests differ

item-through : {X Y : Type 0} (f : X → Y) (xs : List X) (k : ℕ) (d : X) → get_or (map f xs) k (f d) ≡ f (get_or xs k d)
item-through f [] k d = refl
item-through f (x ∷ xs) zero d = refl
item-through f (x ∷ xs) (suc k) d = item-through f xs k d

pub apart_by_digests : (names : List (List ℕ)) (digests : List ℕ) → digests ≡ map digest_of names → AllPairs (λ (a b : ℕ). a ≢ b) digests → AllPairs (λ (a b : List ℕ). a ≢ b) names
apart_by_digests names digests are apart = λ i j d below within same.
    let pairs : AllPairs (λ (a b : ℕ). a ≢ b) (map digest_of names) = subst (AllPairs (λ (a b : ℕ). a ≢ b)) are apart in
    pairs i j (digest_of d) below (omega (arith, within, length-map names digest_of)) (item-through digest_of names i d ∙ ap digest_of same ∙ sym (item-through digest_of names j d))

-- ---- one source more

pub sources_more : {G H : Type 0} (item : H → List (List ℕ)) (seen : G → H) (groups : List G) (i : ℕ) (x : G) (mid new : List ℕ) → i < length groups → x ≡ get_or groups i x
    → AreMarked (flat_map item (map seen (take i groups))) [] mid → AreMarked (item (seen x)) mid new → AreMarked (flat_map item (map seen (take (i + 1) groups))) [] new
sources_more {G} item seen groups i x mid new within is so_far here =
    let upto : take i groups ++ x ∷ [] ≡ take (i + 1) groups = ap (λ (y : G). take i groups ++ y ∷ []) is ∙ sym (take_more groups i x within) in
    subst (λ (names : List (List ℕ)). AreMarked names [] new)
    (sym (ap (λ (gs : List G). flat_map item (map seen gs)) (sym upto) ∙ ap (flat_map item) (map-append seen (take i groups) (x ∷ [])) ∙ flat_map-append item (map seen (take i groups)) (seen x ∷ [])
    ∙ ap (λ (names : List (List ℕ)). flat_map item (map seen (take i groups)) ++ names) (append-nil (item (seen x)))))
    (marked_append (flat_map item (map seen (take i groups))) (item (seen x)) [] mid new so_far here)

-- ---- one tail more

pub tails_more : (lists : List Planned) (i : ℕ) (x : Planned) (old new : List (List ℕ)) (text : List ℕ) → i < length lists → x ≡ get_or lists i x → text ≡ escaped (path_of x) → IsPlain (path_of x)
    → old ≡ map escaped (map path_of (take i lists)) → All IsPlain (map path_of (take i lists)) → new ≡ old ++ text ∷ []
    → (new ≡ map escaped (map path_of (take (i + 1) lists))) × All IsPlain (map path_of (take (i + 1) lists))
tails_more lists i x old new text within is made plain are all added =
    let paths : map path_of (take i lists) ++ path_of x ∷ [] ≡ map path_of (take (i + 1) lists) =
    sym (map-append path_of (take i lists) (x ∷ [])) ∙ ap (map path_of) (ap (λ (y : Planned). take i lists ++ y ∷ []) is ∙ sym (take_more lists i x within)) in (
      added ∙ (λ j. are j ++ made j ∷ []) ∙ sym (map-append escaped (map path_of (take i lists)) (path_of x ∷ [])) ∙ ap (map escaped) paths,
      subst (All IsPlain) paths (All-append IsPlain (map path_of (take i lists)) (path_of x ∷ []) all (All-cons IsPlain (path_of x) [] plain (All-nil IsPlain))),
    )
