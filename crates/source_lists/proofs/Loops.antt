-- Items read one after another, with what was found so far in front.
use Rattle.std.proofs.Common.{◌≡◌, ◌∙◌, ℕ, suc, ◌+◌, ◌<◌, ◌≤◌, List, [], ◌∷◌, ◌++◌, length, drop, get_or, drop-cons, append_assoc, ◌⊎◌, inl, inr, Result, Ok, Err, refl, sym, ap, arith}
use Rattle.std.proofs.lemmas.List.{drop_all, append-nil}
use Rattle.source_lists.specs.declared.entry.Entry.{Entry}
use Rattle.source_lists.specs.declared.error.ListError.{ListError}
use Rattle.source_lists.specs.declared.error.ListError.TheVariants.{NoMemory}
use Rattle.source_lists.specs.Steps.{◌>>=◌, each}
use Rattle.source_lists.specs.Texts.{joined, all_entries}

-- the item at a place, and those behind it
pub item_at : {X : Type 0} (items : List X) (i : ℕ) (x : X) → i < length items → x ≡ get_or items i x → drop i items ≡ x ∷ drop (i + 1) items
item_at items i x within is =
    let next : suc i ≡ i + 1 = omega arith in
    drop-cons items i x within ∙ ap (λ y. y ∷ drop (suc i) items) (sym is) ∙ ap (λ n. x ∷ drop n items) next

-- ---- what a call answers

abbrev pub Gives : {A : Type 0} → Result A ListError → Result A ListError → Type 0
Gives result read = (result ≡ Err NoMemory) ⊎ (result ≡ read)

-- what a call that went well gave
pub worked : {A : Type 0} (x : A) (read : Result A ListError) → Gives (Ok x) read → read ≡ Ok x
worked x read (inl memory) = absurd (cc)
worked x read (inr same) = sym same

-- and one that failed, which ends the whole
pub failed : {A B : Type 0} (refusal : ListError) (read : Result A ListError) (whole : Result B ListError) → Gives (Err refusal) read → (read ≡ Err refusal → whole ≡ Err refusal) → Gives (Err refusal) whole
failed refusal read whole (inl memory) next = let same : refusal ≡ NoMemory = cc in inl (ap Err same)
failed refusal read whole (inr same) next = inr (sym (next (sym same)))

-- ---- values

abbrev pub with_front : {Y : Type 0} → List Y → Result (List Y) ListError → Result (List Y) ListError
with_front front read = read >>= λ more. Ok (front ++ more)

pub front-nil : {Y : Type 0} (read : Result (List Y) ListError) → read ≡ with_front [] read
front-nil (Ok more) = refl
front-nil (Err refusal) = refl

front-push : {Y : Type 0} (front : List Y) (y : Y) (read : Result (List Y) ListError) → with_front front (read >>= λ more. Ok (y ∷ more)) ≡ with_front (front ++ y ∷ []) read
front-push front y (Ok more) = ap Ok (sym (append_assoc front (y ∷ []) more))
front-push front y (Err refusal) = refl

pub goes_on : {X Y : Type 0} (read : X → Result Y ListError) (whole : Result (List Y) ListError) (front : List Y) (items : List X) (i : ℕ) (x : X) (y : Y) → whole ≡ with_front front (each read (drop i items)) → i < length items → x ≡ get_or items i x → read x ≡ Ok y → whole ≡ with_front (front ++ y ∷ []) (each read (drop (i + 1) items))
unfolding each
goes_on read whole front items i x y so_far within is here =
    let rest = drop (i + 1) items in
    so_far ∙ ap (λ t. with_front front (each read t)) (item_at items i x within is) ∙ ap (λ r. with_front front (r >>= λ found. each read rest >>= λ others. Ok (found ∷ others))) here ∙ front-push front y (each read rest)

pub stops : {X Y : Type 0} (read : X → Result Y ListError) (whole : Result (List Y) ListError) (front : List Y) (items : List X) (i : ℕ) (x : X) (refusal : ListError) → whole ≡ with_front front (each read (drop i items)) → i < length items → x ≡ get_or items i x → read x ≡ Err refusal → whole ≡ Err refusal
unfolding each
stops read whole front items i x refusal so_far within is here =
    let rest = drop (i + 1) items in
    so_far ∙ ap (λ t. with_front front (each read t)) (item_at items i x within is) ∙ ap (λ r. with_front front (r >>= λ found. each read rest >>= λ others. Ok (found ∷ others))) here

pub ends : {X Y : Type 0} (read : X → Result Y ListError) (whole : Result (List Y) ListError) (front : List Y) (items : List X) (i : ℕ) → whole ≡ with_front front (each read (drop i items)) → length items ≤ i → whole ≡ Ok front
unfolding each
ends read whole front items i so_far past = so_far ∙ ap (λ t. with_front front (each read t)) (drop_all i items past) ∙ ap Ok (append-nil front)

-- ---- entries

abbrev pub with_entries : List Entry → Result (List (List Entry)) ListError → Result (List Entry) ListError
with_entries front read = read >>= λ more. Ok (front ++ joined more)

pub entries-nil : {X : Type 0} (read : X → Result (List Entry) ListError) (items : List X) → with_entries [] (each read items) ≡ all_entries read items
unfolding all_entries
entries-nil read items = refl

entries-push : (front found : List Entry) (read : Result (List (List Entry)) ListError) → with_entries front (read >>= λ more. Ok (found ∷ more)) ≡ with_entries (front ++ found) read
entries-push front found (Ok more) = ap Ok (sym (append_assoc front found (joined more)))
entries-push front found (Err refusal) = refl

pub entries-step : {X : Type 0} (read : X → Result (List Entry) ListError) (front found : List Entry) (x : X) (rest : List X) → read x ≡ Ok found → with_entries front (each read (x ∷ rest)) ≡ with_entries (front ++ found) (each read rest)
unfolding each
entries-step read front found x rest here = ap (λ r. with_entries front (r >>= λ first. each read rest >>= λ others. Ok (first ∷ others))) here ∙ entries-push front found (each read rest)

pub entries-stop : {X : Type 0} (read : X → Result (List Entry) ListError) (front : List Entry) (x : X) (rest : List X) (refusal : ListError) → read x ≡ Err refusal → with_entries front (each read (x ∷ rest)) ≡ Err refusal
unfolding each
entries-stop read front x rest refusal here = ap (λ r. with_entries front (r >>= λ first. each read rest >>= λ others. Ok (first ∷ others))) here

pub entries-end : {X : Type 0} (read : X → Result (List Entry) ListError) (front : List Entry) → with_entries front (each read []) ≡ Ok front
unfolding each
entries-end read front = ap Ok (append-nil front)

-- a call that adds the entries of the next item
pub added : {X : Type 0} (read : X → Result (List Entry) ListError) (whole : Result (List Entry) ListError) (front new : List Entry) (items : List X) (i : ℕ) (x : X) → whole ≡ with_entries front (each read (drop i items)) → i < length items → x ≡ get_or items i x
    → (found : List Entry) × (read x ≡ Ok found) × (new ≡ front ++ found) → whole ≡ with_entries new (each read (drop (i + 1) items))
added read whole front new items i x so_far within is adds =
    let rest = drop (i + 1) items in
    so_far ∙ ap (λ t. with_entries front (each read t)) (item_at items i x within is) ∙ entries-step read front adds.0 x rest adds.1 ∙ ap (λ t. with_entries t (each read rest)) (sym adds.2)

pub adds_none : {X : Type 0} (read : X → Result (List Entry) ListError) (whole : Result (List Entry) ListError) (front : List Entry) (items : List X) (i : ℕ) (x : X) (refusal : ListError) → whole ≡ with_entries front (each read (drop i items)) → i < length items → x ≡ get_or items i x
    → (refusal ≡ NoMemory) ⊎ (read x ≡ Err refusal) → Gives (Err refusal) whole
adds_none read whole front items i x refusal so_far within is (inl memory) = inl (ap Err memory)
adds_none read whole front items i x refusal so_far within is (inr here) =
    let rest = drop (i + 1) items in
    inr (sym (so_far ∙ ap (λ t. with_entries front (each read t)) (item_at items i x within is) ∙ entries-stop read front x rest refusal here))

pub all_added : {X : Type 0} (read : X → Result (List Entry) ListError) (whole : Result (List Entry) ListError) (front : List Entry) (items : List X) (i : ℕ) → whole ≡ with_entries front (each read (drop i items)) → length items ≤ i → whole ≡ Ok front
all_added read whole front items i so_far past = so_far ∙ ap (λ t. with_entries front (each read t)) (drop_all i items past) ∙ entries-end read front
