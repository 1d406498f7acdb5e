-- Lists that are read and summed piece by piece.
use Rattle.std.proofs.Common.{◌≡◌, refl, sym, ap, subst, ◌∙◌, arith, ℕ, ◌+◌, ◌-◌, ◌<◌, ◌≤◌, ◌^◌, min, nat_lt, Bool, true, false, List, [], ◌∷◌, ◌++◌, length, map, take, drop, get_or, Option, Some, None, All, IsTrue, option_map, unwrap_or, length-append}
use Rattle.std.proofs.lemmas.Bool.Decides.{nat_tests}
use Rattle.std.proofs.lemmas.List.{length-drop, length-take-le, length-map, take_all, take_at, drop_at, drop-drop, ext_get_or, get_or-map, get_or_append_left, get_or_push, get_or_default, get_or-set_same, get_or-set_other, append_assoc}
use borrow.Rule.Slice.PartMut.{put_mid, post_of}
use lib.ListN.{set}
use Rattle.acq_base.specs.declared.uri.ListName.{ListName}
use Rattle.acq_outside.specs.Disk.{Files, IsRead, piece_at}
use Rattle.hash_gate.specs.Pieces.{HasSummed, size_so_far}
use Rattle.lists_dir.specs.Summing.{IsFilled, Stands, Pends, Fed, Ends, CanFeed, AllFed, AllStand, AllPend, Each, file_of}
use Rattle.lists_dir.specs.declared.summing.Reading.{Reading}
use Rattle.lists_dir.proofs.Pieces.{take-more}

-- a buffer whose front is the file's, with one read more
pub filled_more : (content room out : List ℕ) (at filled n : ℕ) → filled ≤ length room → take filled room ≡ take filled (drop at content) → take n out ≡ take n (drop (at + filled) content)
    → take (filled + n) (take filled room ++ out) ≡ take (filled + n) (drop at content)
filled_more content room out at filled n within front piece =
    sym (take-more (take filled room ++ out) filled n)
    ∙ (λ i. (take_at (take filled room) out filled (length-take-le filled room within)) i ++ take n ((drop-front) i))
    ∙ (λ i. front i ++ (piece ∙ ap (take n) (sym (drop-more))) i)
    ∙ take-more (drop at content) filled n
  where
    drop-front : drop filled (take filled room ++ out) ≡ out
    drop-front = drop_at (take filled room) out filled (length-take-le filled room within)

    drop-more : drop filled (drop at content) ≡ drop (at + filled) content
    drop-more = drop-drop filled at content

-- the same after a read into the rest of the room
pub filled_read : (file : Option (List ℕ)) (at filled n k : ℕ) (room before out : List ℕ) → filled ≤ length room → take filled room ≡ take filled (drop at (unwrap_or file [])) → IsRead file (at + filled) n before out
    → take (filled + n) (put_mid filled k room out) ≡ take (filled + n) (drop at (unwrap_or file []))
filled_read file at filled n k room before out within front h =
    let content = unwrap_or file [] in
    let rest = post_of filled k room in
    filled_more content room (out ++ rest) at filled n within front
    (ap (λ o. take n (o ++ rest)) h.bytes ∙ ap (take n) (append_assoc (piece_at file (at + filled) n) (drop n before) rest)
    ∙ take_at (piece_at file (at + filled) n) (drop n before ++ rest) n (length-take-le n (drop (at + filled) content) h.within))

pub same_read : {file later : Option (List ℕ)} {at n : ℕ} {before after : List ℕ} → later ≡ file → IsRead later at n before after → IsRead file at n before after
same_read {at = at} {n = n} {before = before} {after = after} is h = subst (λ f. IsRead f at n before after) is h

-- a file without more bytes fills the room as far as it goes
pub filled_up : (content : List ℕ) (at filled room : ℕ) → filled ≤ room → drop (at + filled) content ≡ [] → take filled (drop at content) ≡ take room (drop at content)
filled_up content at filled room within none =
    take_all filled (drop at content) short ∙ sym (take_all room (drop at content) (omega (arith, short, within)))
  where
    short : length (drop at content) ≤ filled
    short = omega (arith, ap length none, length-drop (at + filled) content, length-drop at content)

-- the front of a file with a piece more
front_more : (content : List ℕ) (at step room size : ℕ) → size ≡ length content → room ≡ min step (size - at) → take at content ++ take room (drop at content) ≡ take (at + step) content
front_more content at step room size sized is = take-more content at room ∙ by (nat_lt (length content) (at + step)) refl
  where
    by : (t : Bool) → nat_lt (length content) (at + step) ≡ t → take (at + room) content ≡ take (at + step) content
    by true far =
        let short : length content < at + step = grind (arith, nat_tests) in
        take_all (at + room) content (omega (arith, short, is, sized)) ∙ sym (take_all (at + step) content (omega (arith, short)))
    by false near =
        let long : at + step ≤ length content = grind (arith, nat_tests) in
        ap (λ n. take n content) (omega (arith, long, is, sized))

size_told : (size : Option ℕ) (file : Option (List ℕ)) → size ≡ option_map length file → unwrap_or size 0 ≡ length (unwrap_or file [])
size_told size None is = ap (λ s. unwrap_or s 0) is
size_told size (Some bytes) is = ap (λ s. unwrap_or s 0) is

-- a read brings a list to a piece that isn't summed yet
pub pended : (tells : Bool) (file : Option (List ℕ)) (at step room n : ℕ) (out : List ℕ) (before after : Reading) → Stands tells file at before
    → room ≡ min step (unwrap_or before.size 0 - at) → n ≤ room → length out ≡ room → (IsTrue tells → IsFilled file at n room out) → unwrap_or before.size 0 < 2 ^ 64
    → after.size ≡ before.size → after.total ≡ before.total → after.piece.items ≡ take n out → after.content ≡ before.content ++ after.piece.items → Pends tells file (at + step) after
pended tells file at step room n out before after stands room_is within long filled small size total piece content =
    record {
      front = record {
        sized = λ told. size ∙ stands.front.sized told;
        front = λ told. content ∙ (λ i. (stands.front.front told) i ++ (piece ∙ (filled told).bytes) i)
            ∙ front_more (unwrap_or file []) at step room (unwrap_or before.size 0) (size_told before.size file (stands.front.sized told)) room_is;
        before = omega (arith, longer, room_is, within, stands.front.before);
        inside = subst (λ s. length after.content ≤ unwrap_or s 0) (sym size) inside;
      };
      summed = (before.content, subst (λ t. HasSummed t before.content) (sym total) stands.summed, content);
      room = omega (arith, ap size_so_far total, stands.summed.counted, ap length content, length-append before.content after.piece.items, inside, small);
    }
  where
    longer : length after.content ≡ length before.content + n
    longer = ap length content ∙ length-append before.content after.piece.items ∙ ap (λ k. length before.content + k) (ap length piece ∙ length-take-le n out (omega (arith, within, long)))

    inside : length after.content ≤ unwrap_or before.size 0
    inside = omega (arith, longer, room_is, within, stands.front.before, stands.front.inside)

-- a piece that is fed is summed
pub fed : (tells : Bool) (file : Option (List ℕ)) (at : ℕ) (before after : Reading) → Pends tells file at before → Fed before after → Stands tells file at after
fed tells file at before after pends feeds =
    record {
      front = record {
        sized = λ told. feeds.size ∙ pends.front.sized told;
        front = λ told. feeds.content ∙ pends.front.front told;
        before = subst (λ c. length c ≤ at) (sym feeds.content) pends.front.before;
        inside = subst (λ s. length after.content ≤ unwrap_or s 0) (sym feeds.size) (subst (λ c. length c ≤ unwrap_or before.size 0) (sym feeds.content) pends.front.inside);
      };
      summed = subst (HasSummed after.total) (sym (feeds.content ∙ pends.summed.2)) (feeds.taken pends.summed.0 pends.summed.1);
    }

-- a list whose place is at the end of its file
pub ended : (tells : Bool) (file : Option (List ℕ)) (at : ℕ) (reading : Reading) → Stands tells file at reading → (IsTrue tells → unwrap_or reading.size 0 ≤ at) → Ends tells file reading
ended tells file at reading stands past = record { summed = stands.summed; told = λ told. by (past told) file (stands.front.sized told) (stands.front.front told) }
  where
    by : unwrap_or reading.size 0 ≤ at → (f : Option (List ℕ)) → reading.size ≡ option_map length f → reading.content ≡ take at (unwrap_or f []) → file_of reading ≡ f
    by short None size front = ap (option_map (λ s. reading.content)) size
    by short (Some bytes) size front =
        ap (option_map (λ s. reading.content)) size
        ∙ ap Some (front ∙ take_all at bytes (omega (arith, short, ap (λ s. unwrap_or s 0) size)))

-- a default of look-ups in rows of names
pub any_name : ListName
any_name = record { 0 = [] }

pub can_feed : (tells : Bool) (files : Files) (at : ℕ) (names : List ListName) (readings : List Reading) → AllPend tells files at names readings → length readings ≡ length names → All CanFeed readings
can_feed tells files at names readings pend len i d below = (pend i any_name d (omega (arith, below, len))).room

pub fed_all : (tells : Bool) (files : Files) (at : ℕ) (names : List ListName) (before after : List Reading) → AllPend tells files at names before → length before ≡ length names → AllFed before after
    → AllStand tells files at names after
fed_all tells files at names before after pend len feeds i n r below =
    fed tells (files (get_or names i n).0) at (get_or before i r) (get_or after i r) (pend i n r below) (feeds i r (omega (arith, below, len)))

-- all lists at their ends are summed
pub all_summed : (tells : Bool) (files : Files) (names : List ListName) (readings : List Reading) → Each (λ name reading. Ends tells (files name.0) reading) names readings → length readings ≡ length names
    → All (λ reading. HasSummed reading.total reading.content) readings
all_summed tells files names readings ends len i d below = (ends i any_name d (omega (arith, below, len))).summed

-- the files that the lists came to are those of their names
pub came_to : (tells : Bool) (files : Files) (names : List ListName) (readings : List Reading) → Each (λ name reading. Ends tells (files name.0) reading) names readings
    → length readings ≡ length names → IsTrue tells → map file_of readings ≡ map (λ name. files name.0) names
came_to tells files [] [] ends len told = refl
came_to tells files (name ∷ names) [] ends len told = absurd (omega (arith, len))
came_to tells files names (first ∷ rest) ends len told =
    let readings : List Reading = first ∷ rest in
    let is_file = λ (name : ListName). files name.0 in
    ext_get_or None (map file_of readings) (map is_file names) (length-map readings file_of ∙ len ∙ sym (length-map names is_file))
    (λ i below. let inside : i < length names = omega (arith, below, len, length-map readings file_of) in
    get_or-map file_of readings i first None (omega (arith, inside, len)) ∙ (ends i any_name first inside).told told ∙ sym (get_or-map is_file names i any_name None inside))

-- what holds of a disk's telling and files holds of those of the disk later
pub on_disk : (P : Bool → Files → Type 0) (tells later_tells : Bool) (files later_files : Files) → later_tells ≡ tells → later_files ≡ files → P tells files → P later_tells later_files
on_disk P tells later_tells files later_files telling same holds = subst (λ t. P t later_files) (sym telling) (subst (P tells) (sym same) holds)

-- one list more that has to do with its name
pub one_more : (P : ListName → Reading → Type 0) (names : List ListName) (readings : List Reading) (k : ℕ) (name : ListName) (reading : Reading) → length readings ≡ k → k < length names → name ≡ get_or names k name
    → P name reading → ((i : ℕ) (n : ListName) (r : Reading) → i < k → P (get_or names i n) (get_or readings i r))
    → (i : ℕ) (n : ListName) (r : Reading) → i < k + 1 → P (get_or names i n) (get_or (readings ++ reading ∷ []) i r)
one_more P names readings k name reading len below is this those i n r under = by (nat_lt i k) refl
  where
    by : (t : Bool) → nat_lt i k ≡ t → P (get_or names i n) (get_or (readings ++ reading ∷ []) i r)
    by true low =
        let lt : i < k = grind (arith, nat_tests) in
        subst (P (get_or names i n)) (sym (get_or_append_left readings (reading ∷ []) r i (omega (arith, lt, len)))) (those i n r lt)
    by false high =
        let at : i ≡ k = grind (arith, nat_tests) in
        subst (λ j. P (get_or names j n) (get_or (readings ++ reading ∷ []) j r)) (sym at)
        (subst (P (get_or names k n)) (sym (get_or_push readings reading r k len)) (subst (λ m. P m reading) (is ∙ get_or_default names k name n below) this))

-- a list in its place
pub one_changed : (P : ListName → Reading → Type 0) (names : List ListName) (readings : List Reading) (k : ℕ) (name : ListName) (reading : Reading) → k < length readings → k < length names → name ≡ get_or names k name
    → P name reading → ((i : ℕ) (n : ListName) (r : Reading) → i < k → P (get_or names i n) (get_or readings i r))
    → (i : ℕ) (n : ListName) (r : Reading) → i < k + 1 → P (get_or names i n) (get_or (set readings k reading) i r)
one_changed P names readings k name reading inside below is this those i n r under = by (nat_lt i k) refl
  where
    by : (t : Bool) → nat_lt i k ≡ t → P (get_or names i n) (get_or (set readings k reading) i r)
    by true low =
        let lt : i < k = grind (arith, nat_tests) in
        subst (P (get_or names i n)) (sym (get_or-set_other readings k i reading r (omega (arith, lt)))) (those i n r lt)
    by false high =
        let at : i ≡ k = grind (arith, nat_tests) in
        subst (λ j. P (get_or names j n) (get_or (set readings k reading) j r)) (sym at)
        (subst (P (get_or names k n)) (sym (get_or-set_same readings k reading r inside)) (subst (λ m. P m reading) (is ∙ get_or_default names k name n below) this))

-- the lists behind it
pub others_kept : (P : ListName → Reading → Type 0) (names : List ListName) (readings : List Reading) (k : ℕ) (reading : Reading)
    → ((i : ℕ) (n : ListName) (r : Reading) → k ≤ i → i < length names → P (get_or names i n) (get_or readings i r))
    → (i : ℕ) (n : ListName) (r : Reading) → k + 1 ≤ i → i < length names → P (get_or names i n) (get_or (set readings k reading) i r)
others_kept P names readings k reading those i n r behind below =
    subst (P (get_or names i n)) (sym (get_or-set_other readings k i reading r (omega (arith, behind)))) (those i n r (omega (arith, behind)) below)
