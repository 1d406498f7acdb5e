-- The words of a method over a map agree with its mirror.
use Rattle.std.proofs.Common.{◌≡◌, ◌⊎◌, ℕ, ◌+◌, ◌-◌, ◌<◌, ◌≤◌, ◌&&◌, nat_le, nat_lt, Bool, true, false, if◌then◌else◌, List, length, take, drop, Option, Some, IfSome, OnOk, Result, Ok, Err, is_err, inl, inr, refl, sym, ap, subst, ◌∙◌, arith, min, length-drop}
use Rattle.std.proofs.lemmas.List.{length-take, take_min}
use Rattle.std.proofs.lemmas.Bool.{ltb-true, ltb-false, leb-true, leb-false}
use Rattle.acq_base.specs.declared.fetch.Answer.{Answer}
use Rattle.acq_base.specs.declared.fetch.Answer.TheVariants as answers
use Rattle.acq_base.specs.declared.fetch.NotServed.TheVariants as nots
use Rattle.acq_base.specs.Mirror.{MirrorMap, answer_at}
use Rattle.acq_base.specs.Fetch.{IsSoundAnswer}
use Rattle.acq_memory.specs.declared.failing.Failing.{Failing}
use Rattle.acq_outside.specs.declared.word.Fetch.{Fetch}
use Rattle.acq_outside.specs.declared.word.Word.{Word}
use Rattle.acq_outside.specs.declared.word.Word.TheVariants.{Piece, Done, Not, NoMemory}
use Rattle.acq_outside.specs.Word.{IsWord, IsPieceOf, IsSoundWord, IsWithinLimit, after_word, further}
use Rattle.acq_memory.specs.MapMethod.{CanGoOn, HasSoundAnswers, all_faults, next_word, word_of}
use Rattle.acq_memory.proofs.Worlds.{sound_answer}

-- what a file says is one of four words
served_cases : (P : Word → Type 0) (all : List ℕ) (fetch : Fetch)
    → (fetch.job.max < length all → P (Not nots.TooBig))
    → (length all ≤ fetch.job.max → 0 < fetch.job.from → length all ≤ fetch.job.from → P (Not (nots.Absent 416)))
    → (length all ≤ fetch.job.max → (fetch.job.from ≡ 0) ⊎ (fetch.job.from < length all) → length all ≤ fetch.at → P (Done fetch.at))
    → (length all ≤ fetch.job.max → fetch.at < length all → P (Piece fetch.at (take 65536 (drop fetch.at all))))
    → P (word_of (answers.Served all) fetch)
served_cases P all fetch big gone done piece = by_size (nat_lt fetch.job.max (length all)) refl
  where
    by_place : (b : Bool) → nat_le (length all) fetch.at ≡ b → length all ≤ fetch.job.max → (fetch.job.from ≡ 0) ⊎ (fetch.job.from < length all)
        → P (if b then Done fetch.at else Piece fetch.at (take 65536 (drop fetch.at all)))
    by_place true is small from = done small from (leb-true (length all) fetch.at is)
    by_place false is small from = piece small (leb-false (length all) fetch.at is)

    by_end : (b : Bool) → nat_le (length all) fetch.job.from ≡ b → 0 < fetch.job.from → length all ≤ fetch.job.max
        → P (if b then Not (nots.Absent 416) else if nat_le (length all) fetch.at then Done fetch.at else Piece fetch.at (take 65536 (drop fetch.at all)))
    by_end true is above small = gone small above (leb-true (length all) fetch.job.from is)
    by_end false is above small = by_place (nat_le (length all) fetch.at) refl small (inr (leb-false (length all) fetch.job.from is))

    by_from : (b : Bool) → nat_lt 0 fetch.job.from ≡ b → length all ≤ fetch.job.max
        → P (if b && nat_le (length all) fetch.job.from then Not (nots.Absent 416) else if nat_le (length all) fetch.at then Done fetch.at else Piece fetch.at (take 65536 (drop fetch.at all)))
    by_from true is small = by_end (nat_le (length all) fetch.job.from) refl (ltb-true 0 fetch.job.from is) small
    by_from false is small = by_place (nat_le (length all) fetch.at) refl small (inl (let none : fetch.job.from ≤ 0 = ltb-false 0 fetch.job.from is in omega arith))

    by_size : (b : Bool) → nat_lt fetch.job.max (length all) ≡ b
        → P (if b then Not nots.TooBig else if nat_lt 0 fetch.job.from && nat_le (length all) fetch.job.from then Not (nots.Absent 416) else if nat_le (length all) fetch.at then Done fetch.at else Piece fetch.at (take 65536 (drop fetch.at all)))
    by_size true is = big (ltb-true fetch.job.max (length all) is)
    by_size false is = by_from (nat_lt 0 fetch.job.from) refl (ltb-false fetch.job.max (length all) is)

-- how long a piece is
piece_size : (all : List ℕ) (at : ℕ) → length (take 65536 (drop at all)) ≡ min 65536 (length all - at)
piece_size all at = length-take 65536 (drop at all) ∙ ap (λ n. min 65536 n) (length-drop at all)

cut_again : (all : List ℕ) (n : ℕ) → take n all ≡ take (length (take n all)) all
cut_again all n = sym (ap (λ k. take k all) (length-take n all) ∙ take_min n all)

reaches : (at size len : ℕ) → size ≡ min 65536 (len - at) → at ≤ len → at + size ≤ len
reaches at size len is h = omega arith

nonempty : (at size len : ℕ) → size ≡ min 65536 (len - at) → at < len → 1 ≤ size
nonempty at size len is h = omega arith

small : (at size len : ℕ) → size ≡ min 65536 (len - at) → size ≤ 65536
small at size len is = omega arith

within : (at size len max : ℕ) → size ≡ min 65536 (len - at) → at < len → len ≤ max → at + size ≤ max
within at size len max is h room = omega arith

-- a fetch that ends stands at its file's end
ends : (at from len : ℕ) → (at ≤ len) ⊎ (at ≡ from) → (from ≡ 0) ⊎ (from < len) → len ≤ at → at ≡ len
ends at from len stands begins past = grind arith

served_word : (n : ℕ) (world : MirrorMap) (fetch : Fetch) (all : List ℕ) → answer_at world fetch.job.uri ≡ answers.Served all → CanGoOn (answers.Served all) fetch
    → IsWord n n (Some world) fetch (after_word fetch (word_of (answers.Served all) fetch)) (word_of (answers.Served all) fetch)
served_word n world fetch all is stands = served_cases (λ word. IsWord n n (Some world) fetch (after_word fetch word) word) all fetch
    (λ big. record { counted = refl; ended = refl; told = rw is big })
    (λ room above gone. record { counted = refl; ended = refl; told = rw is (refl, above, gone) })
    (λ room from past. let at : fetch.at ≡ length all = ends fetch.at fetch.job.from (length all) stands from past in
    record { quiet = refl; reached = refl; ended = refl; told = rw is (at, room, from) })
    (λ room more. let size = piece_size all fetch.at in
    record {
      quiet = refl;
      goes_on = refl;
      nonempty = nonempty fetch.at _ (length all) size more;
      small = small fetch.at _ (length all) size;
      within = within fetch.at _ (length all) fetch.job.max size more room;
      under_way = refl;
      told = rw is (cut_again (drop fetch.at all) 65536, reaches fetch.at _ (length all) size (omega arith));
    })

answered : (n : ℕ) (world : MirrorMap) (fetch : Fetch) (answer : Answer) → answer_at world fetch.job.uri ≡ answer → CanGoOn answer fetch → IsWord n n (Some world) fetch (after_word fetch (word_of answer fetch)) (word_of answer fetch)
answered n world fetch (answers.Served all) is stands = served_word n world fetch all is stands
answered n world fetch (answers.Moved place) is stands = record { counted = refl; ended = refl; told = rw is refl }
answered n world fetch (answers.Absent status) is stands = record { counted = refl; ended = refl; told = rw is refl }

-- what a method over a map says, unless it is without memory
pub record Says (world : MirrorMap) (fetch : Fetch) (word : Word) : Type 0 where
  pub is : (word ≡ NoMemory) ⊎ (word ≡ next_word world fetch)

mapped : (n : ℕ) (world : MirrorMap) (fetch : Fetch) (word : Word) → CanGoOn (answer_at world fetch.job.uri) fetch → (word ≡ NoMemory) ⊎ (word ≡ next_word world fetch)
    → IsWord n n (Some world) fetch (after_word fetch word) word
mapped n world fetch word stands (inl none) = rw none (record { counted = refl; ended = refl; told = tt })
mapped n world fetch word stands (inr is) = rw is (answered n world fetch (answer_at world fetch.job.uri) refl stands)

-- it agrees with its mirror
pub mapped_word : (n : ℕ) (world : MirrorMap) (fetch : Fetch) (under : Option Fetch) (word : Word) → CanGoOn (answer_at world fetch.job.uri) fetch → Says world fetch word → under ≡ after_word fetch word
    → IsWord n n (Some world) fetch under word
mapped_word n world fetch under word stands says behind = rw behind (mapped n world fetch word stands says.is)

sound_of : (answer : Answer) (fetch : Fetch) → IsSoundAnswer answer → IsSoundWord (word_of answer fetch)
sound_of (answers.Served all) fetch sound = served_cases IsSoundWord all fetch (λ big. tt) (λ room above gone. tt) (λ room from past. tt) (λ room more. tt)
sound_of (answers.Moved place) fetch sound = sound
sound_of (answers.Absent status) fetch sound = tt

pub mapped_sound : (world : MirrorMap) (fetch : Fetch) (word : Word) → HasSoundAnswers world → Says world fetch word → IsSoundWord word
mapped_sound world fetch word sound says = by says.is
  where
    by : (word ≡ NoMemory) ⊎ (word ≡ next_word world fetch) → IsSoundWord word
    by (inl none) = rw none tt
    by (inr is) = rw is (sound_of (answer_at world fetch.job.uri) fetch (sound_answer world fetch.job.uri (answer_at world fetch.job.uri) sound refl))

-- a piece stays within its job's limit
pub limit_of : (n : ℕ) (world : Option MirrorMap) (fetch : Fetch) (under : Option Fetch) (word : Word) → IsWord n n world fetch under word → IsWithinLimit fetch word
limit_of n world fetch under (Piece place bytes) is = is.within
limit_of n world fetch under (Done size) is = tt
limit_of n world fetch under (Not end) is = tt
limit_of n world fetch under NoMemory is = tt

stands_on : (answer : Answer) (fetch : Fetch) (bytes : List ℕ) → IsPieceOf answer fetch.at bytes → CanGoOn answer (further fetch (length bytes))
stands_on (answers.Served all) fetch bytes is = inl is.1
stands_on (answers.Moved place) fetch bytes is = tt
stands_on (answers.Absent status) fetch bytes is = tt

-- what is under way behind a word can go on
pub goes_on : (n : ℕ) (world : MirrorMap) (fetch : Fetch) (under : Option Fetch) (word : Word) → IsWord n n (Some world) fetch under word
    → IfSome under (λ later. CanGoOn (answer_at world later.job.uri) later)
goes_on n world fetch under (Piece place bytes) is = rw is.under_way (stands_on (answer_at world fetch.job.uri) fetch bytes is.told)
goes_on n world fetch under (Done size) is = rw is.ended tt
goes_on n world fetch under (Not end) is = rw is.ended tt
goes_on n world fetch under NoMemory is = rw is.ended tt

-- the same word, with values that are equal
pub same_word : (n m : ℕ) (world told : MirrorMap) (fetch job : Fetch) (under : Option Fetch) (word : Word) → m ≡ n → world ≡ told → fetch ≡ job → IsWord n n (Some world) fetch under word → IsWord n m (Some told) job under word
same_word n m world told fetch job under word counted same is said =
    let P : ℕ → Type 0 = λ k. IsWord n k (Some told) job under word in
    let Q : MirrorMap → Type 0 = λ entries. IsWord n n (Some entries) job under word in
    let R : Fetch → Type 0 = λ one. IsWord n n (Some world) one under word in
    subst P (sym counted) (subst Q same (subst R is said))

-- the word to the fetch that was under way
pub some_word : (n m : ℕ) (world told : MirrorMap) (fetch : Fetch) (was under : Option Fetch) (word : Word) → was ≡ Some fetch → m ≡ n → world ≡ told → IsWord n n (Some world) fetch under word
    → IfSome was (λ one. IsWord n m (Some told) one under word)
some_word n m world told fetch was under word is counted same said =
    let P : Option Fetch → Type 0 = λ one. IfSome one (λ job. IsWord n m (Some told) job under word) in
    subst P (sym is) (same_word n m world told fetch fetch under word counted same refl said)

pub quiet_of : {T E : Type 0} (result : Result T E) (inside called : Failing) → is_err result ≡ false → OnOk result (called.faults ≡ inside.faults) → called.faults ≡ inside.faults
quiet_of (Ok value) inside called ok quiet = quiet
quiet_of (Err error) inside called ok quiet = absurd cc

pub same_first : (before after other later : Failing) → after.faults ≡ before.faults → later ≡ other → all_faults after later ≡ all_faults before other
same_first before after other later quiet same = rw (quiet, same) refl

pub same_second : (before after other later : Failing) → after.faults ≡ before.faults → later ≡ other → all_faults later after ≡ all_faults other before
same_second before after other later quiet same = rw (quiet, same) refl
