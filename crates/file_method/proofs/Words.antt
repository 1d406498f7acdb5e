-- The words of a method over a tree agree with the tree's mirror.
use Rattle.std.proofs.Common.{◌≡◌, ◌⊎◌, ℕ, ◌+◌, ◌-◌, ◌<◌, ◌≤◌, List, [], ◌∷◌, length, drop, length-drop, Option, Some, None, IfSome, option_map, unwrap_or, inl, inr, ⊎_elim, refl, sym, ap, subst, arith}
use Rattle.acq_base.specs.declared.uri.Uri.{Uri}
use Rattle.acq_base.specs.declared.uri.Scheme.TheVariants.{Http, File}
use Rattle.acq_base.specs.declared.fetch.Job.{Job}
use Rattle.acq_base.specs.declared.fetch.Answer.{Answer}
use Rattle.acq_base.specs.declared.fetch.NotServed.TheVariants as nots
use Rattle.acq_base.specs.declared.fetch.Reply.TheVariants as replies
use Rattle.acq_base.specs.Mirror.{answer_at}
use Rattle.acq_base.specs.Uri.{IsSound}
use Rattle.acq_outside.specs.Tree.{TreeFiles, file_at}
use Rattle.acq_outside.specs.declared.word.Fetch.{Fetch}
use Rattle.acq_outside.specs.declared.word.Word.{Word}
use Rattle.acq_outside.specs.declared.word.Word.TheVariants.{Not}
use Rattle.acq_outside.specs.Word.{HasSize, IsPieceOf, IsWord, IsReplyOf, after_word, begun}
use Rattle.file_method.specs.TreeMirror.{file_uri, mirror_of}
use Rattle.file_method.specs.FileMethod.{FileState, IsFetchOf, world_of}
use Rattle.file_method.specs.Piece.{IsPart, word_of}
use Rattle.file_method.proofs.Mirrored.{answer_of, answered, elsewhere, is_file_uri}

-- what holds of the file at a URI's path holds of the mirror's answer there
at_path : (P : Answer → Type 0) (all : TreeFiles) (uri : Uri) → uri ≡ file_uri uri.path → P (answer_of (file_at all uri.path)) → P (answer_at (mirror_of all) uri)
at_path P all uri is holds = subst P (sym (answered all uri is)) holds

size_is : (bytes : List ℕ) (size : ℕ) → ◌≡◌ {A = Option ℕ} (Some (length bytes)) (Some size) → length bytes ≡ size
size_is bytes size is = ap (λ (one : Option ℕ). unwrap_or one 0) is

reaches : (at n len size rest : ℕ) → len ≡ size → at ≤ size → rest ≡ len - at → n ≤ rest → at + n ≤ len
reaches at n len size rest same within left fits = omega arith

piece_in : (content : Option (List ℕ)) (at most size : ℕ) (bytes : List ℕ) → option_map length content ≡ Some size → at ≤ size → IsPart content at most bytes → IsPieceOf (answer_of content) at bytes
piece_in None at most size bytes is within part = absurd cc
piece_in (Some all) at most size bytes is within part = (part.bytes_are, reaches at (length bytes) (length all) size _ (size_is all size is) within (length-drop at all) part.within)

end_is : (at len size rest : ℕ) → len ≡ size → at ≤ size → rest ≡ len - at → (size - at ≡ 0) ⊎ (rest ≡ 0) → at ≡ len
end_is at len size rest same within left (inl none) = omega arith
end_is at len size rest same within left (inr none) = omega arith

no_rest : (most : ℕ) (rest : List ℕ) → (most ≡ 0) ⊎ (rest ≡ []) → (most ≡ 0) ⊎ (length rest ≡ 0)
no_rest most rest (inl none) = inl none
no_rest most rest (inr none) = inr (ap length none)

end_of : (content : Option (List ℕ)) (job : Job) (at size : ℕ) → option_map length content ≡ Some size → at ≤ size → size ≤ job.max → (job.from ≡ 0) ⊎ (job.from < size)
    → IsPart content at (size - at) [] → HasSize (answer_of content) job at
end_of None job at size is within small begins part = absurd cc
end_of (Some all) job at size is within small begins part =
    let same : length all ≡ size = size_is all size is in
    let ended : at ≡ length all = end_is at (length all) size (length (drop at all)) same within (length-drop at all) (no_rest (size - at) (drop at all) (part.ends refl)) in
    (ended, omega arith, ⊎_elim (λ (none : job.from ≡ 0). inl none) (λ (some : job.from < size). inr (omega arith)) begins)

told_piece : (files : Option TreeFiles) (size : ℕ) (fetch : Fetch) (bytes : List ℕ) → IsFetchOf files size fetch
    → IfSome files (λ all. IsPart (file_at all fetch.job.uri.path) fetch.at (size - fetch.at) bytes) → IfSome (world_of files) (λ entries. IsPieceOf (answer_at entries fetch.job.uri) fetch.at bytes)
told_piece None size fetch bytes is part = tt
told_piece (Some all) size fetch bytes is part =
    at_path (λ answer. IsPieceOf answer fetch.at bytes) all fetch.job.uri is.uri (piece_in (file_at all fetch.job.uri.path) fetch.at (size - fetch.at) size bytes is.told is.within part)

told_end : (files : Option TreeFiles) (size : ℕ) (fetch : Fetch) → IsFetchOf files size fetch
    → IfSome files (λ all. IsPart (file_at all fetch.job.uri.path) fetch.at (size - fetch.at) []) → IfSome (world_of files) (λ entries. HasSize (answer_at entries fetch.job.uri) fetch.job fetch.at)
told_end None size fetch is part = tt
told_end (Some all) size fetch is part =
    at_path (λ answer. HasSize answer fetch.job fetch.at) all fetch.job.uri is.uri (end_of (file_at all fetch.job.uri.path) fetch.job fetch.at size is.told is.within is.small is.begins part)

fits : (at n size max : ℕ) → at ≤ size → size ≤ max → n ≤ size - at → at + n ≤ max
fits at n size max within small short = omega arith

-- what was read is said
pub read_word : (n : ℕ) (files : Option TreeFiles) (size : ℕ) (fetch : Fetch) (bytes : List ℕ) → IsFetchOf files size fetch → length bytes ≤ 65536 → length bytes ≤ size - fetch.at
    → IfSome files (λ all. IsPart (file_at all fetch.job.uri.path) fetch.at (size - fetch.at) bytes)
    → IsWord n n (world_of files) fetch (after_word fetch (word_of fetch.at bytes)) (word_of fetch.at bytes)
read_word n files size fetch [] is small short part = record { quiet = refl; reached = refl; ended = refl; told = told_end files size fetch is part }
read_word n files size fetch (byte ∷ bytes) is small short part = record {
  quiet = refl;
  goes_on = refl;
  nonempty = omega arith;
  small = small;
  within = fits fetch.at _ size fetch.job.max is.within is.small short;
  under_way = refl;
  told = told_piece files size fetch (byte ∷ bytes) is part;
}

-- the file is longer than the job's limit
pub long_word : (n size : ℕ) (files : Option TreeFiles) (job : Job) → IsSound job.uri → job.uri.scheme ≡ File → job.max < size → IfSome files (λ all. option_map length (file_at all job.uri.path) ≡ Some size)
    → IsWord n n (world_of files) (begun job) None (Not nots.TooBig)
long_word n size files job sound file long is = record { counted = refl; ended = refl; told = by files is }
  where
    of : (content : Option (List ℕ)) → option_map length content ≡ Some size → IsReplyOf (answer_of content) job (replies.Not nots.TooBig)
    of None none = absurd cc
    of (Some all) same = let len : length all ≡ size = size_is all size same in omega arith

    by : (files : Option TreeFiles) → IfSome files (λ all. option_map length (file_at all job.uri.path) ≡ Some size) → IfSome (world_of files) (λ entries. IsReplyOf (answer_at entries job.uri) job (replies.Not nots.TooBig))
    by None is = tt
    by (Some all) is = at_path (λ answer. IsReplyOf answer job (replies.Not nots.TooBig)) all job.uri (is_file_uri job.uri sound file) (of (file_at all job.uri.path) is)

-- the file ends within what the job leaves out
pub short_word : (n size : ℕ) (files : Option TreeFiles) (job : Job) → IsSound job.uri → job.uri.scheme ≡ File → 0 < job.from → size ≤ job.from
    → IfSome files (λ all. option_map length (file_at all job.uri.path) ≡ Some size) → IsWord n n (world_of files) (begun job) None (Not (nots.Absent 416))
short_word n size files job sound file some short is = record { counted = refl; ended = refl; told = by files is }
  where
    of : (content : Option (List ℕ)) → option_map length content ≡ Some size → IsReplyOf (answer_of content) job (replies.Not (nots.Absent 416))
    of None none = absurd cc
    of (Some all) same = let len : length all ≡ size = size_is all size same in (refl, some, omega arith)

    by : (files : Option TreeFiles) → IfSome files (λ all. option_map length (file_at all job.uri.path) ≡ Some size)
        → IfSome (world_of files) (λ entries. IsReplyOf (answer_at entries job.uri) job (replies.Not (nots.Absent 416)))
    by None is = tt
    by (Some all) is = at_path (λ answer. IsReplyOf answer job (replies.Not (nots.Absent 416))) all job.uri (is_file_uri job.uri sound file) (of (file_at all job.uri.path) is)

-- there is no such file
pub absent_word : (n : ℕ) (files : Option TreeFiles) (job : Job) → IsSound job.uri → job.uri.scheme ≡ File → IfSome files (λ all. None ≡ option_map length (file_at all job.uri.path))
    → IsWord n n (world_of files) (begun job) None (Not (nots.Absent 404))
absent_word n files job sound file is = record { counted = refl; ended = refl; told = by files is }
  where
    of : (content : Option (List ℕ)) → None ≡ option_map length content → IsReplyOf (answer_of content) job (replies.Not (nots.Absent 404))
    of None none = refl
    of (Some all) same = absurd cc

    by : (files : Option TreeFiles) → IfSome files (λ all. None ≡ option_map length (file_at all job.uri.path)) → IfSome (world_of files) (λ entries. IsReplyOf (answer_at entries job.uri) job (replies.Not (nots.Absent 404)))
    by None is = tt
    by (Some all) is = at_path (λ answer. IsReplyOf answer job (replies.Not (nots.Absent 404))) all job.uri (is_file_uri job.uri sound file) (of (file_at all job.uri.path) is)

-- there is nothing of another scheme
pub elsewhere_word : (n : ℕ) (files : Option TreeFiles) (job : Job) → job.uri.scheme ≡ Http → IsWord n n (world_of files) (begun job) None (Not (nots.Absent 404))
elsewhere_word n files job other = record { counted = refl; ended = refl; told = by files }
  where
    by : (files : Option TreeFiles) → IfSome (world_of files) (λ entries. IsReplyOf (answer_at entries job.uri) job (replies.Not (nots.Absent 404)))
    by None = tt
    by (Some all) = let P : Answer → Type 0 = λ answer. IsReplyOf answer job (replies.Not (nots.Absent 404)) in subst P (sym (elsewhere all job.uri other)) refl

-- a word after which nothing is under way, with values that are equal
pub idle_word : (n m : ℕ) (files : Option TreeFiles) (fetch : Fetch) (under : Option Fetch) (word : Word) → m ≡ n → under ≡ None → IsWord n n (world_of files) fetch None word → IsWord n m (world_of files) fetch under word
idle_word n m files fetch under word counted idle is =
    let P : ℕ → Type 0 = λ k. IsWord n k (world_of files) fetch under word in
    let Q : Option Fetch → Type 0 = λ one. IsWord n n (world_of files) fetch one word in
    subst P (sym counted) (subst Q (sym idle) is)

pub absent_said : (n m : ℕ) (files seen : Option TreeFiles) (job : Job) (under : Option Fetch) (size : Option ℕ) → m ≡ n → under ≡ None → seen ≡ files → size ≡ None → IsSound job.uri → job.uri.scheme ≡ File
    → IfSome seen (λ all. size ≡ option_map length (file_at all job.uri.path)) → IsWord n m (world_of files) (begun job) under (Not (nots.Absent 404))
absent_said n m files seen job under size counted idle same none sound file is =
    let P : Option TreeFiles → Type 0 = λ one. IfSome one (λ all. size ≡ option_map length (file_at all job.uri.path)) in
    let Q : Option ℕ → Type 0 = λ given. IfSome files (λ all. given ≡ option_map length (file_at all job.uri.path)) in
    idle_word n m files (begun job) under (Not (nots.Absent 404)) counted idle (absent_word n files job sound file (subst Q none (subst P same is)))

pub said : (n m left size : ℕ) (files seen : Option TreeFiles) (fetch : Fetch) (bytes : List ℕ) (word : Word) → m ≡ n → seen ≡ files → left ≡ size - fetch.at → word ≡ word_of fetch.at bytes → IsFetchOf files size fetch
    → length bytes ≤ 65536 → length bytes ≤ left → IfSome seen (λ all. IsPart (file_at all fetch.job.uri.path) fetch.at left bytes) → IsWord n m (world_of files) fetch (after_word fetch word) word
said n m left size files seen fetch bytes word counted same rest says is small short part =
    let P : Word → Type 0 = λ one. IsWord n m (world_of files) fetch (after_word fetch one) one in
    let Q : ℕ → Type 0 = λ k. IsWord n k (world_of files) fetch (after_word fetch (word_of fetch.at bytes)) (word_of fetch.at bytes) in
    let R : Option TreeFiles → Type 0 = λ one. IfSome one (λ all. IsPart (file_at all fetch.job.uri.path) fetch.at left bytes) in
    let S : ℕ → Type 0 = λ k. IfSome files (λ all. IsPart (file_at all fetch.job.uri.path) fetch.at k bytes) in
    subst P (sym says) (subst Q (sym counted) (read_word n files size fetch bytes is small (omega arith) (subst S rest (subst R same part))))

-- what is equal in two equal states
pub faults_same : {T : Type 0} {a b : FileState T} → a ≡ b → a.faults ≡ b.faults
faults_same is = ap (λ (method : FileState _). method.faults) is

pub under_same : {T : Type 0} {a b : FileState T} → a ≡ b → a.under ≡ b.under
under_same is = ap (λ (method : FileState _). method.under) is

pub left_same : {T : Type 0} {a b : FileState T} (at : ℕ) → a ≡ b → a.size - at ≡ b.size - at
left_same at is = ap (λ (method : FileState _). method.size - at) is

pub files_same : {T : Type 0} (files : T → Option TreeFiles) {a b : FileState T} → a ≡ b → files a.tree ≡ files b.tree
files_same files is = ap (λ (method : FileState _). files method.tree) is
