-- What each function of a wire does, from what the functions that it calls do.
use Rattle.std.proofs.Common.{◌≡◌, ◌≢◌, ℕ, ◌<◌, Bool, true, false, List, [], ◌∷◌, ◌++◌, length, take, drop, get_or, arith, sym, ap, ◌∙◌, refl, subst, None}
use Rattle.httparse.specs.Grammar.{ResponseHead}
use Rattle.http_wire.specs.declared.ending.Response.TheVariants.{Served}
use Rattle.http_wire.specs.declared.ending.State.TheVariants as states
use Rattle.http_wire.specs.declared.phase.Phase.TheVariants as phases
use Rattle.http_wire.specs.declared.reading.HeadRead.{HeadRead}
use Rattle.http_wire.specs.declared.reading.SizeRead.{SizeRead}
use Rattle.http_wire.specs.declared.reading.TrailersRead.{TrailersRead}
use Rattle.http_wire.specs.Forms.{Whole, head_form}
use Rattle.http_wire.specs.Plain.{GoesPlain, IsPlain}
use Rattle.http_wire.specs.State.{WireState}
use Rattle.http_wire.specs.Wire.{Follows, wire_state}
use Rattle.http_wire.specs.Steps.{Moves, Closes, IsFront, IsEmptyLine, blank_passed, IsHeadRead, IsSizeRead, AreTrailersRead, stopped, cut_off, joined, settled, in_line, head_read, size_read, trailers_read, return_taken, feed_taken}
use Rattle.http_wire.proofs.HeadMoves.{head_front_read, head_line_read, head_line_plain, head_line_blank, head_line_return}
use Rattle.http_wire.proofs.LineMoves.{size_line_read, trailers_line_read, trailers_line_plain}
use Rattle.http_wire.proofs.Plain.{not_plain}
use Rattle.http_wire.proofs.Settling.{step_noted, step_unnoted}
use Rattle.http_wire.proofs.BodyMoves.{return_moves, feed_moves}

-- a step to an equal state
moves_to : (w v u : WireState) (took : List ℕ) → v ≡ u → Moves w u took → Moves w v took
moves_to w v u took is moves max from given bytes h = subst (λ z. Follows z max from given (bytes ++ took) false) (sym is) (moves max from given bytes h)

pub closes_to : (w v u : WireState) → v ≡ u → Closes w u → Closes w v
closes_to w v u is closes max from given bytes h = subst (λ z. Follows z max from given bytes true) (sym is) (closes max from given bytes h)

-- ---- lines

pub nothing_in : (l : List ℕ) → length l ≡ 0 → l ≡ []
nothing_in [] none = refl
nothing_in (byte ∷ l) none = absurd (omega (arith, none))

-- what a wire notes behind a step
abbrev Notes : WireState → WireState → Type 0
Notes v x = (named : Bool) × (valued : Bool) × IsPlain named valued v.part × (x ≡ settled named valued v)

pub head_takes : (passed : ℕ) (w s u v x : WireState) (front piece : List ℕ) (ends : Bool) → w.phase ≡ phases.Heads passed → w.ending ≡ None → IsFront ends front → piece ≡ front → s ≡ settled false false w → u ≡ joined piece s
    → (read : HeadRead) × IsHeadRead u.from u.part read × (v ≡ head_read passed read u) → Notes v x → Moves w x front
head_takes passed w s u v x front piece ends is none line same forgot joins r n =
    let f : WireState = settled false false w in
    let u_is : u ≡ joined front f = joins ∙ ap (λ z. joined z s) same ∙ ap (joined front) forgot in
    let read : IsHeadRead f.from (f.part ++ front) r.0 = subst (λ (z : WireState). IsHeadRead z.from z.part r.0) u_is r.1 in
    let moves : Moves f v front = moves_to f v (head_read passed r.0 (joined front f)) front (r.2 ∙ ap (head_read passed r.0) u_is) (head_line_read passed ends front r.0 f is none line (not_plain (f.part ++ front)) read) in
    moves_to w x (settled n.0 n.1 v) front n.3 (step_noted n.0 n.1 w v front moves n.2)

pub head_plain : (passed : ℕ) (w u v : WireState) (front piece : List ℕ) → w.phase ≡ phases.Heads passed → w.ending ≡ None → piece ≡ front → GoesPlain w.named w.valued piece → u ≡ joined piece w → v ≡ in_line 65536 u → Moves w v front
head_plain passed w u v front piece is none same on joins limits =
    moves_to w v (in_line 65536 (joined front w)) front (limits ∙ ap (in_line 65536) (joins ∙ ap (λ z. joined z w) same)) (head_line_plain passed front w is none (subst (GoesPlain w.named w.valued) same on))

pub head_ends : (passed : ℕ) (w u v : WireState) (front piece : List ℕ) → w.phase ≡ phases.Heads passed → w.ending ≡ None → w.part ≡ [] → piece ≡ front → u ≡ joined piece w → (h : ResponseHead) × Whole head_form front h []
    → (read : HeadRead) × IsHeadRead u.from u.part read × (v ≡ head_read passed read u) → Moves w v front
head_ends passed w u v front piece is none nothing same joins whole r =
    let u_is : u ≡ joined front w = joins ∙ ap (λ z. joined z w) same in
    let read : IsHeadRead w.from (w.part ++ front) r.0 = subst (λ (z : WireState). IsHeadRead z.from z.part r.0) u_is r.1 in
    let here : Whole head_form (w.part ++ front) whole.0 [] = subst (λ z. Whole head_form (z ++ front) whole.0 []) (sym nothing) whole.1 in
    moves_to w v (head_read passed r.0 (joined front w)) front (r.2 ∙ ap (head_read passed r.0) u_is) (head_front_read passed front whole.0 r.0 w is none here read)

pub head_passes : (passed : ℕ) (w s u v : WireState) (front piece : List ℕ) → w.phase ≡ phases.Heads passed → w.ending ≡ None → piece ≡ front → s ≡ settled false false w → u ≡ joined piece s → IsEmptyLine (drop u.blank u.part) → v ≡ in_line 65536 (blank_passed u) → Moves w v front
head_passes passed w s u v front piece is none same forgot joins empty passes =
    let f : WireState = settled false false w in
    let u_is : u ≡ joined front f = joins ∙ ap (λ z. joined z s) same ∙ ap (joined front) forgot in
    let line : IsEmptyLine (drop f.blank (f.part ++ front)) = subst (λ (z : WireState). IsEmptyLine (drop z.blank z.part)) u_is empty in
    step_unnoted w v front (moves_to f v (in_line 65536 (blank_passed (joined front f))) front (passes ∙ ap (λ z. in_line 65536 (blank_passed z)) u_is) (head_line_blank passed front f is none line (not_plain (f.part ++ front))))

pub head_returns : (passed : ℕ) (w s u v : WireState) (front piece : List ℕ) (ends : Bool) → w.phase ≡ phases.Heads passed → w.ending ≡ None → IsFront ends front → piece ≡ front → s ≡ settled false false w → u ≡ joined piece s → drop u.blank u.part ≡ 13 ∷ [] → v ≡ in_line 65536 u → Moves w v front
head_returns passed w s u v front piece ends is none line same forgot joins last limits =
    let f : WireState = settled false false w in
    let u_is : u ≡ joined front f = joins ∙ ap (λ z. joined z s) same ∙ ap (joined front) forgot in
    let stop : drop f.blank (f.part ++ front) ≡ 13 ∷ [] = subst (λ (z : WireState). drop z.blank z.part ≡ 13 ∷ []) u_is last in
    step_unnoted w v front (moves_to f v (in_line 65536 (joined front f)) front (limits ∙ ap (in_line 65536) u_is) (head_line_return passed ends front f is none line stop (not_plain (f.part ++ front))))

pub size_takes : (w u v : WireState) (front piece : List ℕ) (ends : Bool) → w.phase ≡ phases.SizeLine → w.ending ≡ None → IsFront ends front → piece ≡ front → u ≡ joined piece w
    → (read : SizeRead) × IsSizeRead u.part read × (v ≡ size_read read u) → Moves w v front
size_takes w u v front piece ends is none line same joins r =
    let u_is : u ≡ joined front w = joins ∙ ap (λ z. joined z w) same in
    let read : IsSizeRead (w.part ++ front) r.0 = subst (λ (z : WireState). IsSizeRead z.part r.0) u_is r.1 in
    moves_to w v (size_read r.0 (joined front w)) front (r.2 ∙ ap (size_read r.0) u_is) (size_line_read ends front r.0 w is none line read)

pub trailers_take : (w s u v x : WireState) (front piece : List ℕ) (ends : Bool) → w.phase ≡ phases.Trailing → w.ending ≡ None → IsFront ends front → piece ≡ front → s ≡ settled false false w → u ≡ joined piece s
    → (read : TrailersRead) × AreTrailersRead u.part read × (v ≡ trailers_read read u) → Notes v x → Moves w x front
trailers_take w s u v x front piece ends is none line same forgot joins r n =
    let f : WireState = settled false false w in
    let u_is : u ≡ joined front f = joins ∙ ap (λ z. joined z s) same ∙ ap (joined front) forgot in
    let read : AreTrailersRead (f.part ++ front) r.0 = subst (λ (z : WireState). AreTrailersRead z.part r.0) u_is r.1 in
    let moves : Moves f v front = moves_to f v (trailers_read r.0 (joined front f)) front (r.2 ∙ ap (trailers_read r.0) u_is) (trailers_line_read ends front r.0 f is none line (not_plain (f.part ++ front)) read) in
    moves_to w x (settled n.0 n.1 v) front n.3 (step_noted n.0 n.1 w v front moves n.2)

pub trailers_plain : (w u v : WireState) (front piece : List ℕ) → w.phase ≡ phases.Trailing → w.ending ≡ None → piece ≡ front → GoesPlain w.named w.valued piece → u ≡ joined piece w → v ≡ in_line 65536 u → Moves w v front
trailers_plain w u v front piece is none same on joins limits =
    moves_to w v (in_line 65536 (joined front w)) front (limits ∙ ap (in_line 65536) (joins ∙ ap (λ z. joined z w) same)) (trailers_line_plain front w is none (subst (GoesPlain w.named w.valued) same on))

-- ---- one byte

first_one : (xs : List ℕ) → 0 < length xs → get_or xs 0 0 ∷ [] ≡ take 1 xs
first_one [] some = absurd (omega arith)
first_one (x ∷ xs) some = refl

pub return_takes : (w v : WireState) (piece : List ℕ) → w.phase ≡ phases.ChunkCr → w.ending ≡ None → 0 < length piece → v ≡ return_taken (get_or piece 0 0) w → Moves w v (take 1 piece)
return_takes w v piece is none some same = moves_to w v (return_taken (get_or piece 0 0) w) (take 1 piece) same (subst (Moves w (return_taken (get_or piece 0 0) w)) (first_one piece some) (return_moves (get_or piece 0 0) w is none))

pub feed_takes : (w v : WireState) (piece : List ℕ) → w.phase ≡ phases.ChunkLf → w.ending ≡ None → 0 < length piece → v ≡ feed_taken (get_or piece 0 0) w → Moves w v (take 1 piece)
feed_takes w v piece is none some same = moves_to w v (feed_taken (get_or piece 0 0) w) (take 1 piece) same (subst (Moves w (feed_taken (get_or piece 0 0) w)) (first_one piece some) (feed_moves (get_or piece 0 0) w is none))

-- ---- the peer's end

-- a reading that was cut off is over

is_over : (v u : WireState) → v ≡ u → wire_state u ≢ states.More → wire_state v ≢ states.More
is_over v u is over more = over (sym (ap wire_state is) ∙ more)

pub cut_over : (w v : WireState) → v ≡ cut_off w → wire_state v ≢ states.More
cut_over w v is = is_over v (cut_off w) is (λ e. cc)

pub served_over : (w v : WireState) → v ≡ stopped (Served false) w → wire_state v ≢ states.More
served_over w v is = is_over v (stopped (Served false) w) is (λ e. cc)
