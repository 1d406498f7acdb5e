-- How a wire takes the bytes of bodies.
use Rattle.std.proofs.Common.{◌≡◌, ◌≢◌, ℕ, suc, ◌+◌, ◌-◌, ◌<◌, ◌≤◌, inl, inr, Bool, true, false, List, [], ◌∷◌, ◌++◌, length, take, arith, sym, ap, ◌∙◌, refl, subst, append_assoc, append-nil, length-append, length-take, Some, None, nat_lt}
use Rattle.std.specs.Prelude.{◌==◌, if◌then◌else◌}
use Rattle.std.proofs.lemmas.Bool.Decides.{nat_tests}
use Rattle.http_wire.specs.declared.ending.Response.TheVariants.{Served, TooBig, Garbled}
use Rattle.http_wire.specs.declared.phase.Phase.TheVariants as phases
use Rattle.http_wire.specs.Stream.{Heads, Counted, Unbounded, SizeLine, Chunk, Closing, hear, capped, garbled_at, NeverCloses, Leads}
use Rattle.http_wire.specs.State.{WireState}
use Rattle.http_wire.specs.Wire.{Stands, GoesOn, HasEnded, Follows, InReach}
use Rattle.http_wire.specs.Steps.{Moves, stopped, garbled, marked, counted, sized_taken, free_taken, chunk_taken, return_taken, feed_taken}
use Rattle.http_wire.proofs.Decided.{leads_more, leads_on}
use Rattle.http_wire.proofs.Begins.{no_size_yet}
use Rattle.http_wire.proofs.Moving.{count_more, place_more, place_here, going, goes, stops_at, stands_at}

is_equal : (a b : ℕ) → (a == b) ≡ true → a ≡ b
is_equal a b test = grind (arith, nat_tests)

isnt_equal : (a b : ℕ) → (a == b) ≡ false → a ≢ b
isnt_equal a b test = grind (arith, nat_tests)

is_less : (a b : ℕ) → nat_lt a b ≡ true → a < b
is_less a b test = grind (arith, nat_tests)

isnt_less : (a b : ℕ) → nat_lt a b ≡ false → b ≤ a
isnt_less a b test = grind (arith, nat_tests)

-- ---- a body of a known size

sized_by : (left : ℕ) (front : List ℕ) (w : WireState) → w.phase ≡ phases.Counted left → w.ending ≡ None → length front ≤ left → (max from : ℕ) (given bytes : List ℕ) → Follows w max from given bytes false → GoesOn w given bytes → (t : Bool) → (left == length front) ≡ t
    → Follows (if t then stopped (Served w.keep) (record w { body = w.body ++ front; count = capped (w.count + length front); phase = phases.Counted (left - length front) }) else record w { body = w.body ++ front; count = capped (w.count + length front); phase = phases.Counted (left - length front) }) max from given (bytes ++ front) false
sized_by left front w is none fits max from given bytes h g true test =
    let s = stands_at w given bytes (phases.Counted left) is g in
    let size = length (given ++ w.body) + left in
    let same : g.text ++ front ≡ (given ++ w.body) ++ front = ap (λ z. z ++ front) s.1 in
    let e = is_equal left (length front) test in
    let a = length-append (given ++ w.body) front in
    let whole : length ((given ++ w.body) ++ front) ≡ size = omega (arith, a, e) in
    let v : WireState = record w { body = w.body ++ front; count = capped (w.count + length front); phase = phases.Counted (left - length front) } in
    stops_at (stopped (Served w.keep) v) max from given (bytes ++ front) false (Served w.keep) h.max_is h.from_is refl (record {
      heard = hear (Some (Served w.keep)) w.start ((given ++ w.body) ++ front) [];
      is = record {
        parts = g.parts;
        stage = Counted w.start w.keep size;
        text = g.text ++ front;
        leads = leads_more w.max w.from g.parts (Heads 0) bytes (Counted w.start w.keep size) g.text front (subst (λ z. Leads w.max w.from g.parts (Heads 0) bytes z g.text) s.0 g.leads);
        stops = inr ((given ++ w.body) ++ front, [], whole, same ∙ sym (append-nil ((given ++ w.body) ++ front)), refl);
      };
      ending = refl;
      start = refl;
      holds = (append_assoc given w.body front, refl);
    })
sized_by left front w is none fits max from given bytes h g false test =
    let s = stands_at w given bytes (phases.Counted left) is g in
    let n = isnt_equal left (length front) test in
    let a = length-append given (w.body ++ front) in
    let b = length-append w.body front in
    let d = length-append given w.body in
    let some = s.2 in
    let size : length (given ++ w.body) + left ≡ length (given ++ (w.body ++ front)) + (left - length front) = omega (arith, a, b, d, fits) in
    let v : WireState = record w { body = w.body ++ front; count = capped (w.count + length front); phase = phases.Counted (left - length front) } in
    goes v max from given (bytes ++ front) h.max_is h.from_is none (record {
      parts = g.parts;
      stage = g.stage;
      text = g.text ++ front;
      leads = leads_more w.max w.from g.parts (Heads 0) bytes g.stage g.text front g.leads;
      stands = (s.0 ∙ ap (Counted w.start w.keep) size, ap (λ z. z ++ front) s.1 ∙ append_assoc given w.body front, (let z : 0 < left - length front = omega (arith, n, fits) in z));
      count = count_more w.count bytes front g.count;
      place = place_more w.place bytes g.text front g.place;
    })

pub sized_moves : (left : ℕ) (front : List ℕ) (w : WireState) → w.phase ≡ phases.Counted left → w.ending ≡ None → length front ≤ left → Moves w (sized_taken left front w) front
sized_moves left front w is none fits max from given bytes h =
    sized_by left front w is none fits max from given bytes h (going w max from given bytes none h) (left == length front) refl

-- ---- a body that ends with the connection

free_by : (front : List ℕ) (w : WireState) → w.phase ≡ phases.Unbounded → w.ending ≡ None → (max from : ℕ) (given bytes : List ℕ) → Follows w max from given bytes false → GoesOn w given bytes → (t : Bool) → nat_lt (w.max - w.reached) (length front) ≡ t
    → Follows (if t then stopped TooBig w else record w { body = w.body ++ front; count = capped (w.count + length front); reached = w.reached + length front }) max from given (bytes ++ front) false
free_by front w is none max from given bytes h g true test =
    let s = stands_at w given bytes phases.Unbounded is g in
    let over = is_less (w.max - w.reached) (length front) test in
    let reach = s.2.is in
    let inside = s.2.within in
    let a = length-append g.text front in
    let b : length g.text ≡ length (given ++ w.body) = ap length s.1 in
    let big : w.max < w.start + length (g.text ++ front) = omega (arith, over, reach, inside, a, b) in
    stops_at (stopped TooBig w) max from given (bytes ++ front) false TooBig h.max_is h.from_is refl (record {
      heard = hear (Some TooBig) w.start [] (g.text ++ front);
      is = record {
        parts = g.parts;
        stage = Unbounded w.start;
        text = g.text ++ front;
        leads = leads_more w.max w.from g.parts (Heads 0) bytes (Unbounded w.start) g.text front (subst (λ z. Leads w.max w.from g.parts (Heads 0) bytes z g.text) s.0 g.leads);
        stops = inl (big, refl);
      };
      ending = refl;
      start = refl;
      holds = tt;
    })
free_by front w is none max from given bytes h g false test =
    let s = stands_at w given bytes phases.Unbounded is g in
    let few = isnt_less (w.max - w.reached) (length front) test in
    let reach = s.2.is in
    let inside = s.2.within in
    let a = length-append given (w.body ++ front) in
    let b = length-append w.body front in
    let d = length-append given w.body in
    let v : WireState = record w { body = w.body ++ front; count = capped (w.count + length front); reached = w.reached + length front } in
    goes v max from given (bytes ++ front) h.max_is h.from_is none (record {
      parts = g.parts;
      stage = g.stage;
      text = g.text ++ front;
      leads = leads_more w.max w.from g.parts (Heads 0) bytes g.stage g.text front g.leads;
      stands = subst (λ p. Stands p v given g.stage (g.text ++ front)) (sym is) (
        s.0,
        ap (λ z. z ++ front) s.1 ∙ append_assoc given w.body front,
        record {
          is = (let z : w.reached + length front ≡ w.start + length (given ++ (w.body ++ front)) = omega (arith, reach, a, b, d) in z);
          within = (let z : w.reached + length front ≤ w.max = omega (arith, few, inside) in z);
        },
      );
      count = count_more w.count bytes front g.count;
      place = place_more w.place bytes g.text front g.place;
    })

pub free_moves : (front : List ℕ) (w : WireState) → w.phase ≡ phases.Unbounded → w.ending ≡ None → Moves w (free_taken front w) front
free_moves front w is none max from given bytes h =
    free_by front w is none max from given bytes h (going w max from given bytes none h) (nat_lt (w.max - w.reached) (length front)) refl

-- ---- chunks

abbrev taken_so : ℕ → List ℕ → WireState → WireState
taken_so left front w = record w { body = w.body ++ front; count = capped (w.count + length front); reached = w.reached + length front; phase = phases.Chunk (left - length front) }

reach_more : (w : WireState) (given front : List ℕ) → InReach w given → length front ≤ w.max - w.reached → (w.reached + length front ≡ w.start + length (given ++ (w.body ++ front))) × (w.reached + length front ≤ w.max)
reach_more w given front r few =
    let reach = r.is in
    let inside = r.within in
    let a = length-append given (w.body ++ front) in
    let b = length-append w.body front in
    let d = length-append given w.body in
    (omega (arith, reach, a, b, d), omega (arith, few, inside))

whole_chunk : (left : ℕ) (front : List ℕ) (w : WireState) → w.phase ≡ phases.Chunk left → w.ending ≡ None → (max from : ℕ) (given bytes : List ℕ) → Follows w max from given bytes false → GoesOn w given bytes → length front ≤ w.max - w.reached → left ≡ length front
    → Follows (marked phases.ChunkCr (taken_so left front w)) max from given (bytes ++ front) false
whole_chunk left front w is none max from given bytes h g few e =
    let s = stands_at w given bytes (phases.Chunk left) is g in
    let size = length g.text + left in
    let reach = s.4.is in
    let inside = s.4.within in
    let a = length-append g.text front in
    let b : length (given ++ w.body) ≡ length (s.0 ++ g.text) = ap length s.2 in
    let d = length-append s.0 g.text in
    let here = leads_more w.max w.from g.parts (Heads 0) bytes (Chunk w.start w.keep s.0 size) g.text front (subst (λ z. Leads w.max w.from g.parts (Heads 0) bytes z g.text) s.1 g.leads) in
    let v = marked phases.ChunkCr (taken_so left front w) in
    let more = reach_more w given front s.4 few in
    let same : s.0 ++ (g.text ++ front) ≡ given ++ (w.body ++ front) = sym (append_assoc s.0 g.text front) ∙ ap (λ z. z ++ front) (sym s.2) ∙ append_assoc given w.body front in
    goes v max from given (bytes ++ front) h.max_is h.from_is none (record {
      parts = suc g.parts;
      stage = Closing w.start w.keep (s.0 ++ (g.text ++ front));
      text = [];
      leads = leads_on w.max w.from g.parts (Heads 0) (bytes ++ front) (Chunk w.start w.keep s.0 size) (Closing w.start w.keep (s.0 ++ (g.text ++ front))) (g.text ++ front) [] here
          (g.text ++ front, (let z : length (g.text ++ front) ≡ size = omega (arith, a, e) in z), sym (append-nil (g.text ++ front)), (let z : w.start + length s.0 + size ≤ w.max = omega (arith, reach, inside, few, e, b, d) in z), refl);
      stands = (ap (Closing w.start w.keep) same, refl, record { is = more.0; within = more.1 });
      count = count_more w.count bytes front g.count;
      place = place_here (capped (w.count + length front)) (bytes ++ front) (count_more w.count bytes front g.count);
    })

part_chunk : (left : ℕ) (front : List ℕ) (w : WireState) → w.phase ≡ phases.Chunk left → w.ending ≡ None → length front ≤ left → (max from : ℕ) (given bytes : List ℕ) → Follows w max from given bytes false → GoesOn w given bytes → length front ≤ w.max - w.reached → left ≢ length front
    → Follows (taken_so left front w) max from given (bytes ++ front) false
part_chunk left front w is none fits max from given bytes h g few n =
    let s = stands_at w given bytes (phases.Chunk left) is g in
    let a = length-append g.text front in
    let more = reach_more w given front s.4 few in
    let size : length g.text + left ≡ length (g.text ++ front) + (left - length front) = omega (arith, a, fits) in
    goes (taken_so left front w) max from given (bytes ++ front) h.max_is h.from_is none (record {
      parts = g.parts;
      stage = g.stage;
      text = g.text ++ front;
      leads = leads_more w.max w.from g.parts (Heads 0) bytes g.stage g.text front g.leads;
      stands = (
        s.0,
        s.1 ∙ ap (Chunk w.start w.keep s.0) size,
        sym (append_assoc given w.body front) ∙ ap (λ z. z ++ front) s.2 ∙ append_assoc s.0 g.text front,
        (let z : 0 < left - length front = omega (arith, n, fits) in z),
        record { is = more.0; within = more.1 },
      );
      count = count_more w.count bytes front g.count;
      place = place_more w.place bytes g.text front g.place;
    })

big_chunk : (left : ℕ) (front : List ℕ) (w : WireState) → w.phase ≡ phases.Chunk left → w.ending ≡ None → length front ≤ left → (max from : ℕ) (given bytes : List ℕ) → Follows w max from given bytes false → GoesOn w given bytes → w.max - w.reached < length front
    → Follows (stopped TooBig w) max from given (bytes ++ front) false
big_chunk left front w is none fits max from given bytes h g over =
    let s = stands_at w given bytes (phases.Chunk left) is g in
    let size = length g.text + left in
    let reach = s.4.is in
    let inside = s.4.within in
    let a = length-append g.text front in
    let b : length (given ++ w.body) ≡ length (s.0 ++ g.text) = ap length s.2 in
    let d = length-append s.0 g.text in
    let t = length-take size (g.text ++ front) in
    let big : w.max < w.start + length s.0 + length (take size (g.text ++ front)) = omega (arith, over, reach, inside, a, b, d, t, fits) in
    stops_at (stopped TooBig w) max from given (bytes ++ front) false TooBig h.max_is h.from_is refl (record {
      heard = hear (Some TooBig) w.start [] (g.text ++ front);
      is = record {
        parts = g.parts;
        stage = Chunk w.start w.keep s.0 size;
        text = g.text ++ front;
        leads = leads_more w.max w.from g.parts (Heads 0) bytes (Chunk w.start w.keep s.0 size) g.text front (subst (λ z. Leads w.max w.from g.parts (Heads 0) bytes z g.text) s.1 g.leads);
        stops = inl (big, refl);
      };
      ending = refl;
      start = refl;
      holds = tt;
    })

chunk_by : (left : ℕ) (front : List ℕ) (w : WireState) → w.phase ≡ phases.Chunk left → w.ending ≡ None → length front ≤ left → (max from : ℕ) (given bytes : List ℕ) → Follows w max from given bytes false → GoesOn w given bytes → (t u : Bool) → nat_lt (w.max - w.reached) (length front) ≡ t → (left == length front) ≡ u
    → Follows (if t then stopped TooBig w else (if u then marked phases.ChunkCr (taken_so left front w) else taken_so left front w)) max from given (bytes ++ front) false
chunk_by left front w is none fits max from given bytes h g true u test same = big_chunk left front w is none fits max from given bytes h g (is_less (w.max - w.reached) (length front) test)
chunk_by left front w is none fits max from given bytes h g false true test same = whole_chunk left front w is none max from given bytes h g (isnt_less (w.max - w.reached) (length front) test) (is_equal left (length front) same)
chunk_by left front w is none fits max from given bytes h g false false test same = part_chunk left front w is none fits max from given bytes h g (isnt_less (w.max - w.reached) (length front) test) (isnt_equal left (length front) same)

pub chunk_moves : (left : ℕ) (front : List ℕ) (w : WireState) → w.phase ≡ phases.Chunk left → w.ending ≡ None → length front ≤ left → Moves w (chunk_taken left front w) front
chunk_moves left front w is none fits max from given bytes h =
    chunk_by left front w is none fits max from given bytes h (going w max from given bytes none h) (nat_lt (w.max - w.reached) (length front)) (left == length front) refl refl

-- ---- the end of a line behind a chunk

-- what stands behind a chunk is no end of a line
no_close : (w : WireState) (given bytes front : List ℕ) → (g : GoesOn w given bytes) → g.stage ≡ Closing w.start w.keep (given ++ w.body) → NeverCloses (g.text ++ front) → HasEnded (Garbled w.place) (garbled w) given (bytes ++ front) false
no_close w given bytes front g at never = record {
  heard = hear (garbled_at (length (bytes ++ front)) (g.text ++ front)) w.start (given ++ w.body) (g.text ++ front);
  is = record {
    parts = g.parts;
    stage = Closing w.start w.keep (given ++ w.body);
    text = g.text ++ front;
    leads = leads_more w.max w.from g.parts (Heads 0) bytes (Closing w.start w.keep (given ++ w.body)) g.text front (subst (λ z. Leads w.max w.from g.parts (Heads 0) bytes z g.text) at g.leads);
    stops = inr (never, refl);
  };
  ending = ap (λ n. Some (Garbled n)) (sym (place_more w.place bytes g.text front g.place));
  start = refl;
  holds = refl;
}

return_by : (b : ℕ) (w : WireState) → w.phase ≡ phases.ChunkCr → w.ending ≡ None → (max from : ℕ) (given bytes : List ℕ) → Follows w max from given bytes false → GoesOn w given bytes → (t : Bool) → (b == 13) ≡ t
    → Follows (if t then record w { count = capped (w.count + 1); phase = phases.ChunkLf } else garbled w) max from given (bytes ++ b ∷ []) false
return_by b w is none max from given bytes h g true test =
    let s = stands_at w given bytes phases.ChunkCr is g in
    let e = is_equal b 13 test in
    let v : WireState = record w { count = capped (w.count + 1); phase = phases.ChunkLf } in
    goes v max from given (bytes ++ b ∷ []) h.max_is h.from_is none (record {
      parts = g.parts;
      stage = g.stage;
      text = g.text ++ b ∷ [];
      leads = leads_more w.max w.from g.parts (Heads 0) bytes g.stage g.text (b ∷ []) g.leads;
      stands = (s.0, ap (λ z. z ++ b ∷ []) s.1 ∙ ap (λ z. z ∷ []) e, record { is = s.2.is; within = s.2.within });
      count = count_more w.count bytes (b ∷ []) g.count;
      place = place_more w.place bytes g.text (b ∷ []) g.place;
    })
return_by b w is none max from given bytes h g false test =
    let s = stands_at w given bytes phases.ChunkCr is g in
    let n = isnt_equal b 13 test in
    let never : NeverCloses (g.text ++ b ∷ []) = λ more rest same. n (let e : b ∷ more ≡ 13 ∷ 10 ∷ rest = sym (ap (λ z. (z ++ b ∷ []) ++ more) s.1) ∙ same in let z : b ≡ 13 = (cc) in z) in
    stops_at (garbled w) max from given (bytes ++ b ∷ []) false (Garbled w.place) h.max_is h.from_is refl (no_close w given bytes (b ∷ []) g s.0 never)

pub return_moves : (b : ℕ) (w : WireState) → w.phase ≡ phases.ChunkCr → w.ending ≡ None → Moves w (return_taken b w) (b ∷ [])
return_moves b w is none max from given bytes h =
    return_by b w is none max from given bytes h (going w max from given bytes none h) (b == 13) refl

feed_by : (b : ℕ) (w : WireState) → w.phase ≡ phases.ChunkLf → w.ending ≡ None → (max from : ℕ) (given bytes : List ℕ) → Follows w max from given bytes false → GoesOn w given bytes → (t : Bool) → (b == 10) ≡ t
    → Follows (if t then marked phases.SizeLine (counted 1 w) else garbled w) max from given (bytes ++ b ∷ []) false
feed_by b w is none max from given bytes h g true test =
    let s = stands_at w given bytes phases.ChunkLf is g in
    let e = is_equal b 10 test in
    let body = given ++ w.body in
    let here = leads_more w.max w.from g.parts (Heads 0) bytes (Closing w.start w.keep body) g.text (b ∷ []) (subst (λ z. Leads w.max w.from g.parts (Heads 0) bytes z g.text) s.0 g.leads) in
    let closes : g.text ++ b ∷ [] ≡ 13 ∷ 10 ∷ [] = ap (λ z. z ++ b ∷ []) s.1 ∙ ap (λ z. 13 ∷ z ∷ []) e in
    goes (marked phases.SizeLine (counted 1 w)) max from given (bytes ++ b ∷ []) h.max_is h.from_is none (record {
      parts = suc g.parts;
      stage = SizeLine w.start w.keep body;
      text = [];
      leads = leads_on w.max w.from g.parts (Heads 0) (bytes ++ b ∷ []) (Closing w.start w.keep body) (SizeLine w.start w.keep body) (g.text ++ b ∷ []) [] here (closes, refl);
      stands = (refl, refl, record { is = s.2.is; within = s.2.within }, no_size_yet);
      count = count_more w.count bytes (b ∷ []) g.count;
      place = place_here (capped (w.count + 1)) (bytes ++ b ∷ []) (count_more w.count bytes (b ∷ []) g.count);
    })
feed_by b w is none max from given bytes h g false test =
    let s = stands_at w given bytes phases.ChunkLf is g in
    let n = isnt_equal b 10 test in
    let never : NeverCloses (g.text ++ b ∷ []) = λ more rest same. n (let e : 13 ∷ b ∷ more ≡ 13 ∷ 10 ∷ rest = sym (ap (λ z. (z ++ b ∷ []) ++ more) s.1) ∙ same in let z : b ≡ 10 = (cc) in z) in
    stops_at (garbled w) max from given (bytes ++ b ∷ []) false (Garbled w.place) h.max_is h.from_is refl (no_close w given bytes (b ∷ []) g s.0 never)

pub feed_moves : (b : ℕ) (w : WireState) → w.phase ≡ phases.ChunkLf → w.ending ≡ None → Moves w (feed_taken b w) (b ∷ [])
feed_moves b w is none max from given bytes h =
    feed_by b w is none max from given bytes h (going w max from given bytes none h) (b == 10) refl
