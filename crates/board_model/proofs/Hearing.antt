-- One more answer that an item hears.
use Rattle.std.proofs.Common.{◌≡◌, ◌∙◌, ℕ, nat_eq, Bool, true, false, List, [], ◌∷◌, ◌++◌, Some, refl, sym, ap, append_assoc, arith}
use Rattle.std.specs.Prelude.{if◌then◌else◌}
use Rattle.std.proofs.lemmas.List.{append-nil, map-append}
use Rattle.std.proofs.lemmas.Bool.Decides.{nat_tests}
use Rattle.item_graph.specs.Refinement.{asked}
use Rattle.update_model.specs.Points.{Point, Over, At, entry, entry_at, ran, run, start, point_after}
use Rattle.update_model.specs.Trails.{LaneAnswer}
use Rattle.update_model.specs.Walks.{Walk}
use Rattle.update_model.specs.declared.ask.Ask.{Ask}
use Rattle.board_model.specs.Keys.{same_key}
use Rattle.board_model.specs.Runs.{Note, entry_of}
use Rattle.board_model.specs.Slots.{Standing, item_after}
use Rattle.board_model.specs.Stands.{AreAsked, ItemHasHeard, of_key, lane_answers}
use Rattle.board_model.specs.declared.key.Key.{Key}

run-more : (retries : ℕ) (p : Point) (ts : List LaneAnswer) (t : LaneAnswer) → run retries p (ts ++ t ∷ []) ≡ point_after retries (run retries p ts) t
run-more retries p [] t = refl
run-more retries p (u ∷ ts) t = run-more retries (point_after retries p u) ts t

ran-more : (retries source : ℕ) (path : List ℕ) (p : Point) (ts : List LaneAnswer) (t : LaneAnswer)
    → ran retries source path p (ts ++ t ∷ []) ≡ ran retries source path p ts ++ entry_at source path (run retries p ts) t
ran-more retries source path p [] t = append-nil (entry_at source path p t)
ran-more retries source path p (u ∷ ts) t =
    ap (λ es. entry_at source path p u ++ es) (ran-more retries source path (point_after retries p u) ts t)
    ∙ sym (append_assoc (entry_at source path p u) (ran retries source path (point_after retries p u) ts) (entry_at source path (run retries (point_after retries p u) ts) t))

entry-asked : (source : ℕ) (path : List ℕ) (p : Point) (ask : Ask) (t : LaneAnswer) → asked p ≡ Some ask → entry_at source path p t ≡ entry source path ask t ∷ []
entry-asked source path (Over end) ask t e = absurd (cc)
entry-asked source path (At a left faults next) ask t e =
    let same : a ≡ ask = cc in
    ap (λ (x : Ask). entry source path x t ∷ []) same

asked-more : (retries : ℕ) (p : Point) (heard : List Note) (note : Note) → AreAsked retries p heard → asked (run retries p (lane_answers heard)) ≡ Some note.ask → AreAsked retries p (heard ++ note ∷ [])
asked-more retries p [] note h is = (is, tt)
asked-more retries p (x ∷ heard) note h is = (h.0, asked-more retries (point_after retries p x.told) heard note h.1 is)

-- the item that is asked, and the note that is taken of its answer
pub heard-more : (retries source : ℕ) (path : List ℕ) (walk : Walk) (heard : List Note) (item : Standing) (ask : Ask) (note : Note)
    → ItemHasHeard retries source path walk heard item → asked item.point ≡ Some ask → note.ask ≡ ask → entry_of note ≡ entry source path ask note.told
    → ItemHasHeard retries source path walk (heard ++ note ∷ []) (item_after note.told item)
heard-more retries source path walk heard item ask note h asks same is =
    let p = start retries walk in
    let ts = lane_answers heard in
    let more : lane_answers (heard ++ note ∷ []) ≡ ts ++ note.told ∷ [] = map-append (λ (n : Note). n.told) heard (note ∷ []) in
    let stands : point_after item.retries item.point note.told ≡ run retries p (ts ++ note.told ∷ []) =
    ap (λ (r : ℕ). point_after r item.point note.told) h.repeats ∙ ap (λ (q : Point). point_after retries q note.told) h.stands ∙ sym (run-more retries p ts note.told) in
    let one : entry_at source path (run retries p ts) note.told ≡ entry_of note ∷ [] =
    entry-asked source path (run retries p ts) ask note.told (sym (ap asked h.stands) ∙ asks) ∙ ap (λ (e : _). e ∷ []) (sym is) in
    record {
      repeats = h.repeats;
      stands = stands ∙ sym (ap (run retries p) more);
      asks = asked-more retries p heard note h.asks (sym (ap asked h.stands) ∙ asks ∙ ap Some (sym same));
      logged = map-append entry_of heard (note ∷ []) ∙ ap (λ es. es ++ entry_of note ∷ []) h.logged
          ∙ sym (ap (λ es. ran retries source path p ts ++ es) one)
          ∙ sym (ran-more retries source path p ts note.told) ∙ sym (ap (ran retries source path p) more);
    }

pub none-heard : (retries source : ℕ) (path : List ℕ) (walk : Walk) → ItemHasHeard retries source path walk [] (record { retries = retries; point = start retries walk })
none-heard retries source path walk = record { repeats = refl; stands = refl; asks = tt; logged = refl }

-- ---- the notes of one item

pub of-same : (key : Key) (notes : List Note) (note : Note) → same_key note.key key ≡ true → of_key key (notes ++ note ∷ []) ≡ of_key key notes ++ note ∷ []
of-same key [] note is = rw is refl
of-same key (n ∷ notes) note is = one (same_key n.key key) (of-same key notes note is)
  where
    one : (b : Bool) → of_key key (notes ++ note ∷ []) ≡ of_key key notes ++ note ∷ []
        → (if b then n ∷ of_key key (notes ++ note ∷ []) else of_key key (notes ++ note ∷ [])) ≡ (if b then n ∷ of_key key notes else of_key key notes) ++ note ∷ []
    one true h = ap (λ xs. n ∷ xs) h
    one false h = h

pub of-other : (key : Key) (notes : List Note) (note : Note) → same_key note.key key ≡ false → of_key key (notes ++ note ∷ []) ≡ of_key key notes
of-other key [] note isnt = rw isnt refl
of-other key (n ∷ notes) note isnt = one (same_key n.key key) (of-other key notes note isnt)
  where
    one : (b : Bool) → of_key key (notes ++ note ∷ []) ≡ of_key key notes
        → (if b then n ∷ of_key key (notes ++ note ∷ []) else of_key key (notes ++ note ∷ [])) ≡ (if b then n ∷ of_key key notes else of_key key notes)
    one true h = ap (λ xs. n ∷ xs) h
    one false h = h

pub same-refl : (key : Key) → same_key key key ≡ true
same-refl key = grind (arith, nat_tests)

pub apart-source : (a b : Key) → nat_eq b.source a.source ≡ false → same_key a b ≡ false
apart-source a b apart = grind (arith, nat_tests, apart)

pub apart-place : (a b : Key) → nat_eq b.place a.place ≡ false → same_key a b ≡ false
apart-place a b apart = grind (arith, nat_tests, apart)
