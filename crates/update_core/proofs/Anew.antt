-- Answers that come in, where what is installed of a source is read anew then.
use Rattle.std.proofs.Common.{◌≡◌, ◌≢◌, ◌∙◌, ℕ, ◌<◌, Bool, IsTrue, List, [], ◌∷◌, ◌++◌, length, map, get_or, reverse, Option, Some, None, refl, sym, ap, subst, arith}
use Rattle.std.specs.Prelude.{slice_get}
use Rattle.std.proofs.Math.ListN.{set}
use Rattle.std.proofs.lemmas.List.{map-append, reverse-append}
use Rattle.acq_base.specs.declared.installed.Old.{Old}
use Rattle.acq_base.specs.declared.plan.Source.{Source}
use Rattle.acq_outside.specs.Disk.{Files}
use Rattle.host_queues.specs.Lanes.{Lanes, changed_at, freed_at}
use Rattle.host_queues.proofs.Changes.{get-past}
use Rattle.lists_dir.specs.Installed.{installed_of}
use Rattle.update_model.specs.Points.{entry}
use Rattle.update_model.specs.Trails.{LaneAnswer}
use Rattle.update_model.specs.declared.ask.Closed.{Closed}
use Rattle.update_model.specs.declared.log.Asked.{Asked}
use Rattle.board_model.specs.Boards.{Asker, Board, absorbed, asker_of, lane_with, put_heard, took_from}
use Rattle.board_model.specs.Keys.{path_at}
use Rattle.board_model.specs.ReadAnew.{IsReadAnew, StandsOn, beside, with_old}
use Rattle.board_model.specs.Slots.{Setup, Slot, Standing, Asking, Listing, Refused, SettledSlot, heard_at}
use Rattle.board_model.specs.declared.key.Key.{Key}
use Rattle.board_model.proofs.ReadAnew.{anew-asker, anew-other, anew-same}
use Rattle.board_slot.specs.Heard.{HearsAnew}
use Rattle.board_slot.specs.Refinement.{slot_of}
use Rattle.board_slot.specs.declared.slot.Slot.{Slot as CodeSlot}
use Rattle.board_source.proofs.Changes.{changed-twice}
use Rattle.update_core.specs.Refinement.{slots_of}
use Rattle.update_core.specs.TakenIn.{AreHeardAnew, TakesIn, TookAnew}
use Rattle.update_core.proofs.Askers.{absorbed-is, asker-asks}
use Rattle.update_core.proofs.Changed.{put-changed}
use Rattle.update_core.proofs.Ready.{get-of, same-there}

pub map-reverse : {A B : Type 0} (f : A → B) (xs : List A) → map f (reverse xs) ≡ reverse (map f xs)
map-reverse f [] = refl
map-reverse f (x ∷ xs) =
    ap (map f) (reverse-append (x ∷ []) xs)
    ∙ map-append f (reverse xs) (x ∷ [])
    ∙ ap (λ ys. ys ++ f x ∷ []) (map-reverse f xs)
    ∙ sym (reverse-append (f x ∷ []) (map f xs))

-- ---- a slot

-- it is taken out, hears an answer, and is put back
pub heard-anew : (tells : Bool) (files : Files) (config : Setup) (source : Source) (key : Key) (told : LaneAnswer) (slots : List CodeSlot) (d hole new dest : CodeSlot)
    → key.source < length slots → d ≡ get_or slots key.source d → dest ≡ new → HearsAnew tells files config source key.place told (slot_of d) (slot_of new)
    → AreHeardAnew tells files config source key told (slots_of slots) (slots_of (set (set slots key.source hole) key.source dest))
heard-anew tells files config source key told slots d hole new dest within is same h = record {
  old = h.old;
  release = λ kept release at. h.release kept release (same-there (slice_get (slots_of slots) key.source) (slot_of d) (Asking kept release) (get-of slots key.source d within is) at);
  same = λ telling kept release at on. h.same telling kept release (same-there (slice_get (slots_of slots) key.source) (slot_of d) (Asking kept release) (get-of slots key.source d within is) at) on;
  slots = put-changed slot_of (λ slot. heard_at config source key.place told (beside h.old slot)) slots key.source d hole new dest within is same h.is
      ∙ sym (changed-twice (beside h.old) (heard_at config source key.place told) (slots_of slots) key.source);
}

-- ---- a board

-- one that stands on what the disk has is the same beside what a source was read as
anew-standing : (tells : Bool) (files : Files) (b : Board) (source : Source) (key : Key) (told : LaneAnswer) (after : List Slot) (h : AreHeardAnew tells files b.config source key told b.slots after)
    → slice_get b.config.sources key.source ≡ Some source → IsTrue tells → StandsOn (installed_of files) b → with_old key.source h.old b ≡ b
anew-standing tells files b source key told after h there telling stands = one (slice_get b.slots key.source) refl
  where
    one : (slot : Option Slot) → slice_get b.slots key.source ≡ slot → with_old key.source h.old b ≡ b
    one None is = anew-other key.source h.old b (λ kept release at. absurd (cc))
    one (Some (Asking kept release)) is =
        let same : h.old ≡ kept = h.same telling kept release is (stands key.source source kept release there is) in
        ap (λ (old : Old). with_old key.source old b) same ∙ anew-same key.source kept release b is
    one (Some (Listing set there lists)) is = anew-other key.source h.old b (λ kept release at. absurd (cc))
    one (Some (Refused why)) is = anew-other key.source h.old b (λ kept release at. absurd (cc))
    one (Some SettledSlot) is = anew-other key.source h.old b (λ kept release at. absurd (cc))

-- an answer is taken in, part by part
pub took-anew : (tells : Bool) (files : Files) (b : Board) (number : ℕ) (key : Key) (a : Asker) (from : ℕ) (told : LaneAnswer)
    (slots : List Slot) (lanes : Lanes) (out : List (Option ℕ)) (asks : List Asked)
    → asker_of b number ≡ Some a → key ≡ a.key
    → AreHeardAnew tells files b.config a.source key told b.slots slots
    → lanes ≡ put_heard number key.place (slice_get slots key.source) (freed_at from b.lanes)
    → out ≡ changed_at from (λ o. None) b.out
    → asks ≡ b.asks ++ entry key.source (path_at a.source key.place) a.ask told ∷ []
    → TookAnew tells files b number a from told (record b { slots = slots; lanes = lanes; out = out; asks = asks })
took-anew tells files b number key a from told slots lanes out asks asking same heard l o t =
    let h : AreHeardAnew tells files b.config a.source a.key told b.slots slots = subst (λ (k : Key). AreHeardAnew tells files b.config a.source k told b.slots slots) same heard in
    let log : List Asked = b.asks ++ entry a.key.source (path_at a.source a.key.place) a.ask told ∷ [] in
    let given : List (Option ℕ) = changed_at from (λ o. None) b.out in
    record {
      between = with_old a.key.source h.old b;
      anew = record { n = a.key.source; old = h.old; release = h.release; is = refl };
      same = anew-standing tells files b a.source a.key told slots h (asker-asks b number a asking).source_is;
      is = ap (λ (x : Lanes). record b { slots = slots; lanes = x; out = out; asks = asks }) (l ∙ ap (λ (k : Key). put_heard number k.place (slice_get slots k.source) (freed_at from b.lanes)) same)
          ∙ ap (λ (x : List (Option ℕ)). record b { slots = slots; lanes = put_heard number a.key.place (slice_get slots a.key.source) (freed_at from b.lanes); out = x; asks = asks }) o
          ∙ ap (λ (x : List Asked). record b { slots = slots; lanes = put_heard number a.key.place (slice_get slots a.key.source) (freed_at from b.lanes); out = given; asks = x })
          (t ∙ ap (λ (k : Key). b.asks ++ entry k.source (path_at a.source k.place) a.ask told ∷ []) same)
          ∙ ap (λ (x : List Slot). record b { slots = x; lanes = put_heard number a.key.place (slice_get x a.key.source) (freed_at from b.lanes); out = given; asks = log }) h.slots;
    }

pub takes-in : (tells : Bool) (files : Files) (b : Board) (lane number from : ℕ) (closed : Closed) (a : Asker) (after : Board)
    → lane_with b.out number ≡ Some from → asker_of b number ≡ Some a → TookAnew tells files b number a from (record { lane = lane; closed = closed }) after
    → TakesIn tells files b lane number closed after
takes-in tells files b lane number from closed a after out asking h =
    let was = h.anew in
    let out_then : lane_with h.between.out number ≡ Some from = subst (λ (c : Board). lane_with c.out number ≡ Some from) (sym was.is) out in
    let asking_then : asker_of h.between number ≡ Some a = subst (λ (c : Board). asker_of c number ≡ Some a) (sym was.is) (anew-asker was.n was.old b number ∙ asking) in
    record {
      between = h.between;
      anew = h.anew;
      same = h.same;
      is = h.is ∙ sym (absorbed-is h.between lane number from closed a out_then asking_then);
    }

-- nothing is read anew
not-anew : (b : Board) → IsReadAnew b b
not-anew b = record { n = length b.slots; old = nothing; release = λ kept release at. absurd (past kept release at); is = sym (anew-other (length b.slots) nothing b (λ kept release at. absurd (past kept release at))) }
  where
    nothing : Old
    nothing = record { release = None; lists = [] }

    past : (kept : Old) (release : Standing) → slice_get b.slots (length b.slots) ≢ Some (Asking kept release)
    past kept release at = let none : slice_get b.slots (length b.slots) ≡ None = get-past b.slots (length b.slots) (omega arith) in cc

-- nothing is taken in, where no job is out, or nothing asks
pub takes-nothing : (tells : Bool) (files : Files) (b : Board) (lane number : ℕ) (closed : Closed) → absorbed b lane number closed ≡ b → TakesIn tells files b lane number closed b
takes-nothing tells files b lane number closed e = record {
  between = b;
  anew = not-anew b;
  same = λ telling stands. refl;
  is = sym e;
}

pub nothing-out : (b : Board) (lane number : ℕ) (closed : Closed) → lane_with b.out number ≡ None → absorbed b lane number closed ≡ b
nothing-out b lane number closed none = ap (λ (l : Option ℕ). took_from b number (record { lane = lane; closed = closed }) l (asker_of b number)) none

pub nothing-asks : (b : Board) (lane number : ℕ) (closed : Closed) → asker_of b number ≡ None → absorbed b lane number closed ≡ b
nothing-asks b lane number closed none =
    ap (λ (x : Option Asker). took_from b number (record { lane = lane; closed = closed }) (lane_with b.out number) x) none ∙ one (lane_with b.out number)
  where
    one : (from : Option ℕ) → took_from b number (record { lane = lane; closed = closed }) from None ≡ b
    one None = refl
    one (Some from) = refl
