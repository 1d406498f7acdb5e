-- Which item asks under a number, in steps.
use Rattle.std.proofs.Common.{◌≡◌, ◌∙◌, ℕ, Option, Some, None, refl, ap, subst}
use Rattle.std.specs.Prelude.{OnOk, Result, Ok, Err, option_map, slice_get}
use Rattle.update_model.specs.Obtained.{◌>>=◌}
use Rattle.update_model.specs.declared.ask.Closed.{Closed}
use Rattle.board_model.specs.Boards.{Asker, Board, absorbed, asker_of, lane_with, took, took_from}
use Rattle.board_model.specs.Keys.{key_at}
use Rattle.board_model.specs.Slots.{ask_of, item_at}
use Rattle.board_model.proofs.Places.{bound}

-- what an item that asks is
pub record Asks (b : Board) (number : ℕ) (a : Asker) : Type 0 where
  pub key_is : key_at b.config.sources number ≡ Some a.key
  pub source_is : slice_get b.config.sources a.key.source ≡ Some a.source
  pub ask_is : ask_of (item_at b.slots a.key) ≡ Some a.ask

pub asker-asks : (b : Board) (number : ℕ) (a : Asker) → asker_of b number ≡ Some a → Asks b number a
asker-asks b number a e =
    let key = bound (key_at b.config.sources number) (λ key. slice_get b.config.sources key.source >>= (λ source. ask_of (item_at b.slots key) >>= (λ ask. Some (record { key = key; source = source; ask = ask })))) a e in
    let source = bound (slice_get b.config.sources key.0.source) (λ source. ask_of (item_at b.slots key.0) >>= (λ ask. Some (record { key = key.0; source = source; ask = ask }))) a key.2 in
    let ask = bound (ask_of (item_at b.slots key.0)) (λ ask. Some (record { key = key.0; source = source.0; ask = ask })) a source.2 in
    let is = one (record { key = key.0; source = source.0; ask = ask.0 }) a ask.2 in
    record {
      key_is = key.1 ∙ ap (λ (x : Asker). Some x.key) is;
      source_is = subst (λ (x : Asker). slice_get b.config.sources x.key.source ≡ Some x.source) is source.1;
      ask_is = subst (λ (x : Asker). ask_of (item_at b.slots x.key) ≡ Some x.ask) is ask.1;
    }
  where
    one : (x y : Asker) → Some x ≡ Some y → x ≡ y
    one x y e = cc

-- the item behind a key
pub mapped : {A B : Type 0} (f : A → B) (o : Option A) (y : B) → Some y ≡ option_map f o → (a : A) × (o ≡ Some a) × (f a ≡ y)
mapped f None y e = absurd (cc)
mapped f (Some a) y e = (a, refl, cc)

pub none-mapped : {A B : Type 0} (f : A → B) (o : Option A) → None ≡ option_map f o → o ≡ None
none-mapped f None e = refl
none-mapped f (Some a) e = absurd (cc)

-- where a call ends well
pub ok-mapped : {T E P Q : Type 0} (result : Result T E) → (P → Q) → OnOk result P → OnOk result Q
ok-mapped (Ok x) f p = f p
ok-mapped (Err e) f p = tt

pub absorbed-is : (b : Board) (lane number from : ℕ) (closed : Closed) (a : Asker) → lane_with b.out number ≡ Some from → asker_of b number ≡ Some a
    → absorbed b lane number closed ≡ took b number a from (record { lane = lane; closed = closed })
absorbed-is b lane number from closed a out asks =
    ap (λ (l : Option ℕ). took_from b number (record { lane = lane; closed = closed }) l (asker_of b number)) out
    ∙ ap (λ (x : Option Asker). took_from b number (record { lane = lane; closed = closed }) (Some from) x) asks
