use Rattle.std.proofs.Common.{◌≡◌, ◌∙◌, ◌+◌, sym, subst, ap, rules, List, ℕ, [], ◌∷◌, ◌++◌, take, IsTrue}
use Rattle.std.proofs.lemmas.List.{take_more}
use Rattle.acq_real.specs.Listing.{Keeps, IsTaken}
use Rattle.acq_real.proofs.Listings.{Names, keeps_push, keeps_skip}
use Rattle.acq_real.proofs.listing.keep_taken.Goals as goal
use Rattle.acq_real.proofs.listing.keep_taken.Goals.{then-is_listed+in_ok-copy+in_ok-push, else-is_listed}

pub loop-name-preserved : goal.loop-name-preserved
loop-name-preserved c =
    let name : List ℕ = c.name-item.result in
    let front : Names = take c.loop-name.name-index c.args.names.now in
    let more : take (c.loop-name.name-index + 1) c.args.names.now ≡ front ++ name ∷ [] =
    take_more c.args.names.now c.loop-name.name-index name c.loop-name-test.true ∙ ap (λ (n : List ℕ). front ++ n ∷ []) (sym c.name-item.is) in
    let P : Names → Type 0 = λ kept. Keeps (front ++ name ∷ []) kept in
    subst (λ (names : Names). Keeps names c.if-is_listed.kept.items) (sym more)
    (elim c.if-is_listed.branch [
      | then-is_listed+in_ok-copy+in_ok-push w ↦
          let taken : IsTaken name = subst (λ (n : List ℕ). IsTaken n) c.as_bytes.ensures (c.is_listed.ensures.0 w.if-is_listed.true) in
          let pushed : c.if-is_listed.kept.items ≡ c.loop-name.kept.items ++ name ∷ [] = search rules in
          subst P (sym pushed) (keeps_push front c.loop-name.kept.items name taken c.loop-name.invariant)
      | else-is_listed w ↦
          let outside : ¬ (IsTaken name) = λ taken. let yes : IsTrue c.is_listed.result = c.is_listed.ensures.1 (subst (λ (n : List ℕ). IsTaken n) (sym c.as_bytes.ensures) taken) in absurd cc in
          let same : c.if-is_listed.kept.items ≡ c.loop-name.kept.items = search rules in
          subst P (sym same) (keeps_skip front c.loop-name.kept.items name outside c.loop-name.invariant)
    ])
