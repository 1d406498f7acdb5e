-- Each step keeps the rule of a lane's channel of jobs.
use Rattle.std.proofs.Common.{◌≡◌, ◌≢◌, ℕ, zero, suc, ◌+◌, ◌≤◌, true, false, true≢false, List, [], ◌∷◌, ◌++◌, length, set, Option, sym, refl, ap, ◌∙◌, ⊎_elim, arith}
use mathlib.Core.Option.{some, some-ne-none}
use lib.ListN.{get_elem?}
use Rattle.crossbeam_channel.specs.Fifo.{Pushes, Pops, Forks, Merges, Learns}
use Rattle.atomic_table.proofs.Lists.{at_set}
use Rattle.acq_base.specs.declared.fetch.Job.{Job}
use Rattle.lane_pool.specs.declared.job_rule.Tally.{Tally}
use Rattle.lane_pool.specs.JobRule.{nothing_yet, giving, taking, job_count, jobs_in, IsHanded, IsTaken, both, spent, FitsTally, AreCounted}
use Rattle.lane_pool.proofs.Rows.{all_set, all_snoc}

not_so : {P : Type 0} → false ≡ true → P
not_so e = absurd (true≢false (sym e))

-- making the channel
pub begins : AreCounted [] (nothing_yet ∷ [])
begins = record {
  giver = 0;
  taker = 0;
  handed = 0;
  received = 0;
  waiting = refl;
  known = all_set (FitsTally 0 0 0 0) (nothing_yet ∷ []) 0 nothing_yet record { gives = λ h. (refl, refl); takes = λ h. (refl, refl) } (λ j u other e. absurd (other (only j u e)));
}
  where
    only : (j : ℕ) (u : Tally) → get_elem? (nothing_yet ∷ []) j ≡ some u → j ≡ 0
    only zero u e = refl
    only (suc j) u e = absurd (some-ne-none u (sym e))

-- parting the ends
pub parts : (pass : ℕ) (v : Tally) → v.gives ≡ true → v.takes ≡ true → Forks AreCounted pass v (giving v) (taking v)
parts pass v gives takes items views k at =
    let mine = k.known pass v at in
    let t = mine.takes takes in
    let taker : ℕ = length (set views pass (giving v)) in
    let F : ℕ → Tally → Type 0 = FitsTally k.giver taker k.handed k.received in
    record {
      giver = k.giver;
      taker = taker;
      handed = k.handed;
      received = k.received;
      waiting = k.waiting;
      known = all_snoc F (set views pass (giving v)) (taking v) record { gives = λ h. not_so h; takes = λ h. (refl, t.1) }
          (all_set F views pass (giving v) record { gives = mine.gives; takes = λ h. not_so h }
          (λ j u other e. let f = k.known j u e in record { gives = f.gives; takes = λ h. absurd (other ((f.takes h).0 ∙ sym t.0)) }));
    }

jobs_snoc : (items : List (Option Job)) (item : Option Job) → jobs_in (items ++ item ∷ []) ≡ jobs_in items + job_count item
jobs_snoc [] item = omega arith
jobs_snoc (x ∷ items) item = let h = jobs_snoc items item in omega arith

-- a send
pub hands : (n pass : ℕ) (v : Tally) (item : Option Job) → v.gives ≡ true → Pushes AreCounted n pass v item (IsHanded v item)
hands n pass v item gives items views room k at =
    let mine = k.known pass v at in
    let g = mine.gives gives in
    let w : Tally = record { gives = v.gives; takes = v.takes; handed = v.handed + job_count item; received = v.received } in (
      w,
      record {
        giver = k.giver;
        taker = k.taker;
        handed = k.handed + job_count item;
        received = k.received;
        waiting = let a = jobs_snoc items item in let b = k.waiting in omega arith;
        known = all_set (FitsTally k.giver k.taker (k.handed + job_count item) k.received) views pass w
            record { gives = λ h. (g.0, ap (λ n. n + job_count item) g.1); takes = mine.takes }
            (λ j u other e. let f = k.known j u e in record { gives = λ h. absurd (other ((f.gives h).0 ∙ sym g.0)); takes = f.takes });
      },
      refl,
    )

-- a receive
pub takes : (pass : ℕ) (v : Tally) → v.takes ≡ true → Pops AreCounted pass v (IsTaken v)
takes pass v is item items views k at =
    let mine = k.known pass v at in
    let t = mine.takes is in
    let w : Tally = record { gives = v.gives; takes = v.takes; handed = v.handed; received = v.received + job_count item } in (
      w,
      record {
        giver = k.giver;
        taker = k.taker;
        handed = k.handed;
        received = k.received + job_count item;
        waiting = let b = k.waiting in omega arith;
        known = all_set (FitsTally k.giver k.taker k.handed (k.received + job_count item)) views pass w
            record { gives = mine.gives; takes = λ h. (t.0, ap (λ n. n + job_count item) t.1) }
            (λ j u other e. let f = k.known j u e in record { gives = f.gives; takes = λ h. absurd (other ((f.takes h).0 ∙ sym t.0)) });
      },
      refl,
    )

-- putting the passes of the ends together again
pub rejoins : (pass : ℕ) (v : Tally) (other : ℕ) (u : Tally) → u.takes ≡ true → Merges AreCounted pass v other u (both v u) spent
rejoins pass v other u takes items views k at two at' =
    let mine = k.known pass v at in
    let w : Tally = both v u in
    let was : get_elem? views other ≡ some u = ⊎_elim (λ x. absurd (two x.0)) (λ x. x.1) (at_set views pass other w u at') in
    let t = (k.known other u was).takes takes in
    let F : ℕ → Tally → Type 0 = FitsTally k.giver pass k.handed k.received in
    let G : ℕ → Tally → Type 0 = λ j y. j ≢ other → F j y in
    record {
      giver = k.giver;
      taker = pass;
      handed = k.handed;
      received = k.received;
      waiting = k.waiting;
      known = all_set F (set views pass w) other spent record { gives = λ h. not_so h; takes = λ h. not_so h }
          (λ j y apart e. all_set G views pass w (λ _. record { gives = mine.gives; takes = λ h. (refl, t.1) })
          (λ i z away is far. let f = k.known i z is in record { gives = f.gives; takes = λ h. absurd (far ((f.takes h).0 ∙ sym t.0)) }) j y e apart);
    }

-- no more jobs came out than went in
pub no_more_received : (pass : ℕ) (v : Tally) → v.gives ≡ true → v.takes ≡ true → Learns AreCounted pass v (λ items. v.received ≤ v.handed)
no_more_received pass v gives takes items views k at =
    let mine = k.known pass v at in
    let g = (mine.gives gives).1 in
    let t = (mine.takes takes).1 in
    let b = k.waiting in
    omega arith
