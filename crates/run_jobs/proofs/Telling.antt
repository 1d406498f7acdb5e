-- What one answer adds to what was heard.
use Rattle.std.proofs.Common.{◌≡◌, ◌≤◌, ℕ, List, [], ◌∷◌, ◌++◌, sym, subst, arith}
use Rattle.std.specs.List.{AllByRecursion as Each}
use Rattle.item_graph.specs.Sound.{IsSoundAnswer}
use Rattle.job_fetch.specs.Fetched.{IsCounted, IsSoundEnd}
use Rattle.update_model.specs.Trails.{heard_of}
use Rattle.update_model.specs.declared.ask.Closed.{Closed}
use Rattle.acq_base.specs.declared.fetch.NotServed.TheVariants as nots
use Rattle.update_model.specs.declared.ask.Closed.TheVariants as closings
use Rattle.update_model.specs.declared.log.Asked.{Asked}
use Rattle.update_model.specs.declared.log.Heard.{Heard}
use Rattle.update_model.specs.declared.log.Heard.TheVariants as heards
use Rattle.run_jobs.specs.Counting.{CountsOn, CountsUp}

pub each_last : {A : Type 0} (P : A → Type 0) (xs : List A) (x : A) → Each P xs → P x → Each P (xs ++ x ∷ [])
each_last P [] x all is = (is, tt)
each_last P (y ∷ xs) x all is = (all.0, each_last P xs x all.1 is)

pub sound_answer : (closed : Closed) → IsSoundEnd closed → IsSoundAnswer closed
sound_answer (closings.Served body) is = tt
sound_answer (closings.Not (nots.Moved place)) is = is
sound_answer (closings.Not (nots.Absent status)) is = tt
sound_answer (closings.Not nots.TooBig) is = tt
sound_answer (closings.Not (nots.Garbled at)) is = tt
sound_answer (closings.Not (nots.Fault before after)) is = tt

-- one more answer is counted
counts_one : (entry : Asked) (closed : Closed) (first before after : ℕ) → entry.heard ≡ heard_of closed → first ≤ before → IsCounted before after closed → before ≤ after → CountsUp first after (entry ∷ [])
counts_one entry (closings.Served body) first before after e le is up = rw e (rw is le)
counts_one entry (closings.Not (nots.Moved place)) first before after e le is up = rw e (rw is le)
counts_one entry (closings.Not (nots.Absent status)) first before after e le is up = rw e (rw is le)
counts_one entry (closings.Not nots.TooBig) first before after e le is up = rw e (rw is le)
counts_one entry (closings.Not (nots.Garbled at)) first before after e le is up = rw e (rw is le)
counts_one entry (closings.Not (nots.Fault b a)) first before after e le is up =
    rw e (subst (λ n. first ≤ n) (sym is.0) le, rw is.0 (rw is.1 is.2), rw is.0 (rw is.1 up), subst (λ n. n ≤ after) (sym is.1) (omega arith))

pub on_heard : (heard : Heard) (count : ℕ) (P Q : ℕ → Type 0) → ((n : ℕ) → P n → Q n) → CountsOn heard count P → CountsOn heard count Q
on_heard (heards.Served sum) count P Q f is = f count is
on_heard (heards.Not (nots.Moved place)) count P Q f is = f count is
on_heard (heards.Not (nots.Absent status)) count P Q f is = f count is
on_heard (heards.Not nots.TooBig) count P Q f is = f count is
on_heard (heards.Not (nots.Garbled at)) count P Q f is = f count is
on_heard (heards.Not (nots.Fault before after)) count P Q f is = (is.0, is.1, is.2, f after is.3)

pub counts_last : (entries : List Asked) (entry : Asked) (closed : Closed) (first before after : ℕ) → entry.heard ≡ heard_of closed → CountsUp first before entries → IsCounted before after closed → before ≤ after
    → CountsUp first after (entries ++ entry ∷ [])
counts_last [] entry closed first before after e up is le = counts_one entry closed first before after e up is le
counts_last (other ∷ entries) entry closed first before after e up is le =
    on_heard other.heard first _ _ (λ n rest. counts_last entries entry closed n before after e rest is le) up

-- counts go up
pub counts_rise : (first last : ℕ) (entries : List Asked) → CountsUp first last entries → first ≤ last
counts_rise first last [] counts = counts
counts_rise first last (e ∷ entries) counts = by e.heard (λ count on. counts_rise count last entries on) counts
  where
    by : (heard : Heard) → ((count : ℕ) → CountsUp count last entries → count ≤ last) → CountsOn heard first (λ count. CountsUp count last entries) → first ≤ last
    by (heards.Served sum) more c = more first c
    by (heards.Not (nots.Moved place)) more c = more first c
    by (heards.Not (nots.Absent status)) more c = more first c
    by (heards.Not nots.TooBig) more c = more first c
    by (heards.Not (nots.Garbled at)) more c = more first c
    by (heards.Not (nots.Fault before after)) more c = let up = more after c.3 in omega (arith, c.0, c.2, up)
