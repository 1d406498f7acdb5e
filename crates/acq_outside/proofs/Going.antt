-- What holds at each moment of a call, and of calls one after another: laws for the proofs of the crates above.
use Rattle.std.proofs.Common.{◌≡◌, refl, sym, ap, ◌∙◌, subst, inl, inr, List, [], ◌∷◌, ◌++◌, append_assoc, Result, Ok, Err, OnOk}
use Rattle.acq_outside.specs.Crash.{State, IsSound, AllSound, IsTorn, Goes, after, changed_file}
use Rattle.acq_outside.specs.States.{IsNow, Each, Since, From}
use Rattle.acq_outside.specs.declared.change.DiskCall.{DiskCall}

pub each_append : (P : State → Type 0) (a b : List State) → Each P a → Each P b → Each P (a ++ b)
each_append P [] b in_a in_b = in_b
each_append P (s ∷ a) b in_a in_b = (in_a.0, each_append P a b in_a.1 in_b)

each_map : (P Q : State → Type 0) (states : List State) → ((s : State) → P s → Q s) → Each P states → Each Q states
each_map P Q [] change each = each
each_map P Q (s ∷ states) change each = (change s each.0, each_map P Q states change each.1)

-- no state since
pub no_time : (old new : List State) (P : State → Type 0) → new ≡ old → Since old new P
no_time old new P is = record { states = []; joined = is; untold = λ none. is ∙ none; each = tt }

-- one state since
pub one_more : (t : State) (past new : List State) (P : State → Type 0) (s : State) → new ≡ s ∷ t ∷ past → P s → Since (t ∷ past) new P
one_more t past new P s is has = record { states = s ∷ []; joined = is; untold = λ none. absurd cc; each = (has, tt) }

pub since_map : (P Q : State → Type 0) (old new : List State) → ((s : State) → P s → Q s) → Since old new P → Since old new Q
since_map P Q old new change since = record { states = since.states; joined = since.joined; untold = since.untold; each = each_map P Q since.states change since.each }

-- a relation that holds by steps
abbrev pub IsBySteps : (State → State → Type 0) → Type 0
IsBySteps R = (a b c : State) → R a b → R b c → R a c

from_earlier : (R : State → State → Type 0) → IsBySteps R → (old states : List State) (s t : State) (past : List State) → s ∷ past ≡ states ++ old → Each (From R old) states → R s t → From R old t
from_earlier R steps [] states s t past is each now = tt
from_earlier R steps (o ∷ older) [] s t past is each now = let same : s ≡ o = cc in subst (λ (u : State). R u t) same now
from_earlier R steps (o ∷ older) (m ∷ states) s t past is each now = let same : s ≡ m = cc in steps o m t each.0 (subst (λ (u : State). R u t) same now)

-- one call after another
pub onward : (R : State → State → Type 0) → IsBySteps R → (old mid new : List State) → Since old mid (From R old) → Since mid new (From R mid) → Since old new (From R old)
onward R steps old [] new first later = record {
  states = [];
  joined = later.untold refl ∙ joins old first.states first.joined;
  untold = λ none. later.untold refl;
  each = tt;
}
  where
    joins : (old states : List State) → [] ≡ states ++ old → [] ≡ old
    joins old [] is = is
    joins old (s ∷ states) is = absurd cc
onward R steps old (s ∷ past) new first later = record {
  states = later.states ++ first.states;
  joined = later.joined ∙ ap (λ (l : List State). later.states ++ l) first.joined ∙ sym (append_assoc later.states first.states old);
  untold = λ none. later.untold (first.untold none);
  each = each_append (From R old) later.states first.states (each_map (R s) (From R old) later.states (λ t now. from_earlier R steps old first.states s t past first.joined first.each now) later.each) first.each;
}

pub newest_of : (P : State → Type 0) (old states new : List State) → new ≡ states ++ old → Each P states → IsNow P old → IsNow P new
newest_of P old [] new is each stands = subst (λ (l : List State). IsNow P l) (sym is) stands
newest_of P old (s ∷ states) new is each stands = subst (λ (l : List State). IsNow P l) (sym is) each.0

-- what a relation hands on holds of a disk as it then is
pub handed_on : (R : State → State → Type 0) (P : State → Type 0) (old new : List State) → ((s t : State) → R s t → P s → P t) → Since old new (From R old) → IsNow P old → IsNow P new
handed_on R P [] new hands since stands = subst (λ (l : List State). IsNow P l) (sym (since.untold refl)) tt
handed_on R P (s ∷ past) new hands since stands =
    newest_of P (s ∷ past) since.states new since.joined (each_map (R s) P since.states (λ t is. hands s t is stands) since.each) stands

-- a call, over all that a disk has been: what it is to a state in which P holds, done or torn
pub goes : {T E : Type 0} (R : State → State → Type 0) (P Q : State → Type 0) (call : DiskCall) (old new : List State) (result : Result T E) → AllSound old
    → ((s : State) → IsSound s → P s → R s (after s call))
    → ((s torn : State) → IsSound s → P s → IsTorn (changed_file s call) (after s call) torn → R s torn)
    → ((s : State) → IsSound s → P s → Q (after s call))
    → IsNow P old → Goes call old new result → Since old new (From R old) × OnOk result (IsNow Q new)
goes R P Q call [] new (Ok x) sound done torn ends stands is = (no_time [] new (From R []) is, subst (λ (l : List State). IsNow Q l) (sym is) tt)
goes R P Q call [] new (Err e) sound done torn ends stands is = (no_time [] new (From R []) is, tt)
goes R P Q call (s ∷ past) new (Ok x) sound done torn ends stands is =
    (one_more s past new (From R (s ∷ past)) (after s call) is (done s sound.0 stands), subst (λ (l : List State). IsNow Q l) (sym is) (ends s sound.0 stands))
goes R P Q call (s ∷ past) new (Err e) sound done torn ends stands (inl same) = (no_time (s ∷ past) new (From R (s ∷ past)) same, tt)
goes R P Q call (s ∷ past) new (Err e) sound done torn ends stands (inr part) = (one_more s past new (From R (s ∷ past)) part.0 part.2 (torn s part.0 sound.0 stands part.1), tt)
