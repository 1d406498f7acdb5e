-- Sources that are settled all together.
use Rattle.std.proofs.Common.{◌≡◌, ◌∙◌, ◌<◌, refl, sym, ap, subst, arith, ℕ, Bool, true, false, List, [], ◌∷◌, ◌++◌, Some}
use Rattle.std.specs.Prelude.{if◌then◌else◌, slice_get}
use Rattle.std.specs.List.{AllByRecursion as Each}
use Rattle.std.proofs.lemmas.List.{append-nil, append_assoc}
use Rattle.acq_base.specs.declared.plan.Source.{Source}
use Rattle.acq_base.specs.declared.uri.ListName.{ListName}
use Rattle.acq_outside.specs.Crash.{State}
use Rattle.acq_outside.specs.States.{IsNow}
use Rattle.board_model.specs.Boards.{Board, first_ready, settled_as, settled_of}
use Rattle.board_model.specs.Runs.{Note}
use Rattle.board_model.specs.Uses.{wanted_part}
use Rattle.commit_journal.specs.declared.changing.Change.{Change}
use Rattle.list_commits.specs.Changes.{changes_for}
use Rattle.list_commits.specs.RecordLaws.{IsSyncedPart}
use Rattle.run_jobs.specs.Running.{RunStart, IsUnderWay}
use Rattle.run_model.specs.Runs.{AreRising, is_installed}
use Rattle.update_model.specs.declared.ask.Body.{Body}
use Rattle.update_model.specs.declared.settled.Settled.{Settled}
use Rattle.run_model.proofs.Finishing.{is_held}
use Rattle.run_model.proofs.Following.{later_than}
use Rattle.run_jobs.proofs.Agreed.{reached_told}
use Rattle.run_jobs.proofs.Telling.{each_last}
use Rattle.update_engine.proofs.Known.{CommittingLaws}
use Rattle.update_engine.specs.Session.{GathersChanges, GathersChangesOf, HasGatheredChanges, IsNewSource, NewSource, groups_for, installed_in, numbers_of}
use Rattle.update_engine.proofs.Committing.{IsChanging, IsSettling, changing, have_sums, last_puts, puts_rest, told_installed}
use Rattle.update_engine.proofs.Lists.{each_more}
use Rattle.update_engine.proofs.OnBoards.{under_settled}

-- ---- lists with one more

numbers_last : (picks : List NewSource) (p : NewSource) → numbers_of (picks ++ p ∷ []) ≡ numbers_of picks ++ p.n ∷ []
numbers_last [] p = refl
numbers_last (q ∷ picks) p = ap (λ (ns : List ℕ). q.n ∷ ns) (numbers_last picks p)

groups_last : (picks : List NewSource) (p : NewSource) → groups_for (picks ++ p ∷ []) ≡ groups_for picks ++ changes_for p.source p.settled ∷ []
groups_last [] p = refl
groups_last (q ∷ picks) p = ap (λ (gs : List (List Change)). changes_for q.source q.settled ∷ gs) (groups_last picks p)

turn_last : (ns : List ℕ) (m : ℕ) → AreRising ns → Each (λ n. n < m) ns → AreRising (ns ++ m ∷ [])
turn_last [] m turn below = (tt, tt)
turn_last (n ∷ ns) m turn below = (each_last (λ k. n < k) ns m turn.0 below.0, turn_last ns m turn.1 below.1)

-- ---- a source that came to a new set

lasts_now : CommittingLaws → (start : RunStart) (notes : List Note) (b : Board) (n : ℕ) (settled : Settled) (now : List State) → IsSettling start notes b n settled now
    → IsNow (λ s. Each (λ (put : ListName × Body). IsSyncedPart s put.0 put.1) settled.puts) now
lasts_now laws start notes b n settled [] s = tt
lasts_now laws start notes b n settled (state ∷ past) s = last_puts (wanted_part b) start.parts state past settled.puts (puts_rest laws start notes b n settled (state ∷ past) s) s.under.uses

is_pick : CommittingLaws → (start : RunStart) (notes : List Note) (b : Board) (n : ℕ) (settled : Settled) (now : List State) → IsSettling start notes b n settled now → (c : IsChanging start b n settled) → is_installed settled.verdict ≡ true
    → IsNewSource start notes now (record { n = n; source = c.source; settled = settled })
is_pick laws start notes b n settled now s c new_one =
    let held = is_held settled.verdict new_one in
    record {
      source_is = c.source_is;
      settles = λ told. record { notes = notes; later = []; so_far = sym (append-nil notes); board = b; reached = reached_told start notes b now s.under.heard told; ready = s.ready; comes_to = s.comes };
      held = held.0;
      installs = held.1;
      put = c.gathered.put.0;
      own = c.gathered.own.0;
      lasts = lasts_now laws start notes b n settled now s;
      sums = λ told. have_sums laws start notes b n settled now told s;
    }

-- ---- one more source

pub gathers_none : (b : Board) → GathersChanges b b []
gathers_none b start notes now sound under = record {
  under_way = under;
  picks = [];
  are = refl;
  each = tt;
  order = sym (append-nil (installed_in b));
  in_turn = tt;
  next = λ m ready. tt;
}

gathers_to : CommittingLaws → (b c : Board) (n : ℕ) (groups later : List (List Change)) (settled : Settled) → GathersChanges b c groups → first_ready c.slots ≡ Some n → settled_of c n ≡ Some settled
    → ((source : Source) → slice_get c.config.sources n ≡ Some source → later ≡ groups ++ (if is_installed settled.verdict then changes_for source settled ∷ [] else []))
    → GathersChanges b (settled_as c n settled.verdict) later
gathers_to laws b c n groups later settled gathers ready comes group start notes now sound under = one (is_installed settled.verdict) refl
  where
    g : HasGatheredChanges start notes now b c groups
    g = gathers start notes now sound under

    s : IsSettling start notes c n settled now
    s = record { sound = sound; under = g.under_way; ready = ready; comes = comes }

    d : IsChanging start c n settled
    d = changing laws start notes c n settled now s

    under_then : IsUnderWay start notes (settled_as c n settled.verdict) now
    under_then = under_settled laws.settling start notes c n settled now ready comes g.under_way

    told : installed_in (settled_as c n settled.verdict) ≡ installed_in c ++ (if is_installed settled.verdict then n ∷ [] else [])
    told = told_installed laws start notes c n settled now s d

    before : (m : ℕ) → first_ready (settled_as c n settled.verdict).slots ≡ Some m → n < m
    before m next = later_than c.slots n m ready next

    behind : (m : ℕ) → n < m → Each (λ k. k < m) (numbers_of g.picks)
    behind m less = each_more (λ k. k < n) (λ k. k < m) (numbers_of g.picks) (λ k low. omega (arith, low, less)) (g.next n ready)

    one : (t : Bool) → is_installed settled.verdict ≡ t → HasGatheredChanges start notes now b (settled_as c n settled.verdict) later
    one false e = record {
      under_way = under_then;
      picks = g.picks;
      are = group d.source d.here_is ∙ ap (λ (t : Bool). groups ++ (if t then changes_for d.source settled ∷ [] else [])) e ∙ append-nil groups ∙ g.are;
      each = g.each;
      order = told ∙ ap (λ (t : Bool). installed_in c ++ (if t then n ∷ [] else [])) e ∙ append-nil (installed_in c) ∙ g.order;
      in_turn = g.in_turn;
      next = λ m next. behind m (before m next);
    }
    one true e =
        let p : NewSource = record { n = n; source = d.source; settled = settled } in
        record {
          under_way = under_then;
          picks = g.picks ++ p ∷ [];
          are = group d.source d.here_is ∙ ap (λ (t : Bool). groups ++ (if t then changes_for d.source settled ∷ [] else [])) e
              ∙ ap (λ (gs : List (List Change)). gs ++ changes_for d.source settled ∷ []) g.are ∙ sym (groups_last g.picks p);
          each = each_last (IsNewSource start notes now) g.picks p g.each (is_pick laws start notes c n settled now s d e);
          order = told ∙ ap (λ (t : Bool). installed_in c ++ (if t then n ∷ [] else [])) e ∙ ap (λ (ns : List ℕ). ns ++ n ∷ []) g.order
              ∙ append_assoc (installed_in b) (numbers_of g.picks) (n ∷ []) ∙ ap (λ (ns : List ℕ). installed_in b ++ ns) (sym (numbers_last g.picks p));
          in_turn = subst AreRising (sym (numbers_last g.picks p)) (turn_last (numbers_of g.picks) n g.in_turn (g.next n ready));
          next = λ m next. subst (λ (ns : List ℕ). Each (λ k. k < m) ns) (sym (numbers_last g.picks p)) (each_last (λ k. k < m) (numbers_of g.picks) n (behind m (before m next)) (before m next));
        }

pub gathers_more : CommittingLaws → (b c d : Board) (n : ℕ) (groups later : List (List Change)) → GathersChanges b c groups → first_ready c.slots ≡ Some n → GathersChangesOf n c d groups later → GathersChanges b d later
gathers_more laws b c d n groups later gathers ready one = subst (λ (x : Board). GathersChanges b x later) (sym one.board) (gathers_to laws b c n groups later one.settled gathers ready one.comes one.group)

-- ---- how one is gathered

pub gathers_kept : (b c : Board) (n : ℕ) (settled : Settled) (groups : List (List Change)) → settled_of b n ≡ Some settled → c ≡ settled_as b n settled.verdict → is_installed settled.verdict ≡ false → GathersChangesOf n b c groups groups
gathers_kept b c n settled groups comes board e = record {
  settled = settled;
  comes = comes;
  board = board;
  group = λ source is. sym (append-nil groups) ∙ ap (λ (t : Bool). groups ++ (if t then changes_for source settled ∷ [] else [])) (sym e);
}

pub gathers_new : (b c : Board) (n : ℕ) (settled : Settled) (changes : List Change) (groups later : List (List Change)) → settled_of b n ≡ Some settled → c ≡ settled_as b n settled.verdict → is_installed settled.verdict ≡ true
    → ((source : Source) → slice_get c.config.sources n ≡ Some source → changes ≡ changes_for source settled) → later ≡ groups ++ changes ∷ [] → GathersChangesOf n b c groups later
gathers_new b c n settled changes groups later comes board e made is = record {
  settled = settled;
  comes = comes;
  board = board;
  group = λ source at. is ∙ ap (λ (cs : List Change). groups ++ cs ∷ []) (made source (subst (λ (x : Board). slice_get x.config.sources n ≡ Some source) (sym board) at))
      ∙ ap (λ (t : Bool). groups ++ (if t then changes_for source settled ∷ [] else [])) (sym e);
}
