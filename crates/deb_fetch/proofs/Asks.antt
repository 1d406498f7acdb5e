-- The asks for a package file, one after another.
use Rattle.std.proofs.Common.{◌≡◌, ◌⊎◌, inl, inr, ⊎_elim, refl, sym, ap, ◌∙◌, subst, arith, ℕ, zero, suc, ◌+◌, ◌*◌, ◌-◌, ◌<◌, ◌≤◌, Bool, true, false, if◌then◌else◌, List, [], ◌∷◌, ◌++◌, Option, Some, None, IfSome}
use Rattle.acq_base.proofs.SameSums.{same_sum-true}
use Rattle.acq_base.specs.Mirror.{MirrorMap, answer_at}
use Rattle.acq_base.specs.declared.fetch.NotServed.TheVariants.{Moved, Absent, TooBig, Garbled, Fault}
use Rattle.acq_base.specs.declared.sum.Sum.{Sum}
use Rattle.acq_base.specs.declared.uri.Uri.{Uri}
use Rattle.acq_outside.specs.Count.{Rose}
use Rattle.acq_outside.specs.Crash.{State}
use Rattle.acq_outside.specs.States.{IsTold}
use Rattle.item_graph.specs.Histories.{AgreesAlong, AgreesAt, LivesAlong, LivesAt}
use Rattle.item_graph.specs.Laws.{IsHeardRoute}
use Rattle.item_graph.specs.Refinement.{asked}
use Rattle.item_graph.specs.Single.{single}
use Rattle.item_graph.proofs.Theorems.{points_end_in_routes}
use Rattle.job_fetch.specs.Fetched.{IsCounted, IsStagedBody, LastsAs}
use Rattle.release_file.specs.Release.{same_sum}
use Rattle.update_model.specs.Laws.{by_sum}
use Rattle.update_model.specs.Obtained.{list_cause, obtain}
use Rattle.update_model.specs.Points.{Point, Over, At, start, point_after, run, lead}
use Rattle.update_model.specs.Reach.{On, Stop, may_move, moved}
use Rattle.update_model.specs.Trails.{LaneAnswer, IsFaultOr, answered, answers_or}
use Rattle.update_model.specs.Walks.{Walk, Finish, fitting_body, got_else, on_some, plain_walk}
use Rattle.update_model.proofs.Theorems.{lists_end_as_obtained}
use Rattle.update_model.specs.declared.ask.Ask.{Ask}
use Rattle.update_model.specs.declared.ask.Body.{Body}
use Rattle.update_model.specs.declared.ask.Body.TheVariants.{Bytes, Staged}
use Rattle.update_model.specs.declared.ask.Closed.{Closed}
use Rattle.update_model.specs.declared.ask.Closed.TheVariants.{Served, Not}
use Rattle.update_model.specs.declared.ask.Ending.{Ending}
use Rattle.update_model.specs.declared.ask.Ending.TheVariants as endings
use Rattle.update_model.specs.declared.cause.Cause.{Cause}
use Rattle.update_model.specs.declared.cause.Cause.TheVariants.{Method}
use Rattle.update_model.specs.declared.end.End.{End}
use Rattle.update_model.specs.declared.end.End.TheVariants.{Got, Stands, Ended}
use Rattle.update_model.specs.declared.wanted.Wanted.{Wanted}
use Rattle.deb_fetch.specs.Asking.{AsksOn, AsksWhole, HasAsked, HasDied, HasLived, IsHad, IsUnderWay, StandsAt, asks_behind, asks_left, asks_next}
use Rattle.deb_fetch.specs.Causes.{HasFailed, IsEndOfRoute, IsMethod, RoseBy, cause_of, cause_over}
use Rattle.deb_fetch.specs.declared.deb.Deb.{Deb}

-- ---- one answer more

run-push : (retries : ℕ) (p : Point) (ts : List LaneAnswer) (t : LaneAnswer) → run retries p (ts ++ t ∷ []) ≡ point_after retries (run retries p ts) t
run-push retries p [] t = refl
run-push retries p (u ∷ ts) t = run-push retries (point_after retries p u) ts t

agrees-push : (world : MirrorMap) (retries : ℕ) (p : Point) (ts : List LaneAnswer) (t : LaneAnswer) → AgreesAlong world [] retries p ts → AgreesAt world [] (run retries p ts) t → AgreesAlong world [] retries p (ts ++ t ∷ [])
agrees-push world retries p [] t along at = (at, tt)
agrees-push world retries p (u ∷ ts) t along at = (along.0, agrees-push world retries (point_after retries p u) ts t along.1 at)

lives-push : (retries : ℕ) (p : Point) (ts : List LaneAnswer) (t : LaneAnswer) → LivesAlong retries p ts → LivesAt (run retries p ts) t → LivesAlong retries p (ts ++ t ∷ [])
lives-push retries p [] t along at = (at, tt)
lives-push retries p (u ∷ ts) t along at = (along.0, lives-push retries (point_after retries p u) ts t along.1 at)

-- ---- counts

still_rose : (n first before after : ℕ) → after ≡ before → RoseBy n first before → RoseBy n first after
still_rose n first before after same (inl low) = inl (omega (arith, low, same))
still_rose n first before after same (inr full) = inr (omega (arith, full, same))

rose_again : (retries n first before after : ℕ) → suc n ≤ retries → RoseBy (retries - suc n) first before → before ≤ after → Rose before after → RoseBy (retries - n) first after
rose_again retries n first before after within (inl low) grew (inl more) = inl (omega (arith, within, low, more))
rose_again retries n first before after within (inl low) grew (inr full) = inr full
rose_again retries n first before after within (inr full) grew rose = inr (omega (arith, full, grew))

rose_out : (retries first before after : ℕ) → RoseBy (retries - 0) first before → before ≤ after → Rose before after → RoseBy (retries + 1) first after
rose_out retries first before after (inl low) grew (inl more) = inl (omega (arith, low, more))
rose_out retries first before after (inl low) grew (inr full) = inr full
rose_out retries first before after (inr full) grew rose = inr (omega (arith, full, grew))

rose_before : (retries first before from : ℕ) → RoseBy (retries - 0) first before → from ≡ before → RoseBy retries first from
rose_before retries first before from (inl low) same = inl (omega (arith, low, same))
rose_before retries first before from (inr full) same = inr (omega (arith, full, same))

none_rose : (retries first before after : ℕ) → first ≤ before → after ≡ before → RoseBy (retries - retries) first after
none_rose retries first before after grew same = inl (omega (arith, grew, same))

-- ---- where one answer leads

abbrev Behind : Wanted → (Ending → Walk) → Type 0
Behind w next = next ≡ (λ e. got_else w e (Finish (Ended (list_cause w e))))

lives_at : (ask : Ask) (left faults : ℕ) (next : Ending → Walk) (closed : Closed) → answers_or closed ⊥ → LivesAt (At ask left faults next) (record { lane = 0; closed = closed })
lives_at ask left zero next closed answers = answers
lives_at ask left (suc faults) next closed answers = tt

module _ (retries : ℕ) (w : Wanted) (name : List ℕ) (first before after : ℕ) (now : List State) (lives : Type 0) where
  stops : (e : Ending) (next : Ending → Walk) → Behind w next → got_else w e (Finish (Ended (list_cause w e))) ≡ Finish (Ended (list_cause w e)) → (IsMethod (Some (list_cause w e)) → ⊥) → lives
      → StandsAt retries w name first after now lives (start retries (next e))
  stops e next behind plain other lived =
      let at : start retries (next e) ≡ Over (Ended (list_cause w e)) = ap (λ (f : Ending → Walk). start retries (f e)) behind ∙ ap (start retries) plain in
      subst (λ (p : Point). StandsAt retries w name first after now lives p) (sym at) (inl (record { lived = lived; other = other }), tt)

  comes : (sum : Sum) (next : Ending → Walk) → Behind w next → (IsTold now → LastsAs name now sum) → lives → StandsAt retries w name first after now lives (start retries (next (endings.Served (Staged sum))))
  comes sum next behind lasts lived =
      subst (λ (p : Point). StandsAt retries w name first after now lives p) (sym (ap (λ (f : Ending → Walk). start retries (f (endings.Served (Staged sum)))) behind))
      (by (same_sum sum w.sum) refl)
    where
      by : (b : Bool) → same_sum sum w.sum ≡ b
          → StandsAt retries w name first after now lives (start retries (on_some (if b then Some (Staged sum) else None) (λ body. Finish (Got body)) (Finish (Ended (list_cause w (endings.Served (Staged sum)))))))
      by true same = (inl (record { lived = lived; other = λ none. none }), λ told. subst (λ (s : Sum). LastsAs name now s) (same_sum-true sum w.sum same) (lasts told))
      by false differs = (inl (record { lived = lived; other = λ none. none }), tt)

  dies : (ask : Ask) (left lane : ℕ) (from upto : ℕ) (next : Ending → Walk) → Behind w next → lane ≡ 0 → before ≤ after → AsksOn retries w first before ask 0 next → (from ≡ before) × (upto ≡ after) × Rose before after
      → StandsAt retries w name first after now lives (start retries (next (endings.Dead lane from upto)))
  dies ask left lane from upto next behind is grew on counted =
      subst (λ (p : Point). StandsAt retries w name first after now lives p) (sym (ap (λ (f : Ending → Walk). start retries (f (endings.Dead lane from upto))) behind)) (
        inr (record {
          from = from;
          upto = upto;
          is = ap (λ (l : ℕ). Ended (Method w.path l from upto)) is;
          rose = rose_out retries first before after on.rose grew counted.2;
          begins = omega (arith, on.grew, counted.0);
          upward = omega (arith, grew, counted.0, counted.1);
          others = rose_before retries first before from on.rose counted.0;
          ends = counted.1;
        }),
        tt,
      )

  goes_on : (ask : Ask) (faults : ℕ) (next : Ending → Walk) (to : Uri) (left : ℕ) → AsksOn retries w first before ask faults next → after ≡ before → lives
      → StandsAt retries w name first after now lives (At (record ask { uri = to }) left retries next)
  goes_on ask faults next to left on same lived = (
    lived,
    record {
      whole = on.whole;
      staged = on.staged;
      within = omega arith;
      grew = omega (arith, on.grew, same);
      rose = none_rose retries first before after on.grew same;
      behind = on.behind;
    },
  )

  moves : (ask : Ask) (faults : ℕ) (next : Ending → Walk) (left : ℕ) (to : Uri) → AsksOn retries w first before ask faults next → after ≡ before → lives
      → StandsAt retries w name first after now lives (lead retries ask left next (moved left ask.uri to))
  moves ask faults next zero to on same lived = stops endings.Lost next on.behind refl (λ none. none) lived
  moves ask faults next (suc left) to on same lived = by (may_move ask.uri.scheme to.scheme)
    where
      by : (b : Bool) → StandsAt retries w name first after now lives (lead retries ask (suc left) next (if b then On to else Stop endings.Lost))
      by true = goes_on ask faults next to left on same lived
      by false = stops endings.Lost next on.behind refl (λ none. none) lived

  answered_at : (ask : Ask) (left faults : ℕ) (next : Ending → Walk) (closed : Closed) → before ≤ after → AsksOn retries w first before ask faults next → IsCounted before after closed → IsStagedBody name now closed
      → (LivesAt (At ask left faults next) (record { lane = 0; closed = closed }) → lives) → StandsAt retries w name first after now lives (point_after retries (At ask left faults next) (record { lane = 0; closed = closed }))
  answered_at ask left faults next (Served (Bytes bytes)) grew on counted staged lived = absurd staged
  answered_at ask left faults next (Served (Staged sum)) grew on counted staged lived = comes sum next on.behind staged (lived (lives_at ask left faults next (Served (Staged sum)) tt))
  answered_at ask left faults next (Not (Moved None)) grew on counted staged lived = stops endings.Lost next on.behind refl (λ none. none) (lived (lives_at ask left faults next (Not (Moved None)) tt))
  answered_at ask left faults next (Not (Moved (Some to))) grew on counted staged lived = moves ask faults next left to on counted (lived (lives_at ask left faults next (Not (Moved (Some to))) tt))
  answered_at ask left faults next (Not (Absent status)) grew on counted staged lived = stops (endings.Absent status) next on.behind refl (λ none. none) (lived (lives_at ask left faults next (Not (Absent status)) tt))
  answered_at ask left faults next (Not TooBig) grew on counted staged lived = stops endings.TooBig next on.behind refl (λ none. none) (lived (lives_at ask left faults next (Not TooBig) tt))
  answered_at ask left faults next (Not (Garbled at)) grew on counted staged lived = stops (endings.Garbled at) next on.behind refl (λ none. none) (lived (lives_at ask left faults next (Not (Garbled at)) tt))
  answered_at ask left zero next (Not (Fault from upto)) grew on counted staged lived = dies ask left 0 from upto next on.behind refl grew on counted
  answered_at ask left (suc faults) next (Not (Fault from upto)) grew on counted staged lived = (
    lived tt,
    record {
      whole = on.whole;
      staged = on.staged;
      within = omega (arith, on.within);
      grew = omega (arith, on.grew, grew);
      rose = rose_again retries faults first before after on.within on.rose grew counted.2;
      behind = on.behind;
    },
  )

-- ---- the asks

nothing_agrees : (world : Option MirrorMap) (retries : ℕ) (p : Point) → IfSome world (λ entries. AgreesAlong entries [] retries p [])
nothing_agrees None retries p = tt
nothing_agrees (Some entries) retries p = tt

pub begun : (retries : ℕ) (w : Wanted) (name : List ℕ) (world : Option MirrorMap) (first : ℕ) (now : List State) (p : Point) → p ≡ start retries (plain_walk w) → IsUnderWay retries w name world first first now p
begun retries w name world first now p is = record {
  told = [];
  heard = is;
  agrees = λ told. nothing_agrees world retries (start retries (plain_walk w));
  stands = subst (λ (q : Point). StandsAt retries w name first first now (LivesAlong retries (start retries (plain_walk w)) []) q) (sym is)
      (tt, record { whole = refl; staged = refl; within = omega arith; grew = omega arith; rose = none_rose retries first first first (omega arith) refl; behind = refl });
}

more_agree : (world : Option MirrorMap) (retries : ℕ) (p q : Point) (ask : Ask) (left faults : ℕ) (next : Ending → Walk) (ts : List LaneAnswer) (closed : Closed) → run retries p ts ≡ At ask left faults next
    → IfSome world (λ entries. AgreesAlong entries [] retries p ts) → IfSome world (λ entries. IsFaultOr closed (answered [] ask (answer_at entries ask.uri)))
    → IfSome world (λ entries. AgreesAlong entries [] retries p (ts ++ record { lane = 0; closed = closed } ∷ []))
more_agree None retries p q ask left faults next ts closed at along now = tt
more_agree (Some entries) retries p q ask left faults next ts closed at along now =
    agrees-push entries retries p ts (record { lane = 0; closed = closed }) along (subst (λ (r : Point). AgreesAt entries [] r (record { lane = 0; closed = closed })) (sym at) now)

pub turned : (retries : ℕ) (w : Wanted) (name : List ℕ) (world : Option MirrorMap) (first before after : ℕ) (mid now : List State) (p q : Point) → before ≤ after → (IsTold now → IsTold mid)
    → IsUnderWay retries w name world first before mid p → HasAsked retries world name before after now p q → IsUnderWay retries w name world first after now q
turned retries w name world first before after mid now p q grew told under one =
    let t : LaneAnswer = record { lane = 0; closed = one.closed } in
    let begin : Point = start retries (plain_walk w) in
    let at : run retries begin under.told ≡ At one.ask one.left one.faults one.next = sym under.heard ∙ one.at in
    let stands : StandsAt retries w name first before mid (LivesAlong retries begin under.told) (At one.ask one.left one.faults one.next) = subst (λ (r : Point). StandsAt retries w name first before mid (LivesAlong retries begin under.told) r) one.at under.stands in
    let here : q ≡ point_after retries (At one.ask one.left one.faults one.next) t = one.step ∙ ap (λ (r : Point). point_after retries r t) one.at in
    record {
      told = under.told ++ t ∷ [];
      heard = one.step ∙ ap (λ (r : Point). point_after retries r t) under.heard ∙ sym (run-push retries begin under.told t);
      agrees = λ tells. more_agree world retries begin q one.ask one.left one.faults one.next under.told one.closed at (under.agrees (told tells)) (one.answer tells);
      stands = subst (λ (r : Point). StandsAt retries w name first after now (LivesAlong retries begin (under.told ++ t ∷ [])) r) (sym here)
          (answered_at retries w name first before after now (LivesAlong retries begin (under.told ++ t ∷ [])) one.ask one.left one.faults one.next one.closed grew stands.1 one.counted one.staged
          (λ lived. lives-push retries begin under.told t stands.0 (subst (λ (r : Point). LivesAt r t) (sym at) lived)));
    }

-- what is asked is a whole file
pub asks_whole : (retries : ℕ) (w : Wanted) (name : List ℕ) (first last : ℕ) (now : List State) (lives : Type 0) (p : Point) → StandsAt retries w name first last now lives p → AsksWhole p
asks_whole retries w name first last now lives (Over end) stands = tt
asks_whole retries w name first last now lives (At ask left faults next) stands = (stands.1.whole, stands.1.staged)

-- ---- fewer asks are left

none_left : (retries : ℕ) (o : Option Body) (end : End) → asks_left retries (start retries (on_some o (λ body. Finish (Got body)) (Finish end))) ≡ 0
none_left retries None end = refl
none_left retries (Some body) end = refl

module _ (retries : ℕ) (w : Wanted) where
  over_smaller : (e : Ending) (next : Ending → Walk) (n : ℕ) → Behind w next → asks_left retries (start retries (next e)) < n + 1
  over_smaller e next n behind =
      let none : asks_left retries (start retries (next e)) ≡ 0 = ap (λ (f : Ending → Walk). asks_left retries (start retries (f e))) behind ∙ none_left retries (fitting_body w.sum e) (Ended (list_cause w e)) in
      omega (arith, none)

  moved_smaller : (ask : Ask) (left faults : ℕ) (next : Ending → Walk) (to : Uri) → Behind w next → asks_left retries (lead retries ask left next (moved left ask.uri to)) < asks_behind retries left + faults + 1
  moved_smaller ask zero faults next to behind = over_smaller endings.Lost next (asks_behind retries 0 + faults) behind
  moved_smaller ask (suc left) faults next to behind = by (may_move ask.uri.scheme to.scheme)
    where
      by : (b : Bool) → asks_left retries (lead retries ask (suc left) next (if b then On to else Stop endings.Lost)) < asks_behind retries (suc left) + faults + 1
      by true = omega arith
      by false = over_smaller endings.Lost next (asks_behind retries (suc left) + faults) behind

  answer_smaller : (ask : Ask) (left faults : ℕ) (next : Ending → Walk) (closed : Closed) → Behind w next
      → asks_left retries (point_after retries (At ask left faults next) (record { lane = 0; closed = closed })) < asks_left retries (At ask left faults next)
  answer_smaller ask left faults next (Served body) behind = over_smaller (endings.Served body) next (asks_behind retries left + faults) behind
  answer_smaller ask left faults next (Not (Moved None)) behind = over_smaller endings.Lost next (asks_behind retries left + faults) behind
  answer_smaller ask left faults next (Not (Moved (Some to))) behind = moved_smaller ask left faults next to behind
  answer_smaller ask left faults next (Not (Absent status)) behind = over_smaller (endings.Absent status) next (asks_behind retries left + faults) behind
  answer_smaller ask left faults next (Not TooBig) behind = over_smaller endings.TooBig next (asks_behind retries left + faults) behind
  answer_smaller ask left faults next (Not (Garbled at)) behind = over_smaller (endings.Garbled at) next (asks_behind retries left + faults) behind
  answer_smaller ask left zero next (Not (Fault from upto)) behind = over_smaller (endings.Dead 0 from upto) next (asks_behind retries left + 0) behind
  answer_smaller ask left (suc faults) next (Not (Fault from upto)) behind = omega arith

pub turn_smaller : (retries : ℕ) (w : Wanted) (name : List ℕ) (world : Option MirrorMap) (first before after : ℕ) (mid now : List State) (p q : Point)
    → IsUnderWay retries w name world first before mid p → HasAsked retries world name before after now p q → asks_left retries q < asks_left retries p
turn_smaller retries w name world first before after mid now p q under one =
    let t : LaneAnswer = record { lane = 0; closed = one.closed } in
    let here : asks_left retries q ≡ asks_left retries (point_after retries (At one.ask one.left one.faults one.next) t) = ap (asks_left retries) (one.step ∙ ap (λ (r : Point). point_after retries r t) one.at) in
    let there : asks_left retries p ≡ asks_left retries (At one.ask one.left one.faults one.next) = ap (asks_left retries) one.at in
    let stands = subst (λ (r : Point). StandsAt retries w name first before mid (LivesAlong retries (start retries (plain_walk w)) under.told) r) one.at under.stands in
    omega (arith, here, there, answer_smaller retries w one.ask one.left one.faults one.next one.closed stands.1.behind)

-- ---- how many

pub asks_in_all : (retries : ℕ) (w : Wanted) (p : Point) → p ≡ start retries (plain_walk w) → asks_left retries p ≡ 11 * (retries + 1)
asks_in_all retries w p is =
    let all : asks_left retries (start retries (plain_walk w)) ≡ 11 * (retries + 1) = omega arith in
    ap (asks_left retries) is ∙ all

pub one_next : (p : Point) → asks_next p ≤ 1
one_next (Over end) = omega arith
one_next (At ask left faults next) = omega arith

pub next_left : (retries : ℕ) (p : Point) → asks_next p ≤ asks_left retries p
next_left retries (Over end) = omega arith
next_left retries (At ask left faults next) = omega arith

-- ---- the end

cause-by_sum : (end : End) → cause_of (by_sum end) ≡ cause_of end
cause-by_sum (Got body) = refl
cause-by_sum Stands = refl
cause-by_sum (Ended cause) = refl

abbrev wanted : Deb → Wanted
wanted deb = single deb.uri deb.path deb.sum

ends_at : (retries : ℕ) (w : Wanted) (name : List ℕ) (world : Option MirrorMap) (first last : ℕ) (now : List State) (p : Point) (end : End) → p ≡ Over end → (under : IsUnderWay retries w name world first last now p)
    → (HasLived (LivesAlong retries (start retries (plain_walk w)) under.told) end ⊎ HasDied retries w first last end) × IsHad name w now end
ends_at retries w name world first last now p end is under = subst (λ (r : Point). StandsAt retries w name first last now (LivesAlong retries (start retries (plain_walk w)) under.told) r) is under.stands

had : (name : List ℕ) (w : Wanted) (now : List State) (end : End) → IsHad name w now end → cause_of end ≡ None → IsTold now → LastsAs name now w.sum
had name w now (Got body) has none told = has told
had name w now Stands has none told = absurd has
had name w now (Ended cause) has none told = absurd cc

dead_cause : (retries : ℕ) (deb : Deb) (first last : ℕ) (end : End) → HasDied retries (wanted deb) first last end → HasFailed retries first last deb (cause_of end)
dead_cause retries deb first last end died = record {
  first = died.from;
  last = died.upto;
  is = ap cause_of died.is;
  rose = died.rose;
  begins = died.begins;
  from = died.others;
  upward = died.upward;
  upto = died.ends;
}

failed_method : (retries first last : ℕ) (deb : Deb) (cause : Option Cause) → HasFailed retries first last deb cause → IsMethod cause
failed_method retries first last deb cause failed = subst (λ (c : Option Cause). IsMethod c) (sym failed.is) tt

obtained : (retries : ℕ) (deb : Deb) (told : List LaneAnswer) (end : End) (entries : MirrorMap) → run retries (start retries (plain_walk (wanted deb))) told ≡ Over end
    → AgreesAlong entries [] retries (start retries (plain_walk (wanted deb))) told → LivesAlong retries (start retries (plain_walk (wanted deb))) told → cause_of end ≡ cause_over entries None deb
obtained retries deb told end entries is along lives =
    let route : IsHeardRoute retries (plain_walk (wanted deb)) told end = points_end_in_routes retries (plain_walk (wanted deb)) told end is in
    sym (cause-by_sum end)
    ∙ ap cause_of (lists_end_as_obtained entries None [] (wanted deb) retries route.trails end route.route (route.agrees entries [] along) (route.lives lives))
    ∙ cause-by_sum (obtain entries None [] (wanted deb))

-- what asks came to that are over
pub record CameTo (retries : ℕ) (deb : Deb) (world : Option MirrorMap) (first last : ℕ) (now : List State) (cause : Option Cause) : Type 0 where
  pub ready : cause ≡ None → IsTold now → LastsAs deb.file.0 now deb.sum
  pub answer : IsTold now → IfSome world (λ entries. (cause ≡ cause_over entries None deb) ⊎ IsMethod cause)
  pub failed : IsMethod cause → HasFailed retries first last deb cause
  pub route : IsEndOfRoute retries deb cause

came_to : (retries : ℕ) (deb : Deb) (world : Option MirrorMap) (first last : ℕ) (now : List State) (p : Point) (end : End) → p ≡ Over end → IsUnderWay retries (wanted deb) deb.file.0 world first last now p
    → CameTo retries deb world first last now (cause_of end)
came_to retries deb world first last now p end is under =
    let at = ends_at retries (wanted deb) deb.file.0 world first last now p end is under in
    let whole : run retries (start retries (plain_walk (wanted deb))) under.told ≡ Over end = sym under.heard ∙ is in
    let route : IsHeardRoute retries (plain_walk (wanted deb)) under.told end = points_end_in_routes retries (plain_walk (wanted deb)) under.told end whole in
    record {
      ready = had deb.file.0 (wanted deb) now end at.1;
      answer = λ told. by under.told whole at.0 world (under.agrees told);
      failed = λ method. ⊎_elim (λ lived. absurd (lived.other method)) (λ died. dead_cause retries deb first last end died) at.0;
      route = inr (route.trails, end, route.route, refl);
    }
  where
    by : (told : List LaneAnswer) → run retries (start retries (plain_walk (wanted deb))) told ≡ Over end
        → HasLived (LivesAlong retries (start retries (plain_walk (wanted deb))) told) end ⊎ HasDied retries (wanted deb) first last end
        → (world : Option MirrorMap) → IfSome world (λ entries. AgreesAlong entries [] retries (start retries (plain_walk (wanted deb))) told)
        → IfSome world (λ entries. (cause_of end ≡ cause_over entries None deb) ⊎ IsMethod (cause_of end))
    by told whole ends None along = tt
    by told whole (inl lived) (Some entries) along = inl (obtained retries deb told end entries whole along lived.lived)
    by told whole (inr died) (Some entries) along = inr (failed_method retries first last deb (cause_of end) (dead_cause retries deb first last end died))

pub cause_came : (retries : ℕ) (deb : Deb) (world : Option MirrorMap) (first last : ℕ) (now : List State) (p : Point) (end : End) (cause : Option Cause) → p ≡ Over end → cause ≡ cause_of end
    → IsUnderWay retries (wanted deb) deb.file.0 world first last now p → CameTo retries deb world first last now cause
cause_came retries deb world first last now p end cause is same under =
    subst (λ (c : Option Cause). CameTo retries deb world first last now c) (sym same) (came_to retries deb world first last now p end is under)

-- the same answer, of retries and a mirror that are the same
pub asked_as : (retries other : ℕ) (world seen : Option MirrorMap) (name : List ℕ) (before after : ℕ) (now : List State) (p q : Point) → other ≡ retries → seen ≡ world → HasAsked other seen name before after now p q
    → HasAsked retries world name before after now p q
asked_as retries other world seen name before after now p q same mirror one =
    subst (λ (m : Option MirrorMap). HasAsked retries m name before after now p q) mirror (subst (λ (n : ℕ). HasAsked n seen name before after now p q) same one)

-- where nothing is asked, the asks are over
pub over_where : (p : Point) → asked p ≡ None → (end : End) × (p ≡ Over end)
over_where (Over end) none = (end, refl)
over_where (At ask left faults next) none = absurd cc

-- where nothing was asked, all is as it was
pub same_under : (retries : ℕ) (w : Wanted) (name : List ℕ) (world : Option MirrorMap) (first last later : ℕ) (now new : List State) (p q : Point) → later ≡ last → new ≡ now → q ≡ p → IsUnderWay retries w name world first last now p
    → IsUnderWay retries w name world first later new q
same_under retries w name world first last later now new p q counted still same under =
    subst (λ (n : ℕ). IsUnderWay retries w name world first n new q) (sym counted) (subst (λ (l : List State). IsUnderWay retries w name world first last l q) (sym still) (subst (λ (r : Point). IsUnderWay retries w name world first last now r) (sym same) under))
