-- In which order the asks for a list use its partial file.
use Rattle.std.proofs.Common.{◌≡◌, ◌∙◌, ◌⊎◌, inl, inr, ℕ, zero, suc, nat_lt, Bool, true, false, List, [], ◌∷◌, Option, Some, None, refl, ap, arith, codes}
use Rattle.std.specs.Prelude.{if◌then◌else◌, option_and_then}
use Rattle.std.proofs.lemmas.Bool.Decides.{nat_tests}
use Rattle.std.proofs.lemmas.Bool.{and_parts}
use Rattle.acq_base.specs.declared.plan.Source.{Source}
use Rattle.acq_base.specs.declared.sum.Sum.{Sum}
use Rattle.acq_base.specs.declared.uri.Uri.{Uri}
use Rattle.pdiff_index.specs.declared.index.Step.{Step}
use Rattle.release_file.specs.Release.{same_sum}
use Rattle.update_model.specs.Files.{fitting, served, sum_of_body}
use Rattle.update_model.specs.Obtained.{first_uri, is_resumed, list_cause}
use Rattle.update_model.specs.Points.{Point, Over, At, lead, run, start, point_after}
use Rattle.update_model.specs.Reach.{On, Stop, may_move, moved}
use Rattle.update_model.specs.Releases.{in_release_uri, release_end, release_limit}
use Rattle.update_model.specs.Trails.{Leads, LaneAnswer, less}
use Rattle.update_model.specs.Walks.{Walk, Finish, Try, after_in_release, candidates_walk, got_else, index_walk, list_ask, on_some, patches_walk, patched_walk, plain_walk, release_walk, resume_walk, target_walk, whole_ask}
use Rattle.update_model.specs.Wanted.{chain, edited_by, patch_uri}
use Rattle.update_model.specs.declared.ask.Ask.{Ask}
use Rattle.update_model.specs.declared.ask.Body.{Body}
use Rattle.update_model.specs.declared.ask.Body.TheVariants.{Bytes, Staged}
use Rattle.update_model.specs.declared.ask.Closed.{Closed}
use Rattle.acq_base.specs.declared.fetch.NotServed.TheVariants as nots
use Rattle.update_model.specs.declared.ask.Closed.TheVariants as closings
use Rattle.update_model.specs.declared.ask.Ending.{Ending}
use Rattle.update_model.specs.declared.ask.Ending.TheVariants.{Served, TooBig, Absent, Lost, Garbled, Dead}
use Rattle.update_model.specs.declared.end.End.{End}
use Rattle.update_model.specs.declared.end.End.TheVariants.{Got, Stands, Ended}
use Rattle.update_model.specs.declared.wanted.Wanted.{Wanted}
use Rattle.board_model.specs.Uses.{WantedPart, Whole, Free, BeginsWell, Falls, IsLastFile, UsesWell, use_at, use_from, use_of_end, use_while}

-- ---- walks

some-uses : {A : Type 0} (size : ℕ) (before : WantedPart) (e : Ending) (o : Option A) (goes : A → Walk) (other : Walk)
    → ((x : A) → IsLastFile e (goes x) × UsesWell size before (goes x)) → IsLastFile e other × UsesWell size before other
    → IsLastFile e (on_some o goes other) × UsesWell size before (on_some o goes other)
some-uses size before e None goes other h k = k
some-uses size before e (Some x) goes other h k = h x

got-uses : (size : ℕ) (before : WantedPart) (w : Wanted) (e : Ending) (other : Walk) → IsLastFile e other → UsesWell size before other
    → IsLastFile e (got_else w e other) × UsesWell size before (got_else w e other)
got-uses size before w (Served body) other last uses = one body (same_sum (sum_of_body body) w.sum) last
  where
    one : (body : Body) (fits : Bool) → IsLastFile (Served body) other → IsLastFile (Served body) (on_some (if fits then Some body else None) (λ b. Finish (Got b)) other)
        × UsesWell size before (on_some (if fits then Some body else None) (λ b. Finish (Got b)) other)
    one (Bytes bytes) true last = (tt, tt)
    one (Staged sum) true last = (refl, tt)
    one body false last = (last, uses)
got-uses size before w TooBig other last uses = (last, uses)
got-uses size before w (Absent status) other last uses = (last, uses)
got-uses size before w Lost other last uses = (last, uses)
got-uses size before w (Garbled at) other last uses = (last, uses)
got-uses size before w (Dead lane from to) other last uses = (last, uses)

-- an ask for the whole list may come at any time
whole-begins : (size : ℕ) (before : WantedPart) (uri : Uri) (w : Wanted) → BeginsWell size before (list_ask uri w 0)
whole-begins size before uri w = record { falls = inr refl; below = inl refl; staged = λ e. refl }

-- one for what is held in memory as long as nothing was asked for the list
held-begins : (size : ℕ) (uri : Uri) (max : ℕ) → BeginsWell size (use_from size) (whole_ask uri max)
held-begins size uri max = record { falls = inl refl; below = inl refl; staged = λ e. refl }

plain-uses : (size : ℕ) (before : WantedPart) (w : Wanted) → UsesWell size before (plain_walk w)
plain-uses size before w = (whole-begins size before w.uri w, λ e. got-uses size Free w e (Finish (Ended (list_cause w e))) tt tt)

candidates-use : (size : ℕ) (before : WantedPart) (w : Wanted) (o : Option Uri) → UsesWell size before (candidates_walk w o)
candidates-use size before w None = plain-uses size before w
candidates-use size before w (Some uri) = (whole-begins size before uri w, λ e. got-uses size Free w e (plain_walk w) tt (plain-uses size Free w))

candidates-last : (e : Ending) (w : Wanted) (o : Option Uri) → IsLastFile e (candidates_walk w o)
candidates-last e w None = tt
candidates-last e w (Some uri) = tt

resume-uses : (part : ℕ) (w : Wanted) (e : Ending) → IsLastFile e (resume_walk w part) × UsesWell part (use_from part) (resume_walk w part)
resume-uses part w e = one (is_resumed part w) refl
  where
    one : (c : Bool) → is_resumed part w ≡ c
        → IsLastFile e (if c then Try (list_ask (first_uri w w.hashed) w part) (λ e. got_else w e (candidates_walk w w.hashed)) else candidates_walk w w.hashed)
        × UsesWell part (use_from part) (if c then Try (list_ask (first_uri w w.hashed) w part) (λ e. got_else w e (candidates_walk w w.hashed)) else candidates_walk w w.hashed)
    one false is = (candidates-last e w w.hashed, candidates-use part (use_from part) w w.hashed)
    one true is =
        let fits = (and_parts (nat_lt 0 part) (nat_lt part w.sum.size) is).1 in (
          tt,
          (
            record { falls = inl refl; below = inr (grind (arith, nat_tests, fits)); staged = λ e. absurd (cc) },
            λ e. got-uses part (use_from part) w e (candidates_walk w w.hashed) (candidates-last e w w.hashed) (candidates-use part (use_from part) w w.hashed),
          ),
        )

patches-use : (part : ℕ) (w : Wanted) (e : Ending) (steps : List Step) (file : List ℕ)
    → IsLastFile e (patches_walk w (resume_walk w part) steps file) × UsesWell part (use_from part) (patches_walk w (resume_walk w part) steps file)
patches-use part w e [] file =
    some-uses part (use_from part) e (fitting w.sum (Some file)) (λ bytes. Finish (Got (Bytes bytes))) (resume_walk w part) (λ bytes. (tt, tt)) (resume-uses part w e)
patches-use part w e (s ∷ steps) file = (
  tt,
  (
    held-begins part (patch_uri w s.name) s.sum.size,
    λ e. some-uses part (use_from part) e (option_and_then (edited_by file) (fitting s.sum (served e))) (λ next. patches_walk w (resume_walk w part) steps next) (resume_walk w part)
        (λ next. patches-use part w e steps next) (resume-uses part w e),
  ),
)

target-both : (e : Ending) (installed : Option (List ℕ)) (part : ℕ) (w : Wanted)
    → IsLastFile e (target_walk installed part w) × UsesWell part (use_from part) (target_walk installed part w)
target-both first installed part w =
    (some-uses part (use_from part) first (fitting w.sum installed) (λ bytes. Finish Stands) (patched_walk installed w (resume_walk w part)) (λ bytes. (tt, tt))
    (some-uses part (use_from part) first installed (λ file. on_some w.index (λ sum. index_walk w (resume_walk w part) file sum) (resume_walk w part)) (resume_walk w part)
    (λ file. some-uses part (use_from part) first w.index (λ sum. index_walk w (resume_walk w part) file sum) (resume_walk w part)
    (λ sum. (
      tt,
      (
        held-begins part (patch_uri w (codes "Index")) sum.size,
        λ e. some-uses part (use_from part) e (option_and_then (chain w file) (fitting sum (served e))) (λ steps. patches_walk w (resume_walk w part) steps file) (resume_walk w part)
            (λ steps. patches-use part w e steps file) (resume-uses part w e),
      ),
    ))
    (resume-uses part w first))
    (resume-uses part w first)))

pub target-uses : (installed : Option (List ℕ)) (part : ℕ) (w : Wanted) → UsesWell part (use_from part) (target_walk installed part w)
target-uses installed part w = (target-both Lost installed part w).1

pub target-last : (e : Ending) (installed : Option (List ℕ)) (part : ℕ) (w : Wanted) → IsLastFile e (target_walk installed part w)
target-last e installed part w = (target-both e installed part w).0

pub release-uses : (source : Source) → UsesWell 0 Free (release_walk source)
release-uses source = (held-begins 0 (in_release_uri source) release_limit, after)
  where
    again : UsesWell 0 Free (Try (whole_ask source.release release_limit) (λ e. Finish (release_end e)))
    again = (held-begins 0 source.release release_limit, λ e. (ended e, tt))
      where
        ended : (e : Ending) → IsLastFile e (Finish (release_end e))
        ended (Served (Bytes bytes)) = tt
        ended (Served (Staged sum)) = refl
        ended TooBig = tt
        ended (Absent status) = tt
        ended Lost = tt
        ended (Garbled at) = tt
        ended (Dead lane from to) = tt

    after : (e : Ending) → IsLastFile e (after_in_release e (Try (whole_ask source.release release_limit) (λ e. Finish (release_end e))))
        × UsesWell 0 Free (after_in_release e (Try (whole_ask source.release release_limit) (λ e. Finish (release_end e))))
    after (Served (Bytes bytes)) = (tt, tt)
    after (Served (Staged sum)) = (refl, tt)
    after TooBig = (tt, again)
    after (Absent status) = (tt, again)
    after Lost = (tt, again)
    after (Garbled at) = (tt, again)
    after (Dead lane from to) = (tt, tt)

-- ---- points

-- what is asked now and later uses the partial file well
abbrev pub UsesAt : ℕ → WantedPart → Point → Type 0
UsesAt size before (Over end) = Unit {0}
UsesAt size before (At ask left retries next) =
    BeginsWell size before ask × ((e : Ending) → IsLastFile e (next e) × UsesWell size (use_while size ask) (next e))

pub start-uses : (size retries : ℕ) (before : WantedPart) (walk : Walk) → UsesWell size before walk → UsesAt size before (start retries walk)
start-uses size retries before (Finish end) h = tt
start-uses size retries before (Try ask next) h = h

-- where an answer leads, the file that was served whole is wanted, or no more than before
abbrev pub WholeBy : Closed → WantedPart → Type 0
WholeBy closed after = (sum : Sum) × (closed ≡ closings.Served (Staged sum)) × (after ≡ Whole sum)

pub record Led (size : ℕ) (was before : WantedPart) (closed : Closed) (p : Point) : Type 0 where
  pub now : WantedPart
  pub lower : Falls was now
  pub uses : UsesAt size now p
  pub falls : Falls before (use_at size p) ⊎ WholeBy closed (use_at size p)

end-falls : (size : ℕ) (before : WantedPart) (closed : Closed) (e : Ending) (end : End) → IsLastFile e (Finish end)
    → ((sum : Sum) → e ≡ Served (Staged sum) → closed ≡ closings.Served (Staged sum)) → Falls before (use_of_end end) ⊎ WholeBy closed (use_of_end end)
end-falls size before closed e (Got (Bytes bytes)) last told = inl (inr refl)
end-falls size before closed e (Got (Staged sum)) last told = inr (sum, told sum last, refl)
end-falls size before closed e Stands last told = inl (inr refl)
end-falls size before closed e (Ended cause) last told = inl (inr refl)

stop-led : (size retries : ℕ) (was : WantedPart) (ask : Ask) (closed : Closed) (e : Ending) (walk : Walk) → Falls was (use_while size ask) → IsLastFile e walk → UsesWell size (use_while size ask) walk
    → ((sum : Sum) → e ≡ Served (Staged sum) → closed ≡ closings.Served (Staged sum)) → Led size was (use_while size ask) closed (start retries walk)
stop-led size retries was ask closed e (Finish end) lower last uses told = record { now = Free; lower = inr refl; uses = tt; falls = end-falls size (use_while size ask) closed e end last told }
stop-led size retries was ask closed e (Try next_ask next) lower last uses told = record { now = use_while size ask; lower = lower; uses = uses; falls = inl uses.0.falls }

-- on to another place with the same ask
on-led : (size left retries : ℕ) (before : WantedPart) (ask : Ask) (to : Uri) (next : Ending → Walk) (closed : Closed) → UsesAt size before (At ask left retries next)
    → (n : ℕ) → Led size before (use_while size ask) closed (At (record ask { uri = to }) n retries next)
on-led size left retries before ask to next closed h n = record {
  now = before;
  lower = inl refl;
  uses = (record { falls = h.0.falls; below = h.0.below; staged = h.0.staged }, h.1);
  falls = inl (inl refl);
}

pub step-uses : (size retries : ℕ) (before : WantedPart) (p : Point) (t : LaneAnswer) → UsesAt size before p → Led size before (use_at size p) t.closed (point_after retries p t)
step-uses size retries before (Over end) t h = record { now = before; lower = inl refl; uses = tt; falls = inl (inl refl) }
step-uses size retries before (At ask left faults next) t h = one t.closed faults
  where
    ends : (closed : Closed) (e : Ending) → ((sum : Sum) → e ≡ Served (Staged sum) → closed ≡ closings.Served (Staged sum)) → Led size before (use_while size ask) closed (start retries (next e))
    ends closed e told = stop-led size retries before ask closed e (next e) h.0.falls (h.1 e).0 (h.1 e).1 told

    follows : (l : ℕ) (to : Uri) (go : Bool) → Led size before (use_while size ask) (closings.Not (nots.Moved (Some to))) (lead retries ask left next (if go then On to else Stop Lost))
    follows l to true = on-led size left retries before ask to next (closings.Not (nots.Moved (Some to))) h (less left)
    follows l to false = ends (closings.Not (nots.Moved (Some to))) Lost (λ sum e. absurd (cc))

    goes : (l : ℕ) (to : Uri) → Led size before (use_while size ask) (closings.Not (nots.Moved (Some to))) (lead retries ask left next (moved l ask.uri to))
    goes zero to = ends (closings.Not (nots.Moved (Some to))) Lost (λ sum e. absurd (cc))
    goes (suc l) to = follows l to (may_move ask.uri.scheme to.scheme)

    one : (closed : Closed) (faults : ℕ) → Led size before (use_while size ask) closed (Leads left ask.uri t.lane closed faults (λ n. At ask left n next) (λ w. lead retries ask left next w))
    one (closings.Not (nots.Fault from to)) zero = ends (closings.Not (nots.Fault from to)) (Dead t.lane from to) (λ sum e. absurd (cc))
    one (closings.Not (nots.Fault from to)) (suc n) = record { now = before; lower = inl refl; uses = h; falls = inl (inl refl) }
    one (closings.Served body) faults = ends (closings.Served body) (Served body) (λ sum e. let same : body ≡ Staged sum = cc in ap closings.Served same)
    one (closings.Not (nots.Moved None)) faults = ends (closings.Not (nots.Moved None)) Lost (λ sum e. absurd (cc))
    one (closings.Not (nots.Moved (Some to))) faults = goes left to
    one (closings.Not (nots.Absent status)) faults = ends (closings.Not (nots.Absent status)) (Absent status) (λ sum e. absurd (cc))
    one (closings.Not nots.TooBig) faults = ends (closings.Not nots.TooBig) TooBig (λ sum e. absurd (cc))
    one (closings.Not (nots.Garbled at)) faults = ends (closings.Not (nots.Garbled at)) (Garbled at) (λ sum e. absurd (cc))

pub falls-on : (a b c : WantedPart) → Falls a b → Falls b c → Falls a c
falls-on a b c h (inr free) = inr free
falls-on a b c (inl same) (inl next) = inl (next ∙ same)
falls-on a b c (inr free) (inl next) = inr (next ∙ free)

pub run-uses : (size retries : ℕ) (first before : WantedPart) (p : Point) (ts : List LaneAnswer) → Falls first before → UsesAt size before p
    → (now : WantedPart) × Falls first now × UsesAt size now (run retries p ts)
run-uses size retries first before p [] lower h = (before, lower, h)
run-uses size retries first before p (t ∷ ts) lower h =
    let led = step-uses size retries before p t h in
    run-uses size retries first led.now (point_after retries p t) ts (falls-on first before led.now lower led.lower) led.uses
