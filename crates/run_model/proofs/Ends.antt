-- With what the Release of a source ended, by all that was heard of it.
use Rattle.std.proofs.Common.{◌≡◌, ◌∙◌, refl, sym, ap, subst, ℕ, Bool, true, false, List, [], ◌∷◌, ◌++◌, map, Option, Some, None, Result, Ok, Err}
use Rattle.std.specs.Prelude.{ℤ, if◌then◌else◌}
use Rattle.acq_base.specs.declared.installed.Old.{Old}
use Rattle.acq_base.specs.declared.plan.Source.{Source}
use Rattle.acq_base.specs.declared.settings.Settings.{Settings}
use Rattle.board_model.specs.Ends.{ComesTo, ListEnd}
use Rattle.board_model.specs.Keys.{same_key}
use Rattle.board_model.specs.Runs.{Note}
use Rattle.board_model.specs.Slots.{Setup}
use Rattle.board_model.specs.Stands.{AreAsked, history_of, of_key, lane_answers}
use Rattle.board_model.specs.declared.key.Key.{Key}
use Rattle.item_graph.specs.Refinement.{asked}
use Rattle.release_file.specs.declared.changing.Change.{Change}
use Rattle.update_model.specs.Outcomes.{AdmittedRelease, Staying, ◌>>=◌, admitted, all_had, outcome}
use Rattle.update_model.specs.Points.{Point, Over, run, start, point_after}
use Rattle.update_model.specs.Walks.{release_walk}
use Rattle.update_model.specs.declared.end.End.{End}
use Rattle.update_model.specs.declared.settled.Verdict2.{Verdict2}
use Rattle.run_model.specs.Coming.{outcome_at}

-- a set that a source comes to is of the Release with which it ended
pub outcome_admitted : (end : End) (ends : List End) (old : Option (List ℕ)) (settings : Settings) (change : Change) (now : ℤ) (set : AdmittedRelease) → outcome end ends old settings change now ≡ Ok set → admitted end old settings change now ≡ Ok set
outcome_admitted end ends old settings change now set is = one (admitted end old settings change now) (all_had ends) is
  where
    one : (came : Result AdmittedRelease Staying) (each : Result (Unit {0}) Staying) → (came >>= (λ found. each >>= (λ e. Ok found))) ≡ Ok set → came ≡ Ok set
    one (Ok found) (Ok each) e = e
    one (Ok found) (Err why) e = absurd (cc)
    one (Err why) each e = absurd (cc)

pub set_admitted : (config : Setup) (old : Old) (end : End) (lists : List ListEnd) (set : AdmittedRelease) → outcome_at config old end lists ≡ Ok set → admitted end old.release config.settings config.change config.now ≡ Ok set
set_admitted config old end lists set is = outcome_admitted end (map (λ (l : ListEnd). l.end) lists) old.release config.settings config.change config.now set is

-- ---- what is heard behind an end

pub over_once : (end end' : End) → Over end ≡ Over end' → end ≡ end'
over_once end end' is = cc

-- an item that has ended is told nothing more
ends_once : (retries : ℕ) (p : Point) (notes later : List Note) (end end' : End) → run retries p (lane_answers notes) ≡ Over end → AreAsked retries p (notes ++ later) → run retries p (lane_answers (notes ++ later)) ≡ Over end' → end ≡ end'
ends_once retries p [] [] end end' is asks is' = over_once end end' (sym is ∙ is')
ends_once retries p [] (note ∷ later) end end' is asks is' =
    let none : None ≡ Some note.ask = subst (λ (q : Point). asked q ≡ Some note.ask) is asks.0 in absurd (cc)
ends_once retries p (note ∷ notes) later end end' is asks is' = ends_once retries (point_after retries p note.told) notes later end end' is asks.1 is'

of_key_behind : (key : Key) (notes later : List Note) → of_key key (notes ++ later) ≡ of_key key notes ++ of_key key later
of_key_behind key [] later = refl
of_key_behind key (note ∷ notes) later = one (same_key note.key key) (of_key_behind key notes later)
  where
    one : (c : Bool) → of_key key (notes ++ later) ≡ of_key key notes ++ of_key key later
        → (if c then note ∷ of_key key (notes ++ later) else of_key key (notes ++ later)) ≡ (if c then note ∷ of_key key notes else of_key key notes) ++ of_key key later
    one true rest = ap (λ ns. note ∷ ns) rest
    one false rest = rest

-- the Release of a source that had come to something ends so, whatever else the run hears
pub same_release : (config : Setup) (n : ℕ) (source : Source) (old : Old) (heard notes later : List Note) (verdict verdict' : Verdict2) → heard ≡ notes ++ later
    → (came : ComesTo config n source old (history_of n notes) verdict) (last : ComesTo config n source old (history_of n heard) verdict') → came.end ≡ last.end
same_release config n source old heard notes later verdict verdict' so_far came last =
    let behind : history_of n heard 0 ≡ history_of n notes 0 ++ history_of n later 0 =
    ap (λ (ns : List Note). history_of n ns 0) so_far ∙ of_key_behind (record { source = n; place = 0 }) notes later in
    ends_once config.settings.retries (start config.settings.retries (release_walk source)) (history_of n notes 0) (history_of n later 0) came.end last.end came.release.ends
    (subst (λ (ns : List Note). AreAsked config.settings.retries (start config.settings.retries (release_walk source)) ns) behind last.release.asks)
    (subst (λ (ns : List Note). run config.settings.retries (start config.settings.retries (release_walk source)) (lane_answers ns) ≡ Over last.end) behind last.release.ends)

pub ok_once : (o : Result AdmittedRelease Staying) (a b : AdmittedRelease) → o ≡ Ok a → o ≡ Ok b → a ≡ b
ok_once o a b is is' = let both : Ok a ≡ Ok b = sym is ∙ is' in cc
