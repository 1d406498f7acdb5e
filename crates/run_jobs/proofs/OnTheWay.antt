-- What a job, and what others, leave of the lists on their way.
use Rattle.std.proofs.Common.{◌≡◌, ◌∙◌, inl, inr, refl, sym, ap, subst, ℕ, List, [], ◌∷◌, ◌++◌, Option, Some, IfSome}
use Rattle.std.specs.Prelude.{is_some}
use Rattle.std.proofs.lemmas.List.{append_assoc}
use Rattle.acq_base.specs.declared.plan.Source.{Source}
use Rattle.acq_base.specs.declared.uri.ListName.{ListName}
use Rattle.acq_outside.specs.Crash.{State}
use Rattle.board_model.specs.Runs.{Note}
use Rattle.journal_model.specs.Rest.{part_file}
use Rattle.run_jobs.specs.OnTheWay.{LeftAs, NoFileCame, StaysOnItsWay, WasLeft, list_of}
use Rattle.update_model.specs.declared.ask.Body.TheVariants as bodies
use Rattle.update_model.specs.declared.ask.Closed.{Closed}
use Rattle.update_model.specs.declared.ask.Closed.TheVariants as closings

-- ---- what is left goes on

-- a file that stays is left as it was left
pub left_on : (name : List ℕ) (from : ℕ) (closed : Closed) (old now : List State) → part_file now name ≡ part_file old name → LeftAs name old from closed → LeftAs name now from closed
left_on name from (closings.Served (bodies.Staged sum)) old now same left = record { bytes = left.bytes; file = same ∙ left.file; sums = left.sums }
left_on name from (closings.Served (bodies.Bytes bytes)) old now same left = left
left_on name from (closings.Not end) old now same left = rw same left

pub none_both : (sources : List Source) (name : List ℕ) (notes more : List Note) → NoFileCame sources name notes → NoFileCame sources name more → NoFileCame sources name (notes ++ more)
none_both sources name [] more none later = later
none_both sources name (note ∷ notes) more none later = (none.0, none_both sources name notes more none.1 later)

-- one after another
pub stays_on : (sources : List Source) (name : List ℕ) (notes more : List Note) (opened old now : List State) → StaysOnItsWay sources notes opened old name → StaysOnItsWay sources more old now name
    → StaysOnItsWay sources (notes ++ more) opened now name
stays_on sources name notes more opened old now (inl first) (inl same) = inl (same.0 ∙ first.0, none_both sources name notes more first.1 same.1)
stays_on sources name notes more opened old now (inr w) (inl same) = inr (record {
  earlier = w.earlier;
  note = w.note;
  later = w.later ++ more;
  is = ap (λ (ns : List Note). ns ++ more) w.is ∙ append_assoc w.earlier (w.note ∷ w.later) more;
  own = w.own;
  left = left_on name w.note.ask.from w.note.told.closed old now same.0 w.left;
  last = none_both sources name w.later more w.last same.1;
})
stays_on sources name notes more opened old now first (inr w) = inr (record {
  earlier = notes ++ w.earlier;
  note = w.note;
  later = w.later;
  is = ap (λ (ns : List Note). notes ++ ns) w.is ∙ sym (append_assoc notes w.earlier (w.note ∷ w.later));
  own = w.own;
  left = w.left;
  last = w.last;
})

-- where nothing was heard the file stays
no_notes : (earlier later : List Note) (note : Note) → [] ≡ earlier ++ note ∷ later → ⊥
no_notes [] later note is = absurd (cc)
no_notes (e ∷ earlier) later note is = absurd (cc)

pub unheard_same : (sources : List Source) (name : List ℕ) (old now : List State) → StaysOnItsWay sources [] old now name → part_file now name ≡ part_file old name
unheard_same sources name old now (inl same) = same.0
unheard_same sources name old now (inr w) = absurd (no_notes w.earlier w.later w.note w.is)

pub same_unheard : (sources : List Source) (name : List ℕ) (old now : List State) → part_file now name ≡ part_file old name → StaysOnItsWay sources [] old now name
same_unheard sources name old now same = inl (same, tt)

pub stays_same : (sources : List Source) (name : List ℕ) (notes : List Note) (opened old now : List State) → part_file now name ≡ part_file old name → StaysOnItsWay sources notes opened old name → StaysOnItsWay sources notes opened now name
stays_same sources name notes opened old now same (inl first) = inl (same ∙ first.0, first.1)
stays_same sources name notes opened old now same (inr w) = inr (record {
  earlier = w.earlier;
  note = w.note;
  later = w.later;
  is = w.is;
  own = w.own;
  left = left_on name w.note.ask.from w.note.told.closed old now same w.left;
  last = w.last;
})

-- ---- one job

-- the note of a job is of the list whose file it fetches, where it fetches one
pub record IsNoteOf (sources : List Source) (staged : Option ListName) (from : ℕ) (note : Note) : Type 0 where
  pub from_is : note.ask.from ≡ from
  pub stage : note.ask.stage ≡ is_some staged
  pub list : IfSome staged (λ name. list_of sources note.key ≡ Some name.0)

-- the one answer left the list's file so
pub one_left : (sources : List Source) (name : ListName) (from : ℕ) (note : Note) (now : List State) → IsNoteOf sources (Some name) from note → LeftAs name.0 now from note.told.closed → WasLeft sources name.0 (note ∷ []) now
one_left sources name from note now n left = record {
  earlier = [];
  note = note;
  later = [];
  is = refl;
  own = record { own = n.list; staged = n.stage };
  left = subst (λ (k : ℕ). LeftAs name.0 now k note.told.closed) (sym n.from_is) left;
  last = tt;
}

-- ---- all other files
