-- A Release that a run heard from a mirror.
use Rattle.std.proofs.Common.{◌≡◌, ◌∙◌, refl, sym, ap, subst, arith, ℕ, Bool, true, false, List, [], ◌∷◌, Option, Some, Ok}
use Rattle.std.specs.Prelude.{if◌then◌else◌, option_and_then, slice_get}
use Rattle.std.specs.List.{AllByRecursion as Each}
use Rattle.std.proofs.lemmas.Bool.Decides.{nat_tests}
use Rattle.acq_base.specs.Mirror.{MirrorMap, answer_at}
use Rattle.acq_base.specs.declared.installed.Old.{Old}
use Rattle.acq_base.specs.declared.plan.Source.{Source}
use Rattle.board_model.specs.Agreeing.{Agrees, part_at, part_of}
use Rattle.board_model.specs.Ends.{ComesTo}
use Rattle.board_model.specs.Keys.{name_at, same_key}
use Rattle.board_model.specs.Runs.{Note}
use Rattle.board_model.specs.Slots.{Setup}
use Rattle.board_model.specs.Stands.{AreAsked, history_of, of_key, lane_answers}
use Rattle.board_model.specs.declared.key.Key.{Key}
use Rattle.item_graph.specs.Histories.{AgreesAlong}
use Rattle.update_model.specs.Faults.{ReleasesHadAreObtained}
use Rattle.update_model.specs.Laws.{IsHad}
use Rattle.update_model.specs.Outcomes.{PartFiles, bytes_of}
use Rattle.update_model.specs.Points.{Point, Over, At, start, point_after}
use Rattle.update_model.specs.Releases.{obtain_release}
use Rattle.update_model.specs.Trails.{IsFaultOr, answered}
use Rattle.update_model.specs.Walks.{release_walk}
use Rattle.update_model.specs.declared.ask.Ask.{Ask}
use Rattle.update_model.specs.declared.end.End.{End}
use Rattle.update_model.specs.declared.end.End.TheVariants.{Got, Stands, Ended}
use Rattle.update_model.specs.declared.settled.Verdict2.{Verdict2}

abbrev pub SaysIts : MirrorMap → List ℕ → Note → Type 0
SaysIts mirror part note = IsFaultOr note.told.closed (answered part note.ask (answer_at mirror note.ask.uri))

pub agrees_along : (mirror : MirrorMap) (part : List ℕ) (retries : ℕ) (p : Point) (notes : List Note) → AreAsked retries p notes → Each (SaysIts mirror part) notes → AgreesAlong mirror part retries p (lane_answers notes)
agrees_along mirror part retries p [] asks said = tt
agrees_along mirror part retries (Over end) (note ∷ notes) asks said = let none = asks.0 in absurd (cc)
agrees_along mirror part retries (At ask left faults next) (note ∷ notes) asks said =
    let is = asks.0 in
    let same : ask ≡ note.ask = cc in (
      subst (λ (a : Ask). IsFaultOr note.told.closed (answered part a (answer_at mirror a.uri))) (sym same) said.0,
      agrees_along mirror part retries (point_after retries (At ask left faults next) note.told) notes asks.1 said.1,
    )

-- the notes of one item
pub said_by : (mirror : MirrorMap) (parts : PartFiles) (sources : List Source) (key : Key) (part : List ℕ) (notes : List Note) → part_at parts sources key ≡ part → Agrees mirror parts sources notes → Each (SaysIts mirror part) (of_key key notes)
said_by mirror parts sources key part [] is h = tt
said_by mirror parts sources key part (note ∷ notes) is h = one (same_key note.key key) refl (said_by mirror parts sources key part notes is h.1)
  where
    here : same_key note.key key ≡ true → SaysIts mirror part note
    here same =
        let source : note.key.source ≡ key.source = grind (arith, nat_tests, same) in
        let place : note.key.place ≡ key.place = grind (arith, nat_tests, same) in
        let part_is : part_at parts sources note.key ≡ part =
        ap (λ (s : ℕ). part_at parts sources (record { source = s; place = note.key.place })) source
        ∙ ap (λ (p : ℕ). part_at parts sources (record { source = key.source; place = p })) place ∙ is in
        subst (λ (x : List ℕ). SaysIts mirror x note) part_is h.0

    one : (c : Bool) → same_key note.key key ≡ c → Each (SaysIts mirror part) (of_key key notes) → Each (SaysIts mirror part) (if c then note ∷ of_key key notes else of_key key notes)
    one true same rest = (here same, rest)
    one false same rest = rest

had_bytes : (end : End) (bytes : List ℕ) → bytes_of end ≡ Ok bytes → IsHad end
had_bytes (Got body) bytes is = tt
had_bytes Stands bytes is = tt
had_bytes (Ended cause) bytes is = absurd (cc)

-- a Release that has come is the mirror's
pub release_is_mirrors : ReleasesHadAreObtained → (mirror : MirrorMap) (parts : PartFiles) (config : Setup) (n : ℕ) (source : Source) (old : Old) (heard : List Note) (verdict : Verdict2) (bytes : List ℕ)
    → slice_get config.sources n ≡ Some source → Agrees mirror parts config.sources heard → (comes : ComesTo config n source old (history_of n heard) verdict) → bytes_of comes.end ≡ Ok bytes
    → comes.end ≡ obtain_release mirror source
release_is_mirrors law mirror parts config n source old heard verdict bytes is agrees comes has =
    let none : part_at parts config.sources (record { source = n; place = 0 }) ≡ [] = ap (λ (s : Option Source). part_of parts (option_and_then (λ source. name_at source 0) s)) is in
    law mirror source config.settings.retries comes.release.told.trails comes.end comes.release.told.route
    (comes.release.told.agrees mirror []
    (agrees_along mirror [] config.settings.retries (start config.settings.retries (release_walk source)) (history_of n heard 0) comes.release.asks
    (said_by mirror parts config.sources (record { source = n; place = 0 }) [] heard none agrees)))
    (had_bytes comes.end bytes has)
