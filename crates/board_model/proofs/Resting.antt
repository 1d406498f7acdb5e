-- What is wanted of the partial files behind each call.
use Rattle.std.proofs.Common.{◌≡◌, ◌<◌, ◌∙◌, ◌⊎◌, inl, inr, ℕ, zero, suc, ◌+◌, Bool, true, false, List, [], ◌∷◌, length, map, Option, Some, None, refl, sym, ap, subst, arith}
use Rattle.std.specs.Prelude.{bytes_eq, if◌then◌else◌, option_map, slice_get, Result, Ok, Err}
use Rattle.std.proofs.lemmas.Slice.Eq.{bytes_eq-Decides}
use Rattle.acq_base.specs.declared.installed.Old.{Old}
use Rattle.acq_base.specs.declared.plan.Source.{Source}
use Rattle.acq_base.specs.declared.plan.Target.{Target}
use Rattle.acq_base.specs.declared.sum.Sum.{Sum}
use Rattle.acq_base.specs.declared.uri.ListName.{ListName}
use Rattle.host_queues.specs.Lanes.{changed_at}
use Rattle.item_graph.specs.Refinement.{asked}
use Rattle.release_file.specs.Release.{listed_sum}
use Rattle.release_file.specs.declared.release.Release.{Release}
use Rattle.update_model.specs.Outcomes.{AdmittedRelease, Staying, admitted}
use Rattle.update_model.specs.Points.{Point, Over, At, start}
use Rattle.update_model.specs.Releases.{release_text}
use Rattle.update_model.specs.Trails.{LaneAnswer}
use Rattle.update_model.specs.Walks.{Walk, Finish, Try, release_walk, target_walk}
use Rattle.update_model.specs.Wanted.{want}
use Rattle.update_model.specs.declared.ask.Ask.{Ask}
use Rattle.update_model.specs.declared.ask.Body.TheVariants.{Bytes, Staged}
use Rattle.update_model.specs.declared.ask.Closed.{Closed}
use Rattle.update_model.specs.declared.ask.Ending.TheVariants.{Lost}
use Rattle.update_model.specs.declared.end.End.TheVariants.{Got, Stands, Ended}
use Rattle.update_model.specs.declared.ask.Closed.TheVariants as closings
use Rattle.board_model.specs.Boards.{Asker, Board, absorbed, asker_of, first_release, first_slots, lane_with, staged_name, took}
use Rattle.board_model.specs.CallLaws.{AsksBeginWell, NewBoardsWantParts, AbsorbedBoardsWantParts, SettledBoardsWantParts}
use Rattle.board_model.specs.Keys.{name_at, named}
use Rattle.board_model.specs.Reached.{Reached}
use Rattle.board_model.specs.Runs.{Note}
use Rattle.board_model.specs.Slots.{Setup, Standing, Slot, Asking, Listing, Refused, SettledSlot, after_release, ask_of, begun, first_list, heard_at, item_in, joined, listed, item_after}
use Rattle.board_model.specs.Stands.{AllStand, ItemHasHeard, History, IsOpen, ListsStand, StandsAt, history_of, lane_answers}
use Rattle.board_model.specs.Uses.{BeginsAt, Falls, Free, IsLastFile, IsServedAs, IsWholeOf, WantedPart, Resumes, UsesWell, Whole, or_use, part_size, wanted_part, use_among, use_at, use_by, use_from, use_in, use_under, use_while}
use Rattle.board_model.proofs.Askers.{asker-asks}
use Rattle.board_model.proofs.Events.{boards-stand, still-open}
use Rattle.board_model.proofs.WalkUses.{UsesAt, WholeBy, release-uses, run-uses, start-uses, step-uses, target-last, target-uses}

-- ---- a board that is reached stands

pub reached-stands : (config : Setup) (olds : List Old) (notes : List Note) (b : Board) (r : Reached config olds notes b)
    → AllStand config olds (record { board = b; jobs = r.jobs; queue = []; notes = notes })
reached-stands config olds notes b r = subst (AllStand config olds) r.leads (boards-stand config olds r.lanes r.events)

-- an item that asks, with its source as it stands
pub record OpenAsker (config : Setup) (olds : List Old) (notes : List Note) (b : Board) (a : Asker) : Type 0 where
  pub old : Old
  pub slot : Slot
  pub slot_is : slice_get b.slots a.key.source ≡ Some slot
  pub asks : ask_of (item_in slot a.key.place) ≡ Some a.ask
  pub open_slot : IsOpen config a.key.source a.source old slot (history_of a.key.source notes)

pub olds-there : (sources : List Source) (olds : List Old) (n : ℕ) (source : Source) → length olds ≡ length sources → slice_get sources n ≡ Some source → (old : Old) × (slice_get olds n ≡ Some old)
olds-there [] olds n source each there = absurd (cc)
olds-there (x ∷ sources) [] n source each there = absurd (omega (arith, each))
olds-there (x ∷ sources) (old ∷ olds) zero source each there = (old, refl)
olds-there (x ∷ sources) (old ∷ olds) (suc n) source each there = olds-there sources olds n source (omega (arith, each)) there

pub open-asker : (config : Setup) (olds : List Old) (notes : List Note) (b : Board) (number : ℕ) (a : Asker) → Reached config olds notes b → asker_of b number ≡ Some a
    → OpenAsker config olds notes b a
open-asker config olds notes b number a r is =
    let stand = reached-stands config olds notes b r in
    let asks = asker-asks b number a is in
    let there : slice_get config.sources a.key.source ≡ Some a.source = ap (λ (c : Setup). slice_get c.sources a.key.source) (sym stand.config_is) ∙ asks.source_is in
    let old = olds-there config.sources olds a.key.source a.source r.each there in
    let at : StandsAt config a.key.source a.source old.0 (record { board = b; jobs = r.jobs; queue = []; notes = notes }) = stand.sources a.key.source a.source old.0 there old.1 in
    let both : Some asks.slot ≡ Some at.slot = sym asks.slot_is ∙ at.slot_is in
    let same : asks.slot ≡ at.slot = cc in
    let asked : ask_of (item_in at.slot a.key.place) ≡ Some a.ask = subst (λ (s : Slot). ask_of (item_in s a.key.place) ≡ Some a.ask) same asks.asks in
    record {
      old = old.0;
      slot = at.slot;
      slot_is = at.slot_is;
      asks = asked;
      open_slot = still-open config a.key.source a.source old.0 at.slot at.verdict (history_of a.key.source notes) a.key.place a.ask at.stands asked;
    }

-- ---- a list uses its partial file well

pub record ItemUses (size : ℕ) (item : Standing) : Type 0 where
  pub before : WantedPart
  pub lower : Falls (use_from size) before
  pub uses : UsesAt size before item.point

heard-uses : (config : Setup) (n : ℕ) (path : List ℕ) (walk : Walk) (heard : List Note) (item : Standing) (size : ℕ) → ItemHasHeard config.settings.retries n path walk heard item
    → UsesAt size (use_from size) (start config.settings.retries walk) → ItemUses size item
heard-uses config n path walk heard item size h first =
    let ran = run-uses size config.settings.retries (use_from size) (use_from size) (start config.settings.retries walk) (lane_answers heard) (inl refl) first in
    record { before = ran.0; lower = ran.1; uses = subst (UsesAt size ran.0) (sym h.stands) ran.2 }

lists-use : (config : Setup) (n : ℕ) (source : Source) (old : Old) (release : Release) (place : ℕ) (targets : List Target) (lists : List (Option Standing)) (history : History)
    → ListsStand config n source old release place targets lists history → (k : ℕ) (target : Target) (item : Standing)
    → slice_get targets k ≡ Some target → joined (slice_get lists k) ≡ Some item → ItemUses (config.sizes target.name.0) item
lists-use config n source old release place [] lists history h k target item t l = absurd (cc)
lists-use config n source old release place (x ∷ targets) [] history h k target item t l = absurd h
lists-use config n source old release place (x ∷ targets) (list ∷ lists) history h (suc k) target item t l = lists-use config n source old release (suc place) targets lists history h.1 k target item t l
lists-use config n source old release place (x ∷ targets) (None ∷ lists) history h zero target item t l = absurd (cc)
lists-use config n source old release place (x ∷ targets) (Some here ∷ lists) history h zero target item t l =
    let target_same : x ≡ target = cc in
    let item_same : here ≡ item = cc in
    let sum : Sum = h.0.0 in
    let walk = target_walk (named old.lists x.name.0) (config.sizes x.name.0) (want source release config.settings x sum) in
    subst (λ (i : Standing). ItemUses (config.sizes target.name.0) i) item_same
    (subst (λ (y : Target). ItemUses (config.sizes y.name.0) here) target_same
    (heard-uses config n x.path walk (history place) here (config.sizes x.name.0) h.0.2
    (start-uses (config.sizes x.name.0) config.settings.retries (use_from (config.sizes x.name.0)) walk (target-uses (named old.lists x.name.0) (config.sizes x.name.0) (want source release config.settings x sum)))))

-- ---- what an ask begins with

begins-at : (size : ℕ) (item : Standing) (ask : Ask) → ItemUses size item → ask_of (Some item) ≡ Some ask → BeginsAt size ask
begins-at size item ask h is = one item.point h.uses is
  where
    from-use : (m n : ℕ) → use_from m ≡ use_from n → m ≡ n
    from-use zero zero e = refl
    from-use zero (suc n) e = absurd (cc)
    from-use (suc m) zero e = absurd (cc)
    from-use (suc m) (suc n) e = let same : suc m ≡ suc n = ap size_of e in same
      where
        size_of : WantedPart → ℕ
        size_of (Resumes k) = k
        size_of (Whole sum) = 0
        size_of Free = 0

    none-from : (m : ℕ) → use_from m ≡ Free → m ≡ 0
    none-from zero e = refl
    none-from (suc m) e = absurd (cc)

    used : (stage : Bool) (from : ℕ) → Falls (use_from size) (if stage then use_from from else use_from size) → (stage ≡ false → from ≡ 0) → (from ≡ 0) ⊎ (from ≡ size)
    used true from (inl same) held = inr (from-use from size same)
    used true from (inr free) held = inl (none-from from free)
    used false from falls held = inl (held refl)

    below : (from max : ℕ) → (from ≡ 0) ⊎ (from ≡ size) → (from ≡ 0) ⊎ (from < max) → (from ≡ 0) ⊎ ((from ≡ size) × (from < max))
    below from max (inl first) fits = inl first
    below from max (inr same) (inl first) = inl first
    below from max (inr same) (inr under) = inr (same, under)

    falls-both : (before after : WantedPart) → Falls (use_from size) before → Falls before after → Falls (use_from size) after
    falls-both before after lower (inr free) = inr free
    falls-both before after (inl same) (inl next) = inl (next ∙ same)
    falls-both before after (inr free) (inl next) = inr (next ∙ free)

    one : (p : Point) → UsesAt size h.before p → asked p ≡ Some ask → BeginsAt size ask
    one (Over end) uses e = absurd (cc)
    one (At here left retries next) uses e =
        let same : here ≡ ask = cc in
        subst (BeginsAt size) same (record {
          from = below here.from here.max (used here.stage here.from (falls-both h.before (use_while size here) h.lower uses.0.falls) uses.0.staged) uses.0.below;
          staged = uses.0.staged;
        })

pub lists-none : (config : Setup) (n : ℕ) (source : Source) (old : Old) (release : Release) (place : ℕ) (targets : List Target) (lists : List (Option Standing)) (history : History)
    → ListsStand config n source old release place targets lists history → (k : ℕ) → slice_get targets k ≡ None → joined (slice_get lists k) ≡ None
lists-none config n source old release place [] lists history h k none = ap (λ (ls : List (Option Standing)). joined (slice_get ls k)) h
lists-none config n source old release place (x ∷ targets) [] history h k none = absurd h
lists-none config n source old release place (x ∷ targets) (list ∷ lists) history h zero none = absurd (cc)
lists-none config n source old release place (x ∷ targets) (list ∷ lists) history h (suc k) none = lists-none config n source old release (suc place) targets lists history h.1 k none

some-item : (o : Option Standing) (ask : Ask) → ask_of o ≡ Some ask → (item : Standing) × (o ≡ Some item) × (ask_of (Some item) ≡ Some ask)
some-item None ask e = absurd (cc)
some-item (Some item) ask e = (item, refl, e)

open-begins : (config : Setup) (n : ℕ) (source : Source) (old : Old) (slot : Slot) (history : History) (place : ℕ) (ask : Ask)
    → IsOpen config n source old slot history → ask_of (item_in slot place) ≡ Some ask → BeginsAt (part_size config.sizes (name_at source place)) ask
open-begins config n source old (Asking kept release) history zero ask h asks =
    begins-at 0 release ask (heard-uses config n release_text (release_walk source) (history 0) release 0 h.1 (start-uses 0 config.settings.retries Free (release_walk source) (release-uses source))) asks
open-begins config n source old (Asking kept release) history (suc k) ask h asks = absurd (cc)
open-begins config n source old (Listing set there lists) history zero ask h asks = absurd (cc)
open-begins config n source old (Listing set there lists) history (suc k) ask h asks = one (slice_get source.targets k) refl
  where
    item : (item : Standing) × (joined (slice_get lists k) ≡ Some item) × (ask_of (Some item) ≡ Some ask)
    item = some-item (joined (slice_get lists k)) ask asks

    one : (t : Option Target) → slice_get source.targets k ≡ t → BeginsAt (part_size config.sizes (option_map (λ (target : Target). target.name) t)) ask
    one None none =
        let nothing : None ≡ Some item.0 = sym (lists-none config n source old set.release 1 source.targets lists history h.2 k none) ∙ item.1 in
        absurd (cc)
    one (Some target) is = begins-at (config.sizes target.name.0) item.0 ask (lists-use config n source old set.release 1 source.targets lists history h.2 k target item.0 is item.1) item.2
open-begins config n source old (Refused why) history place ask h asks = absurd (cc)
open-begins config n source old SettledSlot history place ask h asks = absurd h

pub asks-begin : AsksBeginWell
asks-begin config olds notes b number a r is =
    let o = open-asker config olds notes b number a r is in
    open-begins config a.key.source a.source o.old o.slot (history_of a.key.source notes) a.key.place a.ask o.open_slot o.asks

-- ---- names

-- two uses by name stand so to one another where each of a list does
abbrev Related : (WantedPart → WantedPart → Type 0) → Option WantedPart → Option WantedPart → Type 0
Related R None None = Unit {0}
Related R (Some a) (Some b) = R a b
Related R None (Some b) = ⊥
Related R (Some a) None = ⊥

among-related : (R : WantedPart → WantedPart → Type 0) (sizes : List ℕ → ℕ) (slot slot' : Slot) (name : List ℕ) (place : ℕ) (targets : List Target)
    → ((k : ℕ) (target : Target) → slice_get targets k ≡ Some target → target.name.0 ≡ name → R (use_in (sizes name) (place + k) slot) (use_in (sizes name) (place + k) slot'))
    → Related R (use_among sizes slot place targets name) (use_among sizes slot' place targets name)
among-related R sizes slot slot' name place [] h = tt
among-related R sizes slot slot' name place (target ∷ targets) h = one (bytes_eq target.name.0 name) refl (among-related R sizes slot slot' name (suc place) targets
    (λ k t there same. subst (λ (p : ℕ). R (use_in (sizes name) p slot) (use_in (sizes name) p slot')) (omega arith) (h (suc k) t there same)))
  where
    one : (c : Bool) → bytes_eq target.name.0 name ≡ c → Related R (use_among sizes slot (suc place) targets name) (use_among sizes slot' (suc place) targets name)
        → Related R (if c then Some (use_in (sizes name) place slot) else use_among sizes slot (suc place) targets name) (if c then Some (use_in (sizes name) place slot') else use_among sizes slot' (suc place) targets name)
    one true is rest = subst (λ (p : ℕ). R (use_in (sizes name) p slot) (use_in (sizes name) p slot')) (omega arith) (h 0 target refl ((bytes_eq-Decides target.name.0 name).0 is))
    one false is rest = rest

or-related : (R : WantedPart → WantedPart → Type 0) (a b : Option WantedPart) (c d : WantedPart) → Related R a b → R c d → R (or_use a c) (or_use b d)
or-related R None None c d h k = k
or-related R (Some x) (Some y) c d h k = h
or-related R None (Some y) c d h k = absurd h
or-related R (Some x) None c d h k = absurd h

-- one slot is changed
under-related : (R : WantedPart → WantedPart → Type 0) → ((a : WantedPart) → R a a) → (sizes : List ℕ → ℕ) (f : Slot → Slot) (name : List ℕ) (n : ℕ) (sources : List Source) (slots : List Slot)
    → ((source : Source) (slot : Slot) (k : ℕ) (target : Target) → slice_get sources n ≡ Some source → slice_get slots n ≡ Some slot → slice_get source.targets k ≡ Some target → target.name.0 ≡ name
    → R (use_in (sizes name) k slot) (use_in (sizes name) k (f slot)))
    → R (use_under sizes sources slots name) (use_under sizes sources (changed_at n f slots) name)
under-related R same sizes f name n [] slots h = same Free
under-related R same sizes f name n (source ∷ sources) [] h = same Free
under-related R same sizes f name zero (source ∷ sources) (slot ∷ slots) h =
    or-related R (use_among sizes slot 0 source.targets name) (use_among sizes (f slot) 0 source.targets name) (use_under sizes sources slots name) (use_under sizes sources slots name)
    (among-related R sizes slot (f slot) name 0 source.targets
    (λ k t there named. subst (λ (p : ℕ). R (use_in (sizes name) p slot) (use_in (sizes name) p (f slot))) (omega arith) (h source slot k t refl refl there named)))
    (same (use_under sizes sources slots name))
under-related R same sizes f name (suc n) (source ∷ sources) (slot ∷ slots) h =
    or-related R (use_among sizes slot 0 source.targets name) (use_among sizes slot 0 source.targets name) (use_under sizes sources slots name) (use_under sizes sources (changed_at n f slots) name)
    (among-related R sizes slot slot name 0 source.targets (λ k t there named. same (use_in (sizes name) (0 + k) slot)))
    (under-related R same sizes f name n sources slots h)

-- ---- a new board

first-under : (config : Setup) (name : List ℕ) (sources : List Source) (olds : List Old) → Falls (use_from (config.sizes name)) (use_under config.sizes sources (first_slots config sources olds) name)
first-under config name [] olds = inr refl
first-under config name (source ∷ sources) [] = inr refl
first-under config name (source ∷ sources) (old ∷ olds) = one (use_among config.sizes (Asking old (first_release config source)) 0 source.targets name) (first-among 0 source.targets) (first-under config name sources olds)
  where
    first-among : (place : ℕ) (targets : List Target) → (use_among config.sizes (Asking old (first_release config source)) place targets name ≡ None)
        ⊎ (use_among config.sizes (Asking old (first_release config source)) place targets name ≡ Some (use_from (config.sizes name)))
    first-among place [] = inl refl
    first-among place (target ∷ targets) = two (bytes_eq target.name.0 name) (first-among (suc place) targets)
      where
        two : (c : Bool) → (use_among config.sizes (Asking old (first_release config source)) (suc place) targets name ≡ None)
            ⊎ (use_among config.sizes (Asking old (first_release config source)) (suc place) targets name ≡ Some (use_from (config.sizes name)))
            → ((if c then Some (use_from (config.sizes name)) else use_among config.sizes (Asking old (first_release config source)) (suc place) targets name) ≡ None)
            ⊎ ((if c then Some (use_from (config.sizes name)) else use_among config.sizes (Asking old (first_release config source)) (suc place) targets name) ≡ Some (use_from (config.sizes name)))
        two true rest = inr refl
        two false rest = rest

    one : (o : Option WantedPart) → (o ≡ None) ⊎ (o ≡ Some (use_from (config.sizes name))) → Falls (use_from (config.sizes name)) (use_under config.sizes sources (first_slots config sources olds) name)
        → Falls (use_from (config.sizes name)) (or_use o (use_under config.sizes sources (first_slots config sources olds) name))
    one None h rest = rest
    one (Some u) (inl none) rest = absurd (cc)
    one (Some u) (inr some) rest = inl cc

pub new-rest : NewBoardsWantParts
new-rest config olds lanes name = first-under config name config.sources olds

-- ---- a source is settled

pub settled-rest : SettledBoardsWantParts
settled-rest b n verdict name =
    under-related Falls (λ a. inl refl) b.config.sizes (λ slot. SettledSlot) name n b.config.sources b.slots (λ source slot k target s there t named. inr refl)

-- ---- an answer

-- nothing more is wanted, or the file that was served whole
abbrev AnswerRests : Option ListName → Closed → List ℕ → WantedPart → WantedPart → Type 0
AnswerRests staged closed name before after = Falls before after ⊎ IsWholeOf staged closed name after

-- a list begins with what was wanted
start-falls : (size retries : ℕ) (installed : Option (List ℕ)) (release : Release) (config : Setup) (source : Source) (target : Target) (sum : Sum)
    → Falls (use_from size) (use_at size (start retries (target_walk installed size (want source release config.settings target sum))))
start-falls size retries installed release config source target sum =
    one (target_walk installed size (want source release config.settings target sum)) (target-uses installed size (want source release config.settings target sum)) (target-last Lost installed size (want source release config.settings target sum))
  where
    one : (walk : Walk) → UsesWell size (use_from size) walk → IsLastFile Lost walk → Falls (use_from size) (use_at size (start retries walk))
    one (Finish (Got (Bytes bytes))) uses last = inr refl
    one (Finish (Got (Staged sum))) uses last = absurd (cc)
    one (Finish Stands) uses last = inr refl
    one (Finish (Ended cause)) uses last = inr refl
    one (Try ask next) uses last = uses.0.falls

listed-rest : (config : Setup) (source : Source) (old : Old) (came : Result AdmittedRelease Staying) (size k : ℕ) (target : Target) → slice_get source.targets k ≡ Some target → config.sizes target.name.0 ≡ size
    → Falls (use_from size) (use_in size k (listed config source old came))
listed-rest config source old (Err why) size k target there sized = inr refl
listed-rest config source old (Ok set) size k target there sized = one source.targets k there
  where
    list : (t : Target) → config.sizes t.name.0 ≡ size → (o : Option Sum)
        → Falls (use_from size) (use_by size (option_map (λ sum. begun config (target_walk (named old.lists t.name.0) (config.sizes t.name.0) (want source set.release config.settings t sum))) o))
    list t is None = inr refl
    list t is (Some sum) =
        subst (λ (n : ℕ). Falls (use_from size) (use_at size (start config.settings.retries (target_walk (named old.lists t.name.0) n (want source set.release config.settings t sum))))) (sym is)
        (start-falls size config.settings.retries (named old.lists t.name.0) set.release config source t sum)

    one : (targets : List Target) (i : ℕ) → slice_get targets i ≡ Some target → Falls (use_from size) (use_by size (joined (slice_get (map (first_list config source set.release (named old.lists)) targets) i)))
    one [] i e = absurd (cc)
    one (x ∷ targets) zero e =
        let same : x ≡ target = cc in
        list x (ap (λ (t : Target). config.sizes t.name.0) same ∙ sized) (listed_sum set.release x.path)
    one (x ∷ targets) (suc i) e = one targets i e

released-rest : (config : Setup) (source : Source) (old : Old) (item : Standing) (point : Point) (size k : ℕ) (target : Target) → slice_get source.targets k ≡ Some target → config.sizes target.name.0 ≡ size
    → Falls (use_from size) (use_in size k (after_release config source old item point))
released-rest config source old item (Over end) size k target there sized = listed-rest config source old (admitted end old.release config.settings config.change config.now) size k target there sized
released-rest config source old item (At ask left faults next) size k target there sized = inl refl

-- the list that heard
stepped-rest : (size : ℕ) (item : Standing) (ask : Ask) (told : LaneAnswer) (staged : Option ListName) (name : List ℕ) → ItemUses size item → ask_of (Some item) ≡ Some ask
    → IsServedAs ask.stage told.closed → (ask.stage ≡ true → (target : ListName) × (staged ≡ Some target) × (name ≡ target.0))
    → AnswerRests staged told.closed name (use_at size item.point) (use_at size (item_after told item).point)
stepped-rest size item ask told staged name h asks fits listed_name = one (step-uses size item.retries h.before item.point told h.uses).falls
  where
    whole : (closed : Closed) (sum : Sum) (after : WantedPart) → IsServedAs ask.stage closed → closed ≡ closings.Served (Staged sum) → after ≡ Whole sum → IsWholeOf staged closed name after
    whole closed sum after fits is used =
        let stage : ask.stage ≡ true = subst (IsServedAs ask.stage) is fits in
        let target = listed_name stage in
        subst (λ (c : Closed). IsWholeOf staged c name after) (sym is) (subst (λ (s : Option ListName). IsWholeOf s (closings.Served (Staged sum)) name after) (sym target.1) (target.2, used))

    one : Falls (use_at size item.point) (use_at size (item_after told item).point) ⊎ WholeBy told.closed (use_at size (item_after told item).point)
        → AnswerRests staged told.closed name (use_at size item.point) (use_at size (item_after told item).point)
    one (inl falls) = inl falls
    one (inr (sum, is, used)) = inr (whole told.closed sum (use_at size (item_after told item).point) fits is used)

changed-list : (size q k : ℕ) (told : LaneAnswer) (lists : List (Option Standing)) (R : WantedPart → WantedPart → Type 0) → ((u : WantedPart) → R u u)
    → (q ≡ k → R (use_by size (joined (slice_get lists q))) (use_by size (option_map (item_after told) (joined (slice_get lists q)))))
    → R (use_by size (joined (slice_get lists k))) (use_by size (joined (slice_get (changed_at q (option_map (item_after told)) lists) k)))
changed-list size q k told [] R same h = same Free
changed-list size zero zero told (list ∷ lists) R same h = h refl
changed-list size zero (suc k) told (list ∷ lists) R same h = same (use_by size (joined (slice_get lists k)))
changed-list size (suc q) zero told (list ∷ lists) R same h = same (use_by size list)
changed-list size (suc q) (suc k) told (list ∷ lists) R same h = changed-list size q k told lists R same (λ e. h (ap suc e))

slot-rest : (config : Setup) (n : ℕ) (source : Source) (old : Old) (slot : Slot) (history : History) (place : ℕ) (ask : Ask) (told : LaneAnswer) (staged : Option ListName) (name : List ℕ)
    → IsOpen config n source old slot history → ask_of (item_in slot place) ≡ Some ask → IsServedAs ask.stage told.closed
    → (ask.stage ≡ true → staged ≡ name_at source place)
    → (k : ℕ) (target : Target) → slice_get source.targets k ≡ Some target → target.name.0 ≡ name
    → AnswerRests staged told.closed name (use_in (config.sizes name) k slot) (use_in (config.sizes name) k (heard_at config source place told slot))
slot-rest config n source old (Asking kept release) history zero ask told staged name h asks fits listed_name k target there is =
    inl (released-rest config source kept (item_after told release) (item_after told release).point (config.sizes name) k target there (ap config.sizes is))
slot-rest config n source old (Asking kept release) history (suc q) ask told staged name h asks fits listed_name k target there is = absurd (cc)
slot-rest config n source old (Listing set there_all lists) history zero ask told staged name h asks fits listed_name k target there is = absurd (cc)
slot-rest config n source old (Listing set there_all lists) history (suc q) ask told staged name h asks fits listed_name k target there is =
    changed-list (config.sizes name) q k told lists (AnswerRests staged told.closed name) (λ u. inl (inl refl)) (λ same. one same (some-item (joined (slice_get lists q)) ask asks))
  where
    one : q ≡ k → (item : Standing) × (joined (slice_get lists q) ≡ Some item) × (ask_of (Some item) ≡ Some ask)
        → AnswerRests staged told.closed name (use_by (config.sizes name) (joined (slice_get lists q))) (use_by (config.sizes name) (option_map (item_after told) (joined (slice_get lists q))))
    one same (item, is_item, item_asks) =
        let at : slice_get source.targets q ≡ Some target = ap (slice_get source.targets) same ∙ there in
        let uses : ItemUses (config.sizes target.name.0) item = lists-use config n source old set.release 1 source.targets lists history h.2 q target item at is_item in
        let used : ItemUses (config.sizes name) item = subst (λ (x : List ℕ). ItemUses (config.sizes x) item) is uses in
        subst (λ (o : Option Standing). AnswerRests staged told.closed name (use_by (config.sizes name) o) (use_by (config.sizes name) (option_map (item_after told) o))) (sym is_item)
        (stepped-rest (config.sizes name) item ask told staged name used item_asks fits
        (λ stage. (target.name, listed_name stage ∙ ap (option_map (λ (t : Target). t.name)) at, sym is)))
slot-rest config n source old (Refused why) history place ask told staged name h asks fits listed_name k target there is = absurd (cc)
slot-rest config n source old SettledSlot history place ask told staged name h asks fits listed_name k target there is = absurd h

-- the list into whose partial file an answer went
staged-as : (b : Board) (number from : ℕ) (a : Asker) → lane_with b.out number ≡ Some from → asker_of b number ≡ Some a → a.ask.stage ≡ true → staged_name b number ≡ name_at a.source a.key.place
staged-as b number from a out is stage = rw out (rw is (rw stage refl))

pub absorbed-rest : AbsorbedBoardsWantParts
absorbed-rest config olds notes b method number from closed a name r out is fits =
    let told : LaneAnswer = record { lane = method; closed = closed } in
    let stand = reached-stands config olds notes b r in
    let o = open-asker config olds notes b number a r is in
    let taken : absorbed b method number closed ≡ took b number a from told = rw out (rw is refl) in
    subst (λ (x : Board). AnswerRests (staged_name b number) closed name (wanted_part b name) (wanted_part x name)) (sym taken)
    (under-related (AnswerRests (staged_name b number) closed name) (λ u. inl (inl refl)) b.config.sizes (heard_at b.config a.source a.key.place told) name a.key.source b.config.sources b.slots
    (λ source slot k target s there t named.
    let asks = asker-asks b number a is in
    let source_both : Some source ≡ Some a.source = sym s ∙ asks.source_is in
    let source_same : source ≡ a.source = cc in
    let slot_both : Some slot ≡ Some o.slot = sym there ∙ o.slot_is in
    let slot_same : slot ≡ o.slot = cc in
    let target_there : slice_get a.source.targets k ≡ Some target = subst (λ (x : Source). slice_get x.targets k ≡ Some target) source_same t in
    subst (λ (x : Slot). AnswerRests (staged_name b number) closed name (use_in (b.config.sizes name) k x) (use_in (b.config.sizes name) k (heard_at b.config a.source a.key.place told x))) (sym slot_same)
    (subst (λ (c : Setup). AnswerRests (staged_name b number) closed name (use_in (c.sizes name) k o.slot) (use_in (c.sizes name) k (heard_at c a.source a.key.place told o.slot))) (sym stand.config_is)
    (slot-rest config a.key.source a.source o.old o.slot (history_of a.key.source notes) a.key.place a.ask told (staged_name b number) name o.open_slot o.asks fits
    (λ stage. staged-as b number from a out is stage) k target target_there named))))
