-- One source: what an answer to one of its items, and settling it, leave true of it.
use Rattle.std.proofs.Common.{◌≡◌, ◌∙◌, ℕ, zero, suc, ◌+◌, nat_eq, true, false, List, [], ◌∷◌, ◌++◌, map, Option, Some, None, refl, sym, subst, arith}
use Rattle.std.specs.Prelude.{if◌then◌else◌, option_map, slice_get, Result, Ok, Err}
use Rattle.std.proofs.lemmas.Bool.Decides.{nat_tests}
use Rattle.acq_base.specs.declared.installed.Old.{Old}
use Rattle.acq_base.specs.declared.plan.Source.{Source}
use Rattle.acq_base.specs.declared.plan.Target.{Target}
use Rattle.acq_base.specs.declared.sum.Sum.{Sum}
use Rattle.host_queues.specs.Lanes.{changed_at}
use Rattle.release_file.specs.Release.{listed_sum}
use Rattle.release_file.specs.declared.release.Release.{Release}
use Rattle.update_model.specs.Outcomes.{AdmittedRelease, Staying, admitted}
use Rattle.update_model.specs.Points.{Point, Over, At, entry}
use Rattle.update_model.specs.Releases.{release_text}
use Rattle.update_model.specs.Walks.{release_walk}
use Rattle.update_model.specs.declared.ask.Ask.{Ask}
use Rattle.board_model.specs.Keys.{named, path_at, target_path}
use Rattle.board_model.specs.Runs.{Note, entry_of}
use Rattle.board_model.specs.Slots.{Setup, Standing, Slot, Asking, Listing, Refused, SettledSlot, ask_of, item_in, joined, first_list, listed, after_release, released, heard_at, item_after, begun}
use Rattle.board_model.specs.Stands.{History, ItemHasHeard, HasCome, ListsUnheard, ListStands, ListsStand, IsOpen, walk_of}
use Rattle.board_model.proofs.Hearing.{heard-more, none-heard}

-- one more note at a place
abbrev pub with_note : History → ℕ → Note → History
with_note history place note other = if nat_eq other place then history other ++ note ∷ [] else history other

at-place : (history : History) (other place : ℕ) (note : Note) → nat_eq other place ≡ true → with_note history place note other ≡ history other ++ note ∷ []
at-place history other place note e = rw e refl

off-place : (history : History) (other place : ℕ) (note : Note) → nat_eq other place ≡ false → with_note history place note other ≡ history other
off-place history other place note e = rw e refl

-- ---- lists

-- lists begin with nothing heard
begun-stand : (config : Setup) (n : ℕ) (source : Source) (old : Old) (release : Release) (place : ℕ) (targets : List Target) (history : History)
    → ((p : ℕ) → history (place + p) ≡ []) → ListsStand config n source old release place targets (map (first_list config source release (named old.lists)) targets) history
begun-stand config n source old release place [] history none = refl
begun-stand config n source old release place (target ∷ targets) history none = (
  one (listed_sum release target.path) refl,
  begun-stand config n source old release (suc place) targets history (λ p. subst (λ (x : ℕ). history x ≡ []) (omega arith) (none (suc p))),
)
  where
    here : history place ≡ []
    here = subst (λ (x : ℕ). history x ≡ []) (omega arith) (none 0)

    one : (sum : Option Sum) → listed_sum release target.path ≡ sum
        → ListStands config n source old release target (history place) (option_map (λ s. begun config (walk_of config source old release target s)) sum)
    one None e = (e, here)
    one (Some s) e = (s, e, subst (λ (notes : List Note). ItemHasHeard config.settings.retries n target.path (walk_of config source old release target s) notes (begun config (walk_of config source old release target s))) (sym here) (none-heard config.settings.retries n target.path (walk_of config source old release target s)))

-- lists look at their own places alone
lists-same : (config : Setup) (n : ℕ) (source : Source) (old : Old) (release : Release) (place : ℕ) (targets : List Target) (lists : List (Option Standing)) (a b : History)
    → ((p : ℕ) → b (place + p) ≡ a (place + p)) → ListsStand config n source old release place targets lists a → ListsStand config n source old release place targets lists b
lists-same config n source old release place [] lists a b same h = h
lists-same config n source old release place (target ∷ targets) [] a b same h = absurd h
lists-same config n source old release place (target ∷ targets) (list ∷ lists) a b same h =
    let here : b place ≡ a place = subst (λ (x : ℕ). b x ≡ a x) (omega arith) (same 0) in (
      subst (λ (notes : List Note). ListStands config n source old release target notes list) (sym here) h.0,
      lists-same config n source old release (suc place) targets lists a b (λ p. subst (λ (x : ℕ). b x ≡ a x) (omega arith) (same (suc p))) h.1,
    )

-- a list hears an answer
list-heard : (config : Setup) (n : ℕ) (source : Source) (old : Old) (release : Release) (target : Target) (notes : List Note) (list : Option Standing) (ask : Ask) (note : Note)
    → ListStands config n source old release target notes list → ask_of list ≡ Some ask → note.ask ≡ ask → entry_of note ≡ entry n target.path ask note.told
    → ListStands config n source old release target (notes ++ note ∷ []) (option_map (item_after note.told) list)
list-heard config n source old release target notes None ask note h asks same is = absurd (cc)
list-heard config n source old release target notes (Some item) ask note h asks same is =
    (h.0, h.1, heard-more config.settings.retries n target.path (walk_of config source old release target h.0) notes item ask note h.2 asks same is)

lists-heard : (config : Setup) (n : ℕ) (source : Source) (old : Old) (release : Release) (place : ℕ) (targets : List Target) (lists : List (Option Standing)) (history : History)
    (k : ℕ) (ask : Ask) (note : Note)
    → ListsStand config n source old release place targets lists history
    → ask_of (joined (slice_get lists k)) ≡ Some ask → note.ask ≡ ask → entry_of note ≡ entry n (target_path (slice_get targets k)) ask note.told
    → ListsStand config n source old release place targets (changed_at k (option_map (item_after note.told)) lists) (with_note history (place + k) note)
lists-heard config n source old release place [] lists history k ask note h asks same is =
    let none : ask_of (joined (slice_get [] k)) ≡ Some ask = subst (λ (ls : List (Option Standing)). ask_of (joined (slice_get ls k)) ≡ Some ask) h asks in
    absurd (cc)
lists-heard config n source old release place (target ∷ targets) [] history k ask note h asks same is = absurd h
lists-heard config n source old release place (target ∷ targets) (list ∷ lists) history zero ask note h asks same is =
    let here : with_note history (place + 0) note place ≡ history place ++ note ∷ [] = at-place history place (place + 0) note (grind (arith, nat_tests)) in (
      subst (λ (notes : List Note). ListStands config n source old release target notes (option_map (item_after note.told) list)) (sym here)
          (list-heard config n source old release target (history place) list ask note h.0 asks same is),
      lists-same config n source old release (suc place) targets lists history (with_note history (place + 0) note) (λ p. off-place history (suc place + p) (place + 0) note (grind (arith, nat_tests))) h.1,
    )
lists-heard config n source old release place (target ∷ targets) (list ∷ lists) history (suc k) ask note h asks same is =
    let here : with_note history (place + suc k) note place ≡ history place = off-place history place (place + suc k) note (grind (arith, nat_tests)) in
    let rest : ListsStand config n source old release (suc place) targets (changed_at k (option_map (item_after note.told)) lists) (with_note history (suc place + k) note) =
    lists-heard config n source old release (suc place) targets lists history k ask note h.1 asks same is in
    let moved : suc place + k ≡ place + suc k = omega arith in (
      subst (λ (notes : List Note). ListStands config n source old release target notes list) (sym here) h.0,
      subst (λ (x : ℕ). ListsStand config n source old release (suc place) targets (changed_at k (option_map (item_after note.told)) lists) (with_note history x note)) moved rest,
    )

-- ---- the Release

-- a Release that may be installed, or may not
came-open : (config : Setup) (n : ℕ) (source : Source) (old : Old) (history : History) (came : Result AdmittedRelease Staying)
    → HasCome config n source old (history 0) came → ListsUnheard history → IsOpen config n source old (listed config source old came) history
came-open config n source old history (Ok set) h none =
    (h, refl, begun-stand config n source old set.release 1 source.targets history (λ p. subst (λ (x : ℕ). history x ≡ []) (omega arith) (none p)))
came-open config n source old history (Err why) h none = (h, none)

-- a Release after one answer
released-open : (config : Setup) (n : ℕ) (source : Source) (old : Old) (item : Standing) (history : History) (point : Point) → item.point ≡ point
    → ItemHasHeard config.settings.retries n release_text (release_walk source) (history 0) item → ListsUnheard history
    → IsOpen config n source old (after_release config source old item point) history
released-open config n source old item history (Over end) is h none =
    came-open config n source old history (admitted end old.release config.settings config.change config.now)
    (record { end = end; ends = sym h.stands ∙ is; asks = h.asks; logged = h.logged; came_to = refl }) none
released-open config n source old item history (At ask left faults next) is h none = (refl, h, none)

-- ---- one answer

-- an item that asks hears an answer
pub heard-open : (config : Setup) (n : ℕ) (source : Source) (old : Old) (slot : Slot) (history : History) (place : ℕ) (ask : Ask) (note : Note)
    → IsOpen config n source old slot history → ask_of (item_in slot place) ≡ Some ask → note.ask ≡ ask → entry_of note ≡ entry n (path_at source place) ask note.told
    → IsOpen config n source old (heard_at config source place note.told slot) (with_note history place note)
heard-open config n source old (Asking kept release) history zero ask note h asks same is =
    let more : ItemHasHeard config.settings.retries n release_text (release_walk source) (history 0 ++ note ∷ []) (item_after note.told release) =
    heard-more config.settings.retries n release_text (release_walk source) (history 0) release ask note h.1 asks same is in
    let opened : IsOpen config n source old (released config source old (item_after note.told release)) (with_note history 0 note) =
    released-open config n source old (item_after note.told release) (with_note history 0 note) (item_after note.told release).point refl
    (subst (λ (notes : List Note). ItemHasHeard config.settings.retries n release_text (release_walk source) notes (item_after note.told release)) (sym (at-place history 0 0 note refl)) more)
    (λ p. off-place history (suc p) 0 note (grind (arith, nat_tests)) ∙ h.2 p) in
    subst (λ (o : Old). IsOpen config n source old (released config source o (item_after note.told release)) (with_note history 0 note)) (sym h.0) opened
heard-open config n source old (Asking kept release) history (suc k) ask note h asks same is = absurd (cc)
heard-open config n source old (Listing set there lists) history zero ask note h asks same is = absurd (cc)
heard-open config n source old (Listing set there lists) history (suc k) ask note h asks same is = (
  subst (λ (notes : List Note). HasCome config n source old notes (Ok set)) (sym (off-place history 0 (suc k) note (grind (arith, nat_tests)))) h.0,
  h.1,
  subst (λ (x : ℕ). ListsStand config n source old set.release 1 source.targets (changed_at k (option_map (item_after note.told)) lists) (with_note history x note)) (omega arith)
      (lists-heard config n source old set.release 1 source.targets lists history k ask note h.2 asks same is),
)
heard-open config n source old (Refused why) history place ask note h asks same is = absurd (cc)
heard-open config n source old SettledSlot history place ask note h asks same is = absurd h
