-- The log's entries of a source are those of its items.
use Rattle.std.proofs.Common.{◌≡◌, ◌≤◌, ◌<◌, ◌∙◌, inl, inr, ℕ, zero, suc, ◌+◌, ◌*◌, ◌==◌, cond, nat_eq, Bool, true, false, List, [], ◌∷◌, ◌++◌, length, Option, Some, None, refl, sym, ap, subst, arith, mul-add}
use Rattle.std.specs.Prelude.{◌&&◌, option_map, slice_get}
use Rattle.std.specs.List.{AllByRecursion as Each}
use Rattle.std.specs.Option.{option_map_or}
use Rattle.std.specs.Result.{result_ok}
use Rattle.std.proofs.lemmas.Bool.Decides.{nat_tests}
use Rattle.acq_base.specs.declared.installed.Old.{Old}
use Rattle.acq_base.specs.declared.plan.Source.{Source}
use Rattle.acq_base.specs.declared.plan.Target.{Target}
use Rattle.acq_base.specs.declared.sum.Sum.{Sum}
use Rattle.release_file.specs.declared.release.Release.{Release}
use Rattle.update_model.specs.Outcomes.{AdmittedRelease}
use Rattle.update_model.specs.Points.{ran, start}
use Rattle.update_model.specs.Releases.{release_text}
use Rattle.update_model.specs.Trails.{LaneAnswer}
use Rattle.update_model.specs.Walks.{release_walk, target_walk}
use Rattle.update_model.specs.Wanted.{want}
use Rattle.update_model.specs.declared.ask.Body.TheVariants.{Bytes, Staged}
use Rattle.update_model.specs.declared.ask.Closed.{Closed}
use Rattle.update_model.specs.declared.ask.Closed.TheVariants as answers
use Rattle.update_model.specs.declared.log.Asked.{Asked}
use Rattle.update_model.specs.declared.settled.Verdict2.{Verdict2}
use Rattle.update_model.specs.declared.wanted.Wanted.{Wanted}
use Rattle.board_model.specs.Jobs.{one_if}
use Rattle.board_model.specs.Keys.{keys_from, keys_in, named, places_from, same_key}
use Rattle.board_model.specs.Laws.{BoardsStand}
use Rattle.board_model.specs.Runs.{Note, entry_of, start as start_world}
use Rattle.board_model.specs.Slots.{Setup, Standing, Slot, Asking, Listing, Refused, SettledSlot}
use Rattle.board_model.specs.Stands.{History, IsOpen, ListStands, ListsStand, SourceStands, StandsAt, entries_of, history_of, of_key, lane_answers}
use Rattle.board_model.specs.declared.key.Key.{Key}
use Rattle.board_model.proofs.Notes.{IsKnown, AllKnown, run-known, heard_by_keys, times_key, one-more, key-there, length-entries}
use Rattle.board_bounds.proofs.Asking.{reached-stands}
use Rattle.board_bounds.proofs.Weighing.{list-weighs, release-brief, walk-few, Brings}
use Rattle.board_bounds.specs.Sources.{SourceAsksAreFew, asks_of, links_among, links_by, links_of, release_at, release_heard, trails_of}

-- ---- how often a key is one of a source's

times-append : (key : Key) (xs ys : List Key) → times_key key (xs ++ ys) ≡ times_key key xs + times_key key ys
unfolding times_key
times-append key [] ys = omega arith
times-append key (x ∷ xs) ys = let rest = times-append key xs ys in omega (arith, rest)

places-apart : (key : Key) (n place : ℕ) (targets : List Target) → nat_eq key.source n ≡ false → times_key key (places_from n place targets) ≡ 0
unfolding times_key
places-apart key n place [] apart = refl
places-apart key n place (target ∷ targets) apart =
    let rest = places-apart key n (suc place) targets apart in
    let here : one_if (same_key key (record { source = n; place = place })) ≡ 0 = ap (λ (b : Bool). one_if (b && nat_eq key.place place)) apart in
    omega (arith, rest, here)

keys-apart : (key : Key) (n : ℕ) (source : Source) → nat_eq key.source n ≡ false → times_key key (keys_in n source) ≡ 0
unfolding times_key
keys-apart key n source apart =
    let rest = places-apart key n 1 source.targets apart in
    let here : one_if (same_key key (record { source = n; place = 0 })) ≡ 0 = ap (λ (b : Bool). one_if (b && nat_eq key.place 0)) apart in
    omega (arith, rest, here)

keys-above : (key : Key) (n : ℕ) (sources : List Source) → key.source < n → times_key key (keys_from n sources) ≡ 0
unfolding times_key
keys-above key n [] below = refl
keys-above key n (source ∷ sources) below =
    let here = keys-apart key n source (grind (arith, nat_tests, below)) in
    let rest = keys-above key (suc n) sources (omega (arith, below)) in
    let both = times-append key (keys_in n source) (keys_from (suc n) sources) in
    omega (arith, here, rest, both)

-- a key of the plan is one of its source's
own-key : (key : Key) (first i : ℕ) (sources : List Source) (source : Source) → 1 ≤ times_key key (keys_from first sources) → key.source ≡ first + i → slice_get sources i ≡ Some source
    → 1 ≤ times_key key (keys_in (first + i) source)
unfolding times_key
own-key key first i [] source among is there = absurd (cc)
own-key key first zero (s ∷ sources) source among is there =
    let same : s ≡ source = cc in
    let rest = keys-above key (suc first) sources (omega (arith, is)) in
    let both = times-append key (keys_in first s) (keys_from (suc first) sources) in
    let here : 1 ≤ times_key key (keys_in first s) = omega (arith, among, rest, both) in
    let at : first ≡ first + 0 = omega arith in
    subst (λ (n : ℕ). 1 ≤ times_key key (keys_in n source)) at (subst (λ (x : Source). 1 ≤ times_key key (keys_in first x)) same here)
own-key key first (suc i) (s ∷ sources) source among is there =
    let none = keys-apart key first s (grind (arith, nat_tests, is)) in
    let both = times-append key (keys_in first s) (keys_from (suc first) sources) in
    let at : suc first + i ≡ first + suc i = omega arith in
    subst (λ (n : ℕ). 1 ≤ times_key key (keys_in n source)) at (own-key key (suc first) i sources source (omega (arith, among, none, both)) (omega (arith, is)) there)

-- ---- as many notes as the items have

source-heard : (sources : List Source) (n : ℕ) (source : Source) (notes : List Note) → slice_get sources n ≡ Some source → Each (IsKnown sources) notes
    → length (asks_of n (entries_of notes)) ≤ heard_by_keys (keys_in n source) notes
source-heard sources n source [] there h = omega arith
source-heard sources n source (note ∷ notes) there h =
    let rest = source-heard sources n source notes there h.1 in
    let more = one-more (keys_in n source) note notes in
    one (note.key.source == n) refl rest more
  where
    one : (c : Bool) → (note.key.source == n) ≡ c → length (asks_of n (entries_of notes)) ≤ heard_by_keys (keys_in n source) notes
        → heard_by_keys (keys_in n source) (note ∷ notes) ≡ times_key note.key (keys_in n source) + heard_by_keys (keys_in n source) notes
        → length (cond c (entry_of note ∷ asks_of n (entries_of notes)) (asks_of n (entries_of notes))) ≤ heard_by_keys (keys_in n source) (note ∷ notes)
    one false is rest more = omega (arith, rest, more)
    one true is rest more =
        let same : note.key.source ≡ 0 + n = grind (arith, nat_tests, is) in
        let among = key-there (keys_from 0 sources) h.0.0 note.key h.0.1 in
        let own = own-key note.key 0 n sources source among same there in
        let at : 0 + n ≡ n = omega arith in
        let here : 1 ≤ times_key note.key (keys_in n source) = subst (λ (k : ℕ). 1 ≤ times_key note.key (keys_in k source)) at own in
        omega (arith, rest, more, here)

-- ---- one item

-- none of these answers leads by more than the most of them
links-most : (installed : Option (List ℕ)) (w : Wanted) (notes : List Note) (most : ℕ) → links_among installed w notes ≤ most → Each (λ (t : LaneAnswer). links_by installed w t.closed ≤ most) (lane_answers notes)
links-most installed w [] most h = tt
links-most installed w (note ∷ notes) most h = (grind (arith, nat_tests, h), links-most installed w notes most (grind (arith, nat_tests, h)))

release-few : (config : Setup) (n : ℕ) (source : Source) (heard : List Note) → entries_of heard ≡ ran config.settings.retries n release_text (start config.settings.retries (release_walk source)) (lane_answers heard)
    → length heard ≤ 11 * (config.settings.retries + 1) * 2
release-few config n source heard logged =
    let few = walk-few (λ bytes. Unit {0}) config.settings.retries n release_text (release_walk source) (lane_answers heard) 2 (release-brief (λ bytes. Unit {0}) source) (all heard) in
    let own : length heard ≡ length (ran config.settings.retries n release_text (start config.settings.retries (release_walk source)) (lane_answers heard)) = sym (length-entries heard) ∙ ap length logged in
    omega (arith, few, own)
  where
    one : (closed : Closed) → Brings (λ bytes. Unit {0}) closed
    one (answers.Served (Bytes bytes)) = tt
    one (answers.Served (Staged sum)) = tt
    one (answers.Not end) = tt

    all : (notes : List Note) → Each (λ (t : LaneAnswer). Brings (λ bytes. Unit {0}) t.closed) (lane_answers notes)
    all [] = tt
    all (note ∷ notes) = (one note.told.closed, all notes)

item-few : (config : Setup) (n : ℕ) (source : Source) (old : Old) (release : Release) (target : Target) (heard : List Note) (list : Option Standing) → ListStands config n source old release target heard list
    → length heard ≤ 11 * (config.settings.retries + 1) * (4 + links_of config source old (Some release) target heard)
item-few config n source old release target heard None h = let none : length heard ≡ 0 = ap length h.1 in omega (arith, none)
item-few config n source old release target heard (Some item) h =
    let sum : Sum = h.0 in
    let w : Wanted = want source release config.settings target sum in
    let installed : Option (List ℕ) = named old.lists target.name.0 in
    let most : ℕ = links_among installed w heard in
    let links : links_of config source old (Some release) target heard ≡ links_among installed w heard =
    ap (λ (o : Option Sum). option_map_or (λ sum. links_among (named old.lists target.name.0) (want source release config.settings target sum) heard) o 0) h.1 in
    let few = list-weighs config.settings.retries n target.path installed (config.sizes target.name.0) w (lane_answers heard) most (links-most installed w heard most (omega arith)) in
    let own : length heard ≡ length (ran config.settings.retries n target.path (start config.settings.retries (target_walk installed (config.sizes target.name.0) w)) (lane_answers heard)) = sym (length-entries heard) ∙ ap length h.2.logged in
    let fits : length heard ≤ 11 * (config.settings.retries + 1) * (4 + links_among installed w heard) = omega (arith, few, own) in
    subst (λ (k : ℕ). length heard ≤ 11 * (config.settings.retries + 1) * (4 + k)) (sym links) fits

-- ---- all items of a source

-- the lists have asked little, each by its own chain
lists-few : (config : Setup) (n : ℕ) (source : Source) (old : Old) (release : Release) (place : ℕ) (targets : List Target) (lists : List (Option Standing)) (history : History) (notes : List Note)
    → ((p : ℕ) → history p ≡ of_key (record { source = n; place = p }) notes)
    → ListsStand config n source old release place targets lists history
    → heard_by_keys (places_from n place targets) notes ≤ 11 * (config.settings.retries + 1) * trails_of config source old (Some release) history place targets
unfolding heard_by_keys
lists-few config n source old release place [] lists history notes is h = omega arith
lists-few config n source old release place (target ∷ targets) [] history notes is h = absurd h
lists-few config n source old release place (target ∷ targets) (list ∷ lists) history notes is h =
    let here = item-few config n source old release target (history place) list h.0 in
    let rest = lists-few config n source old release (suc place) targets lists history notes is h.1 in
    let own = ap length (is place) in
    let whole = mul-add (11 * (config.settings.retries + 1)) (4 + links_of config source old (Some release) target (history place)) (trails_of config source old (Some release) history (suc place) targets) in
    omega (arith, here, rest, own, whole)

-- lists that have heard nothing
unheard-none : (n place : ℕ) (targets : List Target) (notes : List Note) → ((k : ℕ) → of_key (record { source = n; place = suc k }) notes ≡ []) → heard_by_keys (places_from n (suc place) targets) notes ≡ 0
unfolding heard_by_keys
unheard-none n place [] notes none = refl
unheard-none n place (target ∷ targets) notes none =
    let here = ap length (none place) in
    let rest = unheard-none n (suc place) targets notes none in
    omega (arith, here, rest)

abbrev bound_of : Setup → Source → Old → History → ℕ
bound_of config source old history = 11 * (config.settings.retries + 1) * (2 + trails_of config source old (release_heard config source old (history 0)) history 1 source.targets)

both-few : (config : Setup) (n : ℕ) (source : Source) (old : Old) (notes : List Note) (lists : ℕ) → length (of_key (record { source = n; place = 0 }) notes) ≤ 11 * (config.settings.retries + 1) * 2
    → heard_by_keys (places_from n 1 source.targets) notes ≤ 11 * (config.settings.retries + 1) * lists
    → heard_by_keys (keys_in n source) notes ≤ 11 * (config.settings.retries + 1) * (2 + lists)
unfolding heard_by_keys
both-few config n source old notes lists release rest = let whole = mul-add (11 * (config.settings.retries + 1)) 2 lists in omega (arith, release, rest, whole)

quiet-few : (config : Setup) (n : ℕ) (source : Source) (old : Old) (notes : List Note) (lists : ℕ) → length (of_key (record { source = n; place = 0 }) notes) ≤ 11 * (config.settings.retries + 1) * 2
    → ((k : ℕ) → of_key (record { source = n; place = suc k }) notes ≡ [])
    → heard_by_keys (keys_in n source) notes ≤ 11 * (config.settings.retries + 1) * (2 + lists)
quiet-few config n source old notes lists release none =
    let nothing = unheard-none n 0 source.targets notes none in
    both-few config n source old notes lists release (omega (arith, nothing))

open-few : (config : Setup) (n : ℕ) (source : Source) (old : Old) (slot : Slot) (notes : List Note) → IsOpen config n source old slot (history_of n notes)
    → heard_by_keys (keys_in n source) notes ≤ bound_of config source old (history_of n notes)
open-few config n source old (Asking kept release) notes h =
    quiet-few config n source old notes (trails_of config source old (release_heard config source old (history_of n notes 0)) (history_of n notes) 1 source.targets)
    (release-few config n source (history_of n notes 0) h.1.logged) h.2
open-few config n source old (Refused why) notes h =
    quiet-few config n source old notes (trails_of config source old (release_heard config source old (history_of n notes 0)) (history_of n notes) 1 source.targets)
    (release-few config n source (history_of n notes 0) h.0.logged) h.1
open-few config n source old SettledSlot notes h = absurd h
open-few config n source old (Listing set there lists) notes h =
    let come = h.0 in
    let came : release_heard config source old (history_of n notes 0) ≡ Some set.release =
    ap (release_at config old) come.ends ∙ ap (λ r. option_map (λ (s : AdmittedRelease). s.release) (result_ok r)) come.came_to in
    subst (λ (o : Option Release). heard_by_keys (keys_in n source) notes ≤ 11 * (config.settings.retries + 1) * (2 + trails_of config source old o (history_of n notes) 1 source.targets)) (sym came)
    (both-few config n source old notes (trails_of config source old (Some set.release) (history_of n notes) 1 source.targets)
    (release-few config n source (history_of n notes 0) come.logged)
    (lists-few config n source old set.release 1 source.targets lists (history_of n notes) notes (λ p. refl) h.2))

stood-few : (config : Setup) (n : ℕ) (source : Source) (old : Old) (slot : Slot) (verdict : Verdict2) (notes : List Note) → SourceStands config n source old slot verdict (history_of n notes)
    → heard_by_keys (keys_in n source) notes ≤ bound_of config source old (history_of n notes)
stood-few config n source old slot verdict notes (inl h) = open-few config n source old slot notes h
stood-few config n source old slot verdict notes (inr h) = open-few config n source old h.1.slot notes h.1.open_slot

pub source-few : BoardsStand → SourceAsksAreFew
source-few law config olds notes b n source old r there was =
    let stand = reached-stands law config olds notes b r in
    let known : AllKnown config (record { board = b; jobs = r.jobs; queue = []; notes = notes }) =
    subst (AllKnown config) r.leads (run-known config r.events (start_world config olds r.lanes) (record { config_is = refl; known = tt })) in
    let at : StandsAt config n source old (record { board = b; jobs = r.jobs; queue = []; notes = notes }) = stand.sources n source old there was in
    let heard = source-heard config.sources n source notes there known.known in
    let few = stood-few config n source old at.slot at.verdict notes at.stands in
    let log : length (asks_of n b.asks) ≡ length (asks_of n (entries_of notes)) = ap (λ (asks : List Asked). length (asks_of n asks)) stand.log in
    omega (arith, heard, few, log)
