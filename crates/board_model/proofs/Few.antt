-- The log has few entries.
use Rattle.std.proofs.Common.{◌≡◌, ◌≤◌, ◌<◌, ◌∙◌, inl, inr, ℕ, zero, suc, ◌+◌, ◌*◌, ◌^◌, nat_eq, Bool, true, false, List, [], ◌∷◌, ◌++◌, length, Option, Some, None, refl, sym, ap, subst, arith}
use Rattle.std.specs.Prelude.{bytes_eq, if◌then◌else◌, option_and_then, slice_get, Ok}
use Rattle.std.specs.List.{AllByRecursion as Each}
use Rattle.std.specs.Option.{option_map_or}
use Rattle.std.proofs.lemmas.Bool.Decides.{nat_tests}
use Rattle.std.proofs.lemmas.List.{length-append}
use Rattle.std.proofs.lemmas.Bool.{and_parts}
use Rattle.acq_base.specs.Sum.{sum_of}
use Rattle.acq_base.specs.declared.installed.Old.{Old}
use Rattle.acq_base.specs.declared.plan.Source.{Source}
use Rattle.acq_base.specs.declared.plan.Target.{Target}
use Rattle.acq_base.specs.declared.sum.Sum.{Sum}
use Rattle.pdiff_index.specs.declared.index.Step.{Step}
use Rattle.release_file.specs.Release.{listed_sum, release_of, same_sum}
use Rattle.release_file.specs.declared.release.Release.{Release}
use Rattle.update_model.specs.Files.{fitting, served}
use Rattle.update_model.specs.Laws.{ListsAskLittle, ReleasesAskLittle, RunsStandInRoutes, SetsAreAdmissible, links_in}
use Rattle.update_model.specs.Points.{ran, start}
use Rattle.update_model.specs.Releases.{release_text}
use Rattle.update_model.specs.Trails.{Trail, entries}
use Rattle.update_model.specs.Walks.{Walk, IsRoute, release_walk, target_walk}
use Rattle.update_model.specs.Wanted.{chain, index_path, want}
use Rattle.update_model.specs.declared.end.End.{End}
use Rattle.update_model.specs.declared.settled.Verdict2.{Verdict2}
use Rattle.update_model.specs.declared.wanted.Wanted.{Wanted}
use Rattle.board_model.specs.CountLaws.{AsksAreFew, ChainsAreShort, ListedSizesFit, most_of, most_of_list, most_of_lists, most_of_release}
use Rattle.board_model.specs.Keys.{keys_from, keys_in, named, places_from}
use Rattle.board_model.specs.Runs.{Note, start as start_world}
use Rattle.board_model.specs.Slots.{Setup, Standing, Slot, Asking, Listing, Refused, SettledSlot}
use Rattle.board_model.specs.Stands.{ItemHasHeard, History, IsOpen, ListStands, SourceStands, StandsAt, entries_of, history_of, of_key, lane_answers}
use Rattle.board_model.specs.declared.key.Key.{Key}
use Rattle.board_model.proofs.Making.{list-at}
use Rattle.board_model.proofs.Resting.{olds-there, reached-stands}
use Rattle.board_model.proofs.Notes.{IsKnown, AllKnown, run-known, heard_by_keys, one-more, key-there, length-entries, read-of}

-- ---- as many notes as the items have

none-heard : (keys : List Key) → heard_by_keys keys [] ≡ 0
unfolding heard_by_keys
none-heard [] = refl
none-heard (key ∷ keys) = let rest = none-heard keys in omega (arith, rest)

all-heard : (sources : List Source) (notes : List Note) → Each (IsKnown sources) notes → length notes ≤ heard_by_keys (keys_from 0 sources) notes
all-heard sources [] h = omega arith
all-heard sources (note ∷ notes) h =
    let rest = all-heard sources notes h.1 in
    let more = one-more (keys_from 0 sources) note notes in
    let known = h.0 in
    let there = key-there (keys_from 0 sources) known.0 note.key known.1 in
    omega (arith, rest, more, there)

-- ---- one item

-- what was heard is the front of a route
heard-few : (retries n : ℕ) (path : List ℕ) (walk : Walk) (heard : List Note) (most : ℕ) → RunsStandInRoutes → entries_of heard ≡ ran retries n path (start retries walk) (lane_answers heard)
    → ((trails : List Trail) (end : End) → IsRoute retries walk trails end → length (entries n path trails) ≤ most) → length heard ≤ most
heard-few retries n path walk heard most law logged few =
    let found = law walk retries n path (lane_answers heard) in
    let bound = few found.0 found.1 found.3 in
    let whole : length (entries n path found.0) ≡ length (ran retries n path (start retries walk) (lane_answers heard)) + length found.2 =
    ap length found.4 ∙ length-append (ran retries n path (start retries walk) (lane_answers heard)) found.2 in
    let own : length heard ≡ length (ran retries n path (start retries walk) (lane_answers heard)) = sym (length-entries heard) ∙ ap length logged in
    omega (arith, bound, whole, own)

-- an Index that is listed leads by few patches
few-links : ChainsAreShort → (installed : Option (List ℕ)) (w : Wanted) (trails : List Trail) → ((sum : Sum) → w.index ≡ Some sum → sum.size < 2 ^ 64) → links_in installed w trails ≤ 2 ^ 64
few-links short None w trails fits = omega arith
few-links short (Some file) w [] fits = omega arith
few-links short (Some file) w (t ∷ trails) fits = one w.index refl
  where
    ended : (sum : Sum) → sum.size < 2 ^ 64 → (o : Option (List ℕ)) → option_map_or length (option_and_then (chain w file) (fitting sum o)) 0 ≤ 2 ^ 64
    ended sum small None = omega arith
    ended sum small (Some bytes) = two (same_sum (sum_of bytes) sum) refl
      where
        three : (o : Option (List Step)) → chain w file bytes ≡ o → length bytes < 2 ^ 64 → option_map_or length o 0 ≤ 2 ^ 64
        three None is fits = omega arith
        three (Some steps) is fits = short w file bytes steps fits is

        two : (c : Bool) → same_sum (sum_of bytes) sum ≡ c → option_map_or length (option_and_then (chain w file) (if c then Some bytes else None)) 0 ≤ 2 ^ 64
        two false is = omega arith
        two true is =
            let size : nat_eq (length bytes) sum.size ≡ true = (and_parts (nat_eq (length bytes) sum.size) (bytes_eq (sum_of bytes).sha.0 sum.sha.0) is).0 in
            let same : length bytes ≡ sum.size = grind (arith, nat_tests, size) in
            three (chain w file bytes) refl (subst (λ (k : ℕ). k < 2 ^ 64) (sym same) small)

    one : (o : Option Sum) → w.index ≡ o → option_map_or length (option_and_then (λ sum. option_and_then (chain w file) (fitting sum (served t.ending))) o) 0 ≤ 2 ^ 64
    one None is = omega arith
    one (Some sum) is = ended sum (fits sum is) (served t.ending)

-- ---- the items of a source

-- what stands of a source, settled or not
open-of : (config : Setup) (n : ℕ) (source : Source) (old : Old) (slot : Slot) (verdict : Verdict2) (history : History) → SourceStands config n source old slot verdict history
    → (s : Slot) × IsOpen config n source old s history
open-of config n source old slot verdict history (inl h) = (slot, h)
open-of config n source old slot verdict history (inr h) = (h.1.slot, h.1.open_slot)

release-few : RunsStandInRoutes → ReleasesAskLittle → (config : Setup) (n : ℕ) (source : Source) (old : Old) (slot : Slot) (history : History) → IsOpen config n source old slot history
    → length (history 0) ≤ most_of_release config.settings.retries
release-few law little config n source old (Asking kept release) history h =
    heard-few config.settings.retries n release_text (release_walk source) (history 0) (most_of_release config.settings.retries) law h.1.logged
    (λ trails end route. little source config.settings.retries n release_text trails end route)
release-few law little config n source old (Listing set there lists) history h =
    heard-few config.settings.retries n release_text (release_walk source) (history 0) (most_of_release config.settings.retries) law h.0.logged
    (λ trails end route. little source config.settings.retries n release_text trails end route)
release-few law little config n source old (Refused why) history h =
    heard-few config.settings.retries n release_text (release_walk source) (history 0) (most_of_release config.settings.retries) law h.0.logged
    (λ trails end route. little source config.settings.retries n release_text trails end route)
release-few law little config n source old SettledSlot history h = absurd h

none-few : (notes : List Note) (most : ℕ) → notes ≡ [] → length notes ≤ most
none-few notes most none = let zero_is : length notes ≡ 0 = ap length none in omega (arith, zero_is)

mul-mono : (c a b : ℕ) → a ≤ b → c * a ≤ c * b
mul-mono zero a b h = omega arith
mul-mono (suc c) a b h = let rest = mul-mono c a b h in grind (arith, rest, h)

index-fits : ListedSizesFit → (source : Source) (release : Release) (target : Target) (bytes : List ℕ) → release_of bytes ≡ Ok release → (sum : Sum)
    → (if source.pdiffs then listed_sum release (index_path target.path) else None) ≡ Some sum → sum.size < 2 ^ 64
index-fits fit source release target bytes read sum is = one source.pdiffs is
  where
    one : (c : Bool) → (if c then listed_sum release (index_path target.path) else None) ≡ Some sum → sum.size < 2 ^ 64
    one true e = fit bytes (index_path target.path) release sum read e
    one false e = absurd (cc)

-- what a list's item heard is few
pub record Premises : Type 0 where
  pub stand : RunsStandInRoutes
  pub lists : ListsAskLittle
  pub releases : ReleasesAskLittle
  pub sets : SetsAreAdmissible
  pub short : ChainsAreShort
  pub fit : ListedSizesFit

list-few : Premises → (config : Setup) (n : ℕ) (source : Source) (old : Old) (slot : Slot) (history : History) → IsOpen config n source old slot history
    → (k : ℕ) (target : Target) → slice_get source.targets k ≡ Some target → length (history (suc k)) ≤ most_of_list config.settings.retries
list-few p config n source old (Asking kept release) history h k target there = none-few (history (suc k)) (most_of_list config.settings.retries) (h.2 k)
list-few p config n source old (Listing set all lists) history h k target there =
    let found = list-at config n source old set.release 1 source.targets lists history k target h.2 there in
    let here : 1 + k ≡ suc k = omega arith in
    subst (λ (i : ℕ). length (history i) ≤ most_of_list config.settings.retries) here (one found.0 found.2)
  where
    one : (list : Option Standing) → ListStands config n source old set.release target (history (1 + k)) list → length (history (1 + k)) ≤ most_of_list config.settings.retries
    one None l = none-few (history (1 + k)) (most_of_list config.settings.retries) l.1
    one (Some item) l =
        let sum : Sum = l.0 in
        let w : Wanted = want source set.release config.settings target sum in
        let walk : Walk = target_walk (named old.lists target.name.0) (config.sizes target.name.0) w in
        let heard : ItemHasHeard config.settings.retries n target.path walk (history (1 + k)) item = l.2 in
        heard-few config.settings.retries n target.path walk (history (1 + k)) (most_of_list config.settings.retries) p.stand heard.logged
        (λ trails end route.
        let bound = p.lists (named old.lists target.name.0) (config.sizes target.name.0) w config.settings.retries n target.path trails end route in
        let links = few-links p.short (named old.lists target.name.0) w trails (λ s is. index-fits p.fit source set.release target set.bytes (read-of p.sets config n source old (history 0) set h.0) s is) in
        let more = mul-mono (11 * (config.settings.retries + 1)) (4 + links_in (named old.lists target.name.0) w trails) (4 + 2 ^ 64) (omega (arith, links)) in
        omega (arith, bound, more))
list-few p config n source old (Refused why) history h k target there = none-few (history (suc k)) (most_of_list config.settings.retries) (h.1 k)
list-few p config n source old SettledSlot history h k target there = absurd h

-- ---- all items

by-append : (xs ys : List Key) (notes : List Note) → heard_by_keys (xs ++ ys) notes ≡ heard_by_keys xs notes + heard_by_keys ys notes
unfolding heard_by_keys
by-append [] ys notes = omega arith
by-append (x ∷ xs) ys notes = let rest = by-append xs ys notes in omega (arith, rest)

places-few : (retries s place : ℕ) (targets : List Target) (notes : List Note)
    → ((k : ℕ) (target : Target) → slice_get targets k ≡ Some target → length (of_key (record { source = s; place = place + k }) notes) ≤ most_of_list retries)
    → heard_by_keys (places_from s place targets) notes ≤ most_of_lists retries targets
unfolding heard_by_keys
places-few retries s place [] notes h = omega arith
places-few retries s place (t ∷ targets) notes h =
    let here : length (of_key (record { source = s; place = place }) notes) ≤ most_of_list retries =
    subst (λ (p : ℕ). length (of_key (record { source = s; place = p }) notes) ≤ most_of_list retries) (omega arith) (h 0 t refl) in
    let rest = places-few retries s (suc place) targets notes
    (λ k target there. subst (λ (p : ℕ). length (of_key (record { source = s; place = p }) notes) ≤ most_of_list retries) (omega arith) (h (suc k) target there)) in
    omega (arith, here, rest)

-- what a source's items heard is few
record AreFew (retries s : ℕ) (source : Source) (notes : List Note) : Type 0 where
  release : length (history_of s notes 0) ≤ most_of_release retries
  lists : (k : ℕ) (target : Target) → slice_get source.targets k ≡ Some target → length (history_of s notes (suc k)) ≤ most_of_list retries

keys-few : (retries first : ℕ) (sources : List Source) (notes : List Note) → ((i : ℕ) (source : Source) → slice_get sources i ≡ Some source → AreFew retries (first + i) source notes)
    → heard_by_keys (keys_from first sources) notes ≤ most_of retries sources
unfolding heard_by_keys
keys-few retries first [] notes h = omega arith
keys-few retries first (source ∷ sources) notes h =
    let here : AreFew retries first source notes = subst (λ (s : ℕ). AreFew retries s source notes) (omega arith) (h 0 source refl) in
    let release = here.release in
    let lists = places-few retries first 1 source.targets notes
    (λ k target there. subst (λ (p : ℕ). length (of_key (record { source = first; place = p }) notes) ≤ most_of_list retries) (omega arith) (here.lists k target there)) in
    let rest = keys-few retries (suc first) sources notes (λ i s there. subst (λ (k : ℕ). AreFew retries k s notes) (omega arith) (h (suc i) s there)) in
    let whole = by-append (keys_in first source) (keys_from (suc first) sources) notes in
    omega (arith, release, lists, rest, whole)

pub asks-few : Premises → AsksAreFew
asks-few p config olds notes b r =
    let stand = reached-stands config olds notes b r in
    let known : AllKnown config (record { board = b; jobs = r.jobs; queue = []; notes = notes }) =
    subst (AllKnown config) r.leads (run-known config r.events (start_world config olds r.lanes) (record { config_is = refl; known = tt })) in
    let total = all-heard config.sources notes known.known in
    let few = keys-few config.settings.retries 0 config.sources notes (λ i source there. subst (λ (n : ℕ). AreFew config.settings.retries n source notes) (omega arith) (source-few i source there)) in
    let log : length b.asks ≡ length notes = ap length stand.log ∙ length-entries notes in
    omega (arith, total, few, log)
  where
    source-few : (n : ℕ) (source : Source) → slice_get config.sources n ≡ Some source → AreFew config.settings.retries n source notes
    source-few n source there =
        let stand = reached-stands config olds notes b r in
        let old = olds-there config.sources olds n source r.each there in
        let at : StandsAt config n source old.0 (record { board = b; jobs = r.jobs; queue = []; notes = notes }) = stand.sources n source old.0 there old.1 in
        let o = open-of config n source old.0 at.slot at.verdict (history_of n notes) at.stands in
        record {
          release = release-few p.stand p.releases config n source old.0 o.0 (history_of n notes) o.1;
          lists = λ k target is. list-few p config n source old.0 o.0 (history_of n notes) o.1 k target is;
        }
