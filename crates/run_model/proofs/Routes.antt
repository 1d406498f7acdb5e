-- The routes of a source's lists, beside what a run begins with.
use Rattle.std.proofs.Common.{◌≡◌, ◌∙◌, refl, sym, ap, subst, ℕ, List, [], ◌∷◌, ◌++◌, length, map, Option, Some}
use Rattle.std.specs.Prelude.{option_and_then, slice_get}
use Rattle.std.specs.List.{AllByRecursion as Each}
use Rattle.acq_base.specs.Mirror.{MirrorMap}
use Rattle.acq_base.specs.declared.installed.Old.{Old}
use Rattle.acq_base.specs.declared.plan.Source.{Source}
use Rattle.board_model.specs.Agreeing.{Agrees, IsMirrors, part_at, part_of}
use Rattle.board_model.specs.Ends.{ListEnd, ListEndsInRoute, walk_for}
use Rattle.board_model.specs.Keys.{name_at}
use Rattle.board_model.specs.RunLaws.{IsSourceAt}
use Rattle.board_model.specs.Runs.{Note}
use Rattle.board_model.specs.Slots.{Setup}
use Rattle.board_model.specs.Stands.{history_of}
use Rattle.board_model.proofs.Agreement.{LiesBeside, lists-lie}
use Rattle.update_model.specs.Faults.{AreAgreeing, SetsMadeAreNew}
use Rattle.update_model.specs.Laws.{ListEnd as RouteEnd, SetsAreAdmissible}
use Rattle.update_model.specs.Outcomes.{Directory, PartFiles, admitted, outcome, wanted_by}
use Rattle.update_model.specs.Points.{start}
use Rattle.update_model.specs.Releases.{IsAdmissible, installed_release}
use Rattle.update_model.specs.Walks.{Walk, IsRoute, release_walk, target_walk}
use Rattle.update_model.specs.declared.end.End.{End}
use Rattle.run_model.specs.Laws.{NewSetsAreAdmissible, NewSetsAreMirrors}
use Rattle.run_model.proofs.Hearing.{agrees_along, said_by}

-- ---- routes that agree with a mirror

record RoutesOver (mirror : MirrorMap) (dir : Directory) (parts : PartFiles) (config : Setup) (came : List ListEnd) : Type 0 where
  lists : List RouteEnd
  names : map (λ l. l.wanted) lists ≡ map (λ l. l.wanted) came
  ends : map (λ l. l.end) lists ≡ map (λ l. l.end) came
  agree : AreAgreeing mirror dir parts config.settings.retries lists

routes_over : (mirror : MirrorMap) (dir : Directory) (parts : PartFiles) (config : Setup) (n : ℕ) (source : Source) (old : Old) (notes : List Note) → slice_get config.sources n ≡ Some source → Agrees mirror parts config.sources notes
    → (came : List ListEnd) → Each (ListEndsInRoute config n old (history_of n notes)) came → Each (LiesBeside dir parts config old) came → Each (λ l. name_at source l.place ≡ Some l.wanted.name) came
    → RoutesOver mirror dir parts config came
routes_over mirror dir parts config n source old notes is agrees [] routes lie places = record { lists = []; names = refl; ends = refl; agree = tt }
routes_over mirror dir parts config n source old notes is agrees (l ∷ ls) routes lie places =
    let rest = routes_over mirror dir parts config n source old notes is agrees ls routes.1 lie.1 places.1 in
    let route : ListEndsInRoute config n old (history_of n notes) l = routes.0 in
    let walk : walk_for config old l.wanted ≡ target_walk (dir l.wanted.name.0) (length (parts l.wanted.name.0)) l.wanted =
    ap (λ (o : Option (List ℕ)). target_walk o (config.sizes l.wanted.name.0) l.wanted) (lie.0).0 ∙ ap (λ (k : ℕ). target_walk (dir l.wanted.name.0) k l.wanted) (lie.0).1 in
    let is_route : IsRoute config.settings.retries (target_walk (dir l.wanted.name.0) (length (parts l.wanted.name.0)) l.wanted) route.told.trails l.end =
    subst (λ (w : Walk). IsRoute config.settings.retries w route.told.trails l.end) walk route.told.route in
    let part : part_at parts config.sources (record { source = n; place = l.place }) ≡ parts l.wanted.name.0 =
    ap (λ (s : Option Source). part_of parts (option_and_then (λ source. name_at source l.place) s)) is ∙ ap (part_of parts) places.0 in
    record {
      lists = record { wanted = l.wanted; trails = route.told.trails; end = l.end } ∷ rest.lists;
      names = ap (λ ws. l.wanted ∷ ws) rest.names;
      ends = ap (λ es. l.end ∷ es) rest.ends;
      agree = (
        (
          is_route,
          route.told.agrees mirror (parts l.wanted.name.0)
              (agrees_along mirror (parts l.wanted.name.0) config.settings.retries (start config.settings.retries (walk_for config old l.wanted)) (history_of n notes l.place) route.asks
              (said_by mirror parts config.sources (record { source = n; place = l.place }) (parts l.wanted.name.0) notes part agrees)),
        ),
        rest.agree,
      );
    }

-- ---- new sets

each_front : {A : Type 0} (P : A → Type 0) (xs ys : List A) → Each P (xs ++ ys) → Each P xs
each_front P [] ys each = tt
each_front P (x ∷ xs) ys each = (each.0, each_front P xs ys each.1)

pub new_sets_are_admissible : SetsAreAdmissible → NewSetsAreAdmissible
new_sets_are_admissible law begun lists heard n source set begins came =
    let from = (law came.comes.end (map (λ (l : ListEnd). l.end) came.comes.lists) came.former.release begun.config.settings begun.config.change begun.config.now set).0 came.is in (
      from.1,
      subst (λ (o : Option (List ℕ)). IsAdmissible set.release (installed_release o) begun.config.settings.dates begun.config.change begun.config.now)
          (begins.over.installed n source came.former came.stands).release from.2,
    )

pub new_sets_are_mirrors : SetsMadeAreNew → NewSetsAreMirrors
new_sets_are_mirrors law begun lists heard n source set mirror begins agrees came =
    let config = begun.config in
    let comes = came.comes in
    let at : IsSourceAt begun.config begun.olds n source came.former = came.stands in
    let installed = begins.over.installed n source came.former at in
    let heard_first : Agrees mirror begun.parts config.sources came.notes =
    each_front (IsMirrors mirror begun.parts config.sources) came.notes came.later (subst (λ (ns : List Note). Agrees mirror begun.parts config.sources ns) came.so_far agrees) in
    let over = routes_over mirror lists begun.parts config n source came.former came.notes at.source_is heard_first comes.lists comes.routes
    (lists-lie lists begun.parts config source came.former installed begins.over.sizes comes.lists comes.places) comes.places in
    let none : part_at begun.parts config.sources (record { source = n; place = 0 }) ≡ [] = ap (λ (s : Option Source). part_of begun.parts (option_and_then (λ source. name_at source 0) s)) at.source_is in
    let release = comes.release.told.agrees mirror []
    (agrees_along mirror [] config.settings.retries (start config.settings.retries (release_walk source)) (history_of n came.notes 0) comes.release.asks
    (said_by mirror begun.parts config.sources (record { source = n; place = 0 }) [] came.notes none heard_first)) in
    law mirror lists begun.parts source config.settings config.change config.now config.settings.retries comes.release.told.trails comes.end over.lists set comes.release.told.route release
    (over.names ∙ comes.named_lists ∙ ap (λ (o : Option (List ℕ)). wanted_by source config.settings (admitted comes.end o config.settings config.change config.now)) installed.release)
    over.agree
    (ap (λ (o : Option (List ℕ)). outcome comes.end (map (λ (l : RouteEnd). l.end) over.lists) o config.settings config.change config.now) (sym installed.release)
    ∙ ap (λ (es : List End). outcome comes.end es came.former.release config.settings config.change config.now) over.ends ∙ came.is)
