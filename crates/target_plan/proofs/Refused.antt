-- The refusals of parts of a plan, and of the whole.
use Rattle.std.proofs.Common.{◌≡◌, ◌⊎◌, inl, inr, ℕ, ◌+◌, ◌<◌, length, get_or, take, drop, List, [], ◌∷◌, ◌++◌, map, Option, Some, None, Result, Ok, Err, refl, sym, ap, ◌∙◌}
use Rattle.std.proofs.lemmas.List.{take-append-drop, drop_more, map_more, map-append}
use Rattle.std.proofs.lemmas.List.Concat.{flat_map-append}
use Rattle.acq_base.specs.declared.plan.Plan.{Plan}
use Rattle.acq_base.specs.declared.settings.Pick.{Pick}
use Rattle.acq_base.specs.declared.settings.Settings.{Settings}
use Rattle.source_lists.specs.declared.entry.Entry.{Entry}
use Rattle.target_plan.specs.declared.checks.File.{File}
use Rattle.acq_base.specs.declared.plan.Source.{Source}
use Rattle.target_plan.specs.declared.error.Place.{Place}
use Rattle.target_plan.specs.declared.draft.Planned.{Planned}
use Rattle.target_plan.specs.declared.draft.Draft.{Draft}
use Rattle.target_plan.specs.declared.error.PlanError.{PlanError}
use Rattle.target_plan.specs.declared.error.PlanError.TheVariants.{NoMemory, TooMany}
use Rattle.target_plan.specs.Groups.{together}
use Rattle.target_plan.specs.Drafts.{is_same_source, draft_of, drafts_of, file_of, files_of, files_in, finished}
use Rattle.target_plan.specs.Planning.{or_else, name_refusal, long_name, clash, too_many, refusal_of, unless, plan_of}

or_else-assoc : (a b c : Option PlanError) → or_else (or_else a b) c ≡ or_else a (or_else b c)
or_else-assoc None b c = refl
or_else-assoc (Some a) b c = refl

long-append : (a b : List File) → long_name (a ++ b) ≡ or_else (long_name a) (long_name b)
unfolding long_name
long-append [] b = refl
long-append (f ∷ a) b = ap (or_else (name_refusal f.name)) (long-append a b) ∙ sym (or_else-assoc (name_refusal f.name) (long_name a) (long_name b))

files-append : (a b : List Draft) → files_in (a ++ b) ≡ files_in a ++ files_in b
unfolding files_in
files-append a b = flat_map-append files_of a b

files-cons : (d : Draft) (ds : List Draft) → files_in (d ∷ ds) ≡ files_of d ++ files_in ds
unfolding files_in
files-cons d ds = refl

-- the first long name of drafts, another one and others
long-drafts : (a b : List Draft) (d : Draft) → long_name (files_in (a ++ d ∷ b)) ≡ or_else (long_name (files_in a)) (or_else (long_name (files_of d)) (long_name (files_in b)))
long-drafts a b d =
    ap long_name (files-append a (d ∷ b) ∙ ap (λ (fs : List File). files_in a ++ fs) (files-cons d b)) ∙ long-append (files_in a) (files_of d ++ files_in b)
    ∙ ap (or_else (long_name (files_in a))) (long-append (files_of d) (files_in b))

pub no_files : long_name (files_in []) ≡ None
unfolding long_name files_in
no_files = refl

pub drafts_more : (a : List Draft) (d : Draft) → long_name (files_in a) ≡ None → long_name (files_of d) ≡ None → long_name (files_in (a ++ d ∷ [])) ≡ None
drafts_more a d before here = long-drafts a [] d ∙ (λ i. or_else (before i) (or_else (here i) (no_files i)))

pub drafts_refused : (a b : List Draft) (d : Draft) (e : PlanError) → long_name (files_in a) ≡ None → long_name (files_of d) ≡ Some e → long_name (files_in (a ++ d ∷ b)) ≡ Some e
drafts_refused a b d e before here = long-drafts a b d ∙ (λ i. or_else (before i) (or_else (here i) (long_name (files_in b))))

-- ---- a draft

pub draft_named : (d : Draft) (s : Source) (e : PlanError) → s ≡ d.source → (e ≡ NoMemory) ⊎ (name_refusal s.release_name ≡ Some e) → (e ≡ NoMemory) ⊎ (long_name (files_of d) ≡ Some e)
unfolding files_of long_name
draft_named d s e made (inl is) = inl is
draft_named d s e made (inr long) = inr (ap (λ (o : Option PlanError). or_else o (long_name (map file_of d.lists))) (ap (λ (t : Source). name_refusal t.release_name) (sym made) ∙ long))

pub draft_listed : (d : Draft) (s : Source) (lists : List Planned) (e : PlanError) → s ≡ d.source → lists ≡ d.lists → name_refusal s.release_name ≡ None → (e ≡ NoMemory) ⊎ (long_name (map file_of lists) ≡ Some e)
    → (e ≡ NoMemory) ⊎ (long_name (files_of d) ≡ Some e)
unfolding files_of long_name
draft_listed d s lists e made listed short (inl is) = inl is
draft_listed d s lists e made listed short (inr long) =
    inr (λ i. or_else ((ap (λ (t : Source). name_refusal t.release_name) (sym made) ∙ short) i) ((ap (λ (ls : List Planned). long_name (map file_of ls)) (sym listed) ∙ long) i))

pub draft_short : (d : Draft) (s : Source) (lists : List Planned) → s ≡ d.source → lists ≡ d.lists → name_refusal s.release_name ≡ None → long_name (map file_of lists) ≡ None → long_name (files_of d) ≡ None
unfolding files_of long_name
draft_short d s lists made listed short shorts =
    λ i. or_else ((ap (λ (t : Source). name_refusal t.release_name) (sym made) ∙ short) i) ((ap (λ (ls : List Planned). long_name (map file_of ls)) (sym listed) ∙ shorts) i)

pub draft_made : (d : Draft) (s : Source) (o : Place) (lists : List Planned) → s ≡ d.source → o ≡ d.origin → lists ≡ d.lists → record { source = s; origin = o; lists = lists } ≡ d
draft_made d s o lists made stands listed = λ i. record { source = made i; origin = stands i; lists = listed i }

-- ---- drafts in a loop

module _ {G H : Type 0} (draft : H → Draft) (item : G → H) (groups : List G) (i : ℕ) (x : G) (within : i < length groups) (is : x ≡ get_or groups i x) where
  drafts-split : (so_far : List Draft) → so_far ≡ map draft (map item (take i groups)) → map draft (map item groups) ≡ so_far ++ draft (item x) ∷ map draft (map item (drop (i + 1) groups))
  drafts-split so_far same =
      ap (λ (gs : List G). map draft (map item gs)) (sym (take-append-drop i groups) ∙ ap (λ (back : List G). take i groups ++ back) (drop_more groups i x within ∙ ap (λ (y : G). y ∷ drop (i + 1) groups) (sym is)))
      ∙ ap (map draft) (map-append item (take i groups) (x ∷ drop (i + 1) groups)) ∙ map-append draft (map item (take i groups)) (item x ∷ map item (drop (i + 1) groups))
      ∙ ap (λ (front : List Draft). front ++ draft (item x) ∷ map draft (map item (drop (i + 1) groups))) (sym same)

  pub drafts_stop : (so_far : List Draft) (e : PlanError) → so_far ≡ map draft (map item (take i groups)) → long_name (files_in so_far) ≡ None → (e ≡ NoMemory) ⊎ (long_name (files_of (draft (item x))) ≡ Some e)
      → (e ≡ NoMemory) ⊎ (long_name (files_in (map draft (map item groups))) ≡ Some e)
  drafts_stop so_far e same before (inl memory) = inl memory
  drafts_stop so_far e same before (inr long) =
      inr (ap (λ (ds : List Draft). long_name (files_in ds)) (drafts-split so_far same) ∙ drafts_refused so_far (map draft (map item (drop (i + 1) groups))) (draft (item x)) e before long)

  pub drafts_grow : (so_far now : List Draft) (d : Draft) → so_far ≡ map draft (map item (take i groups)) → now ≡ so_far ++ d ∷ [] → d ≡ draft (item x) → now ≡ map draft (map item (take (i + 1) groups))
  drafts_grow so_far now d same more made =
      more ∙ (λ i. same i ++ made i ∷ []) ∙ sym (map-append draft (map item (take i groups)) (item x ∷ []))
      ∙ ap (map draft) (ap (λ (y : G). map item (take i groups) ++ item y ∷ []) is ∙ sym (map_more item groups i x within))

  pub drafts_fit : (so_far now : List Draft) (d : Draft) → now ≡ so_far ++ d ∷ [] → d ≡ draft (item x) → long_name (files_in so_far) ≡ None → long_name (files_of (draft (item x))) ≡ None → long_name (files_in now) ≡ None
  drafts_fit so_far now d more made before here =
      ap (λ (ds : List Draft). long_name (files_in ds)) (more ∙ ap (λ (y : Draft). so_far ++ y ∷ []) made) ∙ drafts_more so_far (draft (item x)) before here

-- ---- the whole plan

abbrev Answers : Pick → Settings → List Entry → Result Plan PlanError → Type 0
Answers pick settings entries result = (result ≡ Err NoMemory) ⊎ (result ≡ plan_of pick settings entries)

refused : (pick : Pick) (settings : Settings) (entries : List Entry) (e : PlanError) → refusal_of (files_in (drafts_of pick settings entries)) ≡ Some e → Err e ≡ plan_of pick settings entries
unfolding plan_of
refused pick settings entries e is = sym (ap (λ (o : Option PlanError). unless o (record { sources = map finished (drafts_of pick settings entries) })) is)

no_memory : (pick : Pick) (settings : Settings) (entries : List Entry) (e : PlanError) → e ≡ NoMemory → Answers pick settings entries (Err e)
no_memory pick settings entries e is = inl (ap Err is)

pub refused_long : (pick : Pick) (settings : Settings) (entries : List Entry) (e : PlanError) → (e ≡ NoMemory) ⊎ (long_name (files_in (drafts_of pick settings entries)) ≡ Some e) → Answers pick settings entries (Err e)
unfolding refusal_of
refused_long pick settings entries e (inl is) = no_memory pick settings entries e is
refused_long pick settings entries e (inr long) =
    let files = files_in (drafts_of pick settings entries) in
    inr (refused pick settings entries e (ap (λ (o : Option PlanError). or_else o (or_else (clash files) (too_many files))) long))

pub refused_clash : (pick : Pick) (settings : Settings) (entries : List Entry) (e : PlanError) → long_name (files_in (drafts_of pick settings entries)) ≡ None → (e ≡ NoMemory) ⊎ (clash (files_in (drafts_of pick settings entries)) ≡ Some e) → Answers pick settings entries (Err e)
unfolding refusal_of
refused_clash pick settings entries e short (inl is) = no_memory pick settings entries e is
refused_clash pick settings entries e short (inr clashes) =
    let files = files_in (drafts_of pick settings entries) in
    inr (refused pick settings entries e (λ i. or_else (short i) (or_else (clashes i) (too_many files))))

pub refused_many : (pick : Pick) (settings : Settings) (entries : List Entry) (e : PlanError) → long_name (files_in (drafts_of pick settings entries)) ≡ None → clash (files_in (drafts_of pick settings entries)) ≡ None
    → (e ≡ NoMemory) ⊎ (too_many (files_in (drafts_of pick settings entries)) ≡ Some e) → Answers pick settings entries (Err e)
unfolding refusal_of
refused_many pick settings entries e short apart (inl is) = no_memory pick settings entries e is
refused_many pick settings entries e short apart (inr many) = inr (refused pick settings entries e (λ i. or_else (short i) (or_else (apart i) (many i))))

pub not_refused : (pick : Pick) (settings : Settings) (entries : List Entry) (plan : Plan) → long_name (files_in (drafts_of pick settings entries)) ≡ None → clash (files_in (drafts_of pick settings entries)) ≡ None
    → too_many (files_in (drafts_of pick settings entries)) ≡ None → plan.sources ≡ map finished (drafts_of pick settings entries) → Ok plan ≡ plan_of pick settings entries
unfolding plan_of refusal_of
not_refused pick settings entries plan short apart few is =
    (λ i. Ok (record { sources = is i }))
    ∙ sym (λ i. unless (or_else (short i) (or_else (apart i) (few i))) (record { sources = map finished (drafts_of pick settings entries) }))

pub refused_overfull : (pick : Pick) (settings : Settings) (entries : List Entry) (groups : List (Entry × List Entry)) → groups ≡ together is_same_source entries → refusal_of (files_in (map (draft_of pick settings) groups)) ≡ Some TooMany → Answers pick settings entries (Err TooMany)
unfolding drafts_of
refused_overfull pick settings entries groups are many =
    inr (refused pick settings entries TooMany (ap (λ (gs : List (Entry × List Entry)). refusal_of (files_in (map (draft_of pick settings) gs))) (sym are) ∙ many))
