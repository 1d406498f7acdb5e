-- Lists that begin beside what is under their names, whatever is known of other names.
use Rattle.std.proofs.Common.{◌≡◌, ◌≢◌, ◌∙◌, ◌⊎◌, ◌+◌, ◌<◌, ◌&&◌, ◌++◌, [], ◌∷◌, inl, inr, ℕ, zero, suc, Bool, true, false, IsTrue, List, length, get_or, map, take, Option, Some, None, option_map, refl, sym, ap, subst, arith, ⊎_elim}
use Rattle.std.specs.Prelude.{bytes_eq, if◌then◌else◌, is_none, is_some, not}
use Rattle.std.specs.List.{AllByRecursion as Each, list_all}
use Rattle.std.proofs.lemmas.Bool.{cases_Bool, false_from_ne_true}
use Rattle.std.proofs.lemmas.Grind.{take_at_read}
use Rattle.std.proofs.lemmas.List.{get_or-take, length-take-le, map-append, take_all}
use Rattle.std.proofs.lemmas.Slice.Eq.{bytes_eq-Decides}
use Rattle.acq_base.specs.Sum.{sum_of}
use Rattle.acq_base.specs.declared.installed.Old.{Old}
use Rattle.acq_base.specs.declared.plan.Source.{Source}
use Rattle.acq_base.specs.declared.plan.Target.{Target}
use Rattle.acq_base.specs.declared.sum.Sum.{Sum}
use Rattle.acq_base.specs.declared.uri.ListName.{ListName}
use Rattle.acq_outside.specs.Disk.{Files}
use Rattle.board_model.specs.Keys.{named}
use Rattle.board_model.specs.Slots.{Setup, Standing, begun, first_list, is_there, stands_there}
use Rattle.lists_dir.specs.Installed.{installed_of, listed, lists_of}
use Rattle.release_file.specs.Release.{listed_sum}
use Rattle.release_file.specs.declared.release.Release.{Release}
use Rattle.update_model.specs.Outcomes.{AdmittedRelease}
use Rattle.update_model.specs.Next.{same_bytes, same_sums}
use Rattle.update_model.specs.Walks.{target_walk}
use Rattle.update_model.specs.Wanted.{want}
use Rattle.update_model.specs.declared.wanted.Wanted.{Wanted}
use Rattle.board_source.specs.Anew.{Anew, AreFirst, IsFirst, is_wanted, wanted_start}
use Rattle.board_source.specs.Names.{NamesDiffer}
use Rattle.board_source.proofs.Taken.{all-pass-more, later-differs}

-- ---- rows under the names of targets

-- a target of that name is there, or no row is
named-or : (files : Files) (targets : List Target) (name : List ℕ) → (named (lists_of files targets) name ≡ files name) ⊎ (named (lists_of files targets) name ≡ None)
named-or files [] name = inr refl
named-or files (t ∷ targets) name = by (files t.name.0) refl (named-or files targets name)
  where
    by : (file : Option (List ℕ)) → files t.name.0 ≡ file → (named (lists_of files targets) name ≡ files name) ⊎ (named (lists_of files targets) name ≡ None)
        → (named (listed t file ++ lists_of files targets) name ≡ files name) ⊎ (named (listed t file ++ lists_of files targets) name ≡ None)
    by None is rest = rest
    by (Some bytes) is rest = two (cases_Bool (bytes_eq t.name.0 name))
      where
        two : (bytes_eq t.name.0 name ≡ true) ⊎ (bytes_eq t.name.0 name ≡ false) → (named ((t.name, bytes) ∷ lists_of files targets) name ≡ files name) ⊎ (named ((t.name, bytes) ∷ lists_of files targets) name ≡ None)
        two (inl own) =
            let same : t.name.0 ≡ name = (bytes_eq-Decides t.name.0 name).0 own in
            inl (ap (λ (b : Bool). if b then Some bytes else named (lists_of files targets) name) own ∙ sym is ∙ ap files same)
        two (inr other) =
            let past : named ((t.name, bytes) ∷ lists_of files targets) name ≡ named (lists_of files targets) name = ap (λ (b : Bool). if b then Some bytes else named (lists_of files targets) name) other in
            ⊎_elim (λ (e : named (lists_of files targets) name ≡ files name). inl (past ∙ e)) (λ (e : named (lists_of files targets) name ≡ None). inr (past ∙ e)) rest

named-first : (files : Files) (t : Target) (targets : List Target) → named (lists_of files (t ∷ targets)) t.name.0 ≡ files t.name.0
named-first files t targets = by (files t.name.0) refl (named-or files targets t.name.0)
  where
    by : (file : Option (List ℕ)) → files t.name.0 ≡ file → (named (lists_of files targets) t.name.0 ≡ files t.name.0) ⊎ (named (lists_of files targets) t.name.0 ≡ None)
        → named (listed t file ++ lists_of files targets) t.name.0 ≡ files t.name.0
    by None is (inl e) = e
    by None is (inr e) = e ∙ sym is
    by (Some bytes) is rest = ap (λ (b : Bool). if b then Some bytes else named (lists_of files targets) t.name.0) ((bytes_eq-Decides t.name.0 t.name.0).1 refl) ∙ sym is

named-behind : (files : Files) (t : Target) (targets : List Target) (name : List ℕ) → named (lists_of files targets) name ≡ files name → named (lists_of files (t ∷ targets)) name ≡ files name
named-behind files t targets name e = by (files t.name.0) refl
  where
    by : (file : Option (List ℕ)) → files t.name.0 ≡ file → named (listed t file ++ lists_of files targets) name ≡ files name
    by None is = e
    by (Some bytes) is = two (cases_Bool (bytes_eq t.name.0 name))
      where
        two : (bytes_eq t.name.0 name ≡ true) ⊎ (bytes_eq t.name.0 name ≡ false) → named ((t.name, bytes) ∷ lists_of files targets) name ≡ files name
        two (inl own) =
            let same : t.name.0 ≡ name = (bytes_eq-Decides t.name.0 name).0 own in
            ap (λ (b : Bool). if b then Some bytes else named (lists_of files targets) name) own ∙ sym is ∙ ap files same
        two (inr other) = ap (λ (b : Bool). if b then Some bytes else named (lists_of files targets) name) other ∙ e

-- the two give the same under the name of each of these targets
abbrev pub Alike : Files → Files → List Target → Type 0
Alike one two targets = Each (λ t. one t.name.0 ≡ two t.name.0) targets

further : (files : Files) (t : Target) (all targets : List Target) → Alike (named (lists_of files all)) files targets → Alike (named (lists_of files (t ∷ all))) files targets
further files t all [] h = tt
further files t all (x ∷ targets) h = (named-behind files t all x.name.0 h.0, further files t all targets h.1)

pub rows-alike : (files : Files) (targets : List Target) → Alike (named (lists_of files targets)) files targets
rows-alike files [] = tt
rows-alike files (t ∷ targets) = (named-first files t targets, further files t targets targets (rows-alike files targets))

pub lists-alike : (one two : Files) (targets : List Target) → Alike one two targets → lists_of one targets ≡ lists_of two targets
lists-alike one two [] h = refl
lists-alike one two (t ∷ targets) h =
    ap (λ (o : Option (List ℕ)). listed t o ++ lists_of one targets) h.0
    ∙ ap (λ (rows : List (ListName × List ℕ)). listed t (two t.name.0) ++ rows) (lists-alike one two targets h.1)

alike-trans : (one two three : Files) (targets : List Target) → Alike one two targets → Alike two three targets → Alike one three targets
alike-trans one two three [] h k = tt
alike-trans one two three (t ∷ targets) h k = (h.0 ∙ k.0, alike-trans one two three targets h.1 k.1)

alike-sym : (one two : Files) (targets : List Target) → Alike one two targets → Alike two one targets
alike-sym one two [] h = tt
alike-sym one two (t ∷ targets) h = (sym h.0, alike-sym one two targets h.1)

-- ---- what begins beside them

-- f reads no other name
abbrev ReadsOwn : {A : Type 0} → (Files → Target → A) → Type 0
ReadsOwn f = (one two : Files) (t : Target) → one t.name.0 ≡ two t.name.0 → f one t ≡ f two t

map-alike : {A : Type 0} (f : Files → Target → A) (one two : Files) (targets : List Target) → ReadsOwn f → Alike one two targets → map (f one) targets ≡ map (f two) targets
map-alike f one two [] own h = refl
map-alike {A} f one two (t ∷ targets) own h = ap (λ (x : A). x ∷ map (f one) targets) (own one two t h.0) ∙ ap (λ (xs : List A). f two t ∷ xs) (map-alike f one two targets own h.1)

all-alike : (f : Files → Target → Bool) (one two : Files) (targets : List Target) → ReadsOwn f → Alike one two targets → list_all (f one) targets ≡ list_all (f two) targets
all-alike f one two [] own h = refl
all-alike f one two (t ∷ targets) own h = ap (λ (b : Bool). b && list_all (f one) targets) (own one two t h.0) ∙ ap (λ (b : Bool). f two t && b) (all-alike f one two targets own h.1)

first-own : (config : Setup) (source : Source) (release : Release) → ReadsOwn (first_list config source release)
first-own config source release one two t same = rw same refl

there-own : (release : Release) → ReadsOwn (stands_there release)
there-own release one two t same = rw same refl

-- ---- one list after another

-- what is under one name beside the rest
abbrev pub with_name : Files → List ℕ → Option (List ℕ) → Files
with_name files name file = λ other. if bytes_eq name other then file else files other

with-own : (files : Files) (name : List ℕ) (file : Option (List ℕ)) → with_name files name file name ≡ file
with-own files name file = ap (λ (b : Bool). if b then file else files name) ((bytes_eq-Decides name name).1 refl)

with-other : (files : Files) (name other : List ℕ) (file : Option (List ℕ)) → name ≢ other → with_name files name file other ≡ files other
with-other files name other file apart = ap (λ (b : Bool). if b then file else files other) (false_from_ne_true (bytes_eq name other) (λ eq. apart ((bytes_eq-Decides name other).0 eq)))

each-front : (source : Source) (files : Files) (n : ℕ) (target d : Target) (file : Option (List ℕ)) → NamesDiffer source → n < length source.targets → target ≡ get_or source.targets n d
    → (k : ℕ) (rest : List Target) → ((i : ℕ) (e : Target) → i < length rest → get_or rest i e ≡ get_or source.targets (k + i) e) → k + length rest ≡ n
    → Alike (with_name files target.name.0 file) files rest
each-front source files n target d file distinct below is k [] from count = tt
each-front source files n target d file distinct below is k (t ∷ rest) from count =
    let here : t ≡ get_or source.targets k t = from 0 t (omega arith) ∙ ap (λ (i : ℕ). get_or source.targets i t) (omega arith) in (
      with-other files target.name.0 t.name.0 file
          (λ same. later-differs source k n t d distinct (omega (arith, count)) below
          (sym (ap (λ (x : Target). x.name.0) here) ∙ sym same ∙ ap (λ (x : Target). x.name.0) is)),
      each-front source files n target d file distinct below is (suc k) rest
          (λ i e inside. from (suc i) e (omega (arith, inside)) ∙ ap (λ (j : ℕ). get_or source.targets j e) (omega arith)) (omega (arith, count)),
    )

-- the lists so far began beside these files, which are those that were known, where the disk tells and has them
pub record AreSoFar (tells : Bool) (files : Files) (config : Setup) (source : Source) (release : Release) (kept : Files) (first : Bool) (at : ℕ) (begins : List (Option Standing)) (had : Bool) : Type 0 where
  pub beside : Files
  pub same : IsTrue tells → Alike kept files source.targets → (name : List ℕ) → beside name ≡ kept name
  pub lists : begins ≡ map (first_list config source release beside) (take at source.targets)
  pub there : had ≡ (first && list_all (stands_there release beside) (take at source.targets))

alike-at : (one two : Files) (targets : List Target) (n : ℕ) (target d : Target) → Alike one two targets → n < length targets → target ≡ get_or targets n d → one target.name.0 ≡ two target.name.0
alike-at one two [] n target d h below is = absurd (omega (arith, below))
alike-at one two (t ∷ targets) zero target d h below is = subst (λ (x : Target). one x.name.0 ≡ two x.name.0) (sym is) h.0
alike-at one two (t ∷ targets) (suc n) target d h below is = alike-at one two targets n target d h.1 (omega (arith, below)) is

alike-all : (one two : Files) (targets : List Target) → ((name : List ℕ) → one name ≡ two name) → Alike one two targets
alike-all one two [] h = tt
alike-all one two (t ∷ targets) h = (h t.name.0, alike-all one two targets h)

front-alike : (source : Source) (files : Files) (n : ℕ) (target d : Target) (file : Option (List ℕ)) → NamesDiffer source → n < length source.targets → target ≡ get_or source.targets n d
    → Alike (with_name files target.name.0 file) files (take n source.targets)
front-alike source files n target d file distinct below is =
    let count : length (take n source.targets) ≡ n = length-take-le n source.targets (omega (arith, below)) in
    each-front source files n target d file distinct below is 0 (take n source.targets)
    (λ i e inside. get_or-take n source.targets i e (omega (arith, inside, count)) ∙ ap (λ (j : ℕ). get_or source.targets j e) (omega arith)) (omega (arith, count))

pub so-far-more : (tells : Bool) (files : Files) (config : Setup) (source : Source) (release : Release) (kept : Files) (first : Bool) (n : ℕ) (lists : List (Option Standing)) (there : Bool) (target : Target) (item : Option Standing) (own next : Bool)
    → AreSoFar tells files config source release kept first n lists there → IsFirst tells files config source release target (kept target.name.0) item own
    → NamesDiffer source → n < length source.targets → target ≡ get_or source.targets n target → next ≡ (there && own) → AreSoFar tells files config source release kept first (n + 1) (lists ++ item ∷ []) next
so-far-more tells files config source release kept first n lists there target item own next s f distinct below is both =
    let beside : Files = with_name s.beside target.name.0 f.file in
    let fits : beside target.name.0 ≡ f.file = with-own s.beside target.name.0 f.file in
    let front : Alike beside s.beside (take n source.targets) = front-alike source s.beside n target target f.file distinct below is in
    let taken : take (n + 1) source.targets ≡ take n source.targets ++ target ∷ [] =
    (take_at_read source.targets n target below).1 ∙ ap (λ (t : Target). take n source.targets ++ t ∷ []) (sym is) in
    let list : Files → Target → Option Standing = first_list config source release in
    let so_far : there ≡ (first && list_all (stands_there release beside) (take n source.targets)) =
    s.there ∙ ap (λ (b : Bool). first && b) (sym (all-alike (stands_there release) beside s.beside (take n source.targets) (there-own release) front)) in
    record {
      beside = beside;
      same = λ told known name. elim (cases_Bool (bytes_eq target.name.0 name)) [
        | inl here ↦
            let at : target.name.0 ≡ name = (bytes_eq-Decides target.name.0 name).0 here in
            ap (λ (b : Bool). if b then f.file else s.beside name) here ∙ f.same told (alike-at kept files source.targets n target target known below is) ∙ ap kept at
        | inr other ↦ ap (λ (b : Bool). if b then f.file else s.beside name) other ∙ s.same told known name
      ];
      lists =
          ap (λ (xs : List (Option Standing)). xs ++ item ∷ []) (s.lists ∙ sym (map-alike list beside s.beside (take n source.targets) (first-own config source release) front))
          ∙ ap (λ (x : Option Standing). map (list beside) (take n source.targets) ++ x ∷ []) (f.item beside fits)
          ∙ sym (ap (map (list beside)) taken ∙ map-append (list beside) (take n source.targets) (target ∷ []));
      there = both ∙ all-pass-more (stands_there release beside) (take n source.targets) target first there own so_far (f.there beside fits)
          ∙ ap (λ (ts : List Target). first && list_all (stands_there release beside) ts) (sym taken);
    }

pub none-so-far : (tells : Bool) (files : Files) (config : Setup) (source : Source) (release : Release) (kept : Files) (first : Bool) (lists : List (Option Standing)) (there : Bool) → lists ≡ [] → there ≡ first → AreSoFar tells files config source release kept first 0 lists there
none-so-far tells files config source release kept first lists there none is = record {
  beside = kept;
  same = λ told known name. refl;
  lists = none;
  there = is ∙ and-true first;
}
  where
    and-true : (b : Bool) → b ≡ (b && true)
    and-true true = refl
    and-true false = refl

pub all-so-far : (tells : Bool) (files : Files) (config : Setup) (source : Source) (kept : Old) (found : AdmittedRelease) (n : ℕ) (lists : List (Option Standing)) (there : Bool) → n ≡ length source.targets
    → AreSoFar tells files config source found.release (named kept.lists) (same_bytes kept.release found.bytes) n lists there → Anew tells files source kept (AreFirst config source found lists there)
all-so-far tells files config source kept found n lists there all s =
    let rows : List (ListName × List ℕ) = lists_of s.beside source.targets in
    let whole : take n source.targets ≡ source.targets = ap (λ (k : ℕ). take k source.targets) all ∙ take_all (length source.targets) source.targets (omega arith) in
    let own : Alike (named rows) s.beside source.targets = rows-alike s.beside source.targets in
    record {
      old = record { release = kept.release; lists = rows };
      release = refl;
      same = λ told is.
          let known : kept.lists ≡ lists_of files source.targets = ap (λ (o : Old). o.lists) is in
          let there : Alike (named kept.lists) files source.targets = subst (λ (xs : List (ListName × List ℕ)). Alike (named xs) files source.targets) (sym known) (rows-alike files source.targets) in
          ap (λ (xs : List (ListName × List ℕ)). record { release = kept.release; lists = xs })
          (lists-alike s.beside files source.targets (alike-trans s.beside (named kept.lists) files source.targets (alike-all s.beside (named kept.lists) source.targets (s.same told there)) there) ∙ sym known);
      is = record {
        lists = s.lists ∙ ap (map (first_list config source found.release s.beside)) whole
            ∙ sym (map-alike (first_list config source found.release) (named rows) s.beside source.targets (first-own config source found.release) own);
        there = s.there ∙ ap (λ (ts : List Target). same_bytes kept.release found.bytes && list_all (stands_there found.release s.beside) ts) whole
            ∙ ap (λ (b : Bool). same_bytes kept.release found.bytes && b) (sym (all-alike (stands_there found.release) (named rows) s.beside source.targets (there-own found.release) own));
      };
    }

pub none-is : {A : Type 0} (o : Option A) (b : Bool) → is_some o ≡ not b → b ≡ is_none o
none-is None true e = refl
none-is None false e = absurd (cc)
none-is (Some x) true e = absurd (cc)
none-is (Some x) false e = refl

-- a list that the Release doesn't name
pub unlisted : (tells : Bool) (files : Files) (config : Setup) (source : Source) (release : Release) (target : Target) (kept : Option (List ℕ)) (had : Bool) → listed_sum release target.path ≡ None → had ≡ is_none kept → IsFirst tells files config source release target kept None had
unlisted tells files config source release target kept had none is = record {
  file = kept;
  same = λ told known. refl;
  item = λ installed at. sym (ap (option_map (λ sum. begun config (target_walk (installed target.name.0) (config.sizes target.name.0) (want source release config.settings target sum)))) none);
  there = λ installed at. is ∙ one kept ∙ sym (ap (λ (o : Option (List ℕ)). same_sums (option_map sum_of o) None) at) ∙ sym (ap (same_sums (option_map sum_of (installed target.name.0))) none);
}
  where
    one : (file : Option (List ℕ)) → is_none file ≡ same_sums (option_map sum_of file) None
    one None = refl
    one (Some bytes) = refl

-- one that it names, with this sum
pub wanted-first : (tells : Bool) (files : Files) (config : Setup) (source : Source) (release : Release) (target : Target) (kept file : Option (List ℕ)) (sum : Sum) (w : Wanted) (item : Option Standing) (had : Bool)
    → listed_sum release target.path ≡ Some sum → w ≡ want source release config.settings target sum → (IsTrue tells → kept ≡ files target.name.0 → file ≡ kept) → item ≡ wanted_start config target w file → had ≡ is_wanted w file
    → IsFirst tells files config source release target kept item had
wanted-first tells files config source release target kept file sum w item had named_so is same begins had_is = record {
  file = file;
  same = same;
  item = λ installed at.
      begins
      ∙ ap (λ (x : Wanted). wanted_start config target x file) is
      ∙ sym (ap (λ (o : Option (List ℕ)). wanted_start config target (want source release config.settings target sum) o) at)
      ∙ sym (ap (option_map (λ sum. begun config (target_walk (installed target.name.0) (config.sizes target.name.0) (want source release config.settings target sum)))) named_so);
  there = λ installed at.
      had_is
      ∙ ap (λ (x : Wanted). is_wanted x file) is
      ∙ sym (ap (λ (o : Option (List ℕ)). same_sums (option_map sum_of o) (Some sum)) at)
      ∙ sym (ap (same_sums (option_map sum_of (installed target.name.0))) named_so);
}
