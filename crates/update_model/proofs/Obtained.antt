-- What is obtained fits, and patches and partial files only help.
use Rattle.std.proofs.Common.{◌≡◌, ◌↔◌, ℕ, zero, suc, List, [], ◌∷◌, Any, Option, Some, None, refl, sym, ap, ◌∙◌, subst, inl, inr, ◌⊎◌, ◌<◌, length, arith}
use Rattle.std.specs.List.{slice_index_or}
use Rattle.acq_base.specs.Mirror.{MirrorMap}
use Rattle.acq_base.specs.Sum.{Fits}
use Rattle.acq_base.specs.declared.sum.Sum.{Sum}
use Rattle.update_model.specs.Files.{fitting}
use Rattle.update_model.specs.Laws.{IsHad, file_of, IsFileOf, ObtainedFilesFit, FilesAreObtained, PatchesOnlyHelp, PartsOnlyHelp}
use Rattle.update_model.specs.Obtained.{patched, resumed, or_else, first_fitting, reached_files, stands_or, got_or, list_cause}
use Rattle.update_model.specs.Reach.{reach}
use Rattle.update_model.specs.declared.wanted.Wanted.{Wanted}
use Rattle.update_model.specs.declared.cause.Cause.{Cause}
use Rattle.update_model.specs.declared.end.End.{End}
use Rattle.update_model.specs.declared.end.End.TheVariants.{Ended}
use Rattle.update_model.proofs.Sums.{fitting-fits, fitting-none, fitting-is}

-- ---- some element

pub any-head : {X : Type 0} (P : X → Type 0) (x : X) (xs : List X) → P x → Any P (x ∷ xs)
any-head P x xs p = (0, x, omega arith, refl, p)

pub any-tail : {X : Type 0} (P : X → Type 0) (x : X) (xs : List X) → Any P xs → Any P (x ∷ xs)
any-tail P x xs a = (suc a.0, a.1, omega (arith, a.2), a.3, a.4)

any-cases : {X : Type 0} (P : X → Type 0) (x : X) (xs : List X) → Any P (x ∷ xs) → P x ⊎ Any P xs
any-cases P x xs a = at a.0 a.1 a.2 a.3 a.4
  where
    at : (k : ℕ) (y : _) → k < length (x ∷ xs) → slice_index_or (x ∷ xs) k y ≡ y → P y → P x ⊎ Any P xs
    at zero y below is p = inl (subst P (sym is) p)
    at (suc k) y below is p = inr (k, y, omega (arith, below), is, p)

-- ---- the first file that fits

first-fits : (sum : Sum) (files : List (Option (List ℕ))) (bytes : List ℕ) → first_fitting sum files ≡ Some bytes → Fits bytes sum × Any (IsFileOf sum) files
first-fits sum [] bytes h = cc
first-fits sum (file ∷ files) bytes h = look (fitting sum file) refl h (λ e. first-fits sum files bytes e)
  where
    look : (o : Option (List ℕ)) → fitting sum file ≡ o → or_else o (first_fitting sum files) ≡ Some bytes
        → (first_fitting sum files ≡ Some bytes → Fits bytes sum × Any (IsFileOf sum) files) → Fits bytes sum × Any (IsFileOf sum) (file ∷ files)
    look (Some found) e h more =
        let fits = fitting-is sum file found e in
        let same : found ≡ bytes = cc in
        let here : IsFileOf sum (Some bytes) = subst (IsFileOf sum) (fits.1 ∙ ap (λ x. Some x) same) fits.0 in
        (here, any-head (IsFileOf sum) file files fits.0)
    look None e h more = let rest = more h in (rest.0, any-tail (IsFileOf sum) file files rest.1)

first-found : (sum : Sum) (files : List (Option (List ℕ))) → Any (IsFileOf sum) files → first_fitting sum files ≡ None → ⊥
first-found sum [] a none = omega (arith, a.2)
first-found sum (file ∷ files) a none = split (any-cases (IsFileOf sum) file files a) (λ there e. first-found sum files there e)
  where
    stays : (o : Option (List ℕ)) → IsFileOf sum o → or_else o (first_fitting sum files) ≡ None → ⊥
    stays None here e = here
    stays (Some bytes) here e = cc

    passes : (o : Option (List ℕ)) → or_else o (first_fitting sum files) ≡ None → first_fitting sum files ≡ None
    passes None h = h
    passes (Some bytes) h = cc

    split : IsFileOf sum file ⊎ Any (IsFileOf sum) files → (Any (IsFileOf sum) files → first_fitting sum files ≡ None → ⊥) → ⊥
    split (inl here) more = stays file here (ap (λ o. or_else o (first_fitting sum files)) (sym (fitting-fits sum file here)) ∙ none)
    split (inr there) more = more there (passes (fitting sum file) none)

-- ---- the end of a list

abbrev end_of : Sum → Option (List ℕ) → List (Option (List ℕ)) → Cause → End
end_of sum installed files cause = stands_or (fitting sum installed) (got_or (first_fitting sum files) (Ended cause))

had-fits : (sum : Sum) (installed : Option (List ℕ)) (files : List (Option (List ℕ))) (cause : Cause)
    → IsHad (end_of sum installed files cause) → IsFileOf sum (file_of installed (end_of sum installed files cause))
had-fits sum installed files cause = look (fitting sum installed) refl (first_fitting sum files) refl
  where
    look : (o : Option (List ℕ)) → fitting sum installed ≡ o → (p : Option (List ℕ)) → first_fitting sum files ≡ p
        → IsHad (stands_or o (got_or p (Ended cause))) → IsFileOf sum (file_of installed (stands_or o (got_or p (Ended cause))))
    look (Some bytes) e p f h = (fitting-is sum installed bytes e).0
    look None e (Some bytes) f h = (first-fits sum files bytes f).0
    look None e None f h = absurd h

had-any : (sum : Sum) (installed : Option (List ℕ)) (files : List (Option (List ℕ))) (cause : Cause)
    → IsHad (end_of sum installed files cause) ↔ Any (IsFileOf sum) (installed ∷ files)
had-any sum installed files cause = look (fitting sum installed) refl (first_fitting sum files) refl
  where
    look : (o : Option (List ℕ)) → fitting sum installed ≡ o → (p : Option (List ℕ)) → first_fitting sum files ≡ p
        → IsHad (stands_or o (got_or p (Ended cause))) ↔ Any (IsFileOf sum) (installed ∷ files)
    look (Some bytes) e p f = ((λ h. any-head (IsFileOf sum) installed files (fitting-is sum installed bytes e).0), (λ a. tt))
    look None e (Some bytes) f = ((λ h. any-tail (IsFileOf sum) installed files (first-fits sum files bytes f).1), (λ a. tt))
    look None e None f = ((λ h. absurd h), (λ a. split (any-cases (IsFileOf sum) installed files a)))
      where
        split : IsFileOf sum installed ⊎ Any (IsFileOf sum) files → ⊥
        split (inl here) = subst (IsFileOf sum) (sym (fitting-fits sum installed here) ∙ e) here
        split (inr there) = first-found sum files there f

pub files-fit : ObtainedFilesFit
files-fit world installed part w =
    had-fits w.sum installed (patched world installed w ∷ resumed world part w ∷ reached_files world w) (list_cause w (reach world w.uri w.sum.size))

pub files-obtained : FilesAreObtained
files-obtained world installed part w =
    had-any w.sum installed (patched world installed w ∷ resumed world part w ∷ reached_files world w) (list_cause w (reach world w.uri w.sum.size))

-- ---- patches and partial files

abbrev by_patches : MirrorMap → Option (List ℕ) → List ℕ → Wanted → Option (List ℕ) → End
by_patches world installed part w o =
    stands_or (fitting w.sum installed)
    (got_or (or_else o (first_fitting w.sum (resumed world part w ∷ reached_files world w))) (Ended (list_cause w (reach world w.uri w.sum.size))))

unpatched : (world : MirrorMap) (installed : Option (List ℕ)) (w : Wanted) → fitting w.sum (patched world installed (record w { index = None })) ≡ None
unpatched world None w = refl
unpatched world (Some file) w = refl

pub patches-help : PatchesOnlyHelp
patches-help world installed part w other =
    ap (by_patches world installed part w) (fitting-none w.sum (patched world installed w) other ∙ sym (unpatched world installed w))

pub parts-help : PartsOnlyHelp
parts-help world installed part w other =
    ap (λ o. stands_or (fitting w.sum installed)
    (got_or (or_else (fitting w.sum (patched world installed w)) (or_else o (first_fitting w.sum (reached_files world w)))) (Ended (list_cause w (reach world w.uri w.sum.size)))))
    (fitting-none w.sum (resumed world part w) other)
