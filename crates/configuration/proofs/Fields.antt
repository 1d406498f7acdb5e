-- The settings on changed heads, one after another.
use Rattle.std.proofs.Common.{◌≡◌, refl, sym, inl, inr, ◌⊎◌, Bool, false, List, codes, Result, Ok, Err}
use Rattle.apt_conf.specs.Keys.{Pair}
use Rattle.apt_conf.specs.Settings.{boolean}
use Rattle.apt_conf.specs.declared.error.ConfError.{ConfError}
use Rattle.apt_conf.specs.declared.error.ConfError.TheVariants.{NoMemory}
use Rattle.configuration.specs.Changes.{change_given}

abbrev pub Reads : {A : Type 0} → Result A ConfError → Result A ConfError → Type 0
Reads result read = (result ≡ Err NoMemory) ⊎ (result ≡ read)

worked : {A : Type 0} (x : A) (read : Result A ConfError) → Reads (Ok x) read → read ≡ Ok x
worked x read (inl memory) = absurd (cc)
worked x read (inr same) = sym same

failed : {A B : Type 0} (e : ConfError) (read : Result A ConfError) (whole : Result B ConfError) → (read ≡ Err e → whole ≡ Err e) → Reads {A = A} (Err e) read → Reads {A = B} (Err e) whole
failed e read whole to (inl memory) = let same : e ≡ NoMemory = cc in inl (λ i. Err (same i))
failed e read whole to (inr same) = inr (sym (to (sym same)))

module _ (pairs : List Pair) (all : Bool) (first : Reads (Ok all) (boolean false pairs (codes "Acquire::AllowReleaseInfoChange"))) where
  pub origin_fails : (e : ConfError) → Reads (Err e) (boolean all pairs (codes "Acquire::AllowReleaseInfoChange::Origin")) → Reads (Err e) (change_given pairs)
  unfolding change_given
  origin_fails e read = failed e _ (change_given pairs) (λ (is : boolean all pairs (codes "Acquire::AllowReleaseInfoChange::Origin") ≡ Err e). rw (worked all _ first, is) refl) read

  module _ (origin : Bool) (second : Reads (Ok origin) (boolean all pairs (codes "Acquire::AllowReleaseInfoChange::Origin"))) where
    pub label_fails : (e : ConfError) → Reads (Err e) (boolean all pairs (codes "Acquire::AllowReleaseInfoChange::Label")) → Reads (Err e) (change_given pairs)
    unfolding change_given
    label_fails e read = failed e _ (change_given pairs) (λ (is : boolean all pairs (codes "Acquire::AllowReleaseInfoChange::Label") ≡ Err e). rw (worked all _ first, worked origin _ second, is) refl) read

    module _ (label : Bool) (third : Reads (Ok label) (boolean all pairs (codes "Acquire::AllowReleaseInfoChange::Label"))) where
      pub suite_fails : (e : ConfError) → Reads (Err e) (boolean all pairs (codes "Acquire::AllowReleaseInfoChange::Suite")) → Reads (Err e) (change_given pairs)
      unfolding change_given
      suite_fails e read = failed e _ (change_given pairs) (λ (is : boolean all pairs (codes "Acquire::AllowReleaseInfoChange::Suite") ≡ Err e). rw (worked all _ first, worked origin _ second, worked label _ third, is) refl) read

      module _ (suite : Bool) (fourth : Reads (Ok suite) (boolean all pairs (codes "Acquire::AllowReleaseInfoChange::Suite"))) where
        pub codename_fails : (e : ConfError) → Reads (Err e) (boolean all pairs (codes "Acquire::AllowReleaseInfoChange::Codename")) → Reads (Err e) (change_given pairs)
        unfolding change_given
        codename_fails e read =
            failed e _ (change_given pairs) (λ (is : boolean all pairs (codes "Acquire::AllowReleaseInfoChange::Codename") ≡ Err e). rw (worked all _ first, worked origin _ second, worked label _ third, worked suite _ fourth, is) refl) read

        pub changed : (codename : Bool) → Reads (Ok codename) (boolean all pairs (codes "Acquire::AllowReleaseInfoChange::Codename"))
            → Reads (Ok (record { origin = origin; label = label; suite = suite; codename = codename })) (change_given pairs)
        unfolding change_given
        changed codename read = inr (sym (rw (worked all _ first, worked origin _ second, worked label _ third, worked suite _ fourth, worked codename _ read) refl))
