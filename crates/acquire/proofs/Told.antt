-- What is told of an environment.
use Rattle.std.proofs.Common.{◌≡◌, ◌∙◌, ap, subst, drop, ℕ, suc, List, Option, Some, None, IfSome}
use Rattle.acquire.specs.Carried.{IsPlace, IsPlaceRefusal}
use Rattle.start_values.specs.Environment.{Known}
use Rattle.start_values.specs.Start.{IsRefusal}
use Rattle.start_values.specs.declared.refused.Refused.{Refused}
use Rattle.start_values.specs.declared.refused.Refused.TheVariants.{NoMemory}

-- a folder that is one that the environment names is named by it
pub named_by : (told : Option Known) (folder read : List ℕ) (names : Known → List ℕ) → folder ≡ read → IfSome told (λ known. read ≡ names known) → IfSome told (λ known. folder ≡ names known)
named_by None folder read names same is = tt
named_by (Some known) folder read names same is = same ∙ is

-- and so is the folder for package files
pub place_by : (told : Option Known) (folder read : List ℕ) (words : List (List ℕ)) → folder ≡ read → IfSome told (λ known. IsPlace known words read) → IfSome told (λ known. IsPlace known words folder)
place_by None folder read words same is = tt
place_by (Some known) folder read words same is = rw same is

-- or there is none
pub refusal_by : (told : Option Known) (words : List (List ℕ)) (refused : Refused) → IfSome told (λ known. words ≡ drop 1 known.words) → IfSome told (λ known. IsPlaceRefusal known words refused)
    → IfSome told (λ known. IsPlaceRefusal known (drop 1 known.words) refused)
refusal_by None words refused is refuses = tt
refusal_by (Some known) words refused is refuses = subst (λ w. IsPlaceRefusal known w refused) is refuses

-- want of memory needs no cause
pub without_memory : (told : Option Known) → IfSome told (λ known. IsRefusal known NoMemory)
without_memory None = tt
without_memory (Some known) = tt

-- as many as it says, and one
pub one_more_by : (told : Option Known) (count read : ℕ) (says : Known → ℕ) → count ≡ suc read → IfSome told (λ known. read ≡ says known) → IfSome told (λ known. count ≡ suc (says known))
one_more_by None count read says same is = tt
one_more_by (Some known) count read says same is = same ∙ ap suc is
