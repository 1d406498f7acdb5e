-- What stanzas come to is what their parts come to.
use Rattle.std.proofs.Common.{◌≡◌, ◌≢◌, ⊎_elim, suc, ◌||◌, not, Bool, true, false, List, [], ◌∷◌, ◌++◌, Option, Some, None, option_to_list, refl, sym, ap, ◌∙◌, All, Contains, arith}
use Rattle.std.proofs.lemmas.Bool.{or_cases, or_parts, not-true, not-false, false≢true}
use Rattle.std.proofs.lemmas.List.{append-nil}
use Rattle.std.proofs.lemmas.List.Elements.{All-cons, All-nil, All-weaker}
use Rattle.std.specs.List.{list_any}
use Rattle.acq_base.proofs.SameSums.{same_sum-true, same_sum-refl}
use Rattle.acq_base.specs.declared.sum.Sum.{Sum}
use Rattle.release_file.specs.Release.{same_sum}
use Rattle.deb_fetch.specs.Founds.{found_of, joined, one_found}
use Rattle.deb_fetch.specs.Stanzas.{Differ, IsFileOf, IsNamedBy}
use Rattle.deb_fetch.specs.declared.deb.Deb.{Deb}
use Rattle.deb_fetch.specs.declared.found.Found.{Found}
use Rattle.deb_fetch.specs.declared.stanza.Stanza.{Stanza}

abbrev others : Sum → List Stanza → Bool
others sum stanzas = list_any (λ (other : Stanza). not (same_sum other.sum sum)) stanzas

others-append : (sum : Sum) (a b : List Stanza) → others sum (a ++ b) ≡ (others sum a || others sum b)
others-append sum [] b = refl
others-append sum (s ∷ a) b = by (others-append sum a b) (not (same_sum s.sum sum))
  where
    by : others sum (a ++ b) ≡ (others sum a || others sum b) → (t : Bool) → (t || others sum (a ++ b)) ≡ ((t || others sum a) || others sum b)
    by later true = refl
    by later false = later

both : (s : Stanza) (more : List Stanza) (t : Stanza) (rest : List Stanza) → others s.sum (more ++ t ∷ rest) ≡ ((others s.sum more || others t.sum rest) || not (same_sum t.sum s.sum))
both s more t rest = others-append s.sum more (t ∷ rest) ∙ by (same_sum t.sum s.sum) refl
  where
    same : (a b c : Bool) → b ≡ c → (a || (false || b)) ≡ ((a || c) || false)
    same true b c is = refl
    same false true true is = refl
    same false true false is = is
    same false false true is = is
    same false false false is = refl

    differs : (a b c : Bool) → (a || (true || b)) ≡ ((a || c) || true)
    differs true b c = refl
    differs false b true = refl
    differs false b false = refl

    by : (b : Bool) → same_sum t.sum s.sum ≡ b → (others s.sum more || (not b || others s.sum rest)) ≡ ((others s.sum more || others t.sum rest) || not b)
    by true is = same (others s.sum more) (others s.sum rest) (others t.sum rest) (ap (λ (sum : Sum). others sum rest) (sym (same_sum-true t.sum s.sum is)))
    by false is = differs (others s.sum more) (others s.sum rest) (others t.sum rest)

or-nothing : (a : Bool) → a ≡ ((a || false) || false)
or-nothing true = refl
or-nothing false = refl

pub found_of-append : (a b : List Stanza) → found_of (a ++ b) ≡ joined (found_of a) (found_of b)
found_of-append [] b = refl
found_of-append (s ∷ more) [] = λ i. record { first = Some s; several = (ap (others s.sum) (append-nil more) ∙ or-nothing (others s.sum more)) i }
found_of-append (s ∷ more) (t ∷ rest) = λ i. record { first = Some s; several = both s more t rest i }

pub found_of-one : (stanza : Option Stanza) → found_of (option_to_list stanza) ≡ one_found stanza
found_of-one None = refl
found_of-one (Some s) = refl

-- ---- what it says of all

head_sum : (sum : Sum) (s : Stanza) (more : List Stanza) → not (same_sum s.sum sum) ≡ false → s.sum ≡ sum
head_sum sum s more same = same_sum-true s.sum sum (not-false (same_sum s.sum sum) same)

all_same : (sum : Sum) (stanzas : List Stanza) → others sum stanzas ≡ false → All (λ (s : Stanza). s.sum ≡ sum) stanzas
all_same sum [] none = All-nil (λ (s : Stanza). s.sum ≡ sum)
all_same sum (s ∷ more) none =
    let parts = or_parts (not (same_sum s.sum sum)) (others sum more) none in
    All-cons (λ (s : Stanza). s.sum ≡ sum) s more (head_sum sum s more parts.0) (all_same sum more parts.1)

pub record IsOther (sum : Sum) (stanzas : List Stanza) : Type 0 where
  pub stanza : Stanza
  pub there : Contains stanzas stanza
  pub other : stanza.sum ≢ sum

one_other : (sum : Sum) (stanzas : List Stanza) → others sum stanzas ≡ true → IsOther sum stanzas
one_other sum [] some = absurd cc
one_other sum (s ∷ more) some = ⊎_elim here (later (one_other sum more)) (or_cases (not (same_sum s.sum sum)) (others sum more) some)
  where
    here : not (same_sum s.sum sum) ≡ true → IsOther sum (s ∷ more)
    here differs = record {
      stanza = s;
      there = (0, omega arith, refl);
      other = λ same. false≢true (sym (not-true (same_sum s.sum sum) differs) ∙ ap (λ (x : Sum). same_sum x sum) same ∙ same_sum-refl sum);
    }

    later : (others sum more ≡ true → IsOther sum more) → others sum more ≡ true → IsOther sum (s ∷ more)
    later among there = let rest = among there in record {
      stanza = rest.stanza;
      there = (suc rest.there.0, omega (arith, rest.there.1), rest.there.2);
      other = rest.other;
    }

pub record AreNamed (first : Stanza) (stanzas : List Stanza) : Type 0 where
  pub more : List Stanza
  pub are : stanzas ≡ first ∷ more
  pub sums : All (λ (s : Stanza). s.sum ≡ first.sum) stanzas

-- none was found
pub none_named : (stanzas : List Stanza) (several : Bool) → record { first = None; several = several } ≡ found_of stanzas → stanzas ≡ []
none_named [] several is = refl
none_named (s ∷ more) several is = absurd (let firsts = ap (λ (f : Found). f.first) is in cc)

-- some were, of one sum
pub same_named : (stanzas : List Stanza) (first : Stanza) → record { first = Some first; several = false } ≡ found_of stanzas → AreNamed first stanzas
same_named [] first is = absurd (let firsts = ap (λ (f : Found). f.first) is in cc)
same_named (s ∷ more) first is =
    let same : s ≡ first = let firsts = ap (λ (f : Found). f.first) is in cc in
    let none : others s.sum more ≡ false = sym (ap (λ (f : Found). f.several) is) in
    record {
      more = more;
      are = ap (λ (x : Stanza). x ∷ more) same;
      sums = All-cons (λ (x : Stanza). x.sum ≡ first.sum) s more (ap (λ (x : Stanza). x.sum) same)
          (all_same first.sum more (ap (λ (x : Stanza). others x.sum more) (sym same) ∙ none));
    }

-- of several
pub several_named : (stanzas : List Stanza) (first : Stanza) → record { first = Some first; several = true } ≡ found_of stanzas → Differ stanzas
several_named [] first is = absurd (let firsts = ap (λ (f : Found). f.first) is in cc)
several_named (s ∷ more) first is =
    let there = one_other s.sum more (sym (ap (λ (f : Found). f.several) is)) in
    (there.stanza, s, (suc there.there.0, omega (arith, there.there.1), there.there.2), (0, omega arith, refl), there.other)

-- the file of the first is the one that all name
pub named_by : (stanzas : List Stanza) (found : Found) (first : Stanza) (deb : Deb) → found.first ≡ Some first → found.several ≡ false → found ≡ found_of stanzas → IsFileOf first deb → IsNamedBy stanzas deb
named_by stanzas found first deb is single are file =
    let named = same_named stanzas first ((λ i. record { first = sym is i; several = sym single i }) ∙ are) in
    record {
      first = first;
      more = named.more;
      are = named.are;
      file = file;
      sums = All-weaker (λ (s : Stanza). s.sum ≡ first.sum) (λ (s : Stanza). s.sum ≡ deb.sum) (λ s same. same ∙ sym file.sum) stanzas named.sums;
    }

pub differ_by : (stanzas : List Stanza) (found : Found) (first : Stanza) → found.first ≡ Some first → found.several ≡ true → found ≡ found_of stanzas → Differ stanzas
differ_by stanzas found first is several are = several_named stanzas first ((λ i. record { first = sym is i; several = sym several i }) ∙ are)
