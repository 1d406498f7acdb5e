-- A list that is being read, front after front.
use Rattle.std.proofs.Common.{◌≡◌, ℕ, List, [], ◌++◌, Option, Some, None, IfSome, option_map, unwrap_or, refl, sym, ap, ◌∙◌, subst, append_assoc}
use Rattle.std.proofs.lemmas.List.{append-nil}
use Rattle.acq_base.specs.declared.uri.Uri.{Uri}
use Rattle.deb_fetch.specs.Founds.{IsSoundFound, found_of, joined, nothing}
use Rattle.deb_fetch.specs.Paragraphs.{IsCut, read_on}
use Rattle.deb_fetch.specs.Stanzas.{stanzas_in, told}
use Rattle.deb_fetch.specs.declared.found.Found.{Found}
use Rattle.deb_fetch.specs.declared.stanza.Stanza.{Stanza}
use Rattle.deb_fetch.proofs.Joins.{found_of-append}
use Rattle.deb_fetch.proofs.Stanzaic.{told-cut, told-nothing}

abbrev before : List Stanza → Option (List Stanza) → Option (List Stanza)
before said rest = option_map (λ more. said ++ more) rest

-- the list says what was found so far, and then what the rest says
pub record HasRead (base : Uri) (name version list rest : List ℕ) (found : Found) : Type 0 where
  pub said : List Stanza
  pub rests : told base name version list ≡ before said (told base name version rest)
  pub founds : found ≡ found_of said

none_before : (rest : Option (List Stanza)) → rest ≡ before [] rest
none_before None = refl
none_before (Some more) = refl

pub nothing_read : (base : Uri) (name version list : List ℕ) (found : Found) → found ≡ nothing → HasRead base name version list list found
nothing_read base name version list found is = record { said = []; rests = none_before (told base name version list); founds = is }

before-before : (a b : List Stanza) (rest : Option (List Stanza)) → before a (before b rest) ≡ before (a ++ b) rest
before-before a b None = refl
before-before a b (Some more) = ap (λ (l : List Stanza). Some l) (sym (append_assoc a b more))

record Said (front : Option (List Stanza)) (more : Found) : Type 0 where
  stanzas : List Stanza
  front_is : front ≡ Some stanzas
  more_is : more ≡ found_of stanzas

front_said : (front : Option (List Stanza)) (more : Found) → Some more ≡ option_map found_of front → Said front more
front_said None more is = absurd cc
front_said (Some stanzas) more is = record { stanzas = stanzas; front_is = refl; more_is = cc }

-- one front more
pub read_more : (base : Uri) (name version list rest front behind : List ℕ) (found more later : Found) → IsCut rest front behind → Some more ≡ option_map found_of (told base name version front) → later ≡ joined found more
    → HasRead base name version list rest found → HasRead base name version list behind later
read_more base name version list rest front behind found more later cut said is so_far =
    let here = front_said (told base name version front) more said in
    record {
      said = so_far.said ++ here.stanzas;
      rests = so_far.rests
          ∙ ap (before so_far.said) (told-cut base name version rest front behind cut ∙ ap (λ (o : Option (List Stanza)). read_on o (told base name version behind)) here.front_is)
          ∙ before-before so_far.said here.stanzas (told base name version behind);
      founds = is ∙ (λ i. joined (so_far.founds i) (here.more_is i)) ∙ sym (found_of-append so_far.said here.stanzas);
    }

-- a front that is no control text
none_said : (front : Option (List Stanza)) → None ≡ option_map found_of front → front ≡ None
none_said None is = refl
none_said (Some stanzas) is = absurd cc

pub refused : (base : Uri) (name version list rest front behind : List ℕ) (found result : Found) → IsCut rest front behind → None ≡ option_map found_of (told base name version front) → result ≡ nothing
    → HasRead base name version list rest found → result ≡ found_of (stanzas_in base name version (Some list))
refused base name version list rest front behind found result cut said is so_far =
    let none : told base name version list ≡ None =
    so_far.rests ∙ ap (before so_far.said) (told-cut base name version rest front behind cut ∙ ap (λ (o : Option (List Stanza)). read_on o (told base name version behind)) (none_said (told base name version front) said)) in
    is ∙ ap (λ (o : Option (List Stanza)). found_of (unwrap_or o [])) (sym none)

-- the whole list
pub all_read : (base : Uri) (name version list rest : List ℕ) (found : Found) → rest ≡ [] → HasRead base name version list rest found → found ≡ found_of (stanzas_in base name version (Some list))
all_read base name version list rest found ends so_far =
    let whole : told base name version list ≡ Some (so_far.said ++ []) = so_far.rests ∙ ap (λ (l : List ℕ). before so_far.said (told base name version l)) ends ∙ ap (before so_far.said) (told-nothing base name version) in
    so_far.founds ∙ ap found_of (sym (append-nil so_far.said)) ∙ ap (λ (o : Option (List Stanza)). found_of (unwrap_or o [])) (sym whole)

-- what a front says is sound
pub more_sound : (said : Option Found) (more : Found) → said ≡ Some more → IfSome said IsSoundFound → IsSoundFound more
more_sound said more is sound = subst (λ (o : Option Found). IfSome o IsSoundFound) is sound
