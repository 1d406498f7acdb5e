-- What stanzas come to, one paragraph, list or source further on.
use Rattle.std.proofs.Common.{◌≡◌, ℕ, ◌+◌, ◌<◌, List, [], ◌∷◌, ◌++◌, length, get_or, take, Option, Some, None, option_to_list, refl, sym, ap, ◌∙◌}
use Rattle.std.proofs.lemmas.List.{flat_map_more, take_more}
use Rattle.std.specs.List.{cons_option, flat_map}
use Rattle.acq_base.specs.declared.uri.Uri.{Uri}
use Rattle.deb822_text.specs.declared.paragraph.Paragraph.{Paragraph}
use Rattle.deb_fetch.specs.Founds.{found_of, joined, one_found}
use Rattle.deb_fetch.specs.Stanzas.{stanza_in, stanzas_of}
use Rattle.deb_fetch.specs.declared.found.Found.{Found}
use Rattle.deb_fetch.specs.declared.stanza.Stanza.{Stanza}
use Rattle.deb_fetch.proofs.Joins.{found_of-append, found_of-one}
use Rattle.deb_fetch.proofs.Stanzaic.{stanzas_of-append}

one_more : {X : Type 0} (xs : List X) (i : ℕ) (x : X) → i < length xs → x ≡ get_or xs i x → take (i + 1) xs ≡ take i xs ++ x ∷ []
one_more xs i x within is = take_more xs i x within ∙ ap (λ y. take i xs ++ y ∷ []) (sym is)

of_one : (base : Uri) (name version : List ℕ) (p : Paragraph) → stanzas_of base name version (p ∷ []) ≡ option_to_list (stanza_in base name version p.fields)
unfolding stanzas_of
of_one base name version p = by (stanza_in base name version p.fields)
  where
    by : (o : Option Stanza) → cons_option o [] ≡ option_to_list o
    by None = refl
    by (Some s) = refl

pub paragraph-more : (base : Uri) (name version : List ℕ) (ps : List Paragraph) (i : ℕ) (p : Paragraph) (found later : Found) → i < length ps → p ≡ get_or ps i p → found ≡ found_of (stanzas_of base name version (take i ps))
    → later ≡ joined found (one_found (stanza_in base name version p.fields)) → later ≡ found_of (stanzas_of base name version (take (i + 1) ps))
paragraph-more base name version ps i p found later within is so_far next =
    next ∙ (λ j. joined (so_far j) (sym (found_of-one (stanza_in base name version p.fields)) j))
    ∙ sym (found_of-append (stanzas_of base name version (take i ps)) (option_to_list (stanza_in base name version p.fields)))
    ∙ ap (λ (l : List Stanza). found_of (stanzas_of base name version (take i ps) ++ l)) (sym (of_one base name version p))
    ∙ ap found_of (sym (stanzas_of-append base name version (take i ps) (p ∷ [])))
    ∙ ap (λ (l : List Paragraph). found_of (stanzas_of base name version l)) (sym (one_more ps i p within is))

pub no_paragraph : (base : Uri) (name version : List ℕ) → found_of (stanzas_of base name version []) ≡ found_of []
unfolding stanzas_of
no_paragraph base name version = refl

pub list-more : {X : Type 0} (f : X → List Stanza) (xs : List X) (i : ℕ) (x : X) (found later : Found) (more : Found) → i < length xs → x ≡ get_or xs i x → found ≡ found_of (flat_map f (take i xs)) → more ≡ found_of (f x)
    → later ≡ joined found more → later ≡ found_of (flat_map f (take (i + 1) xs))
list-more f xs i x found later more within is so_far said next =
    next ∙ (λ j. joined (so_far j) (said j)) ∙ sym (found_of-append (flat_map f (take i xs)) (f x))
    ∙ ap found_of (flat_map_more f [] (take i xs) x) ∙ ap (λ l. found_of (flat_map f l)) (sym (one_more xs i x within is))
