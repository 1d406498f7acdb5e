-- What paragraphs say of a package doesn't rest on the numbers of lines, and a list says what its paragraphs say.
use Rattle.std.proofs.Common.{◌≡◌, ℕ, Bool, true, false, cond, List, [], ◌∷◌, ◌++◌, map, codes, Option, Some, None, option_map, refl, sym, ap, ◌∙◌}
use Rattle.std.proofs.lemmas.List.Elements.{filter_map-append}
use Rattle.std.specs.List.{cons_option}
use Rattle.std.specs.Result.{result_ok}
use Rattle.std.specs.Str.{str_eq_ignore_ascii_case}
use Rattle.acq_base.specs.declared.uri.Uri.{Uri}
use Rattle.deb822_text.specs.Control.{field_named, paragraphs_of}
use Rattle.deb822_text.specs.Written.{unplaced, unplaced_field}
use Rattle.deb822_text.specs.declared.paragraph.Field.{Field}
use Rattle.deb822_text.specs.declared.paragraph.Paragraph.{Paragraph}
use Rattle.deb_fetch.specs.Paragraphs.{IsCut, read_on, read_plainly}
use Rattle.deb_fetch.specs.Stanzas.{line_in, line_named, stanza_in, stanzas_of, told}
use Rattle.deb_fetch.specs.declared.stanza.Stanza.{Stanza}
use Rattle.deb_fetch.proofs.Readings.{read-nothing, reads_by_paragraphs}

line_named-plain : (fields : List Field) (name : List ℕ) → line_named (map unplaced_field fields) name ≡ line_named fields name
line_named-plain [] name = refl
line_named-plain (field ∷ fields) name = by (line_named-plain fields name) (str_eq_ignore_ascii_case field.name name)
  where
    by : line_named (map unplaced_field fields) name ≡ line_named fields name
        → (b : Bool) → line_in (cond b (Some (unplaced_field field)) (field_named (map unplaced_field fields) name)) ≡ line_in (cond b (Some field) (field_named fields name))
    by later true = refl
    by later false = later

stanza_in-plain : (base : Uri) (name version : List ℕ) (fields : List Field) → stanza_in base name version (map unplaced_field fields) ≡ stanza_in base name version fields
unfolding stanza_in
stanza_in-plain base name version fields =
    rw (line_named-plain fields (codes "Package"), line_named-plain fields (codes "Version"), line_named-plain fields (codes "Filename"), line_named-plain fields (codes "SHA256"), line_named-plain fields (codes "Size")) refl

stanzas_of-plain : (base : Uri) (name version : List ℕ) (paragraphs : List Paragraph) → stanzas_of base name version (unplaced paragraphs) ≡ stanzas_of base name version paragraphs
unfolding stanzas_of
stanzas_of-plain base name version [] = refl
stanzas_of-plain base name version (paragraph ∷ more) = λ i. cons_option (stanza_in-plain base name version paragraph.fields i) (stanzas_of-plain base name version more i)

pub stanzas_of-append : (base : Uri) (name version : List ℕ) (a b : List Paragraph) → stanzas_of base name version (a ++ b) ≡ stanzas_of base name version a ++ stanzas_of base name version b
unfolding stanzas_of
stanzas_of-append base name version a b = filter_map-append (λ (p : Paragraph). stanza_in base name version p.fields) a b

told-plainly : (base : Uri) (name version text : List ℕ) → told base name version text ≡ option_map (stanzas_of base name version) (read_plainly text)
unfolding told read_plainly
told-plainly base name version text = by (result_ok (paragraphs_of text false))
  where
    by : (read : Option (List Paragraph)) → option_map (stanzas_of base name version) read ≡ option_map (stanzas_of base name version) (option_map unplaced read)
    by None = refl
    by (Some paragraphs) = ap (λ (l : List Stanza). Some l) (sym (stanzas_of-plain base name version paragraphs))

map-read_on : (base : Uri) (name version : List ℕ) (a b : Option (List Paragraph))
    → option_map (stanzas_of base name version) (read_on a b) ≡ read_on (option_map (stanzas_of base name version) a) (option_map (stanzas_of base name version) b)
map-read_on base name version None b = refl
map-read_on base name version (Some a) None = refl
map-read_on base name version (Some a) (Some b) = ap (λ (l : List Stanza). Some l) (stanzas_of-append base name version a b)

-- a text says what its front says, and then what the rest says
pub told-cut : (base : Uri) (name version text front rest : List ℕ) → IsCut text front rest → told base name version text ≡ read_on (told base name version front) (told base name version rest)
told-cut base name version text front rest cut =
    told-plainly base name version text ∙ ap (option_map (stanzas_of base name version)) (reads_by_paragraphs text front rest cut)
    ∙ map-read_on base name version (read_plainly front) (read_plainly rest)
    ∙ (λ i. read_on (sym (told-plainly base name version front) i) (sym (told-plainly base name version rest) i))

none-said : (base : Uri) (name version : List ℕ) → stanzas_of base name version [] ≡ []
unfolding stanzas_of
none-said base name version = refl

pub told-nothing : (base : Uri) (name version : List ℕ) → told base name version [] ≡ Some []
told-nothing base name version =
    told-plainly base name version [] ∙ ap (option_map (stanzas_of base name version)) read-nothing ∙ ap (λ (l : List Stanza). Some l) (none-said base name version)
