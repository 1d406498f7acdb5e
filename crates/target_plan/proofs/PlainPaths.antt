-- Paths without dot segments, and the names of files at such paths.
use Rattle.std.proofs.Common.{◌≡◌, ℕ, ◌-◌, ◌==◌, Bool, true, false, not, ◌&&◌, ◌||◌, cond, List, [], ◌∷◌, ◌++◌, drop, length, slice_index_or, zero, suc, refl, sym, ap, ◌∙◌, codes, eq-eqb, eqb-true, append_assoc}
use Rattle.std.specs.Prelude.{fold, if◌then◌else◌, bytes_eq}
use Rattle.std.specs.List.{flat_map, slice_split, onto_first}
use Rattle.std.proofs.lemmas.Bool.{and_parts, not-true}
use Rattle.std.proofs.lemmas.List.{append-nil}
use Rattle.std.proofs.lemmas.List.Concat.{flat_map-append}
use Rattle.std.proofs.lemmas.Slice.Eq.{bytes_eq-Decides}
use Rattle.acq_base.specs.declared.uri.Scheme.{Scheme}
use Rattle.acq_base.specs.declared.uri.Scheme.TheVariants.{Http, File}
use Rattle.acq_base.specs.Uri.{list_name, name_byte, name_of_parts, port_text}
use Rattle.uri_names.specs.Folder.{is_slash, is_dot, is_dot_dot, enter, ends_in_dots, resolved, joined, remove_dot_segments, below_of}
use Rattle.source_lists.specs.declared.entry.Entry.{Entry}
use Rattle.target_plan.specs.Drafts.{folder_of, file_uri}
use Rattle.target_plan.specs.Marks.{plain_from, IsPlain, escaped}

-- ---- segments that begin with no dot

abbrev dotted : List ℕ → Bool
dotted [] = false
dotted (c ∷ segment) = c == 46

no_dot : (segment : List ℕ) → dotted segment ≡ false → is_dot segment ≡ false
no_dot [] e = refl
no_dot (c ∷ segment) e = ap (λ (b : Bool). b && bytes_eq segment []) e

no_dots : (segment : List ℕ) → dotted segment ≡ false → is_dot_dot segment ≡ false
no_dots [] e = refl
no_dots (c ∷ segment) e = ap (λ (b : Bool). b && bytes_eq segment (codes ".")) e

abbrev AllLead : List (List ℕ) → Type 0
AllLead [] = Unit {0}
AllLead (segment ∷ segments) = (dotted segment ≡ false) × AllLead segments

-- all of them, or all but the first
abbrev Lead : Bool → List (List ℕ) → Type 0
Lead true segments = AllLead segments
Lead false [] = Unit {0}
Lead false (segment ∷ segments) = AllLead segments

lead-onto : (x : Bool) (c : ℕ) (segments : List (List ℕ)) → not (x && (c == 46)) ≡ true → Lead false segments → Lead x (onto_first c segments)
lead-onto true c [] e lead = (not-true (c == 46) e, tt)
lead-onto true c (s ∷ segments) e lead = (not-true (c == 46) e, lead)
lead-onto false c [] e lead = tt
lead-onto false c (s ∷ segments) e lead = lead

lead-slash : (x : Bool) (segments : List (List ℕ)) → AllLead segments → Lead x ([] ∷ segments)
lead-slash true segments lead = (refl, lead)
lead-slash false segments lead = lead

segments-lead : (x : Bool) (cs : List ℕ) → plain_from x cs ≡ true → Lead x (slice_split is_slash cs)
unfolding plain_from
segments-lead true [] e = (refl, tt)
segments-lead false [] e = tt
segments-lead x (c ∷ cs) e =
    let parts = and_parts (not (x && (c == 46))) (plain_from (c == 47) cs) e in
    by (c == 47) refl parts.0 parts.1 (λ y f. segments-lead y cs f) where
      by : (b : Bool) → (c == 47) ≡ b → not (x && (c == 46)) ≡ true → plain_from (c == 47) cs ≡ true → ((y : Bool) → plain_from y cs ≡ true → Lead y (slice_split is_slash cs))
          → Lead x (cond (c == 47) ([] ∷ slice_split is_slash cs) (onto_first c (slice_split is_slash cs)))
      by true k here there rest = rw k (lead-slash x (slice_split is_slash cs) (rest true (sym (ap (λ (y : Bool). plain_from y cs) k) ∙ there)))
      by false k here there rest = rw k (lead-onto x c (slice_split is_slash cs) here (rest false (sym (ap (λ (y : Bool). plain_from y cs) k) ∙ there)))

-- ---- none is removed

enter-plain : (kept : List (List ℕ)) (segment : List ℕ) → dotted segment ≡ false → enter kept segment ≡ kept ++ segment ∷ []
unfolding enter
enter-plain kept segment e = rw (no_dot segment e) (rw (no_dots segment e) refl)

all-entered : (kept segments : List (List ℕ)) → AllLead segments → fold enter kept segments ≡ kept ++ segments
all-entered kept [] lead = sym (append-nil kept)
all-entered kept (s ∷ segments) lead =
    ap (λ (k : List (List ℕ)). fold enter k segments) (enter-plain kept s lead.0) ∙ all-entered (kept ++ s ∷ []) segments lead.1 ∙ append_assoc kept (s ∷ []) segments

one-leads : (segments : List (List ℕ)) (k : ℕ) → AllLead segments → dotted (slice_index_or segments k []) ≡ false
one-leads [] k lead = refl
one-leads (s ∷ segments) zero lead = lead.0
one-leads (s ∷ segments) (suc k) lead = one-leads segments k lead.1

no-end : (segments : List (List ℕ)) → AllLead segments → ends_in_dots segments ≡ false
unfolding ends_in_dots
no-end segments lead =
    let last = one-leads segments (length segments - 1) lead in
    λ i. no_dot (slice_index_or segments (length segments - 1) []) last i || no_dots (slice_index_or segments (length segments - 1) []) last i

resolved-plain : (segments : List (List ℕ)) → AllLead segments → resolved segments ≡ segments
unfolding resolved
resolved-plain segments lead =
    (λ i. all-entered [] segments lead i ++ (if no-end segments lead i then [] ∷ [] else [])) ∙ append-nil segments

joined-onto : (c : ℕ) (cs : List ℕ) (segments : List (List ℕ)) → joined segments ≡ 47 ∷ cs → joined (onto_first c segments) ≡ 47 ∷ c ∷ cs
joined-onto c cs [] e = absurd (cc)
joined-onto c cs (s ∷ segments) e = ap (λ (r : List ℕ). 47 ∷ c ∷ drop 1 r) e

joined-split : (cs : List ℕ) → joined (slice_split is_slash cs) ≡ 47 ∷ cs
joined-split [] = refl
joined-split (c ∷ cs) = by (c == 47) refl (joined-split cs) where
  by : (b : Bool) → (c == 47) ≡ b → joined (slice_split is_slash cs) ≡ 47 ∷ cs → joined (cond (c == 47) ([] ∷ slice_split is_slash cs) (onto_first c (slice_split is_slash cs))) ≡ 47 ∷ c ∷ cs
  by true k rest = rw k (ap (λ (r : List ℕ). 47 ∷ r) rest ∙ ap (λ (d : ℕ). 47 ∷ d ∷ cs) (sym (eqb-true c 47 k)))
  by false k rest = rw k (joined-onto c cs (slice_split is_slash cs) rest)

rooted-kept : (cs : List ℕ) → plain_from true cs ≡ true → joined (resolved (slice_split is_slash cs)) ≡ 47 ∷ cs
rooted-kept cs e = ap joined (resolved-plain (slice_split is_slash cs) (segments-lead true cs e)) ∙ joined-split cs

behind-slash : (c : ℕ) (cs : List ℕ) → c ≡ 47 → plain_from true (c ∷ cs) ≡ true → plain_from true cs ≡ true
unfolding plain_from
behind-slash c cs is e = ap (λ (y : Bool). plain_from y cs) (sym (eq-eqb c 47 is)) ∙ (and_parts (not (true && (c == 46))) (plain_from (c == 47) cs) e).1

first-is : (c d : ℕ) (cs : List ℕ) → c ∷ [] ≡ d ∷ [] → c ≡ d
first-is c d cs e = ap (λ (l : List ℕ). slice_index_or l 0 c) e

pub plain_kept : (path : List ℕ) → IsPlain path → remove_dot_segments path ≡ path
unfolding remove_dot_segments
plain_kept [] e = refl
plain_kept (c ∷ cs) e = by (bytes_eq (c ∷ []) (codes "/")) refl where
  by : (b : Bool) → bytes_eq (c ∷ []) (codes "/") ≡ b → (if bytes_eq (c ∷ []) (codes "/") then joined (resolved (slice_split is_slash cs)) else c ∷ cs) ≡ c ∷ cs
  by false k = rw k refl
  by true k =
      let is = first-is c 47 cs ((bytes_eq-Decides (c ∷ []) (codes "/")).0 k) in
      rw k (rooted-kept cs (behind-slash c cs is e) ∙ ap (λ (d : ℕ). d ∷ cs) (sym is))

-- ---- paths joined

plain-within : (x : Bool) (b : List ℕ) → plain_from true b ≡ true → plain_from x b ≡ true
unfolding plain_from
plain-within true b e = e
plain-within false [] e = refl
plain-within false (c ∷ cs) e = (and_parts (not (true && (c == 46))) (plain_from (c == 47) cs) e).1

plain-from-append : (x : Bool) (a b : List ℕ) → plain_from x a ≡ true → plain_from true b ≡ true → plain_from x (a ++ b) ≡ true
unfolding plain_from
plain-from-append x [] b e f = plain-within x b f
plain-from-append x (c ∷ a) b e f =
    let parts = and_parts (not (x && (c == 46))) (plain_from (c == 47) a) e in
    λ i. parts.0 i && plain-from-append (c == 47) a b parts.1 f i

pub plain_append : (a b : List ℕ) → IsPlain a → IsPlain b → IsPlain (a ++ b)
plain_append a b = plain-from-append true a b

-- ---- names

parts-append : (scheme : Scheme) (host : List ℕ) (port : ℕ) (a b : List ℕ) → name_of_parts scheme host port (a ++ b) ≡ name_of_parts scheme host port a ++ escaped b
unfolding name_of_parts
parts-append Http host port a b = ap (flat_map name_byte) (sym (append_assoc (host ++ port_text port) a b)) ∙ flat_map-append name_byte (host ++ port_text port ++ a) b
parts-append File host port a b = flat_map-append name_byte a b

pub folder_name : (first : Entry) → IsPlain first.uri.path → IsPlain (folder_of first.suite) → list_name (file_uri first []) ≡ name_of_parts first.uri.scheme first.uri.host first.uri.port (first.uri.path ++ folder_of first.suite)
unfolding below_of
folder_name first base folder =
    let uri = first.uri in
    ap (name_of_parts uri.scheme uri.host uri.port)
    (ap (λ (f : List ℕ). remove_dot_segments (uri.path ++ f)) (append-nil (folder_of first.suite)) ∙ plain_kept (uri.path ++ folder_of first.suite) (plain_append uri.path (folder_of first.suite) base folder))

-- the name of a file in a folder is that of the folder, and the path escaped
pub name_in_folder : (first : Entry) (path : List ℕ) → IsPlain first.uri.path → IsPlain (folder_of first.suite) → IsPlain path → list_name (file_uri first path) ≡ list_name (file_uri first []) ++ escaped path
unfolding below_of
name_in_folder first path base folder plain =
    let uri = first.uri in
    let whole = uri.path ++ folder_of first.suite in
    let named = name_of_parts uri.scheme uri.host uri.port in
    let bare : remove_dot_segments (uri.path ++ (folder_of first.suite ++ [])) ≡ whole =
    ap (λ (f : List ℕ). remove_dot_segments (uri.path ++ f)) (append-nil (folder_of first.suite)) ∙ plain_kept whole (plain_append uri.path (folder_of first.suite) base folder) in
    ap named (plain_kept (uri.path ++ (folder_of first.suite ++ path)) (plain_append uri.path (folder_of first.suite ++ path) base (plain_append (folder_of first.suite) path folder plain)) ∙ sym (append_assoc uri.path (folder_of first.suite) path))
    ∙ parts-append uri.scheme uri.host uri.port whole path ∙ ap (λ (name : List ℕ). name ++ escaped path) (ap named (sym bare))
