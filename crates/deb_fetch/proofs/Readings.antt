-- What is read doesn't rest on the numbers of lines, and what stands behind a separator is read by itself.
use Rattle.std.proofs.Common.{◌≡◌, ⊎_elim, ℕ, ◌+◌, ◌&&◌, drop, Bool, true, false, if◌then◌else◌, List, [], ◌∷◌, ◌++◌, map, Option, Some, None, option_map, Result, refl, sym, ap, ◌∙◌, append_assoc}
use Rattle.std.proofs.lemmas.List.{append-nil, map-append}
use Rattle.std.specs.List.{list_all, list_any, before_first, after_first}
use Rattle.std.specs.Result.{result_ok}
use Rattle.std.specs.Str.Lines.{lines as text_lines}
use Rattle.acq_base.specs.Words.{is_blank, trimmed, trimmed_end}
use Rattle.deb822_text.specs.Control.{Line, Separator, Comment, Continuation, Named, Unknown, is_colon, is_hash, begins_with, is_name, has_name, line_of, lines_from, lines_of, reading_of, paragraphs_of}
use Rattle.deb822_text.specs.Names.{names_of}
use Rattle.deb822_text.specs.Scan.{State, start, add_line, closed, fault_at, step, unless, scan}
use Rattle.deb822_text.specs.Written.{unplaced, unplaced_field, unplaced_paragraph}
use Rattle.deb822_text.specs.declared.error.TextError.{TextError}
use Rattle.deb822_text.specs.declared.error.TextError.TheVariants.{Twice}
use Rattle.deb822_text.specs.declared.paragraph.Field.{Field}
use Rattle.deb822_text.specs.declared.paragraph.Paragraph.{Paragraph}
use Rattle.deb822_text.proofs.Groups.{scan-start}
use Rattle.deb_fetch.specs.Paragraphs.{EndInBlanks, ReadsByParagraphs, read_on, read_plainly}

-- ---- lines

-- the line with another number
abbrev numbered : ℕ → Line → Line
numbered at Separator = Separator
numbered at Comment = Comment
numbered at (Continuation old text) = Continuation at text
numbered at (Named old name text) = Named at name text
numbered at (Unknown old) = Unknown at

abbrev of_kind : ℕ → List ℕ → List ℕ → List ℕ → Bool → Bool → Bool → Bool → Bool → Line
of_kind at more name text p q r s t = if p then Separator else (if q then Comment else (if r then Continuation at more else (if s then (if t then Named at name text else Unknown at) else Unknown at)))

line_of-numbered : (comments : Bool) (a b : ℕ) (line : List ℕ) → line_of comments a line ≡ numbered a (line_of comments b line)
unfolding line_of
line_of-numbered comments a b line =
    by (trimmed_end (drop 1 line)) (before_first is_colon line) (trimmed (after_first is_colon line)) (list_all is_blank line) (comments && begins_with is_hash line) (begins_with is_blank line) (list_any is_colon line) (is_name (before_first is_colon line))
  where
    by : (more name text : List ℕ) (p q r s t : Bool) → of_kind a more name text p q r s t ≡ numbered a (of_kind b more name text p q r s t)
    by more name text true q r s t = refl
    by more name text false true r s t = refl
    by more name text false false true s t = refl
    by more name text false false false true true = refl
    by more name text false false false true false = refl
    by more name text false false false false t = refl

-- ---- fields

names_of-plain : (fields : List Field) → names_of (map unplaced_field fields) ≡ names_of fields
names_of-plain [] = refl
names_of-plain (field ∷ fields) = ap (λ (names : List (List ℕ)). field.name ∷ names) (names_of-plain fields)

add_line-plain : (fields : List Field) (text : List ℕ) → map unplaced_field (add_line fields text) ≡ add_line (map unplaced_field fields) text
add_line-plain [] text = refl
add_line-plain (field ∷ []) text = refl
add_line-plain (field ∷ next ∷ more) text = ap (λ (fields : List Field). unplaced_field field ∷ fields) (add_line-plain (next ∷ more) text)

-- ---- states that differ by the numbers of lines, and by paragraphs before them

record IsAlike (before : List Paragraph) (s t : State) : Type 0 where
  fields : map unplaced_field s.fields ≡ map unplaced_field t.fields
  paragraphs : unplaced s.paragraphs ≡ before ++ unplaced t.paragraphs

abbrev plain : Result (List Paragraph) TextError → Option (List Paragraph)
plain result = option_map unplaced (result_ok result)

abbrev behind : List Paragraph → Option (List Paragraph) → Option (List Paragraph)
behind before read = option_map (λ more. before ++ more) read

more_alike : (before ps qs : List Paragraph) (fs gs : List Field) → unplaced ps ≡ before ++ unplaced qs → map unplaced_field fs ≡ map unplaced_field gs
    → unplaced (ps ++ record { fields = fs } ∷ []) ≡ before ++ unplaced (qs ++ record { fields = gs } ∷ [])
more_alike before ps qs fs gs same fields =
    map-append unplaced_paragraph ps (record { fields = fs } ∷ [])
    ∙ (λ i. same i ++ record { fields = fields i } ∷ [])
    ∙ append_assoc before (unplaced qs) (record { fields = map unplaced_field gs } ∷ [])
    ∙ ap (λ (l : List Paragraph). before ++ l) (sym (map-append unplaced_paragraph qs (record { fields = gs } ∷ [])))

closed-alike : (before ps qs : List Paragraph) (fs gs : List Field) → unplaced ps ≡ before ++ unplaced qs → map unplaced_field fs ≡ map unplaced_field gs
    → unplaced (closed (record { paragraphs = ps; fields = fs })) ≡ before ++ unplaced (closed (record { paragraphs = qs; fields = gs }))
closed-alike before ps qs [] [] same fields = same
closed-alike before ps qs [] (g ∷ gs) same fields = absurd cc
closed-alike before ps qs (f ∷ fs) [] same fields = absurd cc
closed-alike before ps qs (f ∷ fs) (g ∷ gs) same fields = more_alike before ps qs (f ∷ fs) (g ∷ gs) same fields

-- what is read of the same lines with other numbers, from states that are alike
abbrev IsReadAlike : List Paragraph → List Line → List Line → Type 0
IsReadAlike before xs ys = (s t : State) → IsAlike before s t → plain (scan s xs) ≡ behind before (plain (scan t ys))

continued-alike : (before ps qs : List Paragraph) (fs gs : List Field) (a b : ℕ) (text : List ℕ) (xs ys : List Line) → unplaced ps ≡ before ++ unplaced qs → map unplaced_field fs ≡ map unplaced_field gs
    → IsReadAlike before xs ys → plain (scan (record { paragraphs = ps; fields = fs }) (Continuation a text ∷ xs)) ≡ behind before (plain (scan (record { paragraphs = qs; fields = gs }) (Continuation b text ∷ ys)))
unfolding scan
continued-alike before ps qs [] [] a b text xs ys same fields rest = refl
continued-alike before ps qs [] (g ∷ gs) a b text xs ys same fields rest = absurd cc
continued-alike before ps qs (f ∷ fs) [] a b text xs ys same fields rest = absurd cc
continued-alike before ps qs (f ∷ fs) (g ∷ gs) a b text xs ys same fields rest =
    rest (record { paragraphs = ps; fields = add_line (f ∷ fs) text }) (record { paragraphs = qs; fields = add_line (g ∷ gs) text })
    (record { fields = add_line-plain (f ∷ fs) text ∙ ap (λ (l : List Field). add_line l text) fields ∙ sym (add_line-plain (g ∷ gs) text); paragraphs = same })

unless-alike : (before : List Paragraph) (x y : Bool) (fault other : TextError) (r q : Result (List Paragraph) TextError) → x ≡ y → plain r ≡ behind before (plain q)
    → plain (unless (if x then Some fault else None) r) ≡ behind before (plain (unless (if y then Some other else None) q))
unless-alike before true true fault other r q same rest = refl
unless-alike before true false fault other r q same rest = absurd cc
unless-alike before false true fault other r q same rest = absurd cc
unless-alike before false false fault other r q same rest = rest

named-alike : (before ps qs : List Paragraph) (fs gs : List Field) (a b : ℕ) (name text : List ℕ) (xs ys : List Line) → unplaced ps ≡ before ++ unplaced qs → map unplaced_field fs ≡ map unplaced_field gs
    → IsReadAlike before xs ys → plain (scan (record { paragraphs = ps; fields = fs }) (Named a name text ∷ xs)) ≡ behind before (plain (scan (record { paragraphs = qs; fields = gs }) (Named b name text ∷ ys)))
unfolding scan
named-alike before ps qs fs gs a b name text xs ys same fields rest =
    let names : names_of fs ≡ names_of gs = sym (names_of-plain fs) ∙ ap names_of fields ∙ names_of-plain gs in
    let left : Field = record { name = name; lines = text ∷ []; at = a } in
    let right : Field = record { name = name; lines = text ∷ []; at = b } in
    let more : map unplaced_field (fs ++ left ∷ []) ≡ map unplaced_field (gs ++ right ∷ []) =
    map-append unplaced_field fs (left ∷ []) ∙ ap (λ (l : List Field). l ++ unplaced_field left ∷ []) fields ∙ sym (map-append unplaced_field gs (right ∷ [])) in
    unless-alike before (has_name (names_of fs) name) (has_name (names_of gs) name) (Twice a) (Twice b)
    (scan (record { paragraphs = ps; fields = fs ++ left ∷ [] }) xs) (scan (record { paragraphs = qs; fields = gs ++ right ∷ [] }) ys)
    (ap (λ (l : List (List ℕ)). has_name l name) names)
    (rest (record { paragraphs = ps; fields = fs ++ left ∷ [] }) (record { paragraphs = qs; fields = gs ++ right ∷ [] }) (record { fields = more; paragraphs = same }))

line-alike : (before : List Paragraph) (a : ℕ) (k : Line) (xs ys : List Line) → IsReadAlike before xs ys → IsReadAlike before (numbered a k ∷ xs) (k ∷ ys)
unfolding scan
line-alike before a Separator xs ys rest s t same =
    rest (record { paragraphs = closed s; fields = [] }) (record { paragraphs = closed t; fields = [] })
    (record { fields = refl; paragraphs = closed-alike before s.paragraphs t.paragraphs s.fields t.fields same.paragraphs same.fields })
line-alike before a Comment xs ys rest s t same = rest s t same
line-alike before a (Continuation old text) xs ys rest s t same = continued-alike before s.paragraphs t.paragraphs s.fields t.fields a old text xs ys same.paragraphs same.fields rest
line-alike before a (Named old name text) xs ys rest s t same = named-alike before s.paragraphs t.paragraphs s.fields t.fields a old name text xs ys same.paragraphs same.fields rest
line-alike before a (Unknown old) xs ys rest s t same = refl

lines-alike : (before : List Paragraph) (lines : List (List ℕ)) (a b : ℕ) → IsReadAlike before (lines_from false a lines) (lines_from false b lines)
unfolding scan
lines-alike before [] a b s t same = ap (λ (l : List Paragraph). Some l) (closed-alike before s.paragraphs t.paragraphs s.fields t.fields same.paragraphs same.fields)
lines-alike before (line ∷ lines) a b s t same =
    (λ i. plain (scan s (line_of-numbered false a b line i ∷ lines_from false (a + 1) lines)))
    ∙ line-alike before a (line_of false b line) (lines_from false (a + 1) lines) (lines_from false (b + 1) lines) (lines-alike before lines (a + 1) (b + 1)) s t same

-- ---- behind a separator

line_of-blank : (at : ℕ) (line : List ℕ) → list_all is_blank line ≡ true → line_of false at line ≡ Separator
unfolding line_of
line_of-blank at line blank = rw blank refl

unless-split : (fault : Option TextError) (r q : Result (List Paragraph) TextError) (later : Option (List Paragraph)) → plain r ≡ read_on (plain q) later → plain (unless fault r) ≡ read_on (plain (unless fault q)) later
unless-split None r q later rest = rest
unless-split (Some fault) r q later rest = refl

lines-split : (above : List (List ℕ)) (last : List ℕ) (below : List (List ℕ)) (at : ℕ) (s : State) → list_all is_blank last ≡ true
    → plain (scan s (lines_from false at (above ++ last ∷ below))) ≡ read_on (plain (scan s (lines_from false at (above ++ last ∷ [])))) (plain (scan start (lines_from false 1 below)))
unfolding scan
lines-split [] last below at s blank =
    let kind = line_of-blank at last blank in
    let next : State = record { paragraphs = closed s; fields = [] } in
    (λ i. plain (scan s (kind i ∷ lines_from false (at + 1) below)))
    ∙ lines-alike (unplaced (closed s)) below (at + 1) 1 next start (record { fields = refl; paragraphs = sym (append-nil (unplaced (closed s))) })
    ∙ (λ i. read_on (plain (scan s (sym kind i ∷ []))) (plain (scan start (lines_from false 1 below))))
lines-split (line ∷ above) last below at s blank =
    unless-split (fault_at s.fields (line_of false at line)) (scan (step s (line_of false at line)) (lines_from false (at + 1) (above ++ last ∷ below))) (scan (step s (line_of false at line)) (lines_from false (at + 1) (above ++ last ∷ [])))
    (plain (scan start (lines_from false 1 below))) (lines-split above last below (at + 1) (step s (line_of false at line)) blank)

-- ---- texts

read_by_lines : (text : List ℕ) → read_plainly text ≡ plain (scan start (lines_from false 1 (text_lines text)))
unfolding read_plainly paragraphs_of lines_of
read_by_lines text = ap (λ r. option_map unplaced (result_ok r)) (sym (scan-start (lines_from false 1 (text_lines text))))

pub read-nothing : read_plainly [] ≡ Some []
unfolding read_plainly paragraphs_of lines_of reading_of
read-nothing = refl

read_on-nothing : {A : Type 0} (read : Option (List A)) → read ≡ read_on read (Some [])
read_on-nothing None = refl
read_on-nothing (Some xs) = ap (λ l. Some l) (sym (append-nil xs))

at_end : (text front rest : List ℕ) → text_lines text ≡ text_lines front ++ text_lines rest → rest ≡ [] → read_plainly text ≡ read_on (read_plainly front) (read_plainly rest)
at_end text front rest lines ends =
    let same : text_lines text ≡ text_lines front = lines ∙ ap (λ (l : List ℕ). text_lines front ++ text_lines l) ends ∙ append-nil (text_lines front) in
    read_by_lines text ∙ ap (λ (ls : List (List ℕ)). plain (scan start (lines_from false 1 ls))) same ∙ sym (read_by_lines front)
    ∙ read_on-nothing (read_plainly front) ∙ ap (λ r. read_on (read_plainly front) r) (sym (ap read_plainly ends ∙ read-nothing))

at_separator : (text front rest : List ℕ) → text_lines text ≡ text_lines front ++ text_lines rest → EndInBlanks (text_lines front) → read_plainly text ≡ read_on (read_plainly front) (read_plainly rest)
at_separator text front rest lines (above, last, is, blank) =
    let whole : text_lines text ≡ above ++ last ∷ text_lines rest = lines ∙ ap (λ (ls : List (List ℕ)). ls ++ text_lines rest) is ∙ append_assoc above (last ∷ []) (text_lines rest) in
    read_by_lines text ∙ ap (λ (ls : List (List ℕ)). plain (scan start (lines_from false 1 ls))) whole
    ∙ lines-split above last (text_lines rest) 1 start blank
    ∙ (λ i. read_on (plain (scan start (lines_from false 1 (sym is i)))) (plain (scan start (lines_from false 1 (text_lines rest)))))
    ∙ (λ i. read_on (sym (read_by_lines front) i) (sym (read_by_lines rest) i))

pub reads_by_paragraphs : ReadsByParagraphs
reads_by_paragraphs text front rest cut = ⊎_elim (at_end text front rest cut.lines) (at_separator text front rest cut.lines) cut.ended
