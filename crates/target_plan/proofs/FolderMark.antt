-- The mark of a folder, from the parts of its URI.
use Rattle.std.proofs.Common.{◌≡◌, ℕ, Bool, true, false, List, [], ◌++◌, refl, sym, ap, ◌∙◌, codes, append_assoc}
use Rattle.std.specs.Prelude.{fold, if◌then◌else◌, bytes_eq}
use Rattle.std.proofs.lemmas.Bool.{true≢false}
use Rattle.std.proofs.lemmas.List.Concat.{flat_map-append}
use Rattle.std.proofs.lemmas.List.Sums.{fold-append}
use Rattle.std.proofs.lemmas.Slice.Eq.{bytes_eq-Decides}
use Rattle.acq_base.specs.declared.uri.Scheme.{Scheme}
use Rattle.acq_base.specs.declared.uri.Scheme.TheVariants.{Http, File}
use Rattle.acq_base.specs.Uri.{name_byte, name_of_parts, port_text}
use Rattle.source_lists.specs.declared.entry.Entry.{Entry}
use Rattle.target_plan.specs.declared.marks.Mark.{Mark}
use Rattle.target_plan.specs.Drafts.{folder_of}
use Rattle.target_plan.specs.Offers.{is_exact}
use Rattle.target_plan.specs.Marks.{step, start, mark_of, IsPlain, plain_from, escaped, head_of_parts, head_of, behind_folder, IsFolderMark}
use Rattle.target_plan.proofs.PlainPaths.{plain_append, folder_name}

pub mark_behind : (a b : List ℕ) → fold step (fold step start a) b ≡ mark_of (a ++ b)
mark_behind a b = sym (fold-append step start a b)

name-head : (scheme : Scheme) (host : List ℕ) (port : ℕ) (path : List ℕ) → name_of_parts scheme host port path ≡ head_of_parts scheme host port ++ escaped path
unfolding name_of_parts head_of_parts
name-head Http host port path = flat_map-append name_byte (host ++ port_text port) path ∙ ap (λ (h : List ℕ). h ++ escaped path) (flat_map-append name_byte host (port_text port))
name-head File host port path = refl

folder-is : (suite : List ℕ) → is_exact suite ≡ false → folder_of suite ≡ codes "dists/" ++ suite ++ codes "/"
unfolding folder_of
folder-is suite exact = by (bytes_eq suite (codes "/")) refl where
  by : (b : Bool) → bytes_eq suite (codes "/") ≡ b → (if bytes_eq suite (codes "/") then [] else if is_exact suite then suite else codes "dists/" ++ suite ++ codes "/") ≡ codes "dists/" ++ suite ++ codes "/"
  by true k =
      let here : is_exact suite ≡ true = ap is_exact ((bytes_eq-Decides suite (codes "/")).0 k) in
      absurd (true≢false (sym here ∙ exact))
  by false k = rw k (rw exact refl)

module _ (first : Entry) (head : Mark) (of_head : head ≡ mark_of (head_of first.uri)) (exact : is_exact first.suite ≡ false) (base : IsPlain first.uri.path) (suite : IsPlain first.suite) where
  plain-folder : IsPlain (folder_of first.suite)
  unfolding plain_from
  plain-folder =
      ap (plain_from true) (folder-is first.suite exact) ∙ plain_append (codes "dists/" ++ first.suite) (codes "/") (plain_append (codes "dists/") first.suite refl suite) refl

  escaped-parts : escaped first.uri.path ++ escaped (codes "dists/") ++ escaped first.suite ++ escaped (codes "/") ≡ escaped (first.uri.path ++ folder_of first.suite)
  escaped-parts =
      let p = escaped first.uri.path in
      let d = escaped (codes "dists/") in
      let s = escaped first.suite in
      let e = escaped (codes "/") in
      ap (λ (l : List ℕ). l ++ e) (append_assoc p d s) ∙ append_assoc p (d ++ s) e
      ∙ ap (λ (f : List ℕ). p ++ f) (sym (flat_map-append name_byte (codes "dists/" ++ first.suite) (codes "/") ∙ ap (λ (l : List ℕ). l ++ e) (flat_map-append name_byte (codes "dists/") first.suite)))
      ∙ sym (flat_map-append name_byte first.uri.path (codes "dists/" ++ first.suite ++ codes "/")) ∙ ap (λ (f : List ℕ). escaped (first.uri.path ++ f)) (sym (folder-is first.suite exact))

  in-one : behind_folder head first.uri.path first.suite ≡ fold step head (escaped (first.uri.path ++ folder_of first.suite))
  in-one =
      let p = escaped first.uri.path in
      let d = escaped (codes "dists/") in
      let s = escaped first.suite in
      let e = escaped (codes "/") in
      ap (λ (m : Mark). fold step (fold step m s) e) (sym (fold-append step head p d)) ∙ ap (λ (m : Mark). fold step m e) (sym (fold-append step head (p ++ d) s)) ∙ sym (fold-append step head (p ++ d ++ s) e)
      ∙ ap (fold step head) escaped-parts

  pub folder_marked : IsFolderMark first (behind_folder head first.uri.path first.suite)
  folder_marked = record {
    suite = exact;
    base = base;
    folder = plain-folder;
    is = in-one ∙ ap (λ (m : Mark). fold step m (escaped (first.uri.path ++ folder_of first.suite))) of_head ∙ mark_behind (head_of first.uri) (escaped (first.uri.path ++ folder_of first.suite))
        ∙ ap mark_of (sym (folder_name first base plain-folder ∙ name-head first.uri.scheme first.uri.host first.uri.port (first.uri.path ++ folder_of first.suite)));
  }
