-- What is sent of a response, piece by piece.
use Rattle.std.proofs.Common.{◌≡◌, ℕ, ◌+◌, ◌-◌, ◌<◌, ◌≤◌, refl, sym, ap, ◌∙◌, arith, append_assoc, subst, List, [], ◌∷◌, ◌++◌, length, take, drop, length-drop, length-take, Option, Some, None, IfSome}
use Rattle.acq_outside.specs.Tree.{TreeFiles}
use Rattle.acq_net.specs.Due.{Came}
use Rattle.tree_serve.specs.Planned.{IsWithin, part_at}
use Rattle.tree_serve.specs.Sending.{IsPartRead}
use Rattle.tree_serve.specs.Texts.{content_at}
use Rattle.tree_serve.specs.declared.planned.Planned.{Planned}
use Rattle.tree_serve.proofs.Sent.{part_cut}
use Rattle.served_link.specs.Link.{due_in, to_come}
use Rattle.served_link.specs.Sending.{Sends, SendsOn}
use Rattle.served_link.specs.declared.link.Place.{Place}
use Rattle.served_link.specs.declared.pending.Pending.{Pending}

none_long : (xs : List ℕ) → length xs ≡ 0 → xs ≡ []
none_long [] e = refl
none_long (x ∷ xs) e = absurd (omega (arith, e))

pub gone : (n : ℕ) (xs : List ℕ) → length xs ≤ n → drop n xs ≡ []
gone n xs h = let d = length-drop n xs in none_long (drop n xs) (omega (arith, d, h))

-- ---- of its head

head_sent : (files : TreeFiles) (planned : Planned) (done after n : ℕ) (out : List ℕ) → 0 < n → n ≤ length out
    → drop done planned.head ≡ take n out ++ drop after planned.head → IsWithin files planned
    → SendsOn files (take n out) (record { planned = planned; done = done }) (record { planned = planned; done = after })
head_sent files planned done after n out some few head within =
    let part = part_at files planned.path planned.at planned.left in
    record {
      bytes = ap (λ h. h ++ part) head ∙ append_assoc (take n out) (drop after planned.head) part;
      keep = refl;
      within = within;
      ends = λ empty. (let t = length-take n out in let e : length (take n out) ≡ 0 = ap length empty in absurd (omega (arith, t, e, some, few)));
    }

pub head_sent_in : (told : Option TreeFiles) (p q : Pending) (n : ℕ) (out : List ℕ) → 0 < n → n ≤ length out
    → drop p.done p.planned.head ≡ take n out ++ drop q.done p.planned.head → q.planned ≡ p.planned → IfSome told (λ files. IsWithin files p.planned) → IfSome told (λ files. SendsOn files (take n out) p q)
head_sent_in None p q n out some few head same within = tt
head_sent_in (Some files) p q n out some few head same within =
    subst (λ (planned : Planned). SendsOn files (take n out) p (record { planned = planned; done = q.done })) (sym same) (head_sent files p.planned p.done q.done n out some few head within)

-- ---- of its file

-- so many bytes of the file on
abbrev on : ℕ → Pending → Pending
on n p = record { planned = record { head = p.planned.head; path = p.planned.path; at = p.planned.at + n; left = p.planned.left - n; keep = p.planned.keep }; done = p.done }

-- none were read only at the end, so none are left
none_left : (file out : List ℕ) (at left n : ℕ) → IsPartRead file at out n → at + left ≤ length file → take n out ≡ [] → left - n ≡ 0
none_left file out at left n read within empty =
    let t = length-take n (drop at file) in
    let e : length (take n (drop at file)) ≡ 0 = ap length (sym read.bytes ∙ empty) in
    let inside = read.within in
    let none : n ≡ 0 = omega (arith, t, e, inside) in
    let nothing : length (drop at file) ≡ 0 = ap length (read.ends none) in
    let long = length-drop at file in
    omega (arith, nothing, long, within)

pub file_sent : (files : TreeFiles) (p : Pending) (n : ℕ) (out : List ℕ) → length p.planned.head ≤ p.done → n ≤ p.planned.left
    → IsPartRead (content_at files p.planned.path) p.planned.at out n → IsWithin files p.planned → SendsOn files (take n out) p (on n p)
file_sent files p n out sent few read within =
    let file = content_at files p.planned.path in
    let at = p.planned.at in
    let left = p.planned.left in
    let none = gone p.done p.planned.head sent in
    let rest = take (left - n) (drop (at + n) file) in
    let body : take left (drop at file) ≡ take n out ++ rest = part_cut file at n left few ∙ ap (λ b. b ++ rest) (sym read.bytes) in
    record {
      bytes = ap (λ h. h ++ take left (drop at file)) none ∙ body ∙ ap (λ h. take n out ++ (h ++ rest)) (sym none);
      keep = refl;
      within = omega (arith, within, few);
      ends = λ empty. ap (λ h. h ++ rest) none ∙ ap (λ k. take k (drop (at + n) file)) (none_left file out at left n read within empty);
    }

pub file_sent_in : (told : Option TreeFiles) (p : Pending) (n : ℕ) (out : List ℕ) → length p.planned.head ≤ p.done → n ≤ p.planned.left
    → IfSome told (λ files. IsPartRead (content_at files p.planned.path) p.planned.at out n) → IfSome told (λ files. IsWithin files p.planned)
    → IfSome told (λ files. SendsOn files (take n out) p (on n p))
file_sent_in None p n out sent few read within = tt
file_sent_in (Some files) p n out sent few read within = file_sent files p n out sent few read within

-- ---- nothing of it

pub none_sent : (files : TreeFiles) (p : Pending) (out : List ℕ) → length p.planned.head ≤ p.done → p.planned.left ≡ 0 → IsWithin files p.planned → SendsOn files (take 0 out) p p
none_sent files p out sent left within = record {
  bytes = refl;
  keep = refl;
  within = within;
  ends = λ empty. ap (λ h. h ++ part_at files p.planned.path p.planned.at p.planned.left) (gone p.done p.planned.head sent) ∙ ap (λ l. take l (drop p.planned.at (content_at files p.planned.path))) left;
}

pub none_sent_in : (told : Option TreeFiles) (p : Pending) (out : List ℕ) → length p.planned.head ≤ p.done → p.planned.left ≡ 0 → IfSome told (λ files. IsWithin files p.planned)
    → IfSome told (λ files. SendsOn files (take 0 out) p p)
none_sent_in None p out sent left within = tt
none_sent_in (Some files) p out sent left within = none_sent files p out sent left within

-- ---- what came of it

came_of : (files : TreeFiles) (place : Place) (old new : Pending) (piece : List ℕ) → SendsOn files piece old new
    → Came piece (record { host = place.host; port = place.port; bytes = to_come files old; keep = old.planned.keep }) (due_in (Some files) (Some place) (Some new))
came_of files place old new piece sent = record {
  rest = to_come files new;
  is = sent.bytes;
  left = ap (λ k. Some (record { host = place.host; port = place.port; bytes = to_come files new; keep = k })) sent.keep;
  ends = sent.ends;
}

pub came : (told : Option TreeFiles) (place : Option Place) (old new : Option Pending) (piece : List ℕ) → IfSome told (λ files. Sends files piece old new)
    → IfSome (due_in told place old) (λ one. Came piece one (due_in told place new))
came None place old new piece sent = tt
came (Some files) None old new piece sent = tt
came (Some files) (Some place) None new piece sent = tt
came (Some files) (Some place) (Some old) None piece sent = absurd sent
came (Some files) (Some place) (Some old) (Some new) piece sent = came_of files place old new piece sent
