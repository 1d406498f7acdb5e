-- What a port in memory tells, as its rows change.
use Rattle.std.proofs.Common.{◌≡◌, ◌∙◌, ℕ, suc, ◌-◌, ◌+◌, ◌<◌, arith, List, [], ◌∷◌, ◌++◌, map, reverse, length, get_or, set, Result, Ok, Err, OnOk, MatchResult, refl, sym, ap, subst}
use Rattle.std.proofs.lemmas.List.{get_or_at, length-append, length-reverse, reverse-append, reverse-reverse, set_at}
use Rattle.acq_net.specs.declared.mem_port.MemPort.{MemPort}
use Rattle.acq_net.specs.declared.script.FromPeer.{FromPeer}
use Rattle.acq_net.specs.MemPort.{said_on, talks_of}
use Rattle.acq_net.specs.Script.{hears, unheard}
use Rattle.acq_net.specs.Talk.{Talk, receives, sends}
use Rattle.acq_net.specs.Talks.{accepts, on_first}

sent_in : (sent : List (List ℕ)) (heard : List FromPeer) → map (λ (talk : Talk). talk.sent) (said_on sent heard) ≡ sent
sent_in [] heard = refl
sent_in (sent ∷ others) [] = ap (λ l. sent ∷ l) (sent_in others [])
sent_in (sent ∷ others) (one ∷ heard) = ap (λ l. sent ∷ l) (sent_in others heard)

pub sent_on : (port : MemPort) → port.sent ≡ reverse (map (λ talk. talk.sent) (talks_of port))
sent_on port = sym (ap reverse (sent_in (reverse port.sent) (port.heard ∷ reverse port.former.items)) ∙ reverse-reverse port.sent)

-- one more connection was accepted
pub accepted_on : (sent : List (List ℕ)) (heard : FromPeer) (former : List FromPeer) → said_on (reverse (sent ++ [] ∷ [])) (unheard ∷ reverse (former ++ heard ∷ [])) ≡ accepts (said_on (reverse sent) (heard ∷ reverse former))
accepted_on sent heard former = ap (λ l. said_on l (unheard ∷ reverse (former ++ heard ∷ []))) (reverse-append sent ([] ∷ [])) ∙ ap (λ l. accepts (said_on (reverse sent) l)) (reverse-append former (heard ∷ []))

-- bytes were heard on the latest one
pub heard_on : (sent : List (List ℕ)) (heard : FromPeer) (former : List FromPeer) (bytes : List ℕ) → said_on sent (hears bytes heard ∷ former) ≡ on_first (receives bytes) (said_on sent (heard ∷ former))
heard_on [] heard former bytes = refl
heard_on (sent ∷ others) heard former bytes = refl

-- bytes were sent on the latest one
pub said_on_first : (sent : List (List ℕ)) (heard : List FromPeer) (bytes : List ℕ) → said_on (on_first (λ row. row ++ bytes) sent) heard ≡ on_first (sends bytes) (said_on sent heard)
said_on_first [] heard bytes = refl
said_on_first (sent ∷ others) [] bytes = refl
said_on_first (sent ∷ others) (one ∷ heard) bytes = refl

length_in : (sent : List (List ℕ)) (heard : List FromPeer) → length (said_on sent heard) ≡ length sent
length_in [] heard = refl
length_in (sent ∷ others) [] = ap suc (length_in others [])
length_in (sent ∷ others) (one ∷ heard) = ap suc (length_in others heard)

-- it tells as many connections as there are rows of bytes sent
pub length_said : (port : MemPort) → length (talks_of port) ≡ length port.sent
length_said port = length_in (reverse port.sent) (port.heard ∷ reverse port.former.items) ∙ length-reverse port.sent

last_of : {A : Type 0} (front : List A) (x : A) (f : A → A) (n : ℕ) → length front ≡ n → (y : A) → y ≡ get_or (front ++ x ∷ []) n y → reverse (set (front ++ x ∷ []) n (f y)) ≡ f x ∷ reverse front
last_of front x f n same y is = ap (λ z. reverse (set (front ++ x ∷ []) n (f z))) (is ∙ get_or_at front x [] y n same) ∙ ap reverse (set_at front x [] (f x) n same) ∙ reverse-append front (f x ∷ [])

length_front : {A : Type 0} (front : List A) (x : A) → length front ≡ length (front ++ x ∷ []) - 1
length_front front x = let l : length (front ++ x ∷ []) ≡ length front + 1 = length-append front (x ∷ []) in omega (arith, l)

on_latest : {A : Type 0} (latest : List A) (f : A → A) (y : A) → 0 < length latest → y ≡ get_or (reverse latest) (length (reverse latest) - 1) y → reverse (set (reverse latest) (length (reverse latest) - 1) (f y)) ≡ on_first f latest
on_latest [] f y some is = absurd (omega (arith, some))
on_latest (x ∷ others) f y some is =
    let front : reverse (x ∷ others) ≡ reverse others ++ x ∷ [] = reverse-append (x ∷ []) others in
    let n : length (reverse others) ≡ length (reverse (x ∷ others)) - 1 = length_front (reverse others) x ∙ ap (λ l. length l - 1) (sym front) in
    subst (λ l. reverse (set l (length (reverse (x ∷ others)) - 1) (f y)) ≡ f x ∷ others) (sym front)
    (last_of (reverse others) x f (length (reverse (x ∷ others)) - 1) n y (subst (λ l. y ≡ get_or l (length (reverse (x ∷ others)) - 1) y) front is) ∙ ap (λ l. f x ∷ l) (reverse-reverse others))

changed_last : {A : Type 0} (rows : List A) (f : A → A) (y : A) (n : ℕ) → n ≡ length rows → 0 < n → y ≡ get_or rows (n - 1) y → reverse (set rows (n - 1) (f y)) ≡ on_first f (reverse rows)
changed_last rows f y n same some is =
    subst (λ k. reverse (set rows (k - 1) (f y)) ≡ on_first f (reverse rows)) (sym same)
    (subst (λ l. reverse (set l (length l - 1) (f y)) ≡ on_first f (reverse rows)) (reverse-reverse rows)
    (on_latest (reverse rows) f y (subst (λ k. 0 < k) (same ∙ sym (length-reverse rows)) some) (subst (λ l. y ≡ get_or l (length l - 1) y) (sym (reverse-reverse rows)) (subst (λ k. y ≡ get_or rows (k - 1) y) same is))))

-- bytes were appended to the last row, if there was memory
pub appended_last : {E : Type 0} (result : Result (Unit {0}) E) (rows : List (List ℕ)) (last later bytes : List ℕ) (n : ℕ) → n ≡ length rows → 0 < n → last ≡ get_or rows (n - 1) last → MatchResult result (λ _. later ≡ last ++ bytes) (λ _. later ≡ last)
    → OnOk result (reverse (set rows (n - 1) later) ≡ on_first (λ row. row ++ bytes) (reverse rows))
appended_last (Err e) rows last later bytes n same some is more = tt
appended_last (Ok done) rows last later bytes n same some is more = subst (λ l. reverse (set rows (n - 1) l) ≡ on_first (λ row. row ++ bytes) (reverse rows)) (sym more) (changed_last rows (λ row. row ++ bytes) last n same some is)
