-- A stream has one reading, or is refused in one way.
use Rattle.std.proofs.Common.{◌≡◌, ◌⊎◌, ℕ, ◌+◌, List, [], ◌∷◌, ◌++◌, length, inl, inr, refl, sym, ap, ◌∙◌, arith}
use Rattle.method_messages.specs.declared.message.Message.{Message}
use Rattle.method_messages.specs.declared.error.MessageError.{MessageError}
use Rattle.method_messages.specs.declared.error.MessageError.TheVariants.{BadMessage, TooLong, NoMemory}
use Rattle.method_messages.specs.Lines.{ended}
use Rattle.method_messages.specs.Streams.{Unended, Reads, place}
use Rattle.method_messages.specs.Refused.{IsRefused}
use Rattle.method_messages.specs.Within.{Refuses}
use Rattle.method_messages.proofs.Machine.{Stands, Stops, with_all, with_first, run, run_open, run_long, run_bad, run_messages}

all-stand : (messages : List Message) (at : ℕ) (bytes : List ℕ) → with_all messages (Stands [] at bytes) ≡ Stands messages at bytes
all-stand [] at bytes = refl
all-stand (m ∷ messages) at bytes = ap (with_first m) (all-stand messages at bytes)

all-stop : (messages : List Message) (fault : MessageError) → with_all messages (Stops fault) ≡ Stops fault
all-stop [] fault = refl
all-stop (m ∷ messages) fault = ap (with_first m) (all-stop messages fault)

-- what a reading is by bytes
stands : (stream : List ℕ) (messages : List Message) (r : Unended) (h : Reads stream messages r) → run stream 0 [] [] ≡ Stands messages (0 + length h.front) r.bytes
stands stream messages r h =
    ap (λ s. run s 0 [] []) h.split
    ∙ run_messages h.front r.bytes messages 0 h.before
    ∙ ap (with_all messages) (run_open r.bytes (0 + length h.front) h.goes_on h.short)
    ∙ all-stand messages (0 + length h.front) r.bytes

-- what a refusal is
stops : (stream : List ℕ) (fault : MessageError) → IsRefused stream fault → run stream 0 [] [] ≡ Stops fault
stops stream (BadMessage at) h =
    ap (λ s. run s 0 [] []) h.split
    ∙ run_messages h.front (ended h.lines ++ (h.line ++ 10 ∷ h.behind)) h.messages 0 h.before
    ∙ ap (with_all h.messages) (run_bad h.lines h.line h.behind (0 + length h.front) h.plain h.sound h.own h.some h.refused h.short)
    ∙ all-stop h.messages (BadMessage (place (0 + length h.front)))
    ∙ ap (λ n. Stops (BadMessage n)) (ap place (omega arith) ∙ sym h.begins)
stops stream (TooLong at) h =
    ap (λ s. run s 0 [] []) h.split
    ∙ run_messages h.front (h.text ++ h.behind) h.messages 0 h.before
    ∙ ap (with_all h.messages) (run_long h.text h.behind (0 + length h.front) h.goes_on h.long)
    ∙ all-stop h.messages (TooLong (place (0 + length h.front)))
    ∙ ap (λ n. Stops (TooLong n)) (ap place (omega arith) ∙ sym h.begins)
stops stream NoMemory h = absurd h

pub one_reading : (stream : List ℕ) (first second : List Message) (rest other : Unended) → Reads stream first rest → Reads stream second other → (first ≡ second) × (rest ≡ other)
one_reading stream first second rest other h k =
    let both : Stands first (0 + length h.front) rest.bytes ≡ Stands second (0 + length k.front) other.bytes = sym (stands stream first rest h) ∙ stands stream second other k in
    let messages : first ≡ second = cc in
    let places : 0 + length h.front ≡ 0 + length k.front = cc in
    let bytes : rest.bytes ≡ other.bytes = cc in
    let begins : rest.begins ≡ other.begins = h.begins ∙ ap place (omega (arith, places)) ∙ sym k.begins in
    (messages, λ i. record { begins = begins i; bytes = bytes i })

pub one_refusal : (stream : List ℕ) (fault other : MessageError) → IsRefused stream fault → IsRefused stream other → fault ≡ other
one_refusal stream fault other h k = let both : Stops fault ≡ Stops other = sym (stops stream fault h) ∙ stops stream other k in cc

pub one_of_both : (stream : List ℕ) (messages : List Message) (rest : Unended) (fault : MessageError) → Reads stream messages rest → IsRefused stream fault → ⊥
one_of_both stream messages rest fault h k = let both : Stands messages (0 + length h.front) rest.bytes ≡ Stops fault = sym (stands stream messages rest h) ∙ stops stream fault k in cc

-- ---- for what is fed

pub certain : (stream : List ℕ) (fault other : MessageError) → Refuses stream other → IsRefused stream fault → (other ≡ NoMemory) ⊎ (other ≡ fault)
certain stream fault other (inl memory) refused = inl memory
certain stream fault other (inr told) refused = inr (one_refusal stream other fault told refused)
