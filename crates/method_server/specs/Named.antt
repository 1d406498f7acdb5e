-- Which files requests over http name.
use Rattle.std.specs.Prelude.{◌≡◌, ℕ, Bool, true, List, [], ◌∷◌, Option, Some, option_map}
use Rattle.acq_base.specs.Mirror.{MirrorMap}
use Rattle.acq_base.specs.declared.fetch.Reply.TheVariants.{Served}
use Rattle.acq_outside.specs.Disk.{Files}
use Rattle.method_messages.specs.declared.message.Message.{Message}
use Rattle.method_server.specs.Asked.{is_request, wish_of}
use Rattle.method_server.specs.Turns.{Answers, IsReplied, Moment, Touches}
use Rattle.method_server.specs.declared.wish.Wish.{Wish}

-- a request that asks for a file under this name
pub record IsNamed (name : List ℕ) (message : Message) : Type 0 where
  pub asks : is_request message ≡ true
  pub wish : Wish
  pub reads : wish_of true message ≡ Some wish
  pub same : wish.name ≡ name

abbrev pub NamedByNone : List ℕ → List Message → Type 0
NamedByNone name [] = Unit {0}
NamedByNone name (message ∷ messages) = (IsNamed name message → ⊥) × NamedByNone name messages

-- what stands under a name, where files are told
abbrev pub file_at : List ℕ → Option Files → Option (Option (List ℕ))
file_at name files = option_map (λ (all : Files). all name) files

-- where files are told, these bytes stand under the name
abbrev pub Holds : List ℕ → List ℕ → Option Files → Type 0
Holds name bytes files = file_at name files ≡ option_map (λ (all : Files). Some bytes) files

-- ---- laws

-- a file that no request names stays
abbrev pub StaysUnnamed : Type 0
StaysUnnamed = (world : Option MirrorMap) (http : Bool) (old new : Moment) (messages : List Message) (text name : List ℕ) → Answers world http old messages text new → NamedByNone name messages
    → file_at name new.files ≡ file_at name old.files

-- and while an answer is under way too
abbrev pub StaysUntouched : Type 0
StaysUntouched = (http : Bool) (old new : Moment) (messages : List Message) (name : List ℕ) → Touches http messages old new → NamedByNone name messages
    → file_at name new.files ≡ file_at name old.files

-- a file that was served is there until a later request names it
abbrev pub StaysServed : Type 0
StaysServed = (world : Option MirrorMap) (wish : Wish) (old mid new : Moment) (said text bytes : List ℕ) (later : List Message)
    → (replied : IsReplied world true wish old said mid) → replied.reply ≡ Served bytes → Answers world true mid later text new → NamedByNone wish.name later → Holds wish.name bytes new.files
