-- The answers to messages, one after another: what is said to each, and what it does to the files, while the method's count
-- of faults runs along.
use Rattle.std.specs.Prelude.{◌≡◌, ◌≢◌, ◌⊎◌, ℕ, ◌≤◌, Bool, true, false, if◌then◌else◌, List, [], ◌∷◌, ◌++◌, Option, Some, None, option_map, IsSomeAnd}
use Rattle.acq_base.specs.Mirror.{MirrorMap}
use Rattle.acq_base.specs.declared.fetch.Reply.{Reply}
use Rattle.acq_base.specs.declared.fetch.Reply.TheVariants.{Served, Not, NoMemory}
use Rattle.acq_outside.specs.Count.{one_more}
use Rattle.acq_outside.specs.Disk.{Files, with_file}
use Rattle.acq_outside.specs.Mirror.{IsReply}
use Rattle.acq_outside.specs.declared.files.Files as put_files
use Rattle.acq_outside.specs.declared.method.Method as methods
use Rattle.method_messages.specs.declared.message.Message.{Message}
use Rattle.method_server.specs.Asked.{is_request, wish_of}
use Rattle.method_server.specs.Answers.{bad_request, reply_text}
use Rattle.method_server.specs.declared.wish.Wish.{Wish}

-- how often the method has failed, how many fetches were begun, and the files, where they are told
pub record Moment : Type 0 where
  pub count : ℕ
  pub begun : ℕ
  pub files : Option Files

abbrev pub moment : {M F : Type 0} → methods.Ghosts M → put_files.Ghosts F → M → F → Moment
moment m f method files = record { count = m.faults method; begun = m.begins method; files = f.files files }

-- ---- the files

-- over http the file of this name has these bytes, and no other file changes
abbrev pub holding : Bool → List ℕ → Option Files → List ℕ → Option Files
holding false name old bytes = old
holding true name old bytes = option_map (λ all. with_file all name (Some bytes)) old

-- over http at most the file of this name has changed
abbrev pub ChangesOnly : Bool → List ℕ → Option Files → Option Files → Type 0
ChangesOnly false name old new = new ≡ old
ChangesOnly true name None new = new ≡ None
ChangesOnly true name (Some all) new = IsSomeAnd new (λ later. (other : List ℕ) → other ≢ name → later other ≡ all other)

-- a file that was served is there, and after another reply at most a part of one is
abbrev pub LeavesBy : Bool → List ℕ → Reply → Option Files → Option Files → Type 0
LeavesBy http name (Served bytes) old new = new ≡ holding http name old bytes
LeavesBy http name (Not end) old new = ChangesOnly http name old new
LeavesBy http name NoMemory old new = ⊥

-- ---- one message

-- The method's reply to a request, which is asked once, and what is said by it. A fault is a reply only where the count rose
-- meanwhile.
pub record IsReplied (world : Option MirrorMap) (http : Bool) (wish : Wish) (old : Moment) (text : List ℕ) (new : Moment) : Type 0 where
  pub reply : Reply
  pub once : new.begun ≡ one_more old.begun
  pub told : IsReply old.count new.count world wish.job reply
  pub says : reply_text wish reply ≡ Some text
  pub leaves : LeavesBy http wish.name reply old.files new.files

abbrev pub IsAnswered : Option MirrorMap → Bool → Message → Option Wish → Moment → List ℕ → Moment → Type 0
IsAnswered world http message None old text new = (text ≡ bad_request message) × (new ≡ old)
IsAnswered world http message (Some wish) old text new = IsReplied world http wish old text new

-- a message of another number has no answer
abbrev pub IsTurnOf : Bool → Option MirrorMap → Bool → Message → Moment → List ℕ → Moment → Type 0
IsTurnOf true world http message old text new = IsAnswered world http message (wish_of http message) old text new
IsTurnOf false world http message old text new = (text ≡ []) × (new ≡ old)

unfoldable pub IsTurn : Option MirrorMap → Bool → Message → Moment → List ℕ → Moment → Type 0
IsTurn world http message old text new = IsTurnOf (is_request message) world http message old text new

-- ---- messages

abbrev pub Answers : Option MirrorMap → Bool → Moment → List Message → List ℕ → Moment → Type 0
Answers world http old [] text new = (text ≡ []) × (new ≡ old)
Answers world http old (message ∷ messages) text new =
    (mid : Moment) × (first : List ℕ) × (rest : List ℕ) × IsTurn world http message old first mid × Answers world http mid messages rest new × (text ≡ first ++ rest)

-- ---- a message whose answer was begun

abbrev pub TouchesFor : Bool → Option Wish → Option Files → Option Files → Type 0
TouchesFor http None old new = new ≡ old
TouchesFor http (Some wish) old new = ChangesOnly http wish.name old new

-- a message of another number asks for nothing
abbrev pub asked : Bool → Message → Option Wish
asked http message = if is_request message then wish_of http message else None

-- none was begun, or one
abbrev pub BeginsAtMostOne : ℕ → ℕ → Type 0
BeginsAtMostOne old new = (new ≡ old) ⊎ (new ≡ one_more old)

-- of these messages the first is under way: at most one fetch was begun, and at most the file that it names has changed
abbrev pub Touches : Bool → List Message → Moment → Moment → Type 0
Touches http [] old new = new ≡ old
Touches http (message ∷ messages) old new =
    (old.count ≤ new.count) × BeginsAtMostOne old.begun new.begun × TouchesFor http (asked http message) old.files new.files

-- ---- in the words of a call's objects

abbrev pub AnswersCall : {M F : Type 0} → methods.Ghosts M → put_files.Ghosts F → Bool → Message → M → M → F → F → List ℕ → Type 0
AnswersCall m f http message old new before after text = IsAnswered (m.world old) http message (wish_of http message) (moment m f old before) text (moment m f new after)

abbrev pub RepliesCall : {M F : Type 0} → methods.Ghosts M → put_files.Ghosts F → Bool → Wish → M → M → F → F → List ℕ → Type 0
RepliesCall m f http wish old new before after text = IsReplied (m.world old) http wish (moment m f old before) text (moment m f new after)
