-- A request's file while its pieces come.
use Rattle.std.specs.Prelude.{◌==◌, MatchBool, ◌≡◌, ℕ, Bool, true, false, List, [], length, take, Option, IfSome}
use Rattle.acq_base.specs.Mirror.{MirrorMap, answer_at}
use Rattle.acq_base.specs.Sum.{sum_of}
use Rattle.acq_base.specs.declared.fetch.Answer.{Answer}
use Rattle.acq_base.specs.declared.fetch.Answer.TheVariants as answers
use Rattle.acq_base.specs.declared.fetch.Job.{Job}
use Rattle.acq_base.specs.declared.fetch.Reply.TheVariants as replies
use Rattle.acq_outside.specs.Disk.{Files}
use Rattle.acq_outside.specs.Files.{CanPut, Put}
use Rattle.acq_outside.specs.Mirror.{IsReply}
use Rattle.acq_outside.specs.declared.word.Fetch.{Fetch}
use Rattle.hash_gate.specs.Pieces.{HasSummed}
use Rattle.hash_gate.specs.declared.total.Total.{Total}
use Rattle.method_server.specs.Answers.{served, not_served}
use Rattle.method_server.specs.Turns.{holding, ChangesOnly}
use Rattle.method_server.specs.declared.fetching.Fetched.{Fetched}
use Rattle.method_server.specs.declared.fetching.Fetched.TheVariants.{Whole, Not}
use Rattle.method_server.specs.declared.wish.Wish.{Wish}

-- ---- the file

abbrev pub MayPut : Bool → Option Files → List ℕ → ℕ → Type 0
MayPut true old name at = IfSome old (λ all. CanPut all name at)
MayPut false old name at = Unit {0}

abbrev pub Keeps : Bool → Option Files → List ℕ → ℕ → List ℕ → Option Files → Type 0
Keeps true old name at bytes new = Put old name at bytes new
Keeps false old name at bytes new = new ≡ old

-- where no piece came, the file is made at the end
abbrev pub Finishes : Bool → List ℕ → ℕ → Option Files → Option Files → Type 0
Finishes http name at old new = MatchBool (at == 0) (Keeps http old name 0 [] new) (new ≡ old)

-- before the first piece nothing has changed
abbrev pub holding_so_far : Bool → List ℕ → Option Files → List ℕ → Option Files
holding_so_far http name old [] = old
holding_so_far http name old bytes = holding http name old bytes

-- ---- the fetch

-- the job's fetch behind so many bytes
abbrev pub fetch_at : Job → ℕ → Fetch
fetch_at job at = record { job = job; at = at }

-- these bytes are the first ones of what is served
abbrev pub IsFrontOf : Answer → List ℕ → Type 0
IsFrontOf (answers.Served all) bytes = bytes ≡ take (length bytes) all
IsFrontOf (answers.Moved place) bytes = Unit {0}
IsFrontOf (answers.Absent status) bytes = Unit {0}

-- So many bytes have come: the total is theirs, they are a front of the mirror's file, and the file has them.
pub record HasCome (world : Option MirrorMap) (http : Bool) (wish : Wish) (old : Option Files) (at : ℕ) (total : Total) (new : Option Files) : Type 0 where
  pub bytes : List ℕ
  pub long : at ≡ length bytes
  pub summed : HasSummed total bytes
  pub front : IfSome world (λ entries. IsFrontOf (answer_at entries wish.job.uri) bytes)
  pub file : new ≡ holding_so_far http wish.name old bytes

-- ---- what it comes to

pub record IsWhole (world : Option MirrorMap) (http : Bool) (wish : Wish) (before after : ℕ) (old new : Option Files) (fetched : Fetched) : Type 0 where
  pub bytes : List ℕ
  pub sum : fetched ≡ Whole (sum_of bytes)
  pub told : IsReply before after world wish.job (replies.Served bytes)
  pub file : new ≡ holding http wish.name old bytes

-- a file that came, with its sum, or what the method replied else
abbrev pub Comes : Option MirrorMap → Bool → Wish → ℕ → ℕ → Option Files → Option Files → Fetched → Type 0
Comes world http wish before after old new (Whole sum) = IsWhole world http wish before after old new (Whole sum)
Comes world http wish before after old new (Not end) = IsReply before after world wish.job (replies.Not end) × ChangesOnly http wish.name old new

-- what is said of it
abbrev pub fetched_text : Wish → Fetched → List ℕ
fetched_text wish (Whole sum) = served wish sum
fetched_text wish (Not end) = not_served wish end
