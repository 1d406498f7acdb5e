-- What comes of one request.
use Rattle.std.specs.Prelude.{◌≡◌, ℕ, ◌+◌, List, Option, Result, OnOk, OnErr, option_map}
use Rattle.acq_outside.specs.Tree.{TreeFiles}
use Rattle.acq_net.specs.Talk.{Talk, sends}
use Rattle.acq_net.specs.Talks.{SendsPartOfLatest, on_first}
use Rattle.tree_serve.specs.Talks.{Goes, IsServed}
use Rattle.tree_serve.specs.declared.serving.Turn.{Turn}
use Rattle.tree_serve.specs.declared.serving.Turn.TheVariants.{Kept, Over}

-- the text was sent, where no error came
abbrev pub IsAnswered : {A E : Type 0} → List ℕ → Option (List Talk) → Option (List Talk) → Result A E → Type 0
IsAnswered text before after result = OnOk result (after ≡ option_map (on_first (sends text)) before)

-- a front of it was, where one came
abbrev pub IsAnsweredInPart : {A E : Type 0} → List ℕ → Option (List Talk) → Option (List Talk) → Result A E → Type 0
IsAnsweredInPart text before after result = OnErr result (SendsPartOfLatest text before after)

-- the connection goes on behind one more response, or was served
abbrev pub IsTurned : List ℕ → ℕ → List ℕ → Turn → TreeFiles → Talk → Type 0
IsTurned root done unread Kept files talk = Goes root (done + 1) unread files talk
IsTurned root done unread (Over count) files talk = IsServed root count files talk
