-- From what a method says to what a worker sends, and from that to what the coordinator takes.
use Rattle.std.proofs.Common.{◌≡◌, ◌∙◌, ℕ, ◌≤◌, true, true≢false, List, length, Option, Some, None, IfSome, IsSome, sym, refl, ap, subst, arith}
use Rattle.acq_base.specs.declared.fetch.Job.{Job}
use Rattle.acq_base.specs.declared.fetch.NotServed.{NotServed}
use Rattle.acq_base.specs.declared.fetch.Reply.{Reply}
use Rattle.acq_base.specs.declared.fetch.NotServed.TheVariants as nots
use Rattle.acq_base.specs.declared.fetch.Reply.TheVariants as replies
use Rattle.acq_base.specs.Mirror.{MirrorMap, answer_at}
use Rattle.acq_outside.specs.declared.word.Fetch.{Fetch}
use Rattle.acq_outside.specs.declared.word.Word.{Word}
use Rattle.acq_outside.specs.declared.word.Word.TheVariants.{Piece, Done, Not, NoMemory}
use Rattle.acq_outside.specs.Count.{Rose}
use Rattle.acq_outside.specs.Word.{IsWord, IsPiece, IsDone, IsOther, IsCounted, IsSoundWord, IsReplyOf, begun, further}
use Rattle.lane_pool.specs.declared.rule.View.{View}
use Rattle.lane_pool.specs.declared.told.Told.{Told}
use Rattle.lane_pool.specs.Words.{count_after, fetch_at, IsWordTo, StandsAt, IsInOrder, IsHeard}
use Rattle.lane_pool.specs.Rule.{IsSent}
use Rattle.lane_pool.specs.Working.{IsWorker, is_piece}

-- the word that the method has just said to the job, where the worker's last count is `last` and the method's is now `count`
pub record IsNext (last count : ℕ) (world : Option MirrorMap) (job : Job) (under : Option Fetch) (word : Word) : Type 0 where
  pub fetch : Fetch
  pub of_job : fetch.job ≡ job
  pub before : ℕ
  pub in_order : last ≤ before
  pub rises : before ≤ count
  pub says : IsWord before count world fetch under word
  pub sound : IsSoundWord word

-- a piece or a size is the same to one fetch as to another that is equal
piece_to : (before after : ℕ) (world : Option MirrorMap) (f g : Fetch) (under : Option Fetch) (place : ℕ) (bytes : List ℕ) → f ≡ g → IsPiece before after world f under place bytes
    → IsPiece before after world g (Some (further g (length bytes))) place bytes
piece_to before after world f g under place bytes e is = subst (λ (h : Fetch). IsPiece before after world h (Some (further h (length bytes))) place bytes) e record {
  quiet = is.quiet;
  goes_on = is.goes_on;
  nonempty = is.nonempty;
  small = is.small;
  within = is.within;
  under_way = refl;
  told = is.told;
}

done_to : (before after : ℕ) (world : Option MirrorMap) (f g : Fetch) (under : Option Fetch) (size : ℕ) → f ≡ g → IsDone before after world f under size → IsDone before after world g None size
done_to before after world f g under size e is = subst (λ (h : Fetch). IsDone before after world h None size) e record { quiet = is.quiet; reached = is.reached; ended = refl; told = is.told }

-- any other word speaks of the fetch's job alone
other_to : (before after : ℕ) (world : Option MirrorMap) (f g : Fetch) (under : Option Fetch) (reply : Reply) → f.job ≡ g.job → IsOther before after world f under reply → IsOther before after world g None reply
other_to before after world f g under reply e is = record {
  counted = is.counted;
  ended = refl;
  told = subst (λ (j : Job). IfSome world (λ entries. IsReplyOf (answer_at entries j.uri) j reply)) e is.told;
}

-- a word that is no fault leaves the count, wherever that stands
count_to : (before after n : ℕ) (world : Option MirrorMap) (f : Fetch) (under : Option Fetch) (reply : Reply) → IsCounted n n reply → IsOther before after world f under reply → IsOther n n world f under reply
count_to before after n world f under reply counted is = record { counted = counted; ended = is.ended; told = is.told }

-- What the method has just said is a word to its job, and is in order.
pub is_word_to : (last count : ℕ) (world : Option MirrorMap) (job : Job) (under : Option Fetch) (word : Word) → IsNext last count world job under word → IsWordTo world job word
is_word_to last count world job under (Piece place bytes) n = record {
  before = n.before;
  after = count;
  rises = n.rises;
  says = let e : n.fetch ≡ fetch_at job (Piece place bytes) = λ i. record { job = n.of_job i; at = sym n.says.goes_on i } in piece_to n.before count world n.fetch _ under place bytes e n.says;
  sound = n.sound;
}
is_word_to last count world job under (Done size) n = record {
  before = n.before;
  after = count;
  rises = n.rises;
  says = let e : n.fetch ≡ fetch_at job (Done size) = λ i. record { job = n.of_job i; at = sym n.says.reached i } in done_to n.before count world n.fetch _ under size e n.says;
  sound = n.sound;
}
is_word_to last count world job under (Not end) n = record {
  before = n.before;
  after = count;
  rises = n.rises;
  says = other_to n.before count world n.fetch (fetch_at job (Not end)) under (replies.Not end) n.of_job n.says;
  sound = n.sound;
}
is_word_to last count world job under NoMemory n = record {
  before = n.before;
  after = count;
  rises = n.rises;
  says = other_to n.before count world n.fetch (fetch_at job NoMemory) under replies.NoMemory n.of_job n.says;
  sound = n.sound;
}

-- the count that it tells is the method's, and else the last count is at or below that
pub stays_below : (last count : ℕ) (world : Option MirrorMap) (job : Job) (under : Option Fetch) (word : Word) → IsNext last count world job under word → count_after last word ≤ count
stays_below last count world job under (Piece place bytes) n = let a = n.in_order in let b = n.rises in omega arith
stays_below last count world job under (Done size) n = let a = n.in_order in let b = n.rises in omega arith
stays_below last count world job under (Not (nots.Fault before after)) n = let a = n.says.counted.1 in omega arith
stays_below last count world job under (Not (nots.Moved place)) n = let a = n.in_order in let b = n.rises in omega arith
stays_below last count world job under (Not (nots.Absent status)) n = let a = n.in_order in let b = n.rises in omega arith
stays_below last count world job under (Not nots.TooBig) n = let a = n.in_order in let b = n.rises in omega arith
stays_below last count world job under (Not (nots.Garbled at)) n = let a = n.in_order in let b = n.rises in omega arith
stays_below last count world job under NoMemory n = let a = n.in_order in let b = n.rises in omega arith

-- the first word of a job
pub begins_with : (last before count : ℕ) (world world' : Option MirrorMap) (job : Job) (under : Option Fetch) (word : Word) → last ≤ before → before ≤ count → world' ≡ world
    → IsSoundWord word → IsWord before count world (begun job) under word → IsNext last count world' job under word
begins_with last before count world world' job under word low rises same sound says = record {
  fetch = begun job;
  of_job = refl;
  before = before;
  in_order = low;
  rises = rises;
  says = subst (λ (w : Option MirrorMap). IsWord before count w (begun job) under word) (sym same) says;
  sound = sound;
}

-- a fetch is under way behind a piece
under_piece : (last count : ℕ) (world : Option MirrorMap) (job : Job) (under : Option Fetch) (word : Word) → IsNext last count world job under word → is_piece word ≡ true
    → (f : Fetch) × (under ≡ Some f) × (f.job ≡ job)
under_piece last count world job under (Piece place bytes) n piece = (further n.fetch (length bytes), n.says.under_way, n.of_job)
under_piece last count world job under (Done size) n piece = absurd (true≢false (sym piece))
under_piece last count world job under (Not end) n piece = absurd (true≢false (sym piece))
under_piece last count world job under NoMemory n piece = absurd (true≢false (sym piece))

-- the next word of a job, behind a piece
pub goes_on_with : (last count : ℕ) (world : Option MirrorMap) (job : Job) (under : Option Fetch) (word : Word) → IsNext last count world job under word → is_piece word ≡ true
    → (last' count' : ℕ) (world' : Option MirrorMap) (under' : Option Fetch) (word' : Word) → last' ≤ count → count ≤ count' → world' ≡ world → IsSoundWord word'
    → IfSome under (λ f. IsWord count count' world f under' word') → IsNext last' count' world' job under' word'
goes_on_with last count world job under word n piece last' count' world' under' word' low rises same sound says =
    let u = under_piece last count world job under word n piece in
    record {
      fetch = u.0;
      of_job = u.2;
      before = count;
      in_order = low;
      rises = rises;
      says = subst (λ (w : Option MirrorMap). IsWord count count' w u.0 under' word') (sym same) (subst (λ (o : Option Fetch). IfSome o (λ f. IsWord count count' world f under' word')) u.1 says);
      sound = sound;
    }

-- the pass after a send, or after one that failed
pub still_worker : (lane : ℕ) (v w : View) (told : Told) (world : Option MirrorMap) (count : ℕ) (job : Job) (under : Option Fetch) (before : ℕ) → IsWorker lane v world before
    → IsNext v.last count world job under told.word → IsSent v told w → IsWorker lane w world count
still_worker lane v w told world count job under before is next sent = record {
  live = ap (λ (u : View). u.live) sent.then;
  lane_is = ap (λ (u : View). u.lane) sent.then ∙ is.lane_is;
  a_worker = is.a_worker;
  mirror = ap (λ (u : View). u.world) sent.then ∙ is.mirror;
  below = let a = ap (λ (u : View). u.last) sent.then in let b = stays_below v.last count world job under told.word next in omega arith;
}

quiet : (last : ℕ) (world : Option MirrorMap) (fetch : Fetch) (job : Job) (end : NotServed) → IsWordTo world job (Not end) → job ≡ fetch.job → count_after last (Not end) ≡ last → IsCounted last last (replies.Not end)
    → IsHeard last world fetch (Not end)
quiet last world fetch job end is same still counted = record {
  before = last;
  in_order = omega arith;
  rises = omega arith;
  says = subst (λ n. IsOther last n world fetch None (replies.Not end)) (sym still)
      (count_to is.before is.after last world fetch None (replies.Not end) counted (other_to is.before is.after world (fetch_at job (Not end)) fetch _ (replies.Not end) same is.says));
  sound = is.sound;
}

-- What came is heard, where it passes the coordinator's test.
pub is_heard : (last : ℕ) (world : Option MirrorMap) (fetch : Fetch) (job : Job) (word : Word) → IsWordTo world job word → job ≡ fetch.job → StandsAt fetch.at word → IsInOrder last word → IsHeard last world fetch word
is_heard last world fetch job (Piece place bytes) is same stands order = record {
  before = last;
  in_order = omega arith;
  rises = omega arith;
  says = let e : fetch_at job (Piece place bytes) ≡ fetch = λ i. record { job = same i; at = stands i } in
      let p = piece_to is.before is.after world _ fetch _ place bytes e is.says in
      record { quiet = refl; goes_on = p.goes_on; nonempty = p.nonempty; small = p.small; within = p.within; under_way = p.under_way; told = p.told };
  sound = is.sound;
}
is_heard last world fetch job (Done size) is same stands order = record {
  before = last;
  in_order = omega arith;
  rises = omega arith;
  says = let e : fetch_at job (Done size) ≡ fetch = λ i. record { job = same i; at = stands i } in
      let d = done_to is.before is.after world _ fetch _ size e is.says in record { quiet = refl; reached = d.reached; ended = d.ended; told = d.told };
  sound = is.sound;
}
is_heard last world fetch job (Not (nots.Fault before after)) is same stands order = record {
  before = before;
  in_order = order;
  rises = let a = is.says.counted.0 in let b = is.says.counted.1 in let c = is.rises in omega arith;
  says =
      let o = other_to is.before is.after world (fetch_at job (Not (nots.Fault before after))) fetch _ (replies.Not (nots.Fault before after)) same is.says in
      let c = o.counted in
      record { counted = (refl, refl, subst (λ (y : ℕ × ℕ). Rose y.0 y.1) (λ i. (sym c.0 i, sym c.1 i)) c.2); ended = refl; told = o.told };
  sound = is.sound;
}
is_heard last world fetch job (Not (nots.Moved place)) is same stands order = quiet last world fetch job (nots.Moved place) is same refl refl
is_heard last world fetch job (Not (nots.Absent status)) is same stands order = quiet last world fetch job (nots.Absent status) is same refl refl
is_heard last world fetch job (Not nots.TooBig) is same stands order = quiet last world fetch job nots.TooBig is same refl refl
is_heard last world fetch job (Not (nots.Garbled at)) is same stands order = quiet last world fetch job (nots.Garbled at) is same refl refl
is_heard last world fetch job NoMemory is same stands order = record {
  before = last;
  in_order = omega arith;
  rises = omega arith;
  says = count_to is.before is.after last world fetch None replies.NoMemory refl (other_to is.before is.after world (fetch_at job NoMemory) fetch _ replies.NoMemory same is.says);
  sound = is.sound;
}

-- a fetch is under way exactly behind a piece
pub is_under_way : (before after : ℕ) (world : Option MirrorMap) (fetch : Fetch) (under : Option Fetch) (word : Word) → IsWord before after world fetch under word → is_piece word ≡ true → IsSome under
is_under_way before after world fetch under (Piece place bytes) is piece = subst (λ (o : Option Fetch). IsSome o) (sym is.under_way) refl
is_under_way before after world fetch under (Done size) is piece = absurd (true≢false (sym piece))
is_under_way before after world fetch under (Not end) is piece = absurd (true≢false (sym piece))
is_under_way before after world fetch under NoMemory is piece = absurd (true≢false (sym piece))

pub stays_under_way : (before after : ℕ) (world : Option MirrorMap) (old under : Option Fetch) (word : Word) → IsSome old → IfSome old (λ fetch. IsWord before after world fetch under word) → is_piece word ≡ true
    → IsSome under
stays_under_way before after world None under word some is piece = absurd (true≢false (sym some))
stays_under_way before after world (Some fetch) under word some is piece = is_under_way before after world fetch under word is piece
