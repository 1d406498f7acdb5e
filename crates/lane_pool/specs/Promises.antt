-- What a worker promises of what it hands back.
use Rattle.std.specs.Prelude.{◌≡◌, ℕ, true, Option}
use Rattle.crossbeam_channel.specs.Claims.{view, IsSeatAt}
use Rattle.crossbeam_channel.specs.Ends.{sends_on}
use Rattle.acq_base.specs.Mirror.{MirrorMap}
use Rattle.acq_outside.specs.Frame.{FetchesBy}
use Rattle.lane_pool.specs.declared.work.Returned.{Returned}
use Rattle.lane_pool.specs.declared.worker.Promised.{Promised}
use Rattle.lane_pool.specs.Counting.{counted_on}
use Rattle.lane_pool.specs.Working.{IsWorker}

-- a worker as contracts see it
pub record Hired (M : Type 0) : Type 0 where
  pub promise : Promised M
  pub handed : ℕ

module _ {M : Type 0} (world : M → Option MirrorMap) (faults begins : M → ℕ) where
  -- It hands back its method, with the same mirror and no lower count, its lane's pass, whose last count is at or below the
  -- method's, and the pass of its jobs: each that it received began one fetch.
  pub record HandsBack (promised : Promised M) (back : Returned M) : Type 0 where
    pub seat : IsSeatAt (sends_on promised.sends.value) back.pass
    pub pass : IsWorker promised.lane (view back.pass) (world back.method) (faults back.method)
    pub fetches : FetchesBy faults world promised.method.value back.method
    pub open fetches use *
    pub jobs : IsSeatAt (sends_on promised.jobs.value) back.jobs
    pub takes : (view back.jobs).takes ≡ true
    pub begun : begins back.method ≡ counted_on (begins promised.method.value) (view back.jobs).received

-- two promises of one worker
pub record IsSamePromise {M : Type 0} (a b : Promised M) : Type 0 where
  pub lane : a.lane ≡ b.lane
  pub method : a.method.value ≡ b.method.value
  pub jobs : a.jobs.value ≡ b.jobs.value
  pub sends : a.sends.value ≡ b.sends.value
  pub pass : a.pass.value ≡ b.pass.value
