-- How a real world counts its faults.
use Rattle.std.specs.Prelude.{◌≡◌, ◌≤◌, ℕ}
use Rattle.af_io.specs.Observed.{CountsFault, next_count}
use Rattle.af_live.specs.RealWorld.{RealState}

-- a count of faults is one higher if this failed, and else the same
pub record CountsOne (failed : Type 0) (before now : ℕ) : Type 0 where
  pub cause : CountsFault failed before now
  pub fault : failed → now ≡ next_count before
  pub no_fault : ¬ failed → now ≡ before

-- no count of faults falls
pub record CountsStand (before now : RealState) : Type 0 where
  pub links : before.link_faults ≤ now.link_faults
  pub devices : before.device_faults ≤ now.device_faults
  pub listens : before.listen_faults ≤ now.listen_faults
  pub waits : before.wait_faults ≤ now.wait_faults
