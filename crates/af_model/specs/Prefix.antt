-- What a link took is a prefix of what was queued for it.
use Rattle.std.specs.Prelude.{◌≡◌, ℕ, Bool, true, false, List, ◌++◌, IfSome}
use Rattle.std.specs.declared.option.Option.{Option}
use Rattle.std.specs.declared.option.Option.TheVariants.{None, Some}
use Rattle.af_world.specs.declared.happening.Why.{Why}
use Rattle.af_world.specs.declared.happening.Why.TheVariants as why
use Rattle.af_world.specs.declared.script.DeviceSpec.{DeviceSpec}
use Rattle.af_world.specs.Log.{Log}
use Rattle.af_model.specs.State.{LinkState, slot_at}
use Rattle.af_model.specs.LinkHistory.{history}
use Rattle.af_model.specs.Run.{end_state}

-- the bytes that writes to link k took since it was last opened
abbrev pub taken : ℕ → Log → List ℕ
taken k log = (history k log).took

-- whether a link was dropped, so that its unsent output is lost
abbrev pub is_dropped : Option Why → Bool
is_dropped (Some why.LinkFault) = true
is_dropped (Some why.Overrun) = true
is_dropped _ = false

-- the bytes queued for an open link that was not dropped are those that wait to be sent to it
abbrev pub IsQueued : Option LinkState → List ℕ → Type 0
IsQueued None rest = Unit {0}
IsQueued (Some l) rest = is_dropped l.closing ≡ false → rest ≡ l.pending

-- what was queued is what was taken and a rest
pub record IsFrontOf (took said : List ℕ) (link : Option LinkState) : Type 0 where
  pub rest : List ℕ
  pub whole : said ≡ took ++ rest
  pub queued : IsQueued link rest

-- this holds of each link after a run
abbrev pub TakesInOrder : List DeviceSpec → Log → Type 0
TakesInOrder config log =
    IfSome (end_state config log) (λ s. (k : ℕ) → IsFrontOf (taken k log) (slot_at k s).said (slot_at k s).link)
