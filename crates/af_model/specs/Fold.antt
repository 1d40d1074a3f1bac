-- What a device hands out is the mix of all that it ever accepts.
use Rattle.std.specs.Prelude.{◌≡◌, ℕ, Bool, List, [], ◌∷◌, ◌++◌, slice_get, IfSome, IsSomeAnd}
use Rattle.std.specs.declared.option.Option.TheVariants.{Some}
use Rattle.af_sample.specs.Heard.{heard_from}
use Rattle.af_sample.specs.Samples.{bytes_of}
use Rattle.af_world.specs.declared.happening.Happening.TheVariants.{Woke, Captured, Emitted}
use Rattle.af_world.specs.declared.happening.Wake.TheVariants.{Ticked}
use Rattle.af_world.specs.declared.script.DeviceSpec.{DeviceSpec}
use Rattle.af_world.specs.Log.{Log}
use Rattle.af_model.specs.State.{DeviceState, State}
use Rattle.af_model.specs.Controls.{through_output_control}
use Rattle.af_model.specs.Run.{end_state}

-- An emit comes after a capture, and the capture after the tick of its turn. Its sound has the frames from the device's time
-- before that turn on. Each sample is what is heard at its time and channel of all plays that the device has accepted at the end,
-- later ones too, with the controls that the device had before that turn, and in its sample type.
pub record IsMixOfAll (config : List DeviceSpec) (front : Log) (d : ℕ) (sent : List ℕ) (end : State) : Type 0 where
  pub before : Log
  pub frames : ℕ
  pub captured : List ℕ
  pub is : front ≡ before ++ Woke (Ticked d frames) ∷ Captured d frames (Some captured) ∷ []
  pub device : DeviceState
  pub stood : IsSomeAnd (end_state config before) (λ s. slice_get s.devices d ≡ Some device)
  pub last : DeviceState
  pub stands : slice_get end.devices d ≡ Some last
  pub mixes : sent ≡ bytes_of device.ty
      (through_output_control device.controls (heard_from device.channels last.accepted device.now frames))

-- this holds of each emit in a run
abbrev pub MixesAll : List DeviceSpec → Log → Type 0
MixesAll config log =
    IfSome (end_state config log)
    (λ end. (front rest : Log) (d : ℕ) (sent : List ℕ) (done : Bool) → log ≡ front ++ Emitted d sent done ∷ rest →
    IsMixOfAll config front d sent end)
