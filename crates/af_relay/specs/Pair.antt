-- The two devices that a relay names.
use Rattle.std.specs.Prelude.{◌≡◌, ◌↔◌, ℕ, Bool, true, List, Result, Ok, Err}
use Rattle.af_request.specs.declared.reply.DeviceInfo.{DeviceInfo}
use Rattle.af_toolkit.specs.declared.end.ToolEnd.{ToolEnd}
use Rattle.af_toolkit.specs.declared.end.ToolEnd.TheVariants as end
use Rattle.af_toolkit.specs.Trace.{Finish, channel_mismatch, device_at, mismatch, no_device, one_shape, value_by}
use Rattle.af_toolkit.specs.Ends.{is_of_link}

-- the first of two devices by their numbers among those of two servers, if both exist and have one rate and as many channels; or
-- else an end, for the first of these that is missing: the first device, the second, one rate, as many channels
abbrev pub pair_of : (from : List DeviceInfo) → ℕ → (to : List DeviceInfo) → ℕ → Result DeviceInfo Finish
pair_of from a to b =
    value_by (device_at a from) (λ one.
    value_by (device_at b to) (λ other.
    value_by (one_shape one.rate one.channels other.rate other.channels) (λ _. Ok one)))

-- A relay ends for want of a device, of one rate, or of as many channels exactly where its two devices say so.
pub record EndsByPair (pair : Result DeviceInfo Finish) (how : ToolEnd) : Type 0 where
  pub no_device : (n : ℕ) → (how ≡ end.NoDevice n) ↔ (pair ≡ Err (no_device n))
  pub rates : (a b : ℕ) → (how ≡ end.RateMismatch a b) ↔ (pair ≡ Err (mismatch a b))
  pub shapes : (a b : ℕ) → (how ≡ end.ChannelMismatch a b) ↔ (pair ≡ Err (channel_mismatch a b))

-- the ends of a relay
abbrev pub is_of_pass : ToolEnd → Bool
is_of_pass end.Done = true
is_of_pass (end.NoDevice devices) = true
is_of_pass (end.RateMismatch from to) = true
is_of_pass (end.ChannelMismatch from to) = true
is_of_pass end.SinkFault = true
is_of_pass how = is_of_link how
