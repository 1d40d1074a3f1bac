-- Sample periods of a device go by: it captures, hands its sound out, its time rises, and requests that were deferred for it
-- complete.
use Rattle.std.specs.Prelude.{ℕ, zero, suc, ◌+◌, ◌*◌, Bool, pos, ℤ, List, [], ◌∷◌, ◌++◌, length, replicate, find, option_map, option_and_then, slice_get}
use Rattle.std.specs.declared.option.Option.{Option}
use Rattle.std.specs.declared.option.Option.TheVariants.{None, Some}
use Rattle.af_sample.specs.Heard.{AcceptedPlay, heard_from}
use Rattle.af_sample.specs.Samples.{bytes_of, samples}
use Rattle.af_wait.specs.Waits.{without_first}
use Rattle.af_model.specs.State.{DeviceState, Deferred, deferred_play, deferred_record, LinkState, State, Deferral, EnvironmentState, OpenLink, open_link, SlotLink, link_in_slot, slot_link_at, with_slot_link, with_device}
use Rattle.af_model.specs.Controls.{through_output_control, through_input_control}
use Rattle.af_model.specs.Waiting.{falls_due}
use Rattle.af_model.specs.Play.{in_devices, tell_played, with_actor, with_play}
use Rattle.af_model.specs.Record.{give_record}
use Rattle.af_model.specs.Advance.{advance, or_else}

-- the samples of the next n frames: what is heard of all that was accepted
abbrev pub next_sound : DeviceState → ℕ → List ℤ
next_sound device n = heard_from device.channels device.accepted device.now n

-- the sound that a device hands out in n sample periods, after its output control and in its sample type
abbrev pub sound : DeviceState → ℕ → List ℕ
sound device n = bytes_of device.ty (through_output_control device.controls (next_sound device n))

-- what a device captures in n sample periods: the samples of the bytes that came, or silence if none did
abbrev pub captured_samples : DeviceState → ℕ → Option (List ℕ) → List ℤ
captured_samples device n None = replicate (device.channels * n) (pos 0)
captured_samples device n (Some bytes) = samples device.ty bytes

-- a device after n sample periods in which these samples came to its input control, dead or not
abbrev pub device_after : ℕ → List ℤ → Bool → DeviceState → DeviceState
device_after n captured is_dead device =
    record device {
      now = device.now + n;
      captured = device.captured ++ through_input_control device.controls captured;
      is_dead = is_dead;
    }

-- the plays that a device has accepted after it completed a deferred request: a play is accepted now
abbrev pub with_deferred : Deferred → ℕ → List AcceptedPlay → List AcceptedPlay
with_deferred (deferred_play quiet start sound preempt) now accepted =
    with_play (record { start = start; samples = sound; preempt = preempt; at = now }) accepted
with_deferred (deferred_record c start frames) now accepted = accepted

-- who has acted on it then
abbrev pub with_deferred_actor : ℕ → Deferred → List ℕ → List ℕ
with_deferred_actor k (deferred_play quiet start sound preempt) actors = with_actor k sound actors
with_deferred_actor k (deferred_record c start frames) actors = actors

-- a device completes a deferred request of link k
abbrev pub complete_deferred : ℕ → Deferred → DeviceState → DeviceState
complete_deferred k deferred device = record device {
  accepted = with_deferred deferred device.now device.accepted;
  actors = with_deferred_actor k deferred device.actors;
  completed = device.completed ++ record { link = k; deferred = deferred; at = device.now } ∷ [];
}

-- the answer to the link then
abbrev pub answer_deferred : Deferred → DeviceState → OpenLink → OpenLink
answer_deferred (deferred_play quiet start sound preempt) device p = tell_played quiet device p
answer_deferred (deferred_record c start frames) device p = give_record c start frames device p

-- a link's deferred request completes, and then requests that the link may now make are performed
abbrev pub complete_for : Deferral → Option DeviceState → OpenLink → OpenLink
complete_for w None p = p
complete_for w (Some device) p =
    advance w.link (answer_deferred w.deferred device (in_devices w.device (complete_deferred w.link w.deferred) p))

abbrev pub enter : OpenLink → SlotLink
enter p = link_in_slot p.environment (Some p.link)

abbrev pub complete_at : Deferral → EnvironmentState → Option LinkState → SlotLink
complete_at w a None = link_in_slot a None
complete_at w a (Some l) = enter (complete_for w (slice_get a.devices w.device) (open_link a l))

abbrev pub complete : Deferral → State → State
complete w s = with_slot_link w.link s (complete_at w (slot_link_at w.link s).environment (slot_link_at w.link s).link)

-- the longest deferred request that is due for device d leaves the list and completes; None if none is due
abbrev pub complete_first : ℕ → State → DeviceState → Option State
complete_first d s device =
    option_map (λ w. complete w (record s { waiting = without_first (falls_due d device) s.waiting }))
    (find (falls_due d device) s.waiting)

abbrev pub complete_step : ℕ → State → Option State
complete_step d s = option_and_then (complete_first d s) (slice_get s.devices d)

-- as long as one is due, n of them at most
abbrev pub complete_by : ℕ → ℕ → State → State
complete_by zero d s = s
complete_by (suc n) d s = or_else s (complete_by n d) (complete_step d s)

-- As long as one is due. A request that is deferred after a completion is not due yet, so at most as many complete as the list
-- has.
unfoldable pub complete_due : ℕ → State → State
complete_due d s = complete_by (length s.waiting) d s

-- So many sample periods of device d go by, in which these samples came, and it is dead after them or not. Then the requests that
-- are due complete, the longest deferred first.
abbrev pub tick : ℕ → ℕ → List ℤ → Bool → State → State
tick d n captured is_dead s = complete_due d (record s { devices = with_device d (device_after n captured is_dead) s.devices })
