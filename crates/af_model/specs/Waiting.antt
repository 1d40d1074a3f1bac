-- Requests that are deferred until a device's time has come.
use Rattle.std.specs.Prelude.{ℕ, ◌+◌, ◌-◌, ◌==◌, ◌<◌, nat_le, ◌&&◌, Bool, List, [], ◌∷◌, ◌++◌, slice_get, IfSome}
use Rattle.std.specs.List.{list_any}
use Rattle.af_sample.specs.Channels.{frame_count}
use Rattle.af_model.specs.State.{DeviceState, Deferred, deferred_play, deferred_record, Deferral, OpenLink, open_link}
use Rattle.af_model.specs.Reply.{horizon_of}

-- whether a link has a deferred request
abbrev pub has_deferral : List Deferral → ℕ → Bool
has_deferral waiting k = list_any (λ w. w.link == k) waiting

-- when a request is due, by the device's channels and horizon: a play once it ends within the horizon, and a record once it ends
abbrev pub due_time : ℕ → ℕ → Deferred → ℕ
due_time channels horizon (deferred_play quiet start sound preempt) = start + frame_count channels sound - horizon
due_time channels horizon (deferred_record c start frames) = start + frames

-- whether a request is deferred for device d, and due by now
abbrev pub falls_due : ℕ → DeviceState → Deferral → Bool
falls_due d device w = w.device == d && nat_le (due_time device.channels (horizon_of device) w.deferred) device.now

-- no deferred request is due yet
abbrev pub AreDueLater : List DeviceState → List Deferral → Type 0
AreDueLater devices [] = Unit {0}
AreDueLater devices (w ∷ waiting) =
    IfSome (slice_get devices w.device) (λ device. device.now < due_time device.channels (horizon_of device) w.deferred)
    × AreDueLater devices waiting

-- a request of link k is deferred, after all others
abbrev pub wait : ℕ → ℕ → Deferred → OpenLink → OpenLink
wait k d deferred p =
    open_link
    (record p.environment { waiting = p.environment.waiting ++ record { link = k; device = d; deferred = deferred } ∷ [] }) p.link
