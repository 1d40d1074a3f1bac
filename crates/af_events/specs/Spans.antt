-- How long a job for a time goes on: by the time of which device, and which frames of it are waited for meanwhile.
use Rattle.std.specs.Prelude.{ℕ, ◌+◌, ◌-◌, ◌*◌, ◌/◌, ◌%◌, ◌^◌, ◌==◌, nat_le, if◌then◌else◌, Bool, true, List, [], ◌∷◌, slice_get, Option, None, Some}
use Rattle.af_request.specs.declared.reply.DeviceInfo.{DeviceInfo}
use Rattle.af_lib.specs.Calls.{device_channels}
use Rattle.af_cli.specs.declared.events.DeviceChoice.{DeviceChoice}
use Rattle.af_cli.specs.declared.events.DeviceChoice.TheVariants as choice
use Rattle.af_events.specs.declared.span.Span.{Span}

-- the number of the first device that has a line, from this number on
abbrev pub first_line : (number : ℕ) → List DeviceInfo → ℕ
first_line number [] = 0
first_line number (device ∷ more) = if device.line then number else first_line (number + 1) more

-- the device whose time counts: the one that is named, or the first that has a line
abbrev pub clock_device : DeviceChoice → List DeviceInfo → ℕ
clock_device (choice.One number) devices = number
clock_device choice.All devices = first_line 0 devices

-- the frames of a second of a device; where it is missing, the tool has ended before
abbrev pub rate_or_none : Option DeviceInfo → ℕ
rate_or_none (Some device) = device.rate
rate_or_none None = 0

-- so many milliseconds of that device's time
abbrev pub span_of : (milliseconds : ℕ) → DeviceChoice → List DeviceInfo → Span
span_of milliseconds devices all = record {
  device = clock_device devices all;
  channels = device_channels all (clock_device devices all);
  rate = rate_or_none (slice_get all (clock_device devices all));
  milliseconds = milliseconds;
}

-- how many frames are waited for at most: one for each 20 milliseconds
abbrev pub frames_of : Span → ℕ
frames_of span = (span.milliseconds + 19) / 20

-- the time of the frame with this number, counted from 1 on: 20 milliseconds after the one before
abbrev pub frame_time : Span → (start number : ℕ) → ℕ
frame_time span start number = (start + span.rate * number / 50) % 2 ^ 32

-- so many milliseconds have gone by from the start to a time
abbrev pub is_over : Span → (start told : ℕ) → Bool
is_over span start told = nat_le (span.milliseconds * span.rate) ((told + (2 ^ 32 - start)) % 2 ^ 32 * 1000)

-- A job for a time is done once it has told its events, or what came until the first reply at which the time is over.
abbrev pub is_at_end : Span → (start told left : ℕ) → Bool
is_at_end span start told left = if left == 0 then true else is_over span start told
