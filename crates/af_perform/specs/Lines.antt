-- The line of a device that a request names.
use Rattle.std.specs.Prelude.{ℕ, List, slice_get, Ok, Err, Result}
use Rattle.std.specs.declared.option.Option.{Option}
use Rattle.std.specs.declared.option.Option.TheVariants.{None, Some}
use Rattle.af_request.specs.declared.reply.Phone.{Phone}
use Rattle.af_model.specs.declared.refusal.RefusalCause.TheVariants.{BadDevice, BadLine}
use Rattle.af_model.specs.declared.refusal.Refusal.{Refusal}
use Rattle.af_model.specs.Reply.{refusal}
use Rattle.af_state.specs.Kept.{KeptDevice}

-- the line of a device, or why there is none
abbrev pub line_or : ℕ → Option Phone → Result Phone Refusal
line_or d None = Err (refusal BadLine d)
line_or d (Some line) = Ok line

abbrev pub device_line_or : ℕ → Option KeptDevice → Result Phone Refusal
device_line_or d None = Err (refusal BadDevice d)
device_line_or d (Some device) = line_or d device.line

abbrev pub line_at : List KeptDevice → ℕ → Result Phone Refusal
line_at ds d = device_line_or d (slice_get ds d)
