-- The device that a job names.
use Rattle.std.specs.Prelude.{ℕ, Result, Ok, Err}
use Rattle.std.specs.declared.option.Option.{Option}
use Rattle.std.specs.declared.option.Option.TheVariants.{None, Some}
use Rattle.af_request.specs.declared.reply.DeviceInfo.{DeviceInfo}
use Rattle.af_toolkit.specs.declared.end.ToolEnd.{ToolEnd}
use Rattle.af_toolkit.specs.declared.end.ToolEnd.TheVariants as end

-- the device, if it exists, or the end that says it is missing
abbrev pub device_or_end : Option DeviceInfo → ℕ → Result DeviceInfo ToolEnd
device_or_end (Some device) devices = Ok device
device_or_end None devices = Err (end.NoDevice devices)
