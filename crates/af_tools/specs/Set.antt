-- What aset does: it sets what its arguments state, and then writes the controls of the device, and its line.
use Rattle.std.specs.Prelude.{◌||◌, Bool, List, is_some, if◌then◌else◌, option_map, Option, None, Some}
use Rattle.std.specs.Option.{option_map_or}
use Rattle.af_request.specs.declared.reply.DeviceInfo.{DeviceInfo}
use Rattle.af_request.specs.Asked.{Asked, hook_switch}
use Rattle.af_request.specs.Fields.{flag_byte}
use Rattle.af_lib.specs.Calls.{as_done, controls_request}
use Rattle.af_cli.specs.declared.job.SetJob.{SetJob}
use Rattle.af_toolkit.specs.Parts.{goes_on, has_value}
use Rattle.af_toolkit.specs.Trace.{Trace, ClientState, done, ends, refused, with_job_device, writes_first}
use Rattle.af_toolkit.specs.ToolParts.{ToolPart, asks, doing, trace_of}
use Rattle.af_standing.specs.declared.controls_report.ControlsReport.{ControlsReport}
use Rattle.af_standing.specs.ControlsReport.{asks_controls_report, controls_report_text}

-- some control is stated
abbrev pub states_controls : SetJob → Bool
states_controls job = is_some job.input_gain || is_some job.output_gain || is_some job.input_on || is_some job.output_on

-- the request that sets the stated controls, if there are some, and leaves the others
abbrev pub control_request : SetJob → Option Asked
control_request job =
    if states_controls job then Some (controls_request job.device job.input_gain job.output_gain job.input_on job.output_on)
    else None

-- the request that takes the hook off or puts it on, if that is stated
abbrev pub hook_request : SetJob → Option Asked
hook_request job = option_map (λ off. hook_switch job.device (flag_byte off)) job.hook_off

-- a request that is sent only if it is needed
abbrev pub asks_if : Option Asked → ToolPart (Unit {0})
asks_if asked = option_map_or (λ a. asks a as_done) asked (has_value doing tt)

-- the controls and the hook are set, and then the device is asked for its state
abbrev pub sets_on : SetJob → DeviceInfo → ToolPart ControlsReport
sets_on job device =
    goes_on doing (asks_if (control_request job)) (λ _.
    goes_on doing (asks_if (hook_request job)) (λ _.
    asks_controls_report device.line job.device))

-- the trace of aset, by the devices of the server and what the link gives
unfoldable pub aset_trace : SetJob → List DeviceInfo → ClientState → Trace
aset_trace job devices w = with_job_device job.device devices (λ device.
    trace_of refused (sets_on job device w) (λ controls_report. writes_first (controls_report_text controls_report) (ends done)))
