-- The requests that the structs of the code hold.
use Rattle.std.specs.Prelude.{Bool, true, false}
use Rattle.af_request.specs.Asked.{Asked, change_ac, create_ac, hook_switch, play_run, record_run, set_controls}
use Rattle.af_perform.specs.declared.context_requests.NewContext.{NewContext}
use Rattle.af_perform.specs.declared.context_requests.NewSettings.{NewSettings}
use Rattle.af_perform.specs.declared.device_requests.NewControls.{NewControls}
use Rattle.af_perform.specs.declared.play.NewPlay.{NewPlay}
use Rattle.af_perform.specs.declared.record.NewRecord.{NewRecord}

abbrev pub new_context : NewContext → Asked
new_context n = create_ac n.device n.ac n.ty n.channels n.preempt n.play_gain n.record_gain

abbrev pub new_settings : NewSettings → Asked
new_settings n = change_ac n.mask n.ac n.preempt n.play_gain n.record_gain

abbrev pub new_controls : NewControls → Asked
new_controls n = set_controls n.device n.mask n.input_on n.output_on n.input_gain n.output_gain

abbrev pub new_play : NewPlay → Asked
new_play n = play_run n.quiet n.ac n.start.0 n.bytes.now

abbrev pub new_record : NewRecord → Asked
new_record n = record_run n.blocking n.ac n.start.0 n.bytes

-- whether a request changes only its own link: plays and records may be deferred, and controls and hooks belong to devices
abbrev pub is_done_at_once : Asked → Bool
is_done_at_once (play_run quiet ac start bytes) = false
is_done_at_once (record_run blocking ac start bytes) = false
is_done_at_once (set_controls d mask input_on output_on input_gain output_gain) = false
is_done_at_once (hook_switch d off) = false
is_done_at_once _ = true
