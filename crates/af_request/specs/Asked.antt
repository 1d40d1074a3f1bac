-- What a client asks for: a request as a value without references, with its samples as a list of bytes.
use Rattle.std.specs.Prelude.{ℕ, ℤ, Bool, List}
use Rattle.af_request.specs.declared.request.Request.{Request}
use Rattle.af_request.specs.declared.request.Request.TheVariants as code

pub data Asked : Type 0 where
  no_op : Asked
  get_time : (device : ℕ) → Asked
  create_ac : (device ac ty channels preempt : ℕ) (play_gain record_gain : ℤ) → Asked
  change_ac : (mask ac preempt : ℕ) (play_gain record_gain : ℤ) → Asked
  free_ac : (ac : ℕ) → Asked
  play_run : (quiet : Bool) (ac time : ℕ) (samples : List ℕ) → Asked
  record_run : (blocking : Bool) (ac time nbytes : ℕ) → Asked
  select_events : (device mask : ℕ) → Asked
  set_controls : (device mask input_on output_on : ℕ) (input_gain output_gain : ℤ) → Asked
  query_controls : (device : ℕ) → Asked
  hook_switch : (device off : ℕ) → Asked
  query_phone : (device : ℕ) → Asked

-- what a request of the code means
abbrev pub request_meaning : Request → Asked
request_meaning code.NoOp = no_op
request_meaning (code.GetTime device) = get_time device
request_meaning (code.CreateAc device ac ty channels preempt play_gain record_gain) =
    create_ac device ac ty channels preempt play_gain record_gain
request_meaning (code.ChangeAc mask ac preempt play_gain record_gain) = change_ac mask ac preempt play_gain record_gain
request_meaning (code.FreeAc ac) = free_ac ac
request_meaning (code.PlayRun quiet ac time samples) = play_run quiet ac time.0 samples.now
request_meaning (code.RecordRun blocking ac time nbytes) = record_run blocking ac time.0 nbytes
request_meaning (code.SelectEvents device mask) = select_events device mask
request_meaning (code.SetControls device mask input_on output_on input_gain output_gain) =
    set_controls device mask input_on output_on input_gain output_gain
request_meaning (code.QueryControls device) = query_controls device
request_meaning (code.HookSwitch device off) = hook_switch device off
request_meaning (code.QueryPhone device) = query_phone device
