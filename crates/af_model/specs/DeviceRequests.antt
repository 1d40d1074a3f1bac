-- SelectEvents, SetControls, QueryControls, HookSwitch and QueryPhone: the controls of a device, and its telephone line.
use Rattle.std.specs.Prelude.{ℕ, ◌==◌, nat_lt, Bool, ℤ, [], ◌∷◌, ◌++◌, slice_set, unwrap_or, option_map, if◌then◌else◌}
use Rattle.std.specs.declared.option.Option.{Option}
use Rattle.std.specs.declared.option.Option.TheVariants.{None, Some}
use Rattle.af_request.specs.declared.reply.Controls.{Controls}
use Rattle.af_request.specs.declared.reply.Phone.{Phone}
use Rattle.af_request.specs.Answer.{plain, controls, phone}
use Rattle.af_request.specs.Opcodes as opcodes
use Rattle.af_phone.specs.Lines.{with_wanted_hook}
use Rattle.af_model.specs.declared.refusal.RefusalCause.TheVariants.{BadLine, BadValue}
use Rattle.af_model.specs.declared.refusal.Refusal.{Refusal}
use Rattle.af_model.specs.State.{DeviceState, OpenLink, open_link}
use Rattle.af_model.specs.Reply.{refusal, refuse, reply_with}
use Rattle.af_model.specs.Checks.{check, check_gain, first_refusal, names, refuse_or, where_named}
use Rattle.af_model.specs.ContextRequests.{named_gain}
use Rattle.af_model.specs.Play.{in_devices}

-- a request that names the line of a device is done with it, or refused if the device has none
abbrev pub on_line : ℕ → ℕ → (Phone → OpenLink → OpenLink) → Option Phone → OpenLink → OpenLink
on_line opcode d f None p = refuse opcode (refusal BadLine d) p
on_line opcode d f (Some line) p = f line p

-- SelectEvents: the mask of events of a device is replaced
abbrev pub select : ℕ → ℕ → OpenLink → OpenLink
select d mask p = reply_with opcodes.select_events plain
    (open_link p.environment (record p.link { selections = slice_set p.link.selections d mask }))

-- SetControls: checks the fields that the mask names: 1 input gain, 2 output gain, 4 input on, 8 output on
unfoldable pub controls_refusal : ℕ → ℕ → ℕ → ℤ → ℤ → Option Refusal
controls_refusal mask input_on output_on input_gain output_gain = first_refusal
    (where_named mask 1 (check_gain input_gain)
    ∷ where_named mask 2 (check_gain output_gain)
    ∷ where_named mask 4 (check (nat_lt 1 input_on) BadValue input_on)
    ∷ where_named mask 8 (check (nat_lt 1 output_on) BadValue output_on) ∷ [])

-- the fields that the mask names are changed, and no others
abbrev pub with_named : ℕ → ℕ → ℕ → ℤ → ℤ → Controls → Controls
with_named mask input_on output_on input_gain output_gain c = record {
  input_on = if names mask 4 then input_on == 1 else c.input_on;
  output_on = if names mask 8 then output_on == 1 else c.output_on;
  input_gain = unwrap_or (named_gain mask 1 input_gain) c.input_gain;
  output_gain = unwrap_or (named_gain mask 2 output_gain) c.output_gain;
}

-- link k sets them
abbrev pub with_device_controls : ℕ → ℕ → ℕ → ℕ → ℤ → ℤ → DeviceState → DeviceState
with_device_controls k mask input_on output_on input_gain output_gain device =
    record device {
      controls = with_named mask input_on output_on input_gain output_gain device.controls;
      actors = device.actors
          ++ k ∷ [];
    }

abbrev pub set_device_controls : ℕ → ℕ → ℕ → ℕ → ℕ → ℤ → ℤ → DeviceState → OpenLink → OpenLink
set_device_controls k d mask input_on output_on input_gain output_gain device p =
    refuse_or opcodes.set_controls (controls_refusal mask input_on output_on input_gain output_gain)
    (λ q. reply_with opcodes.set_controls plain
    (in_devices d (with_device_controls k mask input_on output_on input_gain output_gain) q)) p

-- QueryControls
abbrev pub tell_controls : DeviceState → OpenLink → OpenLink
tell_controls device p = reply_with opcodes.query_controls (controls device.controls) p

-- HookSwitch: a dead line is refused like a missing one; link k wants the hook off or on
abbrev pub switch_refusal : ℕ → ℕ → Phone → Option Refusal
switch_refusal d off line = first_refusal (check line.dead BadLine d ∷ check (nat_lt 1 off) BadValue off ∷ [])

abbrev pub with_device_hook : ℕ → Bool → DeviceState → DeviceState
with_device_hook k off device =
    record device { line = option_map (with_wanted_hook off) device.line; actors = device.actors ++ k ∷ [] }

abbrev pub switch_hook : ℕ → ℕ → ℕ → Phone → OpenLink → OpenLink
switch_hook k d off line p =
    refuse_or opcodes.hook_switch (switch_refusal d off line)
    (λ q. reply_with opcodes.hook_switch plain (in_devices d (with_device_hook k (off == 1)) q)) p

-- QueryPhone
abbrev pub tell_phone : Phone → OpenLink → OpenLink
tell_phone line p = reply_with opcodes.query_phone (phone line) p
