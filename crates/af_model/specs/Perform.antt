-- Performing a request.
use Rattle.std.specs.Prelude.{ℕ, ◌+◌, ◌%◌, ◌^◌, List, option_map, slice_get}
use Rattle.std.specs.declared.option.Option.{Option}
use Rattle.std.specs.declared.option.Option.TheVariants.{None, Some}
use Rattle.af_context.specs.declared.Context.{Context}
use Rattle.af_context.specs.Contexts.{context_of}
use Rattle.af_request.specs.Asked.{Asked, no_op, get_time, create_ac, change_ac, free_ac, play_run, record_run, select_events, set_controls, query_controls, hook_switch, query_phone}
use Rattle.af_request.specs.Answer.{time}
use Rattle.af_request.specs.Opcodes as opcodes
use Rattle.af_model.specs.declared.refusal.RefusalCause.TheVariants.{BadAc}
use Rattle.af_model.specs.State.{DeviceState, LinkState, OpenLink, open_link}
use Rattle.af_model.specs.Reply.{refusal, refuse, reply_with}
use Rattle.af_model.specs.Checks.{refuse_or, in_device}
use Rattle.af_model.specs.ContextRequests.{creation_refusal, requested_context, create, change_refusal, change, free}
use Rattle.af_model.specs.DeviceRequests.{on_line, select, set_device_controls, switch_hook, tell_controls, tell_phone}
use Rattle.af_model.specs.Play.{play}
use Rattle.af_model.specs.Record.{record_sound}

-- one more request of a link, modulo 2^16
abbrev pub count_request : LinkState → LinkState
count_request l = record l { sequence = (l.sequence + 1) % 2 ^ 16 }

-- the time of a device is replied, modulo 2^32
abbrev pub tell_time : DeviceState → OpenLink → OpenLink
tell_time device p = reply_with opcodes.get_time (time (device.now % 2 ^ 32)) p

-- a request that names a context is done with it and its device, or refused if its number is not in use
abbrev pub in_context : ℕ → ℕ → (Context → DeviceState → OpenLink → OpenLink) → Option Context → OpenLink → OpenLink
in_context opcode ac f None p = refuse opcode (refusal BadAc ac) p
in_context opcode ac f (Some c) p = in_device opcode c.device (f c) (slice_get p.environment.devices c.device) p

-- the channels of a device, if it exists
abbrev pub channels_at : List DeviceState → ℕ → Option ℕ
channels_at devices d = option_map (λ device. device.channels) (slice_get devices d)

-- what a request of link k does
abbrev pub request_effect : ℕ → Asked → OpenLink → OpenLink
request_effect k no_op p = p
request_effect k (get_time d) p = in_device opcodes.get_time d tell_time (slice_get p.environment.devices d) p
request_effect k (create_ac d ac ty channels preempt play_gain record_gain) p =
    refuse_or opcodes.create_ac
    (creation_refusal (channels_at p.environment.devices d) d ty channels preempt play_gain record_gain)
    (create (requested_context d ac ty preempt play_gain record_gain)) p
request_effect k (change_ac mask ac preempt play_gain record_gain) p =
    refuse_or opcodes.change_ac (change_refusal p.link.contexts mask ac preempt play_gain record_gain)
    (change mask ac preempt play_gain record_gain) p
request_effect k (free_ac ac) p = free ac p
request_effect k (play_run quiet ac start bytes) p =
    in_context opcodes.play ac (λ c. play k quiet c start bytes) (context_of p.link.contexts ac) p
request_effect k (record_run blocking ac start bytes) p =
    in_context opcodes.record ac (λ c. record_sound k blocking c start bytes) (context_of p.link.contexts ac) p
request_effect k (select_events d mask) p =
    in_device opcodes.select_events d (λ device. on_line opcodes.select_events d (λ line. select d mask) device.line)
    (slice_get p.environment.devices d) p
request_effect k (set_controls d mask input_on output_on input_gain output_gain) p =
    in_device opcodes.set_controls d (set_device_controls k d mask input_on output_on input_gain output_gain)
    (slice_get p.environment.devices d) p
request_effect k (query_controls d) p = in_device opcodes.query_controls d tell_controls (slice_get p.environment.devices d) p
request_effect k (hook_switch d off) p =
    in_device opcodes.hook_switch d (λ device. on_line opcodes.hook_switch d (switch_hook k d off) device.line)
    (slice_get p.environment.devices d) p
request_effect k (query_phone d) p =
    in_device opcodes.query_phone d (λ device. on_line opcodes.query_phone d tell_phone device.line)
    (slice_get p.environment.devices d) p

-- link k makes a request
abbrev pub perform : ℕ → Asked → OpenLink → OpenLink
perform k request p = request_effect k request (open_link p.environment (count_request p.link))
