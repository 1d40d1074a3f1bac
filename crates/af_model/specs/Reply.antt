-- What the server answers: replies, and errors.
use Rattle.std.specs.Prelude.{ℕ, ◌*◌, List, map, is_some}
use Rattle.af_wire.specs.declared.order.Order.{Order}
use Rattle.af_wire.specs.Message.{error}
use Rattle.af_request.specs.declared.reply.DeviceInfo.{DeviceInfo}
use Rattle.af_request.specs.Answer.{Answer}
use Rattle.af_request.specs.Replies.{reply_bytes}
use Rattle.af_model.specs.declared.refusal.RefusalCause.{RefusalCause}
use Rattle.af_model.specs.declared.refusal.RefusalCause.TheVariants.{BadSetup, BadValue, BadDevice, BadAc, BadIdChoice, BadMatch, TooManyAcs, BadLine}
use Rattle.af_model.specs.declared.refusal.Refusal.{Refusal}
use Rattle.af_model.specs.State.{DeviceState, OpenLink, say}

-- how far ahead of its time, and how far back, a device keeps sound: four seconds
abbrev pub horizon_of : DeviceState → ℕ
horizon_of device = device.rate * 4

-- what the reply to a setup says of a device
abbrev pub info_of : DeviceState → DeviceInfo
info_of device =
    record {
      ty = device.ty;
      channels = device.channels;
      line = is_some device.line;
      rate = device.rate;
      horizon = horizon_of device;
    }

abbrev pub infos_of : List DeviceState → List DeviceInfo
infos_of devices = map info_of devices

-- the code of a cause in error messages
abbrev pub code_of_cause : RefusalCause → ℕ
code_of_cause BadSetup = 1
code_of_cause BadValue = 2
code_of_cause BadDevice = 3
code_of_cause BadAc = 4
code_of_cause BadIdChoice = 5
code_of_cause BadMatch = 6
code_of_cause TooManyAcs = 7
code_of_cause BadLine = 8

abbrev pub refusal : RefusalCause → ℕ → Refusal
refusal cause value = record { cause = cause; value = value }

-- the bytes of a reply, in a byte order, to the request with this opcode and number
unfoldable pub reply_message : Order → ℕ → Answer → ℕ → List ℕ
reply_message order opcode answer sequence = reply_bytes order opcode answer sequence

-- the request with this opcode is replied to, with its number
abbrev pub reply_with : ℕ → Answer → OpenLink → OpenLink
reply_with opcode answer p = say p (reply_message p.link.order opcode answer p.link.sequence)

-- it is refused: an error says why, and nothing else changes
abbrev pub refuse : ℕ → Refusal → OpenLink → OpenLink
refuse opcode r p = say p (error p.link.order (code_of_cause r.cause) r.value opcode p.link.sequence)
