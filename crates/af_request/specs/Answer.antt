-- The answers of the server: a reply as a value without references, with its samples as a list of bytes.
use Rattle.std.specs.Prelude.{ℕ, List}
use Rattle.arrayvec.specs.ArrayVec.{ArrayVec}
use Rattle.af_request.specs.declared.reply.DeviceInfo.{DeviceInfo}
use Rattle.af_request.specs.declared.reply.Controls.{Controls}
use Rattle.af_request.specs.declared.reply.Phone.{Phone}
use Rattle.af_request.specs.declared.reply.Reply.{Reply}
use Rattle.af_request.specs.declared.reply.Reply.TheVariants as code

pub data Answer : Type 0 where
  setup : (devices : List DeviceInfo) → Answer
  plain : Answer
  time : (now : ℕ) → Answer
  played : (now : ℕ) → Answer
  recorded : (now : ℕ) (samples : List ℕ) → Answer
  controls : Controls → Answer
  phone : Phone → Answer

-- the devices of a reply to a setup
abbrev pub items_of : ArrayVec DeviceInfo → List DeviceInfo
items_of devices = devices.items

-- the answer that a reply of the code means
abbrev pub reply_meaning : Reply → Answer
reply_meaning (code.Setup devices) = setup devices.items
reply_meaning code.Plain = plain
reply_meaning (code.Time now) = time now.0
reply_meaning (code.Played now) = played now.0
reply_meaning (code.Recorded now samples) = recorded now.0 samples.now
reply_meaning (code.Controls c) = controls c
reply_meaning (code.Phone p) = phone p
