use Rattle.std.proofs.Common.{◌≡◌, ◌+◌, ◌*◌, ◌++◌, length, take}
use Rattle.std.specs.List.{flat_map}
use Rattle.af_wire.specs.Order.{u16_bytes, u32_bytes}
use Rattle.af_request.specs.Replies.{device_bytes}
use Rattle.af_request.proofs.reply_writer.put_devices.Given as goal

abbrev pub invariant-loop-device : goal.invariant-loop-device
invariant-loop-device l = record {
  place : l.at ≡ l.fn.at + 8 + 12 * l.device-index;
  bytes : take l.at l.out ≡ take l.fn.at l.fn.out ++ (u16_bytes l.order 1 ++ u16_bytes l.order 0 ++ u32_bytes l.order (length l.devices) ++ flat_map (device_bytes l.order) (take l.device-index l.devices));
}
