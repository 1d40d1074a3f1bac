use Rattle.std.proofs.Common.{◌≡◌, ◌-◌, ◌*◌, drop}
use Rattle.arrayvec.specs.ArrayVec.{array_vec_len}
use Rattle.af_request.specs.Replies.{devices_in}
use Rattle.af_request.proofs.DeviceListLemmas.{devices_onto}
use Rattle.af_request.proofs.reply_reader.devices.Given as goal

abbrev pub invariant-loop-i : goal.invariant-loop-i
invariant-loop-i l = record {
  read : devices_in l.order l.count l.bytes ≡ devices_onto l.devices.items (devices_in l.order (l.count - l.i) (drop (12 * l.i) l.bytes));
  size : array_vec_len l.devices ≡ l.i;
}
