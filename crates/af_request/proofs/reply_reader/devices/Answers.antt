use Rattle.std.proofs.Common.{◌≡◌, ◌+◌, ◌-◌, ◌*◌, ◌∙◌, drop, ap, sym, rules}
use Rattle.std.specs.Prelude.{Some, None, slice_range}
use Rattle.af_request.specs.Replies.{device_in, devices_in}
use Rattle.af_request.proofs.DeviceListLemmas.{devices_more, devices_none, devices_onto}
use Rattle.af_request.proofs.reply_reader.devices.Goals as goal

pub returns-in_err-device : goal.returns-in_err-device
returns-in_err-device c =
    let i = c.loop-i.i in
    let none : device_in c.args.order (slice_range c.args.bytes.now (12 * i) (12 * i + 12)) ≡ None = search rules in
    let read = c.loop-i.invariant.read ∙ devices_none c.args.order c.args.count i c.args.bytes.now c.loop-i.devices.items c.loop-i-test.true none in
    search (rules, read)

pub loop-i-preserved : goal.loop-i-preserved
loop-i-preserved c =
    let i = c.loop-i.i in
    let d = c.in_ok-device.field-0 in
    let rest = devices_in c.args.order (c.args.count - (i + 1)) (drop (12 * (i + 1)) c.args.bytes.now) in
    let some : device_in c.args.order (slice_range c.args.bytes.now (12 * i) (12 * i + 12)) ≡ Some d = search rules in
    record {
      read = c.loop-i.invariant.read ∙ devices_more c.args.order c.args.count i c.args.bytes.now c.loop-i.devices.items d c.loop-i-test.true some
          ∙ ap (λ ds. devices_onto ds rest) (sym c.push.ensures.items);
      size = search rules;
    }
