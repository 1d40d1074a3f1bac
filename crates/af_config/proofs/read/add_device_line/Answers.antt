use Rattle.std.proofs.Common.{◌<◌, length, IfSome, sym, ap, subst, arith}
use Rattle.af_limits.specs.Limits.{most_devices}
use Rattle.af_sample.specs.Channels.{IsChannelCount}
use Rattle.af_sample.specs.Rates.{IsListedRate}
use Rattle.af_config.specs.Kept.{told_device}
use Rattle.af_config.specs.Reading.{IsSound}
use Rattle.af_config.proofs.SoundLemmas.{device_sound}
use Rattle.std.proofs.lemmas.Str.{IsUtf8-from_is_utf8}
use Rattle.af_config.proofs.read.add_device_line.Goals as goal

pub device_stated-requires : goal.device_stated-requires
device_stated-requires c = IsUtf8-from_is_utf8 c.args.line.now c.requires

pub returns-in_ok-add_device-in-Some-clause-kept : goal.returns-in_ok-add_device-in-Some-clause-kept
returns-in_ok-add_device-in-Some-clause-kept c = λ sound none.
    let room : length c.args.setting.now.config < most_devices = omega (arith, c.if-len-ge-MOST_DEVICES.false, c.len.ensures.value, ap length c.config.ensures.config) in
    let listed = subst (λ found. IfSome found (λ d. IsListedRate d.spec.rate)) c.in-Some.is c.in_ok-device.ensures.listed in
    let channels = subst (λ found. IfSome found (λ d. IsChannelCount d.spec.channels)) c.in-Some.is c.in_ok-device.ensures.channels in
    subst IsSound (sym c.in_ok-add_device-in-Some.ensures) (device_sound c.args.setting.now (told_device c.in-Some.device) sound none room listed channels)
