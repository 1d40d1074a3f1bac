use Rattle.std.proofs.Common.{◌≡◌, ◌/◌, ◌<◌, ◌^◌, ◌∙◌, ap, sym, length, map, rules, subst}
use Rattle.af_sample.specs.Gains.{gained}
use Rattle.af_sample.specs.Samples.{bytes_of}
use Rattle.af_sample.specs.Channels.{frame_count}
use Rattle.af_buffers.specs.RecordBuffer.{samples_from}
use Rattle.af_state.specs.Kept.{KeptDevice, StandsForDevice}
use Rattle.af_state.proofs.PlayLemmas.{records}
use Rattle.af_state.proofs.device.Device.record.Goals as goal

pub returns : goal.returns
returns c = λ s h.
    let word : c.args.start.0 < 2 ^ 32 = search rules in
    let stands = subst (λ (v : KeptDevice). StandsForDevice v s) (sym c.self.view_is) h in
    let same : length c.read.new.out ≡ length c.args.samples.now = search rules in
    let frames : frame_count c.self.inside.last.channels c.read.new.out ≡ frame_count s.channels c.args.samples.now =
    ap (λ n. n / c.self.inside.last.channels) same ∙ ap (λ m. length c.args.samples.now / m) stands.keeps.channels in
    c.convert_out.ensures
    ∙ ap (bytes_of c.args.context.now.ty) (c.gain_run.ensures ∙ ap (map (λ x. gained x c.args.context.now.record_gain)) (c.read.ensures ∙ ap (samples_from c.self.inside.last c.args.start.0) frames))
    ∙ records _ c.args.context.now c.args.start.0 (frame_count s.channels c.args.samples.now) s word stands
