use Rattle.std.proofs.Common.{inl, inr, arith, [], List, ℕ, Option, ◌≡◌, ◌∙◌, ap, refl, sym, subst}
use Rattle.af_io.specs.Observed.{Consumed}
use Rattle.af_io.proofs.ConsumedLemmas.{consumed_none, consumed_told}
use Rattle.af_toolkit.specs.declared.end.ToolEnd.TheVariants as end
use Rattle.af_sample.specs.Channels.{IsChannelCount}
use Rattle.af_lib.specs.Calls.{channels_or_one}
use Rattle.af_toolkit.specs.Ends.{client_of}
use Rattle.af_tools.specs.Play.{play_finish}
use Rattle.af_tools.specs.Reading.{is_of_sound, is_of_blocks, is_of_played}
use Rattle.af_tools.proofs.HavingRun.{aplay_missing_ran, aplay_there_ran}
use Rattle.af_tools.proofs.DeviceChoiceLemmas.{is_missing, is_there, missing_iff, reported, there_iff}
use Rattle.af_tools.proofs.EndLemmas.{err_of, never}
use Rattle.af_toolkit.proofs.ToolPartLemmas.{trace_goes_on, trace_stops}
use Rattle.af_tools.proofs.SoundFitLemmas.{followed_unsound}
use Rattle.af_tools.proofs.UnreadLemmas.{read_late}
use Rattle.af_tools.proofs.SourceCountLemmas.{played_use, refused_use, unsound_use}
use Rattle.af_io.proofs.AppendedLemmas.{appended_none}
use Rattle.af_tools.proofs.BegunLemmas.{played_source}
use Rattle.af_tools.proofs.player.aplay.Goals as goal

pub returns-in-Err-clause-ran : goal.returns-in-Err-clause-ran
returns-in-Err-clause-ran g c input bytes told is tells = aplay_missing_ran c.args.job.now c.requires.block.0 (is_missing _ _ _ c.in-Err.ensures.value)

pub returns-in-Err-clause-no_device : goal.returns-in-Err-clause-no_device
returns-in-Err-clause-no_device g c n = missing_iff _ _ _ (is_missing _ _ _ c.in-Err.ensures.value) n

pub returns-in-Err-sound_of-clause-ran : goal.returns-in-Err-sound_of-clause-ran
returns-in-Err-sound_of-clause-ran g c input bytes told is tells =
    let job = c.args.job.now in
    aplay_there_ran job c.requires.block.0 (is_there _ _ c.in-Ok.device c.in-Ok.ensures.value) c.in-Ok.ensures.stated
    (followed_unsound job c.in-Ok.device bytes (reported job c.in-Ok.device (client_of c.args.conn.now input)) _ _ _ (g.S.Source.left c.sound_of.new.source) (c.in-Err-sound_of.ensures.brings bytes is tells))

pub returns-in-Err-sound_of-clause-no_device : goal.returns-in-Err-sound_of-clause-no_device
returns-in-Err-sound_of-clause-no_device g c n =
    there_iff _ _ _ _ (is_there _ _ c.in-Ok.device c.in-Ok.ensures.value) (λ k. never is_of_sound _ (end.NoDevice k) c.in-Err-sound_of.ensures.end refl) n

pub returns-in-Ok-play_on-clause-ran : goal.returns-in-Ok-play_on-clause-ran
returns-in-Ok-play_on-clause-ran g c input bytes told is tells =
    let job = c.args.job.now in
    let device = c.in-Ok.device in
    let w = client_of c.args.conn.now input in
    let takes = c.in-Ok-play_on.ensures.takes in
    let before = consumed_told (g.S.Source.left c.sound_of.new.source) (g.S.Source.left c.play_on.new.source) takes.bytes takes.consumed tells in
    let came = c.in-Ok-sound_of.ensures.brings bytes is before in
    aplay_there_ran job c.requires.block.0 (is_there _ _ device c.in-Ok.ensures.value) c.in-Ok.ensures.stated
    (rw came.2 (trace_goes_on play_finish _ (input, told, refl) (c.in-Ok-play_on.ensures.goes came.0 (g.K.Sink.held c.args.sink.now) came.1 tells) (c.report.ensures.followed _)))

pub returns-in-Ok-play_on-clause-no_device : goal.returns-in-Ok-play_on-clause-no_device
returns-in-Ok-play_on-clause-no_device g c n =
    there_iff _ _ _ _ (is_there _ _ c.in-Ok.device c.in-Ok.ensures.value) (λ k. never (is_of_played c.args.job.now.strict) _ (end.NoDevice k) c.report.ensures.end refl) n

pub returns-in-Err-play_on-clause-ran : goal.returns-in-Err-play_on-clause-ran
returns-in-Err-play_on-clause-ran g c input bytes told is tells =
    let job = c.args.job.now in
    let device = c.in-Ok.device in
    let w = client_of c.args.conn.now input in
    let e = c.in-Err-play_on.ensures in
    let before = consumed_told (g.S.Source.left c.sound_of.new.source) (g.S.Source.left c.play_on.new.source) e.takes.bytes e.takes.consumed tells in
    let came = c.in-Ok-sound_of.ensures.brings bytes is before in
    aplay_there_ran job c.requires.block.0 (is_there _ _ device c.in-Ok.ensures.value) c.in-Ok.ensures.stated
    (rw came.2 (trace_stops play_finish _ (input, told, refl) (e.goes came.0 (g.K.Sink.held c.args.sink.now) came.1 tells)))

pub returns-in-Err-play_on-clause-no_device : goal.returns-in-Err-play_on-clause-no_device
returns-in-Err-play_on-clause-no_device g c n =
    there_iff _ _ _ _ (is_there _ _ c.in-Ok.device c.in-Ok.ensures.value) (λ k. never is_of_blocks _ (end.NoDevice k) c.in-Err-play_on.ensures.end refl) n

pub returns-in-Err-sound_of-clause-source : goal.returns-in-Err-sound_of-clause-source
returns-in-Err-sound_of-clause-source g c =
    let e = c.in-Err-sound_of.ensures in
    unsound_use g.S.Source.left g.S.Source.faults c.in-Err-sound_of.end e.takes e.fault e.end

pub returns-in-Ok-play_on-clause-source : goal.returns-in-Ok-play_on-clause-source
returns-in-Ok-play_on-clause-source g c =
    let s = c.in-Ok-sound_of.ensures in
    let e = c.in-Ok-play_on.ensures in
    played_use g.S.Source.left g.S.Source.faults c.report.result s.read s.fault.0 c.args.job.now.strict e.takes e.fault.0 c.report.ensures.end

pub returns-in-Err-play_on-clause-source : goal.returns-in-Err-play_on-clause-source
returns-in-Err-play_on-clause-source g c =
    let s = c.in-Ok-sound_of.ensures in
    let e = c.in-Err-play_on.ensures in
    refused_use g.S.Source.left g.S.Source.faults c.in-Err-play_on.end s.read s.fault.0 e.takes e.fault e.end

pub play_on-requires-clause-channels : goal.play_on-requires-clause-channels
play_on-requires-clause-channels g c =
    let same : c.in-Ok-sound_of.sound.channels ≡ c.in-Ok.device.channels = c.in-Ok-sound_of.ensures.channels in
    ap channels_or_one (is_there c.args.conn.now.devices c.args.job.now.device c.in-Ok.device c.in-Ok.ensures.value).get ∙ sym same

pub play_on-requires-clause-count : goal.play_on-requires-clause-count
play_on-requires-clause-count g c =
    let same : c.in-Ok-sound_of.sound.channels ≡ c.in-Ok.device.channels = c.in-Ok-sound_of.ensures.channels in
    subst IsChannelCount (sym same) c.in-Ok.ensures.stated.channels

pub returns-in-Err-sound_of-clause-unread : goal.returns-in-Err-sound_of-clause-unread
returns-in-Err-sound_of-clause-unread g c raw = inl (c.in-Err-sound_of.ensures.raw raw).0

pub returns-in-Ok-play_on-clause-unread : goal.returns-in-Ok-play_on-clause-unread
returns-in-Ok-play_on-clause-unread g c raw =
    let s = c.in-Ok-sound_of.ensures in
    let t = is_there c.args.conn.now.devices c.args.job.now.device c.in-Ok.device c.in-Ok.ensures.value in
    read_late g.L.Link.left c.args.job.now c.in-Ok.device c.args.conn.now t.get c.in-Ok-sound_of.sound.ty c.in-Ok-sound_of.sound.channels (s.raw raw).1 s.channels (s.raw raw).0 c.in-Ok-play_on.ensures.unread

pub returns-in-Err-play_on-clause-unread : goal.returns-in-Err-play_on-clause-unread
returns-in-Err-play_on-clause-unread g c raw =
    let s = c.in-Ok-sound_of.ensures in
    let t = is_there c.args.conn.now.devices c.args.job.now.device c.in-Ok.device c.in-Ok.ensures.value in
    read_late g.L.Link.left c.args.job.now c.in-Ok.device c.args.conn.now t.get c.in-Ok-sound_of.sound.ty c.in-Ok-sound_of.sound.channels (s.raw raw).1 s.channels (s.raw raw).0 c.in-Err-play_on.ensures.unread

pub returns-in-Err-clause-step : goal.returns-in-Err-clause-step
returns-in-Err-clause-step g c input bytes told is tells =
    inl (record { read = []; gave = subst (λ (o : Option (List ℕ)). Consumed o [] (g.S.Source.left c.args.source.now)) is (consumed_none _); within = omega arith }, appended_none _)

pub returns-in-Err-sound_of-clause-step : goal.returns-in-Err-sound_of-clause-step
returns-in-Err-sound_of-clause-step g c input bytes told is tells = inl (c.in-Err-sound_of.ensures.front bytes is tells, appended_none _)

pub returns-in-Ok-play_on-clause-step : goal.returns-in-Ok-play_on-clause-step
returns-in-Ok-play_on-clause-step g c input bytes told is tells =
    let e = c.in-Ok-play_on.ensures in
    let before = consumed_told (g.S.Source.left c.sound_of.new.source) (g.S.Source.left c.play_on.new.source) e.takes.bytes e.takes.consumed tells in
    let t = is_there c.args.conn.now.devices c.args.job.now.device c.in-Ok.device c.in-Ok.ensures.value in
    inr (played_source t.get (c.in-Ok-sound_of.ensures.brings bytes is before) (λ bad. absurd (never (is_of_played c.args.job.now.strict) _ end.ReadFault c.report.ensures.end refl bad)) (e.step input told))

pub returns-in-Err-play_on-clause-step : goal.returns-in-Err-play_on-clause-step
returns-in-Err-play_on-clause-step g c input bytes told is tells =
    let e = c.in-Err-play_on.ensures in
    let before = consumed_told (g.S.Source.left c.sound_of.new.source) (g.S.Source.left c.play_on.new.source) e.takes.bytes e.takes.consumed tells in
    let t = is_there c.args.conn.now.devices c.args.job.now.device c.in-Ok.device c.in-Ok.ensures.value in
    inr (played_source t.get (c.in-Ok-sound_of.ensures.brings bytes is before) (err_of c.in-Err-play_on.end end.ReadFault) (e.step input told))
