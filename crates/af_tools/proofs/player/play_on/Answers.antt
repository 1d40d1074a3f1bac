use Rattle.std.proofs.Common.{rules, arith, ◌≡◌, ◌-◌, ◌≤◌, ℕ, [], length, inl, inr, ap, subst, sym, refl, Option, None, Result, Ok, Err}
use Rattle.af_toolkit.specs.declared.end.ToolEnd.TheVariants as end
use Rattle.af_toolkit.proofs.PartLemmas.{goes_stop, goes_through, goes_value}
use Rattle.af_toolkit.proofs.ToolPartLemmas.{cut_goes}
use Rattle.af_tools.proofs.PlayStepLemmas.{is_play, play_goes}
use Rattle.af_tools.specs.Reading.{fill_end}
use Rattle.af_tools.specs.Sounds.{most_bytes, block_bytes}
use Rattle.af_tools.specs.Play.{job_pace, play_finish}
use Rattle.af_tools.proofs.PlayTailLemmas.{early_fault, early_within, first_known, first_unfilled}
use Rattle.af_tools.proofs.SourceCountLemmas.{given_none, given_within, takes_end, takes_fault, takes_first, takes_link, takes_some, takes_value, takes_within}
use Rattle.af_io.proofs.AppendedLemmas.{appended_none}
use Rattle.af_toolkit.specs.Trace.{refused}
use Rattle.af_tools.proofs.SourceFrameLemmas.{size_fits}
use Rattle.af_tools.proofs.InStepLemmas.{not_failed, shown, unfilled}
use Rattle.af_tools.proofs.BegunLemmas.{begun, early_read, played_step, same_failed, sent_request, told_some}
use Rattle.af_sample.specs.SampleTypes.{frame_bytes}
use Rattle.af_sample.specs.Channels.{IsChannelCount}
use Rattle.af_time.specs.declared.DevTime.{DevTime}
use Rattle.af_cli.specs.declared.job.PlayJob.{PlayJob}
use Rattle.af_tools.specs.declared.pace.Pace.{Pace}
use Rattle.af_tools.specs.declared.sound.SourceSound.{SourceSound}
use Rattle.af_cli.proofs.FrameSizeLemmas.{by_size, frame_size}
use Rattle.af_tools.proofs.player.play_on.Goals as goal

pub returns-in_err-make_play_context-clause-goes : goal.returns-in_err-make_play_context-clause-goes
returns-in_err-make_play_context-clause-goes g c bytes held is tells =
    goes_stop is_play _ (search rules) (play_goes (c.in_err-make_play_context.ensures.goes held))

pub returns-in_err-make_play_context-clause-takes : goal.returns-in_err-make_play_context-clause-takes
returns-in_err-make_play_context-clause-takes g c =
    takes_link (search rules) (given_within (given_none (g.S.Source.left c.args.source.now)) (omega arith)) c.in_err-make_play_context.ensures.end

pub returns-in_err-early-clause-goes : goal.returns-in_err-early-clause-goes
returns-in_err-early-clause-goes g c bytes held is tells =
    let same : c.from_residual-in_err-early.result ≡ Err (fill_end c.in_err-early.field-0.0) = search rules in
    let fault = early_fault c.in_err-early.field-0.0 c.in_err-early.ensures.only in
    rw (same, fault.1) (goes_through is_play _ (play_goes (c.in_ok-make_play_context.ensures.goes held)) (cut_goes play_finish end.ReadFault refl))

pub returns-in_err-early-clause-takes : goal.returns-in_err-early-clause-takes
returns-in_err-early-clause-takes g c =
    let same : c.from_residual-in_err-early.result ≡ Err (fill_end c.in_err-early.field-0.0) = search rules in
    let fault = early_fault c.in_err-early.field-0.0 c.in_err-early.ensures.only in
    rw (same, fault.1) (takes_some refl (c.in_err-early.ensures.cut fault.0) (λ bad. cc bad))

pub returns-in_err-now-clause-goes : goal.returns-in_err-now-clause-goes
returns-in_err-now-clause-goes g c bytes held is tells =
    goes_through is_play _ (play_goes (c.in_ok-make_play_context.ensures.goes held)) (goes_stop is_play _ (search rules) (play_goes (c.in_err-now.ensures.goes held)))

pub returns-in_err-now-clause-takes : goal.returns-in_err-now-clause-takes
returns-in_err-now-clause-takes g c =
    let few = early_within _ (most_bytes - c.args.plan.sound.head) _ _ _ (g.S.Source.left c.args.source.now) _ c.in_ok-early.ensures.early in
    takes_link (search rules) few c.in_err-now.ensures.end

pub returns-in_err-first-clause-goes : goal.returns-in_err-first-clause-goes
returns-in_err-first-clause-goes g c bytes held is tells =
    let unfilled = c.in_err-first.ensures.fills (g.S.Source.left c.args.source.now) c.in_ok-early.ensures.early in
    goes_through is_play _ (play_goes (c.in_ok-make_play_context.ensures.goes held))
    (goes_through is_play _ (play_goes (c.in_ok-now.ensures.goes held))
    (rw (← c.block_of-block.ensures.value, ← c.pace_of-pace.ensures) (goes_stop is_play _ (search rules) (first_unfilled c.args.plan.sound _ _ c.in_err-first.field-0.0 c.block_of-block.ensures.block c.requires.sound.1 is unfilled tells))))

pub returns-in_err-first-clause-takes : goal.returns-in_err-first-clause-takes
returns-in_err-first-clause-takes g c =
    let before = g.S.Source.left c.args.source.now in
    takes_fault c.in_err-first.field-0.0 (search rules) (given_none before) (c.in_err-first.ensures.fills before c.in_ok-early.ensures.early) (omega arith)

pub returns-in_err-course-clause-goes : goal.returns-in_err-course-clause-goes
returns-in_err-course-clause-goes g c bytes held is tells =
    let e = c.in_err-course.ensures in
    let first = (c.in_ok-first.ensures.fills (g.S.Source.left c.args.source.now) c.in_ok-early.ensures.early).had in
    let k = first_known is first e.takes tells in
    goes_through is_play _ (play_goes (c.in_ok-make_play_context.ensures.goes held))
    (goes_through is_play _ (play_goes (c.in_ok-now.ensures.goes held))
    (rw (k.2, ← c.block_of-block.ensures.value, ← c.pace_of-pace.ensures) (goes_stop is_play _ (search rules) (e.goes k.0 held k.1 tells))))

pub returns-in_err-course-clause-takes : goal.returns-in_err-course-clause-takes
returns-in_err-course-clause-takes g c =
    let first = (c.in_ok-first.ensures.fills (g.S.Source.left c.args.source.now) c.in_ok-early.ensures.early).had in
    takes_end (search rules) (takes_first first c.in_err-course.ensures.takes)

pub returns-in_err-leave-clause-goes : goal.returns-in_err-leave-clause-goes
returns-in_err-leave-clause-goes g c bytes held is tells =
    let e = c.in_ok-course.ensures in
    let first = (c.in_ok-first.ensures.fills (g.S.Source.left c.args.source.now) c.in_ok-early.ensures.early).had in
    let k = first_known is first e.takes tells in
    goes_through is_play _ (play_goes (c.in_ok-make_play_context.ensures.goes held))
    (goes_through is_play _ (play_goes (c.in_ok-now.ensures.goes held))
    (rw (k.2, ← c.block_of-block.ensures.value)
    (goes_through is_play _ (rw c.pace_of-pace.ensures at (e.goes k.0 held k.1 tells)) (goes_stop is_play _ (search rules) (play_goes (rw (c.last_frame-last.ensures, c.pace_of-pace.ensures) at (c.in_err-leave.ensures.goes held)))))))

pub returns-in_err-leave-clause-takes : goal.returns-in_err-leave-clause-takes
returns-in_err-leave-clause-takes g c =
    let first = (c.in_ok-first.ensures.fills (g.S.Source.left c.args.source.now) c.in_ok-early.ensures.early).had in
    takes_link (search rules) (takes_within (takes_first first c.in_ok-course.ensures.takes)) c.in_err-leave.ensures.end

pub returns-clause-goes : goal.returns-clause-goes
returns-clause-goes g c bytes held is tells =
    let e = c.in_ok-course.ensures in
    let first = (c.in_ok-first.ensures.fills (g.S.Source.left c.args.source.now) c.in_ok-early.ensures.early).had in
    let k = first_known is first e.takes tells in
    goes_through is_play _ (play_goes (c.in_ok-make_play_context.ensures.goes held))
    (goes_through is_play _ (play_goes (c.in_ok-now.ensures.goes held))
    (rw (k.2, ← c.block_of-block.ensures.value, c.pace_of-pace.ensures)
    (goes_through is_play _ (rw c.pace_of-pace.ensures at (e.goes k.0 held k.1 tells)) (goes_through is_play _ (play_goes (rw (c.last_frame-last.ensures, c.pace_of-pace.ensures) at (c.in_ok-leave.ensures.goes held))) (goes_value is_play _)))))

pub returns-clause-takes : goal.returns-clause-takes
returns-clause-takes g c =
    let first = (c.in_ok-first.ensures.fills (g.S.Source.left c.args.source.now) c.in_ok-early.ensures.early).had in
    takes_value (takes_first first c.in_ok-course.ensures.takes)

frame_fits : (job : PlayJob) (rate : ℕ) (sound : SourceSound) (now : DevTime) {pace : Pace} → IsChannelCount sound.channels → pace ≡ job_pace job rate sound.ty sound.channels now → pace.frame ≤ 8
frame_fits job rate sound now count is =
    subst (λ (p : Pace). p.frame ≤ 8) (sym is)
    (by_size (λ (w : ℕ). w ≤ 8) (omega arith) (omega arith) (omega arith) (omega arith) (frame_bytes sound.ty sound.channels) (frame_size sound.ty sound.channels count))

pub leave-requires-clause-room : goal.leave-requires-clause-room
leave-requires-clause-room g c = frame_fits c.args.plan.job c.args.plan.device.rate c.args.plan.sound _ c.requires.count c.pace_of-pace.ensures

pub play_blocks-requires-clause-frame : goal.play_blocks-requires-clause-frame
play_blocks-requires-clause-frame g c = frame_fits c.args.plan.job c.args.plan.device.rate c.args.plan.sound _ c.requires.count c.pace_of-pace.ensures

pub play_blocks-requires-clause-first : goal.play_blocks-requires-clause-first
play_blocks-requires-clause-first g c = (c.in_ok-first.ensures.fills (g.S.Source.left c.args.source.now) c.in_ok-early.ensures.early).had.next

pub returns-in_err-make_play_context-clause-step : goal.returns-in_err-make_play_context-clause-step
returns-in_err-make_play_context-clause-step g c input told = inl (refl, sent_request _ _ _ (c.in_err-make_play_context.ensures.goes None) (input, told, refl))

pub returns-in_err-early-clause-step : goal.returns-in_err-early-clause-step
returns-in_err-early-clause-step g c input told =
    let p = c.args.plan in
    let made = c.in_ok-make_play_context.ensures.goes None in
    let m = c.in_err-early.ensures.part (early_fault c.in_err-early.field-0.0 c.in_err-early.ensures.only).0 in
    let few = subst (λ (n : ℕ). length m.text ≤ block_bytes p.sound n) c.block_of-block.ensures.value m.within in
    inr (begun p.job p.sound p.device made (input, told, refl) m.text m.consumed few (λ _. appended_none _) (λ v at. ([], appended_none _)) (inr (inl (sent_request _ _ _ made (input, told, refl)))))

pub returns-in_err-now-clause-step : goal.returns-in_err-now-clause-step
returns-in_err-now-clause-step g c input told =
    let p = c.args.plan in
    let e = c.in_err-now.ensures in
    let same : c.from_residual-in_err-now.result ≡ Err c.in_err-now.field-0.0 = search rules in
    let block = c.block_of-block.ensures in
    let large = size_fits p.sound.coding p.sound.ty p.sound.channels c.block_of-block.result _ c.requires.sound.0 block.block refl in
    let most = c.requires.room in
    let r = rw block.value at (early_read p.sound c.block_of-block.result _ c.in_ok-early.early _ _ _ (omega (arith, c.in_ok-early.ensures.room)) c.in_ok-early.ensures.early) in
    inr (begun p.job p.sound p.device (c.in_ok-make_play_context.ensures.goes None) (input, told, refl) r.ahead r.read r.few (λ bad. absurd (not_failed same e.end bad.0)) (λ v at. shown refused (Err _) (e.goes None) at)
    (elim r.first [ inl has ↦ inl has | inr none ↦ inr (inr (c.in_ok-early.ensures.late (ap (λ (o : Option ℕ). (let y : Result (Option ℕ) _ = Ok o in y)) none))) ]))

pub returns-in_err-first-clause-step : goal.returns-in_err-first-clause-step
returns-in_err-first-clause-step g c input told =
    let p = c.args.plan in
    let e = c.in_err-first.ensures in
    let late = c.in_ok-early.ensures.late (ap (λ (o : Option ℕ). (let y : Result (Option ℕ) _ = Ok o in y)) e.early) in
    let read = unfilled c.in_err-first.field-0.0 (e.fills (g.S.Source.left c.args.source.now) c.in_ok-early.ensures.early) in
    let few = subst (λ (n : ℕ). length read.0 ≤ block_bytes p.sound n) c.block_of-block.ensures.value read.2 in
    inr (begun p.job p.sound p.device (c.in_ok-make_play_context.ensures.goes None) (input, told, refl) read.0 read.1 few (λ bad. absurd (let leaves = bad.1 in omega arith)) (λ v at. shown refused (Ok _) (c.in_ok-now.ensures.goes None) at)
    (inr (inr late)))

pub returns-in_err-course-clause-step : goal.returns-in_err-course-clause-step
returns-in_err-course-clause-step g c input told =
    let p = c.args.plan in
    let first = (c.in_ok-first.ensures.fills (g.S.Source.left c.args.source.now) c.in_ok-early.ensures.early).had in
    inr (played_step p.job p.sound p.device (c.in_ok-make_play_context.ensures.goes None) (input, told, refl) g.L.Link.left g.L.Link.sent c.device_time.new.conn (c.in_ok-now.ensures.goes None) c.block_of-block.ensures.value c.pace_of-pace.ensures first
    (λ bad. same_failed (search rules) bad.0) c.in_err-course.ensures.step (λ _. appended_none _) [] (appended_none _))

pub returns-in_err-leave-clause-step : goal.returns-in_err-leave-clause-step
returns-in_err-leave-clause-step g c input told =
    let p = c.args.plan in
    let e = c.in_err-leave.ensures in
    let first = (c.in_ok-first.ensures.fills (g.S.Source.left c.args.source.now) c.in_ok-early.ensures.early).had in
    let tells = told_some _ (c.in_ok-course.ensures.holds.tells (c.in_ok-now.ensures.holds.tells (c.in_ok-make_play_context.ensures.holds.tells (rw told refl)))) in
    let more = shown refused (Err _) (e.goes None) (tells.0, tells.1, refl) in
    let same : c.from_residual-in_err-leave.result ≡ Err c.in_err-leave.field-0.0 = search rules in
    let other = not_failed same e.end in
    inr (played_step p.job p.sound p.device (c.in_ok-make_play_context.ensures.goes None) (input, told, refl) g.L.Link.left g.L.Link.sent c.device_time.new.conn (c.in_ok-now.ensures.goes None) c.block_of-block.ensures.value c.pace_of-pace.ensures first
    (λ bad. absurd (other bad.0)) c.in_ok-course.ensures.step (λ bad. absurd (other bad.0)) more.0 more.1)

pub returns-clause-step : goal.returns-clause-step
returns-clause-step g c input told =
    let p = c.args.plan in
    let e = c.in_ok-leave.ensures in
    let first = (c.in_ok-first.ensures.fills (g.S.Source.left c.args.source.now) c.in_ok-early.ensures.early).had in
    let tells = told_some _ (c.in_ok-course.ensures.holds.tells (c.in_ok-now.ensures.holds.tells (c.in_ok-make_play_context.ensures.holds.tells (rw told refl)))) in
    let more = shown refused (Ok _) (e.goes None) (tells.0, tells.1, refl) in
    inr (played_step p.job p.sound p.device (c.in_ok-make_play_context.ensures.goes None) (input, told, refl) g.L.Link.left g.L.Link.sent c.device_time.new.conn (c.in_ok-now.ensures.goes None) c.block_of-block.ensures.value c.pace_of-pace.ensures first
    (λ bad. absurd (let no = bad.0 in cc no)) c.in_ok-course.ensures.step (λ bad. absurd (let no = bad.0 in cc no)) more.0 more.1)
