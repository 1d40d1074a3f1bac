use Rattle.std.proofs.Common.{rules, arith, ◌≡◌, ◌≤◌, ◌<◌, ◌+◌, ◌*◌, ◌++◌, ℕ, List, length, length-take-le, take, sym, ap, ◌∙◌, refl, subst, ◌⊎◌, [], Some, None, Ok, Err}
use Rattle.std.proofs.Math.Nat.{div-le_self}
use Rattle.std.proofs.lemmas.List.{take-take}
use Rattle.af_io.specs.Observed.{Consumed}
use Rattle.af_tools.specs.Reading.{fill_end, left_before}
use Rattle.af_tools.specs.Sounds.{block_bytes}
use Rattle.af_io.proofs.ConsumedLemmas.{consumed_told}
use Rattle.af_toolkit.proofs.ToolPartLemmas.{keeps_all, keeps_on}
use Rattle.af_tools.proofs.PlayStepLemmas.{play_begin, play_filled, play_last, play_next, play_over, play_refused, play_unfilled, told_unfilled}
use Rattle.af_tools.proofs.SourceFrameLemmas.{block_fits, block_short, size_fits}
use Rattle.af_tools.proofs.SourceCountLemmas.{fits_begin, fits_on, given_on, given_within, read_before, rest_begin, rest_on, takes_ended, takes_fault, takes_link}
use Rattle.af_io.proofs.AppendedLemmas.{appended_none}
use Rattle.af_io.specs.Flow.{IsSpent}
use Rattle.af_toolkit.specs.Trace.{refused}
use Rattle.af_tools.proofs.InStepLemmas.{not_failed, shown, step_ends, step_first, step_later, stepped_begin, stepped_on, unfilled}
use Rattle.af_tools.proofs.play.play_blocks.Goals as goal

pub loop-block-init : goal.loop-block-init
loop-block-init g c =
    let sound = c.args.playback.sound in
    let low = c.requires.sound.1 in
    let width = c.width-width.result in
    let size = c.args.playback.block * width in
    let first = c.args.first in
    let read = take first c.args.room.now in
    let gives = g.S.Source.left c.args.source.now in
    let next = c.requires.first in
    let permitted = next.permitted in
    let sizes : size ≡ block_bytes sound c.args.playback.block = ap (λ (n : ℕ). c.args.playback.block * n) c.width-width.ensures in
    let most = size_fits sound.coding sound.ty sound.channels c.args.playback.block width c.requires.sound.0 c.requires.block c.width-width.ensures in
    let large = c.requires.room in
    let within : first ≤ size = subst (λ (n : ℕ). first ≤ n) (sym sizes) next.within in
    let same : take first (take size c.args.room.now) ≡ read = take-take first size c.args.room.now within in
    let sized = length-take-le size c.args.room.now (omega arith) in
    let all = length-take-le first c.args.room.now (omega arith) in
    record {
      holds = keeps_all c.requires.usable;
      count = omega arith;
      block = sized;
      served = refl;
      within = within;
      permitted = omega arith;
      stated = next.stated;
      ended = λ short. next.ended (subst (λ (n : ℕ). first < n) sizes short);
      few = rw c.from_time-course.ensures (omega arith);
      fits = fits_begin sound.length;
      rest = rest_begin sound.length;
      given = record { bytes = read; consumed = read_before read gives; all = omega arith };
      block_fits = block_fits sound.coding 0 c.requires.block c.width-width.ensures low within (omega arith);
      stepped = rw c.from_time-course.ensures (stepped_begin sound.coding width c.args.playback.pace c.args.playback.told size sound.head (subst (λ (b : List ℕ). Consumed (left_before read gives) b gives) (sym same) (read_before read gives)));
      playing = λ bytes held is tells.
          rw c.from_time-course.ensures (play_filled (play_begin sound c.args.playback.block c.args.playback.pace c.args.playback.told width (read ++ bytes) (left_before read gives) (omega arith) c.width-width.ensures (ap (left_before read) is))
          (subst (λ (b : List ℕ). Consumed (left_before read gives) b gives) (sym same) (read_before read gives)) tells sized within next.stated (λ short. next.ended (subst (λ (n : ℕ). first < n) sizes short)));
    }

pub returns-then-count-eq0-clause-goes : goal.returns-then-count-eq0-clause-goes
returns-then-count-eq0-clause-goes g c bytes held is tells =
    let i = c.loop-block.invariant in
    play_over (i.playing bytes held is tells) i.block_fits c.if-count-eq0.true

pub returns-then-count-eq0-clause-takes : goal.returns-then-count-eq0-clause-takes
returns-then-count-eq0-clause-takes g c =
    let i = c.loop-block.invariant in
    takes_ended c.loop-block.given c.loop-block.filled i.given i.permitted i.rest i.fits (i.ended (block_short i.block_fits c.if-count-eq0.true))

pub returns-in_err-told-clause-goes : goal.returns-in_err-told-clause-goes
returns-in_err-told-clause-goes g c bytes held is tells =
    let i = c.loop-block.invariant in
    play_refused (i.playing bytes held is tells) i.block_fits (omega arith) (search rules) (c.in_err-told.ensures.goes held)

pub returns-in_err-told-clause-takes : goal.returns-in_err-told-clause-takes
returns-in_err-told-clause-takes g c =
    let i = c.loop-block.invariant in
    takes_link (search rules) (given_within i.given i.permitted) c.in_err-told.ensures.end

pub returns-then-filled-size-clause-goes : goal.returns-then-filled-size-clause-goes
returns-then-filled-size-clause-goes g c bytes held is tells =
    let i = c.loop-block.invariant in
    let short = c.if-filled-size.true in
    rw c.on-course.ensures (play_last (i.playing bytes held is tells) i.block_fits (omega arith) (c.in_ok-told.ensures.goes held) (omega arith))

pub returns-then-filled-size-clause-takes : goal.returns-then-filled-size-clause-takes
returns-then-filled-size-clause-takes g c =
    let i = c.loop-block.invariant in
    let short = c.if-filled-size.true in
    takes_ended c.loop-block.given c.loop-block.filled i.given i.permitted i.rest i.fits (i.ended (omega arith))

pub returns-in_err-filled-clause-goes : goal.returns-in_err-filled-clause-goes
returns-in_err-filled-clause-goes g c bytes held is tells =
    let i = c.loop-block.invariant in
    let e = c.in_err-filled.ensures in
    let fault = c.in_err-filled.field-0.0 in
    let low = c.requires.sound.1 in
    let permitted = i.permitted in
    let same : c.from_residual-in_err-filled.result ≡ Err (fill_end fault) = search rules in
    rw same (play_unfilled (i.playing bytes held is (told_unfilled fault e.fills tells)) i.block_fits (omega arith) (c.in_ok-told.ensures.goes held) fault c.still_left-left.ensures e.fills (e.room ∙ i.block) tells (omega arith))

pub returns-in_err-filled-clause-takes : goal.returns-in_err-filled-clause-takes
returns-in_err-filled-clause-takes g c =
    let i = c.loop-block.invariant in
    let permitted = i.permitted in
    takes_fault c.in_err-filled.field-0.0 (search rules) i.given c.in_err-filled.ensures.fills (omega arith)

pub loop-block-preserved : goal.loop-block-preserved
loop-block-preserved g c =
    let i = c.loop-block.invariant in
    let sound = c.args.playback.sound in
    let n = c.loop-block.filled in
    let permitted = i.permitted in
    let few = i.few in
    let a = c.in_ok-told.ensures in
    let fewer = div-le_self n c.width-width.result in
    let e = c.in_ok-filled.ensures in
    let had = e.fills.had in
    let next = had.next in
    let next_within = next.within in
    let next_permitted = next.permitted in
    let filled : length c.fill_stated.new.block ≡ c.args.playback.block * c.width-width.result = e.room ∙ i.block in
    record {
      holds = keeps_on i.holds a.holds;
      count = omega (arith, i.count, e.fault.0);
      block = filled;
      served = a.room ∙ i.served;
      within = omega arith;
      permitted = omega arith;
      stated = next.stated;
      ended = λ short. next.ended (omega arith);
      few = rw c.on-course.ensures (omega arith);
      fits = fits_on sound.length c.loop-block.left c.loop-block.given n i.rest i.fits i.stated;
      rest = rest_on sound.length c.loop-block.left c.still_left-left.result c.loop-block.given n i.rest c.still_left-left.ensures;
      given = given_on i.given had next.within;
      block_fits = block_fits sound.coding (c.loop-block.given + n) c.requires.block c.width-width.ensures c.requires.sound.1 (omega arith) (omega arith);
      stepped = rw c.on-course.ensures (stepped_on c.loop-block.block i.stepped (length-take-le n c.loop-block.block (omega (arith, i.block, i.within))) (omega (arith, c.if-filled-size.false, i.within)) i.block_fits (omega arith)
          (c.in_ok-told.ensures.goes None) (take c.in_ok-filled.filled c.fill_stated.new.block) had.consumed);
      playing = λ bytes held is tells.
          let before = consumed_told (g.S.Source.left c.loop-block.source) (g.S.Source.left c.fill_stated.new.source) (take c.in_ok-filled.filled c.fill_stated.new.block) had.consumed tells in
          rw c.on-course.ensures (play_next (i.playing bytes held is before) i.block_fits (omega arith) (c.in_ok-told.ensures.goes held) (omega arith) c.still_left-left.ensures had tells filled);
    }

pub returns-then-count-eq0-clause-step : goal.returns-then-count-eq0-clause-step
returns-then-count-eq0-clause-step g c input told =
    let i = c.loop-block.invariant in
    let p = c.args.playback in
    let within = i.within in
    let full = length-take-le c.loop-block.filled c.loop-block.block (omega (arith, i.block, i.within)) in
    let ended = subst (λ (k : ℕ). k < p.block * c.width-width.result → IsSpent (g.S.Source.left c.loop-block.source) ⊎ (c.loop-block.left ≡ Some k)) (sym full) i.ended in
    let first = step_first p.sound p.block p.pace p.told c.width-width.result c.width-width.ensures i.stepped i.fits (omega arith) c.loop-block.left i.rest ended in
    step_ends p.sound p.block p.pace p.told c.width-width.result c.width-width.ensures i.stepped i.fits (omega arith) _ first (input, told, refl) (λ bad. cc bad) (λ v at. ([], appended_none _)) (λ bad. cc bad)

pub returns-in_err-told-clause-step : goal.returns-in_err-told-clause-step
returns-in_err-told-clause-step g c input told =
    let i = c.loop-block.invariant in
    let p = c.args.playback in
    let e = c.in_err-told.ensures in
    let within = i.within in
    let full = length-take-le c.loop-block.filled c.loop-block.block (omega (arith, i.block, i.within)) in
    let ended = subst (λ (k : ℕ). k < p.block * c.width-width.result → IsSpent (g.S.Source.left c.loop-block.source) ⊎ (c.loop-block.left ≡ Some k)) (sym full) i.ended in
    let first = step_first p.sound p.block p.pace p.told c.width-width.result c.width-width.ensures i.stepped i.fits (omega arith) c.loop-block.left i.rest ended in
    let same : c.from_residual.result ≡ Err c.in_err-told.field-0.0 = search rules in
    let other = not_failed same e.end in
    step_ends p.sound p.block p.pace p.told c.width-width.result c.width-width.ensures i.stepped i.fits (omega arith) _ first (input, told, refl) (λ bad. absurd (other bad)) (λ v at. shown refused (Err _) (e.goes None) at) (λ bad. absurd (other bad))

pub returns-then-filled-size-clause-step : goal.returns-then-filled-size-clause-step
returns-then-filled-size-clause-step g c input told =
    let i = c.loop-block.invariant in
    let p = c.args.playback in
    let within = i.within in
    let full = length-take-le c.loop-block.filled c.loop-block.block (omega (arith, i.block, i.within)) in
    let ended = subst (λ (k : ℕ). k < p.block * c.width-width.result → IsSpent (g.S.Source.left c.loop-block.source) ⊎ (c.loop-block.left ≡ Some k)) (sym full) i.ended in
    let first = step_first p.sound p.block p.pace p.told c.width-width.result c.width-width.ensures i.stepped i.fits (omega arith) c.loop-block.left i.rest ended in
    step_ends p.sound p.block p.pace p.told c.width-width.result c.width-width.ensures i.stepped i.fits (omega arith) _ first (input, told, refl) (λ bad. cc bad) (λ v at. shown refused (Ok _) (c.in_ok-told.ensures.goes None) at) (λ bad. cc bad)

pub returns-in_err-filled-clause-step : goal.returns-in_err-filled-clause-step
returns-in_err-filled-clause-step g c input told =
    let i = c.loop-block.invariant in
    let p = c.args.playback in
    let n = c.loop-block.filled in
    let e = c.in_err-filled.ensures in
    let read = unfilled c.in_err-filled.field-0.0 e.fills in
    let size : length c.fill_stated.new.block ≡ p.block * c.width-width.result = e.room ∙ i.block in
    let most = read.2 in
    let some = div-le_self n c.width-width.result in
    let s = stepped_on c.loop-block.block i.stepped (length-take-le n c.loop-block.block (omega (arith, i.block, i.within))) (omega (arith, c.if-filled-size.false, i.within)) i.block_fits (omega arith)
    (c.in_ok-told.ensures.goes None) read.0 read.1 in
    let fits = fits_on p.sound.length c.loop-block.left c.loop-block.given n i.rest i.fits i.stated in
    let first = step_later p.sound p.block p.pace p.told c.width-width.result c.width-width.ensures s fits (omega arith) (omega arith) in
    step_ends p.sound p.block p.pace p.told c.width-width.result c.width-width.ensures s fits (omega arith) _ first (input, told, refl) (λ _. appended_none _) (λ v at. ([], appended_none _)) (λ _. omega arith)
