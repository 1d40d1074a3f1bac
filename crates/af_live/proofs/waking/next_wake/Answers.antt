use Rattle.mio.specs.Events.{items}
use Rattle.af_lines.proofs.LinesLemmas.{change_fits}
use Rattle.af_live.proofs.StreamsLemmas.{kept_stays, nothing_stays, waited_stays}
use Rattle.af_live.proofs.WakingLemmas.{kept_fits, kept_lines, kept_links, kept_round, last_stays, nothing_kept, polled_lines, polled_links, polled_pauses}
use Rattle.af_live.proofs.waking.next_wake.Goals as goal

pub returns-in-Some-take_ready-clause-links : goal.returns-in-Some-take_ready-clause-links
returns-in-Some-take_ready-clause-links g c =
    kept_links (items c.in-Some.sockets.events) c.in-Some-take_ready.wake _ _ c.in-Some-take_ready.ensures.fits c.in-Some-take_ready.ensures.first

pub returns-in-Some-take_ready-clause-round : goal.returns-in-Some-take_ready-clause-round
returns-in-Some-take_ready-clause-round g c =
    kept_round c.in-Some-take_ready.wake _ _ _ c.args.devices.now.round c.args.devices.now.attached c.in-Some-take_ready.ensures.fits c.in-Some-take_ready.ensures.first

pub returns-in-Some-take_ready-clause-lines : goal.returns-in-Some-take_ready-clause-lines
returns-in-Some-take_ready-clause-lines g c =
    kept_lines c.in-Some-take_ready.wake _ _ c.args.devices.now.round c.args.lines.now c.in-Some-take_ready.ensures.fits c.in-Some-take_ready.ensures.first

pub returns-in_err-nanos-clause-kept : goal.returns-in_err-nanos-clause-kept
returns-in_err-nanos-clause-kept g c = λ k _ below ready.
    absurd (nothing_kept _ _ c.in_default-take_ready.ensures.count c.in_default-take_ready.ensures.first k below ready)

pub returns-in-Some-next_tick-clause-kept : goal.returns-in-Some-next_tick-clause-kept
returns-in-Some-next_tick-clause-kept g c = λ k _ below ready.
    absurd (nothing_kept _ _ c.in_default-take_ready.ensures.count c.in_default-take_ready.ensures.first k below ready)

pub returns-in-Some-next_change-clause-kept : goal.returns-in-Some-next_change-clause-kept
returns-in-Some-next_change-clause-kept g c = λ k _ below ready.
    absurd (nothing_kept _ _ c.in_default-take_ready.ensures.count c.in_default-take_ready.ensures.first k below ready)

pub returns-in-Some-next_change-clause-fits : goal.returns-in-Some-next_change-clause-fits
returns-in-Some-next_change-clause-fits g c = change_fits _ c.args.lines.now c.next_change.new.self _ _ c.in-Some-next_change.ensures.over

pub returns-clause-kept : goal.returns-clause-kept
returns-clause-kept g c = λ k _ below ready.
    absurd (nothing_kept _ _ c.in_default-take_ready.ensures.count c.in_default-take_ready.ensures.first k below ready)

pub returns-clause-pauses : goal.returns-clause-pauses
returns-clause-pauses g c =
    polled_pauses c.args.more _ _ _ c.next_tick.new.self.round _ _ c.poll_once.result _ _ c.in_default-take_ready.ensures.first c.poll_once.ensures.lines c.poll_once.ensures.pause

pub returns-clause-links : goal.returns-clause-links
returns-clause-links g c = polled_links (items c.poll_once.new.sockets.events) c.poll_once.result _ _ _ c.in_default-take_ready.ensures.first c.poll_once.ensures.fits c.poll_once.ensures.links

pub returns-clause-lines : goal.returns-clause-lines
returns-clause-lines g c =
    polled_lines c.poll_once.result _ _ _ _ _ _ _ _ c.poll_once.ensures.fits
    (c.in_ok-nanos.nanos, last_stays c.poll_once.result _ _ _ c.poll_once.ensures.round c.in_default-next_tick.ensures.on.0.last, c.in_default-next_change.ensures.over) c.poll_once.ensures.lines

pub returns-in-Some-take_ready-clause-own : goal.returns-in-Some-take_ready-clause-own
returns-in-Some-take_ready-clause-own g c =
    kept_stays c.args.sockets.now c.in-Some.sockets c.args.links.now c.take_ready.new.self c.take_ready.result c.in-Some.is c.take_ready.ensures.first

pub returns-clause-own : goal.returns-clause-own
returns-clause-own g c =
    waited_stays c.args.sockets.now c.in-Some.sockets c.watch_programs.new.sockets c.poll_once.new.sockets c.args.links.now c.take_ready.new.self c.poll_once.new.links c.take_ready.result
    c.in-Some.is c.take_ready.ensures.first c.watch_programs.ensures c.poll_once.ensures.own

pub returns-in_default-clause-own : goal.returns-in_default-clause-own
returns-in_default-clause-own g c = nothing_stays c.args.sockets.now c.args.links.now

pub returns-in-Some-take_ready-clause-fits : goal.returns-in-Some-take_ready-clause-fits
returns-in-Some-take_ready-clause-fits g c =
    kept_fits c.in-Some-take_ready.wake _ c.args.devices.now.round c.args.lines.now c.in-Some-take_ready.ensures.fits

pub returns-in_err-nanos-clause-own : goal.returns-in_err-nanos-clause-own
returns-in_err-nanos-clause-own g c =
    kept_stays c.args.sockets.now c.in-Some.sockets c.args.links.now c.take_ready.new.self c.take_ready.result c.in-Some.is c.take_ready.ensures.first

pub returns-in-Some-next_tick-clause-own : goal.returns-in-Some-next_tick-clause-own
returns-in-Some-next_tick-clause-own g c =
    kept_stays c.args.sockets.now c.in-Some.sockets c.args.links.now c.take_ready.new.self c.take_ready.result c.in-Some.is c.take_ready.ensures.first

pub returns-in-Some-next_change-clause-own : goal.returns-in-Some-next_change-clause-own
returns-in-Some-next_change-clause-own g c =
    kept_stays c.args.sockets.now c.in-Some.sockets c.args.links.now c.take_ready.new.self c.take_ready.result c.in-Some.is c.take_ready.ensures.first
