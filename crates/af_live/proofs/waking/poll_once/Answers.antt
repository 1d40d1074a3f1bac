use Rattle.std.proofs.Common.{refl, rules}
use Rattle.mio.specs.Events.{items}
use Rattle.af_live.proofs.PollsLemmas.{polls_keep_open}
use Rattle.af_live.proofs.StreamsLemmas.{polled_keeps, unpolled_keeps}
use Rattle.af_live.proofs.waking.poll_once.Goals as goal

pub returns-in-Some-clause-fits : goal.returns-in-Some-clause-fits
returns-in-Some-clause-fits g c = let keeps = polls_keep_open (items c.poll.new.self.events) c.args.sockets.now.streams c.args.links.now c.poll.new.self.streams c.poll.new.links (c.if-not-poll.ensures.polls refl) in search rules

pub returns-in-Some-clause-opens : goal.returns-in-Some-clause-opens
returns-in-Some-clause-opens g c = let keeps = polls_keep_open (items c.poll.new.self.events) c.args.sockets.now.streams c.args.links.now c.poll.new.self.streams c.poll.new.links (c.if-not-poll.ensures.polls refl) in search rules

pub returns-in-None-clause-opens : goal.returns-in-None-clause-opens
returns-in-None-clause-opens g c = let keeps = polls_keep_open (items c.poll.new.self.events) c.args.sockets.now.streams c.args.links.now c.poll.new.self.streams c.poll.new.links (c.if-not-poll.ensures.polls refl) in search rules

pub returns-in-Some-clause-own : goal.returns-in-Some-clause-own
returns-in-Some-clause-own g c =
    polled_keeps c.args.sockets.now.streams c.poll.new.self.streams c.args.links.now c.poll.new.links c.take_ready.new.self (items c.poll.new.self.events) c.take_ready.result
    (c.if-not-poll.ensures.polls refl) c.take_ready.ensures.first

pub returns-in-None-clause-own : goal.returns-in-None-clause-own
returns-in-None-clause-own g c =
    polled_keeps c.args.sockets.now.streams c.poll.new.self.streams c.args.links.now c.poll.new.links c.take_ready.new.self (items c.poll.new.self.events) c.take_ready.result
    (c.if-not-poll.ensures.polls refl) c.take_ready.ensures.first

pub returns-then-not-poll-clause-own : goal.returns-then-not-poll-clause-own
returns-then-not-poll-clause-own g c =
    unpolled_keeps c.args.sockets.now.streams c.poll.new.self.streams c.args.links.now c.poll.new.links (c.if-not-poll.ensures.streams refl) (c.if-not-poll.ensures.refused refl)
