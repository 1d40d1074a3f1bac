use Rattle.std.proofs.Common.{◌≡◌, ap, ◌∙◌}
use Rattle.mio.specs.Events.{items}
use Rattle.af_live.specs.declared.sockets.Sockets.{Sockets}
use Rattle.af_live.specs.Polls.{takes_none}
use Rattle.af_live.proofs.PollsLemmas.{polls_by}
use Rattle.af_live.proofs.sockets.Sockets.poll.Goals.{then-note_events, else-note_events}
use Rattle.af_live.proofs.sockets.Sockets.poll.Goals as goal

pub returns-else-self-clause-polls : goal.returns-else-self-clause-polls
returns-else-self-clause-polls c = λ _.
    let events : items c.if-note_events.self.events ≡ items c.ask.new.self.events = elim c.if-note_events.branch [
      | then-note_events w ↦ ap (λ (s : Sockets). items s.events) w.self-is
      | else-note_events w ↦ ap (λ (s : Sockets). items s.events) w.self-is
    ] in
    let streams : c.if-note_events.self.streams ≡ c.ask.new.self.streams = elim c.if-note_events.branch [
      | then-note_events w ↦ ap (λ (s : Sockets). s.streams) w.self-is
      | else-note_events w ↦ ap (λ (s : Sockets). s.streams) w.self-is
    ] in
    polls_by (items c.ask.new.self.events) (items c.if-note_events.self.events) c.args.self.now.streams c.if-note_events.self.streams c.if-note_events.self.streams c.args.links.now c.renew_all.new.self c.note_events.new.links c.note_events.new.links
    events (streams ∙ c.ask.ensures.streams) c.renew_all.ensures c.note_events.ensures takes_none

pub returns-then-self-clause-polls : goal.returns-then-self-clause-polls
returns-then-self-clause-polls c = λ _.
    let events : items c.if-note_events.self.events ≡ items c.ask.new.self.events = elim c.if-note_events.branch [
      | then-note_events w ↦ ap (λ (s : Sockets). items s.events) w.self-is
      | else-note_events w ↦ ap (λ (s : Sockets). items s.events) w.self-is
    ] in
    let streams : c.if-note_events.self.streams ≡ c.ask.new.self.streams = elim c.if-note_events.branch [
      | then-note_events w ↦ ap (λ (s : Sockets). s.streams) w.self-is
      | else-note_events w ↦ ap (λ (s : Sockets). s.streams) w.self-is
    ] in
    polls_by (items c.ask.new.self.events) (items c.accept_all.new.self.events) c.args.self.now.streams c.if-note_events.self.streams c.accept_all.new.self.streams c.args.links.now c.renew_all.new.self c.note_events.new.links c.accept_all.new.links
    (ap items c.accept_all.ensures.events ∙ events) (streams ∙ c.ask.ensures.streams) c.renew_all.ensures c.note_events.ensures c.accept_all.ensures.takes
