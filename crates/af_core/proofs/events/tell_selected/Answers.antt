use Rattle.std.proofs.Common.{◌∙◌, sym}
use Rattle.af_core.proofs.EventLemmas.{overruns_at}
use Rattle.af_core.proofs.events.tell_selected.Goals as goal

pub returns-else-has_room-clause-step : goal.returns-else-has_room-clause-step
returns-else-has_room-clause-step c = λ a h.
    overruns_at _ c.args.number c.args.event a c.args.link.now _ (sym c.has_room.ensures ∙ c.if-has_room.false) (c.drop_link.ensures.step a h)
