use Rattle.std.proofs.Common.{rules, ◌≡◌, ◌≤◌, ◌∙◌, length, length-take-le, refl}
use Rattle.af_toolkit.proofs.PartLemmas.{goes_stop, goes_through, goes_value}
use Rattle.af_toolkit.proofs.ToolPartLemmas.{asks_go, is_tool}
use Rattle.af_events.specs.Trace.{hears_frame}
use Rattle.af_events.proofs.during.hear_frame.Goals as goal

pub returns-in_err-reply-clause-goes : goal.returns-in_err-reply-clause-goes
unfolding hears_frame
returns-in_err-reply-clause-goes g c held =
    let fits : c.from-frame.result ≤ length c.args.room.now = search rules in
    let same : c.from-frame.result ≡ c.args.channels = search rules in
    let size = length-take-le c.from-frame.result c.args.room.now fits ∙ same in
    goes_stop is_tool _ (search rules) (asks_go (rw size at c.in_err-reply.ensures.called) c.requires.usable refl)

pub returns-clause-goes : goal.returns-clause-goes
unfolding hears_frame
returns-clause-goes g c held =
    let fits : c.from-frame.result ≤ length c.args.room.now = search rules in
    let same : c.from-frame.result ≡ c.args.channels = search rules in
    let size = length-take-le c.from-frame.result c.args.room.now fits ∙ same in
    goes_through is_tool _ (asks_go (rw size at c.in_ok-reply.ensures.called) c.requires.usable refl) (goes_value is_tool _)
