use Rattle.std.proofs.Common.{List, ℕ, refl, ap, ◌∙◌, subst, Option}
use Rattle.af_io.specs.Dial.{AppendedBack, IsFirstOf, ToldLink}
use Rattle.af_toolkit.specs.Ends.{client_of}
use Rattle.af_tools.proofs.DialLemmas.{to_none, to_over}
use Rattle.af_tools.proofs.relay.run_to.Goals as goal

pub returns-in-Far-clause-ran : goal.returns-in-Far-clause-ran
returns-in-Far-clause-ran g c v links told_from told =
    let e = c.in-Far.ensures in
    let conn = c.args.conn in
    let gives = subst (λ (l : Option (List ToldLink)). IsFirstOf g.D.Far.Link.left g.D.Far.Link.sent c.in-Far.far l (g.D.Dial.links c.dial.new.self)) told e.gives in
    let first = subst (λ (x : Option (List ℕ)). AppendedBack (g.D.Dial.back c.dial.new.self) x (g.D.Dial.back c.hang_up.new.self)) (ap g.D.Far.Link.sent c.into_link.ensures) c.hang_up.ensures.back in
    to_over c.args.call.now.order c.args.call.now.job conn.devices (client_of conn v) g.D.Far.Link.left g.D.Far.Link.sent c.in-Far.far links _ _ _ _ gives
    (λ link t. c.pass_over-end.ensures.followed v link told_from t) e.back first c.hang_up-in-Far.ensures.back (c.hang_up-in-Far.ensures.gives ∙ c.hang_up.ensures.gives)

pub returns-in-Failed-clause-ran : goal.returns-in-Failed-clause-ran
returns-in-Failed-clause-ran g c v links told_from told =
    let e = c.in-Failed.ensures in
    to_none c.args.call.now.order c.args.call.now.job c.args.conn.devices (client_of c.args.conn v) links _ _ _ _ _ _ refl (c.hang_up-in-Failed.ensures.gives ∙ e.gives ∙ told) e.back (ap g.D.Far.Link.sent c.into_link-in-Failed.ensures) c.hang_up-in-Failed.ensures.back

pub returns-in-OutOfMemory-clause-ran : goal.returns-in-OutOfMemory-clause-ran
returns-in-OutOfMemory-clause-ran g c v links told_from told =
    let e = c.in-OutOfMemory.ensures in
    to_none c.args.call.now.order c.args.call.now.job c.args.conn.devices (client_of c.args.conn v) links _ _ _ _ _ _ refl (c.hang_up-in-OutOfMemory.ensures.gives ∙ e.gives ∙ told) e.back (ap g.D.Far.Link.sent c.into_link-in-OutOfMemory.ensures) c.hang_up-in-OutOfMemory.ensures.back
