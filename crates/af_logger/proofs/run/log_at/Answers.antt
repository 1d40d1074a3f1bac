use Rattle.std.proofs.Common.{inl, inr, refl, ◌∙◌}
use Rattle.af_logger.proofs.RunLemmas.{first_ran}
use Rattle.af_logger.proofs.run.log_at.Goals as goal

pub returns-in-Far-clause-ran : goal.returns-in-Far-clause-ran
returns-in-Far-clause-ran g c links told =
    let e = c.in-Far.ensures in
    let call = c.args.call.now in
    inr (first_ran g.D.Far.Link.left g.D.Far.Link.sent call.server.now call.order call.job c.in-Far.far _ links told e.gives c.hang_up.ensures.gives e.back c.hang_up.ensures.back (λ i t. c.log_over-end.ensures.ran i t))

pub returns-in-Failed-clause-ran : goal.returns-in-Failed-clause-ran
returns-in-Failed-clause-ran g c links told = inl (inl refl, c.in-Failed.ensures.gives ∙ told, c.in-Failed.ensures.back, refl)

pub returns-in-OutOfMemory-clause-ran : goal.returns-in-OutOfMemory-clause-ran
returns-in-OutOfMemory-clause-ran g c links told = inl (inr refl, c.in-OutOfMemory.ensures.gives ∙ told, c.in-OutOfMemory.ensures.back, refl)
