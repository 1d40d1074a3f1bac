use Rattle.std.proofs.Common.{◌≡◌, inl, inr, refl}
use Rattle.af_toolkit.specs.Trace.{fault_end}
use Rattle.af_logger.proofs.RunLemmas.{not_set_up, set_up_ran, starved}
use Rattle.af_logger.proofs.run.log_over.Goals as goal

pub returns-in-Ok-clause-ran : goal.returns-in-Ok-clause-ran
returns-in-Ok-clause-ran g c input told =
    let e = c.in-Ok.ensures in
    let same : c.into_link.result ≡ c.log-end.new.conn.link = c.into_link.ensures in
    rw same (set_up_ran c.args.job.now c.in-Ok.conn _ e.0 e.1 e.3 told (λ i t. c.log-end.ensures.ran i t))

pub returns-in-Err-clause-ran : goal.returns-in-Err-clause-ran
returns-in-Err-clause-ran g c input told =
    let way : c.from.result ≡ fault_end c.in-Err.fault = c.from.ensures in
    elim (c.in-Err.ensures) [
      | inl none ↦ rw (none.1, way, none.0) (inl (starved c.args.order input _, refl))
      | inr setup ↦ rw way (inl (not_set_up c.args.order c.in-Err.fault setup.1 told, refl))
    ]
