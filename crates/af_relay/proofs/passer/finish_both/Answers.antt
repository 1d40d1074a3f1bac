use Rattle.std.proofs.Common.{rules, ◌≡◌}
use Rattle.std.specs.Prelude.{Err}
use Rattle.af_toolkit.specs.Trace.{fault_end}
use Rattle.af_toolkit.proofs.PartLemmas.{goes_stop, goes_through}
use Rattle.af_relay.proofs.RelayPartLemmas.{asked_from, asked_to, is_relay}
use Rattle.af_relay.proofs.passer.finish_both.Goals as goal

pub returns-in_err-free_ac-clause-goes : goal.returns-in_err-free_ac-clause-goes
returns-in_err-free_ac-clause-goes g c =
    goes_stop is_relay _ (search rules) (asked_from c.in_err-free_ac.ensures c.requires.usable.0)

pub returns-in_err-free_ac-2-clause-goes : goal.returns-in_err-free_ac-2-clause-goes
returns-in_err-free_ac-2-clause-goes g c =
    let same : c.from_residual-in_err-free_ac-2.result ≡ Err (fault_end c.in_err-free_ac-2.field-0.0) = search rules in
    rw same (goes_through is_relay _ (asked_from c.in_ok-free_ac.ensures c.requires.usable.0) (asked_to c.in_err-free_ac-2.ensures c.requires.usable.1))

pub returns-clause-goes : goal.returns-clause-goes
returns-clause-goes g c = goes_through is_relay _ (asked_from c.in_ok-free_ac.ensures c.requires.usable.0) (asked_to c.in_ok-free_ac-2.ensures c.requires.usable.1)
