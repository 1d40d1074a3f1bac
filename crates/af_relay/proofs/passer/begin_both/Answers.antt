use Rattle.std.proofs.Common.{rules, ◌≡◌, pos, ap}
use Rattle.std.specs.Prelude.{Err}
use Rattle.std.specs.declared.option.Option.TheVariants.{None}
use Rattle.af_lib.specs.Calls.{ConnState}
use Rattle.af_toolkit.specs.Trace.{fault_end}
use Rattle.af_toolkit.proofs.PartLemmas.{goes_stop, goes_through}
use Rattle.af_relay.proofs.RelayPartLemmas.{asked_from, asked_to, is_relay}
use Rattle.af_relay.proofs.passer.begin_both.Goals as goal

pub returns-in_err-create_ac-clause-goes : goal.returns-in_err-create_ac-clause-goes
returns-in_err-create_ac-clause-goes g c =
    let zero : c.default-none.result ≡ pos 0 = search rules in
    goes_stop is_relay _ (search rules) (asked_from (rw zero at c.in_err-create_ac.ensures) c.requires.usable.0)

pub returns-in_err-create_ac-2-clause-goes : goal.returns-in_err-create_ac-2-clause-goes
returns-in_err-create_ac-2-clause-goes g c =
    let zero : c.default-none.result ≡ pos 0 = search rules in
    goes_through is_relay _ (asked_from (rw zero at c.in_ok-create_ac.ensures) c.requires.usable.0)
    (goes_stop is_relay _ (search rules) (asked_to (rw zero at c.in_err-create_ac-2.ensures) c.requires.usable.1))

pub returns-in_err-get_time-clause-goes : goal.returns-in_err-get_time-clause-goes
returns-in_err-get_time-clause-goes g c =
    let zero : c.default-none.result ≡ pos 0 = search rules in
    let usable : c.create_ac.new.self.cause ≡ None = ap (λ (conn : ConnState _). conn.cause) (c.in_ok-create_ac.ensures.keeps c.requires.usable.0) in
    let same : c.from_residual-in_err-get_time.result ≡ Err (fault_end c.in_err-get_time.field-0.0) = search rules in
    rw same (goes_through is_relay _ (asked_from (rw zero at c.in_ok-create_ac.ensures) c.requires.usable.0)
    (goes_through is_relay _ (asked_to (rw zero at c.in_ok-create_ac-2.ensures) c.requires.usable.1) (asked_from c.in_err-get_time.ensures usable)))

pub returns-clause-goes : goal.returns-clause-goes
returns-clause-goes g c =
    let zero : c.default-none.result ≡ pos 0 = search rules in
    let usable : c.create_ac.new.self.cause ≡ None = ap (λ (conn : ConnState _). conn.cause) (c.in_ok-create_ac.ensures.keeps c.requires.usable.0) in
    goes_through is_relay _ (asked_from (rw zero at c.in_ok-create_ac.ensures) c.requires.usable.0)
    (goes_through is_relay _ (asked_to (rw zero at c.in_ok-create_ac-2.ensures) c.requires.usable.1) (asked_from c.in_ok-get_time.ensures usable))
