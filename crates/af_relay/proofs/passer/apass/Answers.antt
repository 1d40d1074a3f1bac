use Rattle.std.proofs.Common.{refl}
use Rattle.af_toolkit.specs.Ends.{is_of_link, is_of_report, client_of}
use Rattle.af_relay.proofs.RelayedLemmas.{between_ran}
use Rattle.af_relay.proofs.RelayEndLemmas.{among_err, among_ok, apart_ran, between_reported, between_stopped, ends_apart, ends_together, pair_alike}
use Rattle.af_relay.proofs.passer.apass.Goals as goal

pub returns-in-Err-clause-ran : goal.returns-in-Err-clause-ran
returns-in-Err-clause-ran g c v w told_from told_to =
    let missing = among_err _ c.in-Err.ensures.value in
    apart_ran c.args.job.now c.args.from.now.devices c.args.to.now.devices (client_of c.args.from.now v) (client_of c.args.to.now w) missing.0 missing.1 missing.2

pub returns-in-Err-clause-apart : goal.returns-in-Err-clause-apart
returns-in-Err-clause-apart g c =
    let missing = among_err _ c.in-Err.ensures.value in
    rw missing.1 (ends_apart missing.0 missing.2)

pub pass_between-requires-clause-alike : goal.pass_between-requires-clause-alike
pass_between-requires-clause-alike g c = pair_alike c.args.job.now c.args.from.now.devices c.args.to.now.devices c.in-Ok.device (among_ok _ c.in-Ok.ensures.value)

pub returns-in-Ok-pass_between-clause-ran : goal.returns-in-Ok-pass_between-clause-ran
returns-in-Ok-pass_between-clause-ran g c v w told_from told_to =
    let went = between_reported c.args.job.now c.in-Ok.device _ _ c.in-Ok-pass_between.ensures.goes (v, told_from, refl) (w, told_to, refl) ((rw c.block_count.ensures at c.report.ensures.followed) _) in
    between_ran c.args.job.now _ _ _ _ c.in-Ok.device went (among_ok _ c.in-Ok.ensures.value) c.in-Ok.ensures.stated c.requires.range

pub returns-in-Err-pass_between-clause-ran : goal.returns-in-Err-pass_between-clause-ran
returns-in-Err-pass_between-clause-ran g c v w told_from told_to =
    let went = between_stopped c.args.job.now c.in-Ok.device _ _ c.in-Err-pass_between.ensures.goes (v, told_from, refl) (w, told_to, refl) in
    between_ran c.args.job.now _ _ _ _ c.in-Ok.device went (among_ok _ c.in-Ok.ensures.value) c.in-Ok.ensures.stated c.requires.range

pub returns-in-Ok-pass_between-clause-apart : goal.returns-in-Ok-pass_between-clause-apart
returns-in-Ok-pass_between-clause-apart g c = rw (among_ok _ c.in-Ok.ensures.value) (ends_together c.in-Ok.device _ is_of_report c.report.ensures.end (λ n. refl) (λ m n. refl) (λ m n. refl))

pub returns-in-Err-pass_between-clause-apart : goal.returns-in-Err-pass_between-clause-apart
returns-in-Err-pass_between-clause-apart g c = rw (among_ok _ c.in-Ok.ensures.value) (ends_together c.in-Ok.device _ is_of_link c.in-Err-pass_between.ensures.end (λ n. refl) (λ m n. refl) (λ m n. refl))
