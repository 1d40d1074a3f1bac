use Rattle.std.proofs.Common.{inr, ap}
use Rattle.std.specs.declared.result.Result.TheVariants.{Err}
use Rattle.afd_serve.specs.Words.{job_of_command}
use Rattle.afd_serve.proofs.ServeEndLemmas.{asks_on, good_read, unheard, failed_at, on_unspent, ran, read_unspent, start_unspent, started_in_part}
use Rattle.afd_serve.proofs.live.afd_live.Goals as goal

pub returns-in-Err-clause-complete : goal.returns-in-Err-clause-complete
returns-in-Err-clause-complete g c = λ good source listens waits.
    let given = c.in-Err.ensures.given in
    good_read _ _ good.text c.in-Err.end c.in-Err.ensures.ends (λ e. source (c.in-Err.ensures.source.1 (ap (λ x. Err x) e))) (λ e. given.long (ap (λ x. Err x) e)) (λ line e. given.fault line (ap (λ x. Err x) e))

pub returns-in-Err-start-clause-unserved : goal.returns-in-Err-start-clause-unserved
returns-in-Err-start-clause-unserved g c =
    let ended = c.in-Err-start.end in
    let part = c.in-Err-start.ensures.part in
    record {
      unlistened = λ e. unheard c.args.words.now _ _ (job_of_command c.in-Some.command) c.in-Some.ensures.job c.in-Ok.setting c.in-Ok.ensures.setting _ _ ended part e;
      attached = λ d e. failed_at c.args.words.now _ _ (job_of_command c.in-Some.command) c.in-Some.ensures.job c.in-Ok.setting c.in-Ok.ensures.setting _ _ ended part d e;
      memory = λ e. inr (started_in_part c.args.words.now _ _ (job_of_command c.in-Some.command) c.in-Some.ensures.job c.in-Ok.setting c.in-Ok.ensures.setting _ _ ended part e);
    }

pub returns-clause-served : goal.returns-clause-served
returns-clause-served g c = λ waits.
    ran c.args.words.now _ _ (job_of_command c.in-Some.command) c.in-Some.ensures.job c.in-Ok.setting c.in-Ok.ensures.setting c.serve.result _ _ _ _ _ _ c.in-Ok-start.ensures.log c.in-Ok-start.ensures.whole
    (c.serve.ensures.served c.in-Ok.setting.config c.in-Ok-start.ensures.core)

pub returns-in-Err-clause-forever : goal.returns-in-Err-clause-forever
returns-in-Err-clause-forever g c = λ forever. read_unspent c.in-Err.end c.in-Err.ensures.ends

pub returns-in-Err-start-clause-forever : goal.returns-in-Err-start-clause-forever
returns-in-Err-start-clause-forever g c = λ forever. start_unspent c.in-Err-start.end _ _ _ _ c.in-Err-start.ensures.part

pub returns-clause-forever : goal.returns-clause-forever
returns-clause-forever g c = λ forever.
    on_unspent c.in-Ok.setting.config c.serve.result _ _ _ _ _ (c.serve.ensures.served c.in-Ok.setting.config c.in-Ok-start.ensures.core)
    (asks_on c.args.words.now (job_of_command c.in-Some.command) c.in-Some.ensures.job forever)
