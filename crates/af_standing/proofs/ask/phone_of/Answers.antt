use Rattle.std.proofs.Common.{rules, ◌≡◌, true, false, refl}
use Rattle.af_toolkit.proofs.PartLemmas.{goes_stop, goes_through, goes_value}
use Rattle.af_toolkit.proofs.ToolPartLemmas.{asks_go, is_tool}
use Rattle.af_standing.proofs.ask.phone_of.Goals as goal

pub returns-in_err-query_phone-clause-goes : goal.returns-in_err-query_phone-clause-goes
returns-in_err-query_phone-clause-goes g c held =
    let line : c.args.line ≡ true = c.if-line.true in
    rw line (goes_stop is_tool _ (search rules) (asks_go c.in_err-query_phone.ensures c.requires refl))

pub returns-in_ok-query_phone-clause-goes : goal.returns-in_ok-query_phone-clause-goes
returns-in_ok-query_phone-clause-goes g c held =
    let line : c.args.line ≡ true = c.if-line.true in
    rw line (goes_through is_tool _ (asks_go c.in_ok-query_phone.ensures c.requires refl) (goes_value is_tool _))

pub returns-else-line-clause-goes : goal.returns-else-line-clause-goes
returns-else-line-clause-goes g c held =
    let line : c.args.line ≡ false = c.if-line.false in
    rw line (goes_value is_tool _)
