use Rattle.std.proofs.Common.{[], sym, subst}
use Rattle.std.proofs.lemmas.List.Sums.{fold-append}
use Rattle.af_exchange.specs.Lines.{Reading, IsFront, changes_of, after_byte, at_line}
use Rattle.af_exchange.proofs.ReadingLemmas.{front-more}
use Rattle.af_exchange.proofs.laws.what_was_said_stays.Goals as goal

pub returns : goal.returns
returns c = λ bytes more.
    subst (λ (r : Reading). IsFront (changes_of bytes).changes r.changes) (sym (fold-append after_byte (at_line [] []) bytes more)) (front-more (changes_of bytes) more)
