use Rattle.std.proofs.Common.{◌≡◌, ◌∙◌, false, rules}
use Rattle.std.proofs.lemmas.Str.Pattern.{starts_text}
use Rattle.std.specs.Prelude.{codes}
use Rattle.std.specs.Str.{bytes_eq}
use Rattle.af_attendant.proofs.options.is_of_attendant.Goals as goal

pub returns-else-eq-2 : goal.returns-else-eq-2
returns-else-eq-2 c =
    let one : bytes_eq c.args.word.now (codes "--hang-up") ≡ false = search rules in
    let two : bytes_eq c.args.word.now (codes "--until") ≡ false = search rules in
    rw (one, two) (starts_text c.starts_with.result (codes "--until=") c.args.word.now c.starts_with.ensures.cases)
