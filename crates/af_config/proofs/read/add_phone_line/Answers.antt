use Rattle.std.proofs.Common.{◌≡◌, true, sym, subst}
use Rattle.af_config.specs.Kept.{owned_program}
use Rattle.af_config.specs.Stating.{has_free_line}
use Rattle.af_config.specs.Reading.{IsSound}
use Rattle.af_config.proofs.SoundLemmas.{program_sound}
use Rattle.std.proofs.lemmas.Str.{IsUtf8-from_is_utf8}
use Rattle.af_config.proofs.read.add_phone_line.Goals as goal

pub line_program_stated-requires : goal.line_program_stated-requires
line_program_stated-requires c = IsUtf8-from_is_utf8 c.args.line.now c.requires

pub returns-in_ok-add_program-in-Some-clause-kept : goal.returns-in_ok-add_program-in-Some-clause-kept
returns-in_ok-add_program-in-Some-clause-kept c = λ sound.
    let is_free = c.has_free_line.ensures in
    let found = c.if-not-has_free_line.false in
    let free : has_free_line c.args.setting.now.config c.args.setting.now.phones c.in-Some.program.device ≡ true = cc in
    subst IsSound (sym c.in_ok-add_program-in-Some.ensures) (program_sound c.args.setting.now (owned_program c.in-Some.program) sound free)
