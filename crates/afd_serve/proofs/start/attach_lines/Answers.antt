use Rattle.std.proofs.Common.{rules, [], ◌∷◌, length, ap, subst, ◌∙◌, arith}
use Rattle.af_io.specs.Observed.{Appended}
use Rattle.af_world.specs.declared.lifecycle.Lifecycle.TheVariants as noted
use Rattle.std.proofs.lemmas.List.{length-map}
use Rattle.af_io.proofs.AppendedLemmas.{stays_stays, appended_by_none}
use Rattle.af_config.specs.Kept.{owned_program}
use Rattle.afd_serve.proofs.StartLemmas.{lines_more, lines_all, lines_in_part, line_failed, program_read}
use Rattle.afd_serve.proofs.start.attach_lines.Goals as goal

pub returns-in-Failed-clause-some : goal.returns-in-Failed-clause-some
returns-in-Failed-clause-some g c =
    let stated = program_read _ _ c.loop-number.number _ c.index-programs-number.is c.line_programs-programs.ensures c.loop-number-test.true in
    line_failed c.args.setting.now _ _ _ c.loop-number.number _ c.requires stated c.loop-number.invariant.below c.in-Failed.ensures.lifecycle

pub returns-in-OutOfMemory-clause-some : goal.returns-in-OutOfMemory-clause-some
returns-in-OutOfMemory-clause-some g c =
    lines_in_part c.args.setting.now _ _ c.loop-number.number (appended_by_none _ _ _ _ c.loop-number.invariant.below c.in-OutOfMemory.ensures.lifecycle)

pub loop-number-preserved : goal.loop-number-preserved
loop-number-preserved g c =
    let read = c.index-programs-number.result in
    let stated = program_read _ _ c.loop-number.number _ c.index-programs-number.is c.line_programs-programs.ensures c.loop-number-test.true in
    let entry = subst (λ words. Appended (g.W.Live.lifecycle c.loop-number.world) (noted.LineAttached read.device read.restarts words ∷ []) (g.W.Live.lifecycle c.attach_line.new.self)) c.words.ensures c.in-Done.ensures.lifecycle in
    record {
      log = stays_stays _ _ _ c.loop-number.invariant.log c.attach_line.ensures.log;
      below = lines_more c.args.setting.now _ _ c.loop-number.number c.loop-number.invariant.below _ _ stated entry;
      world = search rules;
    }

pub returns-clause-all : goal.returns-clause-all
returns-clause-all g c =
    let count = ap length c.line_programs-programs.ensures ∙ length-map c.line_programs-programs.result.now owned_program in
    let end = c.loop-number-test.false in
    lines_all c.args.setting.now _ _ c.loop-number.number c.loop-number.invariant.below (omega (arith, count, end))
