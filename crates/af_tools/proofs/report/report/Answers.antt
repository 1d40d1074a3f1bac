use Rattle.std.proofs.Common.{◌<◌, List, ℕ, length, ap, sym, subst, arith, length-append}
use Rattle.af_io.specs.Observed.{Appended}
use Rattle.af_io.specs.Flow.{AppendedPrefix}
use Rattle.af_toolkit.specs.Ends.{is_outer}
use Rattle.af_toolkit.specs.Lost.{finish_by}
use Rattle.af_toolkit.proofs.ToolPartLemmas.{wrote_all, wrote_part}
use Rattle.af_tools.specs.Play.{played_text}
use Rattle.af_tools.proofs.report.report.Goals as goal

played_some : (frames start : ℕ) → 0 < length (played_text frames start)
unfolding played_text
played_some frames start = omega (arith, length-append {A = ℕ})

pub write_piece-requires : goal.write_piece-requires
write_piece-requires g c = subst (λ (l : List ℕ). 0 < length l) (sym c.write_line-length.ensures.bytes) (played_some c.args.played.frames c.args.played.start.0)

pub returns-in-Ok-clause-followed : goal.returns-in-Ok-clause-followed
returns-in-Ok-clause-followed g c sent =
    wrote_all _ (finish_by c.args.strict c.args.played.late) c.end_by.ensures.value (subst (λ (l : List ℕ). Appended (g.K.Sink.held c.args.sink.now) l (g.K.Sink.held c.write_piece.new.sink)) c.write_line-length.ensures.bytes c.in-Ok.ensures.written)

pub returns-in-Err-clause-followed : goal.returns-in-Err-clause-followed
returns-in-Err-clause-followed g c sent =
    let failed = c.in-Err.ensures.written in
    wrote_part _ (finish_by c.args.strict c.args.played.late) (ap is_outer failed.0) (subst (λ (l : List ℕ). AppendedPrefix (g.K.Sink.held c.args.sink.now) l (g.K.Sink.held c.write_piece.new.sink)) c.write_line-length.ensures.bytes failed.1)
