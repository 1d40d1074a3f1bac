use Rattle.std.proofs.Common.{length, take, drop, ap, sym, ◌∙◌, arith}
use Rattle.std.proofs.lemmas.List.{take-append-drop, length-drop}
use Rattle.af_io.proofs.KnownBytesLemmas.{Appends-Keeps, Appends-part, rest_whole}
use Rattle.af_io.proofs.real.write_whole.Goals as goal

pub returns-in_default : goal.returns-in_default
returns-in_default g c = record {
  front = take c.loop-written.written c.args.piece.now;
  rest = drop c.loop-written.written c.args.piece.now;
  whole = sym (take-append-drop c.loop-written.written c.args.piece.now);
  appends = Appends-Keeps _ _ _ _ c.loop-written.invariant.1 c.in_default.ensures;
}

pub loop-written-preserved : goal.loop-written-preserved
loop-written-preserved g c =
    let wrote = c.in-Some.ensures in
    let rest = ap length (rest_whole c.loop-written.written c.args.piece.now) ∙ length-drop c.loop-written.written c.args.piece.now in
    (omega arith, Appends-part _ _ _ c.loop-written.written c.in-Some.count c.args.piece.now c.loop-written.invariant.1 wrote.2)
