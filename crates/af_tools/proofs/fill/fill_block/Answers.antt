use Rattle.std.proofs.Common.{◌-◌, ◌+◌, ◌≤◌, [], ◌++◌, length, take, rules, arith, append-nil, length-take-le}
use borrow.Rule.Slice.PartMut.{post_of, put_mid}
use Rattle.af_lib.proofs.LinkByteLemmas.{Consumed-part}
use Rattle.af_io.proofs.ConsumedLemmas.{consumed_on}
use Rattle.af_tools.proofs.fill.fill_block.Goals as goal

pub loop-filled-preserved : goal.loop-filled-preserved
loop-filled-preserved g c =
    let i = c.loop-filled.invariant in
    let e = c.in-Bytes.ensures in
    let filled = c.loop-filled.filled in
    let past = post_of filled (length c.loop-filled.block - filled) c.loop-filled.block in
    record {
      within = search rules;
      permitted = omega arith;
      consumed = Consumed-part _ _ _ filled c.in-Bytes.count c.loop-filled.block c.read.new.into past i.within e.bound.1 i.consumed e.consumed;
      count = omega arith;
    }

pub returns-then-filled-allowed-clause-long : goal.returns-then-filled-allowed-clause-long
returns-then-filled-allowed-clause-long g c _ =
    let i = c.loop-filled.invariant in
    let e = c.in-Bytes.ensures in
    let filled = c.loop-filled.filled in
    let room = length c.loop-filled.block - filled in
    let past = post_of filled room c.loop-filled.block in
    let block = put_mid filled room c.loop-filled.block c.read.new.into in
    let size : filled + c.in-Bytes.count ≤ length block = search rules in
    let len = length-take-le (filled + c.in-Bytes.count) block size in
    record {
      bytes = take (filled + c.in-Bytes.count) block;
      consumed = Consumed-part _ _ _ filled c.in-Bytes.count c.loop-filled.block c.read.new.into past i.within e.bound.1 i.consumed e.consumed;
      beyond = omega arith;
      within = omega arith;
    }

pub returns-in-Failed-clause-cut : goal.returns-in-Failed-clause-cut
returns-in-Failed-clause-cut g c _ =
    let i = c.loop-filled.invariant in
    let len = length-take-le c.loop-filled.filled c.loop-filled.block i.within in
    record {
      text = take c.loop-filled.filled c.loop-filled.block ++ [];
      consumed = consumed_on _ _ _ _ _ i.consumed c.in-Failed.ensures.consumed;
      within = simp append-nil (omega arith);
    }

pub returns-in-Failed-clause-part : goal.returns-in-Failed-clause-part
returns-in-Failed-clause-part g c _ =
    let i = c.loop-filled.invariant in
    let filled = c.loop-filled.filled in
    let len = length-take-le filled c.loop-filled.block i.within in
    let block = put_mid filled (length c.loop-filled.block - filled) c.loop-filled.block c.read.new.into in
    let size : filled ≤ length block = search rules in
    record {
      text = take filled c.loop-filled.block ++ [];
      consumed = consumed_on _ _ _ _ _ i.consumed c.in-Failed.ensures.consumed;
      within = simp append-nil (omega arith);
    }
