use Rattle.std.proofs.Common.{◌-◌, length, rules}
use borrow.Rule.Slice.PartMut.{post_of}
use Rattle.af_backend.proofs.ConsumesLemmas.{Consumes-part}
use Rattle.af_backend.proofs.file_device.fill.Goals as goal

pub loop-count-preserved : goal.loop-count-preserved
loop-count-preserved g c =
    let i = c.loop-count.invariant in
    let reads = c.in-Bytes.ensures.step.reads in
    let count = c.loop-count.count in
    let past = post_of count (length c.loop-count.into - count) c.loop-count.into in
    record {
      within = search rules;
      consumed = Consumes-part _ _ _ count c.in-Bytes.n c.loop-count.into c.read.new.into past i.within reads.1 i.consumed reads.2;
      faults = search rules;
    }
