use Rattle.std.proofs.Common.{rules, arith, length, refl, ◌-◌}
use borrow.Rule.Slice.PartMut.{post_of}
use Rattle.af_lib.proofs.LinkByteLemmas.{Consumed-part}
use Rattle.af_lib.proofs.OnlyReading.{read_on, read_where}
use Rattle.af_lib.proofs.receive.fill.Goals as goal

pub loop-filled-preserved : goal.loop-filled-preserved
loop-filled-preserved g c =
    let i = c.loop-filled.invariant in
    let e = c.in-Bytes.ensures in
    let filled = c.loop-filled.filled in
    let room = length c.loop-filled.into - filled in
    let past = post_of filled room c.loop-filled.into in (
      search rules,
      Consumed-part _ _ _ filled c.in-Bytes.count c.loop-filled.into c.read.new.into past i.0 e.bound.1 i.1 e.consumed,
      read_on i.2 (record { sends = e.sends; tells = e.tells; counts = (e.count, λ never. absurd never) }),
    )

pub loop-filled-init : goal.loop-filled-init
loop-filled-init g c = (search rules, search rules, record { sends = refl; tells = λ told. told; counts = (omega arith, λ never. absurd never) })

pub returns-in-Ended-clause-reads : goal.returns-in-Ended-clause-reads
returns-in-Ended-clause-reads g c =
    let e = c.in-Ended.ensures in
    read_on c.loop-filled.invariant.2 (record { sends = e.sends; tells = e.tells; counts = (e.count, λ failed. cc) })

pub returns-in-Failed-clause-reads : goal.returns-in-Failed-clause-reads
returns-in-Failed-clause-reads g c =
    let e = c.in-Failed.ensures in
    read_on c.loop-filled.invariant.2 (record { sends = e.sends; tells = e.tells; counts = (e.count, λ failed. e.cause refl) })

pub returns-clause-reads : goal.returns-clause-reads
returns-clause-reads g c = read_where (λ failed. cc) c.loop-filled.invariant.2
