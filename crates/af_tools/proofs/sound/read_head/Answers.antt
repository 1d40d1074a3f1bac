use Rattle.std.proofs.Common.{rules, arith, refl}
use Rattle.af_tools.proofs.HeadReadLemmas.{byte_read, ended_read, gave_bad, gave_long, gave_open, read_bad, read_begin, read_head, read_more, read_too_long, read_whole, takes_bad, takes_cut, takes_failed, takes_head, takes_too_long}
use Rattle.af_tools.proofs.sound.read_head.Goals as goal

pub returns-in-Bytes-clause-brings : goal.returns-in-Bytes-clause-brings
returns-in-Bytes-clause-brings g c bytes told tells =
    let i = c.loop-size.invariant in
    let more = byte_read c.in-Bytes.field-0 c.read.new.into (g.S.Source.left c.loop-size.source) (g.S.Source.left c.read.new.self) (search rules) c.in-Bytes.ensures.bound.0 c.in-Bytes.ensures.consumed in
    let many = c.if-size-eq-MOST_BYTES.true in
    read_too_long i.read more i.opens (omega arith) bytes told tells

pub returns-in-Bytes-clause-takes : goal.returns-in-Bytes-clause-takes
returns-in-Bytes-clause-takes g c =
    let more = byte_read c.in-Bytes.field-0 c.read.new.into (g.S.Source.left c.loop-size.source) (g.S.Source.left c.read.new.self) (search rules) c.in-Bytes.ensures.bound.0 c.in-Bytes.ensures.consumed in
    let many = c.if-size-eq-MOST_BYTES.true in
    takes_too_long c.loop-size.invariant.read more (omega arith)

pub returns-in-Ended-clause-brings : goal.returns-in-Ended-clause-brings
returns-in-Ended-clause-brings g c bytes told tells =
    let i = c.loop-size.invariant in
    ended_read (g.S.Source.left c.read.new.self) i.read c.in-Ended.ensures.consumed i.permitted i.opens c.in-Ended.ensures.bound bytes told tells

pub returns-in-Ended-clause-takes : goal.returns-in-Ended-clause-takes
returns-in-Ended-clause-takes g c =
    let i = c.loop-size.invariant in
    takes_cut (g.S.Source.left c.read.new.self) i.read c.in-Ended.ensures.consumed i.permitted i.opens c.in-Ended.ensures.bound

pub returns-in-Failed-clause-takes : goal.returns-in-Failed-clause-takes
returns-in-Failed-clause-takes g c =
    let i = c.loop-size.invariant in
    takes_failed (g.S.Source.left c.read.new.self) i.read c.in-Failed.ensures.consumed i.permitted

pub returns-in-Head-clause-brings : goal.returns-in-Head-clause-brings
returns-in-Head-clause-brings g c bytes told tells =
    let r = c.loop-size.invariant.read in
    let more = byte_read c.in-Bytes.field-0 c.read.new.into (g.S.Source.left c.loop-size.source) (g.S.Source.left c.read.new.self) (search rules) c.in-Bytes.ensures.bound.0 c.in-Bytes.ensures.consumed in
    read_whole r more c.in-Head.head ((c.in-Head.ensures.head c.args.form r.bytes c.in-Head.head r.taken).0 refl) bytes told tells

pub returns-in-Head-clause-read : goal.returns-in-Head-clause-read
returns-in-Head-clause-read g c =
    let i = c.loop-size.invariant in
    let r = i.read in
    let more = byte_read c.in-Bytes.field-0 c.read.new.into (g.S.Source.left c.loop-size.source) (g.S.Source.left c.read.new.self) (search rules) c.in-Bytes.ensures.bound.0 c.in-Bytes.ensures.consumed in
    read_head r more c.in-Head.head (omega (arith, c.if-size-eq-MOST_BYTES.false, i.permitted)) ((c.in-Head.ensures.head c.args.form r.bytes c.in-Head.head r.taken).0 refl)

pub returns-in-Head-clause-takes : goal.returns-in-Head-clause-takes
returns-in-Head-clause-takes g c =
    let i = c.loop-size.invariant in
    let more = byte_read c.in-Bytes.field-0 c.read.new.into (g.S.Source.left c.loop-size.source) (g.S.Source.left c.read.new.self) (search rules) c.in-Bytes.ensures.bound.0 c.in-Bytes.ensures.consumed in
    takes_head i.read more (omega (arith, c.if-size-eq-MOST_BYTES.false, i.permitted))

pub returns-in-Bad-clause-brings : goal.returns-in-Bad-clause-brings
returns-in-Bad-clause-brings g c bytes told tells =
    let i = c.loop-size.invariant in
    let r = i.read in
    let more = byte_read c.in-Bytes.field-0 c.read.new.into (g.S.Source.left c.loop-size.source) (g.S.Source.left c.read.new.self) (search rules) c.in-Bytes.ensures.bound.0 c.in-Bytes.ensures.consumed in
    read_bad r more c.in-Bad.fault (omega (arith, c.if-size-eq-MOST_BYTES.false, i.permitted)) ((c.in-Bad.ensures.bad c.args.form r.bytes c.in-Bad.fault r.taken).0 refl) bytes told tells

pub returns-in-Bad-clause-takes : goal.returns-in-Bad-clause-takes
returns-in-Bad-clause-takes g c =
    let i = c.loop-size.invariant in
    let r = i.read in
    let more = byte_read c.in-Bytes.field-0 c.read.new.into (g.S.Source.left c.loop-size.source) (g.S.Source.left c.read.new.self) (search rules) c.in-Bytes.ensures.bound.0 c.in-Bytes.ensures.consumed in
    takes_bad r more c.in-Bad.fault (omega (arith, c.if-size-eq-MOST_BYTES.false, i.permitted)) ((c.in-Bad.ensures.bad c.args.form r.bytes c.in-Bad.fault r.taken).0 refl)

pub loop-size-preserved : goal.loop-size-preserved
loop-size-preserved g c =
    let i = c.loop-size.invariant in
    let r = i.read in
    let e = c.in-Bytes.ensures in
    let more = byte_read c.in-Bytes.field-0 c.read.new.into (g.S.Source.left c.loop-size.source) (g.S.Source.left c.read.new.self) (search rules) e.bound.0 e.consumed in
    let few = c.if-size-eq-MOST_BYTES.false in
    let most = i.permitted in
    record {
      opens = c.in-More.ensures.open.0 refl;
      one = search rules;
      permitted = omega arith;
      count = omega (arith, i.count, e.count);
      read = read_more r more (c.in-More.ensures.taken c.args.form r.bytes r.taken);
    }

pub loop-size-init : goal.loop-size-init
loop-size-init g c = record {
  opens = c.new-reader.ensures.open;
  one = refl;
  permitted = omega arith;
  count = omega arith;
  read = read_begin c.args.form c.new-reader.result _ c.new-reader.ensures.taken;
}

pub returns-in-Bytes-clause-front : goal.returns-in-Bytes-clause-front
returns-in-Bytes-clause-front g c bytes told tells =
    let i = c.loop-size.invariant in
    let more = byte_read c.in-Bytes.field-0 c.read.new.into (g.S.Source.left c.loop-size.source) (g.S.Source.left c.read.new.self) (search rules) c.in-Bytes.ensures.bound.0 c.in-Bytes.ensures.consumed in
    gave_long i.read i.opens bytes told more tells

pub returns-in-Ended-clause-front : goal.returns-in-Ended-clause-front
returns-in-Ended-clause-front g c bytes told tells =
    let i = c.loop-size.invariant in
    gave_open i.read i.opens bytes told c.in-Ended.ensures.consumed tells

pub returns-in-Failed-clause-front : goal.returns-in-Failed-clause-front
returns-in-Failed-clause-front g c bytes told tells =
    let i = c.loop-size.invariant in
    gave_open i.read i.opens bytes told c.in-Failed.ensures.consumed tells

pub returns-in-Bad-clause-front : goal.returns-in-Bad-clause-front
returns-in-Bad-clause-front g c bytes told tells =
    let i = c.loop-size.invariant in
    let r = i.read in
    let more = byte_read c.in-Bytes.field-0 c.read.new.into (g.S.Source.left c.loop-size.source) (g.S.Source.left c.read.new.self) (search rules) c.in-Bytes.ensures.bound.0 c.in-Bytes.ensures.consumed in
    gave_bad r i.opens bytes told more tells c.in-Bad.fault ((c.in-Bad.ensures.bad c.args.form r.bytes c.in-Bad.fault r.taken).0 refl)
