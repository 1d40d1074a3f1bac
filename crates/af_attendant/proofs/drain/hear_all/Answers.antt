use Rattle.std.proofs.Common.{rules, ◌≡◌, ◌∙◌, refl, sym, true, false, slice_get, None}
use Rattle.af_attendant.specs.AttendantTrace.{ends_now}
use Rattle.af_attendant.proofs.AttendantPartLemmas.{went_here}
use Rattle.af_attendant.proofs.AttendantStepLemmas.{ended_went, not_ended_went}
use Rattle.af_attendant.proofs.HearLemmas.{asked_not, asked_now, ends_running, hear_begins, hear_ends, hear_on, keeps_more}
use Rattle.af_attendant.proofs.drain.hear_all.Goals as goal

pub loop-event-init : goal.loop-event-init
loop-event-init g c = record { keeps = refl; runs = refl; hearing = λ held. hear_begins g.L.Link.left g.L.Link.sent c.args.job.now c.args.runs c.args.conn.now went_here }

pub loop-event-preserved-then-ends_now : goal.loop-event-preserved-then-ends_now
loop-event-preserved-then-ends_now g c =
    let i = c.loop-event.invariant in
    let job = c.args.job.now in
    let e = c.in-Some.event in
    let now : ends_now job c.args.runs c.loop-event.asked e ≡ true = sym c.ends_now.ensures ∙ c.if-ends_now.true in
    record {
      keeps = keeps_more c.args.conn.now c.loop-event.conn i.keeps c.next_event.ensures.rest;
      runs = c.end_command.ensures.runs ∙ sym (c.requires.runs (ends_running job c.args.runs c.loop-event.asked e now)).0;
      hearing = λ held.
          hear_on g.L.Link.left g.L.Link.sent job c.args.runs c.loop-event.conn c.loop-event.asked (i.hearing held) (sym c.in-Some.ensures.oldest) c.next_event.ensures.rest c.hear.ensures
          (ended_went (ends_now job c.args.runs c.loop-event.asked e) c.end_command.ensures.acts now) (asked_now job c.args.runs c.loop-event.asked e now c.cause_by.ensures);
    }

pub loop-event-preserved : goal.loop-event-preserved
loop-event-preserved g c =
    let i = c.loop-event.invariant in
    let job = c.args.job.now in
    let e = c.in-Some.event in
    let no : ends_now job c.args.runs c.loop-event.asked e ≡ false = sym c.ends_now.ensures ∙ c.if-ends_now.false in
    record {
      keeps = keeps_more c.args.conn.now c.loop-event.conn i.keeps c.next_event.ensures.rest;
      runs = i.runs;
      hearing = λ held.
          hear_on g.L.Link.left g.L.Link.sent job c.args.runs c.loop-event.conn c.loop-event.asked (i.hearing held) (sym c.in-Some.ensures.oldest) c.next_event.ensures.rest c.hear.ensures
          (not_ended_went (ends_now job c.args.runs c.loop-event.asked e) no) (asked_not job c.args.runs c.loop-event.asked e no);
    }

pub returns-clause-goes : goal.returns-clause-goes
returns-clause-goes g c held =
    let none : slice_get c.loop-event.conn.ring.events 0 ≡ None = search rules in
    hear_ends g.L.Link.left g.L.Link.sent c.args.job.now c.args.runs c.loop-event.conn c.loop-event.asked (c.loop-event.invariant.hearing held) none c.next_event.ensures.rest
