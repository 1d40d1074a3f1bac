use Rattle.std.proofs.Common.{rules, arith, List, ℕ, ◌≡◌, ◌≤◌, ◌∙◌, length, length-take-le, take, refl, ap, sym}
use Rattle.std.proofs.lemmas.List.{take_all, take_at}
use Rattle.std.specs.declared.option.Option.TheVariants.{None}
use Rattle.af_lib.specs.Calls.{ConnState}
use Rattle.af_relay.specs.Pass.{after_block, moment_of, played_samples}
use Rattle.af_toolkit.proofs.PartLemmas.{goes_stop, goes_through, goes_value}
use Rattle.af_relay.proofs.RelayPartLemmas.{asked_from, asked_to, is_relay}
use Rattle.af_relay.proofs.TimeWordLemmas.{called_word}
use Rattle.af_relay.proofs.pass.pass_block.Goals as goal

pub returns-in_err-record_run-clause-goes : goal.returns-in_err-record_run-clause-goes
returns-in_err-record_run-clause-goes g c =
    let room = c.requires.room in
    let fits : c.args.plan.now.pace.size ≤ length c.args.room.now = omega (arith, room) in
    let size = length-take-le c.args.plan.now.pace.size c.args.room.now fits in
    goes_stop is_relay _ (search rules) (asked_from (rw size at c.in_err-record_run.ensures.called) c.requires.usable.0)

pub returns-in_err-now-clause-goes : goal.returns-in_err-now-clause-goes
returns-in_err-now-clause-goes g c =
    let room = c.requires.room in
    let fits : c.args.plan.now.pace.size ≤ length c.args.room.now = omega (arith, room) in
    let size = length-take-le c.args.plan.now.pace.size c.args.room.now fits in
    goes_through is_relay _ (asked_from (rw size at c.in_ok-record_run.ensures.called) c.requires.usable.0)
    (goes_stop is_relay _ (search rules) (asked_to (called_word tt c.in_err-now.ensures) c.requires.usable.1))

pub returns-in_err-play_run-clause-goes : goal.returns-in_err-play_run-clause-goes
returns-in_err-play_run-clause-goes g c =
    let room = c.requires.room in
    let fits : c.args.plan.now.pace.size ≤ length c.args.room.now = omega (arith, room) in
    let size = length-take-le c.args.plan.now.pace.size c.args.room.now fits in
    let usable_to : c.get_time.new.self.cause ≡ None = ap (λ (conn : ConnState _). conn.cause) (c.in_ok-now.ensures.keeps c.requires.usable.1) in
    let block = c.record_run.new.into in
    let kept : length block ≡ length (take c.args.plan.now.pace.size c.args.room.now) = search rules in
    let all : c.in_ok-record_run.field-0.1 ≡ length (take c.args.plan.now.pace.size c.args.room.now) = c.in_ok-record_run.ensures.all refl in
    let whole : take c.in_ok-record_run.field-0.1 block ≡ block = take_all c.in_ok-record_run.field-0.1 block (omega (arith, kept, all)) in
    let place = c.moment_of-place.ensures in
    let laid : take c.lay_out-played.result c.lay_out-played.new.room ≡ played_samples c.moment_of-place.result.last c.args.plan.now.pace.frame (take c.in_ok-record_run.field-0.1 block) =
    c.lay_out-played.ensures.bytes ∙ ap (λ (l : List ℕ). played_samples c.moment_of-place.result.last c.args.plan.now.pace.frame l) (take_at block _ c.args.plan.now.pace.size (kept ∙ size) ∙ sym whole) in
    goes_through is_relay _ (asked_from (rw size at c.in_ok-record_run.ensures.called) c.requires.usable.0)
    (goes_through is_relay _ (asked_to (called_word (omega arith) c.in_ok-now.ensures) c.requires.usable.1)
    (goes_stop is_relay _ (search rules) (asked_to (rw (laid, place) at c.in_err-play_run.ensures) usable_to)))

pub returns-clause-goes : goal.returns-clause-goes
returns-clause-goes g c =
    let room = c.requires.room in
    let fits : c.args.plan.now.pace.size ≤ length c.args.room.now = omega (arith, room) in
    let size = length-take-le c.args.plan.now.pace.size c.args.room.now fits in
    let usable_to : c.get_time.new.self.cause ≡ None = ap (λ (conn : ConnState _). conn.cause) (c.in_ok-now.ensures.keeps c.requires.usable.1) in
    let block = c.record_run.new.into in
    let kept : length block ≡ length (take c.args.plan.now.pace.size c.args.room.now) = search rules in
    let all : c.in_ok-record_run.field-0.1 ≡ length (take c.args.plan.now.pace.size c.args.room.now) = c.in_ok-record_run.ensures.all refl in
    let whole : take c.in_ok-record_run.field-0.1 block ≡ block = take_all c.in_ok-record_run.field-0.1 block (omega (arith, kept, all)) in
    let place = c.moment_of-place.ensures in
    let laid : take c.lay_out-played.result c.lay_out-played.new.room ≡ played_samples c.moment_of-place.result.last c.args.plan.now.pace.frame (take c.in_ok-record_run.field-0.1 block) =
    c.lay_out-played.ensures.bytes ∙ ap (λ (l : List ℕ). played_samples c.moment_of-place.result.last c.args.plan.now.pace.frame l) (take_at block _ c.args.plan.now.pace.size (kept ∙ size) ∙ sym whole) in
    let end : c.after_block.result ≡ after_block c.args.passed (moment_of c.args.plan.now.pace c.args.passed.due c.in_ok-now.now) c.args.plan.now.pace.frames = c.after_block.ensures.value ∙ ap (λ p. after_block c.args.passed p c.args.plan.now.pace.frames) place in
    rw end (goes_through is_relay _ (asked_from (rw size at c.in_ok-record_run.ensures.called) c.requires.usable.0)
    (goes_through is_relay _ (asked_to (called_word (omega arith) c.in_ok-now.ensures) c.requires.usable.1)
    (goes_through is_relay _ (asked_to (rw (laid, place) at c.in_ok-play_run.ensures) usable_to) (goes_value is_relay _))))
