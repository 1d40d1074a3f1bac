use Rattle.std.proofs.Common.{◌≡◌, ◌+◌, ◌/◌, ◌%◌, ◌^◌, length, subst, sym, ap, ◌∙◌}
use Rattle.af_limits.specs.Limits.{longest_tick}
use Rattle.af_ring.specs.Cells.{ClearsRun, IsRunAt}
use Rattle.af_sample.specs.Channels.{frame_count}
use Rattle.af_buffers.specs.PlayBuffer.{PlayWindow, next_of, HandsOut, IsRingOf}
use Rattle.af_buffers.proofs.PlayRingLemmas.{hands_out, ring_of_hand_out, whole_of, few_of}
use Rattle.af_buffers.proofs.play.PlayBuffer.hand_out.Goals as goal

pub invariant_of-self : goal.invariant_of-self
invariant_of-self c =
    let whole = whole_of c.self.inside.ring c.self.inside.time.0 c.self.inside.channels c.self.inside.horizon c.args.self.now c.args.out.now c.read_run.new.out c.self.view_is c.read_run.auto.out c.requires.whole in
    let few = few_of c.self.inside.ring c.self.inside.time.0 c.self.inside.channels c.self.inside.horizon longest_tick c.args.self.now c.args.out.now c.read_run.new.out c.self.view_is c.read_run.auto.out c.requires.count in
    let later : c.after-self-inside.result.0 ≡ (c.self.inside.time.0 + frame_count c.self.inside.channels c.read_run.new.out) % 2 ^ 32 =
    c.after-self-inside.ensures ∙ ap (λ m. (c.self.inside.time.0 + length c.read_run.new.out / m) % 2 ^ 32) c.from.ensures in
    subst (λ t. IsRingOf c.clear_run.new.self t c.self.inside.channels c.self.inside.horizon) (sym later)
    (ring_of_hand_out c.self.inside.channels c.self.inside.ring c.clear_run.new.self c.read_run.new.out c.self.inside.time.0 c.self.inside.horizon c.self.invariant few whole
    (subst (λ p. ClearsRun c.self.inside.ring c.clear_run.new.self p (length c.read_run.new.out)) c.first_cell-cell.ensures c.clear_run.ensures))

pub returns-clause-next : goal.returns-clause-next
returns-clause-next c =
    let whole = whole_of c.self.inside.ring c.self.inside.time.0 c.self.inside.channels c.self.inside.horizon c.args.self.now c.args.out.now c.read_run.new.out c.self.view_is c.read_run.auto.out c.requires.whole in
    let few = few_of c.self.inside.ring c.self.inside.time.0 c.self.inside.channels c.self.inside.horizon longest_tick c.args.self.now c.args.out.now c.read_run.new.out c.self.view_is c.read_run.auto.out c.requires.count in
    let later : c.after-self-inside.result.0 ≡ (c.self.inside.time.0 + frame_count c.self.inside.channels c.read_run.new.out) % 2 ^ 32 =
    c.after-self-inside.ensures ∙ ap (λ m. (c.self.inside.time.0 + length c.read_run.new.out / m) % 2 ^ 32) c.from.ensures in
    subst (λ (v : PlayWindow). HandsOut v (next_of c.clear_run.new.self c.after-self-inside.result.0 c.self.inside.channels c.self.inside.horizon) c.read_run.new.out) c.self.view_is
    (subst (λ t. HandsOut (next_of c.self.inside.ring c.self.inside.time.0 c.self.inside.channels c.self.inside.horizon) (next_of c.clear_run.new.self t c.self.inside.channels c.self.inside.horizon) c.read_run.new.out) (sym later)
    (hands_out c.self.inside.channels c.self.inside.ring c.clear_run.new.self c.read_run.new.out c.self.inside.time.0 c.self.inside.horizon c.self.invariant few whole
    (subst (IsRunAt c.read_run.new.out c.self.inside.ring) c.first_cell-cell.ensures c.read_run.ensures)
    (subst (λ p. ClearsRun c.self.inside.ring c.clear_run.new.self p (length c.read_run.new.out)) c.first_cell-cell.ensures c.clear_run.ensures)))
