use Rattle.std.proofs.Common.{rules}
use Rattle.af_state.proofs.PlayLemmas.{starts}
use Rattle.af_state.proofs.device.Device.new.Goals as goal

pub returns : goal.returns
returns c =
    starts c.args.spec c.in_ok-next.next c.in_ok-last.last _ _ c.opening_controls.ensures c.opening_line.ensures c.requires.rate c.requires.channels (search rules)
    (record { time = c.in_ok-next.ensures.time; channels = c.in_ok-next.ensures.channels; horizon = c.in_ok-next.ensures.horizon; silence = c.in_ok-next.ensures.next })
    (record { time = c.in_ok-last.ensures.time; channels = c.in_ok-last.ensures.channels; horizon = c.in_ok-last.ensures.horizon; silence = c.in_ok-last.ensures.last })
