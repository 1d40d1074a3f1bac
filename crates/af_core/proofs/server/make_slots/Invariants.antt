use Rattle.std.proofs.Common.{◌≡◌, replicate}
use Rattle.std.specs.declared.option.Option.TheVariants.{None}
use Rattle.af_core.proofs.server.make_slots.Given as goal

abbrev pub invariant-loop-number : goal.invariant-loop-number
invariant-loop-number l = l.slots.items ≡ replicate l._number None
