-- The context that a tool makes.
use Rattle.std.specs.Prelude.{ℕ}
use Rattle.af_sample.specs.SampleTypes.{code_of}
use Rattle.af_request.specs.Asked.{Asked, create_ac}
use Rattle.af_request.specs.Fields.{flag_byte}
use Rattle.af_toolkit.specs.declared.talk.ToolContext.{ToolContext}

-- the request that makes it on a device with so many channels; its number is 1
abbrev pub creates : (channels : ℕ) → ToolContext → Asked
creates channels c = create_ac c.device 1 (code_of c.ty) channels (flag_byte c.preempt) c.play c.record_by
