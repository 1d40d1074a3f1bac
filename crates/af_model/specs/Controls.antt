-- The controls of a device: what they make of the samples that it captures and hands out.
use Rattle.std.specs.Prelude.{Bool, ℤ, pos, List, map, if◌then◌else◌}
use Rattle.af_sample.specs.Gains.{gained}
use Rattle.af_request.specs.declared.reply.Controls.{Controls}

-- a sample with a gain, or silence if it is switched off
abbrev pub through_control : Bool → ℤ → ℤ → ℤ
through_control is_on gain x = if is_on then gained x gain else pos 0

-- the samples that a device captures, first of all
abbrev pub through_input_control : Controls → List ℤ → List ℤ
through_input_control controls captured = map (through_control controls.input_on controls.input_gain) captured

-- the samples that leave it, last of all
abbrev pub through_output_control : Controls → List ℤ → List ℤ
through_output_control controls heard = map (through_control controls.output_on controls.output_gain) heard
