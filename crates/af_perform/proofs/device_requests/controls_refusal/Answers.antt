use Rattle.std.proofs.Common.{rules}
use Rattle.af_model.specs.DeviceRequests.{controls_refusal}
use Rattle.af_perform.proofs.device_requests.controls_refusal.Goals as goal

pub returns : goal.returns
unfolding controls_refusal
returns c = search rules
