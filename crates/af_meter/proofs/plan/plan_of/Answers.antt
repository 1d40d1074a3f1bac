use Rattle.af_request.proofs.ReplyRoundTrips.{rate_below}
use Rattle.af_meter.proofs.plan.plan_of.Goals as goal

pub frames_in-frames-requires-clause-rate : goal.frames_in-frames-requires-clause-rate
frames_in-frames-requires-clause-rate c = rate_below c.args.device.rate c.requires.shape.rate

pub span_at-quiet-requires-clause-rate : goal.span_at-quiet-requires-clause-rate
span_at-quiet-requires-clause-rate c = rate_below c.args.device.rate c.requires.shape.rate
