-- The exit statuses of the tools.
use Rattle.std.specs.Prelude.{ℕ, option_map, unwrap_or}
use Rattle.af_answer.specs.declared.end.AnswerEnd.{AnswerEnd}
use Rattle.af_details.specs.AnswerEnds.{as_tool_end}
use Rattle.af_events.specs.declared.end.EventsEnd.{EventsEnd}
use Rattle.af_events.specs.declared.end.EventsEnd.TheVariants as ended
use Rattle.af_toolkit.specs.declared.end.ToolEnd.{ToolEnd}
use Rattle.af_toolkit.specs.declared.end.ToolEnd.TheVariants as end

abbrev pub tool_status : ToolEnd → ℕ
tool_status end.Done = 0
tool_status end.Usage = 2
tool_status end.TooLong = 4
tool_status end.ReadFault = 5
tool_status end.SinkFault = 6
tool_status end.OutOfMemory = 7
tool_status end.DialFault = 12
tool_status end.LinkFault = 13
tool_status end.LinkEnded = 14
tool_status (end.NoDevice devices) = 15
tool_status (end.RateMismatch from to) = 16
tool_status (end.Refused code value) = 17
tool_status (end.BadReply header first) = 18
tool_status end.EventFlood = 19
tool_status (end.ChannelMismatch from to) = 20
tool_status (end.BadSound fault) = 21
tool_status end.SoundCut = 22
tool_status end.SoundLost = 24

-- the exit statuses of the answering machine: those of the tools, and one more
abbrev pub answer_status : AnswerEnd → ℕ
answer_status how = unwrap_or (option_map tool_status (as_tool_end how)) 23

-- and those of the tool that tells events, with the same one more
abbrev pub events_status : EventsEnd → ℕ
events_status (ended.Tool how) = tool_status how
events_status (ended.NoLine device) = 23
