-- The ends of an answering machine as those of a tool.
use Rattle.std.specs.Prelude.{Option, None, Some}
use Rattle.af_answer.specs.declared.end.AnswerEnd.{AnswerEnd}
use Rattle.af_answer.specs.declared.end.AnswerEnd.TheVariants as ended
use Rattle.af_toolkit.specs.declared.end.ToolEnd.{ToolEnd}
use Rattle.af_toolkit.specs.declared.end.ToolEnd.TheVariants as end

-- the end of a tool that means the same; a tool needs no line
abbrev pub as_tool_end : AnswerEnd → Option ToolEnd
as_tool_end ended.Done = Some end.Done
as_tool_end ended.Usage = Some end.Usage
as_tool_end ended.DialFault = Some end.DialFault
as_tool_end ended.LinkFault = Some end.LinkFault
as_tool_end ended.LinkEnded = Some end.LinkEnded
as_tool_end (ended.NoDevice devices) = Some (end.NoDevice devices)
as_tool_end (ended.NoLine device) = None
as_tool_end (ended.Refused code value) = Some (end.Refused code value)
as_tool_end (ended.BadReply header first) = Some (end.BadReply header first)
as_tool_end ended.EventFlood = Some end.EventFlood
as_tool_end ended.SinkFault = Some end.SinkFault
as_tool_end ended.OutOfMemory = Some end.OutOfMemory
