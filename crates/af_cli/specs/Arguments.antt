-- The arguments of the tools, as the manual lists them.
use Rattle.std.specs.Prelude.{Bool, true, false, List, [], ◌∷◌, Option, Some, None, codes}
use Rattle.clap.specs.Words.{Rule, Text, new_rule}
use Rattle.clap.specs.declared.builder.ArgAction.TheVariants.{SetTrue}
use Rattle.af_cli.specs.declared.argument.Absent.{Absent}
use Rattle.af_cli.specs.declared.argument.Absent.TheVariants as absent
use Rattle.af_cli.specs.declared.argument.Argument.{Argument}
use Rattle.af_cli.specs.declared.argument.Values.{Values}
use Rattle.af_cli.specs.declared.argument.Values.TheVariants.{Address, Device, Number, Decibels, SampleType, Form, Order, Switch, DeviceChoice, EventKinds, Digits, Command, Flag}
use Rattle.af_cli.specs.declared.tool.Tool.{Tool}
use Rattle.af_cli.specs.declared.tool.Tool.TheVariants as tool
use Rattle.af_cli.specs.Lengths.{most_frames, most_seconds}

-- an argument: its name, what its value may be, whether it has to be there, and the value that stands for it where it is not
pub record Listed : Type 0 where
  pub name : Text
  pub values : Values
  pub is_needed : Bool
  pub default : Option Text

-- an argument that has to be there
abbrev pub needed : Text → Values → Listed
needed name values = record { name = name; values = values; is_needed = true; default = None }

-- one that need not be
abbrev pub free : Text → Values → Listed
free name values = record { name = name; values = values; is_needed = false; default = None }

-- one with a default
abbrev pub preset : Text → Values → Text → Listed
preset name values default = record { name = name; values = values; is_needed = false; default = Some default }

-- what the table of a tool says of an argument, but for its help
abbrev pub is_needed_absent : Absent → Bool
is_needed_absent absent.Missing = true
is_needed_absent (absent.Unless flag) = false
is_needed_absent absent.Either = false
is_needed_absent (absent.Default value) = false
is_needed_absent (absent.Otherwise text) = false

abbrev pub default_absent : Absent → Option Text
default_absent absent.Missing = None
default_absent (absent.Unless flag) = None
default_absent absent.Either = None
default_absent (absent.Default value) = Some value.now
default_absent (absent.Otherwise text) = None

abbrev pub as_listed : Argument → Listed
as_listed a =
    record { name = a.name.now; values = a.values; is_needed = is_needed_absent a.absent; default = default_absent a.absent }

-- the rule of clap for `--name VALUE` or `--name=VALUE`
abbrev pub option_rule : Listed → Rule
option_rule a = record (new_rule a.name) { long = Some a.name; required = a.is_needed }

-- the rule of clap for an argument: an address is a word of its own, and a flag has no value
abbrev pub rule_by : Values → Listed → Rule
rule_by Address a = record (new_rule a.name) { required = true }
rule_by Device a = option_rule a
rule_by (Number low high) a = option_rule a
rule_by Decibels a = option_rule a
rule_by SampleType a = option_rule a
rule_by Form a = option_rule a
rule_by Order a = option_rule a
rule_by Switch a = option_rule a
rule_by DeviceChoice a = option_rule a
rule_by EventKinds a = option_rule a
rule_by Digits a = option_rule a
rule_by Command a = option_rule a
rule_by Flag a = record (new_rule a.name) { long = Some a.name; action = Some SetTrue }

abbrev pub rule_for : Listed → Rule
rule_for a = rule_by a.values a

-- the servers
abbrev pub server : Listed
server = needed (codes "SERVER") Address

abbrev pub from : Listed
from = needed (codes "FROM") Address

abbrev pub to : Listed
to = needed (codes "TO") Address

-- the devices, by their numbers
abbrev pub device_named : Text → Listed
device_named name = preset name Device (codes "0")

abbrev pub device : Listed
device = device_named (codes "device")

abbrev pub from_device : Listed
from_device = device_named (codes "from-device")

abbrev pub to_device : Listed
to_device = device_named (codes "to-device")

-- the byte order of a connection, the form of a file, and the sample type
abbrev pub order : Listed
order = preset (codes "order") Order (codes "big")

abbrev pub file : Listed
file = preset (codes "file") Form (codes "raw")

abbrev pub type : Listed
type = free (codes "type") SampleType

-- for how many seconds a server is waited for
abbrev pub wait : Listed
wait = preset (codes "wait") (Number 0 3600) (codes "0")

-- the gain, and the frames of a block
abbrev pub gain : Listed
gain = preset (codes "gain") Decibels (codes "0")

abbrev pub block : Listed
block = preset (codes "block") (Number 1 4000) (codes "1000")

-- when sound begins: at a time of the device, or so many milliseconds from now
abbrev pub time : Listed
time = free (codes "time") (Number 0 4294967295)

abbrev pub lead : Listed
lead = preset (codes "lead") (Number 0 60000) (codes "100")

abbrev pub ahead : Listed
ahead = free (codes "ahead") (Number 20 4000)

abbrev pub preempt : Listed
preempt = free (codes "preempt") Flag

abbrev pub drain : Listed
drain = free (codes "drain") Flag

-- whether sound that is lost is an end of its own
abbrev pub strict : Listed
strict = free (codes "strict") Flag

-- how much is recorded, and what quiet ends it
abbrev pub frames : Listed
frames = free (codes "frames") (Number 1 most_frames)

abbrev pub seconds : Listed
seconds = free (codes "seconds") (Number 1 most_seconds)

abbrev pub stop_peak : Listed
stop_peak = preset (codes "stop-peak") (Number 0 32768) (codes "0")

abbrev pub stop_blocks : Listed
stop_blocks = preset (codes "stop-blocks") (Number 1 1000000) (codes "1")

-- whether the header of a file is kept true to what was written
abbrev pub true_header : Listed
true_header = free (codes "true-header") Flag

-- the controls of a device, and its hook
abbrev pub input : Listed
input = free (codes "input") Switch

abbrev pub input_gain : Listed
input_gain = free (codes "input-gain") Decibels

abbrev pub output : Listed
output = free (codes "output") Switch

abbrev pub output_gain : Listed
output_gain = free (codes "output-gain") Decibels

abbrev pub hook : Listed
hook = free (codes "hook") Switch

-- what a relay passes, and when
abbrev pub blocks : Listed
blocks = free (codes "blocks") (Number 1 1000000)

abbrev pub delay : Listed
delay = preset (codes "delay") (Number 0 3000) (codes "200")

abbrev pub slack : Listed
slack = preset (codes "slack") (Number 0 3000) (codes "100")

abbrev pub follow : Listed
follow = free (codes "follow") Flag

-- the arguments of each tool
unfoldable pub play_arguments : List Listed
play_arguments =
    server ∷ device ∷ file ∷ type ∷ gain ∷ block ∷ lead ∷ time ∷ ahead ∷ preempt ∷ drain ∷ strict ∷ order ∷ wait ∷ []

unfoldable pub record_arguments : List Listed
record_arguments =
    server ∷ frames ∷ seconds ∷ device ∷ file ∷ type ∷ gain ∷ block ∷ time ∷ stop_peak ∷ stop_blocks ∷ true_header
    ∷ strict ∷ order ∷ wait ∷ []

unfoldable pub set_arguments : List Listed
set_arguments = server ∷ device ∷ input ∷ input_gain ∷ output ∷ output_gain ∷ hook ∷ order ∷ wait ∷ []

unfoldable pub pass_arguments : List Listed
pass_arguments =
    from ∷ to ∷ blocks ∷ from_device ∷ to_device ∷ type ∷ gain ∷ block ∷ delay ∷ slack ∷ follow ∷ order ∷ wait ∷ []

unfoldable pub list_arguments : List Listed
list_arguments = server ∷ order ∷ wait ∷ []

abbrev pub tool_arguments : Tool → List Listed
tool_arguments tool.Play = play_arguments
tool_arguments tool.Record = record_arguments
tool_arguments tool.Set = set_arguments
tool_arguments tool.Pass = pass_arguments
tool_arguments tool.List = list_arguments
