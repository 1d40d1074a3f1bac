-- The arguments of the tools: each tool is one simple command of clap, and its job is what its matches, which clap defines,
-- state.
use Rattle.std.specs.Prelude.{ℕ, ℤ, ◌-◌, ◌&&◌, Bool, true, false, nat_le, List, [], ◌∷◌, length, Option}
use Rattle.std.specs.Prelude.{Some, None, codes, is_some, map, option_and_then, option_map, if◌then◌else◌}
use Rattle.std.specs.Str.{bytes_eq}
use Rattle.std.specs.Option.{option_map_or, option_or}
use Rattle.af_limits.specs.Limits.{longest_address, most_devices}
use Rattle.clap.specs.Words.{App, Row, Rule, Text, first_of, matches_of, new_app, takes, with_rule}
use Rattle.af_cli.specs.declared.argument.Values.{Values}
use Rattle.af_cli.specs.declared.argument.Values.TheVariants.{Address, Device, Number, Decibels, SampleType as NamedType, Form, Order as NamedOrder, Switch, DeviceChoice, EventKinds, Digits, Command, Flag}
use Rattle.af_cli.specs.declared.job.PassJob.{PassJob}
use Rattle.af_cli.specs.declared.job.PlayJob.{PlayJob}
use Rattle.af_cli.specs.declared.job.RecordJob.{RecordJob}
use Rattle.af_cli.specs.declared.job.SetJob.{SetJob}
use Rattle.af_cli.specs.declared.job.Task.{Task}
use Rattle.af_cli.specs.declared.job.Task.TheVariants as task
use Rattle.af_cli.specs.declared.tool.Tool.{Tool}
use Rattle.af_cli.specs.declared.tool.Tool.TheVariants as tool
use Rattle.af_cli.specs.declared.words.CommonOptions.{CommonOptions}
use Rattle.af_sample.specs.declared.sample_type.SampleType.{SampleType}
use Rattle.af_sound.specs.declared.head.SoundForm.{SoundForm}
use Rattle.af_text.specs.Sound.{type_of}
use Rattle.af_wire.specs.declared.order.Order.{Order}
use Rattle.af_cli.specs.Arguments.{Listed, rule_for, tool_arguments}
use Rattle.af_cli.specs.Arguments as argument
use Rattle.af_cli.specs.Digits.{states_digits}
use Rattle.af_cli.specs.Events.{choice_in, kinds_in}
use Rattle.af_cli.specs.Numbers.{◌>>=◌, form_in, gain_in, if_there, number_in, order_in, switch_in}

-- the command with these arguments added, in order
abbrev pub with_rules : App → List Rule → App
with_rules a [] = a
with_rules a (r ∷ rs) = with_rules (with_rule a r) rs

-- the command of this name with these arguments
abbrev pub command_app : Text → List Listed → App
command_app name arguments = with_rules (new_app name) (map rule_for arguments)

-- the value of an argument: the first that is stated, or else its default
abbrev pub value_of : Listed → List Row → Option Text
value_of a rows = option_or (first_of a.name rows) a.default

-- the number that a text states, within the range of an argument that takes numbers
abbrev pub number_by : Values → Text → Option ℕ
number_by Address text = None
number_by Device text = None
number_by (Number low high) text = number_in low high text
number_by Decibels text = None
number_by NamedType text = None
number_by Form text = None
number_by NamedOrder text = None
number_by Switch text = None
number_by DeviceChoice text = None
number_by EventKinds text = None
number_by Digits text = None
number_by Command text = None
number_by Flag text = None

-- the most bytes of a text for a shell
abbrev pub longest_command : ℕ
longest_command = 200

-- a text is such a value
abbrev pub has_value : Values → Text → Bool
has_value Address text = nat_le 1 (length text) && nat_le (length text) longest_address
has_value Device text = is_some (number_in 0 (most_devices - 1) text)
has_value (Number low high) text = is_some (number_in low high text)
has_value Decibels text = is_some (gain_in text)
has_value NamedType text = is_some (type_of text)
has_value Form text = is_some (form_in text)
has_value NamedOrder text = is_some (order_in text)
has_value Switch text = is_some (switch_in (codes "on") (codes "off") text)
has_value DeviceChoice text = is_some (choice_in text)
has_value EventKinds text = is_some (kinds_in text)
has_value Digits text = states_digits text
has_value Command text = nat_le 1 (length text) && nat_le (length text) longest_command
has_value Flag text = true

-- the number of an argument, in its range
abbrev pub number_at : Listed → List Row → Option ℕ
number_at a rows = value_of a rows >>= number_by a.values

-- such a number, if one is stated
abbrev pub stated_number_at : Listed → List Row → Option (Option ℕ)
stated_number_at a rows = if_there (number_by a.values) (value_of a rows)

-- the frames of a block
abbrev pub block_at : List Row → Option ℕ
block_at rows = number_at argument.block rows

-- the number of a device
abbrev pub device_at : Listed → List Row → Option ℕ
device_at a rows = value_of a rows >>= number_in 0 (most_devices - 1)

-- a text of 1 to so many bytes
abbrev pub text_at : Listed → ℕ → List Row → Option Text
text_at a most rows = do
  text ← value_of a rows
  if nat_le 1 (length text) && nat_le (length text) most then Some text else None

-- the address of a server: 1 to 64 bytes
abbrev pub address_at : Listed → List Row → Option Text
address_at a rows = text_at a longest_address rows

-- the byte order of a connection
abbrev pub order_at : List Row → Option Order
order_at rows = value_of argument.order rows >>= order_in

-- for how many seconds a dial that is refused is tried again
abbrev pub wait_at : List Row → Option ℕ
wait_at rows = number_at argument.wait rows

-- the sample type, if one is stated
abbrev pub type_at : List Row → Option (Option SampleType)
type_at rows = if_there type_of (value_of argument.type rows)

-- the gain
abbrev pub gain_at : List Row → Option ℤ
gain_at rows = value_of argument.gain rows >>= gain_in

-- the form of a file; without one, the bytes are samples
abbrev pub form_at : List Row → Option (Option SoundForm)
form_at rows = value_of argument.file rows >>= form_in

-- the flag was given
abbrev pub is_set : Listed → List Row → Bool
is_set a rows = option_map_or (λ value. bytes_eq value (codes "true")) (first_of a.name rows) false

-- what aplay and arecord have in common, if each value is in range
abbrev pub basics_of : List Row → Option CommonOptions
basics_of rows = do
  device ← device_at argument.device rows
  ty ← type_at rows
  gain ← gain_at rows
  block ← block_at rows
  time ← stated_number_at argument.time rows
  Some (record { device = device; ty = ty; gain = gain; block = block; time = time })

-- the form of a source; it is no file if a type is stated, since a file says its own type
abbrev pub form_beside : Option SampleType → Option SoundForm → Option (Option SoundForm)
form_beside ty form = if is_some form && is_some ty then None else Some form

-- the job of aplay
abbrev pub play_job : List Row → Option PlayJob
play_job rows = do
  (basics : CommonOptions) ← basics_of rows
  stated ← form_at rows
  form ← form_beside basics.ty stated
  lead ← number_at argument.lead rows
  ahead ← stated_number_at argument.ahead rows
  Some (record {
    device = basics.device;
    form = form;
    ty = basics.ty;
    gain = basics.gain;
    block = basics.block;
    lead = lead;
    time = basics.time;
    ahead = ahead;
    preempt = is_set argument.preempt rows;
    drain = is_set argument.drain rows;
    strict = is_set argument.strict rows;
  })

-- how much is recorded: so many frames, or no frames yet and so many seconds; exactly one of the two is stated
abbrev pub length_in : (frames seconds : Option ℕ) → Option (ℕ × Option ℕ)
length_in (Some frames) None = Some (frames, None)
length_in None (Some seconds) = Some (0, Some seconds)
length_in (Some frames) (Some seconds) = None
length_in None None = None

abbrev pub length_at : List Row → Option (ℕ × Option ℕ)
length_at rows = do
  frames ← stated_number_at argument.frames rows
  seconds ← stated_number_at argument.seconds rows
  length_in frames seconds

-- the job of arecord
abbrev pub record_job : List Row → Option RecordJob
record_job rows = do
  (basics : CommonOptions) ← basics_of rows
  form ← form_at rows
  (length : ℕ × Option ℕ) ← length_at rows
  stop_peak ← number_at argument.stop_peak rows
  stop_blocks ← number_at argument.stop_blocks rows
  Some (record {
    device = basics.device;
    form = form;
    ty = basics.ty;
    gain = basics.gain;
    block = basics.block;
    time = basics.time;
    frames = length.0;
    seconds = length.1;
    stop_peak = stop_peak;
    stop_blocks = stop_blocks;
    true_header = is_set argument.true_header rows;
    strict = is_set argument.strict rows;
  })

-- the job of aset
abbrev pub set_job : List Row → Option SetJob
set_job rows = do
  device ← device_at argument.device rows
  input_gain ← if_there gain_in (value_of argument.input_gain rows)
  output_gain ← if_there gain_in (value_of argument.output_gain rows)
  input_on ← if_there (switch_in (codes "on") (codes "off")) (value_of argument.input rows)
  output_on ← if_there (switch_in (codes "on") (codes "off")) (value_of argument.output rows)
  hook_off ← if_there (switch_in (codes "off") (codes "on")) (value_of argument.hook rows)
  Some (record {
    device = device;
    input_gain = input_gain;
    output_gain = output_gain;
    input_on = input_on;
    output_on = output_on;
    hook_off = hook_off;
  })

-- how many blocks a relay passes; one that follows the clock may leave them out, and then it goes on until a link ends
abbrev pub blocks_beside : (follow : Bool) → Option ℕ → Option (Option ℕ)
blocks_beside follow None = if follow then Some None else None
blocks_beside follow (Some blocks) = Some (Some blocks)

-- the job of apass
abbrev pub pass_job : List Row → Option PassJob
pass_job rows = do
  from_device ← device_at argument.from_device rows
  to_device ← device_at argument.to_device rows
  ty ← type_at rows
  gain ← gain_at rows
  stated ← stated_number_at argument.blocks rows
  blocks ← blocks_beside (is_set argument.follow rows) stated
  block ← block_at rows
  delay ← number_at argument.delay rows
  slack ← number_at argument.slack rows
  Some (record {
    from_device = from_device;
    to_device = to_device;
    ty = ty;
    gain = gain;
    blocks = blocks;
    block = block;
    delay = delay;
    slack = slack;
    follow = is_set argument.follow rows;
  })

-- what a tool is asked to do: a task with one server, or to pass blocks from one server to another; and the byte order of its
-- connections
pub data Job : Type 0 where
  one : (server : Text) (order : Order) (task : Task) → Job
  relay : (from to : Text) (order : Order) (job : PassJob) → Job

-- a task with one server, if nothing is missing; how long the server is waited for is no matter of the job
abbrev pub job_with : Option Task → List Row → Option Job
job_with found rows = do
  task ← found
  server ← address_at argument.server rows
  order ← order_at rows
  wait ← wait_at rows
  Some (one server order task)

-- a relay, if nothing is missing
abbrev pub relay_with : Option PassJob → List Row → Option Job
relay_with found rows = do
  job ← found
  from ← address_at argument.from rows
  to ← address_at argument.to rows
  order ← order_at rows
  wait ← wait_at rows
  Some (relay from to order job)

-- the job of a tool, by the matches of its command, if each value is in range
abbrev pub job_in : Tool → List Row → Option Job
job_in tool.Play rows = job_with (option_map (λ job. task.Play job) (play_job rows)) rows
job_in tool.Record rows = job_with (option_map (λ job. task.Record job) (record_job rows)) rows
job_in tool.Set rows = job_with (option_map (λ job. task.Set job) (set_job rows)) rows
job_in tool.Pass rows = relay_with (pass_job rows) rows
job_in tool.List rows = job_with (Some task.List) rows

-- the name of a tool
abbrev pub tool_name : Tool → Text
tool_name tool.Play = codes "aplay"
tool_name tool.Record = codes "arecord"
tool_name tool.Set = codes "aset"
tool_name tool.Pass = codes "apass"
tool_name tool.List = codes "list"

-- the tool with a name
abbrev pub tool_named : Text → Option Tool
tool_named name =
    if bytes_eq name (tool_name tool.Play) then Some tool.Play
    else if bytes_eq name (tool_name tool.Record) then Some tool.Record
    else if bytes_eq name (tool_name tool.Set) then Some tool.Set
    else if bytes_eq name (tool_name tool.Pass) then Some tool.Pass
    else if bytes_eq name (tool_name tool.List) then Some tool.List
    else None

-- the command of a tool
unfoldable pub tool_app : Tool → App
tool_app tool = command_app (tool_name tool) (tool_arguments tool)

-- The job of arguments. The first of them names a tool, and the job is that of the matches that clap defines for them, if each
-- value is in range.
unfoldable pub job : List Text → Option Job
job [] = None
job (name ∷ words) = option_and_then (λ tool. job_in tool (matches_of (tool_app tool) (name ∷ words))) (tool_named name)

-- for how many seconds arguments have a refused dial tried again. The first of them names a tool.
unfoldable pub dial_wait : List Text → Option ℕ
dial_wait [] = None
dial_wait (name ∷ words) = option_and_then (λ tool. wait_at (matches_of (tool_app tool) (name ∷ words))) (tool_named name)

-- the command of the named tool takes the arguments
unfoldable pub is_taken : List Text → Bool
is_taken [] = false
is_taken (name ∷ words) = option_map_or (λ tool. takes (tool_app tool) (name ∷ words)) (tool_named name) false

-- the arguments are valid: they name a tool, its command takes them, and each value is in range
abbrev pub is_spelled : List Text → Bool
is_spelled words = is_taken words && is_some (job words)
