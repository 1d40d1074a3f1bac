-- What list does: for each device of the server, in the order of numbers, it asks for its state and its time, and writes a line.
use Rattle.std.specs.Prelude.{◌≡◌, ◌⊎◌, ⊤, ℕ, length, Ok, ◌+◌, Bool, true, List, [], ◌∷◌, ◌++◌, codes, decimal, is_some}
use Rattle.std.specs.declared.option.Option.{Option}
use Rattle.std.specs.declared.option.Option.TheVariants.{None, Some}
use Rattle.af_sample.specs.declared.sample_type.SampleType.{SampleType}
use Rattle.af_sample.specs.declared.sample_type.SampleType.TheVariants as ty
use Rattle.af_request.specs.declared.reply.DeviceInfo.{DeviceInfo}
use Rattle.af_request.specs.declared.reply.Phone.{Phone}
use Rattle.af_request.specs.Asked.{get_time}
use Rattle.af_lib.specs.Calls.{ConnState, as_time}
use Rattle.af_toolkit.specs.declared.end.ToolEnd.{ToolEnd}
use Rattle.af_toolkit.specs.declared.end.ToolEnd.TheVariants as end
use Rattle.af_toolkit.specs.Parts.{goes_on, has_value}
use Rattle.af_toolkit.specs.Trace.{Trace, ClientState, done, ends, refused}
use Rattle.af_toolkit.specs.ToolParts.{ToolPart, asks, doing, trace_of, writes}
use Rattle.af_toolkit.specs.Steps.{WroteThrough}
use Rattle.af_toolkit.specs.Ends.{client_of, is_of_link_or_sink, ToolRan}
use Rattle.af_standing.specs.declared.controls_report.ControlsReport.{ControlsReport}
use Rattle.af_standing.specs.ControlsReport.{asks_controls_report, control_text, phone_text}

-- the word for a sample type
abbrev pub type_text : SampleType → List ℕ
type_text ty.Mu255 = codes "mu255"
type_text ty.Alaw = codes "alaw"
type_text ty.Lin16 = codes "lin16"
type_text ty.Lin32 = codes "lin32"

-- the number of a device, its type, its rate, its channels, and its time
unfoldable pub front_text : (number : ℕ) → DeviceInfo → (now : ℕ) → List ℕ
front_text number device now =
    decimal number ++ codes " " ++ type_text device.ty ++ codes " " ++ decimal device.rate ++ codes " "
    ++ decimal device.channels ++ codes " " ++ decimal now

-- the flags of its line, if it has one
abbrev pub line_words : Option Phone → List ℕ
line_words (Some p) = codes " " ++ phone_text p
line_words None = []

-- its state, in the words of aset
abbrev pub controls_report_words : ControlsReport → List ℕ
controls_report_words s =
    codes " " ++ control_text (codes "input") s.controls.input_on s.controls.input_gain
    ++ codes " " ++ control_text (codes "output") s.controls.output_on s.controls.output_gain
    ++ line_words s.phone

-- the line of a device
unfoldable pub device_line : (number : ℕ) → DeviceInfo → ControlsReport → (now : ℕ) → List ℕ
device_line number device controls_report now =
    front_text number device now ++ controls_report_words controls_report ++ codes "\n"

-- a device is asked for its state, and for its time, and its line is written
abbrev pub tells_device : (number : ℕ) → DeviceInfo → ToolPart (Unit {0})
tells_device number device =
    goes_on doing (asks_controls_report device.line number) (λ controls_report.
    goes_on doing (asks (get_time number) as_time) (λ now.
    writes (device_line number device controls_report now.0)))

-- the same for devices, one after another, from this number on
abbrev pub tells_from : (number : ℕ) → List DeviceInfo → ToolPart (Unit {0})
tells_from number [] = has_value doing tt
tells_from number (device ∷ more) = goes_on doing (tells_device number device) (λ _. tells_from (number + 1) more)

-- the trace of list, by the devices of the server and what the link gives
unfoldable pub list_trace : List DeviceInfo → ClientState → Trace
list_trace devices w = trace_of refused (tells_from 0 devices w) (λ _. ends done)

-- the ends of list
abbrev pub is_of_list : ToolEnd → Bool
is_of_list end.Done = true
is_of_list how = is_of_link_or_sink how

-- A text has a line for each of some devices, in order, from this number on, with the flags of a line where the device has one.
abbrev pub HasLines : (number : ℕ) → List DeviceInfo → List ℕ → Type 0
HasLines number [] text = text ≡ []
HasLines number (device ∷ more) text =
    (controls_report : ControlsReport) × (now : ℕ) × (rest : List ℕ) × (is_some controls_report.phone ≡ device.line)
    × (text ≡ device_line number device controls_report now ++ rest) × HasLines (number + 1) more rest

-- list ran, and wrote a line for each device if it is done
pub record ListRan (devices : List DeviceInfo) (w : ClientState) (how : ToolEnd)
    (sent sent' held held' : Option (List ℕ)) : Type 0 where
  pub ran : ToolRan ⊤ (list_trace devices w) how sent sent' held held'
  pub listed : how ≡ end.Done → HasLines 0 devices ran.followed.output

-- the same over a connection whose link is observable
abbrev pub RunsList : {L K : Type 0} → (left sent : L → Option (List ℕ)) → (held : K → Option (List ℕ)) →
    ToolEnd → (conn conn' : ConnState L) → (sink sink' : K) → Type 0
RunsList left sent held how conn conn' sink sink' = (input : List ℕ) → left conn.link ≡ Some input →
    ListRan conn.devices (client_of conn input) how (sent conn.link) (sent conn'.link) (held sink) (held sink')

-- these bytes are what is sent for the next device, which has this number, or the first of that; none, if no device is left
abbrev pub AsksNext : (number : ℕ) → List DeviceInfo → ClientState → List ℕ → Type 0
AsksNext number [] v asked = asked ≡ []
AsksNext number (device ∷ more) v asked = (rest : List ℕ) × ((tells_device number device v).did.sends ≡ asked ++ rest)

-- The line of each of some devices was written, and at most the next device was asked for since. Nothing more was written but by
-- a sink that failed.
pub record ListsInStep (devices : List DeviceInfo) (w : ClientState) (failed : Type 0)
    (sent sent' held held' : Option (List ℕ)) : Type 0 where
  pub told : List DeviceInfo
  pub others : List DeviceInfo
  pub all : devices ≡ told ++ others
  pub asked : List ℕ
  pub written : List ℕ
  pub past : WroteThrough (tells_from 0 told) w asked written sent sent' held held'
  pub next : (v : ClientState) × ((tells_from 0 told w).end ≡ Ok (tt, v)) × AsksNext (length told) others v asked
  pub kept : failed ⊎ (written ≡ [])

-- the same of list over a connection whose link is observable
abbrev pub RunsInStep : {L K : Type 0} → (left sent : L → Option (List ℕ)) → (held : K → Option (List ℕ)) →
    ToolEnd → (conn conn' : ConnState L) → (sink sink' : K) → Type 0
RunsInStep left sent held how conn conn' sink sink' = (input : List ℕ) → left conn.link ≡ Some input →
    ListsInStep conn.devices (client_of conn input) (how ≡ end.SinkFault) (sent conn.link) (sent conn'.link)
    (held sink) (held sink')
