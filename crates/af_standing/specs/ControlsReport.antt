-- The state of a device: its controls, and its telephone line if it has one.
use Rattle.std.specs.Prelude.{ℕ, ℤ, if◌then◌else◌, Bool, true, false, List, [], ◌++◌, codes}
use Rattle.std.specs.Fmt.{signed_decimal}
use Rattle.std.specs.declared.option.Option.{Option}
use Rattle.std.specs.declared.option.Option.TheVariants.{None, Some}
use Rattle.af_request.specs.declared.reply.Phone.{Phone}
use Rattle.af_request.specs.Asked.{query_controls, query_phone}
use Rattle.af_lib.specs.Calls.{as_controls, as_phone}
use Rattle.af_toolkit.specs.Parts.{goes_on, has_value}
use Rattle.af_toolkit.specs.ToolParts.{ToolPart, asks, doing}
use Rattle.af_standing.specs.declared.controls_report.ControlsReport.{ControlsReport}

-- the state of a line is asked for if the device has one
abbrev pub asks_line : Bool → ℕ → ToolPart (Option Phone)
asks_line true device = goes_on doing (asks (query_phone device) as_phone) (λ phone. has_value doing (Some phone))
asks_line false device = has_value doing None

-- the device with this number is asked for its state: first its controls, and then its line if it has one
abbrev pub asks_controls_report : (line : Bool) → ℕ → ToolPart ControlsReport
asks_controls_report line device =
    goes_on doing (asks (query_controls device) as_controls) (λ controls.
    goes_on doing (asks_line line device) (λ phone.
    has_value doing (record { controls = controls; phone = phone })))

-- a switch and a gain
abbrev pub control_text : List ℕ → Bool → ℤ → List ℕ
control_text name on gain = name ++ (if on then codes " on " else codes " off ") ++ signed_decimal gain

abbrev pub flag_text : Bool → List ℕ
flag_text flag = if flag then codes " 1" else codes " 0"

-- the flags of a line: wanted hook, actual hook, ringing, current, dead
abbrev pub phone_text : Phone → List ℕ
phone_text p =
    codes "line" ++ flag_text p.wanted_off ++ flag_text p.given_off ++ flag_text p.ringing
    ++ flag_text p.current ++ flag_text p.dead

-- each on a line of its own
abbrev pub control_line : List ℕ → Bool → ℤ → List ℕ
control_line name on gain = control_text name on gain ++ codes "\n"

abbrev pub line_text : Option Phone → List ℕ
line_text (Some p) = phone_text p ++ codes "\n"
line_text None = []

-- the state of a device, as aset writes it
unfoldable pub controls_report_text : ControlsReport → List ℕ
controls_report_text s =
    control_line (codes "input") s.controls.input_on s.controls.input_gain
    ++ control_line (codes "output") s.controls.output_on s.controls.output_gain
    ++ line_text s.phone
