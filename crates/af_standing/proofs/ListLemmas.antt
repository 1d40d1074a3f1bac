-- The lines of devices, one after another, and what list wrote if it is done.
use Rattle.std.proofs.Common.{◌≡◌, ◌<◌, ◌≤◌, ◌+◌, ◌++◌, Bool, true, false, ℕ, List, [], ◌∷◌, drop, length, is_some, ap, sym, subst, ◌∙◌, refl, append-nil, inl}
use Rattle.std.proofs.lemmas.List.{drop_all, drop_more}
use Rattle.std.specs.Prelude.{Result, Ok, IsOk, slice_index_or}
use Rattle.std.specs.declared.option.Option.{Option}
use Rattle.std.specs.declared.option.Option.TheVariants.{None, Some}
use Rattle.af_toolkit.specs.Parts.{Goes, after_deeds, goes_on, has_value, outcome}
use Rattle.af_toolkit.proofs.PartLemmas.{Reached, first_ok, goes_by, reached_on}
use Rattle.af_request.specs.declared.reply.DeviceInfo.{DeviceInfo}
use Rattle.af_request.specs.declared.reply.Phone.{Phone}
use Rattle.af_request.specs.Asked.{get_time, query_controls, query_phone}
use Rattle.af_request.specs.Requests.{request_bytes}
use Rattle.af_lib.specs.Calls.{as_controls, as_phone, as_time}
use Rattle.af_toolkit.specs.declared.end.ToolEnd.{ToolEnd}
use Rattle.af_toolkit.specs.Trace.{ClientState, after_reply, done, ends, refused}
use Rattle.af_toolkit.specs.Ends.{ObservedTrace}
use Rattle.af_toolkit.specs.ToolParts.{ToolSight, deeds, doing, tooling}
use Rattle.af_toolkit.proofs.ToolPartLemmas.{is_tool}
use Rattle.af_toolkit.proofs.ToolEndLemmas.{asks_first, is_whole, last_output, part_answered, part_finish, tool_ran}
use Rattle.af_standing.specs.declared.controls_report.ControlsReport.{ControlsReport}
use Rattle.af_standing.specs.ControlsReport.{asks_line, asks_controls_report}
use Rattle.af_standing.specs.List.{device_line, list_trace, tells_device, tells_from, HasLines, ListRan}

-- the devices with this number and greater ones are left to be listed
module _ {devices stated : List DeviceInfo} {number : ℕ} (d : DeviceInfo) (same : stated ≡ devices) (within : number < length devices) where
  left : tells_from number (drop number devices) ≡ goes_on doing (tells_device number (slice_index_or stated number d)) (λ _. tells_from (number + 1) (drop (number + 1) devices))
  left = ap (tells_from number) (drop_more devices number d within ∙ ap (λ (l : List DeviceInfo). slice_index_or l number d ∷ drop (number + 1) devices) (sym same))

  -- the first of them comes next, or it was listed
  pub tell_next : {r : Result (Unit {0}) ToolEnd} {o p : ToolSight} → Goes (tooling refused) (goes_on doing (tells_device number (slice_index_or stated number d)) (λ _. tells_from (number + 1) (drop (number + 1) devices))) r o p →
      Goes (tooling refused) (tells_from number (drop number devices)) r o p
  tell_next g = rw left g

  pub telling_on : {o p q : ToolSight} → Reached (tooling refused) (tells_from 0 devices) (tells_from number (drop number devices)) o p → Goes {X = Unit {0}} (tooling refused) (tells_device number (slice_index_or stated number d)) (Ok tt) p q →
      Reached (tooling refused) (tells_from 0 devices) (tells_from (number + 1) (drop (number + 1) devices)) o q
  telling_on t g = reached_on is_tool (λ _. tells_from (number + 1) (drop (number + 1) devices)) (rw left at t) g

pub tell_none : (devices : List DeviceInfo) (number : ℕ) → length devices ≤ number → tells_from number (drop number devices) ≡ has_value doing tt
tell_none devices number beyond = ap (tells_from number) (drop_all number devices beyond)

-- the state of a line, and of a device, that was told: a line where the device has one
line_told : (line : Bool) (device : ℕ) (w : ClientState) → IsOk (asks_line line device w).end → (phone : Option Phone) × (v : ClientState) × (sends : List ℕ) × (is_some phone ≡ line) × (asks_line line device w ≡ outcome (deeds sends []) (Ok (phone, v)))
line_told true device w ok = let a = asks_first (query_phone device) as_phone _ w ok in (Some a.value, after_reply w, _, refl, a.is)
line_told false device w ok = (None, w, [], refl, refl)

report_told : (line : Bool) (device : ℕ) (w : ClientState) → IsOk (asks_controls_report line device w).end →
    (report : ControlsReport) × (v : ClientState) × (sends : List ℕ) × (is_some report.phone ≡ line) × (asks_controls_report line device w ≡ outcome (deeds sends []) (Ok (report, v)))
report_told line device w ok =
    let a = asks_first (query_controls device) as_controls _ w ok in
    let report : Option Phone → ControlsReport = λ phone. record { controls = a.value; phone = phone } in
    let b = line_told line device (after_reply w) (first_ok doing (asks_line line device) (λ phone. has_value doing (report phone)) (after_reply w) a.last) in
    (report b.0, b.1, _, b.3, a.is ∙ ap (after_deeds doing (deeds (request_bytes w.order (query_controls device)) [])) (goes_by doing (asks_line line device) (λ phone. has_value doing (report phone)) b.4))

-- the line of a device was written
device_told : (number : ℕ) (device : DeviceInfo) (w : ClientState) → IsOk (tells_device number device w).end →
    (report : ControlsReport) × (now : ℕ) × (v : ClientState) × (sends : List ℕ) × (is_some report.phone ≡ device.line) × (tells_device number device w ≡ outcome (deeds sends (device_line number device report now)) (Ok (tt, v)))
device_told number device w ok =
    let a = report_told device.line number w (first_ok doing (asks_controls_report device.line number) _ w ok) in
    let first = goes_by doing (asks_controls_report device.line number) _ a.4 in
    let t = asks_first (get_time number) as_time _ a.1 (subst (λ o. IsOk o.end) first ok) in
    (a.0, t.value.0, after_reply a.1, _, a.3, first ∙ ap (after_deeds doing (deeds a.2 [])) t.is)

lines_told : (number : ℕ) (devices : List DeviceInfo) (w : ClientState) → IsOk (tells_from number devices w).end → HasLines number devices (tells_from number devices w).did.output
lines_told number [] w ok = refl
lines_told number (device ∷ more) w ok =
    let rest = λ (_ : Unit {0}). tells_from (number + 1) more in
    let a = device_told number device w (first_ok doing (tells_device number device) rest w ok) in
    let whole = goes_by doing (tells_device number device) rest a.5 in
    (a.0, a.1, (tells_from (number + 1) more a.2).did.output, a.4, ap (λ o. o.did.output) whole, lines_told (number + 1) more a.2 (subst (λ o. IsOk o.end) whole ok))

-- list ran, by its trace
pub list_ran : (devices : List DeviceInfo) (w : ClientState) (how : ToolEnd) (s s' h h' : Option (List ℕ)) → ObservedTrace (list_trace devices w) how s s' h h' → ListRan devices w how s s' h h'
unfolding list_trace tool_ran
list_ran devices w how s s' h h' f =
    let o = tells_from 0 devices w in
    record {
      ran = tool_ran f (λ _. part_finish o.end (λ _. ends done) (λ _. inl refl));
      listed = λ way.
          let whole = is_whole f.ended way in
          subst (λ (l : List ℕ). HasLines 0 devices l) (sym (whole.wrote ∙ ap (λ (l : List ℕ). o.did.output ++ l) (last_output o.end) ∙ append-nil o.did.output)) (lines_told 0 devices w (part_answered o.end (λ _. ends done) whole.finish));
    }
