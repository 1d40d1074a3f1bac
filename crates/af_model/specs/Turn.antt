-- A turn, phase by phase. Each phase takes its own happenings off the front of a log. The answers in them are the outside's, and
-- all else is determined. After a phase there is the next state and the rest of the log, or None if the log does not go on as it
-- must.
use Rattle.std.specs.Prelude.{◌≡◌, ℕ, zero, suc, ◌+◌, Bool, true, false, not, List, [], ◌∷◌, ◌++◌, length, take, drop, if◌then◌else◌, ◌==◌, ◌&&◌, nat_le, nat_lt, ◌*◌, ℤ, slice_get, option_and_then}
use Rattle.std.specs.declared.option.Option.{Option}
use Rattle.std.specs.declared.option.Option.TheVariants.{None, Some}
use Rattle.af_limits.specs.Limits.{longest_tick, longest_read}
use Rattle.af_world.specs.declared.happening.Happening.{Happening}
use Rattle.af_world.specs.declared.happening.Happening.TheVariants.{Woke, Read, Wrote, Closed, Captured, Emitted, Hooked}
use Rattle.af_world.specs.declared.happening.ReadGot.{ReadGot}
use Rattle.af_world.specs.declared.happening.ReadGot.TheVariants.{Given, NotYet, Ended, Failed}
use Rattle.af_world.specs.declared.happening.Wake.{Wake}
use Rattle.af_world.specs.declared.happening.Wake.TheVariants.{Opened, Readable, Writable, Ticked, Line, Idle, Stop}
use Rattle.af_world.specs.declared.happening.Why.{Why}
use Rattle.af_world.specs.declared.happening.Why.TheVariants as why
use Rattle.af_phone.specs.declared.line.LineChange.{LineChange}
use Rattle.af_phone.specs.Lines.{hook_due, is_change}
use Rattle.af_sample.specs.SampleTypes.{frame_bytes}
use Rattle.af_world.specs.Log.{Log}
use Rattle.af_world.specs.Outside.{same_bytes}
use Rattle.af_model.specs.State.{State, DeviceState, SlotState, LinkState, EnvironmentState, OpenLink, SlotLink, link_in_slot, slot_link_at, with_slot_link, Outline, open_link, new_link_state, closing_link, slot_at, with_slot, outline}
use Rattle.af_model.specs.Waiting.{has_deferral}
use Rattle.af_model.specs.Advance.{advance, absorb, takes_more}
use Rattle.af_model.specs.Tick.{sound, captured_samples, tick}
use Rattle.af_model.specs.Events.{drop_link, after_hook, after_hook_failure, line_changes}

-- a state, and the log that is left after it
pub record Parsed (S : Type 0) : Type 0 where
  pub state : S
  pub log : Log

abbrev pub accept : {S : Type 0} → S → Log → Option (Parsed S)
accept s log = Some (record { state = s; log = log })

-- one phase after another
abbrev pub parse_then : {S T : Type 0} → Option (Parsed S) → (S → Log → Option (Parsed T)) → Option (Parsed T)
parse_then None f = None
parse_then (Some b) f = f b.state b.log

abbrev pub and_then : {S T : Type 0} → Option S → (S → Option T) → Option T
and_then None f = None
and_then (Some s) f = f s

-- one happening, which leads to a state if it is the one that must come
abbrev pub parse_one : {S : Type 0} → (Happening → Option S) → Log → Option (Parsed S)
parse_one f [] = None
parse_one f (h ∷ log) = and_then (f h) (λ s. accept s log)

-- Reads: one, if the link may have something to read, has no deferred request, is not closing, and at most 16384 bytes wait to be
-- sent to it

abbrev pub wants_read : Bool → LinkState → Bool
wants_read waits l = l.is_ready && takes_more waits l

-- a read gives 1 to 16384 bytes
abbrev pub is_read : ReadGot → Bool
is_read (Given bytes) = nat_lt 0 (length bytes) && nat_le (length bytes) longest_read
is_read NotYet = true
is_read Ended = true
is_read Failed = true

-- bytes are absorbed; a link that has ended is to be closed once all that is queued for it was sent, and one that failed is
-- dropped
abbrev pub after_read : ℕ → ReadGot → OpenLink → OpenLink
after_read k (Given bytes) p = absorb k bytes p
after_read k NotYet p = open_link p.environment (record p.link { is_ready = false })
after_read k Ended p = open_link p.environment (closing_link why.Ended (record p.link { is_ready = false }))
after_read k Failed p = drop_link k why.LinkFault p

abbrev pub read_by : ℕ → OpenLink → Happening → Option OpenLink
read_by k p (Read link got) = if link == k && is_read got then Some (after_read k got p) else None
read_by k p _ = None

unfoldable pub read_phase : ℕ → OpenLink → Log → Option (Parsed OpenLink)
read_phase k p log = if wants_read (has_deferral p.environment.waiting k) p.link then parse_one (read_by k p) log
    else accept p log

-- Writes: all that waits to be sent, as long as there is some and the link is not blocked

abbrev pub wants_write : LinkState → Bool
wants_write l = not (length l.pending == 0) && not l.is_stuck

-- n bytes are sent; if they are fewer than waited to be sent, the link is blocked
abbrev pub send_pending : ℕ → LinkState → LinkState
send_pending n l = record l { pending = drop n l.pending; is_stuck = nat_lt n (length l.pending) }

-- the bytes that were taken are sent, and requests are performed again
abbrev pub after_write : ℕ → List ℕ → OpenLink → OpenLink
after_write k bytes p = advance k (open_link p.environment (send_pending (length bytes) p.link))

-- the first bytes that wait to be sent are taken; a link to which a write failed is dropped
abbrev pub after_bytes_taken : ℕ → Option (List ℕ) → OpenLink → Option OpenLink
after_bytes_taken k None p = Some (drop_link k why.LinkFault p)
after_bytes_taken k (Some bytes) p =
    if same_bytes bytes (take (length bytes) p.link.pending) then Some (after_write k bytes p) else None

-- all that waits to be sent is offered
abbrev pub after_bytes_offered : ℕ → ℕ → Option (List ℕ) → OpenLink → Option OpenLink
after_bytes_offered k offered took p = if offered == length p.link.pending then after_bytes_taken k took p else None

abbrev pub write_by : ℕ → OpenLink → Happening → Option OpenLink
write_by k p (Wrote link offered took) = if link == k then after_bytes_offered k offered took p else None
write_by k p _ = None

abbrev pub write_phase : ℕ → OpenLink → Log → Option (Parsed OpenLink)
write_phase k p [] = if wants_write p.link then None else accept p []
write_phase k p (h ∷ log) =
    if wants_write p.link then and_then (write_by k p h) (λ q. write_phase k q log) else accept p (h ∷ log)

-- Closes: one, if the link is closing and nothing waits to be sent to it

-- causes by number, so that they can be compared
abbrev pub number_of_why : Why → ℕ
number_of_why why.BadSetup = 0
number_of_why why.Malformed = 1
number_of_why why.Ended = 2
number_of_why why.LinkFault = 3
number_of_why why.Overrun = 4

abbrev pub same_why : Why → Why → Bool
same_why a b = number_of_why a == number_of_why b

-- the cause of a link that is to be closed now
abbrev pub close_due : LinkState → Option Why
close_due l = if length l.pending == 0 then l.closing else None

abbrev pub close_by : ℕ → EnvironmentState → Why → Happening → Option SlotLink
close_by k a cause (Closed link why) = if link == k && same_why why cause then Some (link_in_slot a None) else None
close_by k a cause _ = None

abbrev pub close_for : ℕ → OpenLink → Option Why → Log → Option (Parsed SlotLink)
close_for k p None log = accept (link_in_slot p.environment (Some p.link)) log
close_for k p (Some cause) log = parse_one (close_by k p.environment cause) log

unfoldable pub close_phase : ℕ → OpenLink → Log → Option (Parsed SlotLink)
close_phase k p log = close_for k p (close_due p.link) log

-- A link is served by a read, writes and a close; links are served in the order of their numbers

unfoldable pub serve_link : ℕ → OpenLink → Log → Option (Parsed SlotLink)
serve_link k p log = parse_then (read_phase k p log) (λ p log. parse_then (write_phase k p log) (close_phase k))

abbrev pub serve_open : ℕ → EnvironmentState → Option LinkState → Log → Option (Parsed SlotLink)
serve_open k a None log = accept (link_in_slot a None) log
serve_open k a (Some l) log = serve_link k (open_link a l) log

abbrev pub serve_slot_link : ℕ → SlotLink → Log → Option (Parsed SlotLink)
serve_slot_link k d log = serve_open k d.environment d.link log

abbrev pub serve_at : ℕ → State → Log → Option (Parsed State)
serve_at k s log = parse_then (serve_slot_link k (slot_link_at k s) log) (λ d log. accept (with_slot_link k s d) log)

-- n links from number k on
unfoldable pub serve_from : ℕ → ℕ → State → Log → Option (Parsed State)
serve_from zero k s log = accept s log
serve_from (suc n) k s log = parse_then (serve_at k s log) (serve_from n (k + 1))

abbrev pub serve_all : State → Log → Option (Parsed State)
serve_all s log = serve_from (length s.slots) 0 s log

-- Wakes

-- whether a slot is that of an open link
abbrev pub is_open_at : Option Bool → Bool
is_open_at None = false
is_open_at (Some is_open) = is_open

-- whether the number is a link's, and that link is not open
abbrev pub is_closed_at : Option Bool → Bool
is_closed_at None = false
is_closed_at (Some is_open) = not is_open

-- whether a device exists and has a line
abbrev pub has_line_at : Option Bool → Bool
has_line_at None = false
has_line_at (Some has_line) = has_line

-- Whether a wake may come: it opens a link that is not open, reads or writes one that is, ticks a device that exists by 1 to 4096
-- frames, or changes a line that exists as lines do.
abbrev pub fits : Outline → Wake → Bool
fits o (Opened k) = is_closed_at (slice_get o.links k)
fits o (Readable k) = is_open_at (slice_get o.links k)
fits o (Writable k) = is_open_at (slice_get o.links k)
fits o (Ticked d n) = nat_lt d (length o.lines) && nat_le 1 n && nat_le n longest_tick
fits o (Line d change) = has_line_at (slice_get o.lines d) && is_change change
fits o Idle = true
fits o Stop = true

-- a link may have something to read
abbrev pub mark_readable : LinkState → LinkState
mark_readable l = record l { is_ready = true }

-- a link may take something again
abbrev pub mark_writable : LinkState → LinkState
mark_writable l = record l { is_stuck = false }

-- a change of a link, if it is open
abbrev pub in_open : (LinkState → LinkState) → Option LinkState → Option LinkState
in_open f None = None
in_open f (Some l) = Some (f l)

abbrev pub in_slot : (LinkState → LinkState) → SlotState → SlotState
in_slot f slot = record slot { link = in_open f slot.link }

-- A tick of a live device: one capture of its frames, and, if that was done, one emit of the sound of that stretch. The device is
-- dead after a call that failed, and a dead device makes neither call again. Its time goes on in every case. If no bytes were
-- captured, it captures silence.

-- a capture of n frames gives as many bytes as they have
abbrev pub is_capture : ℕ → DeviceState → Option (List ℕ) → Bool
is_capture n device None = true
is_capture n device (Some bytes) = length bytes == n * frame_bytes device.ty device.channels

-- the bytes that were captured, or none
abbrev pub capture_by : ℕ → ℕ → DeviceState → Happening → Option (Option (List ℕ))
capture_by d n device (Captured c frames got) =
    if c == d && frames == n && is_capture n device got then Some got else None
capture_by d n device _ = None

abbrev pub emit_by : ℕ → ℕ → DeviceState → List ℤ → State → Happening → Option State
emit_by d n device captured s (Emitted e bytes done) =
    if e == d && same_bytes bytes (sound device n) then Some (tick d n captured (not done) s) else None
emit_by d n device captured s _ = None

abbrev pub after_capture : ℕ → ℕ → DeviceState → State → Option (List ℕ) → Log → Option (Parsed State)
after_capture d n device s None log = accept (tick d n (captured_samples device n None) true s) log
after_capture d n device s (Some bytes) log = parse_one (emit_by d n device (captured_samples device n (Some bytes)) s) log

abbrev pub tick_phase : ℕ → ℕ → Option DeviceState → State → Log → Option (Parsed State)
tick_phase d n None s log = None
tick_phase d n (Some device) s log =
    if device.is_dead then accept (tick d n (captured_samples device n None) true s) log
    else parse_then (parse_one (capture_by d n device) log) (after_capture d n device s)

-- A line changes, and its event is queued for the links that select it

abbrev pub line_phase : LineChange → ℕ → Option DeviceState → State → Log → Option (Parsed State)
line_phase change d None s log = None
line_phase change d (Some device) s log = accept (line_changes change d device s) log

-- what a wake does
unfoldable pub wake_phase : Wake → State → Log → Option (Parsed State)
wake_phase (Opened k) s log = accept (with_slot k (record { link = Some new_link_state; said = [] }) s) log
wake_phase (Readable k) s log = accept (with_slot k (in_slot mark_readable (slot_at k s)) s) log
wake_phase (Writable k) s log = accept (with_slot k (in_slot mark_writable (slot_at k s)) s) log
wake_phase (Ticked d n) s log = tick_phase d n (slice_get s.devices d) s log
wake_phase (Line d change) s log = line_phase change d (slice_get s.devices d) s log
wake_phase Idle s log = accept s log
wake_phase Stop s log = accept s log

-- whether two flags are the same
abbrev pub same_flag : Bool → Bool → Bool
same_flag a b = if a then b else not b

-- Hooks, after all links: one hook call for each device, in the order of numbers, whose line is live and has another actual hook
-- than the wanted one

abbrev pub wanted_hook : DeviceState → Option Bool
wanted_hook device = option_and_then hook_due device.line

abbrev pub hook_by : ℕ → Bool → DeviceState → State → Happening → Option State
hook_by d off device s (Hooked e wanted done) =
    if e == d && same_flag wanted off then Some (if done then after_hook off d device s else after_hook_failure d s) else None
hook_by d off device s _ = None

abbrev pub hook_for : ℕ → DeviceState → Option Bool → State → Log → Option (Parsed State)
hook_for d device None s log = accept s log
hook_for d device (Some off) s log = parse_one (hook_by d off device s) log

abbrev pub hook_at : ℕ → Option DeviceState → State → Log → Option (Parsed State)
hook_at d None s log = accept s log
hook_at d (Some device) s log = hook_for d device (wanted_hook device) s log

-- n devices from number d on
unfoldable pub hook_from : ℕ → ℕ → State → Log → Option (Parsed State)
hook_from zero d s log = accept s log
hook_from (suc n) d s log = parse_then (hook_at d (slice_get s.devices d) s log) (hook_from n (d + 1))

abbrev pub hook_all : State → Log → Option (Parsed State)
hook_all s log = hook_from (length s.devices) 0 s log

-- after a wake
abbrev pub serve_and_hook : State → Log → Option (Parsed State)
serve_and_hook s log = parse_then (serve_all s log) hook_all

-- A whole turn: a wake that may come, with its effect, then all links, and then all hooks

unfoldable pub turn : State → Log → Option (Parsed State)
turn s (Woke wake ∷ log) = if fits (outline s) wake then parse_then (wake_phase wake s log) serve_and_hook else None
turn s _ = None

-- the part of a log is exactly one turn from the state, whatever follows it, and leads to the next state
abbrev pub IsTurn : State → Log → State → Type 0
IsTurn s part next = (more : Log) → turn s (part ++ more) ≡ accept next more
