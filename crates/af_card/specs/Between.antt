-- What stands between a device and its program, and how it fits the acts.
use Rattle.std.specs.Prelude.{◌≡◌, ⊤, ℕ, ◌+◌, ◌*◌, ◌/◌, ◌%◌, ◌≤◌, ◌<◌, ◌-◌, Bool, true, false, not, ◌&&◌, ◌||◌, ◌==◌, nat_le, if◌then◌else◌, List, [], length, min, take, drop, replicate, is_some, is_none, All}
use Rattle.std.specs.declared.option.Option.{Option}
use Rattle.std.specs.declared.option.Option.TheVariants.{None, Some}
use Rattle.af_limits.specs.Limits.{longest_capture, longest_tick}
use Rattle.af_io.specs.Observed.{Appended}
use Rattle.af_program.specs.declared.program.Gave.{Gave}
use Rattle.af_program.specs.declared.program.Gave.TheVariants as gives
use Rattle.af_program.specs.declared.program.Took.{Took}
use Rattle.af_program.specs.declared.program.Took.TheVariants as takes
use Rattle.af_program.specs.declared.starts.Starts.{Starts}
use Rattle.af_program.specs.Acts.{ToldAct, took_acts}
use Rattle.af_program.specs.Ledger.{Ledger, LedgerFits, HoldsOf}
use Rattle.af_program.specs.Waits.{no_starts, may_come, is_left}
use Rattle.af_world.specs.declared.card_kind.CardKind.{CardKind}
use Rattle.af_world.specs.declared.card_kind.CardKind.TheVariants as kind
use Rattle.af_card.specs.declared.shape.Shape.{Shape}
use Rattle.af_card.specs.declared.running.Running.{Running}
use Rattle.af_card.specs.Ledger.{Run, card_book}
use Rattle.af_card.specs.Fed.{RunFits, PastRunFits, IsSilent, piece_frames, piece_of}
use Rattle.af_card.specs.Lost.{lost_of}

pub record BetweenState : Type 0 where
  pub shape : Shape
  pub starts : Starts
  pub running : Option Running
  pub left : List ℕ
  pub owed : List ℕ
  pub tick : Option ℕ
  pub lost : ℕ

abbrev pub new_between : Shape → ℕ → BetweenState
new_between shape restarts =
    record { shape = shape; starts = no_starts restarts; running = None; left = []; owed = []; tick = None; lost = 0 }

-- a program that was started at this moment
abbrev pub running_since : ℕ → Running
running_since at = record { began = at; gave = at; took = at; is_closed = false; is_over = false }

-- after a take; the flag says whether there is a whole frame to capture
abbrev pub after_take : Gave → Bool → ℕ → Running → Running
after_take (gives.Bytes n) true at running = record running { gave = at }
after_take (gives.Bytes n) false at running = running
after_take gives.NotYet has_frame at running = running
after_take gives.Ended has_frame at running = record running { is_over = true }

-- after a give
abbrev pub after_give : Took → ℕ → Running → Running
after_give (takes.Bytes n) at running = record running { took = at }
after_give takes.NoRoom at running = running
after_give takes.Ended at running = record running { is_closed = true }

-- whether a program of this kind gives sound
abbrev pub gives_sound : CardKind → Bool
gives_sound kind.Speaker = false
gives_sound kind.Microphone = true
gives_sound kind.Card = true
gives_sound kind.Encoder = false

-- Whether a device of this kind hands each sound on in whole frames, as far as its program has room, and loses the rest.
abbrev pub hands_frames : CardKind → Bool
hands_frames kind.Speaker = false
hands_frames kind.Microphone = false
hands_frames kind.Card = true
hands_frames kind.Encoder = true

-- whether a device of this kind goes by the system's clock, also while its program runs
abbrev pub goes_by_clock : CardKind → Bool
goes_by_clock kind.Speaker = false
goes_by_clock kind.Microphone = false
goes_by_clock kind.Card = false
goes_by_clock kind.Encoder = true

-- How it fits the ledger

-- when the program that runs was started
abbrev pub began_of : Option Running → Option ℕ
began_of None = None
began_of (Some running) = Some running.began

-- what the run of the program that runs keeps to
abbrev pub FitsNow : BetweenState → Run → Type 0
FitsNow b run = RunFits b.shape run b.left b.owed b.tick

-- What stands between a device and its program fits the ledger. While no program runs nothing is left of a program's sound, and
-- none is owed.
pub record Account (b : BetweenState) (ledger : Ledger Run) : Type 0 where
  pub fits : LedgerFits (PastRunFits b.shape) (FitsNow b) b.starts (began_of b.running) ledger
  pub idle : All (IsSilent b.shape.silence) ledger.idle
  pub none : b.running ≡ None → (b.left ≡ []) × (b.owed ≡ [])
  pub lost : b.lost ≡ lost_of b.shape ledger

-- if the acts are observable, all of this holds of them
abbrev pub Accounts : BetweenState → Option (List ToldAct) → Type 0
Accounts b acts = HoldsOf card_book [] (Account b) (is_some b.running) acts

-- whole frames
abbrev pub IsWhole : ℕ → ℕ → Type 0
IsWhole width bytes = (frames : ℕ) × (bytes ≡ frames * width)

-- The sound was offered in one give, and a first part of it taken. The rest of the frame in which it ends is owed, as far as the
-- sound has it.
pub record PassesPart (n : ℕ) (sound : List ℕ) (width : ℕ) (owed : List ℕ) (acts acts' : Option (List ToldAct)) : Type 0 where
  pub rest : ℕ
  pub some : 1 ≤ n
  pub most : n ≤ length sound
  pub less : rest < width
  pub whole : IsWhole width (n + rest)
  pub owes : owed ≡ take (min rest (length sound - n)) (drop n sound)
  pub told : Appended acts (took_acts (takes.Bytes n) sound) acts'

abbrev pub PassesOn : Took → List ℕ → ℕ → List ℕ → Option (List ToldAct) → Option (List ToldAct) → Type 0
PassesOn (takes.Bytes n) sound width owed acts acts' = PassesPart n sound width owed acts acts'
PassesOn takes.NoRoom sound width owed acts acts' = (owed ≡ []) × Appended acts (took_acts takes.NoRoom sound) acts'
PassesOn takes.Ended sound width owed acts acts' = (owed ≡ []) × Appended acts (took_acts takes.Ended sound) acts'

-- The kind of device and the starts stay, and a program runs if one ran. So many bytes of a tick were captured, and are to be
-- emitted, if any are.
pub record Keeps (tick : Option ℕ) (before after : BetweenState) : Type 0 where
  pub shape : after.shape ≡ before.shape
  pub starts : after.starts ≡ before.starts
  pub runs : is_some after.running ≡ is_some before.running
  pub ticks : after.tick ≡ tick

-- What may be done

abbrev pub CanBegin : BetweenState → ℕ → Type 0
CanBegin b at = (b.running ≡ None) × (b.tick ≡ None) × (may_come b.starts at ≡ true)

abbrev pub CapturesBy : CardKind → Shape → List ℕ → ℕ → Type 0
CapturesBy kind.Speaker shape left bytes = ⊤
CapturesBy kind.Microphone shape left bytes = (bytes ≤ length left) × IsWhole shape.frame_bytes bytes
CapturesBy kind.Card shape left bytes = (bytes ≤ length left) × IsWhole shape.frame_bytes bytes
CapturesBy kind.Encoder shape left bytes = IsWhole shape.frame_bytes bytes

-- what a program gave is captured in whole frames, and so is the silence of an encoder
abbrev pub CapturesOf : Option Running → Shape → List ℕ → ℕ → Type 0
CapturesOf None shape left bytes = ⊤
CapturesOf (Some running) shape left bytes = CapturesBy shape.kind shape left bytes

-- a loudspeaker that is owed nothing is given a piece
abbrev pub EmitsBy : CardKind → Shape → List ℕ → ℕ → Type 0
EmitsBy kind.Speaker shape owed bytes = (owed ≡ []) × (bytes ≤ piece_of shape)
EmitsBy kind.Microphone shape owed bytes = ⊤
EmitsBy kind.Card shape owed bytes = ⊤
EmitsBy kind.Encoder shape owed bytes = ⊤

abbrev pub EmitsTo : Option Running → Shape → List ℕ → ℕ → Type 0
EmitsTo None shape owed bytes = ⊤
EmitsTo (Some running) shape owed bytes = EmitsBy shape.kind shape owed bytes

abbrev pub CanCapture : BetweenState → ℕ → Type 0
CanCapture b bytes = (b.tick ≡ None) × CapturesOf b.running b.shape b.left bytes

abbrev pub CanEmit : BetweenState → ℕ → Type 0
CanEmit b bytes = (b.tick ≡ Some bytes) × (bytes ≤ longest_capture) × EmitsTo b.running b.shape b.owed bytes

-- of a program's sound less than a frame is left
abbrev pub LeavesLess : CardKind → Shape → List ℕ → Type 0
LeavesLess kind.Speaker shape left = ⊤
LeavesLess kind.Microphone shape left = length left < shape.frame_bytes
LeavesLess kind.Card shape left = length left < shape.frame_bytes
LeavesLess kind.Encoder shape left = ⊤

abbrev pub CanEnd : BetweenState → Type 0
CanEnd b = (b.tick ≡ None) × LeavesLess b.shape.kind b.shape b.left

-- The same as tests

abbrev pub captures_by : CardKind → Shape → List ℕ → ℕ → Bool
captures_by kind.Speaker shape left bytes = true
captures_by kind.Microphone shape left bytes = nat_le bytes (length left) && (bytes % shape.frame_bytes == 0)
captures_by kind.Card shape left bytes = nat_le bytes (length left) && (bytes % shape.frame_bytes == 0)
captures_by kind.Encoder shape left bytes = bytes % shape.frame_bytes == 0

abbrev pub captures_of : Option Running → Shape → List ℕ → ℕ → Bool
captures_of None shape left bytes = true
captures_of (Some running) shape left bytes = captures_by shape.kind shape left bytes

abbrev pub emits_by : CardKind → Shape → List ℕ → ℕ → Bool
emits_by kind.Speaker shape owed bytes = (length owed == 0) && nat_le bytes (piece_of shape)
emits_by kind.Microphone shape owed bytes = true
emits_by kind.Card shape owed bytes = true
emits_by kind.Encoder shape owed bytes = true

abbrev pub emits_to : Option Running → Shape → List ℕ → ℕ → Bool
emits_to None shape owed bytes = true
emits_to (Some running) shape owed bytes = emits_by shape.kind shape owed bytes

abbrev pub is_tick_of : Option ℕ → ℕ → Bool
is_tick_of None bytes = false
is_tick_of (Some n) bytes = n == bytes

-- no program runs, and no start is left
abbrev pub is_dead : BetweenState → Bool
is_dead b = is_none b.running && not (is_left b.starts)

-- whether so many bytes of a tick may be captured, and emitted
abbrev pub may_capture : BetweenState → ℕ → Bool
may_capture b bytes = is_none b.tick && captures_of b.running b.shape b.left bytes

abbrev pub may_emit : BetweenState → ℕ → Bool
may_emit b bytes = is_tick_of b.tick bytes && nat_le bytes longest_capture && emits_to b.running b.shape b.owed bytes

-- whether a program runs and takes sound
abbrev pub takes_now : Option Running → Bool
takes_now None = false
takes_now (Some running) = not running.is_closed

-- whether a program runs that gives sound, and has not said that it gives none any more
abbrev pub gives_now : CardKind → Option Running → Bool
gives_now k None = false
gives_now k (Some running) = gives_sound k && not running.is_over

-- The frames that are due by a program: whole frames that it gave, at most as many as a tick has; or a piece, once it is owed
-- nothing. By the program of an encoder none are due.

abbrev pub frames_by : CardKind → Shape → List ℕ → List ℕ → ℕ
frames_by kind.Speaker shape left owed = if length owed == 0 then piece_frames shape else 0
frames_by kind.Microphone shape left owed = min (length left / shape.frame_bytes) longest_tick
frames_by kind.Card shape left owed = min (length left / shape.frame_bytes) longest_tick
frames_by kind.Encoder shape left owed = 0

abbrev pub frames_of : BetweenState → ℕ
frames_of b = frames_by b.shape.kind b.shape b.left b.owed

-- Stalls

-- two seconds in which nothing comes, or nothing is taken
abbrev pub longest_stall : ℕ
longest_stall = 2000000000

abbrev pub is_stalled : ℕ → ℕ → Bool
is_stalled since at = nat_le longest_stall (at - since)

-- whether a program is to be ended, if no frame is due by it
abbrev pub is_over_by : CardKind → Running → ℕ → Bool
is_over_by kind.Speaker running at = running.is_closed || is_stalled running.took at
is_over_by kind.Microphone running at = running.is_over || is_stalled running.gave at
is_over_by kind.Card running at = running.is_over || is_stalled running.gave at
is_over_by kind.Encoder running at = running.is_closed || is_stalled running.took at

abbrev pub is_over_of : Option Running → CardKind → ℕ → Bool
is_over_of None k at = false
is_over_of (Some running) k at = is_over_by k running at

-- whether a card takes nothing, although it gives
abbrev pub takes_nothing : CardKind → Running → ℕ → Bool
takes_nothing kind.Speaker running at = false
takes_nothing kind.Microphone running at = false
takes_nothing kind.Card running at = not running.is_closed && is_stalled running.took at
takes_nothing kind.Encoder running at = false

abbrev pub running_after_look : Option Running → CardKind → ℕ → Option Running
running_after_look None k at = None
running_after_look (Some running) k at = if takes_nothing k running at then Some (record running { is_over = true })
    else Some running

-- what is captured: if the program gives sound, what it gave first, and else silence
abbrev pub captured_of : Option Running → BetweenState → ℕ → List ℕ
captured_of None b bytes = replicate bytes b.shape.silence
captured_of (Some running) b bytes = if gives_sound b.shape.kind then take bytes b.left else replicate bytes b.shape.silence
