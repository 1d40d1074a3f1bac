-- A real world, whose calls are not observable.
use Rattle.std.specs.Prelude.{◌≡◌, ◌==◌, ◌⊎◌, ◌≤◌, ℕ, ◌+◌, Bool, true, false, List, replicate, if◌then◌else◌}
use Rattle.std.proofs.Common.{refl, ◌∙◌}
use Rattle.std.proofs.Math.Nat.{le_refl, le_trans}
use Rattle.std.specs.declared.option.Option.{Option}
use Rattle.std.specs.declared.option.Option.TheVariants.{None, Some}
use Rattle.af_limits.specs.Limits.{most_links, longest_tick}
use Rattle.af_process.specs.Acts.{Told}
use Rattle.af_world.specs.declared.happening.Wake.{Wake}
use Rattle.af_world.specs.declared.happening.Wake.TheVariants as wake
use Rattle.af_world.specs.declared.live.Ready.{Ready}
use Rattle.af_world.specs.declared.live.Ready.TheVariants as ready
use Rattle.af_world.specs.declared.live.Waited.{Waited}
use Rattle.af_world.specs.declared.live.Waited.TheVariants as answer
use Rattle.af_live.specs.declared.link_table.LinkEntry.{LinkEntry}
use Rattle.af_live.specs.LinkTable.{free_entry, LinkWakeFits, GivesFirst}
use Rattle.af_live.specs.Polls.{LatestPoll, no_poll}
use Rattle.af_backend.specs.Backends.{BackendState, none_attached, all_without_bytes}
use Rattle.af_backend.specs.CodecUse.{CodecUse, begun_codec}
use Rattle.af_phone.specs.Lines.{is_change}
use Rattle.af_lines.specs.HeldLines.{LinesState, no_lines, line_at, has_exchange, lines_at_round_start, all_line_orders, GoesOverLines}
use Rattle.af_live.specs.Readings.{ClockState, new_clock, IsReadingBy, TakesNoReading}
use Rattle.af_backend.specs.Rounds.{RoundState, new_round, source_at, is_attached, next_round, due_of, GoesOn}
use Rattle.af_backend.specs.Asked.{GoesOver}

-- Whether it listens; the links that it holds; its latest poll; its clock; the backend of each attached device; its codec; its
-- round over the devices; their telephone lines; and how often each kind of call has failed.
pub record RealState : Type 0 where
  pub listens : Bool
  pub links : List (Option LinkEntry)
  pub poll : LatestPoll
  pub clock : ClockState
  pub backends : List (Option BackendState)
  pub codec : CodecUse
  pub round : RoundState
  pub lines : LinesState
  pub link_faults : ℕ
  pub device_faults : ℕ
  pub listen_faults : ℕ
  pub wait_faults : ℕ

-- it was just made, over a spawner with these acts and a clock with these answers
abbrev pub begun_world : Option (List Told) → Option (List (Option ℕ)) → RealState
begun_world acts answers =
    record {
      listens = false;
      links = replicate most_links free_entry;
      poll = no_poll;
      clock = new_clock answers;
      backends = none_attached;
      codec = begun_codec acts;
      round = new_round;
      lines = no_lines;
      link_faults = 0;
      device_faults = 0;
      listen_faults = 0;
      wait_faults = 0;
    }

-- what the server's calls leave alone, and the counts that they may raise
pub record RealLeadsTo (old new : RealState) : Type 0 where
  pub listens : new.listens ≡ old.listens
  pub backends : all_without_bytes new.backends ≡ all_without_bytes old.backends
  pub orders : new.codec.orders ≡ old.codec.orders
  pub round : new.round ≡ old.round
  pub lines : (all_line_orders new.lines.lines ≡ all_line_orders old.lines.lines) × (new.lines.next ≡ old.lines.next)
  pub link_faults : old.link_faults ≤ new.link_faults
  pub device_faults : old.device_faults ≤ new.device_faults
  pub listen_faults : new.listen_faults ≡ old.listen_faults
  pub wait_faults : new.wait_faults ≡ old.wait_faults

pub RealLeadsTo-refl : (a : RealState) → RealLeadsTo a a
RealLeadsTo-refl a =
    record {
      listens = refl;
      backends = refl;
      orders = refl;
      round = refl;
      lines = (refl, refl);
      link_faults = le_refl a.link_faults;
      device_faults = le_refl a.device_faults;
      listen_faults = refl;
      wait_faults = refl;
    }

pub RealLeadsTo-trans : (a b c : RealState) → RealLeadsTo a b → RealLeadsTo b c → RealLeadsTo a c
RealLeadsTo-trans a b c p q = record {
  listens = q.listens ∙ p.listens;
  backends = q.backends ∙ p.backends;
  orders = q.orders ∙ p.orders;
  round = q.round ∙ p.round;
  lines = (q.lines.0 ∙ p.lines.0, q.lines.1 ∙ p.lines.1);
  link_faults = le_trans p.link_faults q.link_faults;
  device_faults = le_trans p.device_faults q.device_faults;
  listen_faults = q.listen_faults ∙ p.listen_faults;
  wait_faults = q.wait_faults ∙ p.wait_faults;
}

-- A wake opens a link that is not open, names one that is, ticks a device that is attached by 1 to 4096 frames, or changes a line
-- that has a program.
abbrev pub WakeFits : List (Option LinkEntry) → RoundState → LinesState → Wake → Type 0
WakeFits links round lines (wake.Ticked d n) = (is_attached round d ≡ true) × (1 ≤ n) × (n ≤ longest_tick)
WakeFits links round lines (wake.Line d change) = (has_exchange (line_at lines.lines d) ≡ true) × (is_change change ≡ true)
WakeFits links round lines w = LinkWakeFits links w

-- What is ready first is given, and the round stays at its place.
abbrev pub GivesKept : Option Wake → List (Option LinkEntry) → RoundState → List (Option LinkEntry) → RoundState → Type 0
GivesKept None links round links' round' = ⊥
GivesKept (Some w) links round links' round' = GivesFirst links (Some w) links' × (round' ≡ round)

-- Each device that the round has left is asked at its one reading, and none has a frame due.
abbrev pub PassesAll : ClockState → RoundState → List (Option BackendState) → ClockState → RoundState →
    List (Option BackendState) → Type 0
PassesAll clock old backends clock' past backends' =
    (nanos : ℕ) × IsReadingBy old.reading old.last clock nanos clock' × GoesOn nanos old None past
    × GoesOver nanos old None past backends backends'

-- A tick is that of the next device of the round with frames due, at the one reading of the round: by the system's clock, or by
-- its program. A line changes once the round has left the last device. Any other wake was kept ready, and the round and the
-- devices stay as they are; or it comes after the last device, when none has a frame due, and a new round begins. A wait that
-- failed begins none.
abbrev pub LeadsRound : Option Wake → List (Option LinkEntry) → ClockState → RoundState → List (Option BackendState) →
    List (Option LinkEntry) → ClockState → RoundState → List (Option BackendState) → Type 0
LeadsRound None links clock old backends links' clock' new backends' =
    ((new ≡ old) × (backends' ≡ backends) × TakesNoReading clock clock') ⊎ PassesAll clock old backends clock' new backends'
LeadsRound (Some (wake.Ticked d n)) links clock old backends links' clock' new backends' =
    (nanos : ℕ) × IsReadingBy old.reading old.last clock nanos clock' × GoesOn nanos old (Some (d, n)) new
    × GoesOver nanos old (Some (d, n)) new backends backends'
LeadsRound (Some (wake.Line d change)) links clock old backends links' clock' new backends' =
    PassesAll clock old backends clock' new backends'
LeadsRound (Some w) links clock old backends links' clock' new backends' =
    (GivesKept (Some w) links old links' new × (backends' ≡ backends) × (clock' ≡ clock))
    ⊎ ((past : RoundState) × PassesAll clock old backends clock' past backends' × (new ≡ next_round past))

-- Each line that the round has left is asked at its one reading, by which it left the last device, and none changes.
abbrev pub PassesLines : RoundState → LinesState → LinesState → Type 0
PassesLines round lines lines' = (nanos : ℕ) × (round.last ≡ Some nanos) × GoesOverLines nanos lines None lines'

-- A change is that of the next line of the round whose program gave one, at the one reading of the round. A tick leaves the lines
-- as they are. Any other wake was kept ready, and they stay as they are; or each line that the round has left is asked, none
-- changes, and a new round begins. A wait that failed begins none.
abbrev pub LeadsLines : Option Wake → List (Option LinkEntry) → RoundState → LinesState → List (Option LinkEntry) → RoundState →
    LinesState → Type 0
LeadsLines None links old lines links' new lines' = (lines' ≡ lines) ⊎ PassesLines new lines lines'
LeadsLines (Some (wake.Ticked d n)) links old lines links' new lines' = lines' ≡ lines
LeadsLines (Some (wake.Line d change)) links old lines links' new lines' =
    (nanos : ℕ) × (new.last ≡ Some nanos) × GoesOverLines nanos lines (Some (d, change)) lines'
LeadsLines (Some w) links old lines links' new lines' =
    (GivesKept (Some w) links old links' new × (lines' ≡ lines))
    ⊎ ((past : LinesState) × PassesLines new lines past × (lines' ≡ lines_at_round_start past))

-- how many frames a wait gave for a device
abbrev pub frames_ticked_by : Option Wake → ℕ → ℕ
frames_ticked_by (Some (wake.Ticked d n)) e = if e == d then n else 0
frames_ticked_by _ e = 0

-- No frame is lost: what is due for a device at any reading of the system's clock is given, or stays due.
abbrev pub LosesNoFrame : Option Wake → RoundState → RoundState → Type 0
LosesNoFrame w old new = (d nanos : ℕ) → due_of nanos (source_at old d) ≤ frames_ticked_by w d + due_of nanos (source_at new d)

-- whether it listens after a listen
abbrev pub listens_after : Ready → Bool → Bool
listens_after ready.Done before = true
listens_after _ before = before

-- the wake that the answer of a wait gives
abbrev pub given_wake : Waited → Option Wake
given_wake (answer.Woke w) = Some w
given_wake answer.Failed = None
