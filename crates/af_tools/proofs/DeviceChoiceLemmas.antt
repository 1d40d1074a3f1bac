-- A tool on a device that is there, or not.
use Rattle.std.proofs.Common.{◌≡◌, ℕ, ◌<◌, ◌≤◌, ◌↔◌, List, length, slice_get, sym, ap, ◌∙◌, subst, refl, arith, inl, inr, Result, Ok, Err, Option, None, Some}
use Rattle.std.proofs.lemmas.Option.{slice_get_cases, none-some, same_Some, slice_get_within}
use Rattle.af_request.specs.declared.reply.DeviceInfo.{DeviceInfo}
use Rattle.af_request.specs.Replies.{IsDeviceInfo}
use Rattle.af_toolkit.specs.declared.end.ToolEnd.{ToolEnd}
use Rattle.af_toolkit.specs.declared.end.ToolEnd.TheVariants as end
use Rattle.af_cli.specs.declared.job.PlayJob.{PlayJob}
use Rattle.af_toolkit.specs.Trace.{Trace, ClientState, ends, no_device, with_job_device, writes_first}
use Rattle.af_toolkit.specs.Lost.{finish_by}
use Rattle.af_toolkit.specs.Device.{device_or_end}
use Rattle.af_toolkit.specs.Talk.{creates}
use Rattle.af_toolkit.specs.declared.talk.ToolContext.{ToolContext}
use Rattle.af_lib.specs.Calls.{device_channels}
use Rattle.af_request.specs.Asked.{Asked}
use Rattle.af_tools.specs.declared.sound.SourceSound.{SourceSound}
use Rattle.af_tools.specs.Play.{play_finish, played_text, plays_on}
use Rattle.af_toolkit.specs.ToolParts.{trace_of}
use Rattle.af_toolkit.specs.Ends.{ObservedTrace}
use Rattle.af_toolkit.proofs.ToolPartLemmas.{followed_end}

-- the device with a number
pub record IsThere (devices : List DeviceInfo) (number : ℕ) (device : DeviceInfo) : Type 0 where
  pub get : slice_get devices number ≡ Some device
  pub within : number < length devices

pub record IsMissing (devices : List DeviceInfo) (number : ℕ) (how : ToolEnd) : Type 0 where
  pub get : slice_get devices number ≡ None
  pub beyond : length devices ≤ number
  pub way : how ≡ end.NoDevice (length devices)

device_some : (o : Option DeviceInfo) (n : ℕ) (device : DeviceInfo) → (let r : Result DeviceInfo ToolEnd = Ok device in r ≡ device_or_end o n) → o ≡ Some device
device_some None n device is = cc
device_some (Some d) n device is = let same : d ≡ device = cc in ap (λ (x : DeviceInfo). Some x) same

device_none : (o : Option DeviceInfo) (n : ℕ) (how : ToolEnd) → (let r : Result DeviceInfo ToolEnd = Err how in r ≡ device_or_end o n) → (o ≡ None) × (how ≡ end.NoDevice n)
device_none None n how is = (refl, cc)
device_none (Some d) n how is = cc

pub is_there : (devices : List DeviceInfo) (number : ℕ) (device : DeviceInfo) → (let r : Result DeviceInfo ToolEnd = Ok device in r ≡ device_or_end (slice_get devices number) (length devices)) → IsThere devices number device
is_there devices number device is =
    let get = device_some (slice_get devices number) (length devices) device is in
    record { get = get; within = slice_get_within devices number device get }

pub is_missing : (devices : List DeviceInfo) (number : ℕ) (how : ToolEnd) → (let r : Result DeviceInfo ToolEnd = Err how in r ≡ device_or_end (slice_get devices number) (length devices)) → IsMissing devices number how
is_missing devices number how is =
    let get = device_none (slice_get devices number) (length devices) how is in
    elim ((slice_get_cases devices number).1) [
      | inl within ↦ absurd (none-some within.0 (sym get.0 ∙ within.2))
      | inr beyond ↦ record { get = get.0; beyond = beyond.0; way = get.1 }
    ]

-- the device with a number is one that may be stated
pub stated_at : (devices : List DeviceInfo) (number : ℕ) (device : DeviceInfo) → slice_get devices number ≡ Some device → IsDeviceInfo device → (d : DeviceInfo) → slice_get devices number ≡ Some d → IsDeviceInfo d
stated_at devices number device there stated d get =
    subst IsDeviceInfo (same_Some device d (sym there ∙ get)) stated

pub missing_at : (devices : List DeviceInfo) (number : ℕ) → slice_get devices number ≡ None → (d : DeviceInfo) → slice_get devices number ≡ Some d → IsDeviceInfo d
missing_at devices number none d get = absurd (none-some d (sym none ∙ get))

-- a sound is played on a device, and then that is written
abbrev pub reported : PlayJob → DeviceInfo → ClientState → SourceSound × List ℕ → Trace
reported job device w given = trace_of play_finish (plays_on job given.0 device given.1 w) (λ p. writes_first (played_text p.frames p.start.0) (ends (finish_by job.strict p.late)))

module _ {trace : Trace} {number : ℕ} {devices : List DeviceInfo} (each : DeviceInfo → Trace) (is : trace ≡ with_job_device number devices each) where
  -- a tool whose device exists follows its trace on that
  pub followed_there : {device : DeviceInfo} {how : ToolEnd} {s s' h h' : Option (List ℕ)} → IsThere devices number device → ObservedTrace (each device) how s s' h h' → ObservedTrace trace how s s' h h'
  followed_there t f = rw (is, t.get) f

  -- one whose device does not exist sends and writes nothing
  pub followed_missing : {how : ToolEnd} {s h : Option (List ℕ)} → IsMissing devices number how → ObservedTrace trace how s s h h
  followed_missing m = rw (is, m.get) (followed_end (no_device (length devices)) m.way)

number_of : (a b : ℕ) → end.NoDevice a ≡ end.NoDevice b → a ≡ b
number_of a b e = cc

-- which ends say that a device does not exist
pub missing_iff : (devices : List DeviceInfo) (number : ℕ) (how : ToolEnd) → IsMissing devices number how → (n : ℕ) → (how ≡ end.NoDevice n) ↔ ((n ≡ length devices) × (length devices ≤ number))
missing_iff devices number how m n = (λ e. (number_of n (length devices) (sym e ∙ m.way), m.beyond), λ e. m.way ∙ ap (λ (k : ℕ). end.NoDevice k) (sym e.0))

pub there_iff : (devices : List DeviceInfo) (number : ℕ) (device : DeviceInfo) (how : ToolEnd) → IsThere devices number device → ((n : ℕ) → how ≡ end.NoDevice n → ⊥) → (n : ℕ) → (how ≡ end.NoDevice n) ↔ ((n ≡ length devices) × (length devices ≤ number))
there_iff devices number device how t never n = (λ e. absurd (never n e), λ e. let within = t.within in absurd (let beyond = e.1 in omega arith))

-- the context of a tool, by other names of its device and of its channels
pub context_asked : (devices : List DeviceInfo) (context : ToolContext) {number channels : ℕ} {asked : Asked} → context.device ≡ number → device_channels devices number ≡ channels → creates channels context ≡ asked → creates (device_channels devices context.device) context ≡ asked
context_asked devices context same_device same_channels same = ap (λ (n : ℕ). creates n context) (ap (device_channels devices) same_device ∙ same_channels) ∙ same
