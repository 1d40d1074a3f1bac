-- What each call of the real world promises, of what contracts see of it. A world that stands over it has just these calls.
use Rattle.std.specs.Prelude.{◌≡◌, ◌<◌, ℕ, length, true, false, IfSome, MatchOption, Bool, List}
use Rattle.af_limits.specs.Limits.{most_links, most_devices}
use Rattle.af_live.specs.LinkTable.{is_drained, is_free, link_at, something_ready, KeepsOpen, ClosesOne, Opens}
use Rattle.af_live.specs.Shares.{AfterRead, AfterWrite}
use Rattle.af_live.specs.Streams.{AreApart}
use Rattle.af_live.specs.Counting.{CountsOne, CountsStand}
use Rattle.af_backend.specs.Backends.{may_be_refused, round_after, CapturesAt, EmitsAt, AttachesAt}
use Rattle.af_backend.specs.CodecUse.{codec_allows, codec_after}
use Rattle.af_backend.specs.Rounds.{is_attached}
use Rattle.af_process.specs.Acts.{words_of}
use Rattle.af_lines.specs.HeldLines.{is_quiet, line_at, lines_after, AttachesLine, HooksAt}
use Rattle.af_live.specs.Polls.{LeadsLinks, TakesLeast}
use Rattle.af_live.specs.Readings.{AsksClock, PausesBy}
use Rattle.af_live.specs.Timer.{moment_of}
use Rattle.af_live.specs.RealWorld.{given_wake, listens_after, GivesKept, LeadsLines, LeadsRound, LosesNoFrame, WakeFits}
use Rattle.af_io.specs.declared.flow.Put.{Put}
use Rattle.af_io.specs.declared.flow.Put.TheVariants as put
use Rattle.af_world.specs.declared.script.DeviceSpec.{DeviceSpec}
use Rattle.af_world.specs.declared.live.Kind.{Kind}
use Rattle.af_world.specs.declared.live.LineProgram.{LineProgram}
use Rattle.af_world.specs.declared.live.Ready.{Ready}
use Rattle.af_world.specs.declared.live.Ready.TheVariants as ready
use Rattle.af_world.specs.declared.live.Waited.{Waited}
use Rattle.af_world.specs.declared.live.Waited.TheVariants as waited
use Rattle.af_world.specs.declared.world.LinkGot.{LinkGot}
use Rattle.af_world.specs.declared.world.LinkGot.TheVariants as got
use Rattle.af_world.specs.declared.world.LinkTook.{LinkTook}
use Rattle.af_world.specs.declared.world.LinkTook.TheVariants as took
use Rattle.af_live.specs.RealWorld.{RealState}

-- A read of a link fails where the link is not held, gives nothing where all that came was read or where one was made since the
-- last poll, and changes only what is known of the link.
pub record RealReads (old : RealState) (link : ℕ) (answer : LinkGot) (into : List ℕ) (new : RealState) : Type 0 where
  pub faults : CountsOne (answer ≡ got.Failed) old.link_faults new.link_faults
  pub keeps_open : KeepsOpen old.links new.links
  pub unheld : is_free (link_at old.links link) ≡ true → answer ≡ got.Failed
  pub drained : old.listens ≡ true → is_drained (link_at old.links link) ≡ true → answer ≡ got.NotYet
  pub after : AfterRead link (length into) answer old.links new.links
  pub apart : AreApart new.links
  pub rest : new ≡ record old { links = new.links; link_faults = new.link_faults }

-- A write to a link fails where the link is not held, takes at most what is left of its share, and changes only what is known of
-- the link.
pub record RealWrites (old : RealState) (link : ℕ) (piece : List ℕ) (answer : LinkTook) (new : RealState) : Type 0 where
  pub faults : CountsOne (answer ≡ took.Failed) old.link_faults new.link_faults
  pub keeps_open : KeepsOpen old.links new.links
  pub unheld : is_free (link_at old.links link) ≡ true → answer ≡ took.Failed
  pub after : AfterWrite link (length piece) answer old.links new.links
  pub apart : AreApart new.links
  pub rest : new ≡ record old { links = new.links; link_faults = new.link_faults }

-- The close of a link lets go of that link, and of nothing else.
pub record RealCloses (old : RealState) (link : ℕ) (new : RealState) : Type 0 where
  pub closed : ClosesOne link old.links new.links
  pub apart : AreApart new.links
  pub rest : new ≡ record old { links = new.links }

-- A capture gives what the backend of the device gives.
pub record RealCaptures (old : RealState) (device : ℕ) (answer : Put) (into : List ℕ) (new : RealState) : Type 0 where
  pub faults : CountsOne (answer ≡ put.Failed) old.device_faults new.device_faults
  pub backends : CapturesAt device answer into old.backends new.backends
  pub rest : new ≡ record old { backends = new.backends; device_faults = new.device_faults }

-- An emit hands the sound to the backend of the device, or to the codec.
pub record RealEmits (old : RealState) (device : ℕ) (sound : List ℕ) (answer : Put) (new : RealState) : Type 0 where
  pub faults : CountsOne (answer ≡ put.Failed) old.device_faults new.device_faults
  pub backends : EmitsAt device answer sound old.backends new.backends old.codec new.codec
  pub rest : new
      ≡ record old { backends = new.backends; codec = new.codec; device_faults = new.device_faults }

-- A hook call is one of the line of the device, at the moment that the clock shows.
pub record RealHooks (old : RealState) (device : ℕ) (off : Bool) (answer : Put) (new : RealState) : Type 0 where
  pub faults : CountsOne (answer ≡ put.Failed) old.device_faults new.device_faults
  pub hooks : HooksAt device off answer old.lines new.lines
  pub clock : AsksClock old.clock new.clock
  pub rest : new
      ≡ record old { clock = new.clock; lines = new.lines; device_faults = new.device_faults }

-- A listen is done once.
pub record RealListens (old : RealState) (answer : Ready) (new : RealState) : Type 0 where
  pub faults : CountsOne (answer ≡ ready.Failed) old.listen_faults new.listen_faults
  pub listens : new.listens ≡ listens_after answer old.listens
  pub again : old.listens ≡ true → answer ≡ ready.Failed
  pub rest : new ≡ record old { listens = new.listens; listen_faults = new.listen_faults }
  pub counts : CountsStand old new

-- A device is attached under a free number, with its backend, its place in the round and its line. Its program is started at the
-- moment that the clock shows.
pub record RealAttaches (old : RealState) (device : ℕ) (spec : DeviceSpec) (kind : Kind) (answer : Ready)
    (new : RealState) : Type 0 where
  pub faults : CountsOne (answer ≡ ready.Failed) old.device_faults new.device_faults
  pub attaches : answer ≡ ready.Done → (device < most_devices) × (is_attached old.round device ≡ false)
  pub round : new.round ≡ round_after answer kind old.round device spec.rate
  pub allowed : answer ≡ ready.Done → codec_allows old.codec kind ≡ true
  pub done : device < most_devices → is_attached old.round device ≡ false →
      codec_allows old.codec kind ≡ true → may_be_refused kind ≡ false → answer ≡ ready.Done
  pub backends : AttachesAt answer kind device spec (moment_of new.clock.timer.shown) old.backends
      new.backends
  pub clock : AsksClock old.clock new.clock
  pub codec : new.codec ≡ codec_after answer kind old.codec
  pub lines : new.lines ≡ lines_after answer device spec.line old.lines
  pub rest : new ≡ record old {
    clock = new.clock;
    backends = new.backends;
    codec = new.codec;
    round = new.round;
    lines = new.lines;
    device_faults = new.device_faults;
  }
  pub counts : CountsStand old new

-- A line gets a program only if it has none. The program is started at the moment that the clock shows.
pub record RealAttachesLine (old : RealState) (device : ℕ) (program : LineProgram) (answer : Ready)
    (new : RealState) : Type 0 where
  pub faults : CountsOne (answer ≡ ready.Failed) old.device_faults new.device_faults
  pub quiet : answer ≡ ready.Done → is_quiet (line_at old.lines.lines device) ≡ true
  pub attaches : AttachesLine answer program.restarts (words_of program.words.now) (moment_of new.clock.timer.shown) device
      old.lines new.lines
  pub clock : AsksClock old.clock new.clock
  pub rest : new
      ≡ record old { clock = new.clock; lines = new.lines; device_faults = new.device_faults }
  pub counts : CountsStand old new

-- A wait gives what is ready first, or goes round the devices and the lines at one reading of the clock, or polls. A poll gives
-- each link a new share. No due frame is lost.
pub record RealWaits (old : RealState) (more : Bool) (answer : Waited) (new : RealState) : Type 0 where
  pub faults : CountsOne (answer ≡ waited.Failed) old.wait_faults new.wait_faults
  pub unlistened : old.listens ≡ false → answer ≡ waited.Failed
  pub kept : (k : ℕ) → old.listens ≡ true → k < most_links → something_ready (link_at old.links k) ≡ true →
      GivesKept (given_wake answer) old.links old.round new.links new.round
  pub fits : IfSome (given_wake answer) (λ wake. WakeFits old.links old.round old.lines wake)
  pub opens : MatchOption (given_wake answer) (KeepsOpen old.links new.links)
      (λ wake. Opens wake old.links new.links)
  pub pauses : PausesBy more new.clock.step.is_late old.links new.lines old.poll new.poll
  pub links : LeadsLinks new.poll.events (given_wake answer) old.links new.links
  pub least : TakesLeast old.links new.links
  pub round : LeadsRound (given_wake answer) old.links old.clock old.round old.backends
      new.links new.clock new.round new.backends
  pub frames : LosesNoFrame (given_wake answer) old.round new.round
  pub lines : LeadsLines (given_wake answer) old.links old.round old.lines new.links new.round
      new.lines
  pub apart : AreApart new.links
  pub rest : new ≡ record old {
    links = new.links;
    poll = new.poll;
    clock = new.clock;
    backends = new.backends;
    round = new.round;
    lines = new.lines;
    wait_faults = new.wait_faults;
  }
  pub counts : CountsStand old new
