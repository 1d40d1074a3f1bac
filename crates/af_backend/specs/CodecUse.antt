-- The codec of a world, which takes the sound of one device.
use Rattle.std.specs.Prelude.{◌≡◌, ⊤, ℕ, ◌≤◌, nat_le, Bool, true, false, ◌&&◌, List, [], length}
use Rattle.std.specs.declared.option.Option.{Option}
use Rattle.af_io.specs.declared.flow.Put.{Put}
use Rattle.af_io.specs.declared.flow.Put.TheVariants as put
use Rattle.af_process.specs.Acts.{Told, words_of}
use Rattle.af_codec.specs.declared.feeding.Feeding.{Feeding}
use Rattle.af_codec.specs.Fed.{OrdersState, feeding_start}
use Rattle.af_codec.specs.Codec.{Feeds, IsFed}
use Rattle.af_world.specs.declared.live.Ready.{Ready}
use Rattle.af_world.specs.declared.live.Ready.TheVariants as ready
use Rattle.af_world.specs.declared.live.Kind.{Kind}
use Rattle.af_world.specs.declared.live.Kind.TheVariants as kind
use Rattle.af_config.specs.Stating.{is_command_line, longest_codec_word}
use Rattle.af_backend.specs.declared.codec_device.CodecStage.{CodecStage}
use Rattle.af_backend.specs.declared.codec_device.CodecStage.TheVariants as stage

-- The codec: its orders, what its children were fed, whether a sound was emitted, the acts of its spawner, if they are
-- observable, and its stage: it waits for its orders, it takes sound, or it has failed.
pub record CodecUse : Type 0 where
  pub orders : OrdersState
  pub feeding : Feeding
  pub emitted : Bool
  pub acts : Option (List Told)
  pub stage : CodecStage

-- it was just made, over a spawner with these acts
abbrev pub begun_codec : Option (List Told) → CodecUse
begun_codec acts =
    record {
      orders = record { restarts = 0; words = [] };
      feeding = feeding_start;
      emitted = false;
      acts = acts;
      stage = stage.Unset;
    }

-- Before its first orders it has emitted nothing. While it takes sound, it has a command line, and no emit has failed.
abbrev pub IsInStage : CodecStage → OrdersState → Feeding → Bool → Type 0
IsInStage stage.Unset orders feeding emitted = (emitted ≡ false) × (feeding.failed ≡ false)
IsInStage stage.Takes orders feeding emitted = (1 ≤ length orders.words) × (feeding.failed ≡ false)
IsInStage stage.Dead orders feeding emitted = ⊤

-- its stage after an emit
abbrev pub stage_after : Put → CodecStage
stage_after put.Done = stage.Takes
stage_after put.Failed = stage.Dead

-- One emit of the codec: it adds to the acts exactly the calls that a sound asks for, and answers as they do. Its orders stay.
-- From then on a sound was emitted.
pub record CodecEmits (answer : Put) (sound : List ℕ) (before after : CodecUse) : Type 0 where
  pub feeds : Feeds before.orders before.feeding after.feeding sound before.acts after.acts answer
  pub all : IsFed after.orders after.feeding true after.acts
  pub orders : after.orders ≡ before.orders
  pub emitted : after.emitted ≡ true
  pub stage : after.stage ≡ stage_after answer

-- Sound is handed to it. If it takes sound, that is one emit. Else there is none, and the call fails.
abbrev pub CodecTakesAt : CodecStage → Put → List ℕ → CodecUse → CodecUse → Type 0
CodecTakesAt stage.Takes answer sound before after = CodecEmits answer sound before after
CodecTakesAt stage.Unset answer sound before after = (answer ≡ put.Failed) × (after ≡ before)
CodecTakesAt stage.Dead answer sound before after = (answer ≡ put.Failed) × (after ≡ before)

abbrev pub CodecTakes : Put → List ℕ → CodecUse → CodecUse → Type 0
CodecTakes answer sound before after = CodecTakesAt before.stage answer sound before after

-- whether it waits for its orders
abbrev pub is_unset : CodecStage → Bool
is_unset stage.Unset = true
is_unset stage.Takes = false
is_unset stage.Dead = false

-- whether it can be given these orders: they are the first, and in range
abbrev pub may_set : CodecStage → ℕ → List (List ℕ) → Bool
may_set s restarts words = is_unset s && nat_le restarts 100 && is_command_line longest_codec_word words

-- it was given these orders, and takes sound
abbrev pub with_orders : CodecUse → ℕ → List (List ℕ) → CodecUse
with_orders u restarts words = record u { orders = record { restarts = restarts; words = words }; stage = stage.Takes }

-- the codec once a device of this kind was attached: a codec device gives it its orders
abbrev pub codec_with : Kind → CodecUse → CodecUse
codec_with (kind.Codec restarts words) u = with_orders u restarts (words_of words.now)
codec_with (kind.Files input output) u = u
codec_with kind.Loop u = u
codec_with (kind.Card which restarts words) u = u
codec_with kind.Silent u = u

-- the codec after an attach
abbrev pub codec_after : Ready → Kind → CodecUse → CodecUse
codec_after ready.Done k u = codec_with k u
codec_after _ k u = u

-- whether the codec allows an attach of this kind
abbrev pub codec_allows : CodecUse → Kind → Bool
codec_allows u (kind.Codec restarts words) = may_set u.stage restarts (words_of words.now)
codec_allows u (kind.Files input output) = true
codec_allows u kind.Loop = true
codec_allows u (kind.Card which restarts words) = true
codec_allows u kind.Silent = true
