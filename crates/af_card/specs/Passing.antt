-- What goes between a device and its program in one call, and the acts that the call adds. These are all: no other act is added.
use Rattle.std.specs.Prelude.{◌≡◌, ◌<◌, ℕ, ◌+◌, ◌-◌, Bool, true, false, ◌&&◌, ◌==◌, nat_le, nat_lt, if◌then◌else◌, List, [], ◌∷◌, ◌++◌, length, min, take, drop, option_map}
use Rattle.std.specs.declared.option.Option.{Option}
use Rattle.std.specs.declared.option.Option.TheVariants.{None, Some}
use Rattle.af_limits.specs.Limits.{longest_capture}
use Rattle.af_io.specs.Observed.{Appended}
use Rattle.af_program.specs.declared.program.Launched.{Launched}
use Rattle.af_program.specs.declared.program.Launched.TheVariants as launch
use Rattle.af_program.specs.declared.program.Gave.{Gave}
use Rattle.af_program.specs.declared.program.Gave.TheVariants as gives
use Rattle.af_program.specs.declared.program.Took.{Took}
use Rattle.af_program.specs.declared.program.Took.TheVariants as takes
use Rattle.af_program.specs.declared.starts.Starts.{Starts}
use Rattle.af_program.specs.Acts.{ToldAct, emitted, ended, took_acts, TookFits}
use Rattle.af_program.specs.Handing.{acts_if, given_acts, left_with}
use Rattle.af_program.specs.Waits.{begun_once_more, after_end}
use Rattle.af_world.specs.declared.card_kind.CardKind.{CardKind}
use Rattle.af_world.specs.declared.card_kind.CardKind.TheVariants as kind
use Rattle.af_card.specs.declared.running.Running.{Running}
use Rattle.af_card.specs.Between.{BetweenState, IsWhole, after_give, after_take, frames_of, gives_now, gives_sound, is_over_of, running_after_look, running_since, takes_now}
use Rattle.af_card.specs.Lost.{lost_after, without_room}

-- Starts and ends

-- a start was tried at this moment
abbrev pub begun_between : Launched → ℕ → BetweenState → BetweenState
begun_between launch.Runs at b = record b { running = Some (running_since at); starts = begun_once_more b.starts }
begun_between launch.Failed at b = record b { starts = after_end (begun_once_more b.starts) at at }
begun_between launch.OutOfMemory at b = record b { starts = after_end (begun_once_more b.starts) at at }

abbrev pub starts_once_over : Option Running → Starts → ℕ → Starts
starts_once_over None starts at = starts
starts_once_over (Some running) starts at = after_end starts running.began at

-- the program is ended at this moment; nothing of its sound is left, and nothing is owed
abbrev pub ended_between : ℕ → BetweenState → BetweenState
ended_between at b =
    record b { running = None; starts = starts_once_over b.running b.starts at; left = []; owed = [] }

-- Given and taken

-- what it is owed after an answer to a give of all of it
abbrev pub still_owed : Took → List ℕ → List ℕ
still_owed (takes.Bytes n) owed = drop n owed
still_owed takes.NoRoom owed = owed
still_owed takes.Ended owed = owed

-- after a give of what it is owed; NoRoom also stands for no give, as it changes nothing
abbrev pub given_between : Took → ℕ → BetweenState → BetweenState
given_between took at b =
    record b { running = option_map (after_give took at) b.running; owed = still_owed took b.owed }

-- whether it is offered what it is owed: it takes sound, and is owed some
abbrev pub is_offered : BetweenState → Bool
is_offered b = takes_now b.running && nat_lt 0 (length b.owed)

-- the acts of offering it that, which is one give or none
abbrev pub offer_acts : BetweenState → Took → List ToldAct
offer_acts b took = acts_if (is_offered b) (took_acts took b.owed)

-- whether it is asked for sound: it gives some, and there is room
abbrev pub is_asked : BetweenState → Bool
is_asked b = gives_now b.shape.kind b.running && nat_lt (length b.left) longest_capture

-- the acts of asking it, which is one take with all the room, or none
abbrev pub ask_acts : BetweenState → Gave → List ℕ → List ToldAct
ask_acts b came bytes = acts_if (is_asked b) (given_acts (longest_capture - length b.left) came bytes)

-- after a take that gave these bytes; NotYet also stands for no take, as it changes nothing
abbrev pub taken_between : Gave → List ℕ → ℕ → BetweenState → BetweenState
taken_between came bytes at b =
    let left = left_with came b.left bytes in
    record b { running = option_map (after_take came (nat_le b.shape.frame_bytes (length left)) at) b.running; left = left }

abbrev pub looked_between : ℕ → BetweenState → BetweenState
looked_between at b = record b { running = running_after_look b.running b.shape.kind at }

-- All that it is owed is offered in one give, if it takes sound and is owed some, and a first part of it is taken, or nothing.
pub record GivesOwed (at : ℕ) (before after : BetweenState) (acts acts' : Option (List ToldAct)) : Type 0 where
  pub took : Took
  pub fits : TookFits took (length before.owed)
  pub waits : is_offered before ≡ false → took ≡ takes.NoRoom
  pub goes : after ≡ given_between took at before
  pub told : Appended acts (offer_acts before took) acts'

-- It is asked in one take, if it gives sound and there is room, and what it gives is taken.
pub record TakesGiven (at : ℕ) (before after : BetweenState) (acts acts' : Option (List ToldAct)) : Type 0 where
  pub came : Gave
  pub bytes : List ℕ
  pub silent : is_asked before ≡ false → came ≡ gives.NotYet
  pub goes : after ≡ taken_between came bytes at before
  pub told : Appended acts (ask_acts before came bytes) acts'

-- While it is asked what is due

-- a program is ended exactly if no frame is due by it and it is over: it gives or takes nothing any more, or stalls
abbrev pub is_done_at : ℕ → BetweenState → Bool
is_done_at at b = (frames_of b == 0) && is_over_of b.running b.shape.kind at

abbrev pub EndsIf : Bool → ℕ → BetweenState → BetweenState → List ToldAct → Option (List ToldAct) → Option (List ToldAct) → Type 0
EndsIf true at b after so_far acts acts' = (after ≡ ended_between at b) × Appended acts (so_far ++ (ended at ∷ [])) acts'
EndsIf false at b after so_far acts acts' = (after ≡ b) × Appended acts so_far acts'

-- after a give of what it is owed, a take, and a look
abbrev pub met_between : Took → Gave → List ℕ → ℕ → BetweenState → BetweenState
met_between took came bytes at b = looked_between at (taken_between came bytes at (given_between took at b))

-- A program that runs is offered what it is owed, and then asked for bytes. Then it is ended at this moment, if it is to be
-- ended.
pub record Meets (at : ℕ) (before after : BetweenState) (acts acts' : Option (List ToldAct)) : Type 0 where
  pub took : Took
  pub came : Gave
  pub bytes : List ℕ
  pub fits : TookFits took (length before.owed)
  pub waits : is_offered before ≡ false → took ≡ takes.NoRoom
  pub silent : is_asked (given_between took at before) ≡ false → came ≡ gives.NotYet
  pub ends : let met = met_between took came bytes at before in
      EndsIf (is_done_at at met) at met after
      (offer_acts before took ++ ask_acts (given_between took at before) came bytes) acts acts'

-- As the sound of a tick is captured

-- what is left of a program's sound after so many bytes of a tick were captured
abbrev pub left_after : Option Running → BetweenState → ℕ → List ℕ
left_after None b bytes = b.left
left_after (Some running) b bytes = if gives_sound b.shape.kind then drop bytes b.left else b.left

abbrev pub captured_between : ℕ → BetweenState → BetweenState
captured_between bytes b = record b { left = left_after b.running b bytes; tick = Some bytes }

-- As the sound of a tick is emitted

-- a loudspeaker is owed the sound of a tick
abbrev pub owing : List ℕ → BetweenState → BetweenState
owing sound b = record b { owed = b.owed ++ sound; tick = None }

-- a loudspeaker is offered all that it is owed, and this is the sound too
pub record HandsAll (at : ℕ) (sound : List ℕ) (before after : BetweenState) (acts acts' : Option (List ToldAct)) : Type 0 where
  pub took : Took
  pub fits : TookFits took (length (before.owed ++ sound))
  pub waits : is_offered (owing sound before) ≡ false → took ≡ takes.NoRoom
  pub goes : after ≡ given_between took at (owing sound before)
  pub told : Appended acts (emitted sound ∷ offer_acts (owing sound before) took) acts'

-- it took so many bytes of a sound; this part is the rest of the frame in which it stopped, as far as the sound has it
pub record StopsWithin (width n : ℕ) (sound part : List ℕ) : Type 0 where
  pub rest : ℕ
  pub less : rest < width
  pub whole : IsWhole width (n + rest)
  pub is : part ≡ take (min rest (length sound - n)) (drop n sound)

abbrev pub IsPart : Took → ℕ → List ℕ → List ℕ → Type 0
IsPart (takes.Bytes n) width sound part = StopsWithin width n sound part
IsPart takes.NoRoom width sound part = part ≡ []
IsPart takes.Ended width sound part = part ≡ []

-- whether a card or an encoder is given of the sound: it takes sound, and is owed nothing
abbrev pub may_pass : BetweenState → Bool
may_pass b = takes_now b.running && (length b.owed == 0)

-- what a card is owed after an answer to a give of the sound
abbrev pub owed_after : Took → List ℕ → List ℕ → List ℕ
owed_after (takes.Bytes n) owed part = part
owed_after takes.NoRoom owed part = owed
owed_after takes.Ended owed part = owed

-- the frames that it did not take, and that it is not owed, are lost
abbrev pub passed_between : Took → List ℕ → List ℕ → ℕ → BetweenState → BetweenState
passed_between took part sound at b = record b {
  running = option_map (after_give took at) b.running;
  owed = owed_after took b.owed part;
  tick = None;
  lost = lost_after b.lost (without_room took (length sound) (length part)) b.shape.frame_bytes;
}

-- the acts of offering it a sound, which is one give or none
abbrev pub pass_acts : BetweenState → Took → List ℕ → List ToldAct
pass_acts b took sound = acts_if (may_pass b) (took_acts took sound)

-- A card or an encoder is offered the sound in one give, if it may be. It takes whole frames from the front.
pub record PassesSound (at : ℕ) (sound : List ℕ) (before after : BetweenState) (acts acts' : Option (List ToldAct)) : Type 0 where
  pub took : Took
  pub part : List ℕ
  pub fits : TookFits took (length sound)
  pub parted : IsPart took before.shape.frame_bytes sound part
  pub waits : may_pass before ≡ false → took ≡ takes.NoRoom
  pub goes : after ≡ passed_between took part sound at before
  pub told : Appended acts (emitted sound ∷ pass_acts before took sound) acts'

-- A card or an encoder is first offered what it is owed, and then the sound. Frames are lost only where it may not be given the
-- sound, or took less than that.
pub record HandsFrames (at : ℕ) (sound : List ℕ) (before after : BetweenState) (acts acts' : Option (List ToldAct)) : Type 0 where
  pub first : Took
  pub took : Took
  pub part : List ℕ
  pub fits : TookFits first (length before.owed) × TookFits took (length sound)
  pub parted : IsPart took before.shape.frame_bytes sound part
  pub idles : is_offered before ≡ false → first ≡ takes.NoRoom
  pub waits : may_pass (given_between first at before) ≡ false → took ≡ takes.NoRoom
  pub goes : after ≡ passed_between took part sound at (given_between first at before)
  pub told : Appended acts
      (offer_acts before first ++ (emitted sound ∷ pass_acts (given_between first at before) took sound)) acts'

-- nobody is given the sound
pub record HandsNone (sound : List ℕ) (before after : BetweenState) (acts acts' : Option (List ToldAct)) : Type 0 where
  pub goes : after ≡ record before { tick = None }
  pub told : Appended acts (emitted sound ∷ []) acts'

abbrev pub HandsBy : CardKind → ℕ → List ℕ → BetweenState → BetweenState → Option (List ToldAct) → Option (List ToldAct) → Type 0
HandsBy kind.Speaker at sound before after acts acts' = HandsAll at sound before after acts acts'
HandsBy kind.Microphone at sound before after acts acts' = HandsNone sound before after acts acts'
HandsBy kind.Card at sound before after acts acts' = HandsFrames at sound before after acts acts'
HandsBy kind.Encoder at sound before after acts acts' = HandsFrames at sound before after acts acts'

-- The sound of a tick is emitted: a program that runs is handed it.
abbrev pub HandsOf : Option Running → ℕ → List ℕ → BetweenState → BetweenState → Option (List ToldAct) →
    Option (List ToldAct) → Type 0
HandsOf None at sound before after acts acts' = HandsNone sound before after acts acts'
HandsOf (Some running) at sound before after acts acts' = HandsBy before.shape.kind at sound before after acts acts'
