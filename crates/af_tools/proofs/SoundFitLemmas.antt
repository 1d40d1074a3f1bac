-- A file and its device, which fit each other or do not.
use Rattle.std.proofs.Common.{◌≡◌, ◌≤◌, ◌==◌, ℕ, Bool, true, false, nat_lt, List, take, drop, refl, ap, ◌∙◌, sym, arith, inl, inr, if◌then◌else◌, Result, Ok, Err, Option, None, Some}
use Rattle.std.proofs.lemmas.List.{take-append-drop}
use Rattle.std.proofs.lemmas.Bool.Decides.{nat_tests}
use Rattle.af_sound.specs.declared.head.HeadStep.{HeadStep}
use Rattle.af_sound.specs.declared.head.HeadStep.TheVariants as step
use Rattle.af_sound.specs.declared.head.SoundForm.{SoundForm}
use Rattle.af_sound.specs.declared.head.SoundHead.{SoundHead}
use Rattle.af_sound.specs.Fronts.{front_of, Front}
use Rattle.af_sound.proofs.FrontLemmas.{front, front_is_head}
use Rattle.af_request.specs.declared.reply.DeviceInfo.{DeviceInfo}
use Rattle.af_cli.specs.declared.job.PlayJob.{PlayJob}
use Rattle.af_toolkit.specs.declared.end.ToolEnd.{ToolEnd}
use Rattle.af_toolkit.specs.Parts.{end_among}
use Rattle.af_toolkit.specs.Trace.{Trace, Finish, channel_mismatch, mismatch, tool_end, too_long, trace_by, value_by}
use Rattle.af_toolkit.specs.Ends.{ObservedTrace}
use Rattle.af_toolkit.proofs.ToolEndLemmas.{IsToEnd}
use Rattle.af_toolkit.proofs.ToolPartLemmas.{followed_end, followed_early}
use Rattle.af_tools.specs.declared.sound.SourceSound.{SourceSound}
use Rattle.af_tools.specs.Sounds.{most_bytes, as_served, file_sound, fits_device, header_or_end, reads_file, reads_sound, stated_part, GivesSamples, IsServedAs}
use Rattle.af_tools.specs.Reading.{SoundCame}
use Rattle.af_tools.proofs.HeadReadLemmas.{front_within}

-- an end that is wanted of a part, or its value
module _ {X : Type 0} where
  pub end_wanted : (wanted : Result X Finish) {how : ToolEnd} → (let r : Result X ToolEnd = Err how in r ≡ end_among tool_end wanted) → (finish : Finish) × (how ≡ tool_end finish) × (wanted ≡ Err finish)
  end_wanted (Ok x) is = absurd cc
  end_wanted (Err finish) is = (finish, cc, refl)

  value_wanted : (wanted : Result X Finish) {x : X} → (let r : Result X ToolEnd = Ok x in r ≡ end_among tool_end wanted) → wanted ≡ Ok x
  value_wanted (Ok y) is = cc
  value_wanted (Err finish) is = absurd cc

module _ (form : SoundForm) (job : PlayJob) (device : DeviceInfo) (bytes : List ℕ) (head : SoundHead) (size : ℕ) (left : Option (List ℕ))
    (is_form : Some form ≡ job.form) (said : front_of form bytes ≡ front (step.Head head) size) (few : size ≤ most_bytes) where
  -- the header was read
  after_head : reads_sound job.form job device bytes ≡ value_by (fits_device device head) (λ _. Ok (file_sound device head size, drop size bytes))
  after_head =
      ap (λ (f : Option SoundForm). reads_sound f job device bytes) (sym is_form) ∙ ap (λ (f : Front). reads_file device f bytes) said
      ∙ ap (λ (r : Result SoundHead Finish). value_by r (λ h. value_by (fits_device device h) (λ _. Ok (file_sound device h size, drop size bytes)))) (front_within (step.Head head) size few)

  pub sound_unfit : (how : ToolEnd) → (let r : Result (Unit {0}) ToolEnd = Err how in r ≡ end_among tool_end (fits_device device head)) → SoundCame job device bytes (Err how) left
  sound_unfit how is =
      let u = end_wanted (fits_device device head) is in
      inr (u.0, u.1, after_head ∙ ap (λ (r : Result (Unit {0}) Finish). value_by r (λ _. Ok (file_sound device head size, drop size bytes))) u.2)

  pub sound_fits : (let r : Result (Unit {0}) ToolEnd = Ok tt in r ≡ end_among tool_end (fits_device device head)) → left ≡ Some (drop size bytes) → SoundCame job device bytes (Ok (file_sound device head size)) left
  sound_fits is is_left =
      (drop size bytes, is_left, after_head ∙ ap (λ (r : Result (Unit {0}) Finish). value_by r (λ _. Ok (file_sound device head size, drop size bytes))) (value_wanted (fits_device device head) is))

-- a sound that the device plays, and the bytes after a header
pub record SoundRead (form : Option SoundForm) (job : PlayJob) (device : DeviceInfo) (bytes : List ℕ) (sound : SourceSound) (rest : List ℕ) : Type 0 where
  pub gives : GivesSamples form job device bytes sound.ty (as_served sound.coding (stated_part sound.length rest))
  pub served : IsServedAs sound.coding sound.ty
  pub channels : sound.channels ≡ device.channels

-- what a tool makes of its source: a sound, or an end for the source or the device
abbrev IsSound : Option SoundForm → PlayJob → DeviceInfo → List ℕ → Result (SourceSound × List ℕ) Finish → Type 0
IsSound form job device bytes (Ok given) = SoundRead form job device bytes given.0 given.1
IsSound form job device bytes (Err finish) = IsToEnd finish → ⊥

is_sound : (form : Option SoundForm) (job : PlayJob) (device : DeviceInfo) (bytes : List ℕ) → IsSound form job device bytes (reads_sound form job device bytes)
is_sound None job device bytes = record { gives = (refl, refl); served = tt; channels = refl }
is_sound (Some form) job device bytes = by (nat_lt most_bytes (front_of form bytes).size) (front_of form bytes).says refl where
  by_shape : (head : SoundHead) (b c : Bool) → (front_of form bytes).says ≡ step.Head head → (head.rate == device.rate) ≡ b → (head.channels == device.channels) ≡ c →
      IsSound (Some form) job device bytes (value_by {X = Unit {0}} (if b then (if c then Ok tt else Err (channel_mismatch head.channels device.channels)) else Err (mismatch head.rate device.rate)) (λ _. Ok (file_sound device head (front_of form bytes).size, drop (front_of form bytes).size bytes)))
  by_shape head true true says rate channels =
      let size = (front_of form bytes).size in
      let said : front_of form bytes ≡ front (step.Head head) size = ap (λ (s : HeadStep). front s size) says in
      record {
        gives = record { front = take size bytes; rest = drop size bytes; head = head; is = sym (take-append-drop size bytes); is_head = (front_is_head form bytes size head said).1; one_rate = grind (arith, nat_tests); one_shape = grind (arith, nat_tests); is_type = refl; is_samples = refl };
        served = refl;
        channels = refl;
      }
  by_shape head true false says rate channels = λ e. cc
  by_shape head false c says rate channels = λ e. cc

  by : (long : Bool) (says : HeadStep) → (front_of form bytes).says ≡ says →
      IsSound (Some form) job device bytes (value_by (if long then Err too_long else header_or_end says) (λ head. value_by (fits_device device head) (λ _. Ok (file_sound device head (front_of form bytes).size, drop (front_of form bytes).size bytes))))
  by true says said = λ e. cc
  by false (step.Head head) said = by_shape head (head.rate == device.rate) (head.channels == device.channels) said refl refl
  by false (step.Bad f) said = λ e. cc
  by false step.More said = λ e. cc

-- a tool that did all has read a sound
pub record SoundDone (form : Option SoundForm) (job : PlayJob) (device : DeviceInfo) (bytes : List ℕ) : Type 0 where
  pub sound : SourceSound
  pub rest : List ℕ
  pub is : reads_sound form job device bytes ≡ Ok (sound, rest)
  pub read : SoundRead form job device bytes sound rest

pub sound_done : (form : Option SoundForm) (job : PlayJob) (device : DeviceInfo) (bytes : List ℕ) (next : SourceSound × List ℕ → Trace) → IsToEnd (trace_by (reads_sound form job device bytes) next).finish → SoundDone form job device bytes
sound_done form job device bytes next = by (reads_sound form job device bytes) refl (is_sound form job device bytes) where
  by : (wanted : Result (SourceSound × List ℕ) Finish) → reads_sound form job device bytes ≡ wanted → IsSound form job device bytes wanted → IsToEnd (trace_by wanted next).finish → SoundDone form job device bytes
  by (Ok given) is read way = record { sound = given.0; rest = given.1; is = is; read = read }
  by (Err finish) is other way = absurd (other way)

-- a tool that ends for its source, before anything was sent
pub followed_unsound : (job : PlayJob) (device : DeviceInfo) (bytes : List ℕ) (next : SourceSound × List ℕ → Trace) (how : ToolEnd) (s h : Option (List ℕ)) (left : Option (List ℕ)) → SoundCame job device bytes (Err how) left →
    ObservedTrace (trace_by (reads_sound job.form job device bytes) next) how s s h h
followed_unsound job device bytes next how s h left (inl outer) = followed_early (trace_by (reads_sound job.form job device bytes) next) how outer
followed_unsound job device bytes next how s h left (inr f) = rw f.2 (followed_end f.0 f.1)
