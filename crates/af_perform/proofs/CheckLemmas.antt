-- Checks that pass, and how many frames bytes are.
use Rattle.std.proofs.Common.{◌≡◌, ℕ, true, false, not, nat_lt, ◌*◌, ◌/◌, ◌%◌, ◌≤◌, Bool, List, [], ◌∷◌, eqb-true, refl, subst, arith}
use Rattle.std.specs.declared.option.Option.{Option}
use Rattle.std.specs.declared.option.Option.TheVariants.{None}
use Rattle.std.proofs.lemmas.Bool.Decides.{nat_tests}
use Rattle.af_limits.specs.Limits.{longest_record}
use Rattle.af_sample.specs.declared.sample_type.SampleType.{SampleType}
use Rattle.af_sample.specs.declared.sample_type.SampleType.TheVariants.{Mu255, Alaw, Lin16, Lin32}
use Rattle.af_sample.specs.Channels.{IsChannelCount}
use Rattle.af_sample.specs.SampleTypes.{frame_bytes, width_of}
use Rattle.af_buffers.proofs.RecordRingLemmas.{by_count}
use Rattle.af_context.specs.declared.Context.{Context}
use Rattle.af_model.specs.declared.refusal.RefusalCause.{RefusalCause}
use Rattle.af_model.specs.declared.refusal.RefusalCause.TheVariants.{BadValue}
use Rattle.af_model.specs.declared.refusal.Refusal.{Refusal}
use Rattle.af_model.specs.Checks.{check, first_refusal}
use Rattle.af_model.specs.Play.{are_frames, play_refusal}
use Rattle.af_model.specs.Record.{record_refusal}
use Rattle.af_perform.specs.Sounds.{WholeBytes}

pub pass_first : (b : Bool) (cause : RefusalCause) (value : ℕ) (o : Option Refusal) (checks : List (Option Refusal)) → o ≡ check b cause value → first_refusal (o ∷ checks) ≡ None → (b ≡ false) × (first_refusal checks ≡ None)
pass_first true cause value o checks is e = absurd (let f : first_refusal (check true cause value ∷ checks) ≡ None = subst (λ x. first_refusal (x ∷ checks) ≡ None) is e in cc)
pass_first false cause value o checks is e = (refl, subst (λ x. first_refusal (x ∷ checks) ≡ None) is e)

pub not_false : (b : Bool) → not b ≡ false → b ≡ true
not_false true e = refl
not_false false e = absurd cc

not_lt : (a b : ℕ) → nat_lt a b ≡ false → b ≤ a
not_lt a b e = grind (arith, nat_tests)

pub record_passes : (channels : ℕ) (c : Context) (bytes : ℕ) → record_refusal channels c bytes ≡ None → bytes ≤ longest_record
unfolding record_refusal
record_passes channels c bytes e =
    let one = pass_first (nat_lt longest_record bytes) BadValue bytes (check (nat_lt longest_record bytes) BadValue bytes) (check (not (are_frames channels c bytes)) BadValue bytes ∷ []) refl e in
    not_lt longest_record bytes one.0

-- a play that passes has whole frames
pub play_passes : (channels : ℕ) (c : Context) (bytes : ℕ) → play_refusal channels c bytes ≡ None → bytes % frame_bytes c.ty channels ≡ 0
play_passes channels c bytes e = eqb-true (bytes % frame_bytes c.ty channels) 0 (not_false (are_frames channels c bytes) (unfailed (not (are_frames channels c bytes)) e))
  where
    unfailed : (fails : Bool) → check fails BadValue bytes ≡ None → fails ≡ false
    unfailed true e = absurd cc
    unfailed false e = refl

-- bytes that are whole frames are whole samples, and these are whole frames
pub whole_bytes : (ty : SampleType) (channels n : ℕ) → IsChannelCount channels → n % frame_bytes ty channels ≡ 0 → WholeBytes ty channels n
whole_bytes ty channels n count = by_count (λ c. n % frame_bytes ty c ≡ 0 → WholeBytes ty c n) (one ty) (two ty) channels count
  where
    one : (ty : SampleType) → n % frame_bytes ty 1 ≡ 0 → WholeBytes ty 1 n
    one Mu255 e = record { samples = omega arith; frames = omega arith }
    one Alaw e = record { samples = omega arith; frames = omega arith }
    one Lin16 e = record { samples = omega (arith, e); frames = omega arith }
    one Lin32 e = record { samples = omega (arith, e); frames = omega arith }

    two : (ty : SampleType) → n % frame_bytes ty 2 ≡ 0 → WholeBytes ty 2 n
    two Mu255 e = record { samples = omega arith; frames = omega (arith, e) }
    two Alaw e = record { samples = omega arith; frames = omega (arith, e) }
    two Lin16 e = record { samples = omega (arith, e); frames = omega (arith, e) }
    two Lin32 e = record { samples = omega (arith, e); frames = omega (arith, e) }

-- at most as many frames as bytes, and at most as many bytes in them
pub few_frames : (ty : SampleType) (channels n : ℕ) → IsChannelCount channels → (n / frame_bytes ty channels ≤ n) × (n / frame_bytes ty channels * frame_bytes ty channels ≤ n)
few_frames ty channels n count = by_count (λ c. (n / frame_bytes ty c ≤ n) × (n / frame_bytes ty c * frame_bytes ty c ≤ n)) (one ty) (two ty) channels count
  where
    one : (ty : SampleType) → (n / frame_bytes ty 1 ≤ n) × (n / frame_bytes ty 1 * frame_bytes ty 1 ≤ n)
    one Mu255 = (omega arith, omega arith)
    one Alaw = (omega arith, omega arith)
    one Lin16 = (omega arith, omega arith)
    one Lin32 = (omega arith, omega arith)

    two : (ty : SampleType) → (n / frame_bytes ty 2 ≤ n) × (n / frame_bytes ty 2 * frame_bytes ty 2 ≤ n)
    two Mu255 = (omega arith, omega arith)
    two Alaw = (omega arith, omega arith)
    two Lin16 = (omega arith, omega arith)
    two Lin32 = (omega arith, omega arith)

-- Frames that fit into a message: their bytes by samples, at most as many as may be, and whole frames.
pub record FramesFit (ty : SampleType) (channels frames : ℕ) : Type 0 where
  pub bytes : frames * channels * width_of ty ≡ frames * frame_bytes ty channels
  pub few : frames * channels ≤ longest_record
  pub frames_few : frames ≤ longest_record
  pub whole : frames * channels ≡ channels * (frames * channels / channels)
  pub count : frames * channels / channels ≡ frames

pub frames_fit : (ty : SampleType) (channels frames : ℕ) → IsChannelCount channels → frames * frame_bytes ty channels ≤ longest_record → FramesFit ty channels frames
frames_fit ty channels frames count = by_count (λ c. frames * frame_bytes ty c ≤ longest_record → FramesFit ty c frames) (one ty) (two ty) channels count
  where
    one : (ty : SampleType) → frames * frame_bytes ty 1 ≤ longest_record → FramesFit ty 1 frames
    one Mu255 e = record { bytes = omega arith; few = omega (arith, e); frames_few = omega (arith, e); whole = omega arith; count = omega arith }
    one Alaw e = record { bytes = omega arith; few = omega (arith, e); frames_few = omega (arith, e); whole = omega arith; count = omega arith }
    one Lin16 e = record { bytes = omega arith; few = omega (arith, e); frames_few = omega (arith, e); whole = omega arith; count = omega arith }
    one Lin32 e = record { bytes = omega arith; few = omega (arith, e); frames_few = omega (arith, e); whole = omega arith; count = omega arith }

    two : (ty : SampleType) → frames * frame_bytes ty 2 ≤ longest_record → FramesFit ty 2 frames
    two Mu255 e = record { bytes = omega arith; few = omega (arith, e); frames_few = omega (arith, e); whole = omega arith; count = omega arith }
    two Alaw e = record { bytes = omega arith; few = omega (arith, e); frames_few = omega (arith, e); whole = omega arith; count = omega arith }
    two Lin16 e = record { bytes = omega arith; few = omega (arith, e); frames_few = omega (arith, e); whole = omega arith; count = omega arith }
    two Lin32 e = record { bytes = omega arith; few = omega (arith, e); frames_few = omega (arith, e); whole = omega arith; count = omega arith }
