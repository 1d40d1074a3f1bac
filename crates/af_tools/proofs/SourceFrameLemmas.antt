-- Blocks of a source's frames, and of the frames as a server takes them, have room.
use Rattle.std.proofs.Common.{◌≡◌, ℕ, ◌+◌, ◌-◌, ◌*◌, ◌/◌, ◌<◌, ◌≤◌, sym, subst, arith, Option, None, Some}
use Rattle.std.proofs.lemmas.Nat.{mul-le}
use Rattle.af_sample.specs.declared.sample_type.SampleType.{SampleType}
use Rattle.af_sample.specs.Channels.{IsChannelCount}
use Rattle.af_sample.specs.SampleTypes.{width_of}
use Rattle.af_sound.specs.declared.head.Coding.{Coding}
use Rattle.af_sound.specs.declared.head.Coding.TheVariants as coding
use Rattle.af_sound.specs.Written.{sample_size}
use Rattle.af_cli.specs.Sizes.{greatest_block}
use Rattle.af_cli.proofs.FrameSizeLemmas.{some_bytes}
use Rattle.af_tools.specs.Sounds.{most_bytes, served_type, source_sample, source_width, IsServedAs}
use Rattle.af_tools.specs.Play.{IsBlock}
use Rattle.af_tools.proofs.SentBlockLemmas.{some_size, source_size}
use Rattle.af_tools.proofs.SourceCountLemmas.{short_of}

-- a sample has at most as many bytes in the source as when a server takes it
least_sample : (c : Coding) → sample_size c ≤ width_of (served_type c)
least_sample coding.Mu255 = omega arith
least_sample c = omega arith

source_least : (c : Option Coding) (to : SampleType) → IsServedAs c to → source_sample c to ≤ width_of to
source_least None to is = omega arith
source_least (Some c) to is = subst (λ (t : SampleType). sample_size c ≤ width_of t) (sym is) (least_sample c)

-- a block of the source has a frame, and room
pub some_size_of : (c : Option Coding) (to : SampleType) (channels frames width : ℕ) → IsChannelCount channels → 1 ≤ frames → width ≡ source_width c to channels → 0 < frames * width
some_size_of c to channels frames width count some is =
    subst (λ (n : ℕ). 0 < frames * n) (sym is) (some_size (source_width c to channels) (source_size c to channels count) frames (omega arith))

-- a block of n bytes, after so many that were given: it fits its room, which has a frame, and what a source may give
pub record BlockFits (n size width given : ℕ) : Type 0 where
  pub some : 0 < size
  pub frame : 0 < width
  pub wide : width ≤ size
  pub within : n ≤ size
  pub most : given + n ≤ most_bytes

pub block_fits : (c : Option Coding) {to : SampleType} {channels frames width head : ℕ} (given : ℕ) {n : ℕ} → IsBlock to channels frames → width ≡ source_width c to channels → head ≤ most_bytes →
    n ≤ frames * width → given + n ≤ most_bytes - head → BlockFits n (frames * width) width (head + given)
block_fits c {to} {channels} {frames} {width} given b same low within permitted =
    let frame : 0 < width = subst (λ (k : ℕ). 0 < k) (sym same) (some_bytes (source_width c to channels) (source_size c to channels b.count)) in
    let wide : 1 * width ≤ frames * width = mul-le 1 width frames width b.some (omega arith) in
    record { some = omega arith; frame = frame; wide = omega arith; within = within; most = omega arith }

-- one without a whole frame is short
pub block_short : {n size width given : ℕ} → BlockFits n size width given → n / width ≡ 0 → n < size
block_short {n} {width} b none =
    let less : n < width = short_of n width b.frame none in
    let wide = b.wide in
    omega arith

pub size_fits : (c : Option Coding) (to : SampleType) (channels frames width : ℕ) → IsServedAs c to → IsBlock to channels frames → width ≡ source_width c to channels → frames * width ≤ greatest_block
size_fits c to channels frames width is b same =
    let sample = source_least c to is in
    let frame : source_sample c to * channels ≤ width_of to * channels = mul-le (source_sample c to) channels (width_of to) channels sample (omega arith) in
    let all : frames * (source_sample c to * channels) ≤ frames * (width_of to * channels) = mul-le frames (source_sample c to * channels) frames (width_of to * channels) (omega arith) frame in
    let most = b.fits in
    subst (λ (n : ℕ). frames * n ≤ greatest_block) (sym same) (omega arith)
