-- The samples of a block that was passed, as its type codes them, and what a relay makes of its last frame.
use Rattle.std.proofs.Common.{◌≡◌, ◌≤◌, ◌<◌, ◌⊎◌, inl, inr, ℕ, zero, suc, ◌+◌, ◌-◌, ◌*◌, ℤ, pos, List, [], ◌∷◌, ◌++◌, length, map, take, drop, min, get_or, refl, sym, ap, ◌∙◌, subst, arith, length-append}
use Rattle.std.proofs.Math.Seq.{drop-append-add, take-append-add, take-append_seam}
use Rattle.std.proofs.lemmas.Bool.{cases_lt}
use Rattle.std.proofs.lemmas.Grind.{flat_map-append}
use Rattle.std.proofs.lemmas.List.{drop_more, get_or-append-add, get_or-drop, get_or-map, get_or-take, get_or_append_left, length-drop, length-map, length-take-le}
use Rattle.af_sample.specs.declared.sample_type.SampleType.{SampleType}
use Rattle.af_sample.specs.Gains.{gained}
use Rattle.af_sample.specs.SampleTypes.{frame_bytes, width_of}
use Rattle.af_sample.specs.Samples.{bytes_of, decoded, encoded, piece, samples}
use Rattle.af_sample.proofs.FrameLemmas.{place_before}
use Rattle.af_sample.proofs.RunLemmas.{decoded_run, length-encoded}
use Rattle.af_relay.specs.declared.pass.LastFrame.{LastFrame}
use Rattle.af_relay.specs.declared.pass.LastFrame.TheVariants.{Once, Twice, LeftOut}
use Rattle.af_relay.specs.Pass.{frames_played, played_samples}
use Rattle.af_end_to_end.specs.Sounding.{sample_at}
use Rattle.af_end_to_end.specs.Apass.{coded, passed_sample}

-- Bytes of samples

bytes_size : (ty : SampleType) (xs : List ℤ) → length (bytes_of ty xs) ≡ length xs * width_of ty
bytes_size ty [] = omega arith
bytes_size ty (x ∷ xs) = length-append (encoded ty x) (bytes_of ty xs) ∙ more (length (encoded ty x)) (length (bytes_of ty xs)) (width_of ty) (length xs) (length-encoded ty x) (bytes_size ty xs)
  where
    more : (a b w n : ℕ) → a ≡ w → b ≡ n * w → a + b ≡ suc n * w
    more a b w n one all = grind arith

next_place : (n w : ℕ) → suc n * w ≡ w + n * w
next_place n w = grind arith

none_before : (w : ℕ) → 0 * w ≡ 0
none_before w = omega arith

-- the bytes from a sample on
drop_bytes : (ty : SampleType) (xs : List ℤ) (n : ℕ) → drop (n * width_of ty) (bytes_of ty xs) ≡ bytes_of ty (drop n xs)
drop_bytes ty xs zero = ap (λ m. drop m (bytes_of ty xs)) (none_before (width_of ty))
drop_bytes ty [] (suc n) = drop_none (suc n * width_of ty)
  where
    drop_none : (m : ℕ) → drop m (bytes_of ty []) ≡ []
    drop_none zero = refl
    drop_none (suc m) = refl
drop_bytes ty (x ∷ xs) (suc n) =
    ap (λ m. drop m (encoded ty x ++ bytes_of ty xs)) (next_place n (width_of ty) ∙ ap (λ w. w + n * width_of ty) (sym (length-encoded ty x)))
    ∙ drop-append-add (encoded ty x) (bytes_of ty xs) (n * width_of ty) ∙ drop_bytes ty xs n

-- and up to one
take_bytes : (ty : SampleType) (xs : List ℤ) (n : ℕ) → take (n * width_of ty) (bytes_of ty xs) ≡ bytes_of ty (take n xs)
take_bytes ty xs zero = ap (λ m. take m (bytes_of ty xs)) (none_before (width_of ty))
take_bytes ty [] (suc n) = take_none (suc n * width_of ty)
  where
    take_none : (m : ℕ) → take m (bytes_of ty []) ≡ []
    take_none zero = refl
    take_none (suc m) = refl
take_bytes ty (x ∷ xs) (suc n) =
    ap (λ m. take m (encoded ty x ++ bytes_of ty xs)) (next_place n (width_of ty) ∙ ap (λ w. w + n * width_of ty) (sym (length-encoded ty x)))
    ∙ take-append-add (encoded ty x) (bytes_of ty xs) (n * width_of ty) ∙ ap (λ l. encoded ty x ++ l) (take_bytes ty xs n)

-- the bytes of a sample at a place
piece_is : (ty : SampleType) (xs : List ℤ) (k : ℕ) → k < length xs → piece ty (bytes_of ty xs) k ≡ encoded ty (get_or xs k (pos 0))
piece_is ty xs k low =
    let w = width_of ty in
    let one : k * w + w - k * w ≡ w = omega arith in
    ap (λ m. take m (drop (k * w) (bytes_of ty xs))) one ∙ ap (take w) (drop_bytes ty xs k ∙ ap (bytes_of ty) (drop_more xs k (pos 0) low))
    ∙ first (get_or xs k (pos 0)) (drop (k + 1) xs)
  where
    first : (x : ℤ) (more : List ℤ) → take (width_of ty) (encoded ty x ++ bytes_of ty more) ≡ encoded ty x
    first x more = ap (λ m. take m (encoded ty x ++ bytes_of ty more)) (sym (length-encoded ty x)) ∙ take-append_seam (encoded ty x) (bytes_of ty more)

-- samples that were written and read again are as their type codes them
samples_coded : (ty : SampleType) (xs : List ℤ) → samples ty (bytes_of ty xs) ≡ map (coded ty) xs
samples_coded ty xs =
    let f = coded ty in
    let long : length (map f xs) ≡ length xs = length-map xs f in
    sym (decoded_run ty (bytes_of ty xs) (map f xs) (bytes_size ty xs ∙ ap (λ n. n * width_of ty) (sym long))
    (λ k low. get_or-map f xs k (pos 0) (pos 0) (omega (arith, low, long)) ∙ ap (decoded ty) (sym (piece_is ty xs k (omega (arith, low, long))))))

-- The last frame

-- the samples of a block as they are played
abbrev played_sound : LastFrame → (channels : ℕ) → List ℤ → List ℤ
played_sound Once channels sound = sound
played_sound Twice channels sound = sound ++ drop (length sound - channels) sound
played_sound LeftOut channels sound = take (length sound - channels) sound

-- the samples of the last frame come after those of the others
last_frame : (channels n : ℕ) → 0 < n → channels * n ≡ channels * (n - 1) + channels
last_frame channels zero some = absurd (omega (arith, some))
last_frame channels (suc n) some = grind arith

module _ (ty : SampleType) (channels frames : ℕ) (sound : List ℤ) (size : length sound ≡ channels * frames) where
  abbrev frame : ℕ
  frame = frame_bytes ty channels

  before_last : 0 < frames → length (bytes_of ty sound) - frame ≡ (length sound - channels) * width_of ty
  before_last some = ap (λ n. n - frame) (bytes_size ty sound) ∙ less (length sound) (channels * (frames - 1)) channels (width_of ty) (size ∙ last_frame channels frames some)
    where
      both : (m channels w : ℕ) → (m + channels) * w ≡ m * w + w * channels
      both m channels w = grind arith

      less : (n m channels w : ℕ) → n ≡ m + channels → n * w - w * channels ≡ (n - channels) * w
      less n m channels w e =
          let all : n * w ≡ m * w + w * channels = ap (λ k. k * w) e ∙ both m channels w in
          let fewer : m ≡ n - channels = omega (arith, e) in
          let here : n * w - w * channels ≡ m * w = omega (arith, all) in
          here ∙ ap (λ k. k * w) fewer

  played_bytes : (last : LastFrame) → 0 < frames → played_samples last frame (bytes_of ty sound) ≡ bytes_of ty (played_sound last channels sound)
  played_bytes Once some = refl
  played_bytes Twice some =
      ap (λ n. bytes_of ty sound ++ drop n (bytes_of ty sound)) (before_last some) ∙ ap (λ l. bytes_of ty sound ++ l) (drop_bytes ty sound (length sound - channels))
      ∙ sym (flat_map-append (encoded ty) sound (drop (length sound - channels) sound))
  played_bytes LeftOut some = ap (λ n. take n (bytes_of ty sound)) (before_last some) ∙ take_bytes ty sound (length sound - channels)

  played_size : (last : LastFrame) → 0 < frames → length (played_sound last channels sound) ≡ channels * frames_played last frames
  played_size Once some = size
  played_size Twice some =
      let whole = length-append sound (drop (length sound - channels) sound) in
      let more = length-drop (length sound - channels) sound in
      whole ∙ sum (length sound) (length (drop (length sound - channels) sound)) size (last_frame channels frames some) more
    where
      sum : (n m : ℕ) → n ≡ channels * frames → channels * frames ≡ channels * (frames - 1) + channels → m ≡ n - (n - channels) → n + m ≡ channels * (frames + 1)
      sum n m whole last e = grind arith
  played_size LeftOut some = length-take-le (length sound - channels) sound (omega arith) ∙ less
    where
      less : length sound - channels ≡ channels * (frames - 1)
      less = let last = last_frame channels frames some in omega (arith, size, last)

  -- a sample of it is that of the same frame, or of the last one
  played_at : (last : LastFrame) (f channel : ℕ) → 0 < frames → f < frames_played last frames → channel < channels → sample_at channels (played_sound last channels sound) f channel ≡ sample_at channels sound (min f (frames - 1)) channel
  played_at Once f channel some low few = ap (λ m. sample_at channels sound m channel) (same f frames low)
    where
      same : (f n : ℕ) → f < n → f ≡ min f (n - 1)
      same f n low = grind arith
  played_at LeftOut f channel some low few =
      get_or-take (length sound - channels) sound (channels * f + channel) (pos 0) within ∙ ap (λ m. sample_at channels sound m channel) (same f frames low)
    where
      same : (f n : ℕ) → f < n - 1 → f ≡ min f (n - 1)
      same f n low = grind arith

      within : channels * f + channel < length sound - channels
      within =
          let before = place_before channels f (frames - 1) channel low few in
          let last = last_frame channels frames some in
          omega (arith, size, before, last)
  played_at Twice f channel some low few = by (cases_lt f frames)
    where
      last : ℕ
      last = length sound - channels

      by : (f < frames) ⊎ (frames ≤ f) → sample_at channels (sound ++ drop last sound) f channel ≡ sample_at channels sound (min f (frames - 1)) channel
      by (inl before) =
          let within : channels * f + channel < length sound = subst (λ n. channels * f + channel < n) (sym size) (place_before channels f frames channel before few) in
          get_or_append_left sound (drop last sound) (pos 0) (channels * f + channel) within ∙ ap (λ m. sample_at channels sound m channel) (same f frames before)
        where
          same : (f n : ℕ) → f < n → f ≡ min f (n - 1)
          same f n low = grind arith
      by (inr from) =
          let here : channels * f + channel ≡ length sound + channel = ap (λ m. channels * m + channel) (end f frames low from) ∙ ap (λ m. m + channel) (sym size) in
          ap (λ m. get_or (sound ++ drop last sound) m (pos 0)) here ∙ get_or-append-add sound (drop last sound) channel (pos 0) ∙ get_or-drop last sound channel (pos 0)
          ∙ ap (λ m. get_or sound (m + channel) (pos 0)) less ∙ ap (λ m. sample_at channels sound m channel) (again f frames low from)
        where
          end : (f n : ℕ) → f < n + 1 → n ≤ f → f ≡ n
          end f n low from = omega arith

          less : last ≡ channels * (frames - 1)
          less = let whole = last_frame channels frames some in omega (arith, size, whole)

          again : (f n : ℕ) → f < n + 1 → n ≤ f → n - 1 ≡ min f (n - 1)
          again f n low from = grind arith

  -- a block that is played has these samples
  pub played_coded : (last : LastFrame) (f channel : ℕ) → 0 < frames → f < frames_played last frames → channel < channels →
      sample_at channels (map (λ x. gained x (pos 0)) (samples ty (played_samples last frame (bytes_of ty sound)))) f channel ≡ passed_sample ty channels frames sound f channel
  played_coded last f channel some low few =
      let xs = played_sound last channels sound in
      let at = channels * f + channel in
      let within : at < length xs = subst (λ n. at < n) (sym (played_size last some)) (place_before channels f (frames_played last frames) channel low few) in
      let long : length (map (coded ty) xs) ≡ length xs = length-map xs (coded ty) in
      ap (λ l. sample_at channels (map (λ x. gained x (pos 0)) l) f channel) (ap (samples ty) (played_bytes last some) ∙ samples_coded ty xs)
      ∙ get_or-map (λ x. gained x (pos 0)) (map (coded ty) xs) at (pos 0) (pos 0) (omega (arith, within, long))
      ∙ ap (λ x. gained x (pos 0)) (get_or-map (coded ty) xs at (pos 0) (pos 0) within)
      ∙ ap (λ x. gained (coded ty x) (pos 0)) (played_at last f channel some low few)
