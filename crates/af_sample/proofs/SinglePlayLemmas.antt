-- What is heard of a single play.
use Rattle.std.proofs.Common.{◌≡◌, ℕ, zero, suc, ◌+◌, ◌<◌, ◌≤◌, ◌&&◌, nat_le, nat_lt, ℤ, pos, Bool, true, false, cond, List, [], ◌∷◌, slice_get, refl, ap, ◌∙◌, arith}
use Rattle.std.specs.declared.option.Option.{Option}
use Rattle.std.specs.declared.option.Option.TheVariants.{None, Some}
use Rattle.std.specs.Prelude.{◌+ℤ◌}
use Rattle.std.specs.List.{fold}
use Rattle.std.proofs.lemmas.Int.{ints}
use Rattle.std.proofs.lemmas.Bool.{le-leb, lt-ltb}
use Rattle.af_sample.specs.Channels.{frame_count}
use Rattle.af_sample.specs.Mixing.{saturated}
use Rattle.af_sample.specs.Gains.{gained}
use Rattle.af_sample.specs.Heard.{sound_with_sample, covers, heard_sample, sample_of_entry, with_entry, AcceptedPlay}

not_true : (b : Bool) → (b ≡ true → ⊥) → b ≡ false
not_true true never = absurd (never refl)
not_true false never = refl

skipped : (channels : ℕ) (e : AcceptedPlay) (t channel : ℕ) (sound : ℤ) → (covers channels e t ≡ true → ⊥) → with_entry channels t channel sound e ≡ sound
skipped channels e t channel sound never = ap (λ b. cond b (sound_with_sample e.preempt sound (sample_of_entry channels e t channel)) sound) (not_true (covers channels e t) never)

blended_in : (channels : ℕ) (e : AcceptedPlay) (t channel : ℕ) (sound : ℤ) → covers channels e t ≡ true →
    with_entry channels t channel sound e ≡ sound_with_sample e.preempt sound (sample_of_entry channels e t channel)
blended_in channels e t channel sound here = ap (λ b. cond b (sound_with_sample e.preempt sound (sample_of_entry channels e t channel)) sound) here

-- plays that do not cover a time
none_covers : (channels : ℕ) (accepted : List AcceptedPlay) (t channel : ℕ) (sound : ℤ) → ((j : ℕ) (e : AcceptedPlay) → slice_get accepted j ≡ Some e → covers channels e t ≡ true → ⊥) →
    fold (with_entry channels t channel) sound accepted ≡ sound
none_covers channels [] t channel sound never = refl
none_covers channels (e ∷ more) t channel sound never =
    ap (λ s. fold (with_entry channels t channel) s more) (skipped channels e t channel sound (never 0 e refl))
    ∙ none_covers channels more t channel sound (λ j d is. never (suc j) d is)

same_entry : (d e : AcceptedPlay) → (let o : Option AcceptedPlay = Some d in o ≡ Some e) → d ≡ e
same_entry d e is = cc

no_entry : (e : AcceptedPlay) → (let o : Option AcceptedPlay = None in o ≡ Some e) → ⊥
no_entry e is = cc

one_covers : (channels : ℕ) (accepted : List AcceptedPlay) (t channel : ℕ) (sound : ℤ) (p : ℕ) (e : AcceptedPlay) → slice_get accepted p ≡ Some e → covers channels e t ≡ true →
    ((j : ℕ) (d : AcceptedPlay) → slice_get accepted j ≡ Some d → covers channels d t ≡ true → j ≡ p) →
    fold (with_entry channels t channel) sound accepted ≡ sound_with_sample e.preempt sound (sample_of_entry channels e t channel)
one_covers channels [] t channel sound p e is here alone = absurd (no_entry e is)
one_covers channels (d ∷ more) t channel sound zero e is here alone =
    ap (λ s. fold (with_entry channels t channel) s more) (ap (with_entry channels t channel sound) (same_entry d e is) ∙ blended_in channels e t channel sound here)
    ∙ none_covers channels more t channel (sound_with_sample e.preempt sound (sample_of_entry channels e t channel)) (λ j x at on. absurd (let bad : suc j ≡ 0 = alone (suc j) x at on in omega arith))
one_covers channels (d ∷ more) t channel sound (suc p) e is here alone =
    ap (λ s. fold (with_entry channels t channel) s more) (skipped channels d t channel sound (λ on. absurd (let bad : 0 ≡ suc p = alone 0 d refl on in omega arith)))
    ∙ one_covers channels more t channel sound p e is here (λ j x at on. let same : suc j ≡ suc p = alone (suc j) x at on in omega arith)

-- the one play that covers a time is blended with silence
pub heard_alone : (channels : ℕ) (accepted : List AcceptedPlay) (t channel p : ℕ) (e : AcceptedPlay) → slice_get accepted p ≡ Some e → covers channels e t ≡ true →
    ((j : ℕ) (d : AcceptedPlay) → slice_get accepted j ≡ Some d → covers channels d t ≡ true → j ≡ p) →
    heard_sample channels accepted t channel ≡ sound_with_sample e.preempt (pos 0) (sample_of_entry channels e t channel)
unfolding heard_sample
heard_alone channels accepted t channel p e is here alone = one_covers channels accepted t channel (pos 0) p e is here alone

saturated_twice : (z : ℤ) → saturated (pos 0 +ℤ saturated z) ≡ saturated z
saturated_twice z = grind (arith, ints)

-- silence does not change a sample under a gain
pub blended_with_silence : (preempt : Bool) (x gain : ℤ) → sound_with_sample preempt (pos 0) (gained x gain) ≡ gained x gain
blended_with_silence true x gain = refl
blended_with_silence false x gain = saturated_twice _

-- a play that was accepted by its start covers its times
pub covers_its : (channels : ℕ) (e : AcceptedPlay) (t : ℕ) → e.at ≤ e.start → e.start ≤ t → t < e.start + frame_count channels e.samples → covers channels e t ≡ true
covers_its channels e t in_time from to =
    ap (λ b. b && (nat_le e.start t && nat_lt t (e.start + frame_count channels e.samples))) (le-leb e.at t (omega arith))
    ∙ ap (λ b. b && nat_lt t (e.start + frame_count channels e.samples)) (le-leb e.start t from)
    ∙ lt-ltb t (e.start + frame_count channels e.samples) to
