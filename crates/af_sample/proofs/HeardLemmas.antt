-- What is heard, and what is recorded, as more is accepted and captured.
use Rattle.std.proofs.Common.{◌≡◌, ◌<◌, ◌≤◌, ◌+◌, ◌-◌, ◌*◌, ◌&&◌, inl, inr, ℕ, suc, ℤ, pos, negsuc, Bool, true, false, cond, nat_le, nat_lt, List, [], ◌∷◌, ◌++◌, length, map, slice_index_or, refl, sym, ap, ◌∙◌, arith}
use Rattle.std.specs.List.{fold, All}
use Rattle.std.proofs.lemmas.Bool.{cases_lt, le-leb, lt-leb, lt-ltb}
use Rattle.std.proofs.lemmas.List.{get_or_append_left}
use Rattle.std.proofs.lemmas.List.Sums.{fold_push, fold-append}
use Rattle.af_sample.specs.Channels.{frame_count}
use Rattle.af_sample.specs.Heard.{heard_sample, with_entry, sound_with_sample, sample_of_entry, AcceptedPlay}
use Rattle.af_sample.specs.Window.{recorded_sample}
use Rattle.af_sample.proofs.FrameLemmas.{place_before}

pub heard_sample-push : (channels : ℕ) (accepted : List AcceptedPlay) (e : AcceptedPlay) (t channel : ℕ) →
    heard_sample channels (accepted ++ e ∷ []) t channel ≡ with_entry channels t channel (heard_sample channels accepted t channel) e
unfolding heard_sample
heard_sample-push channels accepted e t channel = fold_push (with_entry channels t channel) (pos 0) accepted e

-- a play that was accepted after a time does not change it
late_entry : (channels : ℕ) (e : AcceptedPlay) (t channel : ℕ) (sound : ℤ) → t < e.at → with_entry channels t channel sound e ≡ sound
late_entry channels e t channel sound late =
    ap (λ b. cond (b && (nat_le e.start t && nat_lt t (e.start + frame_count channels e.samples))) (sound_with_sample e.preempt sound (sample_of_entry channels e t channel)) sound)
    (lt-leb e.at t late)

late_entries : (channels : ℕ) (more : List AcceptedPlay) (t channel : ℕ) (sound : ℤ) → All (λ e. t < e.at) more → fold (with_entry channels t channel) sound more ≡ sound
late_entries channels [] t channel sound late = refl
late_entries channels (e ∷ more) t channel sound late =
    ap (λ s. fold (with_entry channels t channel) s more) (late_entry channels e t channel sound (late 0 e (omega arith)))
    ∙ late_entries channels more t channel sound (λ k d low. late (suc k) d (omega arith))

pub heard_sample-append : (channels : ℕ) (accepted more : List AcceptedPlay) (t channel : ℕ) → All (λ e. t < e.at) more →
    heard_sample channels (accepted ++ more) t channel ≡ heard_sample channels accepted t channel
unfolding heard_sample
heard_sample-append channels accepted more t channel late =
    fold-append (with_entry channels t channel) (pos 0) accepted more ∙ late_entries channels more t channel (heard_sample channels accepted t channel) late

-- three plays at one time: two that saturate, and a third that is mixed with their sum or replaces it
abbrev play : ℤ → Bool → AcceptedPlay
play x preempt = record { start = 2; samples = x ∷ []; preempt = preempt; at = 0 }

third_heard : Bool → ℤ
third_heard preempt = heard_sample 1 (play (pos 30000) false ∷ play (pos 10000) false ∷ play (negsuc 19999) preempt ∷ []) 2 0

mixed_or_preempting : map third_heard (false ∷ true ∷ []) ≡ pos 12767 ∷ negsuc 19999 ∷ []
unfolding heard_sample third_heard
mixed_or_preempting = refl

-- two frames of two channels: each channel hears its own samples, and after the frames there is none
abbrev play_of_two : AcceptedPlay
play_of_two = record { start = 2; samples = pos 5 ∷ negsuc 6 ∷ pos 7 ∷ pos 0 ∷ []; preempt = false; at = 0 }

heard_at : ℕ → List ℤ
heard_at t = map (heard_sample 2 (play_of_two ∷ []) t) (0 ∷ 1 ∷ [])

heard_of_two : map heard_at (2 ∷ 3 ∷ 4 ∷ []) ≡ (pos 5 ∷ negsuc 6 ∷ []) ∷ (pos 7 ∷ pos 0 ∷ []) ∷ (pos 0 ∷ pos 0 ∷ []) ∷ []
unfolding heard_sample heard_at
heard_of_two = refl

-- a time of the window, and one before the begin
pub recorded_within : (channels : ℕ) (captured : List ℤ) (begin now horizon t channel : ℕ) → now ≤ t + horizon → t < now → begin ≤ t →
    recorded_sample channels captured begin now horizon t channel ≡ slice_index_or captured (channels * (t - begin) + channel) (pos 0)
unfolding recorded_sample
recorded_within channels captured begin now horizon t channel near past begun =
    ap (λ b. cond (b && (nat_lt t now && nat_le begin t)) (slice_index_or captured (channels * (t - begin) + channel) (pos 0)) (pos 0)) (le-leb now (t + horizon) near)
    ∙ ap (λ b. cond (b && nat_le begin t) (slice_index_or captured (channels * (t - begin) + channel) (pos 0)) (pos 0)) (lt-ltb t now past)
    ∙ ap (λ b. cond b (slice_index_or captured (channels * (t - begin) + channel) (pos 0)) (pos 0)) (le-leb begin t begun)

pub recorded_before : (channels : ℕ) (captured : List ℤ) (begin now horizon t channel : ℕ) → now ≤ t + horizon → t < now → t < begin →
    recorded_sample channels captured begin now horizon t channel ≡ pos 0
unfolding recorded_sample
recorded_before channels captured begin now horizon t channel near past early =
    ap (λ b. cond (b && (nat_lt t now && nat_le begin t)) (slice_index_or captured (channels * (t - begin) + channel) (pos 0)) (pos 0)) (le-leb now (t + horizon) near)
    ∙ ap (λ b. cond (b && nat_le begin t) (slice_index_or captured (channels * (t - begin) + channel) (pos 0)) (pos 0)) (lt-ltb t now past)
    ∙ ap (λ b. cond b (slice_index_or captured (channels * (t - begin) + channel) (pos 0)) (pos 0)) (lt-leb begin t early)

-- as n frames go by, whatever is captured in them
pub recorded_sample-append : (channels : ℕ) (captured more : List ℤ) (begin now n horizon t channel : ℕ) → length captured ≡ channels * (now - begin) → channel < channels → t < now → now + n ≤ t + horizon →
    recorded_sample channels (captured ++ more) begin (now + n) horizon t channel ≡ recorded_sample channels captured begin now horizon t channel
recorded_sample-append channels captured more begin now n horizon t channel all listed past near =
    elim (cases_lt t begin) [
      | inl early ↦
          recorded_before channels (captured ++ more) begin (now + n) horizon t channel near (omega arith) early
          ∙ sym (recorded_before channels captured begin now horizon t channel (omega arith) past early)
      | inr begun ↦
          let inside : channels * (t - begin) + channel < channels * (now - begin) = place_before channels (t - begin) (now - begin) channel (omega arith) listed in
          recorded_within channels (captured ++ more) begin (now + n) horizon t channel near (omega arith) begun
          ∙ get_or_append_left captured more (pos 0) (channels * (t - begin) + channel) (omega arith)
          ∙ sym (recorded_within channels captured begin now horizon t channel (omega arith) past begun)
    ]
