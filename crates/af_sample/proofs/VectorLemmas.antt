-- Runs of samples that are worked on by full vectors: what one more vector changes.
use Rattle.std.proofs.Common.{◌≡◌, ◌<◌, ◌≤◌, ◌+◌, ◌*◌, ◌-◌, inl, inr, ℕ, ℤ, pos, List, [], ◌∷◌, ◌++◌, map, length, get_or, refl, sym, ap, ap₂, ◌∙◌, subst, arith, to_z, of_z}
use Rattle.std.proofs.lemmas.Bool.{cases_lt}
use Rattle.std.proofs.lemmas.List.{ext_get_or}
use Rattle.std.proofs.lemmas.Simd.{length-chunk, get_or-chunk, Each1-chunk, get_or-put_chunk_below, get_or-put_chunk_at, get_or-put_chunk_above}
use lib.Lanes.{zip2, chunk, put_chunk, Each1}
use mir.Syntax.{w16}
use mir.Val.{SFits}
use Rattle.af_sample.specs.Gains.{gained}
use Rattle.af_sample.proofs.GainLemmas.{unity}
use Rattle.af_sample.proofs.LaneLemmas.{same_lanes}

-- the lanes that are loaded from a part without changes are the samples there
pub loaded : (old onto : List ℤ) (at : ℕ) → length onto ≡ length old → at + 16 ≤ length old → Each1 (SFits w16) old →
    ((k : ℕ) → at ≤ k → get_or onto k (pos 0) ≡ get_or old k (pos 0)) → map (to_z w16) (map (of_z w16) (chunk at 16 onto)) ≡ chunk at 16 old
loaded old onto at size room fits same =
    let size' : length (chunk at 16 onto) ≡ 16 = length-chunk at 16 onto (omega arith) in
    let size'' : length (chunk at 16 old) ≡ 16 = length-chunk at 16 old room in
    let e : chunk at 16 onto ≡ chunk at 16 old = ext_get_or (pos 0) (chunk at 16 onto) (chunk at 16 old) (size' ∙ sym size'')
    (λ k low. get_or-chunk at 16 onto k (pos 0) (omega arith) ∙ same (at + k) (omega arith) ∙ sym (get_or-chunk at 16 old k (pos 0) (omega arith))) in
    ap (λ (l : List ℤ). map (to_z w16) (map (of_z w16) l)) e ∙ same_lanes (chunk at 16 old) (Each1-chunk (SFits w16) at 16 old fits)

-- samples before a place are what a rule makes of the old ones, and the others are the old ones
pub record IsWorked (rule : ℕ → ℤ → ℤ) (at : ℕ) (old new : List ℤ) : Type 0 where
  pub before : (k : ℕ) → k < at → get_or new k (pos 0) ≡ rule k (get_or old k (pos 0))
  pub from : (k : ℕ) → at ≤ k → get_or new k (pos 0) ≡ get_or old k (pos 0)

-- one vector more
pub stored : (rule : ℕ → ℤ → ℤ) (old onto lanes : List ℤ) (i : ℕ) → length onto ≡ length old → i * 16 + 16 ≤ length old →
    Each1 (SFits w16) lanes → length lanes ≡ 16 →
    ((j : ℕ) → j < 16 → get_or lanes j (pos 0) ≡ rule (i * 16 + j) (get_or old (i * 16 + j) (pos 0))) →
    IsWorked rule (i * 16) old onto → IsWorked rule ((i + 1) * 16) old (put_chunk (i * 16) onto (map (to_z w16) (map (of_z w16) lanes)))
stored rule old onto lanes i size room fits count each worked =
    subst (λ (l : List ℤ). IsWorked rule ((i + 1) * 16) old (put_chunk (i * 16) onto l)) (sym (same_lanes lanes fits))
    (record {
      before = λ k low. elim (cases_lt k (i * 16)) [
        | inl done ↦ get_or-put_chunk_below (i * 16) onto lanes k (pos 0) done ∙ worked.before k done
        | inr here ↦
            let place : k ≡ i * 16 + (k - i * 16) = omega arith in
            ap (λ n. get_or (put_chunk (i * 16) onto lanes) n (pos 0)) place
            ∙ get_or-put_chunk_at (i * 16) onto lanes (k - i * 16) (pos 0) (omega arith) (omega arith)
            ∙ each (k - i * 16) (omega arith)
            ∙ ap (λ n. rule n (get_or old n (pos 0))) (sym place)
      ];
      from = λ k high. get_or-put_chunk_above (i * 16) onto lanes k (pos 0) (omega arith) ∙ worked.from k (omega arith);
    })

-- two parts that are joined with others
pub joined_parts : (f : ℤ → ℤ → ℤ) (a b c d : List ℤ) → length a ≡ length c → zip2 f a c ++ zip2 f b d ≡ zip2 f (a ++ b) (c ++ d)
joined_parts f [] b [] d e = refl
joined_parts f [] b (y ∷ c) d e = absurd (omega arith)
joined_parts f (x ∷ a) b [] d e = absurd (omega arith)
joined_parts f (x ∷ a) b (y ∷ c) d e = ap (λ (l : List ℤ). f x y ∷ l) (joined_parts f a b c d (omega arith))

-- a gain of 0 decibels leaves a run as it is
pub unity_run : (xs : List ℤ) → Each1 (SFits w16) xs → xs ≡ map (λ x. gained x (pos 0)) xs
unity_run [] h = refl
unity_run (x ∷ xs) h = ap₂ (λ (a : ℤ) (l : List ℤ). a ∷ l) (sym (unity x h.0)) (unity_run xs h.1)
