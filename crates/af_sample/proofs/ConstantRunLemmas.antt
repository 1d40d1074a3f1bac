-- Runs in which each element is the one before it.
use Rattle.std.proofs.Common.{◌≡◌, ◌<◌, ◌+◌, ◌*◌, ◌-◌, zero, suc, ℕ, ℤ, pos, List, [], ◌∷◌, ◌++◌, length, get_or, take, drop, replicate, refl, sym, ap, ◌∙◌, arith}
use Rattle.std.proofs.lemmas.List.{ext_get_or, get_or-drop, get_or-take, get_or-replicate, length-replicate, drop-replicate, take-replicate, take_rest}
use Rattle.std.proofs.lemmas.List.Concat.{flat_map-cons}
use Rattle.af_sample.specs.declared.sample_type.SampleType.{SampleType}
use Rattle.af_sample.specs.SampleTypes.{width_of}
use Rattle.af_sample.specs.Samples.{decoded, encoded, piece, samples, bytes_of}
use Rattle.af_sample.proofs.RunLemmas.{decoded_run}

-- each element is the first one
repeated : {A : Type 0} (d : A) (xs : List A) → drop 1 xs ≡ take (length xs - 1) xs → (k : ℕ) → k < length xs → get_or xs k d ≡ get_or xs 0 d
repeated d xs same zero low = refl
repeated d xs same (suc k) low =
    let next : suc k ≡ 1 + k = omega arith in
    ap (λ n. get_or xs n d) next ∙ sym (get_or-drop 1 xs k d) ∙ ap (λ l. get_or l k d) same
    ∙ get_or-take (length xs - 1) xs k d (omega arith) ∙ repeated d xs same k (omega arith)

-- a run whose elements but the first are its elements but the last has its first element throughout
pub constant : {A : Type 0} (d : A) (xs : List A) → take (length xs - 1) (drop 1 xs) ≡ take (length xs - 1) xs →
    xs ≡ replicate (length xs) (get_or xs 0 d)
constant d xs same =
    ext_get_or d xs (replicate (length xs) (get_or xs 0 d)) (sym (length-replicate (length xs) (get_or xs 0 d)))
    (λ k low. repeated d xs (sym (take_rest xs 1) ∙ same) k low ∙ sym (get_or-replicate (length xs) k (get_or xs 0 d) d low))

-- a list of one element
pub single : (xs : List ℕ) → length xs ≡ 1 → xs ≡ get_or xs 0 0 ∷ []
single [] e = absurd (omega arith)
single (x ∷ []) e = refl
single (x ∷ y ∷ xs) e = absurd (omega arith)

-- the byte of each sample of a run that has one byte throughout
one_byte : (ty : SampleType) (b n k : ℕ) → width_of ty ≡ 1 → k < n → piece ty (replicate n b) k ≡ b ∷ []
one_byte ty b n k width low =
    let one : k * 1 + 1 - k * 1 ≡ 1 = omega arith in
    ap (λ w. take (k * w + w - k * w) (drop (k * w) (replicate n b))) width
    ∙ ap (λ m. take m (drop (k * 1) (replicate n b))) one
    ∙ ap (take 1) (drop-replicate (k * 1) n b)
    ∙ take-replicate 1 (n - k * 1) b (omega arith)

-- a run of one byte is decoded as one sample throughout
pub decoded_constant : (ty : SampleType) (bytes : List ℕ) (b n : ℕ) → width_of ty ≡ 1 → bytes ≡ replicate n b →
    replicate n (decoded ty (b ∷ [])) ≡ samples ty bytes
decoded_constant ty bytes b n width same =
    let x : ℤ = decoded ty (b ∷ []) in
    let count : length (replicate n x) ≡ n = length-replicate n x in
    let once : n ≡ n * 1 = omega arith in
    let size : length bytes ≡ length (replicate n x) * width_of ty =
    ap length same ∙ length-replicate n b ∙ once ∙ ap (λ w. n * w) (sym width) ∙ ap (λ m. m * width_of ty) (sym count) in
    decoded_run ty bytes (replicate n x) size
    (λ k low.
    let within : k < n = omega arith in
    get_or-replicate n k x (pos 0) within ∙ ap (decoded ty) (sym (ap (λ l. piece ty l k) same ∙ one_byte ty b n k width within)))

-- the first element of a run that has it throughout
pub first_of : (xs : List ℕ) (x n : ℕ) → 0 < n → xs ≡ replicate n x → take 1 xs ≡ x ∷ []
first_of xs x n some same = ap (take 1) same ∙ take-replicate 1 n x (omega arith)

-- a run of one sample is encoded as one byte throughout
pub encoded_constant : (ty : SampleType) (x : ℤ) (b n : ℕ) → encoded ty x ≡ b ∷ [] → replicate n b ≡ bytes_of ty (replicate n x)
encoded_constant ty x b zero here = refl
encoded_constant ty x b (suc n) here =
    ap (λ l. b ∷ l) (encoded_constant ty x b n here) ∙ sym (flat_map-cons (encoded ty) x (replicate n x) ∙ ap (λ (l : List ℕ). l ++ bytes_of ty (replicate n x)) here)
