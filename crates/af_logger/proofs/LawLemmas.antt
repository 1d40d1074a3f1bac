-- The times of frames, in blocks and in pieces.
use Rattle.std.proofs.Common.{◌≡◌, ℕ, zero, suc, ◌+◌, ◌%◌, ◌^◌, ◌<◌, List, [], ◌∷◌, ◌++◌, sym, ap, ap₂, ◌∙◌, refl, arith, append_assoc, append-nil}
use Rattle.std.specs.List.{flat_map}
use Rattle.std.proofs.Math.Nat.{mod-add-mod, mod-eq_of_lt, mod-lt}
use Rattle.af_logger.specs.declared.plan.Plan.{Plan}
use Rattle.af_logger.specs.Pieces.{AreWhole, Block, Piece, blocks_of, frames_of, next_at, times_from, times_of_blocks, times_of_pieces}

-- a time is a word
word_after : (at n : ℕ) → (at + n) % 2 ^ 32 < 2 ^ 32
word_after at n = mod-lt (at + n) (let some : 0 < 2 ^ 32 = omega arith in some)

-- frames, and those after them
times_on : (at m n : ℕ) → at < 2 ^ 32 → times_from at (m + n) ≡ times_from at m ++ times_from ((at + m) % 2 ^ 32) n
unfolding times_from
times_on at zero n word =
    let none : at + zero ≡ at = omega arith in
    let all : zero + n ≡ n = omega arith in
    ap (times_from at) all ∙ sym (ap (λ (t : ℕ). times_from t n) (ap (λ (t : ℕ). t % 2 ^ 32) none ∙ mod-eq_of_lt word))
times_on at (suc m) n word =
    let sum : at + 1 + m ≡ at + suc m = omega arith in
    let first : suc m + n ≡ suc (m + n) = omega arith in
    let next : ((at + 1) % 2 ^ 32 + m) % 2 ^ 32 ≡ (at + suc m) % 2 ^ 32 = mod-add-mod (at + 1) (2 ^ 32) m ∙ ap (λ (t : ℕ). t % 2 ^ 32) sum in
    ap (times_from at) first ∙ ap (λ (l : List ℕ). at ∷ l) (times_on ((at + 1) % 2 ^ 32) m n (word_after at 1) ∙ ap (λ (t : ℕ). times_from ((at + 1) % 2 ^ 32) m ++ times_from t n) next)

-- the frames of blocks
blocks_on : (at : ℕ) (blocks : List Block) → at < 2 ^ 32 → times_of_blocks at blocks ≡ times_from at (frames_of blocks)
unfolding times_from
blocks_on at [] word = refl
blocks_on at (b ∷ blocks) word =
    ap (λ (l : List ℕ). times_from at b.frames ++ l) (blocks_on ((at + b.frames) % 2 ^ 32) blocks (word_after at b.frames))
    ∙ sym (times_on at b.frames (frames_of blocks) word)

frames_on : (xs ys : List Block) → frames_of (xs ++ ys) ≡ frames_of xs + frames_of ys
frames_on [] ys = omega arith
frames_on (b ∷ xs) ys = let more = frames_on xs ys in omega (arith, more)

none_from : (at : ℕ) → [] ≡ times_from at 0
unfolding times_from
none_from at = refl

-- the frames of pieces
pub pieces_on : (plan : Plan) (at : ℕ) (pieces : List Piece) → at < 2 ^ 32 → AreWhole plan pieces → times_of_pieces plan at pieces ≡ times_from at (frames_of (blocks_of pieces))
pieces_on plan at [] word whole = none_from at
pieces_on plan at (p ∷ []) word whole =
    append-nil (times_of_blocks at p.blocks) ∙ blocks_on at p.blocks word ∙ ap (λ (bs : List Block). times_from at (frames_of bs)) (sym (append-nil p.blocks))
pieces_on plan at (p ∷ q ∷ more) word whole =
    let rest = pieces_on plan (next_at plan at) (q ∷ more) (word_after at plan.frames) whole.1 in
    ap₂ (λ (xs ys : List ℕ). xs ++ ys) (blocks_on at p.blocks word ∙ ap (times_from at) whole.0) rest
    ∙ sym (times_on at plan.frames (frames_of (blocks_of (q ∷ more))) word)
    ∙ ap (times_from at) (ap (λ (n : ℕ). n + frames_of (blocks_of (q ∷ more))) (sym whole.0) ∙ sym (frames_on p.blocks (blocks_of (q ∷ more))))
