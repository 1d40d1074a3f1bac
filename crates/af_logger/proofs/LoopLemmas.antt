-- How much of a piece is left to be recorded, and what calls leave of a logger.
use Rattle.std.proofs.Common.{◌≡◌, ◌≤◌, ◌<◌, ◌+◌, ◌-◌, ◌*◌, ◌%◌, ◌^◌, ◌⊎◌, ℕ, min, Bool, true, false, is_some, sym, ap, ◌∙◌, refl, arith, inl, inr, Ok, Err, Result, Option, None, Some, subst}
use Rattle.std.proofs.lemmas.Bool.{cases_lt}
use Rattle.std.proofs.lemmas.Nat.{mul-le}
use Rattle.std.proofs.Math.Nat.{mod-add-mod}
use Rattle.af_io.specs.Observed.{FaultCounted, next_count}
use Rattle.af_cli.specs.Sizes.{greatest_block}
use Rattle.af_toolkit.specs.declared.end.ToolEnd.{ToolEnd}
use Rattle.af_logger.specs.declared.logger.Logger.{Logger}
use Rattle.af_logger.specs.declared.plan.Plan.{Plan}
use Rattle.af_logger.specs.declared.progress.Progress.{Progress}
use Rattle.af_logger.specs.Commands.{Command, Desk, IfSeen, IsClosed, NoneRuns}
use Rattle.af_logger.specs.Keeping.{FailsBy, HasLeft, IsDeskOf, IsLogger, IsOf, IsWhole, LeavesLogger}
use Rattle.af_logger.specs.Plans.{frame_size, IsPlan}

-- so many frames of a piece are left, which began at a time; none is, once it is whole
pub record IsLeft (plan : Plan) (start : ℕ) (logger : Logger) (left : ℕ) : Type 0 where
  pub within : left ≤ plan.frames
  pub some : 0 < left → HasLeft plan logger.last left
  pub whole : left ≡ 0 → IsWhole plan logger.last
  pub begins : left ≡ plan.frames → IsWhole plan logger.last
  pub first : left ≡ plan.frames → logger.at.0 ≡ start
  pub later : left < plan.frames → logger.at.0 ≡ (start + (plan.frames - left)) % 2 ^ 32

-- a whole piece is followed by the next
whole_left : (plan : Plan) (last : Option Progress) → IsWhole plan last → HasLeft plan last plan.frames
whole_left plan None whole = refl
whole_left plan (Some piece) whole = inl (whole, refl)

pub left_begin : {plan : Plan} {logger : Logger} → 1 ≤ plan.frames → IsWhole plan logger.last → IsLeft plan logger.at.0 logger plan.frames
left_begin {plan} {logger} some whole = record {
  within = omega arith;
  some = λ any. whole_left plan logger.last whole;
  whole = λ none. absurd (omega (arith, some, none));
  begins = λ all. whole;
  first = λ all. refl;
  later = λ less. absurd (omega (arith, less));
}

more_left : (plan : Plan) (piece : Progress) (n left : ℕ) → n ≤ left → piece.recorded + left ≡ plan.frames + n → 0 < left - n → HasLeft plan (Some piece) (left - n)
more_left plan piece n left few is more = inr (omega (arith, few, is, more), omega (arith, few, is, more))

pub left_on : {plan : Plan} {start : ℕ} {old new : Logger} {left n : ℕ} {piece : Progress} → IsLeft plan start old left → 0 < n → n ≤ left → new.last ≡ Some piece → piece.recorded + left ≡ plan.frames + n → new.at.0 ≡ (old.at.0 + n) % 2 ^ 32 → IsLeft plan start new (left - n)
left_on {plan} {start} {old} {new} {left} {n} {piece} l any few last is at =
    let w = l.within in
    record {
      within = omega (arith, w);
      some = λ more. subst (λ (o : Option Progress). HasLeft plan o (left - n)) (sym last) (more_left plan piece n left few is more);
      whole = λ none. subst (λ (o : Option Progress). IsWhole plan o) (sym last) (let all : piece.recorded ≡ plan.frames = omega (arith, none, few, is) in all);
      begins = λ all. absurd (omega (arith, all, w, any, few));
      first = λ all. absurd (omega (arith, all, w, any, few));
      later = λ less. elim (cases_lt left plan.frames) [
        | inl before ↦
            let sum : start + (plan.frames - left) + n ≡ start + (plan.frames - (left - n)) = omega (arith, few, w) in
            at ∙ ap (λ (t : ℕ). (t + n) % 2 ^ 32) (l.later before) ∙ mod-add-mod (start + (plan.frames - left)) (2 ^ 32) n ∙ ap (λ (t : ℕ). t % 2 ^ 32) sum
        | inr begun ↦
            let all : left ≡ plan.frames = omega (arith, begun, w) in
            let sum : n ≡ plan.frames - (left - n) = omega (arith, few, all) in
            at ∙ ap (λ (t : ℕ). (t + n) % 2 ^ 32) (l.first all) ∙ ap (λ (k : ℕ). (start + k) % 2 ^ 32) sum
      ];
    }

-- once none is left
pub left_over : {plan : Plan} {start : ℕ} {logger : Logger} {left : ℕ} → 1 ≤ plan.frames → IsLeft plan start logger left → left ≡ 0 → logger.at.0 ≡ (start + plan.frames) % 2 ^ 32
left_over {plan} {start} {left = left} some l none =
    let rest : plan.frames - left ≡ plan.frames = omega (arith, none) in
    l.later (omega (arith, none, some)) ∙ ap (λ (k : ℕ). (start + k) % 2 ^ 32) rest

-- a block fits
pub block_fits : (plan : Plan) (left n : ℕ) → IsPlan plan → n ≡ min left plan.block → n * frame_size plan ≤ greatest_block
block_fits plan left n is least =
    let less : n * frame_size plan ≤ plan.block * frame_size plan = mul-le n (frame_size plan) plan.block (frame_size plan) (omega (arith, least)) (omega arith) in
    let fits = is.block.1 in
    omega (arith, less, fits)

-- a line could not be written, then or before
pub fails_on : {a b c : Bool} {f g h : ℕ} → FailsBy a b f g → FailsBy b c g h → FailsBy a c f h
fails_on {f = f} {g} {h} one two =
    let x = one.0 in
    let y = two.0 in (
      omega (arith, x, y),
      λ failed. elim (two.1 failed) [
        | inl before ↦ elim (one.1 before) [
          | inl first ↦ inl first
          | inr counted ↦ inr (let more : next_count f ≤ h = omega (arith, counted, y) in more)
        ]
        | inr counted ↦ inr (let more : next_count f ≤ h = omega (arith, counted, x) in more)
      ],
    )

module _ {C K : Type 0} {desk : C → Option Desk} {faults : K → ℕ} where
  pub leaves_begin : {logger : Logger} {commands : C} {sink : K} → IsLogger logger → IfSeen (λ d. IsDeskOf logger d) (desk commands) → LeavesLogger {X = Unit {0}} desk faults logger logger commands sink sink (Ok tt)
  leaves_begin is of = record { logger = is; desk_of = of; plan = refl; fails = (omega arith, λ failed. inl failed); failed = λ e. cc e }

  pub leaves_on : {X Y : Type 0} {a b c : Logger} {middle commands : C} {sink between sink' : K} {x : X} (r : Result Y ToolEnd) → LeavesLogger desk faults a b middle sink between (Ok x) → LeavesLogger desk faults b c commands between sink' r → LeavesLogger desk faults a c commands sink sink' r
  leaves_on r one two = record { logger = two.logger; desk_of = two.desk_of; plan = two.plan ∙ one.plan; fails = fails_on one.fails two.fails; failed = two.failed }

-- no command runs before the first piece
pub none_desk : (logger : Logger) (desk : Option Desk) → NoneRuns desk → logger.waiting ≡ None → logger.last ≡ None → IfSeen (λ d. IsDeskOf logger d) desk
none_desk logger None is waits last = tt
none_desk logger (Some d) is waits last = record {
  waiting = ap is_some is.0 ∙ sym (ap is_some waits);
  closed = subst (λ (command : Option Command). IsClosed command) (sym is.0) tt;
  last = subst (λ (o : Option Progress). IsOf logger.plan o d.last) (sym last) is.1;
}

-- a line could not be written, for the first time
pub counted_by : {before after : Bool} {f g : ℕ} → FailsBy before after f g → before ≡ false → after ≡ true → FaultCounted f g
counted_by is first failed = elim (is.1 failed) [
  | inl was ↦ (let bad : true ≡ false = sym was ∙ first in cc bad)
  | inr counted ↦ counted
]
