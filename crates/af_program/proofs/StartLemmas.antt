-- When programs may be started.
use Rattle.std.proofs.Common.{◌≡◌, ℕ, ◌+◌, ◌-◌, ◌*◌, ◌^◌, ◌≤◌, Bool, true, false, List, [], ◌∷◌, length, min, refl, ap, ◌∙◌, subst, arith, nat_lt, nat_le, ◌&&◌, if◌then◌else◌}
use Rattle.std.proofs.lemmas.Bool.{leb-true}
use Rattle.std.specs.declared.option.Option.{Option}
use Rattle.std.specs.declared.option.Option.TheVariants.{None, Some}
use Rattle.af_program.specs.declared.starts.Starts.{Starts}
use Rattle.af_program.specs.Waits.{Start, StartsFit, NextFits, KeepsStarts, IsLateEnough, starts_after_end, wait_after, may_come, comes_by, begun_once_more, after_end, next_wait, moment_after, short_life, shortest_wait, longest_wait}

-- the wait if more than one start was tried
next_wait-more : (short : Bool) (tried wait : ℕ) → 2 ≤ tried → nat_lt 1 tried && short ≡ short
next_wait-more short tried wait more = grind arith

-- the wait after a start has ended
wait-ended : (tried wait began end : ℕ) (earlier : List Start) → tried ≡ length earlier + 1 → wait ≡ wait_after earlier →
    next_wait tried wait (end - began) ≡ wait_after (record { began = began; ended = Some end } ∷ earlier)
wait-ended tried wait began end [] is before = ap (λ n. next_wait n wait (end - began)) is
wait-ended tried wait began end (start ∷ earlier) is before =
    ap (λ x. if x then min (2 * wait) longest_wait else shortest_wait) (next_wait-more (nat_lt (end - began) short_life) tried wait (grind arith)) ∙
    ap (λ w. if nat_lt (end - began) short_life then min (2 * w) longest_wait else shortest_wait) before

-- a moment that comes after a wait
comes-after : (wait end at : ℕ) (fits : Bool) → comes_by (if fits then Some (end + wait) else None) at ≡ true → end + wait ≤ at
comes-after wait end at true comes = leb-true (end + wait) at comes
comes-after wait end at false comes = grind arith

right-true : (a b : Bool) → (a && b) ≡ true → b ≡ true
right-true true b both = both
right-true false b both = grind arith

-- after an end the next start comes late enough
late-enough : (s : Starts) (began end : ℕ) (earlier : List Start) → s.tried ≡ length earlier + 1 → s.wait ≡ wait_after earlier → (at : ℕ) →
    may_come (after_end s began end) at ≡ true → IsLateEnough at (record { began = began; ended = Some end } ∷ earlier)
late-enough s began end earlier tried wait at may =
    let is = wait-ended s.tried s.wait began end earlier tried wait in
    let next = next_wait s.tried s.wait (end - began) in (
      end,
      refl,
      subst (λ w. end + w ≤ at) is
          (comes-after next end at (nat_lt (end + next) (2 ^ 64)) (right-true (nat_le s.tried s.restarts) (comes_by (moment_after end next) at) may)),
    )

left-true : (a b : Bool) → (a && b) ≡ true → a ≡ true
left-true true b both = refl
left-true false b both = both

-- a start may be tried only if one is left
may-begin : (s : Starts) (at : ℕ) → may_come s at ≡ true → s.tried ≤ s.restarts
may-begin s at may = leb-true s.tried s.restarts (left-true (nat_le s.tried s.restarts) (comes_by s.next at) may)

-- one more start keeps to the rules of starts
begun-fits : (s : Starts) (starts : List Start) (at : ℕ) (end : Option ℕ) → s.tried ≡ length starts → may_come s at ≡ true → NextFits s None starts → StartsFit s.restarts starts →
    StartsFit s.restarts (record { began = at; ended = end } ∷ starts)
begun-fits s starts at end tried may next fits =
    let left = may-begin s at may in
    record { most = grind arith; spaced = (next.1 at may, fits.spaced) }

-- the next start after one that fails comes late enough
next-failed : (s : Starts) (at : ℕ) (starts : List Start) → s.tried ≡ length starts → NextFits s None starts →
    NextFits (after_end (begun_once_more s) at at) None (record { began = at; ended = Some at } ∷ starts)
next-failed s at starts tried next =
    let more : (begun_once_more s).tried ≡ length starts + 1 = ap (λ n. n + 1) tried in
    (wait-ended (s.tried + 1) s.wait at at starts more next.0, late-enough (begun_once_more s) at at starts more next.0)

-- an end changes no count of starts, and no moment at which one came

as-many : (starts : List Start) (at : ℕ) → length starts ≡ length (starts_after_end starts at)
as-many [] at = refl
as-many (start ∷ earlier) at = refl

ended-fits : (restarts : ℕ) (starts : List Start) (at : ℕ) → StartsFit restarts starts → StartsFit restarts (starts_after_end starts at)
ended-fits restarts [] at fits = fits
ended-fits restarts (start ∷ earlier) at fits = record { most = fits.most; spaced = fits.spaced }

next-ended : (s : Starts) (began at : ℕ) (starts : List Start) → s.tried ≡ length starts → NextFits s (Some began) starts → NextFits (after_end s began at) None (starts_after_end starts at)
next-ended s began at [] tried next = grind arith
next-ended s began at (start ∷ earlier) tried next =
    let more : s.tried ≡ length earlier + 1 = grind arith in
    subst (λ n. NextFits (after_end s n at) None (record start { ended = Some at } ∷ earlier)) next.0
    (wait-ended s.tried s.wait start.began at earlier more next.2, late-enough s start.began at earlier more next.2)

-- What is kept of starts fits them

-- a start succeeds
pub starts-begun : (kept : Starts) (starts : List Start) (at : ℕ) → may_come kept at ≡ true → KeepsStarts kept None starts →
    KeepsStarts (begun_once_more kept) (Some at) (record { began = at; ended = None } ∷ starts)
starts-begun kept starts at may keeps = record {
  fit = begun-fits kept starts at None keeps.tried may keeps.next keeps.fit;
  tried = let tried = keeps.tried in grind arith;
  next = (refl, refl, keeps.next.0);
}

-- a start fails
pub starts-failed : (kept : Starts) (starts : List Start) (at : ℕ) → may_come kept at ≡ true → KeepsStarts kept None starts →
    KeepsStarts (after_end (begun_once_more kept) at at) None (record { began = at; ended = Some at } ∷ starts)
starts-failed kept starts at may keeps = record {
  fit = begun-fits kept starts at (Some at) keeps.tried may keeps.next keeps.fit;
  tried = let tried = keeps.tried in grind arith;
  next = next-failed kept at starts keeps.tried keeps.next;
}

-- the program that runs has ended
pub starts-ended : (kept : Starts) (began at : ℕ) (starts : List Start) → KeepsStarts kept (Some began) starts → KeepsStarts (after_end kept began at) None (starts_after_end starts at)
starts-ended kept began at starts keeps = record {
  fit = ended-fits kept.restarts starts at keeps.fit;
  tried = keeps.tried ∙ as-many starts at;
  next = next-ended kept began at starts keeps.tried keeps.next;
}
