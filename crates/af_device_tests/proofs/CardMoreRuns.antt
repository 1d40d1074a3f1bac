-- More small runs of a device over a program, computed, which are in no test: restarts, and moments within a run.
use Rattle.std.proofs.Common.{◌≡◌, ℕ, ◌+◌, ◌*◌, ◌⊎◌, inl, inr, List, [], ◌∷◌, ◌++◌, map, replicate, refl, ap, ◌∙◌, arith, get_or, take}
use Rattle.std.proofs.lemmas.List.Elements.{All-nil, All-head}
use Rattle.std.specs.declared.option.Option.TheVariants.{None, Some}
use Rattle.af_program.specs.Acts.{ToldAct, launched, gave, took, ended, captured, emitted}
use Rattle.af_program.specs.declared.program.Launched.TheVariants as launch
use Rattle.af_card.specs.Card.{IsFed}
use Rattle.af_card.specs.Fed.{HasWholeFrames, IsSilent, PastRunFits}
use Rattle.af_card.specs.Ledger.{new_run}
use Rattle.af_program.specs.Waits.{wait_after}
use Rattle.af_device_tests.proofs.CardRuns.{card, microphone, begins, one, two, first_byte, in_step, no_room, silent_run, spent, spent_fed}

-- Comes back

-- A card took one byte of a frame when it ended. Silence is captured meanwhile, and another program begins with whole frames.
abbrev comes_back : List ℕ → List ℕ → List ToldAct
comes_back idle taken = begins 0
    ∷ gave (1 ∷ 2 ∷ 3 ∷ []) ∷ captured (1 ∷ 2 ∷ []) ∷ emitted (11 ∷ 12 ∷ []) ∷ took (11 ∷ []) ∷ ended 20000000
    ∷ captured idle ∷ emitted (13 ∷ 14 ∷ [])
    ∷ begins 1020000000 ∷ gave (4 ∷ 5 ∷ []) ∷ captured (4 ∷ 5 ∷ []) ∷ emitted (15 ∷ 16 ∷ []) ∷ took taken ∷ []

comes_back_fed : IsFed card 1 (comes_back (0 ∷ 0 ∷ []) (15 ∷ 16 ∷ []))
comes_back_fed = record {
  past = record {
    past = one (PastRunFits card) (record { given = 1 ∷ 2 ∷ 3 ∷ []; taken = 11 ∷ []; captured = (1 ∷ 2 ∷ []) ∷ []; emitted = (11 ∷ 12 ∷ []) ∷ [] }) (
      3 ∷ [],
      12 ∷ [],
      record {
        captured = record { given = refl; whole = one (HasWholeFrames 2) (1 ∷ 2 ∷ []) (1, refl) };
        handed = record { passed = ([], 1, refl, refl); part = omega arith };
        in_step = (refl, tt);
      },
      omega arith,
    );
    idle = one (IsSilent 0) (0 ∷ 0 ∷ []) refl;
  };
  now = (
    [],
    [],
    None,
    record {
      captured = record { given = refl; whole = one (HasWholeFrames 2) (4 ∷ 5 ∷ []) (1, refl) };
      handed = record { passed = ([], 1, refl, refl); part = omega arith };
      in_step = (refl, tt);
    },
  );
  starts = record { most = omega arith; spaced = ((20000000, refl, omega arith), (tt, tt)) };
}

-- part of what the first program gave is captured while none runs
comes_back_sound : IsFed card 1 (comes_back (3 ∷ 0 ∷ []) (15 ∷ 16 ∷ [])) → ⊥
comes_back_sound fed = let first = ap (λ bytes. get_or bytes 0 0) (All-head (IsSilent 0) (3 ∷ 0 ∷ []) [] fed.past.idle) in omega arith

-- what the second program takes and is owed begins with what was emitted while it ran
taken_first : (all none : List ℕ) (frames : ℕ) → none ≡ [] → all ≡ none ++ take (frames * 2) (15 ∷ 16 ∷ []) → (get_or all 0 0 ≡ 0) ⊎ (get_or all 0 0 ≡ 15)
taken_first all none frames empty is =
    let first = ap (λ bytes. get_or bytes 0 0) (is ∙ ap (λ bytes. bytes ++ take (frames * 2) (15 ∷ 16 ∷ [])) empty) in
    elim (first_byte frames 15 16 []) [ inl zero_byte ↦ inl (first ∙ zero_byte) | inr same ↦ inr (first ∙ same) ]

-- the second program is handed the byte that the first was owed
comes_back_owed : IsFed card 1 (comes_back (0 ∷ 0 ∷ []) (12 ∷ 15 ∷ 16 ∷ [])) → ⊥
comes_back_owed fed =
    let passed = fed.now.3.handed.passed in
    elim (taken_first ((12 ∷ 15 ∷ 16 ∷ []) ++ fed.now.1) passed.0 passed.1 passed.2 passed.3) [ inl zero_byte ↦ omega arith | inr same ↦ omega arith ]

-- the second program is handed what was emitted while none ran
comes_back_missed : IsFed card 1 (comes_back (0 ∷ 0 ∷ []) (13 ∷ 14 ∷ [])) → ⊥
comes_back_missed fed =
    let passed = fed.now.3.handed.passed in
    elim (taken_first ((13 ∷ 14 ∷ []) ++ fed.now.1) passed.0 passed.1 passed.2 passed.3) [ inl zero_byte ↦ omega arith | inr same ↦ omega arith ]

-- Waits

-- The second start fails, so that the wait is two seconds. The third program lives for ten seconds, so that the wait is one
-- again.
abbrev waits : ℕ → ℕ → List ToldAct
waits third lived = begins 0 ∷ ended 10000000
    ∷ launched 1010000000 [] launch.Failed
    ∷ begins third ∷ ended (3010000000 + lived) ∷ begins (4010000000 + lived) ∷ []

waits_fed : IsFed microphone 3 (waits 3010000000 10000000000)
waits_fed = record {
  past = record { past = two (PastRunFits microphone) new_run new_run silent_run silent_run; idle = All-nil (IsSilent 0) };
  now = (
    [],
    [],
    None,
    record {
      captured = record { given = refl; whole = All-nil (HasWholeFrames 2) };
      handed = record { none = refl; owes = refl };
      in_step = tt;
    },
  );
  starts = record {
    most = omega arith;
    spaced = ((13010000000, refl, omega arith), ((1010000000, refl, omega arith), ((10000000, refl, omega arith), (tt, tt))));
  };
}

-- the third start comes a nanosecond before its wait is over
waits_early : IsFed microphone 3 (waits 3009999999 10000000000) → ⊥
waits_early fed = let late = fed.starts.spaced.1.0 in let is = late.1 in let after = late.2 in grind arith

-- the third program lives for a nanosecond less than ten seconds, and the wait is still one
waits_short : IsFed microphone 3 (waits 3010000000 9999999999) → ⊥
waits_short fed = let late = fed.starts.spaced.0 in let is = late.1 in let after = late.2 in grind arith

-- one start less is left
waits_spent : IsFed microphone 2 (waits 3010000000 10000000000) → ⊥
waits_spent fed = let most = fed.starts.most in omega arith

-- after the first, second and each later of eight starts that fail: twice the wait before it, up to a minute
waits_doubled : map (λ count. wait_after (replicate count (record { began = 0; ended = Some 0 }))) (1 ∷ 2 ∷ 3 ∷ 4 ∷ 5 ∷ 6 ∷ 7 ∷ 8 ∷ []) ≡
    1000000000 ∷ 2000000000 ∷ 4000000000 ∷ 8000000000 ∷ 16000000000 ∷ 32000000000 ∷ 60000000000 ∷ 60000000000 ∷ []
waits_doubled = refl

-- Moments

-- between the two calls of a tick: a byte is left
in_step_between : IsFed card 0 (take 3 (in_step (3 ∷ 4 ∷ 5 ∷ 6 ∷ [])))
in_step_between = record {
  past = record { past = All-nil (PastRunFits card); idle = All-nil (IsSilent 0) };
  now = (
    3 ∷ [],
    [],
    Some 2,
    record {
      captured = record { given = refl; whole = one (HasWholeFrames 2) (1 ∷ 2 ∷ []) (1, refl) };
      handed = record { passed = refl; part = omega arith };
      in_step = (refl, tt);
    },
  );
  starts = record { most = omega arith; spaced = (tt, tt) };
}

-- if a card took nothing of a sound, all of it may be lost
in_step_lost : IsFed card 0 (take 4 (in_step (3 ∷ 4 ∷ 5 ∷ 6 ∷ [])))
in_step_lost = record {
  past = record { past = All-nil (PastRunFits card); idle = All-nil (IsSilent 0) };
  now = (
    3 ∷ [],
    [],
    None,
    record {
      captured = record { given = refl; whole = one (HasWholeFrames 2) (1 ∷ 2 ∷ []) (1, refl) };
      handed = record { passed = ([], 0, refl, refl); part = omega arith };
      in_step = (refl, tt);
    },
  );
  starts = record { most = omega arith; spaced = (tt, tt) };
}

-- a card took a part of a frame, and is owed the rest
no_room_between : IsFed card 0 (take 5 (no_room []))
no_room_between = record {
  past = record { past = All-nil (PastRunFits card); idle = All-nil (IsSilent 0) };
  now = (
    [],
    14 ∷ [],
    None,
    record {
      captured = record { given = refl; whole = one (HasWholeFrames 2) (1 ∷ 2 ∷ 3 ∷ 4 ∷ 5 ∷ 6 ∷ []) (3, refl) };
      handed = record { passed = ([], 2, refl, refl); part = omega arith };
      in_step = (refl, tt);
    },
  );
  starts = record { most = omega arith; spaced = (tt, tt) };
}

-- A frame is captured before it is given. The acts as a whole are fed, but those up to the capture are not.
abbrev too_early : List ToldAct
too_early = begins 0 ∷ captured (1 ∷ 2 ∷ []) ∷ gave (1 ∷ 2 ∷ []) ∷ emitted (11 ∷ 12 ∷ []) ∷ took (11 ∷ 12 ∷ []) ∷ []

too_early_at_last : IsFed card 0 too_early
too_early_at_last = record {
  past = record { past = All-nil (PastRunFits card); idle = All-nil (IsSilent 0) };
  now = (
    [],
    [],
    None,
    record {
      captured = record { given = refl; whole = one (HasWholeFrames 2) (1 ∷ 2 ∷ []) (1, refl) };
      handed = record { passed = ([], 1, refl, refl); part = omega arith };
      in_step = (refl, tt);
    },
  );
  starts = record { most = omega arith; spaced = (tt, tt) };
}

too_early_between : IsFed card 0 (take 2 too_early) → ⊥
too_early_between fed = let first = ap (λ bytes. get_or bytes 0 0) fed.now.3.captured.given in omega arith

-- What is given or taken while no program runs counts for nothing. A program is asked for neither then (`RunsWhereTold`).
unheard : IsFed microphone 0 (spent (gave (1 ∷ 2 ∷ []) ∷ took (11 ∷ 12 ∷ []) ∷ []))
unheard = record { past = spent_fed.past; now = tt; starts = spent_fed.starts }
