-- Small runs of a device over a program, computed. The acts of each keep to the promise of a device (`IsFed`). With one act
-- changed, left out or added they do not. They are the runs of `src/tests/card.rt`, with a to h as 1 to 8, and A to H as 11 to
-- 18.
use Rattle.std.proofs.Common.{◌≡◌, ℕ, zero, suc, ◌*◌, ◌⊎◌, inl, inr, List, [], ◌∷◌, ◌++◌, length, refl, ap, ◌∙◌, arith, get_or, take}
use Rattle.std.proofs.lemmas.List.Elements.{All-nil, All-cons, All-head}
use Rattle.std.specs.List.{All}
use Rattle.std.specs.declared.option.Option.{Option}
use Rattle.std.specs.declared.option.Option.TheVariants.{None, Some}
use Rattle.af_program.specs.Acts.{ToldAct, launched, gave, took, ended, captured, emitted}
use Rattle.af_program.specs.declared.program.Launched.TheVariants as launch
use Rattle.af_world.specs.declared.card_kind.CardKind.{CardKind}
use Rattle.af_world.specs.declared.card_kind.CardKind.TheVariants as kind
use Rattle.af_card.specs.declared.shape.Shape.{Shape}
use Rattle.af_card.specs.Card.{IsFed}
use Rattle.af_card.specs.Fed.{HasWholeFrames, IsInStep, IsSilent, PastRunFits}
use Rattle.af_card.specs.Ledger.{Run, new_run}

-- frames of two bytes, a hundred a second
abbrev pub shape_of : CardKind → Shape
shape_of k = record { kind = k; frame_bytes = 2; silence = 0; rate = 100 }

abbrev pub card : Shape
card = shape_of kind.Card

abbrev pub microphone : Shape
microphone = shape_of kind.Microphone

abbrev pub speaker : Shape
speaker = shape_of kind.Speaker

abbrev pub encoder : Shape
encoder = shape_of kind.Encoder

-- a start by the command line cat, which succeeds
abbrev pub begins : ℕ → ToldAct
begins at = launched at ((99 ∷ 97 ∷ 116 ∷ []) ∷ []) launch.Runs

-- a fact for each element of a list of one, or of two
pub one : {X : Type 0} (P : X → Type 0) (x : X) → P x → All P (x ∷ [])
one P x p = All-cons P x [] p (All-nil P)

pub two : {X : Type 0} (P : X → Type 0) (x y : X) → P x → P y → All P (x ∷ y ∷ [])
two P x y p q = All-cons P x (y ∷ []) p (one P y q)

-- In step

-- A card gives a frame and a half, then the rest and another, and takes all.
abbrev pub in_step : List ℕ → List ToldAct
in_step second = begins 0
    ∷ gave (1 ∷ 2 ∷ 3 ∷ []) ∷ captured (1 ∷ 2 ∷ []) ∷ emitted (11 ∷ 12 ∷ []) ∷ took (11 ∷ 12 ∷ [])
    ∷ gave (4 ∷ 5 ∷ 6 ∷ []) ∷ captured second ∷ emitted (13 ∷ 14 ∷ 15 ∷ 16 ∷ []) ∷ took (13 ∷ 14 ∷ 15 ∷ 16 ∷ []) ∷ []

in_step_fed : IsFed card 0 (in_step (3 ∷ 4 ∷ 5 ∷ 6 ∷ []))
in_step_fed = record {
  past = record { past = All-nil (PastRunFits card); idle = All-nil (IsSilent 0) };
  now = (
    [],
    [],
    None,
    record {
      captured = record { given = refl; whole = two (HasWholeFrames 2) (3 ∷ 4 ∷ 5 ∷ 6 ∷ []) (1 ∷ 2 ∷ []) (2, refl) (1, refl) };
      handed = record { passed = (11 ∷ 12 ∷ [], 2, ([], 1, refl, refl), refl); part = omega arith };
      in_step = (refl, (refl, tt));
    },
  );
  starts = record { most = omega arith; spaced = (tt, tt) };
}

-- the first frame is captured twice
in_step_twice : IsFed card 0 (in_step (1 ∷ 2 ∷ 3 ∷ 4 ∷ [])) → ⊥
in_step_twice fed = let third = ap (λ bytes. get_or bytes 2 0) fed.now.3.captured.given in omega arith

-- Fast

-- It gives more frames than a clock of a hundred frames a second has, and they go by at once.
abbrev fast : List ℕ → List ToldAct
fast sound = begins 0
    ∷ gave (1 ∷ 2 ∷ 3 ∷ 4 ∷ 5 ∷ 6 ∷ 7 ∷ 8 ∷ []) ∷ captured sound
    ∷ emitted (11 ∷ 12 ∷ 13 ∷ 14 ∷ 15 ∷ 16 ∷ 17 ∷ 18 ∷ []) ∷ took (11 ∷ 12 ∷ 13 ∷ 14 ∷ 15 ∷ 16 ∷ 17 ∷ 18 ∷ []) ∷ []

fast_fed : IsFed card 0 (fast (1 ∷ 2 ∷ 3 ∷ 4 ∷ 5 ∷ 6 ∷ 7 ∷ 8 ∷ []))
fast_fed = record {
  past = record { past = All-nil (PastRunFits card); idle = All-nil (IsSilent 0) };
  now = (
    [],
    [],
    None,
    record {
      captured = record { given = refl; whole = one (HasWholeFrames 2) (1 ∷ 2 ∷ 3 ∷ 4 ∷ 5 ∷ 6 ∷ 7 ∷ 8 ∷ []) (4, refl) };
      handed = record { passed = ([], 4, refl, refl); part = omega arith };
      in_step = (refl, tt);
    },
  );
  starts = record { most = omega arith; spaced = (tt, tt) };
}

-- silence is captured while the program gives
fast_silent : IsFed card 0 (fast (0 ∷ 0 ∷ 0 ∷ 0 ∷ 0 ∷ 0 ∷ 0 ∷ 0 ∷ [])) → ⊥
fast_silent fed = let first = ap (λ bytes. get_or bytes 0 0) fed.now.3.captured.given in omega arith

-- No room

-- It has room for three of six bytes: the frame that was begun is finished, and the third is lost.
abbrev pub no_room : List ToldAct → List ToldAct
no_room rest = begins 0
    ∷ gave (1 ∷ 2 ∷ 3 ∷ 4 ∷ 5 ∷ 6 ∷ []) ∷ captured (1 ∷ 2 ∷ 3 ∷ 4 ∷ 5 ∷ 6 ∷ []) ∷ emitted (11 ∷ 12 ∷ 13 ∷ 14 ∷ 15 ∷ 16 ∷ [])
    ∷ took (11 ∷ 12 ∷ 13 ∷ []) ∷ (rest ++ gave (7 ∷ 8 ∷ []) ∷ captured (7 ∷ 8 ∷ []) ∷ emitted (17 ∷ 18 ∷ []) ∷ took (17 ∷ 18 ∷ []) ∷ [])

no_room_fed : IsFed card 0 (no_room (took (14 ∷ []) ∷ []))
no_room_fed = record {
  past = record { past = All-nil (PastRunFits card); idle = All-nil (IsSilent 0) };
  now = (
    [],
    [],
    None,
    record {
      captured = record { given = refl; whole = two (HasWholeFrames 2) (7 ∷ 8 ∷ []) (1 ∷ 2 ∷ 3 ∷ 4 ∷ 5 ∷ 6 ∷ []) (1, refl) (3, refl) };
      handed = record { passed = (11 ∷ 12 ∷ 13 ∷ 14 ∷ [], 1, ([], 2, refl, refl), refl); part = omega arith };
      in_step = (refl, (refl, tt));
    },
  );
  starts = record { most = omega arith; spaced = (tt, tt) };
}

-- a front of whole frames of a sound is empty, or begins with its first frame
front : (frames first second : ℕ) (rest : List ℕ) →
    (take (frames * 2) (first ∷ second ∷ rest) ≡ []) ⊎ ((more : ℕ) × (take (frames * 2) (first ∷ second ∷ rest) ≡ first ∷ second ∷ take (more * 2) rest))
front zero first second rest = inl refl
front (suc more) first second rest =
    let twice : suc more * 2 ≡ suc (suc (more * 2)) = omega arith in
    inr (more, ap (λ n. take n (first ∷ second ∷ rest)) twice)

-- so their first byte is that of the sound, if there is one
pub first_byte : (frames first second : ℕ) (rest : List ℕ) →
    (get_or (take (frames * 2) (first ∷ second ∷ rest)) 0 0 ≡ 0) ⊎ (get_or (take (frames * 2) (first ∷ second ∷ rest)) 0 0 ≡ first)
first_byte frames first second rest = elim (front frames first second rest) [
  | inl none ↦ inl (ap (λ bytes. get_or bytes 0 0) none)
  | inr some ↦ inr (ap (λ bytes. get_or bytes 0 0) some.1)
]

-- what is handed of the second sound
abbrev of_second : ℕ → List ℕ
of_second frames = take (frames * 2) (17 ∷ 18 ∷ [])

-- The frame that was begun is not finished before the next sound: the rest of what the card takes is cut by a byte.
no_room_cut : IsFed card 0 (no_room []) → ⊥
no_room_cut fed =
    let passed = fed.now.3.handed.passed in
    after_none fed.now.1 passed.2.0 passed.0 passed.2.1 passed.1 passed.2.2 passed.2.3 passed.3
  where
    -- the third byte is of the first sound, and the fourth is not the one after it
    after_one : (owed : List ℕ) (more frames : ℕ) →
        (11 ∷ 12 ∷ 13 ∷ 17 ∷ 18 ∷ []) ++ owed ≡ (11 ∷ 12 ∷ take (more * 2) (13 ∷ 14 ∷ 15 ∷ 16 ∷ [])) ++ of_second frames → ⊥
    after_one owed more frames is = elim (front more 13 14 (15 ∷ 16 ∷ [])) [
      | inl none ↦
          let third = ap (λ bytes. get_or bytes 2 0) (is ∙ ap (λ bytes. (11 ∷ 12 ∷ bytes) ++ of_second frames) none) in
          elim (first_byte frames 17 18 []) [ inl zero_byte ↦ omega arith | inr same ↦ omega arith ]
      | inr some ↦
          let fourth = ap (λ bytes. get_or bytes 3 0) (is ∙ ap (λ bytes. (11 ∷ 12 ∷ bytes) ++ of_second frames) some.1) in
          omega arith
    ]

    -- the first two bytes are of the first sound
    after_none : (owed none before : List ℕ) (earlier frames : ℕ) → none ≡ [] → before ≡ none ++ take (earlier * 2) (11 ∷ 12 ∷ 13 ∷ 14 ∷ 15 ∷ 16 ∷ []) →
        (11 ∷ 12 ∷ 13 ∷ 17 ∷ 18 ∷ []) ++ owed ≡ before ++ of_second frames → ⊥
    after_none owed none before earlier frames empty was is =
        let first_sound = was ∙ ap (λ bytes. bytes ++ take (earlier * 2) (11 ∷ 12 ∷ 13 ∷ 14 ∷ 15 ∷ 16 ∷ [])) empty in
        let all = is ∙ ap (λ bytes. bytes ++ of_second frames) first_sound in
        elim (front earlier 11 12 (13 ∷ 14 ∷ 15 ∷ 16 ∷ [])) [
          | inl nothing ↦
              let first = ap (λ bytes. get_or bytes 0 0) (all ∙ ap (λ bytes. bytes ++ of_second frames) nothing) in
              elim (first_byte frames 17 18 []) [ inl zero_byte ↦ omega arith | inr same ↦ omega arith ]
          | inr some ↦ after_one owed some.0 frames (all ∙ ap (λ bytes. bytes ++ of_second frames) some.1)
        ]

-- Dies

-- A microphone ends after half a frame, and comes back a second later. The half is dropped.
abbrev dies : ToldAct → List ℕ → List ℕ → List ToldAct
dies again heard lost = begins 0
    ∷ gave (1 ∷ 2 ∷ 3 ∷ []) ∷ captured (1 ∷ 2 ∷ []) ∷ emitted (11 ∷ 12 ∷ []) ∷ ended 20000000
    ∷ again ∷ gave (4 ∷ 5 ∷ []) ∷ captured heard ∷ emitted lost ∷ []

-- its first program, which leaves half a frame
abbrev half_run : Run
half_run = record { given = 1 ∷ 2 ∷ 3 ∷ []; taken = []; captured = (1 ∷ 2 ∷ []) ∷ []; emitted = (11 ∷ 12 ∷ []) ∷ [] }

half_run_fits : PastRunFits microphone half_run
half_run_fits = (
  3 ∷ [],
  [],
  record {
    captured = record { given = refl; whole = one (HasWholeFrames 2) (1 ∷ 2 ∷ []) (1, refl) };
    handed = record { none = refl; owes = refl };
    in_step = (refl, tt);
  },
  omega arith,
)

-- whatever the command line of the second start is: the promise does not speak of it
dies_fed : (words : List (List ℕ)) → IsFed microphone 1 (dies (launched 1020000000 words launch.Runs) (4 ∷ 5 ∷ []) (14 ∷ 15 ∷ []))
dies_fed words = record {
  past = record { past = one (PastRunFits microphone) half_run half_run_fits; idle = All-nil (IsSilent 0) };
  now = (
    [],
    [],
    None,
    record {
      captured = record { given = refl; whole = one (HasWholeFrames 2) (4 ∷ 5 ∷ []) (1, refl) };
      handed = record { none = refl; owes = refl };
      in_step = (refl, tt);
    },
  );
  starts = record { most = omega arith; spaced = ((20000000, refl, omega arith), (tt, tt)) };
}

-- the half begins the first frame of the next program
dies_half : IsFed microphone 1 (dies (begins 1020000000) (3 ∷ 4 ∷ []) (14 ∷ 15 ∷ [])) → ⊥
dies_half fed = let first = ap (λ bytes. get_or bytes 0 0) fed.now.3.captured.given in omega arith

-- it is started a nanosecond before its wait is over
dies_early : IsFed microphone 1 (dies (begins 1019999999) (4 ∷ 5 ∷ []) (14 ∷ 15 ∷ [])) → ⊥
dies_early fed = let late = fed.starts.spaced.0 in let is = late.1 in let after = late.2 in grind arith

-- in the last tick more is emitted than was captured
dies_longer : IsFed microphone 1 (dies (begins 1020000000) (4 ∷ 5 ∷ []) (14 ∷ 15 ∷ 16 ∷ 17 ∷ [])) → ⊥
dies_longer fed = longer fed.now.2 fed.now.3.in_step where
  longer : (tick : Option ℕ) → IsInStep tick ((4 ∷ 5 ∷ []) ∷ []) ((14 ∷ 15 ∷ 16 ∷ 17 ∷ []) ∷ []) → ⊥
  longer None in_step = let long = in_step.0 in omega arith
  longer (Some bytes) in_step = in_step.1

-- Busy

-- Each look finds frames due by the clock, and the program is started as their sound is emitted.
abbrev busy : List ℕ → List ToldAct
busy idle = begins 0
    ∷ gave (1 ∷ 2 ∷ 3 ∷ []) ∷ captured (1 ∷ 2 ∷ []) ∷ emitted (11 ∷ 12 ∷ []) ∷ ended 20000000
    ∷ captured idle ∷ emitted (11 ∷ 12 ∷ 13 ∷ 14 ∷ 15 ∷ 16 ∷ []) ∷ begins 1030000000 ∷ gave (4 ∷ 5 ∷ []) ∷ []

busy_fed : IsFed microphone 1 (busy (0 ∷ 0 ∷ 0 ∷ 0 ∷ 0 ∷ 0 ∷ []))
busy_fed = record {
  past = record {
    past = one (PastRunFits microphone) half_run half_run_fits;
    idle = one (IsSilent 0) (0 ∷ 0 ∷ 0 ∷ 0 ∷ 0 ∷ 0 ∷ []) refl;
  };
  now = (
    4 ∷ 5 ∷ [],
    [],
    None,
    record {
      captured = record { given = refl; whole = All-nil (HasWholeFrames 2) };
      handed = record { none = refl; owes = refl };
      in_step = tt;
    },
  );
  starts = record { most = omega arith; spaced = ((20000000, refl, omega arith), (tt, tt)) };
}

-- the half of a frame is captured while no program runs
busy_half : IsFed microphone 1 (busy (3 ∷ 0 ∷ 0 ∷ 0 ∷ 0 ∷ 0 ∷ [])) → ⊥
busy_half fed = let first = ap (λ bytes. get_or bytes 0 0) (All-head (IsSilent 0) (3 ∷ 0 ∷ 0 ∷ 0 ∷ 0 ∷ 0 ∷ []) [] fed.past.idle) in omega arith

-- a program that gave and took nothing, and ran
pub silent_run : PastRunFits microphone new_run
silent_run = (
  [],
  [],
  record {
    captured = record { given = refl; whole = All-nil (HasWholeFrames 2) };
    handed = record { none = refl; owes = refl };
    in_step = tt;
  },
  omega arith,
)

-- Spent

-- With no start left the device is dead, and nothing is captured or emitted any more.
abbrev pub spent : List ToldAct → List ToldAct
spent more = begins 0 ∷ ended 10000000 ∷ more

pub spent_fed : IsFed microphone 0 (spent [])
spent_fed = record {
  past = record { past = one (PastRunFits microphone) new_run silent_run; idle = All-nil (IsSilent 0) };
  now = tt;
  starts = record { most = omega arith; spaced = (tt, tt) };
}

-- it is started once more, though no start is left
spent_again : IsFed microphone 0 (spent (begins 1010000000 ∷ [])) → ⊥
spent_again fed = let most = fed.starts.most in omega arith

-- it is started once more, though it has not ended
spent_twice : IsFed microphone 1 (begins 0 ∷ begins 1010000000 ∷ []) → ⊥
spent_twice fed = let late = fed.starts.spaced.0 in let is = late.1 in grind arith

-- Full

-- A loudspeaker is handed a piece, which is a frame here. The next one is due once it took all of that.
abbrev full : List ToldAct → List ToldAct
full rest = begins 0
    ∷ captured (0 ∷ 0 ∷ []) ∷ emitted (11 ∷ 12 ∷ []) ∷ took (11 ∷ [])
    ∷ (rest ++ captured (0 ∷ 0 ∷ []) ∷ emitted (13 ∷ 14 ∷ []) ∷ took (13 ∷ 14 ∷ []) ∷ [])

full_fed : IsFed speaker 0 (full (took (12 ∷ []) ∷ []))
full_fed = record {
  past = record { past = All-nil (PastRunFits speaker); idle = All-nil (IsSilent 0) };
  now = (
    [],
    [],
    None,
    record {
      captured = record { given = refl; silent = two (IsSilent 0) (0 ∷ 0 ∷ []) (0 ∷ 0 ∷ []) refl refl; none = refl };
      handed = record { all = refl; piece_at_most = omega arith };
      in_step = (refl, (refl, tt));
    },
  );
  starts = record { most = omega arith; spaced = (tt, tt) };
}

-- a byte is lost
full_lost : IsFed speaker 0 (full []) → ⊥
full_lost fed = let second = ap (λ bytes. get_or bytes 1 0) fed.now.3.handed.all in omega arith

-- the next piece is emitted before all of this one was taken
full_ahead : IsFed speaker 0 (take 6 (full [])) → ⊥
full_ahead fed =
    let long = ap length fed.now.3.handed.all in
    let more = fed.now.3.handed.piece_at_most in
    grind arith

-- Encoder

-- It captures silence, and its program has room for three of six bytes: the frame that was begun is owed, and the third is lost.
abbrev pub encodes : List ℕ → List ToldAct
encodes sound = begins 0
    ∷ captured (0 ∷ 0 ∷ []) ∷ emitted (11 ∷ 12 ∷ []) ∷ took (11 ∷ 12 ∷ [])
    ∷ captured sound ∷ emitted (13 ∷ 14 ∷ 15 ∷ 16 ∷ 17 ∷ 18 ∷ []) ∷ took (13 ∷ 14 ∷ 15 ∷ []) ∷ []

encodes_fed : IsFed encoder 0 (encodes (0 ∷ 0 ∷ 0 ∷ 0 ∷ 0 ∷ 0 ∷ []))
encodes_fed = record {
  past = record { past = All-nil (PastRunFits encoder); idle = All-nil (IsSilent 0) };
  now = (
    [],
    16 ∷ [],
    None,
    record {
      captured = record {
        silence_alone = record { given = refl; silent = two (IsSilent 0) (0 ∷ 0 ∷ 0 ∷ 0 ∷ 0 ∷ 0 ∷ []) (0 ∷ 0 ∷ []) refl refl; none = refl };
        whole = two (HasWholeFrames 2) (0 ∷ 0 ∷ 0 ∷ 0 ∷ 0 ∷ 0 ∷ []) (0 ∷ 0 ∷ []) (3, refl) (1, refl);
      };
      handed = record { passed = (11 ∷ 12 ∷ [], 2, ([], 1, refl, refl), refl); part = omega arith };
      in_step = (refl, (refl, tt));
    },
  );
  starts = record { most = omega arith; spaced = (tt, tt) };
}

-- it captures something else than silence
encodes_sound : IsFed encoder 0 (encodes (0 ∷ 0 ∷ 0 ∷ 0 ∷ 0 ∷ 1 ∷ [])) → ⊥
encodes_sound fed =
    let silent = All-head (IsSilent 0) (0 ∷ 0 ∷ 0 ∷ 0 ∷ 0 ∷ 1 ∷ []) ((0 ∷ 0 ∷ []) ∷ []) fed.now.3.captured.silence_alone.silent in
    let last = ap (λ bytes. get_or bytes 5 0) silent in
    omega arith
