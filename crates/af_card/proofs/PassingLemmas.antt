-- What goes between a device and its program in one call, step by step.
use Rattle.std.proofs.Common.{◌≡◌, ◌≢◌, ℕ, true, false, not, ◌&&◌, ◌==◌, List, [], ◌∷◌, ◌++◌, length, refl, sym, ap, ◌∙◌, subst, arith, Bool, option_map, is_some}
use Rattle.std.specs.declared.option.Option.{Option}
use Rattle.std.specs.declared.option.Option.TheVariants.{None, Some}
use Rattle.af_io.specs.Observed.{Appended, Unchanged}
use Rattle.af_io.proofs.AppendedLemmas.{appended_on, stays_appended}
use Rattle.af_program.specs.declared.program.Launched.{Launched}
use Rattle.af_program.specs.declared.program.Launched.TheVariants as launch
use Rattle.af_program.specs.declared.program.Took.{Took}
use Rattle.af_program.specs.declared.program.Took.TheVariants as takes
use Rattle.af_program.specs.declared.starts.Starts.{Starts}
use Rattle.af_program.specs.Acts.{ToldAct, emitted, ended, took_acts}
use Rattle.af_program.specs.Handing.{acts_if}
use Rattle.af_program.specs.Waits.{begun_once_more, after_end}
use Rattle.af_world.specs.declared.card_kind.CardKind.{CardKind}
use Rattle.af_world.specs.declared.card_kind.CardKind.TheVariants as kind
use Rattle.af_card.specs.declared.running.Running.{Running}
use Rattle.af_card.specs.Lost.{lost_after, without_room}
use Rattle.af_card.specs.Between.{BetweenState, PassesOn, after_give, hands_frames, running_since, takes_now}
use Rattle.af_card.specs.Passing.{EndsIf, GivesOwed, HandsBy, HandsFrames, HandsOf, IsPart, Meets, PassesSound, begun_between, given_between, may_pass, offer_acts, owed_after, pass_acts, passed_between}

-- Starts and ends

pub begun-runs : (b : BetweenState) (result : Launched) (at : ℕ) (starts : Starts) → result ≡ launch.Runs → starts ≡ begun_once_more b.starts →
    record b { running = Some (running_since at); starts = starts } ≡ begun_between result at b
begun-runs b launch.Runs at starts is begun = ap (λ (s : Starts). record b { running = Some (running_since at); starts = s }) begun
begun-runs b launch.Failed at starts is begun = grind arith
begun-runs b launch.OutOfMemory at starts is begun = grind arith

pub begun-not : (b : BetweenState) (result : Launched) (at : ℕ) (starts : Starts) → result ≢ launch.Runs → starts ≡ after_end (begun_once_more b.starts) at at →
    record b { starts = starts } ≡ begun_between result at b
begun-not b launch.Runs at starts fails failed = absurd (fails refl)
begun-not b launch.Failed at starts fails failed = ap (λ (s : Starts). record b { starts = s }) failed
begun-not b launch.OutOfMemory at starts fails failed = ap (λ (s : Starts). record b { starts = s }) failed

-- While it is asked what is due

ends-after : (done : Bool) (at : ℕ) (b after : BetweenState) (told : List ToldAct) (acts0 acts1 acts2 : Option (List ToldAct)) → Unchanged acts0 acts1 →
    EndsIf done at b after told acts1 acts2 → EndsIf done at b after told acts0 acts2
ends-after true at b after told acts0 acts1 acts2 same ends = (ends.0, stays_appended acts0 acts1 acts2 (told ++ (ended at ∷ [])) same ends.1)
ends-after false at b after told acts0 acts1 acts2 same ends = (ends.0, stays_appended acts0 acts1 acts2 told same ends.1)

pub meets-after : (at : ℕ) (b after : BetweenState) (acts0 acts1 acts2 : Option (List ToldAct)) → Unchanged acts0 acts1 → Meets at b after acts1 acts2 → Meets at b after acts0 acts2
meets-after at b after acts0 acts1 acts2 same meets = record {
  took = meets.took;
  came = meets.came;
  bytes = meets.bytes;
  fits = meets.fits;
  waits = meets.waits;
  silent = meets.silent;
  ends = ends-after _ at _ after _ acts0 acts1 acts2 same meets.ends;
}

-- Emitted

pub hands-frames : (b b1 after : BetweenState) (at : ℕ) (sound : List ℕ) (acts acts1 acts' : Option (List ToldAct)) → GivesOwed at b b1 acts acts1 →
    PassesSound at sound b1 after acts1 acts' → HandsFrames at sound b after acts acts'
hands-frames b b1 after at sound acts acts1 acts' g p = record {
  first = g.took;
  took = p.took;
  part = p.part;
  fits = (g.fits, p.fits);
  parted = subst (λ (x : BetweenState). IsPart p.took x.shape.frame_bytes sound p.part) g.goes p.parted;
  idles = g.waits;
  waits = subst (λ (x : BetweenState). may_pass x ≡ false → p.took ≡ takes.NoRoom) g.goes p.waits;
  goes = p.goes ∙ ap (passed_between p.took p.part sound at) g.goes;
  told = appended_on acts acts1 acts' (offer_acts b g.took) (emitted sound ∷ pass_acts (given_between g.took at b) p.took sound) g.told
      (subst (λ (x : BetweenState). Appended acts1 (emitted sound ∷ pass_acts x p.took sound) acts') g.goes p.told);
}

-- a card or an encoder hands its sound in frames
hands-by-frames : (k : CardKind) (at : ℕ) (sound : List ℕ) (b after : BetweenState) (acts acts' : Option (List ToldAct)) → hands_frames k ≡ true → HandsFrames at sound b after acts acts' →
    HandsBy k at sound b after acts acts'
hands-by-frames kind.Speaker at sound b after acts acts' is hands = grind arith
hands-by-frames kind.Microphone at sound b after acts acts' is hands = grind arith
hands-by-frames kind.Card at sound b after acts acts' is hands = hands
hands-by-frames kind.Encoder at sound b after acts acts' is hands = hands

pub frames-running : (b after : BetweenState) (r : Running) (at : ℕ) (sound : List ℕ) (acts acts' : Option (List ToldAct)) → b.running ≡ Some r → hands_frames b.shape.kind ≡ true →
    HandsFrames at sound b after acts acts' → HandsOf b.running at sound b after acts acts'
frames-running b after r at sound acts acts' is frames hands =
    subst (λ now. HandsOf now at sound b after acts acts') (sym is) (hands-by-frames b.shape.kind at sound b after acts acts' frames hands)

may-pass-where : (b : BetweenState) (r : Running) → b.running ≡ Some r → r.is_closed ≡ false → b.owed ≡ [] → may_pass b ≡ true
may-pass-where b r is takes-sound none =
    ap (λ now. takes_now now && (length b.owed == 0)) is ∙ ap (λ (owed : List ℕ). takes_now (Some r) && (length owed == 0)) none ∙ ap (λ closed. not closed && true) takes-sound

passed-is : (b : BetweenState) (r r' : Running) (result : Took) (owed sound : List ℕ) (at : ℕ) → b.running ≡ Some r → r' ≡ after_give result at r →
    owed ≡ owed_after result b.owed owed →
    record b { running = Some r'; owed = owed; tick = None; lost = lost_after b.lost (without_room result (length sound) (length owed)) b.shape.frame_bytes } ≡ passed_between result owed sound at b
passed-is b r r' result owed sound at is after owes =
    let lost = lost_after b.lost (without_room result (length sound) (length owed)) b.shape.frame_bytes in
    ap (λ (x : Running). record b { running = Some x; owed = owed; tick = None; lost = lost }) after ∙
    ap (λ (x : List ℕ). record b { running = Some (after_give result at r); owed = x; tick = None; lost = lost }) owes ∙
    ap (λ (now : Option Running). record b { running = option_map (after_give result at) now; owed = owed_after result b.owed owed; tick = None; lost = lost }) (sym is)

-- a card that may be offered the sound is
passes-told : (b : BetweenState) (took : Took) (sound : List ℕ) (acts mid acts' : Option (List ToldAct)) → may_pass b ≡ true → Appended acts (emitted sound ∷ []) mid →
    Appended mid (took_acts took sound) acts' → Appended acts (emitted sound ∷ pass_acts b took sound) acts'
passes-told b took sound acts mid acts' may told passes =
    subst (λ more. Appended acts (emitted sound ∷ more) acts') (sym (ap (λ t. acts_if t (took_acts took sound)) may))
    (appended_on acts mid acts' (emitted sound ∷ []) (took_acts took sound) told passes)

-- a card is given the sound
pub passes-sound : (b : BetweenState) (r r' : Running) (sound : List ℕ) (result : Took) (owed : List ℕ) (at : ℕ) (acts mid acts' : Option (List ToldAct)) → b.running ≡ Some r →
    r' ≡ after_give result at r → r.is_closed ≡ false → b.owed ≡ [] → Appended acts (emitted sound ∷ []) mid → PassesOn result sound b.shape.frame_bytes owed mid acts' →
    PassesSound at sound b
    (record b { running = Some r'; owed = owed; tick = None; lost = lost_after b.lost (without_room result (length sound) (length owed)) b.shape.frame_bytes }) acts acts'
passes-sound b r r' sound (takes.Bytes n) owed at acts mid acts' is after takes-sound none told passes =
    let may = may-pass-where b r is takes-sound none in
    record {
      took = takes.Bytes n;
      part = owed;
      fits = (passes.some, passes.most);
      parted = record { rest = passes.rest; less = passes.less; whole = passes.whole; is = passes.owes };
      waits = λ no. grind arith;
      goes = passed-is b r r' (takes.Bytes n) owed sound at is after refl;
      told = passes-told b (takes.Bytes n) sound acts mid acts' may told passes.told;
    }
passes-sound b r r' sound takes.NoRoom owed at acts mid acts' is after takes-sound none told passes = record {
  took = takes.NoRoom;
  part = owed;
  fits = tt;
  parted = passes.0;
  waits = λ no. refl;
  goes = passed-is b r r' takes.NoRoom owed sound at is after (passes.0 ∙ sym none);
  told = passes-told b takes.NoRoom sound acts mid acts' (may-pass-where b r is takes-sound none) told passes.1;
}
passes-sound b r r' sound takes.Ended owed at acts mid acts' is after takes-sound none told passes =
    let may = may-pass-where b r is takes-sound none in
    record {
      took = takes.Ended;
      part = owed;
      fits = tt;
      parted = passes.0;
      waits = λ no. grind arith;
      goes = passed-is b r r' takes.Ended owed sound at is after (passes.0 ∙ sym none);
      told = passes-told b takes.Ended sound acts mid acts' may told passes.1;
    }

-- a program that ran still runs
pub runs-still : (b b' : BetweenState) (r : Running) → b.running ≡ Some r → is_some b'.running ≡ is_some b.running → b'.running ≢ None
runs-still b b' r is same none =
    let ran = ap is_some is in
    let gone = ap is_some none in
    grind arith
