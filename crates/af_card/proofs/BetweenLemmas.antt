-- What each call on what stands between a device and its program keeps of the acts.
use Rattle.std.proofs.Common.{◌≡◌, ℕ, ◌-◌, ◌≤◌, nat_lt, Bool, true, false, List, [], ◌∷◌, ◌++◌, length, min, take, drop, refl, sym, ap, ◌∙◌, subst, arith, is_some, ◌≢◌, ◌⊎◌, inl, inr, ◌==◌, ◌/◌, ◌%◌, eqb-true}
use Rattle.std.proofs.Math.Nat.{div-add-mod}
use Rattle.std.specs.declared.option.Option.{Option}
use Rattle.std.specs.declared.option.Option.TheVariants.{None, Some}
use Rattle.af_io.specs.Observed.{Appended}
use Rattle.af_io.proofs.AppendedLemmas.{appended_none, appended_on}
use Rattle.af_program.specs.declared.program.Gave.{Gave}
use Rattle.af_program.specs.declared.program.Gave.TheVariants as gives
use Rattle.af_program.specs.declared.program.Took.{Took}
use Rattle.af_program.specs.declared.program.Took.TheVariants as takes
use Rattle.af_program.specs.declared.program.Launched.{Launched}
use Rattle.af_program.specs.declared.program.Launched.TheVariants as launch
use Rattle.af_program.specs.declared.starts.Starts.{Starts}
use Rattle.af_program.specs.Acts.{ToldAct, launched, asked, gave, offered, ended, captured, emitted, took_acts}
use Rattle.af_program.specs.Handing.{TakesInto, GivesFrom, acts_if, given_acts, left_with}
use Rattle.af_program.specs.Waits.{may_come, begun_once_more, after_end}
use Rattle.af_world.specs.declared.card_kind.CardKind.{CardKind}
use Rattle.af_world.specs.declared.card_kind.CardKind.TheVariants as kind
use Rattle.af_card.specs.declared.shape.Shape.{Shape}
use Rattle.af_card.specs.declared.running.Running.{Running}
use Rattle.af_card.specs.Fed.{IsSilent}
use Rattle.af_card.specs.Lost.{lost_after, without_room}
use Rattle.af_card.specs.Between.{BetweenState, running_since, Accounts, PassesOn, CapturesBy, CapturesOf, IsWhole, CanCapture, LeavesLess, EmitsBy, EmitsTo, gives_sound, hands_frames}
use Rattle.af_card.proofs.AccountLemmas.{Accounts-on, Account-gave, Account-took, Account-knows, Account-untaken, Account-passed, Account-idle, Account-idles, Account-silent, Account-front, Account-begun, Account-failed, Account-ended, counts-none, counts-all}
use Rattle.af_card.proofs.FedLemmas.{handed-nothing, handed-piece, handed-lost}

-- the program was asked, or not
asked-on : (b : BetweenState) (r r' : Running) (is_made : Bool) (room : ℕ) (result : Gave) (bytes left : List ℕ) (acts acts' : Option (List ToldAct)) → b.running ≡ Some r →
    r'.began ≡ r.began → gives_sound b.shape.kind ≡ true → (is_made ≡ false → result ≡ gives.NotYet) → left ≡ left_with result b.left bytes →
    Appended acts (acts_if is_made (given_acts room result bytes)) acts' → Accounts b acts → Accounts (record b { running = Some r'; left = left }) acts'
asked-on b r r' true room (gives.Bytes n) bytes left acts acts' is began sound none goes told fits =
    subst (λ x. Accounts (record b { running = Some r'; left = x }) acts') (sym goes)
    (Accounts-on b (record b { running = Some r'; left = b.left ++ bytes }) acts acts' (asked room (gives.Bytes n) ∷ gave bytes ∷ []) fits told
    (Account-gave b r r' bytes is began sound) (ap is_some is))
asked-on b r r' true room gives.NotYet bytes left acts acts' is began sound none goes told fits =
    subst (λ x. Accounts (record b { running = Some r'; left = x }) acts') (sym goes)
    (Accounts-on b (record b { running = Some r' }) acts acts' (asked room gives.NotYet ∷ []) fits told (Account-knows b r r' is began) (ap is_some is))
asked-on b r r' true room gives.Ended bytes left acts acts' is began sound none goes told fits =
    subst (λ x. Accounts (record b { running = Some r'; left = x }) acts') (sym goes)
    (Accounts-on b (record b { running = Some r' }) acts acts' (asked room gives.Ended ∷ []) fits told (Account-knows b r r' is began) (ap is_some is))
asked-on b r r' false room (gives.Bytes n) bytes left acts acts' is began sound none goes told fits = let no = none refl in grind arith
asked-on b r r' false room gives.NotYet bytes left acts acts' is began sound none goes told fits =
    subst (λ x. Accounts (record b { running = Some r'; left = x }) acts') (sym goes)
    (Accounts-on b (record b { running = Some r' }) acts acts' [] fits told (Account-knows b r r' is began) (ap is_some is))
asked-on b r r' false room gives.Ended bytes left acts acts' is began sound none goes told fits = let no = none refl in grind arith

pub Accounts-taken : (b : BetweenState) (r r' : Running) (most : ℕ) (result : Gave) (left : List ℕ) (acts acts' : Option (List ToldAct)) → b.running ≡ Some r → r'.began ≡ r.began →
    gives_sound b.shape.kind ≡ true → TakesInto most result b.left left acts acts' → Accounts b acts → Accounts (record b { running = Some r'; left = left }) acts'
Accounts-taken b r r' most result left acts acts' is began sound into fits =
    asked-on b r r' (nat_lt (length b.left) most) (most - length b.left) result into.bytes left acts acts' is began sound into.full into.goes into.told fits

pub Accounts-given : (b : BetweenState) (r r' : Running) (result : Took) (owed : List ℕ) (acts acts' : Option (List ToldAct)) → b.running ≡ Some r → r'.began ≡ r.began →
    GivesFrom result b.owed owed acts acts' → Accounts b acts → Accounts (record b { running = Some r'; owed = owed }) acts'
Accounts-given b r r' (takes.Bytes n) owed acts acts' is began given fits =
    subst (λ x. Accounts (record b { running = Some r'; owed = x }) acts') (sym given.2)
    (Accounts-on b (record b { running = Some r'; owed = drop n b.owed }) acts acts' (took_acts (takes.Bytes n) b.owed) fits given.3
    (Account-took b r r' n is began given.0 given.1) (ap is_some is))
Accounts-given b r r' takes.NoRoom owed acts acts' is began given fits =
    subst (λ x. Accounts (record b { running = Some r'; owed = x }) acts') (sym given.0)
    (Accounts-on b (record b { running = Some r' }) acts acts' (took_acts takes.NoRoom b.owed) fits given.1 (Account-knows b r r' is began) (ap is_some is))
Accounts-given b r r' takes.Ended owed acts acts' is began given fits =
    subst (λ x. Accounts (record b { running = Some r'; owed = x }) acts') (sym given.0)
    (Accounts-on b (record b { running = Some r' }) acts acts' (took_acts takes.Ended b.owed) fits given.1 (Account-knows b r r' is began) (ap is_some is))

-- only what is known of the program that runs has changed
pub Accounts-known : (b : BetweenState) (r r' : Running) (acts : Option (List ToldAct)) → b.running ≡ Some r → r'.began ≡ r.began → Accounts b acts → Accounts (record b { running = Some r' }) acts
Accounts-known b r r' acts is began fits = Accounts-on b (record b { running = Some r' }) acts acts [] fits (appended_none acts) (Account-knows b r r' is began) (ap is_some is)

-- the sound of a tick is captured

pub Accounts-idle : (b : BetweenState) (sound : List ℕ) (tick : Option ℕ) (acts acts' : Option (List ToldAct)) → b.running ≡ None → IsSilent b.shape.silence sound →
    Appended acts (captured sound ∷ []) acts' → Accounts b acts → Accounts (record b { tick = tick }) acts'
Accounts-idle b sound tick acts acts' none silent told fits =
    Accounts-on b (record b { tick = tick }) acts acts' (captured sound ∷ []) fits told (Account-idle b sound tick none silent) refl

pub Accounts-silent : (b : BetweenState) (r : Running) (sound : List ℕ) (acts acts' : Option (List ToldAct)) → b.running ≡ Some r → b.tick ≡ None → gives_sound b.shape.kind ≡ false →
    CapturesBy b.shape.kind b.shape b.left (length sound) → IsSilent b.shape.silence sound → Appended acts (captured sound ∷ []) acts' → Accounts b acts →
    Accounts (record b { tick = Some (length sound) }) acts'
Accounts-silent b r sound acts acts' is tick none can silent told fits =
    Accounts-on b (record b { tick = Some (length sound) }) acts acts' (captured sound ∷ []) fits told (Account-silent b r sound is tick none can silent) refl

pub Accounts-front : (b : BetweenState) (r : Running) (bytes : ℕ) (acts acts' : Option (List ToldAct)) → b.running ≡ Some r → b.tick ≡ None → gives_sound b.shape.kind ≡ true →
    CapturesBy b.shape.kind b.shape b.left bytes → Appended acts (captured (take bytes b.left) ∷ []) acts' → Accounts b acts →
    Accounts (record b { left = drop bytes b.left; tick = Some (length (take bytes b.left)) }) acts'
Accounts-front b r bytes acts acts' is tick sound can told fits =
    Accounts-on b (record b { left = drop bytes b.left; tick = Some (length (take bytes b.left)) }) acts acts' (captured (take bytes b.left) ∷ []) fits told
    (Account-front b r bytes is tick sound can) refl

-- the sound of a tick is emitted

pub Accounts-owed : (b : BetweenState) (r : Running) (sound : List ℕ) (acts acts' : Option (List ToldAct)) → b.running ≡ Some r → b.tick ≡ Some (length sound) →
    b.shape.kind ≡ kind.Speaker → EmitsBy b.shape.kind b.shape b.owed (length sound) → Appended acts (emitted sound ∷ []) acts' → Accounts b acts →
    Accounts (record b { running = Some r; owed = b.owed ++ sound; tick = None }) acts'
Accounts-owed b r sound acts acts' is tick speaker can told fits =
    Accounts-on b (record b { running = Some r; owed = b.owed ++ sound; tick = None }) acts acts' (emitted sound ∷ []) fits told
    (Account-untaken b r r sound (b.owed ++ sound) b.lost is refl tick (λ sounds taken. handed-piece b.shape.kind speaker b.shape sounds taken b.owed sound can) (counts-none b sound (inl speaker)))
    (ap is_some is)

pub Accounts-lost : (b : BetweenState) (r r' : Running) (sound : List ℕ) (acts acts' : Option (List ToldAct)) → b.running ≡ Some r → r'.began ≡ r.began → b.tick ≡ Some (length sound) →
    hands_frames b.shape.kind ≡ true → Appended acts (emitted sound ∷ []) acts' → Accounts b acts →
    Accounts (record b { running = Some r'; tick = None; lost = lost_after b.lost (length sound) b.shape.frame_bytes }) acts'
Accounts-lost b r r' sound acts acts' is began tick card told fits =
    Accounts-on b (record b { running = Some r'; tick = None; lost = lost_after b.lost (length sound) b.shape.frame_bytes }) acts acts' (emitted sound ∷ []) fits told
    (Account-untaken b r r' sound b.owed (lost_after b.lost (length sound) b.shape.frame_bytes) is began tick
    (λ sounds taken. handed-lost b.shape.kind card b.shape sounds taken b.owed sound) (counts-all b sound card)) (ap is_some is)

pub Accounts-unheard : (b : BetweenState) (r : Running) (sound : List ℕ) (acts acts' : Option (List ToldAct)) → b.running ≡ Some r → b.tick ≡ Some (length sound) →
    b.shape.kind ≡ kind.Microphone → Appended acts (emitted sound ∷ []) acts' → Accounts b acts → Accounts (record b { running = Some r; tick = None }) acts'
Accounts-unheard b r sound acts acts' is tick microphone told fits =
    Accounts-on b (record b { running = Some r; tick = None }) acts acts' (emitted sound ∷ []) fits told
    (Account-untaken b r r sound b.owed b.lost is refl tick (λ sounds taken. handed-nothing b.shape.kind microphone b.shape sounds taken b.owed sound) (counts-none b sound (inr microphone)))
    (ap is_some is)

pub Accounts-idles : (b : BetweenState) (sound : List ℕ) (acts acts' : Option (List ToldAct)) → b.running ≡ None → Appended acts (emitted sound ∷ []) acts' → Accounts b acts →
    Accounts (record b { tick = None }) acts'
Accounts-idles b sound acts acts' none told fits =
    Accounts-on b (record b { tick = None }) acts acts' (emitted sound ∷ []) fits told (Account-idles b sound none) refl

-- nothing is taken of a sound
unpassed : (b : BetweenState) (r r' : Running) (answer : Took) (sound owed : List ℕ) (acts mid acts' : Option (List ToldAct)) → b.running ≡ Some r → r'.began ≡ r.began →
    b.tick ≡ Some (length sound) → hands_frames b.shape.kind ≡ true → b.owed ≡ [] → Appended acts (emitted sound ∷ []) mid → (owed ≡ []) × Appended mid (offered sound answer ∷ []) acts' → Accounts b acts →
    Accounts (record b { running = Some r'; owed = owed; tick = None; lost = lost_after b.lost (length sound) b.shape.frame_bytes }) acts'
unpassed b r r' answer sound owed acts mid acts' is began tick card none told same fits =
    let lost = Accounts-lost b r r' sound acts mid is began tick card told fits in
    let lost_now = lost_after b.lost (length sound) b.shape.frame_bytes in
    let after : BetweenState = record b { running = Some r'; tick = None; lost = lost_now } in
    subst (λ x. Accounts (record b { running = Some r'; owed = x; tick = None; lost = lost_now }) acts') (none ∙ sym same.0)
    (Accounts-on after after mid acts' (offered sound answer ∷ []) lost same.1 (λ ledger account. account) refl)

pub Accounts-passed : (b : BetweenState) (r r' : Running) (sound : List ℕ) (result : Took) (owed : List ℕ) (acts mid acts' : Option (List ToldAct)) → b.running ≡ Some r →
    r'.began ≡ r.began → b.tick ≡ Some (length sound) → hands_frames b.shape.kind ≡ true → b.owed ≡ [] → Appended acts (emitted sound ∷ []) mid →
    PassesOn result sound b.shape.frame_bytes owed mid acts' → Accounts b acts →
    Accounts (record b { running = Some r'; owed = owed; tick = None; lost = lost_after b.lost (without_room result (length sound) (length owed)) b.shape.frame_bytes }) acts'
Accounts-passed b r r' sound (takes.Bytes n) owed acts mid acts' is began tick card none told passes fits =
    let rest = take (min passes.rest (length sound - n)) (drop n sound) in
    subst (λ x. Accounts (record b { running = Some r'; owed = x; tick = None; lost = lost_after b.lost (length sound - n - length x) b.shape.frame_bytes }) acts') (sym passes.owes)
    (Accounts-on b (record b { running = Some r'; owed = rest; tick = None; lost = lost_after b.lost (length sound - n - length rest) b.shape.frame_bytes }) acts acts'
    (emitted sound ∷ took_acts (takes.Bytes n) sound) fits (appended_on acts mid acts' (emitted sound ∷ []) (took_acts (takes.Bytes n) sound) told passes.told)
    (Account-passed b r r' sound n passes.rest passes.whole.0 is began tick card none passes.most passes.less passes.whole.1) (ap is_some is))
Accounts-passed b r r' sound takes.NoRoom owed acts mid acts' is began tick card none told passes fits = unpassed b r r' takes.NoRoom sound owed acts mid acts' is began tick card none told passes fits
Accounts-passed b r r' sound takes.Ended owed acts mid acts' is began tick card none told passes fits = unpassed b r r' takes.Ended sound owed acts mid acts' is began tick card none told passes fits

-- The same, if what runs is known only as a choice

pub Accounts-owed-running : (b : BetweenState) (now : Option Running) (sound : List ℕ) (acts acts' : Option (List ToldAct)) → b.running ≡ now → now ≢ None →
    b.tick ≡ Some (length sound) → b.shape.kind ≡ kind.Speaker → EmitsTo now b.shape b.owed (length sound) → Appended acts (emitted sound ∷ []) acts' → Accounts b acts →
    Accounts (record b { owed = b.owed ++ sound; tick = None }) acts'
Accounts-owed-running b None sound acts acts' is runs tick speaker can told fits = absurd (runs refl)
Accounts-owed-running b (Some r) sound acts acts' is runs tick speaker can told fits =
    subst (λ x. Accounts (record b { running = x; owed = b.owed ++ sound; tick = None }) acts') (sym is) (Accounts-owed b r sound acts acts' is tick speaker can told fits)

pub Accounts-nobody : (b : BetweenState) (now : Option Running) (sound : List ℕ) (acts acts' : Option (List ToldAct)) → b.running ≡ now → b.tick ≡ Some (length sound) →
    (now ≡ None) ⊎ (b.shape.kind ≡ kind.Microphone) → Appended acts (emitted sound ∷ []) acts' → Accounts b acts → Accounts (record b { tick = None }) acts'
Accounts-nobody b None sound acts acts' is tick why told fits = Accounts-idles b sound acts acts' is told fits
Accounts-nobody b (Some r) sound acts acts' is tick (inl none) told fits = grind arith
Accounts-nobody b (Some r) sound acts acts' is tick (inr microphone) told fits =
    subst (λ x. Accounts (record b { running = x; tick = None }) acts') (sym is) (Accounts-unheard b r sound acts acts' is tick microphone told fits)

pub Accounts-no-room : (b : BetweenState) (r : Running) (sound : List ℕ) (acts acts' : Option (List ToldAct)) → b.running ≡ Some r → b.tick ≡ Some (length sound) →
    hands_frames b.shape.kind ≡ true → Appended acts (emitted sound ∷ []) acts' → Accounts b acts →
    Accounts (record b { tick = None; lost = lost_after b.lost (length sound) b.shape.frame_bytes }) acts'
Accounts-no-room b r sound acts acts' is tick card told fits =
    subst (λ x. Accounts (record b { running = x; tick = None; lost = lost_after b.lost (length sound) b.shape.frame_bytes }) acts') (sym is)
    (Accounts-lost b r r sound acts acts' is refl tick card told fits)

-- a list of no bytes is empty
pub empty-where : (owed seen : List ℕ) → seen ≡ owed → (length seen == 0) ≡ true → owed ≡ []
empty-where owed [] is none = sym is
empty-where owed (x ∷ seen) is none = grind arith

-- starts and ends

pub Accounts-begun : (b : BetweenState) (at : ℕ) (words : List (List ℕ)) (result : Launched) (starts : Starts) (acts acts' : Option (List ToldAct)) → result ≡ launch.Runs →
    1 ≤ b.shape.frame_bytes → b.running ≡ None → may_come b.starts at ≡ true → starts ≡ begun_once_more b.starts → b.tick ≡ None →
    Appended acts (launched at words result ∷ []) acts' → Accounts b acts → Accounts (record b { running = Some (running_since at); starts = starts }) acts'
Accounts-begun b at words launch.Runs starts acts acts' is some none may begun tick told fits =
    Accounts-on b (record b { running = Some (running_since at); starts = starts }) acts acts' (launched at words launch.Runs ∷ []) fits told
    (Account-begun b at starts some none may begun tick) refl
Accounts-begun b at words launch.Failed starts acts acts' is some none may begun tick told fits = grind arith
Accounts-begun b at words launch.OutOfMemory starts acts acts' is some none may begun tick told fits = grind arith

pub Accounts-not-begun : (b : BetweenState) (at : ℕ) (words : List (List ℕ)) (result : Launched) (starts : Starts) (acts acts' : Option (List ToldAct)) → result ≢ launch.Runs →
    b.running ≡ None → may_come b.starts at ≡ true → starts ≡ after_end (begun_once_more b.starts) at at → Appended acts (launched at words result ∷ []) acts' →
    Accounts b acts → Accounts (record b { starts = starts }) acts'
Accounts-not-begun b at words launch.Runs starts acts acts' not none may failed told fits = absurd (not refl)
Accounts-not-begun b at words launch.Failed starts acts acts' not none may failed told fits =
    Accounts-on b (record b { starts = starts }) acts acts' (launched at words launch.Failed ∷ []) fits told (Account-failed b at starts none may failed) refl
Accounts-not-begun b at words launch.OutOfMemory starts acts acts' not none may failed told fits =
    Accounts-on b (record b { starts = starts }) acts acts' (launched at words launch.OutOfMemory ∷ []) fits told (Account-failed b at starts none may failed) refl

pub Accounts-ended : (b : BetweenState) (r : Running) (at : ℕ) (starts : Starts) (left owed : List ℕ) (acts acts' : Option (List ToldAct)) → b.running ≡ Some r → b.tick ≡ None →
    1 ≤ b.shape.frame_bytes → LeavesLess b.shape.kind b.shape b.left → starts ≡ after_end b.starts r.began at → left ≡ [] → owed ≡ [] → Appended acts (ended at ∷ []) acts' → Accounts b acts →
    Accounts (record b { running = None; left = left; owed = owed; starts = starts }) acts'
Accounts-ended b r at starts left owed acts acts' is tick some less after no-left no-owed told fits =
    subst (λ x. Accounts (record b { running = None; left = x; owed = owed; starts = starts }) acts') (sym no-left)
    (subst (λ x. Accounts (record b { running = None; left = []; owed = x; starts = starts }) acts') (sym no-owed)
    (Accounts-on b (record b { running = None; left = []; owed = []; starts = starts }) acts acts' (ended at ∷ []) fits told
    (Account-ended b r at starts is tick some less after) refl))

-- captures, if what runs is known only as a choice

pub Accounts-silence : (b : BetweenState) (now : Option Running) (sound : List ℕ) (acts acts' : Option (List ToldAct)) → b.running ≡ now → b.tick ≡ None →
    (now ≡ None) ⊎ (gives_sound b.shape.kind ≡ false) → CapturesOf now b.shape b.left (length sound) → IsSilent b.shape.silence sound → Appended acts (captured sound ∷ []) acts' → Accounts b acts →
    Accounts (record b { tick = Some (length sound) }) acts'
Accounts-silence b None sound acts acts' is tick why can silent told fits = Accounts-idle b sound (Some (length sound)) acts acts' is silent told fits
Accounts-silence b (Some r) sound acts acts' is tick (inl none) can silent told fits = grind arith
Accounts-silence b (Some r) sound acts acts' is tick (inr none) can silent told fits = Accounts-silent b r sound acts acts' is tick none can silent told fits

pub Accounts-given-sound : (b : BetweenState) (now : Option Running) (bytes : ℕ) (sound left : List ℕ) (acts acts' : Option (List ToldAct)) → b.running ≡ now → now ≢ None →
    b.tick ≡ None → gives_sound b.shape.kind ≡ true → CapturesOf now b.shape b.left bytes → sound ≡ take bytes b.left → left ≡ drop bytes b.left →
    Appended acts (captured sound ∷ []) acts' → Accounts b acts → Accounts (record b { left = left; tick = Some (length sound) }) acts'
Accounts-given-sound b None bytes sound left acts acts' is runs tick gives can front rest told fits = absurd (runs refl)
Accounts-given-sound b (Some r) bytes sound left acts acts' is runs tick gives can front rest told fits =
    subst (λ x. Accounts (record b { left = x; tick = Some (length sound) }) acts') (sym rest)
    (subst (λ x. Accounts (record b { left = drop bytes b.left; tick = Some (length x) }) acts') (sym front)
    (Accounts-front b r bytes acts acts' is tick gives can (subst (λ x. Appended acts (captured x ∷ []) acts') front told) fits))

-- what the tests mean

whole-where : (width bytes : ℕ) → (bytes % width == 0) ≡ true → IsWhole width bytes
whole-where width bytes none =
    let whole = div-add-mod bytes width in
    let is : bytes % width ≡ 0 = eqb-true (bytes % width) 0 none in
    (bytes / width, grind arith)

captures-where : (k : CardKind) (shape : Shape) (left : List ℕ) (bytes : ℕ) → bytes ≤ length left → IsWhole shape.frame_bytes bytes → CapturesBy k shape left bytes
captures-where kind.Speaker shape left bytes most whole = tt
captures-where kind.Microphone shape left bytes most whole = (most, whole)
captures-where kind.Card shape left bytes most whole = (most, whole)
captures-where kind.Encoder shape left bytes most whole = whole

captures-of : (running : Option Running) (shape : Shape) (left : List ℕ) (bytes : ℕ) → bytes ≤ length left → IsWhole shape.frame_bytes bytes → CapturesOf running shape left bytes
captures-of None shape left bytes most whole = tt
captures-of (Some running) shape left bytes most whole = captures-where shape.kind shape left bytes most whole

-- whole frames that the program gave may be captured
pub can-capture : (b : BetweenState) (bytes : ℕ) → b.tick ≡ None → bytes ≤ length b.left → (bytes % b.shape.frame_bytes == 0) ≡ true → CanCapture b bytes
can-capture b bytes tick most whole = (tick, captures-of b.running b.shape b.left bytes most (whole-where b.shape.frame_bytes bytes whole))

-- whole frames of silence may be captured, if the program gives no sound

silence-where : (k : CardKind) (shape : Shape) (left : List ℕ) (bytes : ℕ) → gives_sound k ≡ false → IsWhole shape.frame_bytes bytes → CapturesBy k shape left bytes
silence-where kind.Speaker shape left bytes gives whole = tt
silence-where kind.Microphone shape left bytes gives whole = grind arith
silence-where kind.Card shape left bytes gives whole = grind arith
silence-where kind.Encoder shape left bytes gives whole = whole

silence-of : (running : Option Running) (shape : Shape) (left : List ℕ) (bytes : ℕ) → gives_sound shape.kind ≡ false → IsWhole shape.frame_bytes bytes → CapturesOf running shape left bytes
silence-of None shape left bytes gives whole = tt
silence-of (Some running) shape left bytes gives whole = silence-where shape.kind shape left bytes gives whole

pub can-capture-silence : (b : BetweenState) (bytes : ℕ) → b.tick ≡ None → gives_sound b.shape.kind ≡ false → (bytes % b.shape.frame_bytes == 0) ≡ true → CanCapture b bytes
can-capture-silence b bytes tick gives whole = (tick, silence-of b.running b.shape b.left bytes gives (whole-where b.shape.frame_bytes bytes whole))

pub none-where : {A : Type 0} (x : Option A) → is_some x ≡ false → x ≡ None
none-where None none = refl
none-where (Some y) none = grind arith
