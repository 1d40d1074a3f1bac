-- What is accepted after a sound was handed out does not change it.
use Rattle.std.proofs.Common.{◌≡◌, ℕ, zero, suc, ◌+◌, ◌*◌, ◌/◌, ◌%◌, ◌≤◌, ◌<◌, ◌⊎◌, inl, inr, Bool, true, false, List, [], ◌∷◌, ◌++◌, slice_get, refl, sym, ap, ◌∙◌, subst, arith, append_assoc, IfSome, IsSomeAnd}
use Rattle.std.proofs.lemmas.List.Elements.{All-weaker}
use Rattle.std.proofs.Math.Nat.{div-lt_iff_lt-mul, mul_comm}
use Rattle.std.specs.declared.option.Option.TheVariants.{None, Some}
use Rattle.af_sample.specs.Heard.{AcceptedPlay, heard_sample, heard_from}
use Rattle.af_sample.specs.Samples.{bytes_of}
use Rattle.af_sample.proofs.HeardLemmas.{heard_sample-append}
use Rattle.af_world.specs.declared.happening.Happening.{Happening}
use Rattle.af_world.specs.declared.happening.Happening.TheVariants.{Woke, Captured, Emitted}
use Rattle.af_world.specs.declared.happening.Wake.{Wake}
use Rattle.af_world.specs.declared.happening.Wake.TheVariants.{Ticked}
use Rattle.af_world.specs.declared.script.DeviceSpec.{DeviceSpec}
use Rattle.af_world.specs.Log.{Log}
use Rattle.af_model.specs.State.{State, opening_state}
use Rattle.af_model.specs.Controls.{through_output_control}
use Rattle.af_model.specs.Turn.{turn}
use Rattle.af_model.specs.Run.{end_by, end_state, then_end, wakes}
use Rattle.af_model.specs.Fold.{IsMixOfAll, MixesAll}
use Rattle.af_model.proofs.BoolTestLemmas.{both-true, none_some, some_is}
use Rattle.af_model.proofs.ListLemmas.{map-range_alike}
use Rattle.af_model.proofs.DeviceHistoryLemmas.{AtLeast, Laters, laters}
use Rattle.af_model.proofs.RunLemmas.{run_inv, wakes-append, wakes-append-none}
use Rattle.af_model.proofs.ServeLemmas.{inner, inner-append, is_inner}
use Rattle.af_model.proofs.WakeLemmas.{HandedOut, Hands, Turned, later_handed, turned}

-- Later entries

-- the frame of a place among those of n frames
frame_within : (channels n j : ℕ) → j < channels * n → j / channels < n
frame_within zero n j low = absurd (omega (arith, low))
frame_within (suc more) n j low = (div-lt_iff_lt-mul {k = suc more} {x = j} {y = n} (omega arith)).1 (subst (λ m. j < m) (mul_comm (suc more) n) low)

heard_range : (channels : ℕ) (accepted more : List AcceptedPlay) (u t n : ℕ) → t + n ≤ u → AtLeast u more → heard_from channels (accepted ++ more) t n ≡ heard_from channels accepted t n
heard_range channels accepted more u t n le ats =
    map-range_alike (λ j. heard_sample channels (accepted ++ more) (t + j / channels) (j % channels)) (λ j. heard_sample channels accepted (t + j / channels) (j % channels)) 0 (channels * n)
    (λ j from to.
    let frame : j / channels < n = frame_within channels n j (omega (arith, to)) in
    heard_sample-append channels accepted more (t + j / channels) (j % channels)
    (All-weaker (λ (e : AcceptedPlay). u ≤ e.at) (λ (e : AcceptedPlay). t + j / channels < e.at) (λ e h. omega (arith, h, le, frame)) more ats))

-- what was handed out is the mix of all that was accepted since
handed_mixes : (s : State) (d frames : ℕ) (sent : List ℕ) (e : State) (o : HandedOut s d frames sent e) → sent ≡ bytes_of o.device.ty (through_output_control o.device.controls (heard_from o.device.channels o.last.accepted o.device.now frames))
handed_mixes s d frames sent e o =
    let l = o.becomes in
    let past : o.device.now + frames ≤ o.after.now = o.past in
    let same : o.last.accepted ≡ o.device.accepted ++ l.more = l.accepted ∙ ap (λ a. a ++ l.more) o.accepted in
    o.same ∙ ap (λ x. bytes_of o.device.ty (through_output_control o.device.controls x))
    (sym (ap (λ a. heard_from o.device.channels a o.device.now frames) same ∙ heard_range o.device.channels o.device.accepted l.more o.after.now o.device.now frames past l.ats))

-- over a run devices become later
run_later : (n : ℕ) (s : State) (log : Log) (e : State) → end_by n s log ≡ Some e → Laters s.devices e.devices
run_later zero s [] e r = subst (λ (x : State). Laters s.devices x.devices) (some_is r) (laters.stay s.devices)
run_later zero s (h ∷ log) e r = absurd (none_some r)
run_later (suc n) s log e r =
    let i = run_inv (turn s log) (end_by n) e r in
    let a = turned s log i.0 i.1 in
    laters.follow s.devices i.0.state.devices e.devices a.holds.goes.devices (run_later n i.0.state i.0.log e i.2)

-- The place of an emit

inner_wakes : (log : Log) → inner log ≡ true → wakes log ≡ 0
inner_wakes [] e = refl
inner_wakes (Woke w ∷ log) e = absurd cc
inner_wakes (Emitted d out done ∷ log) e = absurd cc
inner_wakes (h ∷ log) e = inner_wakes log e

-- an emit comes after a part
record Past (part log front : Log) (emit : Happening) (rest : Log) : Type 0 where
  after : Log
  is : front ≡ part ++ after
  log_is : log ≡ after ++ emit ∷ rest

past_inner : (part log front : Log) (emit : Happening) (rest : Log) → is_inner emit ≡ false → inner part ≡ true → part ++ log ≡ front ++ emit ∷ rest → Past part log front emit rest
past_inner [] log front emit rest out inside e = record { after = front; is = refl; log_is = e }
past_inner (x ∷ part) log [] emit rest out inside e =
    let same : x ≡ emit = cc in
    let first : is_inner x ≡ true = (both-true (is_inner x) (inner part) inside).0 in
    absurd (clash (is_inner x) first (ap is_inner same ∙ out))
  where
    clash : (b : Bool) → b ≡ true → b ≡ false → ⊥
    clash true e f = cc
    clash false e f = cc
past_inner (x ∷ part) log (y ∷ front) emit rest out inside e =
    let same : x ≡ y = cc in
    let tails : part ++ log ≡ front ++ emit ∷ rest = cc in
    let p = past_inner part log front emit rest out (both-true (is_inner x) (inner part) inside).1 tails in
    record { after = p.after; is = ap (λ h. h ∷ front) (sym same) ∙ ap (λ l. x ∷ l) p.is; log_is = p.log_is }

-- an emit of a turn
record InTurn (s t : State) (front : Log) (d : ℕ) (sent : List ℕ) : Type 0 where
  frames : ℕ
  captured : List ℕ
  is : front ≡ Woke (Ticked d frames) ∷ Captured d frames (Some captured) ∷ []
  out : HandedOut s d frames sent t

module _ (s t : State) (log rest : Log) (d : ℕ) (sent : List ℕ) (done : Bool) where
  abbrev emit : Happening
  emit = Emitted d sent done

  -- after what was handed out
  past_hands : (w : Wake) (first second front : Log) → Hands s w first t → inner second ≡ true → (first ++ second) ++ log ≡ front ++ emit ∷ rest → Past (Woke w ∷ (first ++ second)) log (Woke w ∷ front) emit rest ⊎ InTurn s t (Woke w ∷ front) d sent
  past_hands w first second [] h inside e = absurd (no_capture (sym (ap (λ l. (l ++ second) ++ log) h.0.is) ∙ e))
    where
      no_capture : Captured h.0.d h.0.frames (Some h.0.captured) ∷ Emitted h.0.d h.0.sent h.0.done ∷ (second ++ log) ≡ emit ∷ rest → ⊥
      no_capture e = cc
  past_hands w first second (x ∷ []) h inside e =
      let all : Captured h.0.d h.0.frames (Some h.0.captured) ∷ Emitted h.0.d h.0.sent h.0.done ∷ (second ++ log) ≡ x ∷ emit ∷ rest = sym (ap (λ l. (l ++ second) ++ log) h.0.is) ∙ e in
      let capture : x ≡ Captured h.0.d h.0.frames (Some h.0.captured) = cc in
      let device : h.0.d ≡ d = cc in
      let same : h.0.sent ≡ sent = cc in
      inr (record {
        frames = h.0.frames;
        captured = h.0.captured;
        is = ap (λ w. Woke w ∷ x ∷ []) h.0.wake ∙ ap (λ y. Woke (Ticked h.0.d h.0.frames) ∷ y ∷ []) capture ∙ ap (λ n. Woke (Ticked n h.0.frames) ∷ Captured n h.0.frames (Some h.0.captured) ∷ []) device;
        out = subst (λ n. HandedOut s n h.0.frames sent t) device (subst (λ x. HandedOut s h.0.d h.0.frames x t) same h.1);
      })
  past_hands w first second (x ∷ y ∷ front) h inside e =
      let all : Captured h.0.d h.0.frames (Some h.0.captured) ∷ Emitted h.0.d h.0.sent h.0.done ∷ (second ++ log) ≡ x ∷ y ∷ (front ++ emit ∷ rest) = sym (ap (λ l. (l ++ second) ++ log) h.0.is) ∙ e in
      let capture : x ≡ Captured h.0.d h.0.frames (Some h.0.captured) = cc in
      let sound : y ≡ Emitted h.0.d h.0.sent h.0.done = cc in
      let tails : second ++ log ≡ front ++ emit ∷ rest = cc in
      let p = past_inner second log front emit rest refl inside tails in
      inl (record {
        after = p.after;
        is = ap (λ l. Woke w ∷ l) (ap (λ z. z ∷ y ∷ front) capture ∙ ap (λ z. Captured h.0.d h.0.frames (Some h.0.captured) ∷ z ∷ front) sound ∙ ap (λ l. Captured h.0.d h.0.frames (Some h.0.captured) ∷ Emitted h.0.d h.0.sent h.0.done ∷ l) p.is
            ∙ sym (ap (λ l. (l ++ second) ++ p.after) h.0.is));
        log_is = p.log_is;
      })

  past_turn : (front : Log) (w : Wake) (first second : Log) → (inner first ≡ true) ⊎ Hands s w first t → inner second ≡ true → (Woke w ∷ (first ++ second)) ++ log ≡ front ++ emit ∷ rest → Past (Woke w ∷ (first ++ second)) log front emit rest ⊎ InTurn s t front d sent
  past_turn [] w first second h inside e = absurd cc
  past_turn (x ∷ front) w first second (inl none) inside e =
      let wake : x ≡ Woke w = cc in
      let tails : (first ++ second) ++ log ≡ front ++ emit ∷ rest = cc in
      let p = past_inner (first ++ second) log front emit rest refl (inner-append first second none inside) tails in
      inl (record { after = p.after; is = ap (λ z. z ∷ front) wake ∙ ap (λ l. Woke w ∷ l) p.is; log_is = p.log_is })
  past_turn (x ∷ front) w first second (inr h) inside e =
      let wake : x ≡ Woke w = cc in
      let tails : (first ++ second) ++ log ≡ front ++ emit ∷ rest = cc in
      subst (λ z. Past (Woke w ∷ (first ++ second)) log (z ∷ front) emit rest ⊎ InTurn s t (z ∷ front) d sent) (sym wake) (past_hands w first second front h inside tails)

-- The place of an emit in a run
record Found (s e : State) (front : Log) (d : ℕ) (sent : List ℕ) : Type 0 where
  before : Log
  mid : State
  to : end_by (wakes before) s before ≡ Some mid
  frames : ℕ
  captured : List ℕ
  is : front ≡ before ++ Woke (Ticked d frames) ∷ Captured d frames (Some captured) ∷ []
  out : HandedOut mid d frames sent e

first_wakes : (s t : State) (w : Wake) (first : Log) → (inner first ≡ true) ⊎ Hands s w first t → wakes first ≡ 0
first_wakes s t w first (inl none) = inner_wakes first none
first_wakes s t w first (inr h) = ap wakes h.0.is

one_wake : (s t : State) (part : Log) → Turned s part t → wakes part ≡ 1
one_wake s t part h = ap wakes h.is ∙ ap suc (wakes-append-none h.first h.second (first_wakes s t h.wake h.first h.emits) (inner_wakes h.second h.inside))

found_by : (n : ℕ) (s e : State) (log front rest : Log) (d : ℕ) (sent : List ℕ) (done : Bool) → end_by n s log ≡ Some e → log ≡ front ++ Emitted d sent done ∷ rest → Found s e front d sent
found_by zero s e [] [] rest d sent done r is = absurd cc
found_by zero s e [] (x ∷ front) rest d sent done r is = absurd cc
found_by zero s e (h ∷ log) front rest d sent done r is = absurd (none_some r)
found_by (suc n) s e log front rest d sent done r is =
    let i = run_inv (turn s log) (end_by n) e r in
    let b = i.0 in
    let a = turned s log b i.1 in
    let h = a.holds in
    let whole : (Woke h.wake ∷ (h.first ++ h.second)) ++ b.log ≡ front ++ Emitted d sent done ∷ rest = sym (ap (λ l. l ++ b.log) h.is) ∙ sym a.whole ∙ is in
    elim (past_turn s b.state b.log rest d sent done front h.wake h.first h.second h.emits h.inside whole) [
      | inl p ↦
          let f = found_by n b.state e b.log p.after rest d sent done i.2 p.log_is in
          let one = one_wake s b.state a.part h in
          let count : wakes (a.part ++ f.before) ≡ suc (wakes f.before) = wakes-append a.part f.before ∙ ap (λ m. m + wakes f.before) one ∙ omega arith in
          record {
            before = a.part ++ f.before;
            mid = f.mid;
            to = ap (λ m. end_by m s (a.part ++ f.before)) count ∙ ap (λ x. then_end x (end_by (wakes f.before))) (a.again f.before) ∙ f.to;
            frames = f.frames;
            captured = f.captured;
            is = p.is ∙ ap (λ l. l ++ p.after) (sym h.is) ∙ ap (λ l. a.part ++ l) f.is ∙ sym (append_assoc a.part f.before (Woke (Ticked d f.frames) ∷ Captured d f.frames (Some f.captured) ∷ []));
            out = f.out;
          }
      | inr t ↦ record {
        before = [];
        mid = s;
        to = refl;
        frames = t.frames;
        captured = t.captured;
        is = t.is;
        out = later_handed s b.state e d t.frames sent (run_later n b.state b.log e i.2) t.out;
      }
    ]

pub mixes_all : (config : List DeviceSpec) (log : Log) → MixesAll config log
unfolding end_state
mixes_all config log =
    elim (end_by (wakes log) (opening_state config) log) as (λ o. end_by (wakes log) (opening_state config) log ≡ o → IfSome o (λ end. (front rest : Log) (d : ℕ) (sent : List ℕ) (done : Bool) → log ≡ front ++ Emitted d sent done ∷ rest → IsMixOfAll config front d sent end)) [
      | None ↦ λ r. tt
      | Some e ↦ λ r front rest d sent done is.
          let f = found_by (wakes log) (opening_state config) e log front rest d sent done r is in
          record {
            before = f.before;
            frames = f.frames;
            captured = f.captured;
            is = f.is;
            device = f.out.device;
            stood = subst (λ o. IsSomeAnd o (λ s. slice_get s.devices d ≡ Some f.out.device)) (sym f.to) f.out.there;
            last = f.out.last;
            stands = f.out.stands;
            mixes = handed_mixes f.mid d f.frames sent e f.out;
          }
    ] refl
