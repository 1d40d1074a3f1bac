-- What leaves a device of the plays that a client sends.
use Rattle.std.proofs.Common.{◌≡◌, ◌≤◌, ◌<◌, ◌⊎◌, inl, inr, ℕ, zero, suc, ◌+◌, ◌-◌, ◌*◌, ◌/◌, ◌%◌, ◌^◌, Bool, true, false, ℤ, pos, List, [], ◌∷◌, ◌++◌, length, drop, map, get_or, slice_get, slice_index_or, refl, sym, ap, ◌∙◌, subst, append_assoc, append-nil, arith, IfSome}
use Rattle.std.proofs.Math.Nat.{mul-div-le}
use Rattle.std.proofs.lemmas.List.{get_or-map, length-map}
use Rattle.std.proofs.lemmas.List.Elements.{All-head, All-tail, All-weaker}
use Rattle.std.proofs.lemmas.List.FromFn.{get_or-map-range_with_len, length-map-range_with_len}
use Rattle.std.specs.List.{All, range_with_len}
use Rattle.std.specs.declared.option.Option.TheVariants.{None, Some}
use Rattle.af_time.specs.DeviceTime.{unwrap}
use Rattle.af_time.proofs.WholeTimeLemmas.{meant_unwrap}
use Rattle.af_sample.specs.Rates.{IsListedRate}
use Rattle.af_sample.specs.Channels.{frame_count}
use Rattle.af_sample.specs.Gains.{gained}
use Rattle.af_sample.specs.Samples.{bytes_of, samples}
use Rattle.af_sample.specs.Heard.{AcceptedPlay, heard_from, heard_sample, sound_with_sample}
use Rattle.af_sample.proofs.FrameLemmas.{channel_at, frame_at, place_before}
use Rattle.af_sample.proofs.SinglePlayLemmas.{blended_with_silence, covers_its, heard_alone}
use Rattle.af_wire.specs.declared.order.Order.{Order}
use Rattle.af_wire.specs.Begins.{BeginsWith}
use Rattle.af_request.specs.Asked.{Asked}
use Rattle.af_request.specs.Requests.{asked_in, IsWritable}
use Rattle.af_request.proofs.RequestRoundTrips.{request_again}
use Rattle.af_world.specs.declared.happening.Happening.TheVariants.{Emitted, Woke}
use Rattle.af_world.specs.declared.happening.Wake.{Wake}
use Rattle.af_world.specs.declared.script.DeviceSpec.{DeviceSpec}
use Rattle.af_world.specs.Log.{Log}
use Rattle.af_model.specs.State.{DeviceState, LinkState, State, opening_state, slot_at}
use Rattle.af_model.specs.Controls.{through_control, through_output_control}
use Rattle.af_model.specs.Fold.{IsMixOfAll}
use Rattle.af_model.specs.Play.{sent_sound}
use Rattle.af_model.specs.Perform.{channels_at}
use Rattle.af_model.specs.Turn.{IsTurn, turn}
use Rattle.af_model.specs.Run.{end_by, end_state, then_end, wakes}
use Rattle.af_model.proofs.BoolTestLemmas.{none_some, some_is}
use Rattle.af_model.proofs.FoldLawLemmas.{mixes_all}
use Rattle.af_model.proofs.RunLemmas.{run_inv, wakes-append, wakes-append-none}
use Rattle.af_model.proofs.ServeLemmas.{inner}
use Rattle.af_model.proofs.WakeLemmas.{Hands, turned}
use Rattle.af_end_to_end.specs.Sent.{client_bytes, spelled}
use Rattle.af_end_to_end.specs.Performing.{AreAsked, AreTaken, Takes, own_waiting}
use Rattle.af_end_to_end.specs.Playing.{AreTurns, IsAccepted, IsDeferred, IsTakenUpBy, PlayedAt, StaysOpen, Turn, end_of, given_in, plays_in, requests_of}
use Rattle.af_end_to_end.specs.Sounding.{HasSamplesOf, IsAlone, IsEmitOf, IsHeard, IsHeardInRun, IsInTime, IsNew, IsSounded, log_of, sample_at}
use Rattle.af_end_to_end.proofs.ReadingLemmas.{first_frame, its_setup, none_first}
use Rattle.af_end_to_end.proofs.PlayingLemmas.{late_run, plays_on, safe_run}

-- The log of turns

inner_wakes : (log : Log) → inner log ≡ true → wakes log ≡ 0
inner_wakes [] e = refl
inner_wakes (Woke w ∷ log) e = absurd cc
inner_wakes (Emitted d out done ∷ log) e = absurd cc
inner_wakes (h ∷ log) e = inner_wakes log e

turn_wakes : (s : State) (part : Log) (t : State) → IsTurn s part t → wakes part ≡ 1
turn_wakes s part t is =
    let a = turned s (part ++ []) (record { state = t; log = [] }) (is []) in
    let same : part ≡ a.part = sym (append-nil part) ∙ a.whole ∙ append-nil a.part in
    ap wakes (same ∙ a.holds.is) ∙ ap suc (wakes-append-none a.holds.first a.holds.second (first a.holds.wake a.holds.first a.holds.emits) (inner_wakes a.holds.second a.holds.inside))
  where
    first : (w : Wake) (p : Log) → (inner p ≡ true) ⊎ Hands s w p t → wakes p ≡ 0
    first w p (inl none) = inner_wakes p none
    first w p (inr h) = ap wakes h.0.is

turns_wakes : (turns : List Turn) (s : State) → AreTurns s turns → wakes (log_of turns) ≡ length turns
turns_wakes [] s are = refl
turns_wakes (turn ∷ more) s are =
    let one = turn_wakes s turn.part turn.after are.0 in
    let rest = turns_wakes more turn.after are.1 in
    wakes-append turn.part (log_of more) ∙ omega (arith, one, rest)

turns_end : (turns : List Turn) (s : State) → AreTurns s turns → end_by (length turns) s (log_of turns) ≡ Some (end_of s turns)
turns_end [] s are = refl
turns_end (turn ∷ more) s are = ap (λ x. then_end x (end_by (length more))) (are.0 (log_of more)) ∙ turns_end more turn.after are.1

-- a run goes on
run_on : (n m sum : ℕ) (s : State) (log more : Log) (mid : State) → sum ≡ n + m → end_by n s log ≡ Some mid → end_by sum s (log ++ more) ≡ end_by m mid more
run_on zero m sum s [] more mid is r = ap (λ k. end_by k s more) (omega (arith, is)) ∙ ap (λ t. end_by m t more) (some_is r)
run_on zero m sum s (h ∷ log) more mid is r = absurd (none_some r)
run_on (suc n) m sum s log more mid is r =
    let i = run_inv (turn s log) (end_by n) mid r in
    let a = turned s log i.0 i.1 in
    let next : turn s (log ++ more) ≡ Some (record { state = i.0.state; log = i.0.log ++ more }) = ap (λ l. turn s (l ++ more)) a.whole ∙ ap (turn s) (append_assoc a.part i.0.log more) ∙ a.again (i.0.log ++ more) in
    let size : sum ≡ suc (n + m) = omega (arith, is) in
    ap (λ k. end_by k s (log ++ more)) size ∙ ap (λ x. then_end x (end_by (n + m))) next ∙ run_on n m (n + m) i.0.state i.0.log more mid refl i.2

pub run_with : (config : List DeviceSpec) (log : Log) (s : State) (turns : List Turn) → end_state config log ≡ Some s → AreTurns s turns → end_state config (log ++ log_of turns) ≡ Some (end_of s turns)
unfolding end_state
run_with config log s turns r are =
    let count : wakes (log ++ log_of turns) ≡ wakes log + length turns = wakes-append log (log_of turns) ∙ ap (λ n. wakes log + n) (turns_wakes turns s are) in
    run_on (wakes log) (length turns) (wakes (log ++ log_of turns)) (opening_state config) log (log_of turns) s count r ∙ turns_end turns s are

-- What is read

pub record AskedSo (order : Order) (requests asked : List Asked) : Type 0 where
  pub more : List Asked
  pub in_order : requests ≡ asked ++ more

asked_so : (order : Order) (asked requests : List Asked) (bytes more rest : List ℕ) → All IsWritable requests → bytes ++ more ≡ spelled order requests → AreAsked order asked bytes rest → AskedSo order requests asked
asked_so order [] requests bytes more rest fit same h = record { more = requests; in_order = refl }
asked_so order (b ∷ asked) [] bytes more rest fit same h = none_first order bytes more h.0 same h.1
asked_so order (b ∷ asked) (a ∷ requests) bytes more rest fit same h =
    let fits = All-head IsWritable a requests fit in
    let f = first_frame order a (spelled order requests) bytes more h.0 fits same h.1 in
    let one : a ≡ b = some_is (sym (request_again order a fits) ∙ ap (asked_in order) (sym f.is) ∙ h.2) in
    let r = asked_so order asked requests (drop h.0 bytes) more rest (All-tail IsWritable a requests fit) f.left h.3 in
    record { more = r.more; in_order = ap (λ l. a ∷ l) r.in_order ∙ ap (λ x. x ∷ (asked ++ r.more)) one }

taken_so : (set : Bool) (before after order : Order) (asked requests : List Asked) (bytes more rest : List ℕ) → All IsWritable requests → bytes ++ more ≡ client_bytes order requests → AreTaken false set before after asked bytes rest → AskedSo order requests asked
taken_so false before after order asked requests bytes more rest fit same h = record { more = requests; in_order = ap (λ l. l ++ requests) (sym h.0) }
taken_so true before after order asked requests bytes more rest fit same h =
    let s = its_setup order after requests bytes more same h.0 in
    asked_so order asked requests (drop 8 bytes) more rest fit s.left (subst (λ o. AreAsked o asked (drop 8 bytes) rest) s.same h.1)

pub new_takes : (l end : LinkState) (order : Order) (asked requests : List Asked) (given : List ℕ) → IsNew l → All IsWritable requests → BeginsWith given (client_bytes order requests) → Takes l given asked end → AskedSo order requests asked
new_takes l end order asked requests given new fit begins h =
    taken_so end.is_set_up l.order end.order order asked requests given begins.rest end.rest fit (sym begins.is)
    (subst (λ x. AreTaken false end.is_set_up l.order end.order asked (x ++ given) end.rest) new.unread (subst (λ b. AreTaken b end.is_set_up l.order end.order asked (l.rest ++ given) end.rest) new.unset h))

-- An entry in what leaves the device

-- a sample of an entry is in its list
in_list : (channels count frame channel : ℕ) → frame < count / channels → channel < channels → channels * frame + channel < count
in_list channels count frame channel low few =
    let before : channels * frame + channel < channels * (count / channels) = place_before channels frame (count / channels) channel low few in
    let most : channels * (count / channels) ≤ count = mul-div-le count channels in
    omega (arith, before, most)

-- samples under a gain over silence are these
over_silence : (preempt : Bool) (gain : ℤ) (xs : List ℤ) (i : ℕ) → i < length xs → sound_with_sample preempt (pos 0) (slice_index_or (map (λ x. gained x gain) xs) i (pos 0)) ≡ slice_index_or (map (λ x. gained x gain) xs) i (pos 0)
over_silence preempt gain xs i low =
    let e : slice_index_or (map (λ x. gained x gain) xs) i (pos 0) ≡ gained (get_or xs i (pos 0)) gain = get_or-map (λ x. gained x gain) xs i (pos 0) (pos 0) low in
    ap (sound_with_sample preempt (pos 0)) e ∙ blended_with_silence preempt (get_or xs i (pos 0)) gain ∙ sym e

-- In samples that leave a device, what is heard at a time is at its place.
pub emitted_at : (device : DeviceState) (accepted : List AcceptedPlay) (frames t channel : ℕ) → channel < device.channels → device.now ≤ t → t < device.now + frames →
    sample_at device.channels (through_output_control device.controls (heard_from device.channels accepted device.now frames)) (t - device.now) channel
    ≡ through_control device.controls.output_on device.controls.output_gain (heard_sample device.channels accepted t channel)
emitted_at device accepted frames t channel few from to =
    let n = device.channels in
    let i = n * (t - device.now) + channel in
    let f : ℕ → ℤ = λ j. heard_sample n accepted (device.now + j / n) (j % n) in
    let through : ℤ → ℤ = through_control device.controls.output_on device.controls.output_gain in
    let within : i < n * frames = place_before n (t - device.now) frames channel (omega (arith, from, to)) few in
    let long : length (map f (range_with_len 0 (n * frames))) ≡ n * frames = length-map-range_with_len f 0 (n * frames) in
    let when : device.now + i / n ≡ t = ap (λ m. device.now + m) (frame_at n (t - device.now) channel few) ∙ omega (arith, from) in
    get_or-map through (map f (range_with_len 0 (n * frames))) i (pos 0) (pos 0) (omega (arith, within, long))
    ∙ ap through (get_or-map-range_with_len f 0 (n * frames) i i (pos 0) within (omega arith)
    ∙ ap (λ m. heard_sample n accepted m (i % n)) when ∙ ap (heard_sample n accepted t) (channel_at n (t - device.now) channel few))

module _ (device : DeviceState) (accepted : List AcceptedPlay) (frames place : ℕ) (entry : AcceptedPlay) (gain : ℤ) (xs : List ℤ) (its : entry.samples ≡ map (λ x. gained x gain) xs) (there : slice_get accepted place ≡ Some entry) (in_time : entry.at ≤ entry.start) where
  abbrev n : ℕ
  n = device.channels

  heard_of : (frame channel : ℕ) → frame < frame_count n entry.samples → channel < n → IsAlone n accepted place (entry.start + frame) → heard_sample n accepted (entry.start + frame) channel ≡ sample_at n entry.samples frame channel
  heard_of frame channel low few alone =
      let t = entry.start + frame in
      let size : length entry.samples ≡ length xs = ap length its ∙ length-map xs (λ x. gained x gain) in
      let within : n * frame + channel < length xs = subst (λ m. n * frame + channel < m) size (in_list n (length entry.samples) frame channel low few) in
      let at : t - entry.start ≡ frame = omega arith in
      heard_alone n accepted t channel place entry there (covers_its n entry t in_time (omega arith) (omega (arith, low))) alone
      ∙ ap (λ m. sound_with_sample entry.preempt (pos 0) (slice_index_or entry.samples (n * m + channel) (pos 0))) at
      ∙ ap (λ l. sound_with_sample entry.preempt (pos 0) (slice_index_or l (n * frame + channel) (pos 0))) its
      ∙ over_silence entry.preempt gain xs (n * frame + channel) within
      ∙ ap (λ l. slice_index_or l (n * frame + channel) (pos 0)) (sym its)

  -- in what the device emits, the samples are at their place
  entry_sounds : HasSamplesOf device frames (through_output_control device.controls (heard_from n accepted device.now frames)) accepted place entry
  entry_sounds frame channel low few from to alone =
      emitted_at device accepted frames (entry.start + frame) channel few from to
      ∙ ap (through_control device.controls.output_on device.controls.output_gain) (heard_of frame channel low few alone)

-- A play in a run

emit_of : (config : List DeviceSpec) (log front rest : Log) (d : ℕ) (sent : List ℕ) (done : Bool) (end : State) (device : DeviceState) (place : ℕ) (entry : AcceptedPlay) (gain : ℤ) (xs : List ℤ) → end_state config log ≡ Some end → log ≡ front ++ Emitted d sent done ∷ rest →
    slice_get end.devices d ≡ Some device → entry.samples ≡ map (λ x. gained x gain) xs → slice_get device.accepted place ≡ Some entry → entry.at ≤ entry.start → IsEmitOf place entry device.accepted sent
emit_of config log front rest d sent done end device place entry gain xs r is there its found in_time =
    let all : (front rest : Log) (d : ℕ) (sent : List ℕ) (done : Bool) → log ≡ front ++ Emitted d sent done ∷ rest → IsMixOfAll config front d sent end =
    subst (λ o. IfSome o (λ end. (front rest : Log) (d : ℕ) (sent : List ℕ) (done : Bool) → log ≡ front ++ Emitted d sent done ∷ rest → IsMixOfAll config front d sent end)) r (mixes_all config log) in
    let m = all front rest d sent done is in
    let same : m.last ≡ device = some_is (sym m.stands ∙ there) in
    record {
      device = m.device;
      frames = m.frames;
      samples = through_output_control m.device.controls (heard_from m.device.channels device.accepted m.device.now m.frames);
      bytes = m.mixes ∙ ap (λ (x : DeviceState). bytes_of m.device.ty (through_output_control m.device.controls (heard_from m.device.channels x.accepted m.device.now m.frames))) same;
      has = entry_sounds m.device device.accepted m.frames place entry gain xs its found in_time;
    }

sounded : (config : List DeviceSpec) (log : Log) (k : ℕ) (end : State) (x : PlayedAt) (whole : ℕ) → end_state config log ≡ Some end → own_waiting k end.waiting ≡ [] → IsTakenUpBy k end x → IsInTime x whole → IsSounded log end x whole
sounded config log k end x whole r none h t = by h.taken_up
  where
    same : h.then_device ≡ t.device
    same = some_is (sym h.was_there ∙ t.was_there)

    start : whole ≡ unwrap h.then_device.now x.sent.time
    start =
        let early : h.then_device.now ≤ whole = subst (λ (d : DeviceState). d.now ≤ whole) (sym same) t.by_start in
        let late : whole < h.then_device.now + 2 ^ 31 = subst (λ (d : DeviceState). whole < d.now + 2 ^ 31) (sym same) t.near in
        meant_unwrap h.then_device.now x.sent.time whole h.since_begin (record { word = t.word; early = omega (arith, early); late = late })

    accepted_by : (a : IsAccepted h.then_device.now h.device x.sent) → (a.at ≡ h.then_device.now) ⊎ (a.at ≤ unwrap h.then_device.now x.sent.time) → a.at ≤ whole
    accepted_by a (inl now) = let early : h.then_device.now ≤ whole = subst (λ (d : DeviceState). d.now ≤ whole) (sym same) t.by_start in omega (arith, now, early)
    accepted_by a (inr early) = omega (arith, early, start)

    by : IsAccepted h.then_device.now h.device x.sent ⊎ IsDeferred k h.then_device.now end x.sent → IsSounded log end x whole
    by (inl a) =
        let early = accepted_by a a.by_start in
        let entry : AcceptedPlay = record { start = unwrap h.then_device.now x.sent.time; samples = sent_sound x.sent.context x.sent.bytes; preempt = x.sent.context.preempt; at = a.at } in
        record {
          device = h.device;
          is_there = h.is_there;
          place = a.place;
          entry = entry;
          is_accepted = a.is;
          is_its = record { start = sym start; samples = refl; preempt = refl; in_time = early };
          emits = λ front rest sent done is.
              emit_of config log front rest x.sent.context.device sent done end h.device a.place entry x.sent.context.play_gain (samples x.sent.context.ty x.sent.bytes) r is h.is_there refl a.is (omega (arith, early, start));
        }
    by (inr w) = absurd (none_some (ap (λ l. slice_get l w.0) (sym none) ∙ w.2))

pub is_heard : (config : List DeviceSpec) (log : Log) (s : State) → All (λ c. IsListedRate c.rate) config → end_state config log ≡ Some s → (k : ℕ) (l : LinkState) (turns : List Turn) → (slot_at k s).link ≡ Some l → IsNew l → AreTurns s turns → All (StaysOpen k) turns →
    (order : Order) (requests : List Asked) → All IsWritable requests → BeginsWith (given_in k turns) (client_bytes order requests) → IsHeard log k s l turns requests
is_heard config log s listed r k l turns is new are stays order requests fit begins =
    let p = plays_on k turns s l (safe_run config log s listed r) (late_run config log s r) is are stays in
    let a = new_takes l p.end order (requests_of p.done) requests (given_in k turns) new fit begins p.takes in
    let end = end_of s turns in
    record {
      plays_on = p;
      more = a.more;
      in_order = a.in_order;
      sounded = λ none.
          All-weaker (IsTakenUpBy k end) (λ x. (whole : ℕ) → IsInTime x whole → IsSounded (log ++ log_of turns) end x whole)
          (λ x h whole t. sounded config (log ++ log_of turns) k end x whole (run_with config log s turns r are) none h t)
          (plays_in (channels_at s.devices) [] p.done) (subst (λ c. All (IsTakenUpBy k end) (plays_in (channels_at s.devices) c p.done)) new.no_contexts p.plays);
    }

pub is_heard_in_run : (config : List DeviceSpec) (log : Log) → IsHeardInRun config log
is_heard_in_run config log listed =
    elim (end_state config log) as (λ o. end_state config log ≡ o → IfSome o (λ s. (k : ℕ) (l : LinkState) (turns : List Turn) → (slot_at k s).link ≡ Some l → IsNew l → AreTurns s turns →
    All (StaysOpen k) turns → (order : Order) (requests : List Asked) → All IsWritable requests → BeginsWith (given_in k turns) (client_bytes order requests) → IsHeard log k s l turns requests)) [
      | None ↦ λ r. tt
      | Some s ↦ λ r. is_heard config log s listed r
    ] refl
