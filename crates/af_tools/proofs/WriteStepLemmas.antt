-- Blocks are written in step with what is asked for: each before the next one.
use Rattle.std.proofs.Common.{◌≡◌, ◌⊎◌, ℕ, suc, ◌+◌, ◌-◌, ◌*◌, ◌%◌, ◌^◌, ◌<◌, ◌≤◌, min, nat_lt, Bool, true, false, List, [], ◌∷◌, ◌++◌, length, sym, ap, ◌∙◌, refl, subst, arith, append-nil, append_assoc, inl, inr, if◌then◌else◌, ◌==◌, unwrap_or, IsOk, Result, Ok, Err, Option, None, Some}
use Rattle.std.proofs.lemmas.Bool.Decides.{nat_tests}
use Rattle.af_io.specs.Observed.{Appended}
use Rattle.af_io.specs.Flow.{AppendedPrefix}
use Rattle.af_io.proofs.AppendedLemmas.{appended_none}
use Rattle.af_wire.specs.declared.order.Order.{Order}
use Rattle.af_wire.specs.declared.order.Order.TheVariants.{Big}
use Rattle.af_request.specs.declared.reply.DeviceInfo.{DeviceInfo}
use Rattle.af_request.specs.Asked.{Asked, free_ac, get_time, record_run}
use Rattle.af_request.specs.Requests.{request_bytes}
use Rattle.af_lib.specs.declared.fault.ConnFault.{ConnFault}
use Rattle.af_lib.specs.Calls.{Recorded, as_done, as_recorded, as_time}
use Rattle.af_cli.specs.Lengths.{at_rate}
use Rattle.af_cli.specs.declared.job.RecordJob.{RecordJob}
use Rattle.af_cli.specs.Sizes.{block_frames}
use Rattle.af_sound.specs.declared.head.SoundForm.{SoundForm}
use Rattle.af_sound.specs.declared.head.SoundForm.TheVariants.{Au, Wave}
use Rattle.af_time.specs.declared.DevTime.{DevTime}
use Rattle.af_toolkit.specs.Parts.{Goes, Outcome, answered, followed, goes_on, has_value}
use Rattle.af_toolkit.proofs.PartLemmas.{Reached, goes_value, reached_goes, reached_here, reached_on}
use Rattle.af_toolkit.specs.declared.end.ToolEnd.{ToolEnd}
use Rattle.af_toolkit.specs.declared.end.ToolEnd.TheVariants as end
use Rattle.af_toolkit.specs.Trace.{ClientState, after_reply, answer_on, refused}
use Rattle.af_toolkit.specs.Ends.{Writes}
use Rattle.af_toolkit.specs.ToolParts.{IsClientOf, ToolDeeds, ToolPart, ToolSight, asks, begins, doing, tooling, writes}
use Rattle.af_toolkit.specs.Steps.{WroteThrough}
use Rattle.af_toolkit.proofs.ToolPartLemmas.{is_tool}
use Rattle.af_toolkit.proofs.StepLemmas.{wrote, wrote_on, wrote_then}
use Rattle.af_tools.specs.declared.record.RecordedSound.{RecordedSound}
use Rattle.af_tools.specs.declared.record.Recording.{Recording}
use Rattle.af_tools.specs.declared.record.TakenBlock.{TakenBlock}
use Rattle.af_toolkit.specs.Lost.{had_left}
use Rattle.af_tools.specs.Record.{as_filed, block_lengths, ends_row, front_of_recording, nothing_recorded, pad_after, peak, record_context, recorded_frame, recorded_sound, recording_on, records, row_below, takes_block}
use Rattle.af_tools.specs.RecordSteps.{FrontOfRequest, RecordsInStep, WritesInStep, job_lengths, records_before, writes_blocks}
use Rattle.af_tools.proofs.RecordBlockLemmas.{lengths_some}

pub no_request : FrontOfRequest []
no_request = (Big, free_ac 1, request_bytes Big (free_ac 1), refl)

-- Blocks of these lengths were recorded and written, and n frames are left: whatever blocks follow, recording goes on from here.
pub record IsTaken (job : RecordJob) (sound : RecordedSound) (start block at frames row : ℕ) (o p : ToolSight) : Type 0 where
  pub peaks : List ℕ
  pub before : Recording
  pub is_row : row ≡ row_below job.stop_peak peaks
  pub taken : List ℕ
  pub blocks : block_lengths block job.frames ≡ taken ++ block_lengths block frames
  pub reached : (others : List ℕ) → Reached (tooling refused) (records job sound start nothing_recorded [] (taken ++ others)) (records job sound at before peaks others) o p

pub taken_begin : (job : RecordJob) (sound : RecordedSound) (start block : ℕ) {o : ToolSight} → IsTaken job sound start block start job.frames 0 o o
taken_begin job sound start block = record { peaks = []; before = nothing_recorded; is_row = refl; taken = []; blocks = refl; reached = λ others. reached_here is_tool }

-- what a block sends is its request
block_sends : (sound : RecordedSound) (at size : ℕ) (w : ClientState) → (takes_block sound at size w).did.sends ≡ request_bytes w.order (record_run true 1 at size)
unfolding goes_on asks
block_sends sound at size w = by (answer_on (record_run true 1 at size) (as_recorded true size) w) where
  by : (answer : Result Recorded ConnFault) → (followed doing (let d : ToolDeeds = record { sends = request_bytes w.order (record_run true 1 at size); output = [] } in d) (answered answer (after_reply w))
      (λ y. goes_on doing (writes (as_filed sound.coding y.0.samples)) (λ _. has_value doing (let x : TakenBlock = record { peak = peak sound.ty y.0.samples; lost = had_left sound.horizon at y.0.time.0 } in x)) y.1)).did.sends ≡ request_bytes w.order (record_run true 1 at size)
  by (Ok r) = append-nil (request_bytes w.order (record_run true 1 at size))
  by (Err f) = refl

-- a part that ended within a block sent its request, or the first of it
block_cut : (sound : RecordedSound) (at size : ℕ) {how : ToolEnd} {p q : ToolSight} {v : ClientState} → Goes (tooling refused) (takes_block sound at size) (Err how) p q → IsClientOf p.link v →
    (asked written : List ℕ) × FrontOfRequest asked × Appended p.link.sent asked q.link.sent × Appended p.held written q.held
block_cut sound at size {v = v} g stands =
    let c = g.came v stands in
    let sends = block_sends sound at size v in
    let bytes = request_bytes v.order (record_run true 1 at size) in (
      c.0.sends,
      c.0.output,
      elim c.1 [
        | inl outer ↦ (v.order, record_run true 1 at size, outer.1.0.sends, sym sends ∙ ap (λ (d : ToolDeeds). d.sends) outer.1.1)
        | inr ended ↦ (v.order, record_run true 1 at size, [], sym sends ∙ ap (λ (b : Outcome ToolDeeds (TakenBlock × ClientState) ConnFault). b.did.sends) ended.2 ∙ sym (append-nil c.0.sends))
      ],
      c.2.0,
      c.2.1,
    )

module _ {job : RecordJob} {sound : RecordedSound} {start block at frames row : ℕ} {o p : ToolSight} (t : IsTaken job sound start block at frames row o p) {w : ClientState} (stands : IsClientOf o.link w) where
  taken_goes : Goes (tooling refused) (records job sound start nothing_recorded [] t.taken) (Ok t.before) o p
  unfolding records
  taken_goes =
      let r = subst (λ (l : List ℕ). Reached (tooling refused) (records job sound start nothing_recorded [] l) (records job sound at t.before t.peaks []) o p) (append-nil t.taken) (t.reached []) in
      reached_goes is_tool _ r (goes_value is_tool _)

  -- all blocks were recorded
  pub taken_all : {failed : Type 0} → (s : WritesInStep (block_lengths block job.frames) (records job sound start nothing_recorded []) w failed o.link.sent p.link.sent o.held p.held) × (s.asked ≡ []) × (s.written ≡ [])
  taken_all = (
    record {
      taken = t.taken;
      others = block_lengths block frames;
      blocks = t.blocks;
      asked = [];
      written = [];
      past = wrote taken_goes stands;
      one_request = no_request;
      kept = inr (omega arith);
    },
    refl,
    refl,
  )

  -- the next one was not
  pub taken_cut : {failed : Type 0} (size : ℕ) {how : ToolEnd} {q : ToolSight} → Goes (tooling refused) (takes_block sound at size) (Err how) p q → (failed ⊎ (Appended p.held [] q.held)) →
      WritesInStep (block_lengths block job.frames) (records job sound start nothing_recorded []) w failed o.link.sent q.link.sent o.held q.held
  taken_cut {failed} size {q = q} goes cause =
      let c = taken_goes.came w stands in
      let cut = block_cut sound at size goes c.1 in
      let past = wrote taken_goes stands in
      elim cause [
        | inl bad ↦ record {
          taken = t.taken;
          others = block_lengths block frames;
          blocks = t.blocks;
          asked = cut.0;
          written = cut.1;
          past = wrote_then cut.0 cut.1 past cut.3 cut.4;
          one_request = cut.2;
          kept = inl bad;
        }
        | inr same ↦ record {
          taken = t.taken;
          others = block_lengths block frames;
          blocks = t.blocks;
          asked = cut.0;
          written = [];
          past = wrote_then cut.0 [] past cut.3 same;
          one_request = cut.2;
          kept = inr (omega arith);
        }
      ]

module _ {job : RecordJob} {sound : RecordedSound} {start block at frames row : ℕ} {o p : ToolSight} (t : IsTaken job sound start block at frames row o p) (some : 0 < block) (more : 0 < frames) {n size : ℕ} (is_least : n ≡ min frames block) (is_size : size ≡ n * recorded_frame sound)
    {x : TakenBlock} {q : ToolSight} (goes : Goes (tooling refused) (takes_block sound at size) (Ok x) p q) {row' : ℕ} (is_row : row' ≡ (if nat_lt x.peak job.stop_peak then row + 1 else 0)) where
  abbrev block_more : List ℕ → Bool → TakenBlock → ToolPart Recording
  block_more others ends x = if ends then has_value doing (recording_on t.before n x) else records job sound ((at + n) % 2 ^ 32) (recording_on t.before n x) (x.peak ∷ t.peaks) others

  taken_next : (others : List ℕ) {b : Bool} → ends_row job (x.peak ∷ t.peaks) ≡ b → Reached (tooling refused) (records job sound start nothing_recorded [] ((t.taken ++ (n ∷ [])) ++ others)) (block_more others b x) o q
  unfolding records
  taken_next others is =
      let first : records job sound at t.before t.peaks (n ∷ others) ≡ goes_on doing (takes_block sound at size) (λ x. block_more others (ends_row job (x.peak ∷ t.peaks)) x) = rw is_size refl in
      let r = subst (λ (l : List ℕ). Reached (tooling refused) (records job sound start nothing_recorded [] l) (goes_on doing (takes_block sound at size) (λ x. block_more others (ends_row job (x.peak ∷ t.peaks)) x)) o p) (sym (append_assoc t.taken (n ∷ []) others)) (rw first at (t.reached (n ∷ others))) in
      subst (λ (b : Bool). Reached (tooling refused) (records job sound start nothing_recorded [] ((t.taken ++ (n ∷ [])) ++ others)) (block_more others b x) o q) is (reached_on is_tool (λ x. block_more others (ends_row job (x.peak ∷ t.peaks)) x) r goes)

  more_blocks : block_lengths block job.frames ≡ (t.taken ++ (n ∷ [])) ++ block_lengths block (frames - n)
  more_blocks =
      t.blocks ∙ ap (λ (l : List ℕ). t.taken ++ l) (lengths_some block frames some more ∙ ap (λ (k : ℕ). k ∷ block_lengths block (frames - k)) (sym is_least)) ∙ sym (append_assoc t.taken (n ∷ []) (block_lengths block (frames - n)))

  grown : row' ≡ row_below job.stop_peak (x.peak ∷ t.peaks)
  grown = is_row ∙ ap (λ (k : ℕ). if nat_lt x.peak job.stop_peak then k else 0) (ap (λ (k : ℕ). k + 1) t.is_row ∙ (let e : row_below job.stop_peak t.peaks + 1 ≡ suc (row_below job.stop_peak t.peaks) = omega arith in e))

  -- recording goes on
  pub taken_on : row' < job.stop_blocks → {at' : ℕ} → at' ≡ (at + n) % 2 ^ 32 → IsTaken job sound start block at' (frames - n) row' o q
  taken_on short place =
      let no : ends_row job (x.peak ∷ t.peaks) ≡ false = rw (← grown) (grind (arith, nat_tests)) in
      record { peaks = x.peak ∷ t.peaks; before = recording_on t.before n x; is_row = grown; taken = t.taken ++ (n ∷ []); blocks = more_blocks; reached = λ others. rw place (taken_next others no) }

  -- the block ends a row of quiet ones
  pub taken_quiet : job.stop_blocks ≤ row' → {failed : Type 0} {w : ClientState} → IsClientOf o.link w →
      (s : WritesInStep (block_lengths block job.frames) (records job sound start nothing_recorded []) w failed o.link.sent q.link.sent o.held q.held) × (s.asked ≡ []) × (s.written ≡ [])
  taken_quiet long stands =
      let yes : ends_row job (x.peak ∷ t.peaks) ≡ true = rw (← grown) (grind (arith, nat_tests)) in
      let r = subst (λ (l : List ℕ). Reached (tooling refused) (records job sound start nothing_recorded [] l) (block_more [] true x) o q) (append-nil (t.taken ++ (n ∷ []))) (taken_next [] yes) in
      let quiet : Goes (tooling refused) (records job sound start nothing_recorded [] (t.taken ++ (n ∷ []))) (Ok (recording_on t.before n x)) o q = reached_goes is_tool _ r (goes_value is_tool _) in (
        record {
          taken = t.taken ++ (n ∷ []);
          others = block_lengths block (frames - n);
          blocks = more_blocks;
          asked = [];
          written = [];
          past = wrote quiet stands;
          one_request = no_request;
          kept = inr (omega arith);
        },
        refl,
        refl,
      )

-- the byte that makes a file even is at most one
pub pad_least : (form : Option SoundForm) (size : ℕ) → length (pad_after form size) ≤ 1
pad_least (Some Wave) size = elim (size % 2 == 1) as (λ (b : Bool). length (let pad : List ℕ = if b then 0 ∷ [] else [] in pad) ≤ 1) [ true ↦ omega arith | false ↦ omega arith ]
pad_least (Some Au) size = omega arith
pad_least None size = omega arith

-- the header was written first
pub front_wrote : (job : RecordJob) (device : DeviceInfo) (start : ℕ) {sound : RecordedSound} {w : ClientState} {failed failed' : Type 0} {a c h i j : Option (List ℕ)} → sound ≡ recorded_sound job device → Appended h (front_of_recording job device) i → (failed → failed') →
    (s : WritesInStep (block_lengths (block_frames job.block (recorded_frame sound)) job.frames) (records job sound start nothing_recorded []) w failed a c i j) → (s' : WritesInStep (job_lengths job device) (writes_blocks job device start) w failed' a c h j) × (s'.asked ≡ s.asked) × (s'.written ≡ s.written)
front_wrote job device start {w = w} {a = a} {c} {i = i} {j} same front weaker s = (
  record {
    taken = s.taken;
    others = s.others;
    blocks = subst (λ (x : RecordedSound). block_lengths (block_frames job.block (recorded_frame x)) job.frames ≡ s.taken ++ s.others) same s.blocks;
    asked = s.asked;
    written = s.written;
    past = wrote_on (writes (front_of_recording job device)) (λ _. records job (recorded_sound job device) start nothing_recorded [] s.taken) refl (appended_none a) front (subst (λ (x : RecordedSound). WroteThrough (records job x start nothing_recorded [] s.taken) w s.asked s.written a c i j) same s.past);
    one_request = s.one_request;
    kept = elim s.kept [ inl bad ↦ inl (weaker bad) | inr few ↦ inr few ];
  },
  refl,
  refl,
)

-- and the last byte last
pub pad_wrote : {K : Type 0} (held : K → Option (List ℕ)) (sink sink' : K) (result : Result (Unit {0}) ToolEnd) (pad : List ℕ) {X : Type 0} {lengths : List ℕ} {before : List ℕ → ToolPart X} {w : ClientState} {failed failed' : Type 0} {a c h : Option (List ℕ)} → (result ≡ Err end.SinkFault → failed') → Writes held pad result sink sink' → length pad ≤ 1 →
    (s : WritesInStep lengths before w failed a c h (held sink)) → s.asked ≡ [] → s.written ≡ [] → (s' : WritesInStep lengths before w failed' a c h (held sink')) × (s'.asked ≡ [])
pad_wrote held sink sink' result pad {X} {lengths} {before} {w} {failed} {failed'} {a} {c} {h} weaker is few s over none = by result weaker is where
  more : (piece : List ℕ) → Appended (held sink) piece (held sink') → failed' ⊎ (length piece ≤ 1) → (s' : WritesInStep lengths before w failed' a c h (held sink')) × (s'.asked ≡ [])
  more piece written kept = (
    record {
      taken = s.taken;
      others = s.others;
      blocks = s.blocks;
      asked = s.asked;
      written = s.written ++ piece;
      past = subst (λ (l : List ℕ). WroteThrough (before s.taken) w l (s.written ++ piece) a c h (held sink')) (append-nil s.asked) (wrote_then [] piece s.past (appended_none c) written);
      one_request = s.one_request;
      kept = elim kept [ inl bad ↦ inl bad | inr least ↦ inr (rw none least) ];
    },
    over,
  )

  by : (result : Result (Unit {0}) ToolEnd) → (result ≡ Err end.SinkFault → failed') → Writes held pad result sink sink' → (s' : WritesInStep lengths before w failed' a c h (held sink')) × (s'.asked ≡ [])
  by (Ok x) weaker is = more pad is (inr few)
  by (Err how) weaker is = more is.1.front is.1.appended (inl (weaker (ap (λ (e : ToolEnd). (let r : Result (Unit {0}) ToolEnd = Err e in r)) is.0)))

-- a request after all blocks
pub last_wrote : {X : Type 0} {lengths : List ℕ} {before : List ℕ → ToolPart X} {w : ClientState} {failed failed' : Type 0} {bytes : List ℕ} (order : Order) (asked : Asked) {a b c h j : Option (List ℕ)} → (failed → failed') → (s : WritesInStep lengths before w failed a b h j) → s.asked ≡ [] →
    bytes ≡ request_bytes order asked → AppendedPrefix b bytes c → WritesInStep lengths before w failed' a c h j
last_wrote {before = before} {w} order asked {a} {c = c} {h} {j} weaker s over same sent = record {
  taken = s.taken;
  others = s.others;
  blocks = s.blocks;
  asked = sent.front;
  written = s.written;
  past = subst (λ (l : List ℕ). WroteThrough (before s.taken) w (l ++ sent.front) s.written a c h j) over
      (subst (λ (l : List ℕ). WroteThrough (before s.taken) w (s.asked ++ sent.front) l a c h j) (append-nil s.written) (wrote_then sent.front [] s.past sent.appended (appended_none j)));
  one_request = (order, asked, sent.rest, sym same ∙ sent.whole);
  kept = elim s.kept [ inl bad ↦ inl (weaker bad) | inr few ↦ inr few ];
}

-- the context was made, and the time asked for
pub begun_wrote : (job : RecordJob) (device : DeviceInfo) {now : DevTime} {start : ℕ} {w v : ClientState} {did : ToolDeeds} {failed : Type 0} (failed' : Type 0) {a b h i c j : Option (List ℕ)} → start ≡ unwrap_or job.time now.0 →
    begins (record_context job device) job.device w ≡ (let b : Outcome ToolDeeds (DevTime × ClientState) ConnFault = record { did = did; end = Ok (now, v) } in b) → Appended a did.sends b → Appended h did.output i → (failed → failed') →
    (s : WritesInStep (job_lengths job device) (writes_blocks job device start) v failed b c i j) → (s' : WritesInStep (job_lengths job device) (records_before job device) w failed' a c h j) × (s'.asked ≡ s.asked)
begun_wrote job device {now} {start} {v = v} failed' {b = b} {i = i} {c} {j} starts is sent output weaker s = (
  record {
    taken = s.taken;
    others = s.others;
    blocks = s.blocks;
    asked = s.asked;
    written = s.written;
    past = wrote_on (begins (record_context job device) job.device) (λ (now : DevTime). writes_blocks job device (unwrap_or job.time now.0) s.taken) is sent output (subst (λ (n : ℕ). WroteThrough (writes_blocks job device n s.taken) v s.asked s.written b c i j) starts s.past);
    one_request = s.one_request;
    kept = elim s.kept [ inl bad ↦ inl (weaker bad) | inr few ↦ inr few ];
  },
  refl,
)

-- what a beginning sends is at most both requests
begin_sends : (context : Asked) (device : ℕ) (w : ClientState) → (rest : List ℕ) × (request_bytes w.order context ++ request_bytes w.order (get_time device) ≡ (begins context device w).did.sends ++ rest)
unfolding goes_on asks
begin_sends context device w = by (answer_on context as_done w) where
  time : List ℕ
  time = request_bytes w.order (get_time device)

  by : (answer : Result (Unit {0}) ConnFault) → (rest : List ℕ) × (request_bytes w.order context ++ request_bytes w.order (get_time device) ≡
      (followed doing (let d : ToolDeeds = record { sends = request_bytes w.order context; output = [] } in d) (answered answer (after_reply w)) (λ y. asks (get_time device) as_time y.1)).did.sends ++ rest)
  by (Ok x) = ([], sym (append-nil _))
  by (Err f) = (request_bytes w.order (get_time device), refl)

pub begin_sent : (context : Asked) (device : ℕ) (result : Result DevTime ToolEnd) {o p : ToolSight} {w : ClientState} → Goes (tooling refused) (begins context device) result o p → IsClientOf o.link w → AppendedPrefix o.link.sent (request_bytes w.order context ++ request_bytes w.order (get_time device)) p.link.sent
begin_sent context device (Ok now) {w = w} g stands =
    let all = begin_sends context device w in
    let c = g.came w stands in
    record { front = c.2.sends; rest = all.0; whole = all.1 ∙ ap (λ (b : Outcome ToolDeeds (DevTime × ClientState) ConnFault). b.did.sends ++ all.0) c.3; appended = c.4.0 }
begin_sent context device (Err how) {w = w} g stands =
    let all = begin_sends context device w in
    let c = g.came w stands in
    elim c.1 [
      | inl outer ↦ record { front = c.0.sends; rest = outer.1.0.sends ++ all.0; whole = all.1 ∙ ap (λ (d : ToolDeeds). d.sends ++ all.0) outer.1.1 ∙ append_assoc c.0.sends outer.1.0.sends all.0; appended = c.2.0 }
      | inr ended ↦ record { front = c.0.sends; rest = all.0; whole = all.1 ∙ ap (λ (b : Outcome ToolDeeds (DevTime × ClientState) ConnFault). b.did.sends ++ all.0) ended.2; appended = c.2.0 }
    ]

-- the same of a client by another name
pub wrote_by : {X : Type 0} {lengths : List ℕ} {before : List ℕ → ToolPart X} {v w : ClientState} {failed : Type 0} {a c h j : Option (List ℕ)} → v ≡ w → (s : WritesInStep lengths before w failed a c h j) → (s' : WritesInStep lengths before v failed a c h j) × (s'.asked ≡ s.asked)
wrote_by {before = before} {a = a} {c} {h} {j} same s = (
  record {
    taken = s.taken;
    others = s.others;
    blocks = s.blocks;
    asked = s.asked;
    written = s.written;
    past = subst (λ (u : ClientState). WroteThrough (before s.taken) u s.asked s.written a c h j) (sym same) s.past;
    one_request = s.one_request;
    kept = s.kept;
  },
  refl,
)

-- the same of a device by another name, whose rate is that of the job, and for a weaker cause
pub records_for : (job : RecordJob) {d device : DeviceInfo} {w : ClientState} {failed failed' : Type 0} {a c h j : Option (List ℕ)} → Some d ≡ Some device → (failed → failed') → RecordsInStep (at_rate d.rate job) d w failed a c h j → RecordsInStep (at_rate device.rate job) device w failed' a c h j
records_for job {d} {device} {w} {failed} {failed'} {a} {c} {h} {j} same weaker steps = subst (λ (x : DeviceInfo). RecordsInStep (at_rate x.rate job) x w failed' a c h j) (let one : d ≡ device = cc in one) (by steps) where
  by : RecordsInStep (at_rate d.rate job) d w failed a c h j → RecordsInStep (at_rate d.rate job) d w failed' a c h j
  by (inl begun) = inl begun
  by (inr s) = inr (record {
    taken = s.taken;
    others = s.others;
    blocks = s.blocks;
    asked = s.asked;
    written = s.written;
    past = s.past;
    one_request = s.one_request;
    kept = elim s.kept [ inl bad ↦ inl (weaker bad) | inr few ↦ inr few ];
  })

-- the same end of another part
pub sink_failed : {X Y : Type 0} {how : ToolEnd} {result : Result Y ToolEnd} → result ≡ Err how → (let r : Result X ToolEnd = Err how in r) ≡ Err end.SinkFault → result ≡ Err end.SinkFault
sink_failed {Y = Y} {how} same bad = let one : how ≡ end.SinkFault = cc in same ∙ ap (λ (e : ToolEnd). (let r : Result Y ToolEnd = Err e in r)) one

pub not_ok : {X : Type 0} (A : Type 0) {how : ToolEnd} {result : Result X ToolEnd} → result ≡ Err how → IsOk result → A
not_ok {X} A same ok = absurd (let bad = subst (λ (r : Result X ToolEnd). IsOk r) same ok in cc bad)

pub ok_no_fault : {X : Type 0} {x : X} {how : ToolEnd} → (let r : Result X ToolEnd = Ok x in r) ≡ Err how → ⊥
ok_no_fault bad = cc bad
