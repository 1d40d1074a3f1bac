-- What has come of a recording at its end.
use Rattle.std.proofs.Common.{◌≡◌, ◌≢◌, ◌≤◌, ◌⊎◌, ℕ, Bool, true, false, List, [], ◌∷◌, ◌++◌, sym, ap, ◌∙◌, refl, arith, append-nil, subst, inl, inr, Ok, Err, Result, Option, None, Some}
use Rattle.std.specs.Prelude.{⊤, IsErr, IsOk}
use Rattle.af_time.specs.declared.DevTime.{DevTime}
use Rattle.af_io.proofs.AppendedLemmas.{appended_none}
use Rattle.af_request.specs.declared.reply.DeviceInfo.{DeviceInfo}
use Rattle.af_lib.specs.declared.fault.ConnFault.{ConnFault}
use Rattle.af_toolkit.specs.Parts.{Goes, Outcome}
use Rattle.af_toolkit.specs.ToolParts.{IsClientOf, LinkSight, ToolDeeds, ToolPart, ToolSight, begins, tooling}
use Rattle.af_toolkit.specs.Trace.{ClientState, refused}
use Rattle.af_toolkit.specs.Ends.{ObservedTrace, is_of_link_or_sink}
use Rattle.af_toolkit.specs.declared.end.ToolEnd.{ToolEnd}
use Rattle.af_toolkit.specs.declared.end.ToolEnd.TheVariants as tool
use Rattle.af_logger.specs.declared.job.LogJob.{LogJob}
use Rattle.af_logger.specs.declared.logger.Logger.{Logger}
use Rattle.af_logger.specs.declared.plan.Plan.{Plan}
use Rattle.af_logger.specs.Commands.{Changed, Command, Desk, EndedCommand, NoneRuns}
use Rattle.af_logger.specs.Drafts.{draft}
use Rattle.af_logger.specs.Keeping.{IsWhole}
use Rattle.af_logger.specs.Logged.{AreBlocks, RanBy, gone_over}
use Rattle.af_logger.specs.Pieces.{Block, blocks_of}
use Rattle.af_logger.specs.Plans.{count_of, plan_of}
use Rattle.af_logger.specs.Story.{HasGone, HasLogged, HasSome, HasStory, IsRecording, Origin, Records, desk_of}
use Rattle.af_logger.specs.Trace.{log_context, log_trace, start_of}
use Rattle.af_logger.proofs.RecordLemmas.{not_ok}
use Rattle.af_logger.proofs.SentLemmas.{log_ran}

-- no command runs: all that were started have ended
abbrev idle_desk : List EndedCommand → Desk
idle_desk over = record { over = over; waiting = None; last = None }

none_over : (job : LogJob) (plan : Plan) (start : ℕ) (desk : Option Desk) → NoneRuns desk → Changed (gone_over job plan start []) desk desk
none_over job plan start None none = tt
none_over job plan start (Some d) none = by_parts d.waiting d.last none.0 none.1 where
  by_parts : (w l : Option Command) → w ≡ None → l ≡ None → ◌≡◌ {A = Desk} (record { over = d.over; waiting = w; last = l }) (idle_desk (d.over ++ []))
  by_parts w l e f = rw (e, f) (ap idle_desk (sym (append-nil d.over)))

-- a part came to its value
pub part_came : {X : Type 0} {part : ToolPart X} {v : X} {x y : ToolSight} → Goes (tooling refused) part (Ok v) x y → (w : ClientState) → IsClientOf x.link w → (there : ClientState) × ((part w).end ≡ Ok (v, there)) × IsClientOf y.link there
part_came {X} g w stands = (let c = g.came w stands in (c.0, ap (λ (o : Outcome ToolDeeds (X × ClientState) ConnFault). o.end) c.3, c.1))

-- the tool ended before its first block
pub none_logged : {job : LogJob} {device : DeviceInfo} {w : ClientState} (result : Result (Unit {0}) ToolEnd) {desk : Option Desk} {held : Option (List ℕ)} → NoneRuns desk → IsErr result → HasLogged job device w result desk desk held held
none_logged {job} {device} result {desk} {held} none failed = record {
  start = 0;
  pieces = [];
  heard = inl refl;
  whole = tt;
  commands = none_over job (plan_of job device) 0 desk none;
  fronts = tt;
  output = [];
  unwritten = [];
  lines = refl;
  sink = appended_none held;
  all = λ good. refl;
  done = λ ok. absurd (cc (not_ok result failed ok));
}

-- before the first block
begins_so : (job : LogJob) (plan : Plan) (at : DevTime) (desk : Option Desk) (held : Option (List ℕ)) → NoneRuns desk → IsRecording job (record { start = at.0; desk = desk; held = held }) [] (record { plan = plan; at = at; begun = 0; waiting = None; last = None; failed = false }) desk held
begins_so job plan at desk held none = record {
  story = record {
    story = record { past = []; waiting = draft [] []; last = draft [] [] };
    count = omega arith;
    waits = refl;
    lasts = refl;
    whole = tt;
    first = (refl, refl);
    pasts = tt;
    fronts = tt;
    blocks_are = refl;
    commands = none_over job plan at.0 desk none;
    output = [];
    unwritten = [];
    lines = refl;
    sink = appended_none held;
    all = λ good. refl;
  };
  placed = refl;
  some = tt;
}

-- all commands have ended
pub has_logged : {job : LogJob} {device : DeviceInfo} {w from : ClientState} {now at : DevTime} {first new : Logger} {before after : LinkSight} {failed : Bool} {desk desk' desk'' : Option Desk} {held held' held'' : Option (List ℕ)} (result : Result (Unit {0}) ToolEnd) → (begins (log_context job device) job.device w).end ≡ Ok (now, from) → IsClientOf before from → first ≡ record { plan = plan_of job device; at = at; begun = 0; waiting = None; last = None; failed = false } → at.0 ≡ start_of job now.0 → NoneRuns desk → Records (first.begun ≡ 0) ⊥ job first new before after desk desk' held held' → new.plan ≡ first.plan → ((o : Origin) → (blocks : List Block) → HasStory false job o blocks new desk' held' → HasGone job o blocks new failed desk'' held'') → (result ≢ Err tool.SinkFault → failed ≡ false) → (IsOk result → IsWhole new.plan new.last) → (IsOk result → new.begun ≡ count_of job) → HasLogged job device w result desk desk'' held held''
has_logged {job} {device} {w} {from} {now} {at} {first} {new} {before} {after} {failed} {desk} {desk'} {desk''} {held} {held'} {held''} result begun stands is there none r same ends good whole count =
    let o : Origin = record { start = at.0; desk = desk; held = held } in
    let plan : new.plan ≡ plan_of job device = same ∙ ap (λ (l : Logger). l.plan) is in
    let recording = r.goes_on o [] (ap (λ (l : Logger). l.begun) is) (subst (λ (l : Logger). IsRecording job o [] l desk held) (sym is) (begins_so job (plan_of job device) at desk held none)) in
    let got = r.got from stands in
    let came : AreBlocks (plan_of job device) from at.0 r.blocks got.0 = subst (λ (l : Logger). AreBlocks l.plan from l.at.0 r.blocks got.0) is got.1 in
    let gone : HasGone job o r.blocks (record new { plan = plan_of job device }) failed desk'' held'' = subst (λ (p : Plan). HasGone job o r.blocks (record new { plan = p }) failed desk'' held'') plan (ends o r.blocks recording.story) in
    record {
      start = at.0;
      pieces = gone.pieces;
      heard = inr (record { now = now; from = from; begun = begun; begins_there = there; after = got.0; blocks = subst (λ (l : List Block). AreBlocks (plan_of job device) from at.0 l got.0) gone.blocks_are came });
      whole = gone.whole (subst (λ (p : Plan). HasSome p new.last) plan recording.some);
      commands = gone.commands;
      fronts = gone.fronts;
      output = gone.output;
      unwritten = gone.unwritten;
      lines = gone.lines;
      sink = gone.sink;
      all = λ other. gone.all (good other);
      done = λ ok. (gone.count ∙ count ok, gone.last (subst (λ (p : Plan). IsWhole p new.last) plan (whole ok)));
    }

-- the end of a tool is no value
pub no_value : {A : Type 0} → false ≡ true → A
no_value bad = absurd (cc bad)

-- an end that is not that of the sink, and one that is not Done
pub other_end : {how : ToolEnd} → how ≢ tool.SinkFault → (let r : Result (Unit {0}) ToolEnd = Err how in r ≢ Err tool.SinkFault)
other_end {how} other same = other (let is : how ≡ tool.SinkFault = cc same in is)

pub not_done : (how : ToolEnd) → is_of_link_or_sink how ≡ true → how ≡ tool.Done → (let r : Result (Unit {0}) ToolEnd = Err how in IsOk r)
not_done how way done = sym (ap is_of_link_or_sink done) ∙ way

-- the tool ran on its device
pub there_ran : {r : Result DeviceInfo ToolEnd} (job : LogJob) {device : DeviceInfo} (w : ClientState) {how : ToolEnd} {s s' : Option (List ℕ)} {d d' : Option Desk} {h h' : Option (List ℕ)} (result : Result (Unit {0}) ToolEnd) → r ≡ Ok device → ObservedTrace (log_trace job device w) how s s' None None → HasLogged job device w result d d' h h' → (how ≢ tool.SinkFault → result ≢ Err tool.SinkFault) → (how ≡ tool.Done → IsOk result) → RanBy r job w how s s' d d' h h'
there_ran job {device} w result is trace l other done = rw is (record {
  ran = log_ran job device w trace;
  start = l.start;
  pieces = l.pieces;
  heard = l.heard;
  whole = l.whole;
  commands = l.commands;
  fronts = l.fronts;
  output = l.output;
  unwritten = l.unwritten;
  lines = l.lines;
  sink = l.sink;
  all = λ how. l.all (other how);
  done = λ how. l.done (done how);
})
