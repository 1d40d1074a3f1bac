-- What a tool that dials has done, if it is done.
use Rattle.std.proofs.Common.{length, ◌≡◌, ◌≤◌, ℕ, true, List, [], ◌∷◌, sym, ap, ◌∙◌, subst, refl, slice_get, Result, Ok, Option, Some}
use Rattle.af_toolkit.proofs.ToolPartLemmas.{ended_at_once}
use Rattle.std.proofs.lemmas.Option.{get_or_from_slice_get, slice_get_within}
use Rattle.clap.specs.Words.{Text}
use Rattle.af_io.specs.Observed.{Appended}
use Rattle.af_io.specs.Dial.{ToldLink}
use Rattle.af_request.specs.declared.reply.DeviceInfo.{DeviceInfo}
use Rattle.af_request.specs.Replies.{IsDeviceInfo}
use Rattle.af_request.specs.Opcodes as opcodes
use Rattle.af_lib.specs.declared.fault.ConnFault.{ConnFault}
use Rattle.af_wire.specs.declared.order.Order.{Order}
use Rattle.af_wire.specs.Front.{setup_bytes}
use Rattle.af_lib.specs.Calls.{answer_of, as_devices}
use Rattle.af_lib.proofs.ExchangeLemmas.{answered_stated}
use Rattle.af_toolkit.specs.declared.end.ToolEnd.{ToolEnd}
use Rattle.af_toolkit.specs.declared.end.ToolEnd.TheVariants as end
use Rattle.af_cli.specs.declared.job.PassJob.{PassJob}
use Rattle.af_cli.specs.declared.job.PlayJob.{PlayJob}
use Rattle.af_cli.specs.declared.job.RecordJob.{RecordJob}
use Rattle.af_cli.specs.declared.job.Task.{Task}
use Rattle.af_cli.specs.declared.job.Task.TheVariants as task
use Rattle.af_cli.specs.declared.call.Call.{Call}
use Rattle.af_cli.specs.declared.call.Call.TheVariants as call
use Rattle.af_toolkit.specs.Trace.{Trace, ClientState, Finish, connects, done, tool_end, next_message, sends_first, client_after_setup, setup_answer, client_before_setup}
use Rattle.af_cli.specs.Call.{IsCall, job_of_call}
use Rattle.af_cli.specs.Ranges.{IsPaced, IsRanged}
use Rattle.af_relay.specs.Pass.{Both, RelayDeeds, RelayTrace, apass_trace, both, doing, finish_of, relay_of, relays}
use Rattle.af_tools.specs.Run.{job_strict, no_client, relay_trace, relays_to, JobDone, JobRan, RelayRan, UsedServer, one_trace, task_trace}
use Rattle.af_tools.specs.Reading.{SetUpFirst}
use Rattle.af_tools.specs.Play.{IsPlayed}
use Rattle.af_tools.specs.Sounds.{most_bytes}
use Rattle.af_tools.specs.Record.{IsRecorded}
use Rattle.af_toolkit.specs.Ends.{ObservedTrace, has_done_all}
use Rattle.af_relay.specs.Relayed.{IsRelayed}
use Rattle.af_standing.specs.List.{HasLines}
use Rattle.af_standing.proofs.ListLemmas.{list_ran}
use Rattle.af_cli.specs.Words.{Job, one, relay}
use Rattle.af_toolkit.proofs.ToolEndLemmas.{IsToEnd, answered_all, ends_if_lost, is_all, is_whole, reply_of}
use Rattle.af_tools.proofs.EndLemmas.{ends_if_unfit}
use Rattle.af_toolkit.specs.Parts.{Outcome, goes_on}
use Rattle.af_relay.proofs.RelayPartLemmas.{on_first, on_second}
use Rattle.af_relay.proofs.RelayedLemmas.{setup_answered, trace_relayed}
use Rattle.af_tools.proofs.PlayedBlockLemmas.{is_played}
use Rattle.af_tools.proofs.FiledLemmas.{is_recorded}
use Rattle.af_tools.proofs.DialLemmas.{served_done}

-- a trace that is sent and written to its end
followed_whole : (trace : Trace) (how : ToolEnd) (held held' : Option (List ℕ)) → how ≡ tool_end trace.finish → Appended held trace.output held' → ObservedTrace trace how (Some []) (Some trace.sends) held held'
followed_whole trace how held held' way sink =
    record { sends = trace.sends; output = trace.output; ended = ended_at_once trace how trace.sends trace.output refl refl way; link = refl; sink = sink }

-- the values of a job are in range
abbrev pub IsInRange : Job → Type 0
IsInRange (one server order task) = IsRanged task
IsInRange (relay from to order job) = IsPaced job

pub ranged_call : (c : Call) → IsCall c → IsInRange (job_of_call c)
ranged_call (call.One c) is = is.0
ranged_call (call.Relay c) is = is.0

module _ (order : Order) where
  -- a relay that is done after its first setup, and after both
  abbrev to_trace : PassJob → List ToldLink → (from : List DeviceInfo) → ClientState → RelayTrace
  to_trace job links from v = relay_of (relays_to order job links from (both v (no_client order)))

  record AfterFirst (job : PassJob) (from : List DeviceInfo) (v : ClientState) (links : List ToldLink) (held held' : Option (List ℕ)) : Type 0 where
    to : ToldLink
    rest : List ToldLink
    links_are : links ≡ to ∷ rest
    part : RelayDeeds
    whole : (to_trace job links from v).did ≡ doing.joined (on_second (setup_bytes order)) part
    relayed : Appended held part.output held' → IsRelayed job from v (client_after_setup order to.gives) (both (Some []) (Some [])) (both (Some part.from) (Some part.to)) held held'

  after_first : (job : PassJob) (from : List DeviceInfo) (v : ClientState) (links : List ToldLink) (held held' : Option (List ℕ)) → ((d : DeviceInfo) → slice_get from job.from_device ≡ Some d → IsDeviceInfo d) → IsPaced job → (to_trace job links from v).finish ≡ done →
      AfterFirst job from v links held held'
  unfolding goes_on
  after_first job from v [] held held' stated paced is = cc
  after_first job from v (second ∷ rest) held held' stated paced is =
      let w = client_after_setup order second.gives in
      let a = setup_answered (on_second (setup_bytes order)) (setup_answer order second.gives) (both v w) (λ to. relays job from to) is in
      let part = (apass_trace job from a.0 v w).did in
      let c = trace_relayed job from a.0 v w stated paced (ap (λ (o : Outcome RelayDeeds (Unit {0} × Both ClientState) Finish). finish_of o.end) (sym a.2) ∙ is) in
      record {
        to = second;
        rest = rest;
        links_are = refl;
        part = part;
        whole = ap (λ (o : Outcome RelayDeeds (Unit {0} × Both ClientState) Finish). o.did) a.2;
        relayed = λ sink. (record { device = c.0; is_there = c.1; did = part; relayed = c.2; sent = (refl, refl); sink = sink });
      }

  -- a device of a connection that was set up is one that may be stated
  answered_at : (k : ℕ) (found : Result (List ℕ) ConnFault) (devices : List DeviceInfo) → answer_of order as_devices opcodes.setup 0 found ≡ Ok devices → (d : DeviceInfo) → slice_get devices k ≡ Some d → IsDeviceInfo d
  answered_at k found devices is d there =
      subst IsDeviceInfo (get_or_from_slice_get devices k d d there) ((answered_stated order found devices is).3 k d (slice_get_within devices k d there))

  record AfterBoth (job : PassJob) (links : List ToldLink) (held held' : Option (List ℕ)) : Type 0 where
    from : SetUpFirst order links
    after : AfterFirst job from.devices (client_after_setup order from.link.gives) from.rest held held'
    whole : (relay_trace order job links).did ≡ doing.joined (on_first (setup_bytes order)) (doing.joined (on_second (setup_bytes order)) after.part)

  after_both : (job : PassJob) (links : List ToldLink) (held held' : Option (List ℕ)) → IsPaced job → (relay_trace order job links).finish ≡ done → AfterBoth job links held held'
  unfolding goes_on
  after_both job [] held held' paced is = cc
  after_both job (first ∷ links) held held' paced is =
      let v = client_after_setup order first.gives in
      let a = setup_answered (on_first (setup_bytes order)) (setup_answer order first.gives) (both v (no_client order)) (λ from. relays_to order job links from) is in
      let stated = answered_at job.from_device (next_message (client_before_setup order first.gives)).found a.0 a.1 in
      let b = after_first job a.0 v links held held' stated paced (ap (λ (o : Outcome RelayDeeds (Unit {0} × Both ClientState) Finish). finish_of o.end) (sym a.2) ∙ is) in
      record {
        from = record { link = first; rest = links; links_are = refl; devices = a.0; set = a.1 };
        after = b;
        whole = ap (λ (o : Outcome RelayDeeds (Unit {0} × Both ClientState) Finish). o.did) a.2 ∙ ap (λ (d : RelayDeeds). doing.joined (on_first (setup_bytes order)) d) b.whole;
      }

  -- a tool with one server that is done after its setup
  record AfterSetup (t : Task) (bytes : List ℕ) (links : List ToldLink) : Type 0 where
    server : SetUpFirst order links
    whole : one_trace order t links bytes ≡ sends_first (setup_bytes order) (task_trace t server.devices bytes (client_after_setup order server.link.gives))

  after_dial_setup : (t : Task) (bytes : List ℕ) (links : List ToldLink) → IsToEnd (one_trace order t links bytes).finish → AfterSetup t bytes links
  unfolding connects
  after_dial_setup t bytes [] is = cc
  after_dial_setup t bytes (first ∷ rest) is =
      let a = answered_all (setup_answer order first.gives) (client_after_setup order first.gives) (λ devices w. task_trace t devices bytes w) is in
      record { server = record { link = first; rest = rest; links_are = refl; devices = a.0; set = a.1 }; whole = ap (sends_first (setup_bytes order)) a.2 }

  module _ {bytes : List ℕ} {how : ToolEnd} {links : List ToldLink} {links' : Option (List ToldLink)} {held held' : Option (List ℕ)} {back back' : Option (List (List ℕ))} where
    -- a relay that is done has passed all blocks
    ran_relayed : {from to : Text} (job : PassJob) → how ≡ end.Done → JobRan (relay from to order job) bytes how links links' held held' back back' → IsPaced job → RelayRan order job links links' held held' back back'
    ran_relayed job way r paced =
        let recorded = is_whole r.ran.matches.recorded way in
        let played = is_whole r.ran.matches.played way in
        let b = after_both job links held held' paced recorded.finish in
        let output = recorded.wrote ∙ ap (λ (x : RelayDeeds). x.output) b.whole in
        record {
          from = b.from;
          to = b.after.to;
          rest = b.after.rest;
          to_is_next = b.after.links_are;
          sends = both b.after.part.from b.after.part.to;
          relayed = b.after.relayed (subst (λ (l : List ℕ). Appended held l held') output r.ran.sink);
          link = rw (recorded.sent ∙ ap (λ (x : RelayDeeds). x.from) b.whole, played.sent ∙ ap (λ (x : RelayDeeds). x.to) b.whole) at r.ran.sent;
        }

    -- a tool with one server that did all followed its trace to the end
    one_done : {server : Text} (t : Task) → has_done_all how ≡ true → JobRan (one server order t) bytes how links links' held held' back back' →
        UsedServer order links links' back back' (λ devices w sends. ObservedTrace (task_trace t devices bytes w) how (Some []) (Some sends) held held')
    one_done t way r =
        let recorded = is_all r.ran.matches.recorded way in
        let b = after_dial_setup t bytes links recorded.finish in
        let inner = task_trace t b.server.devices bytes (client_after_setup order b.server.link.gives) in
        let output = recorded.wrote ∙ ap (λ (x : Trace). x.output) b.whole in
        record {
          server = b.server;
          sends = inner.sends;
          used = followed_whole inner how held held' (recorded.way ∙ ap (λ (x : Trace). tool_end x.finish) b.whole) (subst (λ (l : List ℕ). Appended held l held') output r.ran.sink);
          link = rw (recorded.sent ∙ ap (λ (x : Trace). x.sends) b.whole, (is_all r.ran.matches.played way).sent) at r.ran.sent;
        }

    -- aplay: what it has played is heard as it was intended
    ran_played : {server : Text} (job : PlayJob) → has_done_all how ≡ true → JobRan (one server order (task.Play job)) bytes how links links' held held' back back' → 1 ≤ job.block →
        UsedServer order links links' back back' (λ devices w sends. IsPlayed job devices bytes w how (Some []) (Some sends) held held')
    ran_played job way r some =
        let d = one_done (task.Play job) way r in
        let server = d.server in
        let stated = answered_at job.device (next_message (client_before_setup order server.link.gives)).found server.devices server.set in
        record { server = server; sends = d.sends; used = is_played job server.devices bytes (client_after_setup order server.link.gives) how _ _ held held' d.used way some stated; link = d.link }

    -- arecord: what it has recorded is in its sink
    ran_recorded : {server : Text} (job : RecordJob) → has_done_all how ≡ true → JobRan (one server order (task.Record job)) bytes how links links' held held' back back' →
        UsedServer order links links' back back' (λ devices w sends. IsRecorded job devices w (Some []) (Some sends) held held')
    ran_recorded job way r =
        let d = one_done (task.Record job) way r in
        record { server = d.server; sends = d.sends; used = is_recorded job d.server.devices (client_after_setup order d.server.link.gives) how _ _ held held' d.used way; link = d.link }

    -- list: it has told each device
    ran_listed : {server : Text} → how ≡ end.Done → JobRan (one server order task.List) bytes how links links' held held' back back' →
        UsedServer order links links' back back' (λ devices w sends. (output : List ℕ) × HasLines 0 devices output × Appended held output held')
    ran_listed way r =
        let d = one_done task.List (ap has_done_all way) r in
        let l = list_ran d.server.devices (client_after_setup order d.server.link.gives) how _ _ held held' d.used in
        record { server = d.server; sends = d.sends; used = (l.ran.followed.output, l.listed way, l.ran.followed.sink); link = d.link }

-- what a tool did that ran
pub did : (j : Job) (bytes : List ℕ) (how : ToolEnd) (links : List ToldLink) (links' : Option (List ToldLink)) (held held' : Option (List ℕ)) (back back' : Option (List (List ℕ))) →
    JobRan j bytes how links links' held held' back back' → (has_done_all how ≡ true → IsInRange j) → (length bytes ≤ most_bytes → how ≡ end.TooLong → ⊥) → (how ≡ end.SoundLost → job_strict j ≡ true) → JobDone j bytes how links links' held held' back back'
did j bytes how links links' held held' back back' r ranged short strict =
    let ran : (k : Job) → j ≡ k → JobRan k bytes how links links' held held' back back' = λ k same. subst (λ (x : Job). JobRan x bytes how links links' held held' back back') same r in
    record {
      ran = r;
      reply = reply_of _ _ _ _ r.ran.matches.recorded;
      unfit = ends_if_unfit r.ran.matches.recorded;
      lost = ends_if_lost r.ran.matches.recorded;
      heard = λ server order play same way. (let range = subst IsInRange same (ranged way) in ran_played order play way (ran (one server order (task.Play play)) same) range.0);
      recorded = λ server order recording same way. ran_recorded order recording way (ran (one server order (task.Record recording)) same);
      listed = λ server order same way. ran_listed order way (ran (one server order task.List) same);
      relayed = λ from to order pass same way. ran_relayed order pass way (ran (relay from to order pass) same) (subst IsInRange same (ranged (ap has_done_all way)));
      complete = λ few served. served_done (job_strict j) _ how _ _ r.ran.matches.recorded (short few) strict served;
    }
