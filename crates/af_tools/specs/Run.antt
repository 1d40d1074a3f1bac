-- What the tools do, by their arguments, the bytes of the source, and what the dialled links give.
use Rattle.std.specs.Prelude.{◌≡◌, ◌≤◌, ◌⊎◌, ℕ, Bool, true, false, List, [], ◌∷◌, ◌++◌, length, Option, None, Some}
use Rattle.std.specs.List.{concat}
use Rattle.clap.specs.Words.{Text}
use Rattle.af_io.specs.Observed.{Appended, CountsFault}
use Rattle.af_io.specs.Dial.{AppendedBack, ToldLink}
use Rattle.af_toolkit.specs.Parts.{called, goes_on, part_among, stops}
use Rattle.af_request.specs.declared.reply.DeviceInfo.{DeviceInfo}
use Rattle.af_toolkit.specs.declared.end.ToolEnd.{ToolEnd}
use Rattle.af_toolkit.specs.declared.end.ToolEnd.TheVariants as end
use Rattle.af_cli.specs.declared.job.Task.{Task}
use Rattle.af_cli.specs.declared.job.Task.TheVariants as task
use Rattle.af_lib.specs.declared.fault.ConnFault.{ConnFault}
use Rattle.af_toolkit.specs.Trace.{Trace, ClientState, Finish, client_after_setup, client_before_setup, dials, not_dialled}
use Rattle.af_toolkit.specs.Trace.{refused, setup_answer}
use Rattle.af_tools.specs.Sounds.{most_bytes}
use Rattle.af_tools.specs.Play.{aplay_trace, IsPlayed}
use Rattle.af_tools.specs.Record.{arecord_trace, IsRecorded}
use Rattle.af_tools.specs.Set.{aset_trace}
use Rattle.af_standing.specs.List.{list_trace, HasLines}
use Rattle.af_cli.specs.declared.job.PassJob.{PassJob}
use Rattle.af_cli.specs.declared.job.PlayJob.{PlayJob}
use Rattle.af_wire.specs.declared.order.Order.{Order}
use Rattle.af_cli.specs.declared.job.RecordJob.{RecordJob}
use Rattle.af_wire.specs.Front.{setup_bytes}
use Rattle.af_relay.specs.Pass.{Both, RelayDeeds, RelayPart, RelayTrace, both, deeds, doing, on_from, relay_of, relays}
use Rattle.af_relay.specs.RelayParts.{RelayDid}
use Rattle.af_relay.specs.Relayed.{IsRelayed}
use Rattle.af_cli.specs.Words.{Job, one, relay}
use Rattle.af_relay.specs.Pair.{is_of_pass}
use Rattle.af_toolkit.specs.Ends.{EndsByReply, EndsIfLost, IsAnswered, IsKept, has_done_all, is_outer}
use Rattle.af_sound.specs.declared.head.SoundForm.{SoundForm}
use Rattle.af_tools.specs.Reading.{SetUpFirst, TellsIfRead, UsesSource, is_of_tool, is_unfit, EndsIfUnfit}

-- a link of a relay, which gives these bytes, is set up in a byte order, and the devices of its server are the value
abbrev pub sets_up_from : Order → List ℕ → RelayPart ConnFault (List DeviceInfo)
sets_up_from order input at =
    called (deeds (setup_bytes order) [] []) (setup_answer order input) (both (client_after_setup order input) at.to)

abbrev pub sets_up_to : Order → List ℕ → RelayPart ConnFault (List DeviceInfo)
sets_up_to order input at =
    called (deeds [] (setup_bytes order) []) (setup_answer order input) (both at.from (client_after_setup order input))

-- a relay from these devices, which dials its second server and sets the link up
abbrev pub relays_to : Order → PassJob → List ToldLink → (from : List DeviceInfo) → RelayPart Finish (Unit {0})
relays_to order job [] from = stops doing not_dialled
relays_to order job (link ∷ links) from =
    goes_on doing (part_among refused (sets_up_to order link.gives)) (λ to. relays job from to)

-- in place of a client whose link is not set up yet
abbrev pub no_client : Order → ClientState
no_client order = client_before_setup order []

-- the trace of a relay: both servers are dialled, one after the other, and each link is set up in the same order
abbrev pub relay_trace : Order → PassJob → List ToldLink → RelayTrace
relay_trace order job [] = record { did = doing.nothing; finish = not_dialled }
relay_trace order job (link ∷ links) =
    relay_of (goes_on doing (part_among refused (sets_up_from order link.gives)) (λ from. relays_to order job links from)
    (both (no_client order) (no_client order)))

-- a tool of one link, as a relay that does not use its second
abbrev pub as_relay : Trace → RelayTrace
as_relay c = record { did = deeds c.sends [] c.output; finish = c.finish }

-- the trace of a task on a server that was set up
abbrev pub task_trace : Task → List DeviceInfo → List ℕ → ClientState → Trace
task_trace (task.Play job) devices bytes w = aplay_trace job devices bytes w
task_trace (task.Record job) devices bytes w = arecord_trace job devices w
task_trace (task.Set job) devices bytes w = aset_trace job devices w
task_trace task.List devices bytes w = list_trace devices w

-- the trace of a tool with one server: it dials it, sets the link up in a byte order, and does its task
abbrev pub one_trace : Order → Task → List ToldLink → List ℕ → Trace
one_trace order task links bytes = dials order links (λ devices w. task_trace task devices bytes w)

-- the trace of a tool, by its job, the links that a dial gives, and the bytes of the source
abbrev pub run_trace : Job → List ToldLink → List ℕ → RelayTrace
run_trace (one server order task) links bytes = as_relay (one_trace order task links bytes)
run_trace (relay from to order job) links bytes = relay_trace order job links

-- whether a tool reads its source
abbrev pub reads_source : Task → Bool
reads_source (task.Play job) = true
reads_source (task.Record job) = false
reads_source (task.Set job) = false
reads_source task.List = false

abbrev pub job_reads : Job → Bool
job_reads (one server order task) = reads_source task
job_reads (relay from to order job) = false

-- the form of the sound file that a tool reads, if it reads one
abbrev pub source_form : Task → Option SoundForm
source_form (task.Play job) = job.form
source_form (task.Record job) = None
source_form (task.Set job) = None
source_form task.List = None

abbrev pub job_form : Job → Option SoundForm
job_form (one server order task) = source_form task
job_form (relay from to order job) = None

-- whether a task is strict: its end says if sound was lost
abbrev pub is_strict : Task → Bool
is_strict (task.Play job) = job.strict
is_strict (task.Record job) = job.strict
is_strict (task.Set job) = false
is_strict task.List = false

abbrev pub job_strict : Job → Bool
job_strict (one server order task) = is_strict task
job_strict (relay from to order job) = false

-- the ends of a tool over a link that was dialled, and of one that dials, by those that it has over its connections
abbrev pub is_of_far : (ToolEnd → Bool) → ToolEnd → Bool
is_of_far is_own end.OutOfMemory = true
is_of_far is_own how = is_own how

abbrev pub is_of_dial : (ToolEnd → Bool) → ToolEnd → Bool
is_of_dial is_own end.DialFault = true
is_of_dial is_own how = is_of_far is_own how

-- the ends of a job
abbrev pub is_of_job : Job → ToolEnd → Bool
is_of_job (one server order task) how = is_of_dial (is_of_tool (reads_source task) (is_strict task)) how
is_of_job (relay from to order job) how = is_of_dial is_of_pass how

-- the ends of the program: Usage, and those of the job that its words name; if they name none, OutOfMemory
abbrev pub is_of_af : Option Job → ToolEnd → Bool
is_of_af named end.Usage = true
is_of_af (Some j) how = is_of_job j how
is_of_af None end.OutOfMemory = true
is_of_af None _ = false

-- Each link that was dialled was given back: none, where nothing was sent; or the first, sent this after what it had been sent
-- before, and then the others likewise.
abbrev pub ReturnedLinks : List ToldLink → Option (List ToldLink) → (sends : List (List ℕ)) → Option (List (List ℕ)) →
    Option (List (List ℕ)) → Type 0
ReturnedLinks links links' [] back back' = (links' ≡ Some links) × (back' ≡ back)
ReturnedLinks links links' (sends ∷ more) back back' =
    ((concat (sends ∷ more) ≡ []) × (links' ≡ Some links) × (back' ≡ back))
    ⊎ ((link : ToldLink) × (rest : List ToldLink) × (between : Option (List (List ℕ))) × (links ≡ link ∷ rest)
    × Appended back ((link.sent ++ sends) ∷ []) between × ReturnedLinks rest links' more between back')

-- The link of a connection was given back with what was sent on it, and then those that were dialled.
abbrev pub ReturnsBoth : (sent : Option (List ℕ)) → List ToldLink → Option (List ToldLink) → RelayDeeds →
    (back back' : Option (List (List ℕ))) → Type 0
ReturnsBoth sent links links' did back back' = (after : Option (List ℕ)) × (between : Option (List (List ℕ)))
    × Appended sent did.from after × AppendedBack back after between × ReturnedLinks links links' (did.to ∷ []) between back'

-- memory runs out before any request was sent, and in a tool with one server before its setup
abbrev pub IsEarly : Job → RelayDeeds → Type 0
IsEarly (one server order task) did = (did.from ≡ []) × (did.to ≡ [])
IsEarly (relay from to order job) did = ((did.from ≡ []) ⊎ (did.from ≡ setup_bytes order)) × (did.to ≡ [])

-- A tool ran, and gave back each link that was dialled.
pub record JobRan (j : Job) (bytes : List ℕ) (how : ToolEnd) (links : List ToldLink) (links' : Option (List ToldLink))
    (held held' : Option (List ℕ)) (back back' : Option (List (List ℕ))) : Type 0 where
  pub ran : RelayDid (run_trace j links bytes) how held held'
      (λ did. ReturnedLinks links links' (did.from ∷ did.to ∷ []) back back')
  pub early : how ≡ end.OutOfMemory → IsEarly j ran.did

-- What a relay has passed between its two servers: its first two links were set up and then used, and given back in their order.
pub record RelayRan (order : Order) (job : PassJob) (links : List ToldLink) (links' : Option (List ToldLink))
    (held held' : Option (List ℕ)) (back back' : Option (List (List ℕ))) : Type 0 where
  pub from : SetUpFirst order links
  pub to : ToldLink
  pub rest : List ToldLink
  pub to_is_next : from.rest ≡ to ∷ rest
  pub sends : Both (List ℕ)
  pub relayed : IsRelayed job from.devices (client_after_setup order from.link.gives) (client_after_setup order to.gives)
      (both (Some []) (Some [])) (both (Some sends.from) (Some sends.to)) held held'
  pub link : ReturnedLinks links links' ((setup_bytes order ++ sends.from) ∷ (setup_bytes order ++ sends.to) ∷ []) back back'

-- What a tool has done on its server: the link was set up, used as this says, and given back.
pub record UsedServer (order : Order) (links : List ToldLink) (links' : Option (List ToldLink))
    (back back' : Option (List (List ℕ))) (use_of : List DeviceInfo → ClientState → List ℕ → Type 0) : Type 0 where
  pub server : SetUpFirst order links
  pub sends : List ℕ
  pub used : use_of server.devices (client_after_setup order server.link.gives) sends
  pub link : ReturnedLinks links links' ((setup_bytes order ++ sends) ∷ [] ∷ []) back back'

-- Each end of a tool that dials has its cause, and memory or a server that was not had leaves source and sink as they were.
pub record EndsForCause {S K D : Type 0} (left : S → Option (List ℕ)) (read_faults : S → ℕ) (write_faults : K → ℕ)
    (dial_faults hurt : D → ℕ) (reads : Bool) (form : Option SoundForm) (how : ToolEnd) (before after : S) (held held' : K)
    (dial dial' : D) : Type 0 where
  pub memory : how ≡ end.OutOfMemory → held' ≡ held
  pub source : UsesSource left read_faults reads form how before after
  pub dialled : CountsFault (how ≡ end.DialFault) (dial_faults dial) (dial_faults dial')
  pub undialled : how ≡ end.DialFault → (after ≡ before) × (held' ≡ held)
  pub link : CountsFault (how ≡ end.LinkFault) (hurt dial) (hurt dial')
  pub sink : CountsFault (how ≡ end.SinkFault) (write_faults held) (write_faults held')

-- the addresses of a job, in order
abbrev pub servers_of : Job → List Text
servers_of (one server order task) = server ∷ []
servers_of (relay from to order job) = from ∷ to ∷ []

-- The first of some addresses were dialled, in order: none only if memory ran out before, and all if the tool did all.
pub record AskedFor (servers : List Text) (how : ToolEnd) (asked asked' : Option (List Text)) : Type 0 where
  pub named : List Text
  pub others : List Text
  pub whole : servers ≡ named ++ others
  pub appended : Appended asked named asked'
  pub none : named ≡ [] → how ≡ end.OutOfMemory
  pub all : has_done_all how ≡ true → others ≡ []

-- each device and the source are fit for the job, each request gets its reply, and no sound is lost if the job is strict
pub record IsServed (strict : Bool) (trace : Trace) : Type 0 where
  pub fits : is_unfit trace.finish ≡ false
  pub answered : IsAnswered trace
  pub kept : IsKept strict trace

-- What the tools did for a job: it ran, each end is that of its trace, and if it did all, all that its tool promises holds.
pub record JobDone (j : Job) (bytes : List ℕ) (how : ToolEnd) (links : List ToldLink) (links' : Option (List ToldLink))
    (held held' : Option (List ℕ)) (back back' : Option (List (List ℕ))) : Type 0 where
  pub ran : JobRan j bytes how links links' held held' back back'
  pub reply : EndsByReply (on_from (run_trace j links bytes)) how
  pub unfit : EndsIfUnfit (on_from (run_trace j links bytes)) how
  pub lost : EndsIfLost (on_from (run_trace j links bytes)) how
  pub heard : (server : Text) (order : Order) (play : PlayJob) → j ≡ one server order (task.Play play) →
      has_done_all how ≡ true → UsedServer order links links' back back'
      (λ devices w sends. IsPlayed play devices bytes w how (Some []) (Some sends) held held')
  pub recorded : (server : Text) (order : Order) (recording : RecordJob) → j ≡ one server order (task.Record recording) →
      has_done_all how ≡ true → UsedServer order links links' back back'
      (λ devices w sends. IsRecorded recording devices w (Some []) (Some sends) held held')
  pub listed : (server : Text) (order : Order) → j ≡ one server order task.List → how ≡ end.Done →
      UsedServer order links links' back back'
      (λ devices w sends. (output : List ℕ) × HasLines 0 devices output × Appended held output held')
  pub relayed : (from to : Text) (order : Order) (pass : PassJob) → j ≡ relay from to order pass → how ≡ end.Done →
      RelayRan order pass links links' held held' back back'
  pub complete : length bytes ≤ most_bytes → IsServed (job_strict j) (on_from (run_trace j links bytes)) →
      (how ≡ end.Done) ⊎ (is_outer how ≡ true)

-- the same by what is observable of the links that a dial gives, a sink, and a source if the job reads it
abbrev pub DoesJob : {D S K : Type 0} → (links : D → Option (List ToldLink)) → (back : D → Option (List (List ℕ))) →
    (gives : S → Option (List ℕ)) → (held : K → Option (List ℕ)) →
    Job → ToolEnd → (dial dial' : D) → (source source' : S) → (sink sink' : K) → Type 0
DoesJob links back gives held j how dial dial' source source' sink sink' =
    (told : List ToldLink) (bytes : List ℕ) → links dial ≡ Some told → TellsIfRead gives (job_reads j) bytes source source' →
    JobDone j bytes how told (links dial') (held sink) (held sink') (back dial) (back dial')
