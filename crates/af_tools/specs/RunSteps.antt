-- In what order a tool that dials reads, sends and writes: nothing before its link is set up, and then as its task does.
use Rattle.std.specs.Prelude.{◌≡◌, ◌⊎◌, ⊤, ℕ, List, ◌∷◌, slice_get, Option, Ok, Some}
use Rattle.af_io.specs.Observed.{Appended}
use Rattle.af_io.specs.Flow.{AppendedPrefix}
use Rattle.af_io.specs.Dial.{AppendedBack, ToldLink}
use Rattle.af_wire.specs.declared.order.Order.{Order}
use Rattle.af_wire.specs.Front.{setup_bytes}
use Rattle.af_request.specs.declared.reply.DeviceInfo.{DeviceInfo}
use Rattle.af_cli.specs.declared.job.Task.{Task}
use Rattle.af_cli.specs.declared.job.Task.TheVariants as task
use Rattle.af_cli.specs.Lengths.{at_rate}
use Rattle.af_cli.specs.Words.{Job, one, relay}
use Rattle.af_toolkit.specs.declared.end.ToolEnd.{ToolEnd}
use Rattle.af_toolkit.specs.declared.end.ToolEnd.TheVariants as end
use Rattle.af_toolkit.specs.Trace.{ClientState, client_after_setup, setup_answer}
use Rattle.af_standing.specs.List.{ListsInStep}
use Rattle.af_tools.specs.Reading.{TellsIfRead}
use Rattle.af_tools.specs.Steps.{AplaySteps}
use Rattle.af_tools.specs.RecordSteps.{RecordsInStep}
use Rattle.af_tools.specs.Run.{job_reads}

-- The order of a task on a server that was set up. That of aset is not said: it reads nothing, and writes one text at its end.
abbrev pub TaskSteps : Task → List DeviceInfo → (bytes : List ℕ) → ClientState → ToolEnd →
    (left' sent sent' held held' : Option (List ℕ)) → Type 0
TaskSteps (task.Play job) devices bytes w how left' sent sent' held held' =
    AplaySteps job devices bytes w (how ≡ end.ReadFault) left' sent sent'
TaskSteps (task.Record job) devices bytes w how left' sent sent' held held' =
    (device : DeviceInfo) → slice_get devices job.device ≡ Some device →
    RecordsInStep (at_rate device.rate job) device w (how ≡ end.SinkFault) sent sent' held held'
TaskSteps (task.Set job) devices bytes w how left' sent sent' held held' = ⊤
TaskSteps task.List devices bytes w how left' sent sent' held held' =
    ListsInStep devices w (how ≡ end.SinkFault) sent sent' held held'

-- A link that gives these bytes was sent at most its setup, and the tool was idle; or the setup was replied to, and then the link
-- was used as this says, by what it had been sent when it was set up and in the end.
abbrev pub SetUpThen : Order → (input : List ℕ) → (idle : Type 0) →
    (used : List DeviceInfo → ClientState → (sent sent' : Option (List ℕ)) → Type 0) → (sent sent' : Option (List ℕ)) → Type 0
SetUpThen order input idle used sent sent' =
    (idle × AppendedPrefix sent (setup_bytes order) sent')
    ⊎ ((devices : List DeviceInfo) × (begun : Option (List ℕ)) × (setup_answer order input ≡ Ok devices)
    × Appended sent (setup_bytes order) begun × used devices (client_after_setup order input) begun sent')

-- No link was given back, and the tool was idle; or the first link that the dial gives was used so, and given back.
abbrev pub DialledThen : Order → List ToldLink → (idle : Type 0) →
    (used : List DeviceInfo → ClientState → (sent sent' : Option (List ℕ)) → Type 0) →
    (back back' : Option (List (List ℕ))) → Type 0
DialledThen order links idle used back back' =
    (idle × (back' ≡ back))
    ⊎ ((link : ToldLink) × (rest : List ToldLink) × (sent' : Option (List ℕ)) × (links ≡ link ∷ rest)
    × SetUpThen order link.gives idle used (Some link.sent) sent' × AppendedBack back sent' back')

-- the order of a job over a dial, by what it means to be idle; that of a relay is not said
abbrev pub JobSteps : Job → (bytes : List ℕ) → ToolEnd → List ToldLink → (idle : Type 0) →
    (left' held held' : Option (List ℕ)) → (back back' : Option (List (List ℕ))) → Type 0
JobSteps (one server order task) bytes how links idle left' held held' back back' =
    DialledThen order links idle (λ devices w sent sent'. TaskSteps task devices bytes w how left' sent sent' held held')
    back back'
JobSteps (relay from to order job) bytes how links idle left' held held' back back' = ⊤

-- The same by what is observable of a dial, a sink, and a source if the job reads it. A tool is idle while it has read and
-- written nothing.
abbrev pub JobInStep : {D S K : Type 0} → (links : D → Option (List ToldLink)) → (back : D → Option (List (List ℕ))) →
    (gives : S → Option (List ℕ)) → (held : K → Option (List ℕ)) →
    Job → ToolEnd → (dial dial' : D) → (source source' : S) → (sink sink' : K) → Type 0
JobInStep links back gives held j how dial dial' source source' sink sink' =
    (told : List ToldLink) (bytes : List ℕ) → links dial ≡ Some told → TellsIfRead gives (job_reads j) bytes source source' →
    JobSteps j bytes how told ((source' ≡ source) × (sink' ≡ sink)) (gives source') (held sink) (held sink')
    (back dial) (back dial')
