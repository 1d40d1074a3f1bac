-- In what order a tool that dials reads, sends and writes.
use Rattle.std.proofs.Common.{◌≡◌, ℕ, inl, inr, List, [], ◌∷◌, sym, subst, refl, append-nil, Result, Ok, Err, Option, Some}
use Rattle.af_io.specs.Flow.{AppendedPrefix}
use Rattle.af_io.specs.Dial.{AppendedBack, IsFirstOf, ToldLink}
use Rattle.af_wire.specs.declared.order.Order.{Order}
use Rattle.af_wire.specs.Front.{setup_bytes}
use Rattle.af_request.specs.declared.reply.DeviceInfo.{DeviceInfo}
use Rattle.af_lib.specs.declared.fault.ConnFault.{ConnFault}
use Rattle.af_lib.specs.Ring.{RingState}
use Rattle.af_lib.specs.Calls.{IsSetUp}
use Rattle.af_toolkit.specs.declared.end.ToolEnd.{ToolEnd}
use Rattle.af_toolkit.specs.Trace.{ClientState, client_after_setup, new_client, setup_answer}
use Rattle.af_toolkit.specs.ToolParts.{LinkSight}
use Rattle.af_cli.specs.declared.job.Task.{Task}
use Rattle.af_cli.specs.Words.{Job, one, relay}
use Rattle.af_io.proofs.AppendedLemmas.{appended_none}
use Rattle.af_toolkit.proofs.ToolPartLemmas.{OnLink, on_link, part_answer, setup_known}
use Rattle.af_tools.specs.RunSteps.{DialledThen, JobSteps, SetUpThen, TaskSteps}

-- a link on which a task is done in its order
abbrev pub task_used : Task → (bytes : List ℕ) → ToolEnd → (left' held held' : Option (List ℕ)) → List DeviceInfo → ClientState → (sent sent' : Option (List ℕ)) → Type 0
task_used task bytes how left' held held' devices w sent sent' = TaskSteps task devices bytes w how left' sent sent' held held'

-- nothing was sent
pub unsent_prefix : (sent : Option (List ℕ)) (bytes : List ℕ) → AppendedPrefix sent bytes sent
unsent_prefix sent bytes = record { front = []; rest = bytes; whole = refl; appended = appended_none sent }

-- nothing was dialled, or no link came
pub idle_steps : (j : Job) (bytes : List ℕ) (how : ToolEnd) (links : List ToldLink) (idle : Type 0) (left' held held' : Option (List ℕ)) (back back' : Option (List (List ℕ))) → idle → back' ≡ back →
    JobSteps j bytes how links idle left' held held' back back'
idle_steps (one server order task) bytes how links idle left' held held' back back' holds same = inl (holds, same)
idle_steps (relay from to order job) bytes how links idle left' held held' back back' holds same = tt

-- what a link that was not set up was sent of its setup
sent_setup : (how : ToolEnd) (answer : Result (List DeviceInfo) ConnFault) (after : ClientState) (bytes : List ℕ) (link link' : LinkSight) → OnLink {X = List DeviceInfo} (Err how) answer after bytes link link' → AppendedPrefix link.sent bytes link'.sent
sent_setup how answer after bytes link link' (inl on) = on.1
sent_setup how answer after bytes link link' (inr on) = record { front = bytes; rest = []; whole = sym (append-nil bytes); appended = on.3 }

module _ (order : Order) (idle : Type 0) (used : List DeviceInfo → ClientState → Option (List ℕ) → Option (List ℕ) → Type 0) where
  module _ {L : Type 0} (left sent : L → Option (List ℕ)) (faults : L → ℕ) (old new : L) (ring : RingState) (input : List ℕ) where
    abbrev set_up_link : L → LinkSight
    set_up_link link = record { left = left link; client = new_client order ring; sent = sent link }

    on_setup : (r : Result (List DeviceInfo) ConnFault) → IsSetUp order left sent faults old new ring r → left old ≡ Some input → OnLink (part_answer r) (setup_answer order input) (client_after_setup order input) (setup_bytes order) (set_up_link old) (set_up_link new)
    on_setup r is told = on_link r _ _ _ (set_up_link old) (set_up_link new) is.sends (setup_known order left sent faults old new ring input r is told)

    -- a link was not set up
    pub setup_failed : (f : ConnFault) → IsSetUp order left sent faults old new ring (Err f) → left old ≡ Some input → idle → SetUpThen order input idle used (sent old) (sent new)
    setup_failed f is told holds = inl (holds, sent_setup _ (setup_answer order input) (client_after_setup order input) _ (set_up_link old) (set_up_link new) (on_setup (Err f) is told))

    -- it was set up, and then used
    pub setup_used : (devices : List DeviceInfo) (sent' : Option (List ℕ)) → IsSetUp order left sent faults old new ring (Ok devices) → left old ≡ Some input → ((a : List ℕ) → left new ≡ Some a → used devices (new_client order ring a) (sent new) sent') →
        SetUpThen order input idle used (sent old) sent'
    setup_used devices sent' is told use_of =
        let on = on_setup (Ok devices) is told in
        inr (devices, sent new, on.0, on.2, subst (λ (w : ClientState). used devices w (sent new) sent') (sym on.1.2) (use_of on.1.0 on.1.1))

  -- the first link that a dial gives, which is given back
  pub dialled_used : {F : Type 0} (left sent : F → Option (List ℕ)) (far : F) (links : List ToldLink) (after : Option (List ToldLink)) (sent' : Option (List ℕ)) {back between back' : Option (List (List ℕ))} → IsFirstOf left sent far (Some links) after →
      ((input : List ℕ) → left far ≡ Some input → SetUpThen order input idle used (sent far) sent') → between ≡ back → AppendedBack between sent' back' → DialledThen order links idle used back back'
  dialled_used left sent far [] after sent' first use_of same entry = absurd first
  dialled_used left sent far (link ∷ links) after sent' {back} {between} {back'} first use_of same entry =
      inr (link, links, sent', refl, subst (λ (s : Option (List ℕ)). SetUpThen order link.gives idle used s sent') first.1 (use_of link.gives first.0), subst (λ (b : Option (List (List ℕ))). AppendedBack b sent' back') same entry)
