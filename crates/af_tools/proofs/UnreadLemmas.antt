-- When aplay reads its source.
use Rattle.std.proofs.Common.{◌≡◌, slice_get, unwrap_or, ◌⊎◌, inl, inr, ℕ, List, [], ◌∷◌, refl, sym, ap₂, ◌∙◌, subst, Result, Ok, Err, IfOk, IsOk, Option, None, Some}
use Rattle.af_io.specs.Dial.{IsFirstOf, ToldLink}
use Rattle.af_wire.specs.declared.order.Order.{Order}
use Rattle.af_request.specs.Asked.{Asked}
use Rattle.af_request.specs.declared.reply.DeviceInfo.{DeviceInfo}
use Rattle.af_sample.specs.declared.sample_type.SampleType.{SampleType}
use Rattle.af_tools.specs.Play.{play_context}
use Rattle.af_lib.specs.Calls.{ConnState, IsSetUp, as_done}
use Rattle.af_toolkit.specs.Trace.{ClientState, answer_on}
use Rattle.af_toolkit.specs.ToolParts.{GoesOver, asks}
use Rattle.af_toolkit.specs.declared.end.ToolEnd.{ToolEnd}
use Rattle.af_toolkit.specs.Ends.{client_of}
use Rattle.af_toolkit.proofs.ToolPartLemmas.{client_begun, setup_known}
use Rattle.af_cli.specs.declared.job.PlayJob.{PlayJob}
use Rattle.af_toolkit.proofs.ToolEndLemmas.{asks_answered}
use Rattle.af_tools.specs.Reading.{DialGivesContext, GivesContext}

-- a context that was made, by its name in a job
pub context_made : {L : Type 0} (left sent : L → Option (List ℕ)) (old new : ConnState L) {asked context : Asked} → asked ≡ context → (r : Result (Unit {0}) ToolEnd) → GoesOver left sent old new (asks asked as_done) r →
    IfOk r (λ _. (input : List ℕ) → left old.link ≡ Some input → answer_on context as_done (client_of old input) ≡ Ok tt)
context_made left sent old new {asked} same (Ok u) goes = λ input told.
    let w = client_of old input in
    let c = (goes None).came w (input, told, refl) in
    let ok : IsOk (asks asked as_done w).end = rw c.3 refl in
    subst (λ (a : Asked). answer_on a as_done w ≡ Ok tt) same (asks_answered asked as_done w ok).1
context_made left sent old new same (Err how) goes = tt

-- aplay reads a source without a header only after the reply, since what follows the header does
pub read_late : {L S : Type 0} (left : L → Option (List ℕ)) (job : PlayJob) (device : DeviceInfo) (conn : ConnState L) → slice_get conn.devices job.device ≡ Some device → (ty : SampleType) (channels : ℕ) → ty ≡ unwrap_or job.ty device.ty → channels ≡ device.channels →
    {source middle source' : S} → middle ≡ source → (source' ≡ middle) ⊎ ((input : List ℕ) → left conn.link ≡ Some input → answer_on (play_context job ty channels) as_done (client_of conn input) ≡ Ok tt) →
    (source' ≡ source) ⊎ ((input : List ℕ) → left conn.link ≡ Some input → GivesContext job conn.devices (client_of conn input))
read_late left job device conn there ty channels same_ty same_channels before later = elim later [
  | inl same ↦ inl (same ∙ before)
  | inr replied ↦ inr (λ input told. (
    device,
    there,
    subst (λ (a : Asked). answer_on a as_done (client_of conn input) ≡ Ok tt) (ap₂ (λ (t : SampleType) (n : ℕ). play_context job t n) same_ty same_channels) (replied input told),
  ))
]

-- a link that was set up, and then gives the reply
pub link_gives : {L : Type 0} (order : Order) (left sent : L → Option (List ℕ)) (faults : L → ℕ) (job : PlayJob) (far : L) (conn : ConnState L) (link : ToldLink) (links : List ToldLink) → conn.order ≡ order → conn.sequence ≡ 0 →
    IsSetUp order left sent faults far conn.link conn.ring (Ok conn.devices) → left far ≡ Some link.gives →
    ((i : List ℕ) → left conn.link ≡ Some i → GivesContext job conn.devices (client_of conn i)) → DialGivesContext order job (link ∷ links)
link_gives order left sent faults job far conn link links same_order first is told gives =
    let k = setup_known order left sent faults far conn.link conn.ring link.gives (Ok conn.devices) is told (λ e. cc e) in (
      record { link = link; rest = links; links_are = refl; devices = conn.devices; set = sym k.2 },
      subst (λ (w : ClientState). GivesContext job conn.devices w) (client_begun order conn k.0 same_order first ∙ k.3) (gives k.0 k.1),
    )

-- the first link that a dial gives
pub dial_gives : {F : Type 0} (order : Order) (left sent : F → Option (List ℕ)) (job : PlayJob) (far : F) (links : List ToldLink) (after : Option (List ToldLink)) → IsFirstOf left sent far (Some links) after →
    ((link : ToldLink) (rest : List ToldLink) → left far ≡ Some link.gives → DialGivesContext order job (link ∷ rest)) → DialGivesContext order job links
dial_gives order left sent job far [] after first gives = absurd first
dial_gives order left sent job far (link ∷ links) after first gives = gives link links first.0
