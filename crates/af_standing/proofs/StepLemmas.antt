-- The lines of devices are written in step with what is asked for: each before the next device.
use Rattle.std.proofs.Common.{◌≡◌, ◌⊎◌, ◌<◌, ◌≤◌, ◌+◌, ◌++◌, ℕ, List, [], ◌∷◌, drop, length, sym, ap, ◌∙◌, subst, refl, arith, append-nil, append_assoc, length-append, inl, inr, Ok, Err, Option}
use Rattle.std.proofs.lemmas.List.{drop_all, drop_more}
use Rattle.std.specs.Prelude.{slice_index_or}
use Rattle.af_io.specs.Observed.{Appended}
use Rattle.af_lib.specs.declared.fault.ConnFault.{ConnFault}
use Rattle.af_toolkit.specs.Parts.{Goes, Outcome, goes_on}
use Rattle.af_toolkit.proofs.PartLemmas.{Reached, goes_value, reached_goes, reached_here, reached_on}
use Rattle.af_request.specs.declared.reply.DeviceInfo.{DeviceInfo}
use Rattle.af_toolkit.specs.declared.end.ToolEnd.{ToolEnd}
use Rattle.af_toolkit.specs.Trace.{ClientState, refused}
use Rattle.af_toolkit.specs.ToolParts.{IsClientOf, ToolDeeds, ToolSight, doing, tooling}
use Rattle.af_toolkit.proofs.ToolPartLemmas.{is_tool}
use Rattle.af_toolkit.proofs.StepLemmas.{wrote, wrote_then}
use Rattle.af_standing.specs.List.{tells_device, tells_from, AsksNext, ListsInStep}

-- The lines of the devices before this number were written: whatever devices follow, listing goes on from here.
pub record IsTold (devices : List DeviceInfo) (number : ℕ) (o p : ToolSight) : Type 0 where
  pub told : List DeviceInfo
  pub count : length told ≡ number
  pub all : devices ≡ told ++ drop number devices
  pub reached : (others : List DeviceInfo) → Reached (tooling refused) (tells_from 0 (told ++ others)) (tells_from number others) o p

pub told_begin : (devices : List DeviceInfo) {o : ToolSight} → IsTold devices 0 o o
told_begin devices = record { told = []; count = refl; all = refl; reached = λ others. reached_here is_tool }

module _ {devices : List DeviceInfo} {number : ℕ} {o p : ToolSight} (t : IsTold devices number o p) where
  told_goes : Goes (tooling refused) (tells_from 0 t.told) (Ok tt) o p
  told_goes =
      let r = subst (λ (l : List DeviceInfo). Reached (tooling refused) (tells_from 0 l) (tells_from number []) o p) (append-nil t.told) (t.reached []) in
      reached_goes is_tool _ r (goes_value is_tool _)

  -- all were listed
  pub told_all : length devices ≤ number → {failed : Type 0} {w : ClientState} → IsClientOf o.link w → ListsInStep devices w failed o.link.sent p.link.sent o.held p.held
  told_all beyond {w = w} stands =
      let c = told_goes.came w stands in
      record {
        told = t.told;
        others = drop number devices;
        all = t.all;
        asked = [];
        written = [];
        past = wrote told_goes stands;
        next = (c.0, ap (λ (b : Outcome ToolDeeds (Unit {0} × ClientState) ConnFault). b.end) c.3, subst (λ (l : List DeviceInfo). AsksNext (length t.told) l c.0 []) (sym (drop_all number devices beyond)) refl);
        kept = inr refl;
      }

  module _ {stated : List DeviceInfo} (d : DeviceInfo) (same : stated ≡ devices) (within : number < length devices) where
    abbrev device : DeviceInfo
    device = slice_index_or stated number d

    parts : drop number devices ≡ device ∷ drop (number + 1) devices
    parts = drop_more devices number d within ∙ ap (λ (l : List DeviceInfo). slice_index_or l number d ∷ drop (number + 1) devices) (sym same)

    -- one more was listed
    pub told_on : {q : ToolSight} → Goes {X = Unit {0}} (tooling refused) (tells_device number device) (Ok tt) p q → IsTold devices (number + 1) o q
    told_on {q} goes = record {
      told = t.told ++ (device ∷ []);
      count = omega (arith, length-append t.told (device ∷ []), t.count);
      all = t.all ∙ ap (λ (l : List DeviceInfo). t.told ++ l) parts ∙ sym (append_assoc t.told (device ∷ []) (drop (number + 1) devices));
      reached = λ others.
          let r = subst (λ (l : List DeviceInfo). Reached (tooling refused) (tells_from 0 l) (goes_on doing (tells_device number device) (λ _. tells_from (number + 1) others)) o p) (sym (append_assoc t.told (device ∷ []) others)) (t.reached (device ∷ others)) in
          reached_on is_tool (λ _. tells_from (number + 1) others) r goes;
    }

    -- the next one was not
    pub told_cut : {how : ToolEnd} {q : ToolSight} → Goes {X = Unit {0}} (tooling refused) (tells_device number device) (Err how) p q → {failed : Type 0} → failed ⊎ (Appended p.held [] q.held) → {w : ClientState} → IsClientOf o.link w →
        ListsInStep devices w failed o.link.sent q.link.sent o.held q.held
    told_cut {q = q} goes {failed} cause {w} stands =
        let c = told_goes.came w stands in
        let e = goes.came c.0 c.1 in
        let front : (rest : List ℕ) × ((tells_device number device c.0).did.sends ≡ e.0.sends ++ rest) = elim e.1 [
          | inl outer ↦ (outer.1.0.sends, ap (λ (x : ToolDeeds). x.sends) outer.1.1)
          | inr ended ↦ ([], ap (λ (b : Outcome ToolDeeds (Unit {0} × ClientState) ConnFault). b.did.sends) ended.2 ∙ sym (append-nil e.0.sends))
        ] in
        let next = subst (λ (l : List DeviceInfo). AsksNext (length t.told) l c.0 e.0.sends) (sym parts)
        (subst (λ (n : ℕ). (rest : List ℕ) × ((tells_device n device c.0).did.sends ≡ e.0.sends ++ rest)) (sym t.count) front) in
        let ends = ap (λ (b : Outcome ToolDeeds (Unit {0} × ClientState) ConnFault). b.end) c.3 in
        let past = wrote told_goes stands in
        elim cause [
          | inl bad ↦ record {
            told = t.told;
            others = drop number devices;
            all = t.all;
            asked = e.0.sends;
            written = e.0.output;
            past = wrote_then e.0.sends e.0.output past e.2.0 e.2.1;
            next = (c.0, ends, next);
            kept = inl bad;
          }
          | inr same ↦ record {
            told = t.told;
            others = drop number devices;
            all = t.all;
            asked = e.0.sends;
            written = [];
            past = wrote_then e.0.sends [] past e.2.0 same;
            next = (c.0, ends, next);
            kept = inr refl;
          }
        ]

-- the same for a weaker cause
pub lists_for : {devices : List DeviceInfo} {w : ClientState} {failed failed' : Type 0} {a c h j : Option (List ℕ)} → (failed → failed') → ListsInStep devices w failed a c h j → ListsInStep devices w failed' a c h j
lists_for weaker s = record {
  told = s.told;
  others = s.others;
  all = s.all;
  asked = s.asked;
  written = s.written;
  past = s.past;
  next = s.next;
  kept = elim s.kept [ inl bad ↦ inl (weaker bad) | inr none ↦ inr none ];
}
