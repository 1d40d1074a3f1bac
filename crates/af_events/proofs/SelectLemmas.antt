-- The server is asked for events of one device after another.
use Rattle.std.proofs.Common.{◌≡◌, ◌<◌, ◌≤◌, ◌+◌, ℕ, List, ◌∷◌, drop, length, ap, sym, ◌∙◌, Result, Ok}
use Rattle.std.proofs.lemmas.List.{drop_all, drop_more}
use Rattle.std.specs.Prelude.{slice_index_or}
use Rattle.af_request.specs.declared.reply.DeviceInfo.{DeviceInfo}
use Rattle.af_toolkit.specs.Parts.{Goes, goes_on, has_value}
use Rattle.af_toolkit.proofs.PartLemmas.{Reached, reached_on}
use Rattle.af_toolkit.specs.declared.end.ToolEnd.{ToolEnd}
use Rattle.af_toolkit.specs.Trace.{refused}
use Rattle.af_toolkit.specs.ToolParts.{ToolSight, doing, tooling}
use Rattle.af_toolkit.proofs.ToolPartLemmas.{is_tool}
use Rattle.af_cli.specs.declared.events.EventKinds.{EventKinds}
use Rattle.af_events.specs.Trace.{selects_from, selects_if}

-- the devices with this number and greater ones are left to be asked for
module _ (kinds : EventKinds) {devices stated : List DeviceInfo} {number : ℕ} (d : DeviceInfo) (same : stated ≡ devices) (within : number < length devices) where
  left : selects_from kinds number (drop number devices) ≡ goes_on doing (selects_if (slice_index_or stated number d).line kinds number) (λ _. selects_from kinds (number + 1) (drop (number + 1) devices))
  left = ap (selects_from kinds number) (drop_more devices number d within ∙ ap (λ (l : List DeviceInfo). slice_index_or l number d ∷ drop (number + 1) devices) (sym same))

  -- the first of them comes next, or it was asked for
  pub select_next : {r : Result (Unit {0}) ToolEnd} {o p : ToolSight} → Goes (tooling refused) (goes_on doing (selects_if (slice_index_or stated number d).line kinds number) (λ _. selects_from kinds (number + 1) (drop (number + 1) devices))) r o p →
      Goes (tooling refused) (selects_from kinds number (drop number devices)) r o p
  select_next g = rw left g

  pub selecting_on : {o p q : ToolSight} → Reached (tooling refused) (selects_from kinds 0 devices) (selects_from kinds number (drop number devices)) o p → Goes {X = Unit {0}} (tooling refused) (selects_if (slice_index_or stated number d).line kinds number) (Ok tt) p q →
      Reached (tooling refused) (selects_from kinds 0 devices) (selects_from kinds (number + 1) (drop (number + 1) devices)) o q
  selecting_on t g = reached_on is_tool (λ _. selects_from kinds (number + 1) (drop (number + 1) devices)) (rw left at t) g

pub select_none : (kinds : EventKinds) (devices : List DeviceInfo) (number : ℕ) → length devices ≤ number → selects_from kinds number (drop number devices) ≡ has_value doing tt
select_none kinds devices number beyond = ap (selects_from kinds number) (drop_all number devices beyond)
