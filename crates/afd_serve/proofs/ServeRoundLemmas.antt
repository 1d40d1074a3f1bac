-- A server that waits and takes turns: the turns so far are a run, and each is that of its wait.
use Rattle.std.proofs.Common.{◌≡◌, ◌≢◌, ℕ, ◌+◌, Bool, true, List, [], ◌∷◌, ◌++◌, length, map, IfSome, refl, sym, ap, ◌∙◌, subst, append_assoc, append-nil, arith, if◌then◌else◌}
use Rattle.std.specs.declared.option.Option.{Option}
use Rattle.af_world.specs.declared.happening.Happening.TheVariants.{Woke}
use Rattle.af_world.specs.declared.happening.Wake.{Wake}
use Rattle.af_world.specs.declared.happening.Wake.TheVariants as wake
use Rattle.af_world.specs.declared.lifecycle.Lifecycle.{Lifecycle}
use Rattle.af_world.specs.declared.lifecycle.Lifecycle.TheVariants as noted
use Rattle.af_world.specs.declared.script.DeviceSpec.{DeviceSpec}
use Rattle.af_io.specs.Observed.{Appended, Unchanged}
use Rattle.af_world.specs.Log.{Log}
use Rattle.af_model.specs.State.{State, opening_state, links_of, outline, outline_with}
use Rattle.af_model.specs.Turn.{fits}
use Rattle.af_model.specs.Run.{wakes}
use Rattle.af_model.specs.More.{has_more}
use Rattle.af_model.specs.NoLoss.{StateLosesNone}
use Rattle.af_model.proofs.RunLemmas.{TurnsTo, log_of_parts, log_of_parts-more, turns_end_state, turns_more, turns_run}
use Rattle.af_isolation.proofs.LawsLemmas.{keeps_laws}
use Rattle.af_core.specs.Stands.{Kept, Stands, Turns, kept_lines, outline_of}
use Rattle.af_core.proofs.TurnLemmas.{same_lines}
use Rattle.af_model.proofs.NoLossLemmas.{opening_loses_none}
use Rattle.af_io.proofs.AppendedLemmas.{appended_none, appended_on, appended_stays, stays_appended, stays_same}
use Rattle.afd_serve.specs.declared.live.LiveEnd.{LiveEnd}
use Rattle.afd_serve.specs.declared.live.LiveEnd.TheVariants as end
use Rattle.afd_serve.specs.Serving.{WaitMade, IsTurnOf, Served, Serves, entry_of, wake_taken_as}
use Rattle.afd_serve.specs.declared.words.Waits.{Waits}
use Rattle.afd_serve.specs.declared.words.Waits.TheVariants as waits
use Rattle.afd_serve.specs.Ends.{IsCount, IsFewer, comes_to_wait, last_entry}
use Rattle.afd_serve.specs.Rounds.{AsksRightly, ServedUntil, TookTurn, WaitEnds}

-- One turn more

serves_more : (s mid end : State) (waits : List WaitMade) (log : Log) (wait : WaitMade) (part : Log) → Serves s waits log mid → IsTurnOf mid wait part end → Serves s (waits ++ wait ∷ []) (log ++ part) end
serves_more s mid end [] log wait part h t =
    let whole : log ++ part ≡ part ++ [] = ap (λ l. l ++ part) h.0 ∙ sym (append-nil part) in
    (record { part = part; rest = []; whole = whole; next = end; turn = subst (λ m. IsTurnOf m wait part end) h.1 t }, (refl, refl))
serves_more s mid end (w ∷ waits) log wait part h t =
    let first = h.0 in
    let whole : log ++ part ≡ first.part ++ (first.rest ++ part) = ap (λ l. l ++ part) first.whole ∙ append_assoc first.part first.rest part in
    (record { part = first.part; rest = first.rest ++ part; whole = whole; next = first.next; turn = first.turn }, serves_more first.next mid end waits first.rest wait part h.1 t)

map-more : {A B : Type 0} (f : A → B) (xs : List A) (x : A) → map f (xs ++ x ∷ []) ≡ map f xs ++ f x ∷ []
map-more f [] x = refl
map-more f (y ∷ xs) x = ap (λ l. f y ∷ l) (map-more f xs x)

length-more : {A : Type 0} (xs : List A) (x : A) → length (xs ++ x ∷ []) ≡ length xs + 1
length-more [] x = refl
length-more (y ∷ xs) x = let e = length-more xs x in omega arith

-- what a core keeps has the outline of the state that it stands for
same_outline : (kept : Kept) (s : State) → Stands kept s → outline s ≡ outline_of kept
same_outline kept s stands =
    ap (λ lines. outline_with lines (links_of s.slots)) (same_lines kept.devices s.devices stands.kept.devices) ∙ ap (λ l. outline_with (kept_lines kept.devices) l) stands.kept.links

-- a wait and the turn of its wake
pub took_turn : (kept kept' : Kept) (log log1 log2 : Option Log) (lifecycle lifecycle1 lifecycle2 : Option (List Lifecycle)) (more : Bool) (w : Wake) → AsksRightly kept more → w ≢ wake.Stop → Unchanged log log1 → Appended lifecycle (noted.Waited more w ∷ []) lifecycle1 →
    Turns log1 log2 (if fits (outline_of kept) w then w else wake.Idle) kept kept' → Unchanged lifecycle1 lifecycle2 → TookTurn kept kept' log log2 lifecycle lifecycle2
took_turn kept kept' log log1 log2 lifecycle lifecycle1 lifecycle2 more w asks goes_on quiet entry turns apart = record {
  more = more;
  gave = w;
  asked = asks;
  goes_on = goes_on;
  told = appended_stays lifecycle lifecycle1 lifecycle2 (noted.Waited more w ∷ []) entry apart;
  turns = record {
    devices = turns.devices;
    links = turns.links;
    part = turns.part;
    told = stays_appended log log1 log2 turns.part quiet turns.told;
    rest = turns.rest;
    begins = turns.begins;
    only = turns.only;
    each = turns.each;
  };
}

-- Rounds

-- So many waits had their turns.
pub record Runs (config : List DeviceSpec) (kept : Kept) (n : ℕ) (log log' : Option Log) (lifecycle lifecycle' : Option (List Lifecycle)) : Type 0 where
  pub waits : List WaitMade
  pub count : length waits ≡ n
  pub parts : List Log
  pub state : State
  pub added : Appended log (log_of_parts parts) log'
  pub told : Appended lifecycle (map entry_of waits) lifecycle'
  pub serves : Serves (opening_state config) waits (log_of_parts parts) state
  pub turns : TurnsTo (opening_state config) parts state
  pub stands : Stands kept state
  pub lossless : StateLosesNone state

module _ (config : List DeviceSpec) where
  pub runs_start : (kept : Kept) (log : Option Log) (lifecycle : Option (List Lifecycle)) → Stands kept (opening_state config) → Runs config kept 0 log log lifecycle lifecycle
  runs_start kept log lifecycle stands = record {
    waits = [];
    count = refl;
    parts = [];
    state = opening_state config;
    added = appended_none log;
    told = appended_none lifecycle;
    serves = (refl, refl);
    turns = refl;
    stands = stands;
    lossless = opening_loses_none config;
  }

  -- one more wait and its turn
  pub runs_more : (kept kept' : Kept) (n : ℕ) (log log1 log2 : Option Log) (lifecycle lifecycle1 lifecycle2 : Option (List Lifecycle)) → Runs config kept n log log1 lifecycle lifecycle1 → TookTurn kept kept' log1 log2 lifecycle1 lifecycle2 →
      Runs config kept' (n + 1) log log2 lifecycle lifecycle2
  runs_more kept kept' n log log1 log2 lifecycle lifecycle1 lifecycle2 r took =
      let w : Wake = took.gave in
      let wait : WaitMade = record { more = took.more; wake = w } in
      let turns = took.turns in
      let from = turns.each r.state r.stands in
      let taken : wake_taken_as r.state w ≡ (if fits (outline_of kept) w then w else wake.Idle) = ap (λ o. if fits o w then w else wake.Idle) (same_outline kept r.state r.stands) in
      let turn : IsTurnOf r.state wait turns.part from.next = record {
        asked = took.asked r.state r.stands;
        goes_on = took.goes_on;
        tail = turns.rest;
        begins = turns.begins ∙ ap (λ x. Woke x ∷ turns.rest) (sym taken);
        only = turns.only;
        is_turn = from.is_turn;
      } in
      let only = turns.only in
      let one : wakes turns.part ≡ 1 = ap wakes turns.begins ∙ omega (arith, only) in
      let count = r.count in
      record {
        waits = r.waits ++ wait ∷ [];
        count = length-more r.waits wait ∙ omega (arith, count);
        parts = r.parts ++ turns.part ∷ [];
        state = from.next;
        added = subst (λ l. Appended log l log2) (sym (log_of_parts-more r.parts turns.part)) (appended_on log log1 log2 (log_of_parts r.parts) turns.part r.added turns.told);
        told = subst (λ l. Appended lifecycle l lifecycle2) (sym (map-more entry_of r.waits wait)) (appended_on lifecycle lifecycle1 lifecycle2 (map entry_of r.waits) (entry_of wait ∷ []) r.told took.told);
        serves = subst (λ l. Serves (opening_state config) (r.waits ++ wait ∷ []) l from.next) (sym (log_of_parts-more r.parts turns.part)) (serves_more (opening_state config) r.state from.next r.waits (log_of_parts r.parts) wait turns.part r.serves turn);
        turns = turns_more (opening_state config) r.state from.next r.parts turns.part r.turns (record { is_turn = from.is_turn; one = one });
        stands = from.stands;
        lossless = from.lossless;
      }

  -- the end of it all, after a last entry or none
  runs_end : (kept : Kept) (n : ℕ) (most : Waits) (end : LiveEnd) (log log1 log2 : Option Log) (lifecycle lifecycle1 lifecycle2 : Option (List Lifecycle)) (r : Runs config kept n log log1 lifecycle lifecycle1) → comes_to_wait end ≡ true → IsCount end n most →
      Unchanged log1 log2 → Appended lifecycle1 (last_entry end r.state) lifecycle2 → ServedUntil config end most log log2 lifecycle lifecycle2
  runs_end kept n most end log log1 log2 lifecycle lifecycle1 lifecycle2 r is_end count quiet last = record {
    is_end = is_end;
    asked = r.waits;
    count = subst (λ m. IsCount end m most) (sym r.count) count;
    served = record {
      added = log_of_parts r.parts;
      appended = appended_stays log log1 log2 (log_of_parts r.parts) r.added quiet;
      end = r.state;
      serves = r.serves;
      told = appended_on lifecycle lifecycle1 lifecycle2 (map entry_of r.waits) (last_entry end r.state) r.told last;
      is_run = turns_run config r.state r.parts r.turns;
      laws = keeps_laws config (log_of_parts r.parts) (subst (λ o. IfSome o StateLosesNone) (sym (turns_end_state config r.state r.parts r.turns)) r.lossless);
    };
  }

  -- a wait gave Stop, or failed
  pub runs_ended : (kept : Kept) (n : ℕ) (most : Waits) (end : LiveEnd) (log log1 log2 : Option Log) (lifecycle lifecycle1 lifecycle2 : Option (List Lifecycle)) → Runs config kept n log log1 lifecycle lifecycle1 → IsFewer n most → Unchanged log1 log2 →
      WaitEnds end kept lifecycle1 lifecycle2 → ServedUntil config end most log log2 lifecycle lifecycle2
  runs_ended kept n most end.Done log log1 log2 lifecycle lifecycle1 lifecycle2 r fewer quiet stop =
      let entry : Lifecycle = noted.Waited (has_more r.state) wake.Stop in
      let same : noted.Waited stop.more wake.Stop ≡ entry = ap (λ b. noted.Waited b wake.Stop) (stop.asked r.state r.stands) in
      runs_end kept n most end.Done log log1 log2 lifecycle lifecycle1 lifecycle2 r refl fewer quiet (subst (λ e. Appended lifecycle1 (e ∷ []) lifecycle2) same stop.told)
  runs_ended kept n most end.WaitFault log log1 log2 lifecycle lifecycle1 lifecycle2 r fewer quiet none =
      runs_end kept n most end.WaitFault log log1 log2 lifecycle lifecycle1 lifecycle2 r refl fewer quiet none
  runs_ended kept n most _ log log1 log2 lifecycle lifecycle1 lifecycle2 r fewer quiet ended = absurd ended

  -- all waits had their turns
  pub runs_spent : (kept : Kept) (n most : ℕ) (log log1 : Option Log) (lifecycle lifecycle1 : Option (List Lifecycle)) → Runs config kept n log log1 lifecycle lifecycle1 → n ≡ most → ServedUntil config end.WaitsSpent (waits.Number most) log log1 lifecycle lifecycle1
  runs_spent kept n most log log1 lifecycle lifecycle1 r all =
      runs_end kept n (waits.Number most) end.WaitsSpent log log1 log1 lifecycle lifecycle1 lifecycle1 r refl all (stays_same log1) (appended_none lifecycle1)

-- the same after a start
pub served_after : (config : List DeviceSpec) (front : List Lifecycle) (last : State → List Lifecycle) (waits : List WaitMade) (log log1 log2 : Option Log) (lifecycle lifecycle1 lifecycle2 : Option (List Lifecycle)) →
    Unchanged log log1 → Appended lifecycle front lifecycle1 → Served config [] last waits log1 log2 lifecycle1 lifecycle2 → Served config front last waits log log2 lifecycle lifecycle2
served_after config front last waits log log1 log2 lifecycle lifecycle1 lifecycle2 quiet appended s = record {
  added = s.added;
  appended = stays_appended log log1 log2 s.added quiet s.appended;
  end = s.end;
  serves = s.serves;
  told = appended_on lifecycle lifecycle1 lifecycle2 front (map entry_of waits ++ last s.end) appended s.told;
  is_run = s.is_run;
  laws = s.laws;
}
