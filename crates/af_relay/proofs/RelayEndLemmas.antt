-- How a relay ends, by its two devices and its trace.
use Rattle.std.proofs.Common.{◌≡◌, ◌≢◌, ◌↔◌, ◌==◌, ◌++◌, ℕ, Bool, true, false, List, [], slice_get, ok_or, append-nil, sym, ap, ◌∙◌, subst, refl, inl, inr, if◌then◌else◌}
use Rattle.std.specs.Prelude.{Result, Ok, Err, IsOk, Option, None, Some}
use Rattle.std.proofs.lemmas.Bool.{eqb-true}
use Rattle.af_io.specs.Observed.{Appended}
use Rattle.af_request.specs.declared.reply.DeviceInfo.{DeviceInfo}
use Rattle.af_lib.specs.Calls.{channels_or_one, device_channels}
use Rattle.af_lib.specs.declared.fault.ConnFault.{ConnFault}
use Rattle.af_toolkit.specs.declared.end.ToolEnd.{ToolEnd}
use Rattle.af_toolkit.specs.declared.end.ToolEnd.TheVariants as end
use Rattle.af_cli.specs.declared.job.PassJob.{PassJob}
use Rattle.af_toolkit.specs.Trace.{Finish, ClientState, channel_mismatch, done, tool_end, ends, mismatch, no_device, one_shape, refused, value_by, writes_first}
use Rattle.af_toolkit.specs.Parts.{Goes, Outcome, end_among, followed, goes_on, part_among, part_by}
use Rattle.af_toolkit.specs.ToolParts.{IsClientOf, LinkSight}
use Rattle.af_relay.specs.RelayParts.{RelayDid, SendsBoth, relaying}
use Rattle.af_toolkit.specs.Ends.{MatchesTrace, ObservedTrace, is_outer}
use Rattle.af_relay.specs.Pair.{pair_of, EndsByPair}
use Rattle.af_relay.specs.Pass.{Both, RelayDeeds, RelayPart, apass_trace, block_count, both, deeds, doing, finish_of, on_from, passed_text, passes_between, relay_of, relays, writes_line}
use Rattle.af_relay.specs.Relayed.{ApassRan, IsRelayed}
use Rattle.af_io.proofs.AppendedLemmas.{appended_none, appended_on}
use Rattle.af_toolkit.proofs.ToolPartLemmas.{ended_at_once}
use Rattle.af_toolkit.proofs.ToolEndLemmas.{IsDoneOrRefused, done_where_answered, finish_done, finish_is, reply_of}
use Rattle.af_relay.proofs.RelayPartLemmas.{matches_whole, relay_goes_on, relay_stops}

-- a pair has as many channels, and no pair that is missing is an end as done
abbrev pub IsPair : Option DeviceInfo → Option DeviceInfo → Result DeviceInfo Finish → Type 0
IsPair o p (Ok a) = (other : DeviceInfo) × (o ≡ Some a) × (p ≡ Some other) × (other.channels ≡ a.channels)
IsPair o p (Err finish) = finish ≢ done

shapes : (b c : Bool) (x y : DeviceInfo) → (x.channels == y.channels) ≡ c →
    IsPair (Some x) (Some y) (value_by (let r : Result (Unit {0}) Finish = if b then (if c then Ok tt else Err (channel_mismatch x.channels y.channels)) else Err (mismatch x.rate y.rate) in r) (λ _. Ok x))
shapes true true x y channels = (y, refl, refl, sym (eqb-true x.channels y.channels channels))
shapes true false x y channels = λ e. cc e
shapes false c x y channels = λ e. cc e

pairs : (o p : Option DeviceInfo) (n m : ℕ) → IsPair o p (value_by (ok_or o (no_device n)) (λ one. value_by (ok_or p (no_device m)) (λ other. value_by (one_shape one.rate one.channels other.rate other.channels) (λ _. Ok one))))
pairs None p n m = λ e. cc e
pairs (Some x) None n m = λ e. cc e
pairs (Some x) (Some y) n m = shapes (x.rate == y.rate) (x.channels == y.channels) x y refl

-- a value or an end, by the same under another name
pub among_ok : {X : Type 0} {x : X} (r : Result X Finish) → (let ok : Result X ToolEnd = Ok x in ok ≡ end_among tool_end r) → r ≡ Ok x
among_ok (Ok y) is = cc
among_ok (Err finish) is = cc

pub among_err : {X : Type 0} {how : ToolEnd} (r : Result X Finish) → (let err : Result X ToolEnd = Err how in err ≡ end_among tool_end r) → (finish : Finish) × (r ≡ Err finish) × (how ≡ tool_end finish)
among_err (Ok y) is = absurd (cc)
among_err (Err finish) is = (finish, refl, cc)

-- what follows the last block
abbrev pub reports : PassJob → ℕ → RelayPart Finish (Unit {0})
reports job resynced = writes_line (passed_text (block_count job.blocks) resynced)

abbrev pub between : PassJob → DeviceInfo → RelayPart Finish (Unit {0})
between job device = goes_on doing (part_among refused (passes_between job device)) (reports job)

module _ (job : PassJob) (from to : List DeviceInfo) where
  pub pair_is : (r : Result DeviceInfo Finish) → pair_of from job.from_device to job.to_device ≡ r → IsPair (slice_get from job.from_device) (slice_get to job.to_device) r
  pair_is r is = subst (λ (r : Result DeviceInfo Finish). IsPair (slice_get from job.from_device) (slice_get to job.to_device) r) is (pairs (slice_get from job.from_device) (slice_get to job.to_device) _ _)

  -- the devices of a relay have as many channels as the one that is recorded
  pub pair_alike : (a : DeviceInfo) → pair_of from job.from_device to job.to_device ≡ Ok a → (device_channels from job.from_device ≡ a.channels) × (device_channels to job.to_device ≡ a.channels)
  pair_alike a is = let q = pair_is (Ok a) is in (ap channels_or_one q.1, ap channels_or_one q.2 ∙ q.3)

  pub relays_by : (r : Result DeviceInfo Finish) → pair_of from job.from_device to job.to_device ≡ r → relays job from to ≡ part_by doing r (between job)
  unfolding relays
  relays_by r is = ap (λ (r : Result DeviceInfo Finish). part_by doing r (between job)) is

-- a relay that passes blocks and then writes how that went, by how code came through the first of these
module _ (job : PassJob) (device : DeviceInfo) (v w : ClientState) where
  pub between_stopped : {how : ToolEnd} {before after : Both LinkSight} {held : Option (List ℕ)} → Goes (relaying refused) (passes_between job device) (Err how) before after → IsClientOf before.from v → IsClientOf before.to w →
      RelayDid (relay_of (between job device (both v w))) how held held (λ did. SendsBoth did (both before.from.sent before.to.sent) (both after.from.sent after.to.sent))
  between_stopped {held} g from to =
      let c = g.came (both v w) (from, to) in
      record { did = c.0; matches = relay_stops (passes_between job device) (reports job) c.1; sink = subst (λ (l : List ℕ). Appended held l held) (sym c.2.2) (appended_none held); sent = (c.2.0, c.2.1) }

  pub between_reported : {how : ToolEnd} {resynced : ℕ} {before after : Both LinkSight} {held held' : Option (List ℕ)} → Goes (relaying refused) (passes_between job device) (Ok resynced) before after → IsClientOf before.from v → IsClientOf before.to w →
      ObservedTrace (writes_first (passed_text (block_count job.blocks) resynced) (ends done)) how after.from.sent after.from.sent held held' →
      RelayDid (relay_of (between job device (both v w))) how held held' (λ did. SendsBoth did (both before.from.sent before.to.sent) (both after.from.sent after.to.sent))
  between_reported {how} {resynced} {before} {after} {held} {held'} g from to f =
      let c = g.came (both v w) (from, to) in
      let did = c.2 in
      let text = passed_text (block_count job.blocks) resynced in
      let line : MatchesTrace (record { sends = []; output = text; finish = done }) how [] f.output = record {
        unsent = [];
        unwritten = f.ended.unwritten;
        sent = refl;
        wrote = sym (append-nil text) ∙ f.ended.wrote;
        whole = λ inner. (let e = f.ended.whole inner in (e.0, refl, e.2));
      } in
      record {
        did = doing.joined did (deeds [] [] f.output);
        matches = relay_goes_on (passes_between job device) (reports job) c.3 (record { recorded = line; played = line });
        sink = subst (λ (l : List ℕ). Appended held (l ++ f.output) held') (sym c.4.2) f.sink;
        sent = (appended_on before.from.sent after.from.sent after.from.sent did.from [] c.4.0 (appended_none after.from.sent), appended_on before.to.sent after.to.sent after.to.sent did.to [] c.4.1 (appended_none after.to.sent));
      }

-- an end for want of devices, of one rate, or of as many channels, and any other end
pub ends_apart : {how : ToolEnd} (finish : Finish) → how ≡ tool_end finish → EndsByPair (Err finish) how
ends_apart {how} finish way =
    let is : (g : Finish) → is_outer (tool_end g) ≡ false → (how ≡ tool_end g) ↔ (let e : Result DeviceInfo Finish = Err finish in e ≡ Err g) =
    λ g inner. (λ same. ap (λ (f : Finish). (let e : Result DeviceInfo Finish = Err f in e)) (finish_is (ends finish) how [] [] (ended_at_once (ends finish) how [] [] refl refl way) g inner same), λ same. (let one : finish ≡ g = cc in way ∙ ap tool_end one)) in
    record { no_device = λ n. is (no_device n) refl; rates = λ a b. is (mismatch a b) refl; shapes = λ a b. is (channel_mismatch a b) refl }

pub ends_together : (a : DeviceInfo) (how : ToolEnd) (test : ToolEnd → Bool) → test how ≡ true → ((n : ℕ) → test (end.NoDevice n) ≡ false) → ((m n : ℕ) → test (end.RateMismatch m n) ≡ false) → ((m n : ℕ) → test (end.ChannelMismatch m n) ≡ false) → EndsByPair (Ok a) how
ends_together a how test passes none rates shapes =
    record { no_device = λ n. (λ same. cc (none n), λ refused. cc); rates = λ m n. (λ same. cc (rates m n), λ refused. cc); shapes = λ m n. (λ same. cc (shapes m n), λ refused. cc) }

-- a relay that begins with a part that ends for faults alone is done or refused if what follows is
followed_finish : {X : Type 0} (did : RelayDeeds) (end : Result (X × Both ClientState) ConnFault) (next : X × Both ClientState → Outcome RelayDeeds (Unit {0} × Both ClientState) Finish) → ((y : X × Both ClientState) → IsDoneOrRefused (finish_of (next y).end)) →
    IsDoneOrRefused (finish_of (followed doing did (end_among refused end) next).end)
followed_finish did (Ok y) next more = more y
followed_finish did (Err f) next more = inr (f, refl)

-- so is one between two devices of one rate and as many channels
paired_finish : (job : PassJob) (from to : List DeviceInfo) (v w : ClientState) (r : Result DeviceInfo Finish) → pair_of from job.from_device to job.to_device ≡ r → IsOk r → IsDoneOrRefused (apass_trace job from to v w).finish
unfolding goes_on
paired_finish job from to v w (Ok device) is ok = rw (relays_by job from to (Ok device) is) (followed_finish _ (passes_between job device (both v w)).end _ (λ y. inl refl))
paired_finish job from to v w (Err how) is ok = absurd (cc)

-- what a relay has done that followed its trace
pub pass_ran : (job : PassJob) (from to : List DeviceInfo) (v w : ClientState) {how : ToolEnd} {sent sent' : Both (Option (List ℕ))} {h h' : Option (List ℕ)} → RelayDid (apass_trace job from to v w) how h h' (λ did. SendsBoth did sent sent') →
    (how ≡ end.Done → IsRelayed job from v w sent sent' h h') → ApassRan job from to v w how sent sent' h h'
pass_ran job from to v w {how} f relayed = record {
  followed = f;
  relayed = relayed;
  reply = reply_of (on_from (apass_trace job from to v w)) how f.did.from f.did.output f.matches.recorded;
  complete = λ ok answered. done_where_answered (on_from (apass_trace job from to v w)) how f.did.from f.did.output f.matches.recorded
      (paired_finish job from to v w (pair_of from job.from_device to job.to_device) refl ok) answered;
}

-- what one has done whose devices are not there or differ
pub apart_ran : (job : PassJob) (from to : List DeviceInfo) (v w : ClientState) {how : ToolEnd} {sent : Both (Option (List ℕ))} {h : Option (List ℕ)} (finish : Finish) → pair_of from job.from_device to job.to_device ≡ Err finish → how ≡ tool_end finish →
    ApassRan job from to v w how sent sent h h
apart_ran job from to v w {sent} {h} finish is way =
    pass_ran job from to v w (rw (relays_by job from to (Err finish) is) (record {
      did = doing.nothing;
      matches = matches_whole (record { did = doing.nothing; finish = finish }) way;
      sink = appended_none h;
      sent = (appended_none sent.from, appended_none sent.to);
    })) (λ is_done. absurd (pair_is job from to (Err finish) is (finish_done finish (sym way ∙ is_done))))
