-- How far a tool came through its parts.
use Rattle.std.proofs.Common.{◌≡◌, ◌⊎◌, ℕ, true, List, [], ◌++◌, sym, ap, ◌∙◌, subst, refl, append-nil, append_assoc, inl, inr, false, IfErr, Result, Ok, Err, Option}
use Rattle.af_io.specs.Observed.{Appended}
use Rattle.af_io.proofs.AppendedLemmas.{appended_none, appended_on}
use Rattle.af_lib.specs.declared.fault.ConnFault.{ConnFault}
use Rattle.af_toolkit.specs.Parts.{Goes, Outcome, goes_on}
use Rattle.af_toolkit.proofs.PartLemmas.{goes_by}
use Rattle.af_toolkit.specs.declared.end.ToolEnd.{ToolEnd}
use Rattle.af_toolkit.specs.declared.end.ToolEnd.TheVariants as end
use Rattle.af_toolkit.specs.Trace.{ClientState, refused}
use Rattle.af_toolkit.specs.Ends.{is_of_link, is_of_link_or_sink, Writes}
use Rattle.af_toolkit.specs.ToolParts.{IsClientOf, ToolDeeds, ToolPart, ToolSight, doing, tooling}
use Rattle.af_toolkit.specs.Steps.{WroteThrough}

-- code came through a part, and no further
pub wrote : {X : Type 0} {part : ToolPart X} {x : X} {o p : ToolSight} {w : ClientState} → Goes (tooling refused) part (Ok x) o p → IsClientOf o.link w → WroteThrough part w [] [] o.link.sent p.link.sent o.held p.held
wrote {X} {x = x} {o} {p} {w} g stands =
    let c = g.came w stands in
    record {
      value = (x, c.0);
      replied = ap (λ (b : Outcome ToolDeeds (X × ClientState) ConnFault). b.end) c.3;
      link = subst (λ (b : Outcome ToolDeeds (X × ClientState) ConnFault). Appended o.link.sent (b.did.sends ++ []) p.link.sent) (sym c.3) (subst (λ (l : List ℕ). Appended o.link.sent l p.link.sent) (sym (append-nil c.2.sends)) c.4.0);
      sink = subst (λ (b : Outcome ToolDeeds (X × ClientState) ConnFault). Appended o.held (b.did.output ++ []) p.held) (sym c.3) (subst (λ (l : List ℕ). Appended o.held l p.held) (sym (append-nil c.2.output)) c.4.1);
    }

-- and then more was sent and written
pub wrote_then : {X : Type 0} {part : ToolPart X} {w : ClientState} {asked written : List ℕ} (asked' written' : List ℕ) {a b c h i j : Option (List ℕ)} → WroteThrough part w asked written a b h i → Appended b asked' c → Appended i written' j →
    WroteThrough part w (asked ++ asked') (written ++ written') a c h j
wrote_then {part = part} {w} {asked} {written} asked' written' {a} {b} {c} {h} {i} {j} went sends writes = record {
  value = went.value;
  replied = went.replied;
  link = subst (λ (l : List ℕ). Appended a l c) (append_assoc (part w).did.sends asked asked') (appended_on a b c ((part w).did.sends ++ asked) asked' went.link sends);
  sink = subst (λ (l : List ℕ). Appended h l j) (append_assoc (part w).did.output written written') (appended_on h i j ((part w).did.output ++ written) written' went.sink writes);
}

-- a part and the one after it
pub wrote_on : {X Y : Type 0} (part : ToolPart X) (next : X → ToolPart Y) {x : X} {w v : ClientState} {did : ToolDeeds} {asked written : List ℕ} {a b c h i j : Option (List ℕ)} → part w ≡ (let o : Outcome ToolDeeds (X × ClientState) ConnFault = record { did = did; end = Ok (x, v) } in o) →
    Appended a did.sends b → Appended h did.output i → WroteThrough (next x) v asked written b c i j → WroteThrough (goes_on doing part next) w asked written a c h j
wrote_on {Y = Y} part next {x} {w} {v} {did} {asked} {written} {a} {b} {c} {h} {i} {j} is sent output last =
    let whole = goes_by doing part next is in
    record {
      value = last.value;
      replied = ap (λ (o : Outcome ToolDeeds (Y × ClientState) ConnFault). o.end) whole ∙ last.replied;
      link = subst (λ (l : List ℕ). Appended a l c) (sym (ap (λ (o : Outcome ToolDeeds (Y × ClientState) ConnFault). o.did.sends ++ asked) whole ∙ append_assoc did.sends (next x v).did.sends asked))
          (appended_on a b c did.sends ((next x v).did.sends ++ asked) sent last.link);
      sink = subst (λ (l : List ℕ). Appended h l j) (sym (ap (λ (o : Outcome ToolDeeds (Y × ClientState) ConnFault). o.did.output ++ written) whole ∙ append_assoc did.output (next x v).did.output written))
          (appended_on h i j did.output ((next x v).did.output ++ written) output last.sink);
    }

-- the sink is as it was
pub held_same : {K : Type 0} (held : K → Option (List ℕ)) {sink sink' : K} → sink' ≡ sink → Appended (held sink) [] (held sink')
held_same held {sink} same = subst (λ (k : _). Appended (held sink) [] (held k)) (sym same) (appended_none (held sink))

-- an end for the sink, or for the link
pub of_sink : (how : ToolEnd) → is_of_link_or_sink how ≡ true → (how ≡ end.SinkFault) ⊎ (is_of_link how ≡ true)
of_sink end.SinkFault is = inl refl
of_sink how is = inr is

-- writing fails only for the sink
pub writes_end : {K : Type 0} (held : K → Option (List ℕ)) (bytes : List ℕ) (result : Result (Unit {0}) ToolEnd) (sink sink' : K) → Writes held bytes result sink sink' → IfErr result (λ how. how ≡ end.SinkFault)
writes_end held bytes (Ok x) sink sink' is = tt
writes_end held bytes (Err how) sink sink' is = is.0

pub not_link : {X : Type 0} (A : Type 0) (result : Result X ToolEnd) → IfErr result (λ how. how ≡ end.SinkFault) → IfErr result (λ how. is_of_link how ≡ true → A)
not_link A (Ok x) is = tt
not_link A (Err how) is = λ link. absurd (let bad : true ≡ false = sym link ∙ ap is_of_link is in cc bad)
