-- Blocks that are recorded, one after another, as parts of the tool.
use Rattle.std.proofs.Common.{◌≡◌, ℕ, zero, suc, ◌+◌, ◌-◌, ◌%◌, ◌^◌, ◌<◌, ◌≤◌, ◌==◌, min, Bool, true, false, List, [], ◌∷◌, ◌++◌, sym, ap, ap₂, ◌∙◌, refl, arith, inl, inr, Ok, Err, Result, append-nil, Option}
use Rattle.std.proofs.lemmas.Bool.{ne_eqb}
use Rattle.af_toolkit.specs.declared.end.ToolEnd.{ToolEnd}
use Rattle.af_toolkit.specs.declared.end.ToolEnd.TheVariants as end
use Rattle.af_toolkit.specs.Ends.{KeepsConnection, is_outer}
use Rattle.af_lib.specs.Calls.{ConnState}
use Rattle.af_toolkit.specs.Parts.{Goes, Outcome, goes_on, has_value}
use Rattle.af_toolkit.specs.Trace.{ClientState, refused}
use Rattle.af_toolkit.specs.ToolParts.{ToolDeeds, ToolPart, ToolSight, deeds, doing, tooling}
use Rattle.af_lib.specs.declared.fault.ConnFault.{ConnFault}
use Rattle.af_toolkit.proofs.PartLemmas.{Reached, goes_by, goes_stop, goes_value, reached_goes, reached_here, reached_on}
use Rattle.af_toolkit.proofs.ToolPartLemmas.{is_tool}
use Rattle.af_logger.specs.declared.block.Came.{Came}
use Rattle.af_logger.specs.declared.plan.Plan.{Plan}
use Rattle.af_logger.specs.Pieces.{Block}
use Rattle.af_logger.specs.Trace.{block_by, block_lengths, lengths_of, takes_blocks, takes_one, takes_pieces}

-- a block that did not come
pub block_fault : {r : Result Came ToolEnd} {how : ToolEnd} (bytes : List ℕ) → r ≡ Err how → block_by r bytes ≡ Err how
block_fault bytes is = rw is refl

-- something from outside ended the tool after the first of two parts
pub goes_cut : {X Y : Type 0} {part : ToolPart X} (next : X → ToolPart Y) {x : X} {how : ToolEnd} {result : Result Y ToolEnd} {o p : ToolSight} → result ≡ Err how → is_outer how ≡ true → Goes (tooling refused) part (Ok x) o p → Goes (tooling refused) (goes_on doing part next) result o p
goes_cut {X} {Y} next {x} same outer g = rw same (record {
  came = λ s stands.
      let c = g.came s stands in
      (c.2, inl (outer, ((next x c.0).did, ap (λ (o : Outcome ToolDeeds (Y × ClientState) ConnFault). o.did) (goes_by doing _ next c.3))), c.4);
})

-- how many frames the next block has
lengths_next : (n block left : ℕ) → 0 < n → 0 < left → lengths_of n block left ≡ min left block ∷ lengths_of (n - 1) block (left - min left block)
unfolding lengths_of
lengths_next zero block left some more = absurd (omega (arith, some))
lengths_next (suc n) block left some more =
    let test : (left == 0) ≡ false = ne_eqb left 0 (λ none. omega (arith, none, more)) in
    let less : suc n - 1 ≡ n = omega arith in
    rw (test, less) refl

lengths_none : (n block : ℕ) → lengths_of n block 0 ≡ []
unfolding lengths_of
lengths_none zero block = refl
lengths_none (suc n) block = refl

-- so many frames of a piece are left to be recorded
pub record IsTaking (part : ToolPart (Unit {0})) (plan : Plan) (at left : ℕ) (o p : ToolSight) : Type 0 where
  pub most : ℕ
  pub within : left ≤ most
  pub reached : Reached (tooling refused) part (takes_blocks plan at (lengths_of most plan.block left)) o p

pub taking_begin : (plan : Plan) (at : ℕ) {o : ToolSight} → IsTaking (takes_blocks plan at (block_lengths plan.block plan.frames)) plan at plan.frames o o
taking_begin plan at = record { most = plan.frames; within = omega arith; reached = reached_here is_tool }

module _ {part : ToolPart (Unit {0})} {plan : Plan} {at left : ℕ} {o p : ToolSight} (t : IsTaking part plan at left o p) where
  -- none is left
  pub taking_done : left ≡ 0 → Goes (tooling refused) part (Ok tt) o p
  unfolding takes_blocks
  taking_done none =
      reached_goes is_tool _ (rw (ap (lengths_of t.most plan.block) none ∙ lengths_none t.most plan.block) at t.reached) (goes_value is_tool tt)

  module _ (some : 0 < left) {n : ℕ} (is : n ≡ min left plan.block) where
    abbrev rest : Unit {0} → ToolPart (Unit {0})
    rest _ = takes_blocks plan ((at + n) % 2 ^ 32) (lengths_of (t.most - 1) plan.block (left - n))

    next : takes_blocks plan at (lengths_of t.most plan.block left) ≡ goes_on doing (takes_one plan at n) rest
    unfolding takes_blocks
    next = rw (is, lengths_next t.most plan.block left (let any = t.within in omega (arith, some, any)) some) refl

    -- the tool ended within a block
    pub taking_stopped : {how : ToolEnd} {result : Result (Unit {0}) ToolEnd} {q : ToolSight} → result ≡ Err how → Goes {X = Unit {0}} (tooling refused) (takes_one plan at n) (Err how) p q → Goes (tooling refused) part result o q
    taking_stopped same goes = reached_goes is_tool _ t.reached (rw next (goes_stop is_tool rest same goes))

    -- or it goes on
    pub taking_on : 0 < n → {q : ToolSight} → Goes (tooling refused) (takes_one plan at n) (Ok tt) p q → {at' : ℕ} → at' ≡ (at + n) % 2 ^ 32 → IsTaking part plan at' (left - n) o q
    taking_on any goes place = record {
      most = t.most - 1;
      within = (let w = t.within in let less : left - n ≤ t.most - 1 = omega (arith, w, any, some) in less);
      reached = rw place (reached_on is_tool rest (rw next at t.reached) goes);
    }

-- so many pieces are left to be recorded
pub record IsLogging (part : ToolPart (Unit {0})) (plan : Plan) (at left : ℕ) (o p : ToolSight) : Type 0 where
  pub reached : Reached (tooling refused) part (takes_pieces left plan at) o p

pub logging_begin : {plan : Plan} {at left : ℕ} {o : ToolSight} → IsLogging (takes_pieces left plan at) plan at left o o
logging_begin = record { reached = reached_here is_tool }

module _ {part : ToolPart (Unit {0})} {plan : Plan} {at left : ℕ} {o p : ToolSight} (t : IsLogging part plan at left o p) where
  pub logging_done : left ≡ 0 → Goes (tooling refused) part (Ok tt) o p
  unfolding takes_pieces
  logging_done none = reached_goes is_tool _ (rw none at t.reached) (goes_value is_tool tt)

  abbrev piece_now : ToolPart (Unit {0})
  piece_now = takes_blocks plan at (block_lengths plan.block plan.frames)

  abbrev later : Unit {0} → ToolPart (Unit {0})
  later _ = takes_pieces (left - 1) plan ((at + plan.frames) % 2 ^ 32)

  next_piece : (left : ℕ) → 0 < left → takes_pieces left plan at ≡ goes_on doing piece_now (λ _. takes_pieces (left - 1) plan ((at + plan.frames) % 2 ^ 32))
  unfolding takes_pieces
  next_piece zero some = absurd (omega (arith, some))
  next_piece (suc n) some = let less : suc n - 1 ≡ n = omega arith in rw less refl

  module _ (some : 0 < left) where
    pub logging_stopped : {how : ToolEnd} {result : Result (Unit {0}) ToolEnd} {q : ToolSight} → result ≡ Err how → Goes {X = Unit {0}} (tooling refused) piece_now (Err how) p q → Goes (tooling refused) part result o q
    logging_stopped same goes = reached_goes is_tool _ t.reached (rw (next_piece left some) (goes_stop is_tool later same goes))

    pub logging_on : {q : ToolSight} → Goes (tooling refused) piece_now (Ok tt) p q → {at' : ℕ} → at' ≡ (at + plan.frames) % 2 ^ 32 → IsLogging part plan at' (left - 1) o q
    logging_on goes place = record { reached = rw place (reached_on is_tool later (rw (next_piece left some) at t.reached) goes) }

-- The ends that come from outside may come after any part

no_more : (d : ToolDeeds) → d ≡ doing.joined d doing.nothing
no_more d = ap₂ (λ (s o : List ℕ). deeds s o) (sym (append-nil d.sends)) (sym (append-nil d.output))

pub goes_outer : {X : Type 0} {part : ToolPart X} (r : Result X ToolEnd) {how : ToolEnd} {o p : ToolSight} → is_outer how ≡ true → Goes (tooling refused) part r o p → Goes {X = X} (tooling refused) part (Err how) o p
goes_outer {X} {part} (Ok x) outer g = record {
  came = λ s stands.
      let c = g.came s stands in
      (c.2, inl (outer, (doing.nothing, ap (λ (o : Outcome ToolDeeds (X × ClientState) ConnFault). o.did) c.3 ∙ no_more c.2)), c.4);
}
goes_outer {X} {part} (Err before) outer g = record {
  came = λ s stands.
      let c = g.came s stands in (
        c.0,
        elim c.1 [
          | inl within ↦ inl (outer, within.1)
          | inr end ↦ inl (outer, (doing.nothing, ap (λ (o : Outcome ToolDeeds (X × ClientState) ConnFault). o.did) end.2 ∙ no_more c.0))
        ],
        c.2,
      );
}

-- a connection is kept, whatever ends the tool then
pub keeps_outer : {L : Type 0} {left : L → Option (List ℕ)} {faults : L → ℕ} {old new : ConnState L} {r : Result (Unit {0}) ToolEnd} → KeepsConnection left faults old new r → KeepsConnection {X = Unit {0}} left faults old new (Err end.SinkFault)
keeps_outer k = record { devices = k.devices; usable = λ ok. cc ok; tells = k.tells; count = k.count; failed = λ e. cc e }
