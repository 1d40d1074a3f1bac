-- How a recording goes on by the blocks that come.
use Rattle.std.proofs.Common.{◌≡◌, ◌≤◌, ◌<◌, ◌+◌, ◌-◌, ◌%◌, ◌^◌, ◌⊎◌, ℕ, min, Bool, true, false, List, [], ◌∷◌, ◌++◌, sym, ap, ap₂, ◌∙◌, refl, arith, append_assoc, append-nil, subst, inl, inr, Ok, Err, Result, Option, None, Some}
use Rattle.std.specs.Prelude.{IfSome, IsErr, IsOk}
use Rattle.std.proofs.lemmas.Bool.{cases_lt}
use Rattle.af_time.specs.declared.DevTime.{DevTime}
use Rattle.af_lib.specs.declared.fault.ConnFault.{ConnFault}
use Rattle.af_toolkit.specs.Parts.{Goes, Outcome}
use Rattle.af_toolkit.specs.Trace.{ClientState, refused}
use Rattle.af_toolkit.specs.ToolParts.{IsClientOf, LinkSight, ToolDeeds, ToolSight, tooling}
use Rattle.af_toolkit.specs.declared.end.ToolEnd.{ToolEnd}
use Rattle.af_logger.specs.declared.job.LogJob.{LogJob}
use Rattle.af_logger.specs.declared.logger.Logger.{Logger}
use Rattle.af_logger.specs.declared.plan.Plan.{Plan}
use Rattle.af_logger.specs.declared.progress.Progress.{Progress}
use Rattle.af_logger.specs.Commands.{Desk}
use Rattle.af_logger.specs.Keeping.{HasEnded, HasLeft, IsProgress, IsWhole, Stays}
use Rattle.af_logger.specs.Logged.{AreBlocks}
use Rattle.af_logger.specs.Pieces.{Block}
use Rattle.af_logger.specs.Story.{CanBegin, Continues, HasSome, HasStory, IsPlaced, IsRecording, NextBegun, Origin, Records, at_on}
use Rattle.af_logger.specs.Trace.{takes_block}
use Rattle.af_logger.proofs.LoopLemmas.{IsLeft}
use Rattle.af_logger.proofs.StoryLemmas.{no_more_blocks, story_on}

-- blocks, and those after them
place_on : (at : ℕ) (xs ys : List Block) → at_on at (xs ++ ys) ≡ at_on (at_on at xs) ys
place_on at [] ys = refl
place_on at (b ∷ xs) ys = place_on ((at + b.frames) % 2 ^ 32) xs ys

blocks_on : (plan : Plan) (w : ClientState) (at : ℕ) (xs ys : List Block) (between after : ClientState) → AreBlocks plan w at xs between → AreBlocks plan between (at_on at xs) ys after → AreBlocks plan w at (xs ++ ys) after
blocks_on plan w at [] ys between after one two = subst (λ (x : ClientState). AreBlocks plan x at ys after) one two
blocks_on plan w at (b ∷ xs) ys between after one two = (one.0, one.1, blocks_on plan one.0 ((at + b.frames) % 2 ^ 32) xs ys between after one.2 two)

-- no block came yet
pub records_begin : {Can Ends : Type 0} {job : LogJob} {logger : Logger} {link : LinkSight} {desk : Option Desk} {held : Option (List ℕ)} → Records Can Ends job logger logger link link desk desk held held
records_begin = record {
  blocks = [];
  got = λ w stands. (w, refl, λ ends. stands);
  place = λ ends. refl;
  goes_on = λ o past can is. record { story = no_more_blocks is.story; placed = is.placed; some = is.some };
}

-- or none came before the end
pub records_none : {Can : Type 0} {job : LogJob} {logger : Logger} {before after : LinkSight} {desk : Option Desk} {held : Option (List ℕ)} → Records Can (false ≡ true) job logger logger before after desk desk held held
records_none = record {
  blocks = [];
  got = λ w stands. (w, refl, λ ends. absurd (cc ends));
  place = λ ends. refl;
  goes_on = λ o past can is. record { story = no_more_blocks is.story; placed = is.placed; some = is.some };
}

-- some blocks, and then others
pub records_on : {Can Then First Ends : Type 0} {job : LogJob} {a b c : Logger} {x y z : LinkSight} {desk desk' desk'' : Option Desk} {held held' held'' : Option (List ℕ)} → First → (Can → Then) → b.plan ≡ a.plan → Records Can First job a b x y desk desk' held held' → Records Then Ends job b c y z desk' desk'' held' held'' → Records Can Ends job a c x z desk desk'' held held''
records_on {job = job} {a} {b} {c} {desk'' = desk''} {held'' = held''} first can same one two = record {
  blocks = one.blocks ++ two.blocks;
  got = λ w stands. (
      let here = one.got w stands in
      let next = two.got here.0 (here.2 first) in
      let more : AreBlocks a.plan here.0 (at_on a.at.0 one.blocks) two.blocks next.0 = subst (λ (t : ℕ). AreBlocks a.plan here.0 t two.blocks next.0) (one.place first) (subst (λ (p : Plan). AreBlocks p here.0 b.at.0 two.blocks next.0) same next.1) in
      (next.0, blocks_on a.plan w a.at.0 one.blocks two.blocks here.0 next.0 here.1 more, next.2)
      );
  place = λ ends. two.place ends ∙ ap (λ (t : ℕ). at_on t two.blocks) (one.place first) ∙ sym (place_on a.at.0 one.blocks two.blocks);
  goes_on = λ o past may is. subst (λ (l : List Block). IsRecording job o l c desk'' held'') (append_assoc past one.blocks two.blocks) (two.goes_on o (past ++ one.blocks) (can may) (one.goes_on o past may is));
}

-- the same, where less is asked
pub records_less : {Can Less Ends Fewer : Type 0} {job : LogJob} {a b : Logger} {x y : LinkSight} {desk desk' : Option Desk} {held held' : Option (List ℕ)} → (Less → Can) → (Fewer → Ends) → Records Can Ends job a b x y desk desk' held held' → Records Less Fewer job a b x y desk desk' held held'
records_less can ends r = record {
  blocks = r.blocks;
  got = λ w stands. (let got = r.got w stands in (got.0, got.1, λ few. got.2 (ends few)));
  place = λ few. r.place (ends few);
  goes_on = λ o past less is. r.goes_on o past (can less) is;
}

-- a call that failed has no value
pub not_ok : {X : Type 0} (r : Result X ToolEnd) → IsErr r → IsOk r → false ≡ true
not_ok (Ok x) failed ok = failed
not_ok (Err how) failed ok = ok

-- what comes after the last block does not matter
pub records_past : {Can Ends : Type 0} {job : LogJob} {a b : Logger} {x y z : LinkSight} {desk desk' : Option Desk} {held held' : Option (List ℕ)} → Records Can Ends job a b x y desk desk' held held' → Records Can ⊥ job a b x z desk desk' held held'
records_past r = record {
  blocks = r.blocks;
  got = λ w stands. (let got = r.got w stands in (got.0, got.1, λ none. absurd none));
  place = λ none. absurd none;
  goes_on = r.goes_on;
}

-- how much is left is at most a piece
left_within : (plan : Plan) (last : Option Progress) (left : ℕ) → HasLeft plan last left → left ≤ plan.frames
left_within plan None left is = omega (arith, is)
left_within plan (Some piece) left is = elim is [
  | inl whole ↦ (let all = whole.1 in let few : left ≤ plan.frames = omega (arith, all) in few)
  | inr part ↦ (let sum = part.1 in let few : left ≤ plan.frames = omega (arith, sum) in few)
]

-- a piece that got a block has some frames
pub some_recorded : {plan plan' : Plan} (last : Option Progress) {now : Option Progress} (left : ℕ) {n : ℕ} (piece : Progress) → plan' ≡ plan → HasLeft plan last left → 1 ≤ n → now ≡ Some piece → piece.recorded + left ≡ plan.frames + n → IfSome now (λ (p : Progress). IsProgress plan' p) → HasSome plan' now
some_recorded {plan} {plan'} last {now} left {n} piece same has some there sum is =
    let few = left_within plan last left has in
    let known : IsProgress plan' piece = subst (λ (w : Option Progress). IfSome w (λ (p : Progress). IsProgress plan' p)) there is in
    subst (λ (w : Option Progress). HasSome plan' w) (sym there) (let any : 1 ≤ piece.recorded = omega (arith, few, sum, some) in any, known.recorded)

-- A block came: its piece goes on, and the command before it was looked at
pub records_block : {Ends : Type 0} {job : LogJob} {before after : LinkSight} {desk desk' desk'' : Option Desk} {held held' held'' : Option (List ℕ)} {n : ℕ} (old one new : Logger) (at : DevTime) (b : Block) → ((w : ClientState) → IsClientOf before w → (there : ClientState) × ((takes_block old.plan old.at.0 n w).end ≡ Ok (b, there)) × IsClientOf after there) → b.frames ≡ n → at.0 ≡ (old.at.0 + n) % 2 ^ 32 → Continues job (b ∷ []) old one desk desk' held held' → ((start : ℕ) → IsPlaced start old.at.0 old.last → IsPlaced start ((old.at.0 + b.frames) % 2 ^ 32) one.last) → HasSome one.plan one.last → new ≡ record one { at = at; waiting = new.waiting; failed = new.failed } → Stays (record one { at = at }) new desk' desk'' held' held'' ⊎ HasEnded (record one { at = at }) new desk' desk'' held' held'' → Records (CanBegin old) Ends job old new before after desk desk'' held held''
records_block {job = job} {desk'' = desk''} {held'' = held''} {n} old one new at b came frames place continues placed some same looked =
    let there : new.at ≡ at = ap (λ (l : Logger). l.at) same in
    let now : new.at.0 ≡ (old.at.0 + b.frames) % 2 ^ 32 = ap (λ (t : DevTime). t.0) there ∙ place ∙ ap (λ (k : ℕ). (old.at.0 + k) % 2 ^ 32) (sym frames) in
    record {
      blocks = b ∷ [];
      got = λ w stands. (
          let got = came w stands in
          (got.0, (got.0, subst (λ (k : ℕ). (takes_block old.plan old.at.0 k w).end ≡ Ok (b, got.0)) (sym frames) got.1, refl), λ ends. got.2)
          );
      place = λ ends. now;
      goes_on = λ o past can is. record {
        story = story_on {old = record one { at = at }} (continues o past can is.placed is.story) same looked;
        placed = subst (λ (w : Option Progress). IsPlaced o.start new.at.0 w) (sym (ap (λ (l : Logger). l.last) same)) (subst (λ (t : ℕ). IsPlaced o.start t one.last) (sym now) (placed o.start is.placed));
        some = subst (λ (l : Logger). HasSome l.plan l.last) (sym same) some;
      };
    }

-- how many pieces were begun, while one is recorded
pub record IsCounted (plan : Plan) (before : ℕ) (logger : Logger) (left : ℕ) : Type 0 where
  pub none : left ≡ plan.frames → logger.begun ≡ before
  pub one : left < plan.frames → logger.begun ≡ min (before + 1) (2 ^ 64 - 1)

next_whole : (plan : Plan) (last : Option Progress) (before after : ℕ) → IsWhole plan last → NextBegun plan last before after → after ≡ min (before + 1) (2 ^ 64 - 1)
next_whole plan None before after whole next = next
next_whole plan (Some piece) before after whole next = next.0 whole

next_part : (plan : Plan) (last : Option Progress) (left before after : ℕ) → HasLeft plan last left → left < plan.frames → NextBegun plan last before after → after ≡ before
next_part plan None left before after has less next = absurd (omega (arith, has, less))
next_part plan (Some piece) left before after has less next = elim has [
  | inl whole ↦ (let all = whole.1 in absurd (omega (arith, all, less)))
  | inr part ↦ next.1 part.0
]

pub counted_on : {plan : Plan} {start before : ℕ} {old new : Logger} {left n : ℕ} → IsLeft plan start old left → 0 < n → n ≤ left → NextBegun plan old.last old.begun new.begun → IsCounted plan before old left → IsCounted plan before new (left - n)
counted_on {plan} {start} {before} {old} {new} {left} {n} l any few next is =
    let within = l.within in
    record {
      none = λ all. absurd (omega (arith, all, any, few, within));
      one = λ less. elim (cases_lt left plan.frames) [
        | inl part ↦ next_part plan old.last left old.begun new.begun (l.some (omega (arith, any, few))) part next ∙ is.one part
        | inr all ↦
            let whole : left ≡ plan.frames = omega (arith, all, within) in
            next_whole plan old.last old.begun new.begun (l.begins whole) next ∙ ap (λ (k : ℕ). min (k + 1) (2 ^ 64 - 1)) (is.none whole)
      ];
    }

-- a piece can be begun, if its block is the first
pub can_begin : {plan : Plan} {start before : ℕ} {logger : Logger} {left : ℕ} → logger.plan ≡ plan → IsLeft plan start logger left → 0 < left → IsCounted plan before logger left → before < 2 ^ 64 - 1 → CanBegin logger
can_begin {plan} {start = start} {before} {logger} {left} same l some is room whole = elim (cases_lt left plan.frames) [
  | inl part ↦ absurd (not_whole logger.last (subst (λ (p : Plan). IsWhole p logger.last) same whole) (l.some some) part)
  | inr all ↦
      let within = l.within in
      let none = is.none (omega (arith, all, within)) in
      let few : logger.begun < 2 ^ 64 - 1 = omega (arith, none, room) in
      few
] where
  not_whole : (last : Option Progress) → IsWhole plan last → HasLeft plan last left → left < plan.frames → ⊥
  not_whole None whole has less = omega (arith, has, less)
  not_whole (Some piece) whole has less = elim has [
    | inl all ↦ (let same = all.1 in absurd (omega (arith, same, less)))
    | inr part ↦ (let under = part.0 in let is : piece.recorded ≡ plan.frames = whole in absurd (omega (arith, under, is)))
  ]

-- the block that came, as a client has it
pub block_came : (plan : Plan) (at n : ℕ) {b : Block} {x y : ToolSight} → Goes {X = Block} (tooling refused) (takes_block plan at n) (Ok b) x y → (w : ClientState) → IsClientOf x.link w → (there : ClientState) × ((takes_block plan at n w).end ≡ Ok (b, there)) × IsClientOf y.link there
block_came plan at n g w stands = (let c = g.came w stands in (c.0, ap (λ (o : Outcome ToolDeeds (Block × ClientState) ConnFault). o.end) c.3, c.1))
