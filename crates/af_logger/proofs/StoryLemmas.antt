-- How what has come of a recording goes on.
use Rattle.std.proofs.Common.{◌≡◌, ◌≤◌, ◌<◌, ◌+◌, ◌-◌, ◌%◌, ◌^◌, ◌==◌, ◌⊎◌, ℕ, zero, suc, min, Bool, true, false, List, [], ◌∷◌, ◌++◌, length, sym, ap, ap₂, ◌∙◌, refl, arith, append_assoc, append-nil, subst, inl, inr, Option, None, Some, option_map}
use Rattle.std.proofs.lemmas.Bool.{eq-eqb, ne_eqb}
use Rattle.std.proofs.lemmas.Grind.{flat_map-append}
use Rattle.std.proofs.lemmas.List.{length-append}
use Rattle.std.proofs.Math.Nat.{mod-add-mod}
use Rattle.af_time.specs.declared.DevTime.{DevTime}
use Rattle.af_io.specs.Observed.{Appended}
use Rattle.af_io.proofs.AppendedLemmas.{appended_on}
use Rattle.af_logger.specs.declared.job.LogJob.{LogJob}
use Rattle.af_logger.specs.declared.logger.Logger.{Logger}
use Rattle.af_logger.specs.declared.plan.Plan.{Plan}
use Rattle.af_logger.specs.declared.progress.Progress.{Progress}
use Rattle.af_logger.specs.Commands.{Changed, Command, Desk, EndedCommand, Given, closing, ended, given_by, handed, started}
use Rattle.af_logger.specs.Drafts.{Draft, IsDraft, IsTold, StandsFor, draft, took_by, with_block}
use Rattle.af_logger.specs.Keeping.{HasEnded, IsWhole, Stays, Tells, progress_line}
use Rattle.af_logger.specs.Logged.{IsLastWhole, gone_over}
use Rattle.af_logger.specs.Pieces.{AreFronts, AreWhole, Block, IsFrontOfFile, Piece, blocks_of, commands_of, dropped_frames, frames_of, given_of, handed_frames, line_of, line_text, lines_of, lost_among, next_at}
use Rattle.af_logger.specs.Story.{AllWhole, HasGone, HasSome, HasStory, IsFirst, IsPieceOf, IsPlaced, IsStory, OfPiece, Origin, Story, at_after, closed_by, command_of, desk_of, one_if}
use Rattle.af_logger.proofs.DraftLemmas.{changed_on, told_so_far}

-- One piece more

at_more : (plan : Plan) (at n : ℕ) → at_after plan (next_at plan at) n ≡ next_at plan (at_after plan at n)
at_more plan at zero = refl
at_more plan at (suc n) = at_more plan (next_at plan at) n

abbrev over_command : LogJob → Plan → (number at : ℕ) → Piece → EndedCommand
over_command job plan number at p = record { given = given_of job plan number at; taken = p.taken; status = p.status }

commands_more : (job : LogJob) (plan : Plan) (number at : ℕ) (ps : List Piece) (p : Piece) → commands_of job plan number at (ps ++ p ∷ []) ≡ commands_of job plan number at ps ++ over_command job plan (number + length ps) (at_after plan at (length ps)) p ∷ []
commands_more job plan number at [] p = let same : number ≡ number + 0 = omega arith in ap (λ (n : ℕ). over_command job plan n at p ∷ []) same
commands_more job plan number at (x ∷ ps) p =
    let same : number + 1 + length ps ≡ number + suc (length ps) = omega arith in
    ap (λ (l : List EndedCommand). over_command job plan number at x ∷ l) (commands_more job plan (number + 1) (next_at plan at) ps p ∙ ap (λ (n : ℕ). commands_of job plan (number + 1) (next_at plan at) ps ++ over_command job plan n (at_after plan (next_at plan at) (length ps)) p ∷ []) same)

lines_more : (plan : Plan) (number at : ℕ) (ps : List Piece) (p : Piece) → lines_of plan number at (ps ++ p ∷ []) ≡ lines_of plan number at ps ++ line_of plan (number + length ps) (at_after plan at (length ps)) p
lines_more plan number at [] p = let same : number ≡ number + 0 = omega arith in append-nil (line_of plan number at p) ∙ ap (λ (n : ℕ). line_of plan n at p) same
lines_more plan number at (x ∷ ps) p =
    let same : number + 1 + length ps ≡ number + suc (length ps) = omega arith in
    ap (λ (l : List ℕ). line_of plan number at x ++ l) (lines_more plan (number + 1) (next_at plan at) ps p ∙ ap (λ (n : ℕ). lines_of plan (number + 1) (next_at plan at) ps ++ line_of plan n (at_after plan (next_at plan at) (length ps)) p) same)
    ∙ sym (append_assoc (line_of plan number at x) (lines_of plan (number + 1) (next_at plan at) ps) (line_of plan (number + suc (length ps)) (at_after plan at (suc (length ps))) p))

whole_more : (plan : Plan) (ps : List Piece) (p : Piece) → AllWhole plan ps → frames_of p.blocks ≡ plan.frames → AllWhole plan (ps ++ p ∷ [])
whole_more plan [] p all one = (one, tt)
whole_more plan (x ∷ ps) p all one = (all.0, whole_more plan ps p all.1 one)

fronts_more : (plan : Plan) (ps : List Piece) (p : Piece) → AreFronts plan ps → IsFrontOfFile plan p → AreFronts plan (ps ++ p ∷ [])
fronts_more plan [] p all one = (one, tt)
fronts_more plan (x ∷ ps) p all one = (all.0, fronts_more plan ps p all.1 one)

blocks_more : (ps : List Piece) (p : Piece) → blocks_of (ps ++ p ∷ []) ≡ blocks_of ps ++ p.blocks
blocks_more ps p = flat_map-append (λ (p : Piece). p.blocks) ps (p ∷ []) ∙ ap (λ (l : List Block). blocks_of ps ++ l) (append-nil p.blocks)

-- a piece whose command has ended
abbrev pub piece_of : Draft → (status : ℕ) → Piece
piece_of d status = record { blocks = d.blocks; taken = d.taken; status = status }

-- its line is what its progress tells
line_same : (plan : Plan) (start place : ℕ) (piece : Progress) (d : Draft) (status : ℕ) → IsPieceOf plan start place piece d → line_of plan (1 + place) (at_after plan start place) (piece_of d status) ≡ progress_line piece status
line_same plan start place piece d status is =
    let told = is.stands.told in
    let number : 1 + place ≡ piece.number = (let n = is.number in omega (arith, n)) in
    let dropped : dropped_frames plan d.blocks (length d.taken) ≡ piece.recorded - piece.handed = ap₂ (λ (m n : ℕ). m - n) (sym told.recorded) (sym told.handed) in
    ap₂ (λ (n t : ℕ). line_text n t (handed_frames plan d.blocks (length d.taken)) (lost_among (handed_frames plan d.blocks (length d.taken)) d.blocks) (dropped_frames plan d.blocks (length d.taken)) status) number (sym is.at)
    ∙ ap₂ (λ (h x : ℕ). line_text piece.number piece.at.0 h (lost_among h d.blocks) x status) (sym told.handed) dropped
    ∙ ap (λ (l : ℕ). line_text piece.number piece.at.0 piece.handed l (piece.recorded - piece.handed) status) (sym told.lost)

-- A command has ended, and its line was told

-- what was told before, and a line
pub record TellsOn (o held : Option (List ℕ)) (lines : List ℕ) (failed : Bool) : Type 0 where
  pub output : List ℕ
  pub unwritten : List ℕ
  pub all_lines : lines ≡ output ++ unwritten
  pub sink : Appended o output held
  pub all : failed ≡ false → unwritten ≡ []

pub tells_on : (before after : Bool) (line lines output unwritten : List ℕ) (o held held' : Option (List ℕ)) → lines ≡ output ++ unwritten → Appended o output held → (before ≡ false → unwritten ≡ []) → Tells before after line held held' → TellsOn o held' (lines ++ line) after
tells_on true after line lines output unwritten o held held' is sink all tells = record {
  output = output;
  unwritten = unwritten ++ line;
  all_lines = ap (λ (l : List ℕ). l ++ line) is ∙ append_assoc output unwritten line;
  sink = subst (λ (h : Option (List ℕ)). Appended o output h) (sym tells.1) sink;
  all = λ good. (let bad : true ≡ false = sym tells.0 ∙ good in absurd (cc bad));
}
tells_on false true line lines output unwritten o held held' is sink all tells = record {
  output = output ++ tells.front;
  unwritten = tells.rest;
  all_lines = ap (λ (l : List ℕ). l ++ line) (is ∙ ap (λ (l : List ℕ). output ++ l) (all refl) ∙ append-nil output) ∙ ap (λ (l : List ℕ). output ++ l) tells.whole ∙ sym (append_assoc output tells.front tells.rest);
  sink = appended_on o held held' output tells.front sink tells.appended;
  all = λ good. absurd (cc good);
}
tells_on false false line lines output unwritten o held held' is sink all tells = record {
  output = output ++ line;
  unwritten = [];
  all_lines = ap (λ (l : List ℕ). l ++ line) (is ∙ ap (λ (l : List ℕ). output ++ l) (all refl) ∙ append-nil output) ∙ sym (append-nil (output ++ line));
  sink = appended_on o held held' output line sink tells;
  all = λ good. refl;
}

-- the commands, once the one that was waited for has ended
waited_desk : (ending : Bool) (job : LogJob) (plan : Plan) (start : ℕ) (s : Story) (piece : Progress) (last : Option Progress) (status : ℕ) → IsPieceOf plan start (length s.past) piece s.waiting → (d : Desk) → ended status (desk_of ending job plan start s (Some piece) last d) ≡ desk_of ending job plan start (record { past = s.past ++ piece_of s.waiting status ∷ []; waiting = draft [] []; last = s.last }) None last d
waited_desk ending job plan start s piece last status is d =
    let number : piece.number ≡ 1 + length s.past = (let n = is.number in omega (arith, n)) in
    let same : over_command job plan piece.number piece.at.0 (piece_of s.waiting status) ≡ over_command job plan (1 + length s.past) (at_after plan start (length s.past)) (piece_of s.waiting status) = ap₂ (λ (n t : ℕ). over_command job plan n t (piece_of s.waiting status)) number is.at in
    ap (λ (l : List EndedCommand). record { over = l; waiting = None; last = (desk_of ending job plan start s (Some piece) last d).last })
    (append_assoc d.over (commands_of job plan 1 start s.past) (over_command job plan piece.number piece.at.0 (piece_of s.waiting status) ∷ []) ∙ ap (λ (l : List EndedCommand). d.over ++ l) (ap (λ (c : EndedCommand). commands_of job plan 1 start s.past ++ c ∷ []) same ∙ sym (commands_more job plan 1 start s.past (piece_of s.waiting status))))

pub waited_on : {ending : Bool} {job : LogJob} {plan : Plan} {o : Origin} {blocks : List Block} {begun : ℕ} (piece : Progress) (last : Option Progress) {failed failed' : Bool} {desk desk' : Option Desk} {held held' : Option (List ℕ)} (status : ℕ) → IsStory ending job plan o blocks begun (Some piece) last failed desk held → Changed (ended status) desk desk' → Tells failed failed' (progress_line piece status) held held' → IsStory ending job plan o blocks begun None last failed' desk' held'
waited_on {ending} {job} {plan} {o} {blocks} {begun} piece last {failed} {failed'} {desk} {desk'} {held} {held'} status i changed tells =
    let s = i.story in
    let one = piece_of s.waiting status in
    let size : length (s.past ++ one ∷ []) ≡ length s.past + 1 = length-append s.past (one ∷ []) in
    let told = tells_on failed failed' (progress_line piece status) (lines_of plan 1 o.start s.past) i.output i.unwritten o.held held held' i.lines i.sink i.all tells in
    let recorded = i.waits.stands.told.recorded in
    record {
      story = record { past = s.past ++ one ∷ []; waiting = draft [] []; last = s.last };
      count = (let count = i.count in omega (arith, count, size));
      waits = refl;
      lasts = subst (λ (n : ℕ). OfPiece plan o.start n last s.last) (let same : length s.past + 1 ≡ length (s.past ++ one ∷ []) + 0 = omega (arith, size) in same) i.lasts;
      whole = tt;
      first = none_first last i.first;
      pasts = whole_more plan s.past one i.pasts (sym recorded ∙ i.whole);
      fronts = fronts_more plan s.past one i.fronts (i.waits.stands.told.rest, i.waits.stands.told.front);
      blocks_are = i.blocks_are ∙ sym (append_assoc (blocks_of s.past) s.waiting.blocks s.last.blocks) ∙ ap (λ (l : List Block). l ++ s.last.blocks) (sym (blocks_more s.past one));
      commands = changed_on _ (ended status) _ (waited_desk ending job plan o.start s piece last status i.waits) o.desk desk desk' i.commands changed;
      output = told.output;
      unwritten = told.unwritten;
      lines = lines_more plan 1 o.start s.past one ∙ ap (λ (l : List ℕ). lines_of plan 1 o.start s.past ++ l) (line_same plan o.start (length s.past) piece s.waiting status i.waits) ∙ told.all_lines;
      sink = told.sink;
      all = told.all;
    } where
      none_first : (last : Option Progress) → IsFirst last (Some piece) i.story.past → IsFirst last None (i.story.past ++ piece_of i.story.waiting status ∷ [])
      none_first None is = absurd (cc (is.0))
      none_first (Some p) is = tt

-- a look at the command that is waited for, or its end
pub story_on : {ending : Bool} {job : LogJob} {o : Origin} {blocks : List Block} {old new : Logger} {desk desk' : Option Desk} {held held' : Option (List ℕ)} → HasStory ending job o blocks old desk held → new ≡ record old { waiting = new.waiting; failed = new.failed } → Stays old new desk desk' held held' ⊎ HasEnded old new desk desk' held held' → HasStory ending job o blocks new desk' held'
story_on {ending} {job} {o} {blocks} {old} {new} {desk} {desk'} {held} {held'} i same way = elim way [
  | inl stays ↦ subst (λ (l : Logger). HasStory ending job o blocks l desk' held') (sym stays.logger) (stayed i stays.desk_of stays.sink)
  | inr over ↦
      let is : new ≡ record old { waiting = None; failed = new.failed } = same ∙ ap (λ (w : Option Progress). record old { waiting = w; failed = new.failed }) over.over in
      subst (λ (l : Logger). HasStory ending job o blocks l desk' held') (sym is)
      (waited_on over.piece old.last over.status (subst (λ (w : Option Progress). IsStory ending job old.plan o blocks old.begun w old.last old.failed desk held) over.waited i) over.desk_of over.tells)
] where
  stayed : IsStory ending job old.plan o blocks old.begun old.waiting old.last old.failed desk held → Changed (λ d. d) desk desk' → held' ≡ held → IsStory ending job old.plan o blocks old.begun old.waiting old.last old.failed desk' held'
  stayed i changed kept = record {
    story = i.story;
    count = i.count;
    waits = i.waits;
    lasts = i.lasts;
    whole = i.whole;
    first = i.first;
    pasts = i.pasts;
    fronts = i.fronts;
    blocks_are = i.blocks_are;
    commands = changed_on _ (λ d. d) _ (λ d. refl) o.desk desk desk' i.commands changed;
    output = i.output;
    unwritten = i.unwritten;
    lines = i.lines;
    sink = subst (λ (h : Option (List ℕ)). Appended o.held i.output h) (sym kept) i.sink;
    all = i.all;
  }

-- the end of the command that was waited for
pub story_finish : {ending : Bool} {job : LogJob} {o : Origin} {blocks : List Block} {old new : Logger} {desk desk' : Option Desk} {held held' : Option (List ℕ)} → HasStory ending job o blocks old desk held → new ≡ record old { waiting = None; failed = new.failed } → Stays old new desk desk' held held' ⊎ HasEnded old new desk desk' held held' → HasStory ending job o blocks new desk' held'
story_finish {old = old} {new} i same way =
    let none : new.waiting ≡ None = ap (λ (l : Logger). l.waiting) same in
    story_on i (same ∙ ap (λ (w : Option Progress). record old { waiting = w; failed = new.failed }) (sym none)) way

pub no_more_blocks : {ending : Bool} {job : LogJob} {plan : Plan} {o : Origin} {blocks : List Block} {begun : ℕ} {waiting last : Option Progress} {failed : Bool} {desk : Option Desk} {held : Option (List ℕ)} → IsStory ending job plan o blocks begun waiting last failed desk held → IsStory ending job plan o (blocks ++ []) begun waiting last failed desk held
no_more_blocks {blocks = blocks} i = record {
  story = i.story;
  count = i.count;
  waits = i.waits;
  lasts = i.lasts;
  whole = i.whole;
  first = i.first;
  pasts = i.pasts;
  fronts = i.fronts;
  blocks_are = append-nil blocks ∙ i.blocks_are;
  commands = i.commands;
  output = i.output;
  unwritten = i.unwritten;
  lines = i.lines;
  sink = i.sink;
  all = i.all;
}

-- A piece is begun

begun_desk : (job : LogJob) (plan : Plan) (start : ℕ) (s : Story) (last : Option Progress) (piece : Progress) (bytes : List ℕ) (given : Given) → IsWhole plan last → 1 ≤ plan.frames → piece.recorded ≡ 0 → given ≡ given_of job plan piece.number piece.at.0 → (d : Desk) → handed bytes (started given (desk_of false job plan start s None last d)) ≡ desk_of false job plan start (record { past = s.past; waiting = s.last; last = draft [] bytes }) last (Some piece) d
begun_desk job plan start s last piece bytes given whole some none is d = by_last last whole where
  open_yet : false ≡ (piece.recorded == plan.frames)
  open_yet = sym (ne_eqb piece.recorded plan.frames (λ all. omega (arith, some, none, all)))

  by_last : (last : Option Progress) → IsWhole plan last → handed bytes (started given (desk_of false job plan start s None last d)) ≡ desk_of false job plan start (record { past = s.past; waiting = s.last; last = draft [] bytes }) last (Some piece) d
  by_last None whole = ap₂ (λ (g : Given) (closed : Bool). record { over = d.over ++ commands_of job plan 1 start s.past; waiting = None; last = Some (record { given = g; taken = bytes; closed = closed }) }) is open_yet
  by_last (Some p) whole =
      ap₂ (λ (g : Given) (closed : Bool). record { over = d.over ++ commands_of job plan 1 start s.past; waiting = Some (command_of job plan p s.last.taken (p.recorded == plan.frames)); last = Some (record { given = g; taken = bytes; closed = closed }) }) is open_yet
      ∙ ap (λ (closed : Bool). record { over = d.over ++ commands_of job plan 1 start s.past; waiting = Some (command_of job plan p s.last.taken closed); last = Some (command_of job plan piece bytes (piece.recorded == plan.frames)) }) (eq-eqb p.recorded plan.frames whole)

begun_at : (plan : Plan) (start at : ℕ) (s : Story) (last : Option Progress) → IsPlaced start at last → IsWhole plan last → IsFirst last None s.past → OfPiece plan start (length s.past + 0) last s.last → at ≡ at_after plan start (length s.past + one_if last)
begun_at plan start at s None placed whole first of = placed ∙ ap (λ (l : List Piece). at_after plan start (length l + 0)) (sym first.1)
begun_at plan start at s (Some p) placed whole first of =
    let next : suc (length s.past + 0) ≡ length s.past + 1 = omega arith in
    placed ∙ ap₂ (λ (m n : ℕ). (m + n) % 2 ^ 32) of.at whole ∙ sym (at_more plan start (length s.past + 0)) ∙ ap (at_after plan start) next

pub begun_on : {job : LogJob} {plan : Plan} {o : Origin} {blocks : List Block} {begun begun' : ℕ} (last : Option Progress) {failed : Bool} {desk desk' : Option Desk} {held : Option (List ℕ)} (between : Option Desk) (at : ℕ) (piece : Progress) (bytes : List ℕ) (given : Given) → IsStory false job plan o blocks begun None last failed desk held → IsWhole plan last → 1 ≤ plan.frames → IsPlaced o.start at last → begun' ≡ begun + 1 → piece.number ≡ begun + 1 → piece.at.0 ≡ at → piece.recorded ≡ 0 → given ≡ given_of job plan piece.number piece.at.0 → Changed (started given) desk between → Changed (handed bytes) between desk' → IsDraft plan piece (draft [] bytes) → IsStory false job plan o blocks begun' last (Some piece) failed desk' held
begun_on {job} {plan} {o} {blocks} {begun} {begun'} last {failed} {desk} {desk'} {held} between at piece bytes given i whole some placed more number time none is starts takes drafted =
    let s = i.story in
    let count = i.count in
    record {
      story = record { past = s.past; waiting = s.last; last = draft [] bytes };
      count = omega (arith, count, more);
      waits = subst (λ (n : ℕ). OfPiece plan o.start n last s.last) (let same : length s.past + 0 ≡ length s.past = omega arith in same) i.lasts;
      lasts = record {
        number = omega (arith, number, count);
        at = time ∙ begun_at plan o.start at s last placed whole i.first i.lasts;
        stands = record { told = told_so_far plan piece (draft [] bytes) drafted; open_so_far = λ less. drafted };
      };
      whole = whole;
      first = tt;
      pasts = i.pasts;
      fronts = i.fronts;
      blocks_are = i.blocks_are ∙ ap (λ (w : Draft). blocks_of s.past ++ (w.blocks ++ s.last.blocks)) i.waits ∙ ap (λ (l : List Block). blocks_of s.past ++ l) (sym (append-nil s.last.blocks));
      commands = changed_on _ (handed bytes) _ (begun_desk job plan o.start s last piece bytes given whole some none is) o.desk between desk' (changed_on _ (started given) (λ d. started given (desk_of false job plan o.start s None last d)) (λ d. refl) o.desk desk between i.commands starts) takes;
      output = i.output;
      unwritten = i.unwritten;
      lines = i.lines;
      sink = i.sink;
      all = i.all;
    }

-- A block came

handed_desk : (job : LogJob) (plan : Plan) (start : ℕ) (s : Story) (waiting : Option Progress) (piece new : Progress) (b : Block) (bytes : List ℕ) → new.number ≡ piece.number → new.at ≡ piece.at → (d : Desk) → took_by bytes (new.recorded == plan.frames) (desk_of false job plan start s waiting (Some piece) d) ≡ desk_of false job plan start (record s { last = with_block s.last b bytes }) waiting (Some new) d
handed_desk job plan start s waiting piece new b bytes number at d =
    ap₂ (λ (n t : ℕ). record { over = d.over ++ commands_of job plan 1 start s.past; waiting = option_map (λ (p : Progress). command_of job plan p s.waiting.taken true) waiting; last = Some (record { given = given_of job plan n t; taken = s.last.taken ++ bytes; closed = new.recorded == plan.frames }) }) (sym number) (sym (ap (λ (t : DevTime). t.0) at))

pub handed_on : {job : LogJob} {plan : Plan} {o : Origin} {blocks : List Block} {begun : ℕ} {waiting : Option Progress} {failed : Bool} {desk desk' : Option Desk} {held : Option (List ℕ)} (piece new : Progress) (b : Block) (bytes : List ℕ) → IsStory false job plan o blocks begun waiting (Some piece) failed desk held → piece.recorded < plan.frames → Changed (took_by bytes (new.recorded == plan.frames)) desk desk' → new.number ≡ piece.number → new.at ≡ piece.at → ((d : Draft) → IsDraft plan piece d → StandsFor plan new (with_block d b bytes)) → IsStory false job plan o (blocks ++ b ∷ []) begun waiting (Some new) failed desk' held
handed_on {job} {plan} {o} {blocks} {waiting = waiting} {desk = desk} {desk'} piece new b bytes i less takes number at stands =
    let s = i.story in
    record {
      story = record s { last = with_block s.last b bytes };
      count = i.count;
      waits = i.waits;
      lasts = record { number = number ∙ i.lasts.number; at = ap (λ (t : DevTime). t.0) at ∙ i.lasts.at; stands = stands s.last (i.lasts.stands.open_so_far less) };
      whole = i.whole;
      first = tt;
      pasts = i.pasts;
      fronts = i.fronts;
      blocks_are = ap (λ (l : List Block). l ++ b ∷ []) i.blocks_are ∙ append_assoc (blocks_of s.past) (s.waiting.blocks ++ s.last.blocks) (b ∷ []) ∙ ap (λ (l : List Block). blocks_of s.past ++ l) (append_assoc s.waiting.blocks s.last.blocks (b ∷ []));
      commands = changed_on _ (took_by bytes (new.recorded == plan.frames)) _ (handed_desk job plan o.start s waiting piece new b bytes number at) o.desk desk desk' i.commands takes;
      output = i.output;
      unwritten = i.unwritten;
      lines = i.lines;
      sink = i.sink;
      all = i.all;
    }

-- what a command is started with
pub given_same : (job : LogJob) (plan : Plan) {text : List ℕ} {number : ℕ} {time : DevTime} (piece : Progress) → text ≡ job.command.bytes → piece.number ≡ number → piece.at ≡ time → given_by text (record { number = number; time = time; frames = plan.frames }) ≡ given_of job plan piece.number piece.at.0
given_same job plan {time = time} piece is number at = ap₂ (λ (l : List ℕ) (n : ℕ). record { text = l; time = time.0; frames = plan.frames; piece = n }) is (sym number) ∙ ap (λ (t : DevTime). record { text = job.command.bytes; time = t.0; frames = plan.frames; piece = piece.number }) (sym at)

-- a block came to a piece that was open
pub handed_story : {job : LogJob} {plan plan' : Plan} {o : Origin} (past : List Block) {begun : ℕ} {waiting last : Option Progress} {failed : Bool} {desk desk' : Option Desk} {held : Option (List ℕ)} (piece new : Progress) (b : Block) (bytes : List ℕ) → plan' ≡ plan → last ≡ Some piece → IsStory false job plan' o (past ++ []) begun waiting last failed desk held → piece.recorded < plan.frames → Changed (took_by bytes (new.recorded == plan.frames)) desk desk' → new.number ≡ piece.number → new.at ≡ piece.at → ((d : Draft) → IsDraft plan piece d → StandsFor plan new (with_block d b bytes)) → IsStory false job plan' o (past ++ b ∷ []) begun waiting (Some new) failed desk' held
handed_story {job} {plan} {plan'} {o} past {begun} {waiting} {last} {failed} {desk} {desk'} {held} piece new b bytes same there i less takes number at stands =
    let one : IsStory false job plan o (past ++ []) begun waiting last failed desk held = subst (λ (p : Plan). IsStory false job p o (past ++ []) begun waiting last failed desk held) same i in
    let two : IsStory false job plan o past begun waiting last failed desk held = subst (λ (l : List Block). IsStory false job plan o l begun waiting last failed desk held) (append-nil past) one in
    let three : IsStory false job plan o past begun waiting (Some piece) failed desk held = subst (λ (w : Option Progress). IsStory false job plan o past begun waiting w failed desk held) there two in
    subst (λ (p : Plan). IsStory false job p o (past ++ b ∷ []) begun waiting (Some new) failed desk' held) (sym same) (handed_on piece new b bytes three less takes number at stands)

-- The end of a recording

whole_to : (plan : Plan) (ps : List Piece) (p : Piece) → AllWhole plan ps → 1 ≤ frames_of p.blocks → frames_of p.blocks ≤ plan.frames → AreWhole plan (ps ++ p ∷ [])
whole_to plan [] p all some few = (some, few)
whole_to plan (x ∷ []) p all some few = (all.0, (some, few))
whole_to plan (x ∷ y ∷ ps) p all some few = (all.0, whole_to plan (y ∷ ps) p all.1 some few)

last_whole : (plan : Plan) (ps : List Piece) (p : Piece) → frames_of p.blocks ≡ plan.frames → IsLastWhole plan (ps ++ p ∷ [])
last_whole plan [] p is = is
last_whole plan (x ∷ []) p is = is
last_whole plan (x ∷ y ∷ ps) p is = last_whole plan (y ∷ ps) p is

-- the input of the last command is closed
pub ending_on : {job : LogJob} {plan : Plan} {o : Origin} {blocks : List Block} {begun : ℕ} {waiting : Option Progress} (piece : Progress) {failed : Bool} {desk desk' : Option Desk} {held : Option (List ℕ)} → IsStory false job plan o blocks begun waiting (Some piece) failed desk held → Changed closing desk desk' → IsStory true job plan o blocks begun waiting (Some piece) failed desk' held
ending_on {job} {plan} {o} {waiting = waiting} piece {desk = desk} {desk'} i closes = record {
  story = i.story;
  count = i.count;
  waits = i.waits;
  lasts = i.lasts;
  whole = i.whole;
  first = i.first;
  pasts = i.pasts;
  fronts = i.fronts;
  blocks_are = i.blocks_are;
  commands = changed_on (desk_of false job plan o.start i.story waiting (Some piece)) closing _ (λ d. refl) o.desk desk desk' i.commands closes;
  output = i.output;
  unwritten = i.unwritten;
  lines = i.lines;
  sink = i.sink;
  all = i.all;
}

gone_desk : (job : LogJob) (plan : Plan) (start : ℕ) (s : Story) (piece : Progress) (status : ℕ) → IsPieceOf plan start (length s.past + 0) piece s.last → (d : Desk) → ended status (desk_of true job plan start s None (Some piece) d) ≡ gone_over job plan start (s.past ++ piece_of s.last status ∷ []) d
gone_desk job plan start s piece status is d =
    let number : piece.number ≡ 1 + length s.past = (let n = is.number in omega (arith, n)) in
    let place : length s.past + 0 ≡ length s.past = omega arith in
    let same : over_command job plan piece.number piece.at.0 (piece_of s.last status) ≡ over_command job plan (1 + length s.past) (at_after plan start (length s.past)) (piece_of s.last status) = ap₂ (λ (n t : ℕ). over_command job plan n t (piece_of s.last status)) number (is.at ∙ ap (at_after plan start) place) in
    ap (λ (l : List EndedCommand). record { over = l; waiting = None; last = None })
    (append_assoc d.over (commands_of job plan 1 start s.past) (over_command job plan piece.number piece.at.0 (piece_of s.last status) ∷ []) ∙ ap (λ (l : List EndedCommand). d.over ++ l) (ap (λ (c : EndedCommand). commands_of job plan 1 start s.past ++ c ∷ []) same ∙ sym (commands_more job plan 1 start s.past (piece_of s.last status))))

-- the last command has ended, and its line was told
pub gone_on : {job : LogJob} {o : Origin} {blocks : List Block} (logger : Logger) (piece : Progress) {failed failed' : Bool} {desk desk' : Option Desk} {held held' : Option (List ℕ)} (status : ℕ) → logger.last ≡ Some piece → IsStory true job logger.plan o blocks logger.begun None (Some piece) failed desk held → Changed (ended status) desk desk' → Tells failed failed' (progress_line piece status) held held' → HasGone job o blocks logger failed' desk' held'
gone_on {job} {o} {blocks} logger piece {failed} {failed'} {desk} {desk'} {held} {held'} status there i changed tells =
    let plan = logger.plan in
    let s = i.story in
    let one = piece_of s.last status in
    let size : length (s.past ++ one ∷ []) ≡ length s.past + 1 = length-append s.past (one ∷ []) in
    let told = tells_on failed failed' (progress_line piece status) (lines_of plan 1 o.start s.past) i.output i.unwritten o.held held held' i.lines i.sink i.all tells in
    let recorded = i.lasts.stands.told.recorded in
    let place : length s.past + 0 ≡ length s.past = omega arith in
    let is : IsPieceOf plan o.start (length s.past) piece s.last = subst (λ (n : ℕ). IsPieceOf plan o.start n piece s.last) place i.lasts in
    record {
      pieces = s.past ++ one ∷ [];
      count = (let count = i.count in omega (arith, count, size));
      blocks_are = i.blocks_are ∙ ap (λ (w : Draft). blocks_of s.past ++ (w.blocks ++ s.last.blocks)) i.waits ∙ sym (blocks_more s.past one);
      whole = λ some. (let has : HasSome plan (Some piece) = subst (λ (w : Option Progress). HasSome plan w) there some in let least = has.0 in let most = has.1 in whole_to plan s.past one i.pasts (omega (arith, least, recorded)) (omega (arith, most, recorded)));
      last = λ all. last_whole plan s.past one (sym recorded ∙ subst (λ (w : Option Progress). IsWhole plan w) there all);
      commands = changed_on _ (ended status) _ (gone_desk job plan o.start s piece status i.lasts) o.desk desk desk' i.commands changed;
      fronts = fronts_more plan s.past one i.fronts (is.stands.told.rest, is.stands.told.front);
      output = told.output;
      unwritten = told.unwritten;
      lines = lines_more plan 1 o.start s.past one ∙ ap (λ (l : List ℕ). lines_of plan 1 o.start s.past ++ l) (line_same plan o.start (length s.past) piece s.last status is) ∙ told.all_lines;
      sink = told.sink;
      all = told.all;
    }

changed_same : (d : Option Desk) → Changed (λ d. d) d d
changed_same None = tt
changed_same (Some d) = refl

-- or none was begun
pub none_gone : {job : LogJob} {o : Origin} {blocks : List Block} (logger : Logger) {desk : Option Desk} {held : Option (List ℕ)} → logger.last ≡ None → HasStory false job o blocks logger desk held → HasGone job o blocks logger logger.failed desk held
none_gone {job} {o} {blocks} logger {desk} {held} there i = gone (subst (λ (w : Option Progress). IsStory false job logger.plan o blocks logger.begun logger.waiting w logger.failed desk held) there i) where
  gone : IsStory false job logger.plan o blocks logger.begun logger.waiting None logger.failed desk held → HasGone job o blocks logger logger.failed desk held
  gone i =
      let s = i.story in
      let none = i.first.1 in
      let idle : one_if logger.waiting ≡ 0 = ap one_if i.first.0 in
      record {
        pieces = s.past;
        count = (let count = i.count in omega (arith, count, idle));
        blocks_are = i.blocks_are ∙ ap₂ (λ (w l : Draft). blocks_of s.past ++ (w.blocks ++ l.blocks)) (subst (λ (w : Option Progress). OfPiece logger.plan o.start (length s.past) w s.waiting) i.first.0 i.waits) i.lasts ∙ append-nil (blocks_of s.past);
        whole = λ some. subst (λ (l : List Piece). AreWhole logger.plan l) (sym none) tt;
        last = λ all. subst (λ (l : List Piece). IsLastWhole logger.plan l) (sym none) tt;
        commands = changed_on _ (λ d. d) _ (λ d. ap (λ (w : Option Progress). desk_of false job logger.plan o.start s w None d) i.first.0) o.desk desk desk i.commands (changed_same desk);
        fronts = i.fronts;
        output = i.output;
        unwritten = i.unwritten;
        lines = i.lines;
        sink = i.sink;
        all = i.all;
      }
