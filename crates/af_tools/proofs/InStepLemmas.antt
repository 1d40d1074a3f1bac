-- A sound is played in step with what is read of it: block after block, each read once those before it were played.
use Rattle.std.proofs.Common.{◌≡◌, ◌⊎◌, ℕ, ◌+◌, ◌*◌, ◌/◌, ◌<◌, ◌≤◌, List, [], ◌++◌, length, take, sym, ap, ◌∙◌, refl, subst, arith, append-nil, append_assoc, length-append, inl, inr, true, IsErrOf, Result, Ok, Err, Option, None, Some}
use Rattle.std.proofs.lemmas.Bool.{cases_lt}
use Rattle.std.proofs.lemmas.List.{take_all}
use Rattle.af_time.specs.declared.DevTime.{DevTime}
use Rattle.af_io.specs.Observed.{Appended, Consumed}
use Rattle.af_io.specs.Flow.{IsSpent}
use Rattle.af_io.proofs.AppendedLemmas.{appended_on}
use Rattle.af_io.proofs.ConsumedLemmas.{consumed_on}
use Rattle.af_toolkit.specs.Parts.{Goes, Outcome, Part, goes_on}
use Rattle.af_toolkit.proofs.PartLemmas.{Reached, goes_by, goes_value, reached_goes, reached_here}
use Rattle.af_sound.specs.declared.head.Coding.{Coding}
use Rattle.af_toolkit.specs.declared.end.ToolEnd.{ToolEnd}
use Rattle.af_toolkit.specs.Trace.{ClientState, Finish, refused}
use Rattle.af_toolkit.specs.ToolParts.{IsClientOf, ToolDeeds, ToolSight, doing, tooling}
use Rattle.af_tools.specs.declared.sound.SourceSound.{SourceSound}
use Rattle.af_tools.specs.Sounds.{as_served, block_bytes, source_width, stated_after, stated_part, stated_room, FitsStated}
use Rattle.af_toolkit.specs.declared.end.ToolEnd.TheVariants as end
use Rattle.af_toolkit.specs.Ends.{is_of_link}
use Rattle.af_tools.specs.declared.fill.FillFault.{FillFault}
use Rattle.af_tools.specs.declared.fill.FillFault.TheVariants as fill
use Rattle.af_tools.specs.Reading.{FillsBlock}
use Rattle.af_tools.proofs.EndLemmas.{never, of_err}
use Rattle.af_tools.specs.declared.pace.Course.{Course}
use Rattle.af_tools.specs.declared.pace.Pace.{Pace}
use Rattle.af_tools.specs.Pacing.{course_from, course_on}
use Rattle.af_tools.specs.Play.{PlayFault, PlayPart, blocks, play_finish, plays, plays_block, plays_sound}
use Rattle.af_tools.specs.Steps.{HasFirst, ReadsInStep, WentThrough}
use Rattle.af_tools.proofs.PlayBlockLemmas.{blocks_empty, plays_none}
use Rattle.af_tools.proofs.PlayStepLemmas.{IsFilled, is_play, play_reached}
use Rattle.af_tools.proofs.SourceCountLemmas.{stated_all}
use Rattle.af_tools.proofs.SourceFrameLemmas.{BlockFits}

-- an end for the link is none for the source
pub not_failed : {X : Type 0} {how : ToolEnd} {result : Result X ToolEnd} → result ≡ Err how → is_of_link how ≡ true → IsErrOf result end.ReadFault → ⊥
not_failed {X} {how} same is bad = never is_of_link how end.ReadFault is refl (of_err how end.ReadFault (subst (λ (r : Result X ToolEnd). IsErrOf r end.ReadFault) same bad))

-- what a source gave of a block that is not had
pub unfilled : {room allowed : ℕ} {len : Option ℕ} {bytes : List ℕ} {left left' : Option (List ℕ)} (fault : FillFault) → FillsBlock room allowed len (Err fault) bytes left left' → (ahead : List ℕ) × Consumed left ahead left' × (length ahead ≤ room)
unfilled fill.ReadFault block = let m = block.part refl in (m.text, m.consumed, m.within)
unfilled {room} {len = len} fill.TooLong block = let m = block.long refl in (m.bytes, m.consumed, within len m.within) where
  within : (len : Option ℕ) {n : ℕ} → n ≤ stated_room len room → n ≤ room
  within None fits = fits
  within (Some k) fits = omega arith

-- what a part showed on its link
pub shown : {F X : Type 0} (finish_of : F → Finish) {part : Part ClientState ToolDeeds F X} (result : Result X ToolEnd) {p q : ToolSight} {v : ClientState} → Goes (tooling finish_of) part result p q → IsClientOf p.link v →
    (more : List ℕ) × Appended p.link.sent more q.link.sent
shown finish_of (Ok x) {v} g stands = let c = g.came v stands in (c.2.sends, c.4.0)
shown finish_of (Err how) {v} g stands = let c = g.came v stands in (c.0.sends, c.2.0)

-- code came through a part, and then its link was sent more
module _ {X : Type 0} {part : PlayPart X} {x : X} {o p : ToolSight} {w : ClientState} (g : Goes (tooling play_finish) part (Ok x) o p) (stands : IsClientOf o.link w) where
  went : {q' : Option (List ℕ)} (more : List ℕ) → Appended p.link.sent more q' → WentThrough part w more o.link.sent q'
  went {q'} more then =
      let c = g.came w stands in
      record {
        value = (x, c.0);
        replied = ap (λ (b : Outcome ToolDeeds (X × ClientState) PlayFault). b.end) c.3;
        link = subst (λ (b : Outcome ToolDeeds (X × ClientState) PlayFault). Appended o.link.sent (b.did.sends ++ more) q') (sym c.3) (appended_on o.link.sent p.link.sent q' c.2.sends more c.4.0 then);
      }

  pub went_here : {q' : Option (List ℕ)} → Appended p.link.sent [] q' → WentThrough part w [] o.link.sent q'
  went_here then = went [] then

  pub went_more : {q' : Option (List ℕ)} → ((v : ClientState) → IsClientOf p.link v → (more : List ℕ) × Appended p.link.sent more q') → (more : List ℕ) × WentThrough part w more o.link.sent q'
  went_more then =
      let c = g.came w stands in
      let m = then c.0 c.1 in
      (m.0, went m.0 m.1)

-- the same of a part and the one after it
pub went_on : {X Y : Type 0} (part : PlayPart X) (next : X → PlayPart Y) {x : X} {w v : ClientState} {did : ToolDeeds} (more : List ℕ) {a b c : Option (List ℕ)} → part w ≡ (let o : Outcome ToolDeeds (X × ClientState) PlayFault = record { did = did; end = Ok (x, v) } in o) →
    Appended a did.sends b → WentThrough (next x) v more b c → WentThrough (goes_on doing part next) w more a c
went_on {Y = Y} part next {x} {w} {v} {did} more {a} {b} {c} is first last =
    let whole = goes_by doing part next is in
    record {
      value = last.value;
      replied = ap (λ (o : Outcome ToolDeeds (Y × ClientState) PlayFault). o.end) whole ∙ last.replied;
      link = subst (λ (l : List ℕ). Appended a l c) (sym (ap (λ (o : Outcome ToolDeeds (Y × ClientState) PlayFault). o.did.sends ++ more) whole ∙ append_assoc did.sends (next x v).did.sends more))
          (appended_on a b c did.sends ((next x v).did.sends ++ more) first last.link);
    }

-- and then more was sent
pub went_then : {X : Type 0} {part : PlayPart X} {w : ClientState} {more : List ℕ} (extra : List ℕ) {a b c : Option (List ℕ)} → WentThrough part w more a b → Appended b extra c → WentThrough part w (more ++ extra) a c
went_then {part = part} {w} {more} extra {a} {b} {c} went then = record {
  value = went.value;
  replied = went.replied;
  link = subst (λ (l : List ℕ). Appended a l c) (append_assoc (part w).did.sends more extra) (appended_on a b c ((part w).did.sends ++ more) extra went.link then);
}

-- Blocks of a sound were played, and these bytes were read after them: whatever the source has left, playing goes on from here.
pub record IsStepped (coding : Option Coding) (width : ℕ) (pace : Pace) (told : DevTime) (size head : ℕ) (course : Course) (given : ℕ) (ahead : List ℕ) (left left' : Option (List ℕ)) (o p : ToolSight) : Type 0 where
  pub played : List ℕ
  pub all : length played ≡ given
  pub begun : (given ≡ 0) ⊎ (size ≤ given)
  pub read : Consumed left (played ++ ahead) left'
  pub reached : (rest : List ℕ) → Reached (tooling play_finish) (plays coding width pace (course_from told) head (blocks size (played ++ rest))) (plays coding width pace course (head + given) (blocks size rest)) o p

pub stepped_begin : (coding : Option Coding) (width : ℕ) (pace : Pace) (told : DevTime) (size head : ℕ) {ahead : List ℕ} {left left' : Option (List ℕ)} {o : ToolSight} → Consumed left ahead left' → IsStepped coding width pace told size head (course_from told) 0 ahead left left' o o
stepped_begin coding width pace told size head {o} first = record {
  played = [];
  all = refl;
  begun = inl refl;
  read = first;
  reached = λ rest. (let same : head ≡ head + 0 = omega arith in subst (λ (n : ℕ). Reached (tooling play_finish) (plays coding width pace (course_from told) head (blocks size rest)) (plays coding width pace (course_from told) n (blocks size rest)) o o) same (reached_here is_play));
}

-- a whole block more was played
pub stepped_on : {coding : Option Coding} {width : ℕ} {pace : Pace} {told : DevTime} {size head : ℕ} {course : Course} {given n : ℕ} (room : List ℕ) {left left' : Option (List ℕ)} {o p q : ToolSight} {now : DevTime} → IsStepped coding width pace told size head course given (take n room) left left' o p →
    length (take n room) ≡ n → n ≡ size → BlockFits n size width (head + given) → 0 < n / width →
    Goes (tooling refused) (plays_block pace course (as_served coding (take (n / width * width) room))) (Ok now) p q →
    (ahead : List ℕ) {left'' : Option (List ℕ)} → Consumed left' ahead left'' → IsStepped coding width pace told size head (course_on pace course (n / width) now) (given + n) ahead left left'' o q
stepped_on {coding} {width} {pace} {told} {size} {head} {course} {given} {n} room {left} {left'} {o} {p} {q} s full whole fits some goes ahead {left''} more = record {
  played = s.played ++ take n room;
  all = omega (arith, length-append s.played (take n room), s.all);
  begun = inr (omega arith);
  read = consumed_on left left' left'' (s.played ++ take n room) ahead s.read more;
  reached = λ rest.
      let f : IsFilled (plays coding width pace (course_from told) head (blocks size ((s.played ++ take n room) ++ rest))) coding width pace size course (head + given) n None room (Some rest) o p =
      record {
        after = rest;
        is_left = refl;
        full = full;
        ended = λ short. absurd (omega arith);
        reached = subst (λ (l : List ℕ). Reached (tooling play_finish) (plays coding width pace (course_from told) head (blocks size l)) (plays coding width pace course (head + given) (blocks size (take n room ++ rest))) o p) (sym (append_assoc s.played (take n room) rest)) (s.reached (take n room ++ rest));
      } in
      let count : head + given + n ≡ head + (given + n) = omega arith in
      play_reached f fits some goes count;
}

whole_part : (of : Option ℕ) (part : List ℕ) → FitsStated of (length part) → stated_part of part ≡ part
whole_part None part fits = refl
whole_part (Some m) part fits = take_all m part fits

-- a sound of just these bytes was played
stepped_goes : (sound : SourceSound) (block : ℕ) (pace : Pace) (told : DevTime) (width : ℕ) → width ≡ source_width sound.coding sound.ty sound.channels → {course : Course} {given : ℕ} {ahead : List ℕ} {left left' : Option (List ℕ)} {o p : ToolSight}
    (s : IsStepped sound.coding width pace told (block * width) sound.head course given ahead left left' o p) → FitsStated sound.length given → Goes (tooling play_finish) (plays_sound sound block pace told s.played) (Ok course) o p
unfolding plays_sound
stepped_goes sound block pace told width same {course} {given} {o = o} {p} s fits =
    let none = ap (plays sound.coding width pace course (sound.head + given)) (blocks_empty (block * width) [] refl) ∙ plays_none sound.coding width pace course (sound.head + given) in
    let part : s.played ≡ stated_part sound.length s.played = sym (whole_part sound.length s.played (subst (λ (n : ℕ). FitsStated sound.length n) (sym s.all) fits)) in
    let r = subst (λ (l : List ℕ). Reached (tooling play_finish) (plays sound.coding width pace (course_from told) sound.head (blocks (block * width) l)) (plays sound.coding width pace course (sound.head + given) (blocks (block * width) [])) o p) (append-nil s.played ∙ part) (s.reached []) in
    subst (λ (n : ℕ). Goes (tooling play_finish) (plays sound.coding n pace (course_from told) sound.head (blocks (block * n) (stated_part sound.length s.played))) (Ok course) o p) same
    (reached_goes is_play _ r (rw none (goes_value is_play _)))

module _ (sound : SourceSound) (block : ℕ) (pace : Pace) (told : DevTime) (width : ℕ) (same : width ≡ source_width sound.coding sound.ty sound.channels) {course : Course} {given : ℕ} {ahead : List ℕ} {left left' : Option (List ℕ)} {o p : ToolSight}
    (s : IsStepped sound.coding width pace told (block * width) sound.head course given ahead left left' o p) (fits : FitsStated sound.length given) (few : length ahead ≤ block * width) where
  -- the first block is there
  pub step_first : (of : Option ℕ) → of ≡ stated_after sound.length given → (length ahead < block * width → IsSpent left' ⊎ (of ≡ Some (length ahead))) → HasFirst sound block (length (s.played ++ ahead)) left'
  step_first of rest ended =
      let long = length-append s.played ahead in
      let all = s.all in
      let size : block_bytes sound block ≡ block * width = ap (λ (n : ℕ). block * n) (sym same) in
      let short : length ahead < block * width → HasFirst sound block (length (s.played ++ ahead)) left' = λ less. elim (stated_all sound.length of given left' rest fits (ended less)) [
        | inl spent ↦ inr (inl spent)
        | inr stated ↦ inr (inr (stated ∙ ap (λ (k : ℕ). Some k) (let count : given + length ahead ≡ length (s.played ++ ahead) = omega arith in count)))
      ] in
      elim (cases_lt (length ahead) (block * width)) [
        | inl less ↦ short less
        | inr full ↦ inl (omega arith)
      ]

  -- the first block was full
  pub step_later : 1 ≤ given → HasFirst sound block (length (s.played ++ ahead)) left'
  step_later more =
      let long = length-append s.played ahead in
      let all = s.all in
      let size : block_bytes sound block ≡ block * width = ap (λ (n : ℕ). block * n) (sym same) in
      elim s.begun [
        | inl none ↦ absurd (omega arith)
        | inr full ↦ inl (omega arith)
      ]

  -- how far it was read where the code ends
  pub step_ends : (failed : Type 0) → HasFirst sound block (length (s.played ++ ahead)) left' → {w : ClientState} → IsClientOf o.link w → {q' : Option (List ℕ)} → (failed → Appended p.link.sent [] q') →
      ((v : ClientState) → IsClientOf p.link v → (more : List ℕ) × Appended p.link.sent more q') → (failed → 1 ≤ given) →
      (steps : ReadsInStep sound block (plays_sound sound block pace told) w failed ⊥ left left' o.link.sent q') × (failed → 1 ≤ length steps.played)
  step_ends failed first stands still more later =
      let goes = stepped_goes sound block pace told width same s fits in (
        record {
          played = s.played;
          ahead = ahead;
          read = s.read;
          one_block = (let size : block_bytes sound block ≡ block * width = ap (λ (n : ℕ). block * n) (sym same) in omega arith);
          past = went_more goes stands more;
          stopped = λ bad. went_here goes stands (still bad);
          first = inl first;
        },
        λ bad. (let some = later bad in let all = s.all in omega arith),
      )
