-- How a tool ends, by its trace.
use Rattle.std.proofs.Common.{◌≡◌, ℕ, true, false, List, [], ◌++◌, append-nil, sym, ap, ◌∙◌, refl, inl, inr, ◌⊎◌}
use Rattle.std.specs.Prelude.{Result, Ok, Err, IsOk}
use Rattle.std.specs.declared.option.Option.{Option}
use Rattle.af_toolkit.specs.Parts.{goes_on, outcome}
use Rattle.af_toolkit.proofs.PartLemmas as parts
use Rattle.af_toolkit.proofs.PartLemmas.{called_first, called_last}
use Rattle.af_request.specs.Asked.{Asked}
use Rattle.af_request.specs.Answer.{Answer}
use Rattle.af_request.specs.Requests.{request_bytes}
use Rattle.af_lib.specs.declared.fault.ConnFault.{ConnFault}
use Rattle.af_lib.specs.declared.fault.ConnFault.TheVariants as fault
use Rattle.af_toolkit.specs.declared.end.ToolEnd.{ToolEnd}
use Rattle.af_toolkit.specs.declared.end.ToolEnd.TheVariants as end
use Rattle.af_toolkit.specs.Trace.{Trace, ClientState, Finish, after_reply, answer_on, after_answer, bad_sound, channel_mismatch, done, ends, tool_end, fault_end, mismatch, no_device, not_dialled, refused, sound_cut, sound_lost, too_long}
use Rattle.af_toolkit.specs.ToolParts.{ToolPart, asks, deeds, doing, trace_ending}
use Rattle.af_toolkit.specs.Ends.{MatchesTrace, EndsByReply, EndsIfLost, ObservedTrace, IsAnswered, ToolRan, has_done_all, is_of_reply, is_outer}

-- the finish of an end that is not from outside
abbrev told_by : ToolEnd → Finish
told_by end.LinkEnded = refused fault.LinkEnded
told_by (end.NoDevice devices) = no_device devices
told_by (end.RateMismatch from to) = mismatch from to
told_by (end.ChannelMismatch from to) = channel_mismatch from to
told_by (end.BadSound f) = bad_sound f
told_by end.SoundCut = sound_cut
told_by end.SoundLost = sound_lost
told_by (end.Refused code value) = refused (fault.ServerError code value)
told_by (end.BadReply header first) = refused (fault.BadReply header first)
told_by end.EventFlood = refused fault.EventFlood
told_by end.TooLong = too_long
told_by _ = done

finish_told : (finish : Finish) → is_outer (tool_end finish) ≡ false → finish ≡ told_by (tool_end finish)
finish_told not_dialled is = cc
finish_told (refused fault.LinkFault) is = cc
finish_told (refused fault.OutOfMemory) is = cc
finish_told (refused (fault.Spent first)) is = cc
finish_told finish is = refl

-- an end that is not from outside has one finish
one_finish : (f g : Finish) → is_outer (tool_end g) ≡ false → tool_end f ≡ tool_end g → f ≡ g
one_finish f g inner same = finish_told f (ap is_outer same ∙ inner) ∙ ap told_by same ∙ sym (finish_told g inner)

-- it is that of the trace
pub finish_is : (trace : Trace) (how : ToolEnd) (sends output : List ℕ) → MatchesTrace trace how sends output →
    (finish : Finish) → is_outer (tool_end finish) ≡ false → how ≡ tool_end finish → trace.finish ≡ finish
finish_is trace how sends output e finish inner same =
    let way : how ≡ tool_end trace.finish = (e.whole (ap is_outer same ∙ inner)).0 in
    one_finish trace.finish finish inner (sym way ∙ same)

-- a tool ends as its trace does, unless something from outside ends it
pub ends_as : (trace : Trace) (how : ToolEnd) (sends output : List ℕ) → MatchesTrace trace how sends output →
    (finish : Finish) → trace.finish ≡ finish → (how ≡ tool_end finish) ⊎ (is_outer how ≡ true)
ends_as trace how sends output e finish is = elim (is_outer how) as (λ b. is_outer how ≡ b → (how ≡ tool_end finish) ⊎ (is_outer how ≡ true)) [
  | true ↦ λ outer. inr outer
  | false ↦ λ inner. inl ((e.whole inner).0 ∙ ap tool_end is)
] refl

-- an end of a reply is not from outside
reply_inner : (f : ConnFault) → is_of_reply (fault_end f) ≡ true → is_outer (fault_end f) ≡ false
reply_inner fault.LinkFault is = cc
reply_inner (fault.Spent first) is = cc
reply_inner fault.OutOfMemory is = cc
reply_inner f is = refl

-- an end of a reply is that of the trace, and of no other
pub reply_of : (trace : Trace) (how : ToolEnd) (sends output : List ℕ) → MatchesTrace trace how sends output → EndsByReply trace how
reply_of trace how sends output e = record {
  only = λ f is same. finish_is trace how sends output e (refused f) (reply_inner f is) same;
  always = λ f is. ends_as trace how sends output e (refused f) is;
}

pub ends_by_reply : (trace : Trace) (how : ToolEnd) (s s' h h' : Option (List ℕ)) → ObservedTrace trace how s s' h h' → EndsByReply trace how
ends_by_reply trace how s s' h h' f = reply_of trace how f.sends f.output f.ended

-- an end for lost sound is that of the trace, and of no other
pub ends_if_lost : {trace : Trace} {how : ToolEnd} {sends output : List ℕ} → MatchesTrace trace how sends output → EndsIfLost trace how
ends_if_lost {trace} {how} {sends} {output} e = record {
  only = λ same. finish_is trace how sends output e sound_lost refl same;
  always = λ is. ends_as trace how sends output e sound_lost is;
}

-- a trace whose device exists, and which is not too long, is done if each request gets its reply
abbrev pub IsDoneOrRefused : Finish → Type 0
IsDoneOrRefused finish = (finish ≡ done) ⊎ ((f : ConnFault) × (finish ≡ refused f))

-- a tool whose trace is done ends so, unless something from outside ends it
pub done_unless_outer : (trace : Trace) (how : ToolEnd) (sends output : List ℕ) → MatchesTrace trace how sends output → trace.finish ≡ done → (how ≡ end.Done) ⊎ (is_outer how ≡ true)
done_unless_outer trace how sends output e is = ends_as trace how sends output e done is

-- the same if each request gets its reply
pub done_where_answered : (trace : Trace) (how : ToolEnd) (sends output : List ℕ) → MatchesTrace trace how sends output → IsDoneOrRefused trace.finish → IsAnswered trace → (how ≡ end.Done) ⊎ (is_outer how ≡ true)
done_where_answered trace how sends output e finish answered = elim finish [
  | inl is ↦ done_unless_outer trace how sends output e is
  | inr r ↦ absurd (answered r.0 r.1)
]

-- a tool ran that is done or refused if it is ready
unfoldable pub tool_ran : {ready : Type 0} {trace : Trace} {how : ToolEnd} {s s' h h' : Option (List ℕ)} → ObservedTrace trace how s s' h h' → (ready → IsDoneOrRefused trace.finish) → ToolRan ready trace how s s' h h'
tool_ran {trace = trace} {how = how} {s = s} {s' = s'} {h = h} {h' = h'} f finish = record {
  followed = f;
  reply = ends_by_reply trace how s s' h h' f;
  lost = ends_if_lost f.ended;
  complete = λ fit answered. done_where_answered trace how f.sends f.output f.ended (finish fit) answered;
}

-- no fault is done
pub fault_undone : (f : ConnFault) → fault_end f ≡ end.Done → ⊥
fault_undone f is = let bad : refused f ≡ done = one_finish (refused f) done refl is in cc

-- only a trace that is done to its end is reported as done
pub finish_done : (f : Finish) → tool_end f ≡ end.Done → f ≡ done
finish_done done is = refl
finish_done (refused f) is = absurd (fault_undone f is)
finish_done f is = absurd (cc)

-- what was done of all, where nothing is left
all_done : (whole part rest : List ℕ) → whole ≡ part ++ rest → rest ≡ [] → part ≡ whole
all_done whole part rest is none = sym (append-nil part) ∙ ap (λ (l : List ℕ). part ++ l) (sym none) ∙ sym is

-- a tool that is done has sent and written all of its trace
pub record IsWhole (trace : Trace) (sends output : List ℕ) : Type 0 where
  pub finish : trace.finish ≡ done
  pub sent : sends ≡ trace.sends
  pub wrote : output ≡ trace.output

pub is_whole : {trace : Trace} {how : ToolEnd} {sends output : List ℕ} → MatchesTrace trace how sends output → how ≡ end.Done → IsWhole trace sends output
is_whole {trace} {how} {sends} {output} e way =
    let whole = e.whole (ap is_outer way) in
    record {
      finish = finish_done trace.finish (sym whole.0 ∙ way);
      sent = all_done trace.sends sends e.unsent e.sent whole.1;
      wrote = all_done trace.output output e.unwritten e.wrote whole.2;
    }

-- a trace that goes to its end
abbrev pub IsToEnd : Finish → Type 0
IsToEnd finish = has_done_all (tool_end finish) ≡ true

-- no fault goes to the end
pub fault_short : (f : ConnFault) → IsToEnd (refused f) → ⊥
fault_short fault.LinkFault is = cc
fault_short fault.LinkEnded is = cc
fault_short (fault.Spent first) is = cc
fault_short (fault.ServerError code value) is = cc
fault_short (fault.BadReply header first) is = cc
fault_short fault.OutOfMemory is = cc
fault_short fault.EventFlood is = cc

all_inner : (how : ToolEnd) → has_done_all how ≡ true → is_outer how ≡ false
all_inner end.Done is = refl
all_inner end.SoundLost is = refl
all_inner how is = cc

-- a tool that did all has sent and written all of its trace, and ends as that does
pub record IsAll (trace : Trace) (how : ToolEnd) (sends output : List ℕ) : Type 0 where
  pub finish : IsToEnd trace.finish
  pub way : how ≡ tool_end trace.finish
  pub sent : sends ≡ trace.sends
  pub wrote : output ≡ trace.output

pub is_all : {trace : Trace} {how : ToolEnd} {sends output : List ℕ} → MatchesTrace trace how sends output → has_done_all how ≡ true → IsAll trace how sends output
is_all {trace} {how} {sends} {output} e way =
    let whole = e.whole (all_inner how way) in
    record {
      finish = ap has_done_all (sym whole.0) ∙ way;
      way = whole.0;
      sent = all_done trace.sends sends e.unsent e.sent whole.1;
      wrote = all_done trace.output output e.unwritten e.wrote whole.2;
    }

-- a setup in a trace that goes to its end was answered
pub answered_all : {X : Type 0} (r : Result X ConnFault) (w : ClientState) (next : X → ClientState → Trace) → IsToEnd (after_answer r w next).finish → (x : X) × (r ≡ Ok x) × (after_answer r w next ≡ next x w)
answered_all (Ok x) w next is = (x, refl, refl)
answered_all (Err f) w next is = absurd (fault_short f is)

-- A tool that begins with a part ends so only if that came to a value, where no cause of its end is such an end.
pub part_ok : {X F : Type 0} (Is : Finish → Type 0) (finish_of : F → Finish) → ((cause : F) → Is (finish_of cause) → ⊥) → (end : Result (X × ClientState) F) (next : X → Trace) → Is (trace_ending finish_of end next).finish → IsOk end
part_ok Is finish_of undone (Ok y) next way = refl
part_ok Is finish_of undone (Err cause) next way = absurd (undone cause way)

pub part_answered : {X : Type 0} (end : Result (X × ClientState) ConnFault) (next : X → Trace) → (trace_ending refused end next).finish ≡ done → IsOk end
part_answered end next way = part_ok (λ f. f ≡ done) refused (λ f is. cc) end next way

pub part_to_end : {X : Type 0} (end : Result (X × ClientState) ConnFault) (next : X → Trace) → IsToEnd (trace_ending refused end next).finish → IsOk end
part_to_end end next way = part_ok IsToEnd refused fault_short end next way

-- it is done or refused where what follows its value is
pub part_finish : {X : Type 0} (end : Result (X × ClientState) ConnFault) (next : X → Trace) → ((x : X) → IsDoneOrRefused (next x).finish) → IsDoneOrRefused (trace_ending refused end next).finish
part_finish (Ok y) next more = more y.0
part_finish (Err f) next more = inr (f, refl)

-- nothing is written after the last part of a tool
pub last_output : {X : Type 0} (end : Result (X × ClientState) ConnFault) → (trace_ending refused end (λ _. ends done)).output ≡ []
last_output (Ok y) = refl
last_output (Err f) = refl

-- what a request was answered with, if its part came to a value
pub asks_answered : {X : Type 0} (asked : Asked) (value_of : Answer → Option X) (w : ClientState) → IsOk (asks asked value_of w).end → (x : X) × (answer_on asked value_of w ≡ Ok x) × (asks asked value_of w ≡ outcome (deeds (request_bytes w.order asked) []) (Ok (x, after_reply w)))
unfolding asks
asks_answered asked value_of w ok = called_last (deeds (request_bytes w.order asked) []) (answer_on asked value_of w) (after_reply w) ok

-- the same in a part that begins with it
pub asks_first : {X Y : Type 0} (asked : Asked) (value_of : Answer → Option X) (next : X → ToolPart Y) (w : ClientState) → IsOk (goes_on doing (asks asked value_of) next w).end →
    parts.IsAnswered doing (deeds (request_bytes w.order asked) []) (answer_on asked value_of w) (after_reply w) next (goes_on doing (asks asked value_of) next w)
unfolding goes_on asks
asks_first asked value_of next w ok = called_first doing _ _ _ next ok
