-- Which end a tool has, and what it has done if it is done.
use Rattle.std.proofs.Common.{◌≡◌, ℕ, Bool, true, false, List, IsErrOf, refl, sym, ap, ◌∙◌, Result, Err}
use Rattle.af_toolkit.specs.declared.end.ToolEnd.{ToolEnd}
use Rattle.af_toolkit.specs.Trace.{Trace, Finish, bad_sound, channel_mismatch, mismatch, no_device, sound_cut, tool_end}
use Rattle.af_toolkit.specs.Lost.{finish_by}
use Rattle.af_toolkit.specs.declared.end.ToolEnd.TheVariants as end
use Rattle.af_toolkit.specs.Ends.{MatchesTrace, has_done_all, is_outer}
use Rattle.af_toolkit.proofs.ToolEndLemmas.{ends_as, finish_is}
use Rattle.af_tools.specs.Reading.{is_unfit, EndsIfUnfit}

-- an end of a result
pub err_of : {T : Type 0} (how other : ToolEnd) → how ≡ other → IsErrOf {T = T} (Err how) other
err_of {T} how other same = ap (λ (h : ToolEnd). (let r : Result T ToolEnd = Err h in r)) same

pub of_err : {T : Type 0} (how other : ToolEnd) → IsErrOf {T = T} (Err how) other → how ≡ other
of_err {T} how other bad = cc bad

-- an end that is one of some is no other
pub never : (is_one : ToolEnd → Bool) (how other : ToolEnd) → is_one how ≡ true → is_one other ≡ false → how ≡ other → ⊥
never is_one how other is none same = let bad : false ≡ true = sym none ∙ ap is_one (sym same) ∙ is in cc

-- an end that is one of some is not that of a tool that did all, where they have none of those
pub not_all : (is_one : ToolEnd → Bool) (how : ToolEnd) → is_one how ≡ true → is_one end.Done ≡ false → is_one end.SoundLost ≡ false → has_done_all how ≡ true → ⊥
not_all is_one end.Done is none lost way = let bad : false ≡ true = sym none ∙ is in cc
not_all is_one end.SoundLost is none lost way = let bad : false ≡ true = sym lost ∙ is in cc
not_all is_one how is none lost way = cc

-- a tool that ends so did all
pub all_by : (strict lost : Bool) {how : ToolEnd} → how ≡ tool_end (finish_by strict lost) → has_done_all how ≡ true
all_by strict lost is = ap has_done_all is ∙ by strict lost where
  by : (strict lost : Bool) → has_done_all (tool_end (finish_by strict lost)) ≡ true
  by true true = refl
  by true false = refl
  by false lost = refl

-- an end for an unfit device or source is not from outside
unfit_inner : (finish : Finish) → is_unfit finish ≡ true → is_outer (tool_end finish) ≡ false
unfit_inner (no_device devices) is = refl
unfit_inner (mismatch from to) is = refl
unfit_inner (channel_mismatch from to) is = refl
unfit_inner (bad_sound f) is = refl
unfit_inner sound_cut is = refl
unfit_inner finish is = cc

-- it is that of the trace, and of no other
pub ends_if_unfit : {trace : Trace} {how : ToolEnd} {sends output : List ℕ} → MatchesTrace trace how sends output → EndsIfUnfit trace how
ends_if_unfit {trace} {how} {sends} {output} e = record {
  only = λ finish is same. finish_is trace how sends output e finish (unfit_inner finish is) same;
  always = λ finish _ is. ends_as trace how sends output e finish is;
}
