-- The tool that the first argument names.
use Rattle.std.proofs.Common.{◌≡◌, Bool, true, false, ◌&&◌, List, [], ◌∷◌, slice_get, is_some, option_and_then, ap, ◌∙◌, subst, refl, sym}
use Rattle.std.proofs.Math.Bool.{and-false}
use Rattle.std.specs.Prelude.{Option, Some, None}
use Rattle.std.specs.Option.{option_map_or}
use Rattle.clap.specs.Words.{Text, matches_of, takes}
use Rattle.af_cli.specs.declared.tool.Tool.{Tool}
use Rattle.af_cli.specs.Words.{Job, dial_wait, is_spelled, is_taken, job, job_in, tool_app, tool_named, wait_at}

-- arguments whose first one is known
pub record IsNamed (words : List Text) (name : Text) : Type 0 where
  pub rest : List Text
  pub is : words ≡ name ∷ rest

pub is_named : (words : List Text) (name : Text) → Some name ≡ slice_get words 0 → IsNamed words name
is_named [] name e = cc
is_named (x ∷ words) name e = let same : x ≡ name = cc in record { rest = words; is = ap (λ (y : Text). y ∷ words) same }

-- the job of arguments, by the tool that they name
pub job_named : (words : List Text) (name : Text) (found : Option Tool) → IsNamed words name → found ≡ tool_named name → job words ≡ option_and_then (λ tool. job_in tool (matches_of (tool_app tool) words)) found
unfolding job
job_named words name found n e = subst (λ (w : List Text). job w ≡ option_and_then (λ tool. job_in tool (matches_of (tool_app tool) w)) found) (sym n.is) (ap (λ (t : Option Tool). option_and_then (λ tool. job_in tool (matches_of (tool_app tool) (name ∷ n.rest))) t) (sym e))

-- how long arguments have a server waited for, by the tool that they name
pub wait_named : (words : List Text) (name : Text) (found : Option Tool) → IsNamed words name → found ≡ tool_named name → dial_wait words ≡ option_and_then (λ tool. wait_at (matches_of (tool_app tool) words)) found
unfolding dial_wait
wait_named words name found n e = subst (λ (w : List Text). dial_wait w ≡ option_and_then (λ tool. wait_at (matches_of (tool_app tool) w)) found) (sym n.is) (ap (λ (t : Option Tool). option_and_then (λ tool. wait_at (matches_of (tool_app tool) (name ∷ n.rest))) t) (sym e))

pub taken_named : (words : List Text) (name : Text) (found : Option Tool) → IsNamed words name → found ≡ tool_named name → is_taken words ≡ option_map_or (λ tool. takes (tool_app tool) words) found false
unfolding is_taken
taken_named words name found n e = subst (λ (w : List Text). is_taken w ≡ option_map_or (λ tool. takes (tool_app tool) w) found false) (sym n.is) (ap (λ (t : Option Tool). option_map_or (λ tool. takes (tool_app tool) (name ∷ n.rest)) t false) (sym e))

pub none_taken : (words : List Text) → None ≡ slice_get words 0 → is_spelled words ≡ false
unfolding is_taken
none_taken [] e = refl
none_taken (x ∷ words) e = cc

-- arguments are not valid if their command does not take them, or if they are no job
pub untaken : (words : List Text) → is_taken words ≡ false → is_spelled words ≡ false
untaken words t = ap (λ (b : Bool). b && is_some (job words)) t

pub no_job : (words : List Text) → job words ≡ None → is_spelled words ≡ false
no_job words e = ap (λ (o : Option Job). is_taken words && is_some o) e ∙ and-false (is_taken words)

-- if a command fails, and not since memory ran out, it does not take the arguments
pub not_taken : {K : Type 0} (b : Bool) (kind memory : K) → (b ≡ true → kind ≡ memory) → (kind ≡ memory → ⊥) → b ≡ false
not_taken true kind memory passes other = absurd (other (passes refl))
not_taken false kind memory passes other = refl
