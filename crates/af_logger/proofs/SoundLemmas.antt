-- The header of a piece.
use Rattle.std.proofs.Common.{◌≡◌, List, ℕ, [], sym, ap, ◌∙◌, refl, Option, None, Some}
use Rattle.std.specs.Prelude.{IfSome}
use Rattle.std.specs.Option.{option_map_or}
use Rattle.af_sound.specs.Written.{written_head}
use Rattle.af_sound.specs.declared.head.Coding.{Coding}
use Rattle.af_sound.specs.declared.head.SoundForm.{SoundForm}
use Rattle.af_logger.specs.declared.plan.Plan.{Plan}
use Rattle.af_logger.specs.Plans.{coding_in, IsPlan}
use Rattle.af_logger.specs.Sound.{head_in, head_of}

pub head_some : (plan : Plan) (form : SoundForm) → plan.form ≡ Some form → written_head form (head_in form plan) ≡ head_of plan
unfolding head_of
head_some plan form is = sym (ap (λ (f : Option SoundForm). option_map_or (λ (form : SoundForm). written_head form (head_in form plan)) f []) is)

pub head_none : (plan : Plan) → plan.form ≡ None → [] ≡ head_of plan
unfolding head_of
head_none plan is = sym (ap (λ (f : Option SoundForm). option_map_or (λ (form : SoundForm). written_head form (head_in form plan)) f []) is)

-- a form and no coding is none of a plan
pub form_or_coding : (plan : Plan) → IsPlan plan → ((form : SoundForm) (coding : Coding) → plan.form ≡ Some form → plan.coding ≡ Some coding → ⊥) → plan.form ≡ None
form_or_coding plan is other = by_form plan.form refl is.coding where
  by_form : (f : Option SoundForm) → plan.form ≡ f → IfSome f (λ form. plan.coding ≡ Some (coding_in form plan.ty)) → plan.form ≡ None
  by_form None same known = same
  by_form (Some form) same known = absurd (other form (coding_in form plan.ty) same known)
