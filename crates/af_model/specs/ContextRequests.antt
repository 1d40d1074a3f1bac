-- CreateAC, ChangeAC and FreeAC: a link's contexts are created, changed and freed.
use Rattle.std.specs.Prelude.{ℕ, ◌==◌, nat_lt, not, Bool, false, is_none, ℤ, pos, List, [], ◌∷◌, ◌++◌, unwrap_or, if◌then◌else◌}
use Rattle.std.specs.declared.option.Option.{Option}
use Rattle.std.specs.declared.option.Option.TheVariants.{None, Some}
use Rattle.af_sample.specs.Gains.{gain_of}
use Rattle.af_sample.specs.SampleTypes.{type_of_code}
use Rattle.af_sample.specs.declared.sample_type.SampleType.TheVariants.{Lin16}
use Rattle.af_context.specs.declared.Context.{Context}
use Rattle.af_context.specs.Contexts.{creation, reference, is_in_use, with_changed, with_settings, without_context}
use Rattle.af_request.specs.Answer.{plain}
use Rattle.af_request.specs.Opcodes as opcodes
use Rattle.af_model.specs.declared.refusal.RefusalCause.TheVariants.{BadValue, BadDevice, BadAc, BadMatch}
use Rattle.af_model.specs.declared.refusal.Refusal.{Refusal}
use Rattle.af_model.specs.State.{OpenLink, open_link}
use Rattle.af_model.specs.Reply.{reply_with}
use Rattle.af_model.specs.Checks.{check, check_gain, where_named, names, first_refusal, refuse_or, context_refusal}

-- a link with these contexts
abbrev pub with_contexts : List Context → OpenLink → OpenLink
with_contexts contexts p = open_link p.environment (record p.link { contexts = contexts })

-- whether a device exists and has so many channels
abbrev pub is_match : Option ℕ → ℕ → Bool
is_match None channels = false
is_match (Some own) channels = own == channels

-- the checks of a new context on a device, by the channels of that, if it exists; the number of the context is looked at later
unfoldable pub creation_refusal : Option ℕ → ℕ → ℕ → ℕ → ℕ → ℤ → ℤ → Option Refusal
creation_refusal own device ty channels preempt play_gain record_gain = first_refusal
    (check (is_none own) BadDevice device
    ∷ check (nat_lt 3 ty) BadValue ty
    ∷ check (nat_lt 1 preempt) BadValue preempt
    ∷ check_gain play_gain
    ∷ check_gain record_gain
    ∷ check (not (is_match own channels)) BadMatch channels ∷ [])

-- The context that a request describes. After the checks its type is one of the four, and its gains are in range.
abbrev pub requested_context : ℕ → ℕ → ℕ → ℕ → ℤ → ℤ → Context
requested_context device ac ty preempt play_gain record_gain = record {
  ac = ac;
  device = device;
  ty = unwrap_or (type_of_code ty) Lin16;
  play_gain = unwrap_or (gain_of play_gain) (pos 0);
  record_gain = unwrap_or (gain_of record_gain) (pos 0);
  preempt = preempt == 1;
}

-- creates a context, if its number is free and there is room
abbrev pub create : Context → OpenLink → OpenLink
create c p = refuse_or opcodes.create_ac (context_refusal c.ac (creation p.link.contexts c.ac))
    (λ q. reply_with opcodes.create_ac plain (with_contexts (q.link.contexts ++ c ∷ []) q)) p

-- checks the fields that the mask names: 1 play gain, 2 record gain, 4 preempt
unfoldable pub change_refusal : List Context → ℕ → ℕ → ℕ → ℤ → ℤ → Option Refusal
change_refusal contexts mask ac preempt play_gain record_gain = first_refusal
    (check (not (is_in_use contexts ac)) BadAc ac
    ∷ where_named mask 1 (check_gain play_gain)
    ∷ where_named mask 2 (check_gain record_gain)
    ∷ where_named mask 4 (check (nat_lt 1 preempt) BadValue preempt) ∷ [])

abbrev pub named_gain : ℕ → ℕ → ℤ → Option ℤ
named_gain mask bit gain = if names mask bit then gain_of gain else None

abbrev pub named_preempt : ℕ → ℕ → Option Bool
named_preempt mask preempt = if names mask 4 then Some (preempt == 1) else None

abbrev pub change : ℕ → ℕ → ℕ → ℤ → ℤ → OpenLink → OpenLink
change mask ac preempt play_gain record_gain p = reply_with opcodes.change_ac plain
    (with_contexts
    (with_changed p.link.contexts ac
    (with_settings (named_gain mask 1 play_gain) (named_gain mask 2 record_gain) (named_preempt mask preempt))) p)

-- a context is freed; what it had accepted stays
abbrev pub free : ℕ → OpenLink → OpenLink
free ac p = refuse_or opcodes.free_ac (context_refusal ac (reference p.link.contexts ac))
    (λ q. reply_with opcodes.free_ac plain (with_contexts (without_context q.link.contexts ac) q)) p
