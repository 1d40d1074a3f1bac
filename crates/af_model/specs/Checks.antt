-- The checks of a request, in their order: the first that fails refuses it.
use Rattle.std.specs.Prelude.{ℕ, ◌==◌, not, Bool, ℤ, List, [], ◌∷◌, Result, Ok, Err, if◌then◌else◌, bit_and, is_none}
use Rattle.std.specs.Int.{w16, cast_unsigned}
use Rattle.std.specs.declared.option.Option.{Option}
use Rattle.std.specs.declared.option.Option.TheVariants.{None, Some}
use Rattle.af_sample.specs.Gains.{gain_of}
use Rattle.af_context.specs.declared.ContextFault.{ContextFault}
use Rattle.af_context.specs.declared.ContextFault.TheVariants as fault
use Rattle.af_model.specs.declared.refusal.RefusalCause.{RefusalCause}
use Rattle.af_model.specs.declared.refusal.RefusalCause.TheVariants.{BadValue, BadDevice, BadAc, BadIdChoice, TooManyAcs}
use Rattle.af_model.specs.declared.refusal.Refusal.{Refusal}
use Rattle.af_model.specs.State.{DeviceState, OpenLink}
use Rattle.af_model.specs.Reply.{refusal, refuse}

-- a check: what it refuses with, if it fails
abbrev pub check : Bool → RefusalCause → ℕ → Option Refusal
check fails cause value = if fails then Some (refusal cause value) else None

abbrev pub first_refusal : List (Option Refusal) → Option Refusal
first_refusal [] = None
first_refusal (None ∷ checks) = first_refusal checks
first_refusal (Some r ∷ checks) = Some r

-- a request with this opcode is refused, or is done if all checks pass
abbrev pub refuse_or : ℕ → Option Refusal → (OpenLink → OpenLink) → OpenLink → OpenLink
refuse_or opcode None f p = f p
refuse_or opcode (Some r) f p = refuse opcode r p

-- whether a mask names the field of a bit
abbrev pub names : ℕ → ℕ → Bool
names mask bit = not (bit_and mask bit == 0)

-- a gain outside -30 to 30 decibels is refused with its 16 bits
abbrev pub check_gain : ℤ → Option Refusal
check_gain gain = check (is_none (gain_of gain)) BadValue (cast_unsigned w16 gain)

-- a check of a field that is made if the mask names it
abbrev pub where_named : ℕ → ℕ → Option Refusal → Option Refusal
where_named mask bit r = if names mask bit then r else None

-- the error code for what contexts refuse
abbrev pub context_cause : ContextFault → RefusalCause
context_cause fault.BadAc = BadAc
context_cause fault.BadIdChoice = BadIdChoice
context_cause fault.TooMany = TooManyAcs

-- the answer of the contexts for a number refuses a request, or does not
abbrev pub context_refusal : ℕ → Result Unit ContextFault → Option Refusal
context_refusal ac (Ok done) = None
context_refusal ac (Err f) = Some (refusal (context_cause f) ac)

-- a request that names a device is done with it, or refused if it does not exist
abbrev pub in_device : ℕ → ℕ → (DeviceState → OpenLink → OpenLink) → Option DeviceState → OpenLink → OpenLink
in_device opcode d f None p = refuse opcode (refusal BadDevice d) p
in_device opcode d f (Some device) p = f device p
