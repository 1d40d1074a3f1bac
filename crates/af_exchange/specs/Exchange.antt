-- The program of a line, as a caller has it.
use Rattle.std.specs.Prelude.{◌≡◌, ⊤, ℕ, ◌+◌, if◌then◌else◌, List, [], ◌∷◌, MatchOption}
use Rattle.std.specs.declared.option.Option.{Option}
use Rattle.std.specs.declared.option.Option.TheVariants.{None, Some}
use Rattle.af_phone.specs.declared.line.LineChange.{LineChange}
use Rattle.af_program.specs.Acts.{ToldAct}
use Rattle.af_exchange.specs.Lines.{text_of}
use Rattle.af_exchange.specs.Ledger.{ledger_of, Order}
use Rattle.af_exchange.specs.Told.{IsTold, IsDrained}
use Rattle.af_exchange.specs.Dialogue.{DialogueState, new_dialogue, is_open}
use Rattle.af_exchange.specs.Begins.{is_due}

-- a program, what stands between it and its line, and the command line of each start
pub record ExchangeState (P : Type 0) : Type 0 where
  pub program : P
  pub dialogue : DialogueState
  pub words : List (List ℕ)

abbrev pub new_exchange : {P : Type 0} → P → ℕ → List (List ℕ) → ExchangeState P
new_exchange program restarts words = record { program = program; dialogue = new_dialogue restarts; words = words }

abbrev pub IsToldWhereTold : {P : Type 0} → (P → Option (List ToldAct)) → ExchangeState P → Type 0
IsToldWhereTold acts e =
    MatchOption (acts e.program) ⊤
    (λ told. IsTold e.dialogue.starts.restarts e.dialogue.off e.dialogue.left e.dialogue.owed (is_open e.dialogue.running) told)

abbrev pub IsDrainedWhereTold : {P : Type 0} → (P → Option (List ToldAct)) → ExchangeState P → Type 0
IsDrainedWhereTold acts e = MatchOption (acts e.program) ⊤ (λ told. IsDrained (ledger_of told).running)

-- how often its program may be started, and its command line stay
pub record SameOrders {P : Type 0} (before after : ExchangeState P) : Type 0 where
  pub restarts : after.dialogue.starts.restarts ≡ before.dialogue.starts.restarts
  pub words : after.words ≡ before.words

-- the line of a change that was given, if one was
abbrev pub lines_of : Option LineChange → List (List ℕ)
lines_of None = []
lines_of (Some change) = text_of change ∷ []

-- the start that is tried at a moment: one, if it is due
abbrev pub order_at : DialogueState → List (List ℕ) → ℕ → List Order
order_at d words at = if is_due d at then record { at = at; words = words } ∷ [] else []

-- how many starts were tried after a moment at which one is tried if it is due
abbrev pub tried_after : DialogueState → ℕ → ℕ
tried_after d at = if is_due d at then d.starts.tried + 1 else d.starts.tried
