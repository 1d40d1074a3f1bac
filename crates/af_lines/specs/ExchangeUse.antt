-- The program that is the exchange of a line, as a world has it.
use Rattle.std.specs.Prelude.{◌≡◌, ⊤, ℕ, Bool, true, false, is_some, List, [], ◌∷◌, MatchOption, IfSome}
use Rattle.std.specs.declared.option.Option.{Option}
use Rattle.std.specs.declared.option.Option.TheVariants.{None}
use Rattle.af_io.specs.declared.flow.Put.{Put}
use Rattle.af_phone.specs.declared.line.LineChange.{LineChange}
use Rattle.af_phone.specs.Lines.{is_change}
use Rattle.af_program.specs.declared.program.Launched.TheVariants as launch
use Rattle.af_program.specs.Acts.{ToldAct, TellsNothing}
use Rattle.af_exchange.specs.Lines.{hook_text}
use Rattle.af_exchange.specs.Ledger.{ledger_of, Notes}
use Rattle.af_exchange.specs.Told.{IsTold, IsDrained}
use Rattle.af_exchange.specs.Dialogue.{DialogueState, new_dialogue, is_open, is_over, starts_after}
use Rattle.af_exchange.specs.Exchange.{ExchangeState, lines_of, order_at, tried_after}
use Rattle.af_exchange.specs.Hook.{CallsHook}
use Rattle.af_exchange.specs.Begins.{Begins, BeginsWhereDue}
use Rattle.af_exchange.specs.Asks.{AsksProgram}

-- the acts of its program, if they are observable; what stands between it and its line; and the command line of each start
pub record ExchangeUse : Type 0 where
  pub acts : Option (List ToldAct)
  pub dialogue : DialogueState
  pub words : List (List ℕ)

abbrev pub exchange_use : {P : Type 0} → (P → Option (List ToldAct)) → ExchangeState P → ExchangeUse
exchange_use acts e = record { acts = acts e.program; dialogue = e.dialogue; words = e.words }

-- if the acts are observable, what an exchange promises holds of them: each change was given once, in order, and each hook call
-- was handed on
abbrev pub IsToldUse : ExchangeUse → Type 0
IsToldUse e =
    MatchOption e.acts ⊤
    (λ told. IsTold e.dialogue.starts.restarts e.dialogue.off e.dialogue.left e.dialogue.owed (is_open e.dialogue.running) told)

-- all changes that its program gave so far were given, and none of its lines is malformed
abbrev pub IsDrainedUse : ExchangeUse → Type 0
IsDrainedUse e = MatchOption e.acts ⊤ (λ told. IsDrained (ledger_of told).running)

-- how often its program may be started, and its command line stay
pub record KeepsOrders (before after : ExchangeUse) : Type 0 where
  pub restarts : after.dialogue.starts.restarts ≡ before.dialogue.starts.restarts
  pub words : after.words ≡ before.words

-- the same, whatever went by
abbrev pub orders_of : ℕ → List (List ℕ) → ExchangeUse
orders_of restarts words = record { acts = None; dialogue = new_dialogue restarts; words = words }

abbrev pub exchange_orders : ExchangeUse → ExchangeUse
exchange_orders e = orders_of e.dialogue.starts.restarts e.words

-- A program without acts so far was started once, at this moment and by this command line, and runs. It was offered the line of
-- the hook, which is on, in one give. No change was given, and no hook call came.
pub record StartsOnce (restarts at : ℕ) (words : List (List ℕ)) (e : ExchangeUse) : Type 0 where
  pub before : Option (List ToldAct)
  pub none : TellsNothing before
  pub begins : Begins at words launch.Runs (new_dialogue restarts) e.dialogue before e.acts
  pub notes : Notes [] [] (record { at = at; words = words } ∷ []) before e.acts

-- It was attached at this moment: its program was started once, by this command line, and runs; and the phone is on its hook.
pub record IsBegun (restarts : ℕ) (words : List (List ℕ)) (at : ℕ) (e : ExchangeUse) : Type 0 where
  pub started_anew : e.dialogue.starts.restarts ≡ restarts
  pub started_by : e.words ≡ words
  pub tried : e.dialogue.starts.tried ≡ 1
  pub runs : is_some e.dialogue.running ≡ true
  pub on_hook : e.dialogue.off ≡ false
  pub starts_once : StartsOnce restarts at words e
  pub told : IsToldUse e

-- It is asked at a moment, and gives this change or none. A program that runs is offered what it is owed, and asked for more if
-- no change is left of what it gave. If it gives none, all that it said was given, and one that gives or takes nothing any more
-- was ended, and the wait for the next start began. If no program runs there is no change, and a start is tried, if one may come;
-- else nothing happens.
pub record AsksExchange (at : ℕ) (change : Option LineChange) (before after : ExchangeUse) : Type 0 where
  pub notes : Notes (lines_of change) [] (order_at before.dialogue before.words at) before.acts after.acts
  pub possible : IfSome change (λ c. is_change c ≡ true)
  pub quiet : is_some before.dialogue.running ≡ false → change ≡ None
  pub begins : is_some before.dialogue.running ≡ false →
      BeginsWhereDue at before.words before.dialogue after.dialogue before.acts after.acts
  pub asks : is_some before.dialogue.running ≡ true →
      AsksProgram at change before.dialogue after.dialogue before.acts after.acts
  pub drained : change ≡ None → IsDrainedUse after
  pub over : is_some before.dialogue.running ≡ true → change ≡ None → is_over after.dialogue.running ≡ false
  pub starts : is_some before.dialogue.running ≡ true →
      after.dialogue.starts ≡ starts_after at after.dialogue.running before.dialogue
  pub tried : after.dialogue.starts.tried ≡ tried_after before.dialogue at
  pub off : after.dialogue.off ≡ before.dialogue.off
  pub told : IsToldUse after
  pub same : KeepsOrders before after

-- Its hook is taken off, or put on. A program that takes the call is offered its line, and goes on as it answers. It fails
-- exactly if no program takes lines, and no start is left.
pub record CallsExchange (off : Bool) (answer : Put) (before after : ExchangeUse) : Type 0 where
  pub calls : CallsHook off answer before.dialogue after.dialogue before.acts after.acts
  pub notes : Notes [] (hook_text off ∷ []) [] before.acts after.acts
  pub hook : after.dialogue.off ≡ off
  pub starts : after.dialogue.starts ≡ before.dialogue.starts
  pub told : IsToldUse after
  pub same : KeepsOrders before after
