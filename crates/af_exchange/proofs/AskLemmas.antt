-- What a program is offered and asked as the next change is asked for.
use Rattle.std.specs.declared.option.Option.{Option}
use Rattle.std.specs.declared.option.Option.TheVariants.{None, Some}
use Rattle.std.proofs.Common.{ℕ, List}
use Rattle.af_io.specs.Observed.{Unchanged}
use Rattle.af_io.proofs.AppendedLemmas.{stays_appended, stays_stays}
use Rattle.af_phone.specs.declared.line.LineChange.{LineChange}
use Rattle.af_program.specs.declared.program.Took.{Took}
use Rattle.af_program.specs.declared.program.Took.TheVariants as takes
use Rattle.af_program.specs.Acts.{ToldAct, took_acts}
use Rattle.af_exchange.specs.Dialogue.{DialogueState}
use Rattle.af_exchange.specs.Hook.{Offers}
use Rattle.af_exchange.specs.Asks.{AsksProgram}

-- no act came before
offers-after : (answer : Option Took) (before after : DialogueState) (acts told acts' : Option (List ToldAct)) → Unchanged acts told → Offers answer before after told acts' →
    Offers answer before after acts acts'
offers-after None before after acts told acts' same gives = (gives.0, stays_stays acts told acts' same gives.1)
offers-after (Some (takes.Bytes n)) before after acts told acts' same gives =
    ((gives.0.0, gives.0.1, gives.0.2, stays_appended acts told acts' (took_acts (takes.Bytes n) before.owed) same gives.0.3), gives.1)
offers-after (Some takes.NoRoom) before after acts told acts' same gives =
    ((gives.0.0, stays_appended acts told acts' (took_acts takes.NoRoom before.owed) same gives.0.1), gives.1)
offers-after (Some takes.Ended) before after acts told acts' same gives =
    ((gives.0.0, stays_appended acts told acts' (took_acts takes.Ended before.owed) same gives.0.1), gives.1)

pub asks-after : (at : ℕ) (change : Option LineChange) (before after : DialogueState) (acts told acts' : Option (List ToldAct)) → Unchanged acts told →
    AsksProgram at change before after told acts' → AsksProgram at change before after acts acts'
asks-after at change before after acts told acts' same asks = record {
  mid = asks.mid;
  offered = asks.offered;
  offers = record {
    answer = asks.offers.answer;
    offered = asks.offers.offered;
    gives = offers-after asks.offers.answer before asks.mid acts told asks.offered same asks.offers.gives;
  };
  front = asks.front;
  seen = asks.seen;
  asked = asks.asked;
  asks = asks.asks;
  gives = asks.gives;
  ends = asks.ends;
  last = asks.last;
}
