use Rattle.af_backend.proofs.TickLemmas.{loop_within, goes_on_within, ticks_within}
use Rattle.af_backend.proofs.laws.a_loop_ticks_within_its_delay.Goals as goal

pub returns : goal.returns
returns c = record {
  attached = loop_within;
  stays = λ nanos most device before after found. goes_on_within nanos most device before after found;
  ticks = λ nanos most device frames before after. ticks_within nanos most device frames before after;
}
