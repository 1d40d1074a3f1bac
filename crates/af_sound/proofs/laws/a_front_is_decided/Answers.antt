use Rattle.af_sound.proofs.FrontLemmas.{front_fault, front_has_fault, front_head, front_is_head, front_is_whole}
use Rattle.af_sound.proofs.laws.a_front_is_decided.Goals as goal

pub returns : goal.returns
returns c = record {
  head = front_head;
  fault = front_fault;
  is_head = front_is_head;
  has_fault = front_has_fault;
  is_whole = front_is_whole;
}
