use Rattle.af_sound.proofs.TakenLemmas.{no_head, one_fault}
use Rattle.af_sound.proofs.laws.a_fault_is_final.Goals as goal

pub returns-clause-no_head : goal.returns-clause-no_head
returns-clause-no_head c = no_head

pub returns-clause-one : goal.returns-clause-one
returns-clause-one c = one_fault
