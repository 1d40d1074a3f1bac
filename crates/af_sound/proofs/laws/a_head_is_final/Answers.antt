use Rattle.af_sound.proofs.TakenLemmas.{no_fault, one_head}
use Rattle.af_sound.proofs.laws.a_head_is_final.Goals as goal

pub returns-clause-one : goal.returns-clause-one
returns-clause-one c = one_head

pub returns-clause-no_fault : goal.returns-clause-no_fault
returns-clause-no_fault c = no_fault
