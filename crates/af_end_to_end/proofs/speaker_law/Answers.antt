use Rattle.af_end_to_end.proofs.SpeakerLemmas.{jobs_are_handed, speakers_are_handed}
use Rattle.af_end_to_end.proofs.speaker_law.Goals as goal

pub returns : goal.returns
returns c = record { handed = speakers_are_handed; jobs = jobs_are_handed }
