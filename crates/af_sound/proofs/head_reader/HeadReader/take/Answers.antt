use Rattle.std.proofs.Common.{◌∙◌, ◌++◌, ◌∷◌, [], ap, sym, Some}
use Rattle.af_sound.specs.Reading.{HasTaken, start}
use Rattle.af_sound.proofs.ReachedLemmas.{reached_last}
use Rattle.af_sound.proofs.TakenLemmas.{fault_exactly, head_exactly}
use Rattle.af_sound.proofs.head_reader.HeadReader.take.Goals as goal

pub returns-clause-taken : goal.returns-clause-taken
unfolding HasTaken
returns-clause-taken c form bytes before =
    reached_last bytes (start form) c.args.self.now.place c.args.byte before c.requires ∙ ap Some (sym c.after-self.ensures)

pub returns-clause-bad : goal.returns-clause-bad
unfolding HasTaken
returns-clause-bad c form bytes fault before =
    rw c.step.ensures (fault_exactly form (bytes ++ (c.args.byte ∷ [])) c.after-self.result fault (returns-clause-taken c form bytes before))

pub returns-clause-head : goal.returns-clause-head
unfolding HasTaken
returns-clause-head c form bytes head before =
    rw c.step.ensures (head_exactly form (bytes ++ (c.args.byte ∷ [])) c.after-self.result head (returns-clause-taken c form bytes before))
