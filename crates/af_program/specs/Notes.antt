-- The acts of a program in memory, as clauses see them.
use Rattle.std.specs.Prelude.{List, map, option_map}
use Rattle.std.specs.declared.option.Option.{Option}
use Rattle.af_process.specs.Acts.{words_of}
use Rattle.af_program.specs.declared.act.Act.{Act}
use Rattle.af_program.specs.declared.act.Act.TheVariants as act
use Rattle.af_program.specs.Acts.{ToldAct, launched, asked, gave, offered, took, ended, captured, emitted}

-- an act as clauses see it; of a command line it has only the bytes
abbrev pub told_of : Act → ToldAct
told_of (act.Launched at words came_to) = launched at (words_of words) came_to
told_of (act.Asked room came) = asked room came
told_of (act.Gave bytes) = gave bytes
told_of (act.Offered bytes answer) = offered bytes answer
told_of (act.Took bytes) = took bytes
told_of (act.Ended at) = ended at
told_of (act.Captured sound) = captured sound
told_of (act.Emitted sound) = emitted sound

-- acts that are observable, or not, as clauses see them
abbrev pub told_acts : Option (List Act) → Option (List ToldAct)
told_acts acts = option_map (map told_of) acts
