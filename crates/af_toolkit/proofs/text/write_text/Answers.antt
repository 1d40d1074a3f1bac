use Rattle.std.proofs.Common.{refl}
use Rattle.af_toolkit.specs.Trace.{done}
use Rattle.af_toolkit.proofs.ToolPartLemmas.{wrote_all, wrote_part}
use Rattle.af_toolkit.proofs.text.write_text.Goals as goal

pub returns-in-Done-clause-followed : goal.returns-in-Done-clause-followed
returns-in-Done-clause-followed g c sent = wrote_all _ done refl c.in-Done.ensures.written

pub returns-in-Failed-clause-followed : goal.returns-in-Failed-clause-followed
returns-in-Failed-clause-followed g c sent = wrote_part _ done refl c.in-Failed.ensures.written
