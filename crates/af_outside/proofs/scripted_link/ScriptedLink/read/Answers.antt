use Rattle.std.proofs.Common.{◌≡◌, ℕ, List, ◌-◌, sym, drop, arith, take, length, true, false}
use Rattle.std.proofs.lemmas.List.{drop-drop, length-drop}
use Rattle.std.proofs.Math.Seq.{take-length}
use Rattle.af_world.specs.Outside.{ScriptedClient}
use Rattle.af_outside.proofs.ScriptedClientLemmas.{read_first, read_nothing}
use Rattle.af_outside.proofs.scripted_link.ScriptedLink.read.Goals.{After-copy_first-count}
use Rattle.af_outside.proofs.scripted_link.ScriptedLink.read.Goals as goal

all_left : (bytes : List ℕ) (given : ℕ) → take (length bytes - given) (drop given bytes) ≡ drop given bytes
all_left bytes given = rw (← length-drop given bytes) (take-length (drop given bytes))

-- the client before the read
abbrev reading : After-copy_first-count → ScriptedClient
reading c = record { gives = drop c.self.inside.given c.self.inside.bytes.items; ends = c.self.inside.ends; takes = c.self.inside.takes; fails_read = c.self.inside.fails_read; fails_write = c.self.inside.fails_write }

count_is : (c : After-copy_first-count) → c.copy_first-count.result ≡ length (take (length c.args.into.now) (reading c).gives)
count_is c = rw (c.deref.ensures.value, all_left c.self.inside.bytes.items c.self.inside.given) at c.copy_first-count.ensures.count

pub returns-then-count-gt0-clause-answered : goal.returns-then-count-gt0-clause-answered
returns-then-count-gt0-clause-answered c =
    let at = (goal.at.returns-then-count-gt0-clause-answered c).After-copy_first-count in
    let copied = rw (c.deref.ensures.value, all_left c.self.inside.bytes.items c.self.inside.given) at c.copy_first-count.ensures.copied in
    rw (← c.self.view_is) (read_first c.self.inside.is_open (reading at) c.copy_first-count.result _ _ _ c.if-not-self.false c.if-self.false c.requires (count_is at) c.if-count-gt0.true copied (sym (drop-drop c.copy_first-count.result c.self.inside.given c.self.inside.bytes.items)))

pub returns-then-self-2-clause-answered : goal.returns-then-self-2-clause-answered
returns-then-self-2-clause-answered c =
    let at = (goal.at.returns-then-self-2-clause-answered c).After-copy_first-count in
    rw (← c.self.view_is) (read_nothing c.self.inside.is_open (reading at) c.copy_first-count.result _ _ true c.if-not-self.false c.if-self.false c.requires (count_is at) (omega arith) c.if-self-2.true (sym (drop-drop c.copy_first-count.result c.self.inside.given c.self.inside.bytes.items)))

pub returns-clause-answered : goal.returns-clause-answered
returns-clause-answered c =
    let at = (goal.at.returns-clause-answered c).After-copy_first-count in
    rw (← c.self.view_is) (read_nothing c.self.inside.is_open (reading at) c.copy_first-count.result _ _ false c.if-not-self.false c.if-self.false c.requires (count_is at) (omega arith) c.if-self-2.false (sym (drop-drop c.copy_first-count.result c.self.inside.given c.self.inside.bytes.items)))
