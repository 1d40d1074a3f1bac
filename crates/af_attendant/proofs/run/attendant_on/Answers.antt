use Rattle.std.proofs.Common.{List, ℕ, ap₂, inl, inr, refl, Option}
use Rattle.af_io.specs.Dial.{ToldLink}
use Rattle.af_attendant.specs.AttendantParts.{seen_as}
use Rattle.af_answer.specs.AnswerRun.{DialSight}
use Rattle.af_attendant.proofs.RunLemmas.{first_ran}
use Rattle.af_attendant.proofs.run.attendant_on.Goals as goal

pub returns-in-Far-clause-ran : goal.returns-in-Far-clause-ran
returns-in-Far-clause-ran g c links told =
    let e = c.in-Far.ensures in
    inr (first_ran g.D.Far.Link.left g.D.Far.Link.sent c.args.call.now.job c.in-Far.far links refl told e.gives c.hang_up.ensures.gives e.back c.hang_up.ensures.back (λ i t. c.attendant_over-end.ensures.ran i t))

pub returns-in-Failed-clause-ran : goal.returns-in-Failed-clause-ran
returns-in-Failed-clause-ran g c links told =
    (inl (inl refl, ap₂ (λ (l : Option (List ToldLink)) (b : Option (List (List ℕ))). seen_as (let d : DialSight = record { links = l; back = b } in d) (g.S.HeldCommands.acts c.args.commands.now) (g.K.Sink.held c.args.sink.now)) c.in-Failed.ensures.gives c.in-Failed.ensures.back))

pub returns-in-OutOfMemory-clause-ran : goal.returns-in-OutOfMemory-clause-ran
returns-in-OutOfMemory-clause-ran g c links told =
    (inl (inr refl, ap₂ (λ (l : Option (List ToldLink)) (b : Option (List (List ℕ))). seen_as (let d : DialSight = record { links = l; back = b } in d) (g.S.HeldCommands.acts c.args.commands.now) (g.K.Sink.held c.args.sink.now)) c.in-OutOfMemory.ensures.gives c.in-OutOfMemory.ensures.back))
