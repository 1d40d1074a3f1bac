use Rattle.std.proofs.Common.{◌≡◌, false, true, Option, None, Some, subst, sym}
use Rattle.af_logger.specs.declared.logger.Logger.{Logger}
use Rattle.af_logger.specs.declared.progress.Progress.{Progress}
use Rattle.af_logger.specs.Story.{HasStory, IsStory}
use Rattle.af_logger.proofs.StoryLemmas.{ending_on, gone_on, none_gone, story_finish}
use Rattle.af_logger.proofs.logger.Logger.end.Goals as goal

pub returns-clause-gone : goal.returns-clause-gone
returns-clause-gone g c job o blocks i =
    let old = c.args.self.now in
    let one = c.finish.new.self in
    let piece = c.in-Some.piece in
    let there : old.last ≡ Some piece = c.in-Some.is in
    let open_one : IsStory false job old.plan o blocks old.begun old.waiting (Some piece) old.failed (g.C.Commands.desk c.args.commands.now) (g.K.Sink.held c.args.sink.now) =
    subst (λ (w : Option Progress). IsStory false job old.plan o blocks old.begun old.waiting w old.failed (g.C.Commands.desk c.args.commands.now) (g.K.Sink.held c.args.sink.now)) there i in
    let closed_one : HasStory true job o blocks old (g.C.Commands.desk c.close.new.self) (g.K.Sink.held c.args.sink.now) =
    subst (λ (w : Option Progress). IsStory true job old.plan o blocks old.begun old.waiting w old.failed (g.C.Commands.desk c.close.new.self) (g.K.Sink.held c.args.sink.now)) (sym there) (ending_on piece open_one c.close.ensures.closed) in
    let finished = story_finish {new = one} closed_one c.finish.ensures.same c.finish.ensures.ended in
    let known = subst (λ (l : Logger). HasStory true job o blocks l (g.C.Commands.desk c.finish.new.commands) (g.K.Sink.held c.finish.new.sink)) c.finish.ensures.same finished in
    let last : IsStory true job old.plan o blocks old.begun None (Some piece) one.failed (g.C.Commands.desk c.finish.new.commands) (g.K.Sink.held c.finish.new.sink) =
    subst (λ (w : Option Progress). IsStory true job old.plan o blocks old.begun None w one.failed (g.C.Commands.desk c.finish.new.commands) (g.K.Sink.held c.finish.new.sink)) there known in
    gone_on old piece c.finish-status.result there last c.finish-status.ensures.ended c.tell.ensures.line
