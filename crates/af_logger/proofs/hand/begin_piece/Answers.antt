use Rattle.std.proofs.Common.{rules, arith, ◌≡◌, ◌+◌, ◌∙◌, false, List, ℕ, Option, None, ap, subst, sym}
use Rattle.af_logger.specs.declared.logger.Logger.{Logger}
use Rattle.af_logger.specs.declared.progress.Progress.{Progress}
use Rattle.af_logger.specs.Keeping.{IsWhole}
use Rattle.af_logger.specs.Story.{IsPlaced, IsStory}
use Rattle.af_logger.proofs.StoryLemmas.{begun_on, given_same, no_more_blocks, story_finish}
use Rattle.af_logger.proofs.hand.begin_piece.Goals as goal

pub returns-clause-story : goal.returns-clause-story
returns-clause-story g c o past can placed i =
    let old = c.args.logger.now in
    let one = c.finish.new.self in
    let same = c.finish.ensures.same in
    let story = story_finish i same c.finish.ensures.ended in
    let none : one.waiting ≡ None = ap (λ (l : Logger). l.waiting) same in
    let count : one.begun ≡ old.begun = ap (λ (l : Logger). l.begun) same in
    let whole : IsWhole one.plan one.last = subst (λ (l : Logger). IsWhole l.plan l.last) (sym same) c.requires.whole in
    let there : IsPlaced o.start old.at.0 one.last = subst (λ (l : Logger). IsPlaced o.start old.at.0 l.last) (sym same) placed in
    let room = can c.requires.whole in
    let next = c.saturating_add-logger.ensures in
    let more : c.saturating_add-logger.result ≡ one.begun + 1 = omega (arith, room, next, count) in
    let piece = c.hand_head-piece.result in
    let began : piece ≡ record (c.new-piece.result) { cut = piece.cut } = c.hand_head-piece.ensures.same in
    let number : piece.number ≡ c.saturating_add-logger.result = ap (λ (p : Progress). p.number) began ∙ ap (λ (p : Progress). p.number) c.new-piece.ensures in
    let at : piece.at.0 ≡ old.at.0 = ap (λ (p : Progress). p.at.0) began ∙ ap (λ (p : Progress). p.at.0) c.new-piece.ensures ∙ ap (λ (l : Logger). l.at.0) same in
    let time : piece.at ≡ one.at = ap (λ (p : Progress). p.at) began ∙ ap (λ (p : Progress). p.at) c.new-piece.ensures in
    let nothing : piece.recorded ≡ 0 = ap (λ (p : Progress). p.recorded) began ∙ ap (λ (p : Progress). p.recorded) c.new-piece.ensures in
    let some = c.finish.ensures.logger.plan.frames.0 in
    let taken = c.hand_head-piece.ensures.taken in
    no_more_blocks (begun_on one.last (g.C.Commands.desk c.start.new.self) old.at.0 piece taken.0 _ (subst (λ (w : Option Progress). IsStory false c.args.task.now.job.now one.plan o past one.begun w one.last one.failed (g.C.Commands.desk c.finish.new.commands) (g.K.Sink.held c.finish.new.sink)) none story) whole some there more (number ∙ more) at nothing (given_same c.args.task.now.job.now one.plan piece c.as_str.ensures.value number time) c.start.ensures.started taken.1 taken.2)
