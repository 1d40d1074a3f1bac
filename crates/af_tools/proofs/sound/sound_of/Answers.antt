use Rattle.std.proofs.Common.{rules, ◌≡◌, Option, Err, Some, subst}
use Rattle.af_sound.specs.declared.head.SoundForm.{SoundForm}
use Rattle.af_tools.specs.Steps.{GaveHead}
use Rattle.af_tools.proofs.HeadReadLemmas.{gave_head}
use Rattle.af_tools.proofs.SoundFitLemmas.{sound_fits, sound_unfit}
use Rattle.af_tools.proofs.sound.sound_of.Goals as goal

pub returns-in_err-fit-clause-brings : goal.returns-in_err-fit-clause-brings
returns-in_err-fit-clause-brings g c bytes told tells =
    let file = c.in_ok-head.field-0 in
    let came = c.in_ok-head.ensures.brings bytes told tells in
    let same : c.from_residual-in_err-fit.result ≡ Err c.in_err-fit.field-0.0 = search rules in
    let is : Some c.in-Some.form ≡ c.args.job.now.form = search rules in
    rw same (sound_unfit c.in-Some.form c.args.job.now c.args.device bytes file.head file.size (g.S.Source.left c.read_head.new.source) is came.0 c.in_ok-head.ensures.read.within c.in_err-fit.field-0.0 c.in_err-fit.ensures)

pub returns-clause-brings : goal.returns-clause-brings
returns-clause-brings g c bytes told tells =
    let file = c.in_ok-head.field-0 in
    let came = c.in_ok-head.ensures.brings bytes told tells in
    let is : Some c.in-Some.form ≡ c.args.job.now.form = search rules in
    rw c.type_of.ensures
    (sound_fits c.in-Some.form c.args.job.now c.args.device bytes file.head file.size (g.S.Source.left c.read_head.new.source) is came.0 c.in_ok-head.ensures.read.within c.in_ok-fit.ensures came.1)

pub returns-in_err-head-clause-front : goal.returns-in_err-head-clause-front
returns-in_err-head-clause-front g c bytes told tells =
    let is : Some c.in-Some.form ≡ c.args.job.now.form = search rules in
    let same : c.from_residual.result ≡ Err c.in_err-head.field-0.0 = search rules in
    rw same (subst (λ (form : Option SoundForm). GaveHead form bytes (g.S.Source.left c.read_head.new.source)) is (c.in_err-head.ensures.front bytes told tells))

pub returns-in_err-fit-clause-front : goal.returns-in_err-fit-clause-front
returns-in_err-fit-clause-front g c bytes told tells =
    let is : Some c.in-Some.form ≡ c.args.job.now.form = search rules in
    let same : c.from_residual-in_err-fit.result ≡ Err c.in_err-fit.field-0.0 = search rules in
    rw same (subst (λ (form : Option SoundForm). GaveHead form bytes (g.S.Source.left c.read_head.new.source)) is
    (gave_head told c.in_ok-head.ensures.read (c.in_ok-head.ensures.brings bytes told tells)))
