use Rattle.std.proofs.Common.{rules, ◌≡◌, ap, true, false, refl}
use Rattle.af_toolkit.specs.declared.end.ToolEnd.{ToolEnd}
use Rattle.af_toolkit.specs.declared.end.ToolEnd.TheVariants as end
use Rattle.af_cli.specs.declared.job.Task.TheVariants as task
use Rattle.af_standing.specs.List.{is_of_list}
use Rattle.af_tools.specs.Run.{reads_source}
use Rattle.af_tools.specs.Reading.{is_of_tool}
use Rattle.af_tools.proofs.run.perform.Goals as goal

pub returns-in-Play-clause-followed : goal.returns-in-Play-clause-followed
returns-in-Play-clause-followed g c input bytes told tells =
    let play : c.args.task.now ≡ task.Play c.in-Play.job = search rules in
    let source = tells (ap reads_source play) in
    rw play ((c.aplay.ensures.ran input bytes told source.0 source.1).ran.followed)

pub returns-in-Record-clause-followed : goal.returns-in-Record-clause-followed
returns-in-Record-clause-followed g c input bytes told tells =
    let record_job : c.args.task.now ≡ task.Record c.in-Record.job = search rules in
    rw record_job ((c.arecord.ensures.ran input told).followed)

pub returns-in-Set-clause-followed : goal.returns-in-Set-clause-followed
returns-in-Set-clause-followed g c input bytes told tells =
    let set : c.args.task.now ≡ task.Set c.in-Set.job = search rules in
    rw set ((c.aset.ensures.ran input told).followed)

-- an end of list is one of a tool that reads no source
list_end : (how : ToolEnd) → is_of_list how ≡ true → is_of_tool false false how ≡ true
list_end (end.NoDevice devices) is = refl
list_end how is = is

pub returns-in-List-clause-followed : goal.returns-in-List-clause-followed
returns-in-List-clause-followed g c input bytes told tells =
    let listing : c.args.task.now ≡ task.List = search rules in
    rw listing ((c.list.ensures.ran input told).ran.followed)

pub returns-in-List-clause-end : goal.returns-in-List-clause-end
returns-in-List-clause-end g c =
    let listing : c.args.task.now ≡ task.List = search rules in
    rw listing (list_end c.list.result c.list.ensures.end)

pub returns-in-Play-clause-step : goal.returns-in-Play-clause-step
returns-in-Play-clause-step g c input bytes told tells =
    let play : c.args.task.now ≡ task.Play c.in-Play.job = search rules in
    let source = tells (ap reads_source play) in
    rw play (c.aplay.ensures.step input bytes told source.0 source.1)

pub returns-in-Record-clause-step : goal.returns-in-Record-clause-step
returns-in-Record-clause-step g c input bytes told tells =
    let record_job : c.args.task.now ≡ task.Record c.in-Record.job = search rules in
    rw record_job (c.arecord.ensures.step input told)

pub returns-in-Set-clause-step : goal.returns-in-Set-clause-step
returns-in-Set-clause-step g c input bytes told tells =
    let set : c.args.task.now ≡ task.Set c.in-Set.job = search rules in
    rw set tt

pub returns-in-List-clause-step : goal.returns-in-List-clause-step
returns-in-List-clause-step g c input bytes told tells =
    let listing : c.args.task.now ≡ task.List = search rules in
    rw listing (c.list.ensures.step input told)
