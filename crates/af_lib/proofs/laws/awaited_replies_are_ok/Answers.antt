use Rattle.af_lib.specs.Calls.{as_controls, as_done, as_phone, as_recorded, as_time}
use Rattle.af_lib.proofs.SuccessLemmas.{calls_succeed}
use Rattle.af_lib.proofs.laws.awaited_replies_are_ok.Goals as goal

pub returns : goal.returns
returns g c =
    let link = g.L.Link in
    record {
      done = calls_succeed link.left link.sent link.faults as_done;
      times = calls_succeed link.left link.sent link.faults as_time;
      controls = calls_succeed link.left link.sent link.faults as_controls;
      phones = calls_succeed link.left link.sent link.faults as_phone;
      records = λ blocking room. calls_succeed link.left link.sent link.faults (as_recorded blocking room);
    }
