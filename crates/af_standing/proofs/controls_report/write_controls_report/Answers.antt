use Rattle.std.proofs.Common.{rules, ◌≡◌, ◌++◌, List, ℕ, sym, append-nil, codes, refl}
use Rattle.std.specs.declared.option.Option.{Option}
use Rattle.std.specs.declared.option.Option.TheVariants.{None, Some}
use Rattle.af_request.specs.declared.reply.Phone.{Phone}
use Rattle.af_standing.specs.declared.controls_report.ControlsReport.{ControlsReport}
use Rattle.af_standing.specs.ControlsReport.{control_line, line_text, controls_report_text}
use Rattle.af_standing.proofs.controls_report.write_controls_report.Goals as goal

-- the two controls were put, and then a line, if there is one
report_put : (s : ControlsReport) (phone : Option Phone) {first both text : List ℕ} → s.phone ≡ phone → first ≡ control_line (codes "input") s.controls.input_on s.controls.input_gain → both ≡ first ++ control_line (codes "output") s.controls.output_on s.controls.output_gain →
    text ≡ both ++ line_text phone → text ≡ controls_report_text s
unfolding controls_report_text
report_put s phone there is_first is_both is_text = rw (is_text, is_both, is_first, ← there) refl

pub returns-in-Some-clause-bytes : goal.returns-in-Some-clause-bytes
returns-in-Some-clause-bytes c =
    report_put c.args.controls_report (Some c.in-Some.phone) (search rules) c.put_control_line-at.ensures.bytes c.put_control_line-at-2.ensures.bytes c.put_phone_line.ensures.bytes

pub returns-in-None-clause-bytes : goal.returns-in-None-clause-bytes
returns-in-None-clause-bytes c =
    report_put c.args.controls_report None (search rules) c.put_control_line-at.ensures.bytes c.put_control_line-at-2.ensures.bytes (sym (append-nil _))
