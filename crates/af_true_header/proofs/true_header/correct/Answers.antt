use Rattle.std.proofs.Common.{◌≡◌, ◌≤◌, ℕ, List, length, take, sym, ap, ◌∙◌, subst, arith, IfSome, option_map}
use Rattle.std.proofs.lemmas.List.{length-take-le}
use Rattle.af_sound.specs.declared.head.SoundForm.{SoundForm}
use Rattle.af_sound.specs.declared.head.SoundForm.TheVariants.{Au, Wave}
use Rattle.af_sound.specs.Written.{head_size}
use Rattle.af_true_header.specs.declared.sound_file.SoundFile.{SoundFile}
use Rattle.af_io.specs.Observed.{Unchanged}
use Rattle.af_true_header.specs.Corrections.{Overwrote}
use Rattle.af_true_header.specs.Files.{HoldsFile, written_file}
use Rattle.af_true_header.specs.Headers.{true_header}
use Rattle.af_true_header.proofs.HoldLemmas.{corrected_holds, corrected_written}
use Rattle.af_true_header.proofs.true_header.correct.Goals as goal

-- the room is large enough for each header
head_fits : (form : SoundForm) → head_size form ≤ 44
head_fits Au = omega arith
head_fits Wave = omega arith

fits_in : (form : SoundForm) (size room : ℕ) → size ≡ head_size form → room ≡ 44 → size ≤ room
fits_in form size room is all = let most = head_fits form in omega arith

header_sized : (form : SoundForm) (size : ℕ) (out header : List ℕ) → size ≡ head_size form → length out ≡ 44 → take size out ≡ header → length header ≡ head_size form
header_sized form size out header is all same = sym (ap length same) ∙ length-take-le size out (fits_in form size (length out) is all) ∙ is

pub returns-clause-holds : goal.returns-clause-holds
returns-clause-holds g c =
    let file = c.args.file.now in
    let header = true_header file.form file.head file.extent in
    let told = c.write_true_header-size.ensures in
    let size = header_sized file.form c.write_true_header-size.result c.write_true_header-size.new.out header told.size told.room told.bytes in
    let before = g.K.Sink.held c.args.sink.now in
    let after = g.K.Sink.held c.correct-put.new.self in
    let did = subst (λ (l : List ℕ). Overwrote c.correct-put.result before 0 l after) told.bytes c.correct-put.ensures.overwrote in
    subst (λ (f : SoundFile). IfSome after (λ held. HoldsFile f held)) (sym c.stating.ensures)
    (corrected_holds file c.correct-put.result before after size c.requires.holds did)

pub returns-clause-written : goal.returns-clause-written
returns-clause-written g c =
    let file = c.args.file.now in
    let header = true_header file.form file.head file.extent in
    let told = c.write_true_header-size.ensures in
    let size = header_sized file.form c.write_true_header-size.result c.write_true_header-size.new.out header told.size told.room told.bytes in
    let before = g.K.Sink.held c.args.sink.now in
    let after = g.K.Sink.held c.correct-put.new.self in
    let did = subst (λ (l : List ℕ). Overwrote c.correct-put.result before 0 l after) told.bytes c.correct-put.ensures.overwrote in
    subst (λ (f : SoundFile). Unchanged (option_map (λ held. written_file file held) before) (option_map (λ held. written_file f held) after))
    (sym c.stating.ensures) (corrected_written file c.correct-put.result before after size did)
