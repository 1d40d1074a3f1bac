-- What a sink holds after a correction.
use Rattle.std.proofs.Common.{◌≡◌, ◌≤◌, ◌+◌, ℕ, List, ◌++◌, length, drop, refl, sym, ap, ◌∙◌, subst, arith, length-append, length-drop, IfSome, option_map, Option, None, Some}
use Rattle.std.proofs.lemmas.List.{drop_at}
use Rattle.af_io.specs.declared.flow.Put.{Put}
use Rattle.af_io.specs.declared.flow.Put.TheVariants as put
use Rattle.af_sound.specs.Written.{head_size}
use Rattle.af_true_header.specs.declared.sound_file.SoundFile.{SoundFile}
use Rattle.af_true_header.specs.Corrections.{Overwrites, Overwrote, overwritten}
use Rattle.af_true_header.specs.Headers.{true_header}
use Rattle.af_io.specs.Observed.{Unchanged}
use Rattle.af_true_header.specs.Files.{HoldsFile, first_header, stating, written_file}

-- bytes whose front was overwritten are that front, and then what was there
pub corrected_is : (header held : List ℕ) (n : ℕ) → length header ≡ n → overwritten 0 header held ≡ header ++ drop n (overwritten 0 header held)
corrected_is header held n size =
    ap (λ l. header ++ l) (sym (drop_at header (drop (length header) held) n size))

pub corrected_size : (header held : List ℕ) → 0 + length header ≤ length held → length (overwritten 0 header held) ≡ length held
corrected_size header held within = grind (arith, length-append, length-drop)

-- a correction leaves a sink that holds the file with what it states now
pub corrected_file : (file : SoundFile) (answer : Put) (before after : List ℕ) → length (true_header file.form file.head file.extent) ≡ head_size file.form →
    HoldsFile file before → Overwrites answer before 0 (true_header file.form file.head file.extent) after → HoldsFile (stating answer file) after
corrected_file file put.Done before after size holds did = let header = true_header file.form file.head file.extent in record {
  is = subst (λ (l : List ℕ). l ≡ header ++ drop (head_size file.form) l) (sym did.1) (corrected_is header before (head_size file.form) size);
  size = λ unbroken. ap length did.1 ∙ corrected_size header before did.0 ∙ holds.size unbroken;
}
corrected_file file put.Failed before after size holds did = subst (λ (l : List ℕ). HoldsFile file l) (sym did) holds

pub corrected_holds : (file : SoundFile) (answer : Put) (before after : Option (List ℕ)) → length (true_header file.form file.head file.extent) ≡ head_size file.form →
    IfSome before (λ held. HoldsFile file held) → Overwrote answer before 0 (true_header file.form file.head file.extent) after →
    IfSome after (λ held. HoldsFile (stating answer file) held)
corrected_holds file answer before None size holds did = tt
corrected_holds file answer None (Some after) size holds did = absurd did
corrected_holds file answer (Some before) (Some after) size holds did = corrected_file file answer before after size holds did

-- a correction leaves what was written
stating_header : (file : SoundFile) (answer : Put) (held : List ℕ) → written_file (stating answer file) held ≡ written_file file held
stating_header file put.Done held = refl
stating_header file put.Failed held = refl

overwrites_written : (file : SoundFile) (answer : Put) (before after : List ℕ) → length (true_header file.form file.head file.extent) ≡ head_size file.form →
    Overwrites answer before 0 (true_header file.form file.head file.extent) after → written_file file after ≡ written_file file before
overwrites_written file put.Done before after size did =
    let header = true_header file.form file.head file.extent in
    let n = head_size file.form in
    ap (λ l. first_header file ++ drop n l) did.1 ∙ ap (λ l. first_header file ++ l) (drop_at header (drop (length header) before) n size ∙ ap (λ k. drop k before) size)
overwrites_written file put.Failed before after size did = ap (written_file file) did

pub corrected_written : (file : SoundFile) (answer : Put) (before after : Option (List ℕ)) → length (true_header file.form file.head file.extent) ≡ head_size file.form →
    Overwrote answer before 0 (true_header file.form file.head file.extent) after →
    Unchanged (option_map (λ held. written_file file held) before) (option_map (λ held. written_file (stating answer file) held) after)
corrected_written file answer before None size did = tt
corrected_written file answer None (Some after) size did = absurd did
corrected_written file answer (Some before) (Some after) size did = stating_header file answer after ∙ overwrites_written file answer before after size did
