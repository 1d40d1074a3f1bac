-- What a sink holds after a write.
use Rattle.std.proofs.Common.{◌≡◌, inl, inr, ◌≤◌, ◌+◌, ◌^◌, ℕ, Bool, true, false, nat_lt, if◌then◌else◌, List, [], ◌++◌, length, drop, refl, sym, ap, ◌∙◌, subst, arith, append-nil, append_assoc, length-append, option_map, Option, None, Some}
use Rattle.std.proofs.lemmas.List.{drop_at, drop-append-le}
use Rattle.af_io.specs.declared.flow.Put.{Put}
use Rattle.af_io.specs.declared.flow.Put.TheVariants as put
use Rattle.af_io.specs.Flow.{Written}
use Rattle.af_io.specs.Observed.{Unchanged}
use Rattle.af_io.proofs.AppendedLemmas.{appended_stays}
use Rattle.af_sound.specs.declared.head.SoundForm.{SoundForm}
use Rattle.af_sound.specs.declared.head.SoundHead.{SoundHead}
use Rattle.af_sound.specs.Written.{head_size, written_head}
use Rattle.af_true_header.specs.declared.extent.Extent.{Extent}
use Rattle.af_true_header.specs.declared.sound_file.SoundFile.{SoundFile}
use Rattle.af_true_header.specs.declared.stage.Stage.{Stage}
use Rattle.af_true_header.specs.declared.stage.Stage.TheVariants as stage
use Rattle.af_true_header.specs.Headers.{is_pad}
use Rattle.af_true_header.specs.Files.{HoldsFile, IsFile, begun_file, file_after, first_header, header_now, written_file}
use Rattle.af_true_header.specs.Sinks.{Holds, IsBegun, HoldsIfTold, IsStage, IsStageAfter, written_in}

not_both : {A : Type 0} (t : Bool) → t ≡ false → t ≡ true → A
not_both true e f = absurd cc
not_both false e f = absurd cc

-- what begins with a header is as long as that at least
as_long : (header held : List ℕ) (n : ℕ) → length header ≡ n → held ≡ header ++ drop n held → n ≤ length held
as_long header held n size is = let all = ap length is ∙ length-append header (drop n held) in omega arith

-- a header before bytes stays before more of them
pub after_more : (header held piece : List ℕ) (n : ℕ) → n ≤ length held → header ++ drop n (held ++ piece) ≡ (header ++ drop n held) ++ piece
after_more header held piece n within = ap (λ l. header ++ l) (drop-append-le n held piece within) ∙ sym (append_assoc header (drop n held) piece)

more_is : (header held piece : List ℕ) (n : ℕ) → length header ≡ n → held ≡ header ++ drop n held → held ++ piece ≡ header ++ drop n (held ++ piece)
more_is header held piece n size is = ap (λ l. l ++ piece) is ∙ sym (after_more header held piece n (as_long header held n size is))

-- a file after a write that was done, whatever it counts
done_kept : (file : SoundFile) (piece before after : List ℕ) (extent : Extent) (unbroken fits : Bool) → file.unbroken ≡ unbroken →
    extent.bytes ≡ file.extent.bytes + length piece → HoldsFile file before → after ≡ before ++ piece →
    after ≡ header_now file ++ drop (head_size file.form) after →
    HoldsFile (if unbroken then (if fits then record (file) { extent = extent } else record (file) { unbroken = false }) else file) after
done_kept file piece before after extent true true whole more holds wrote is =
    record { is = is; size = λ _. let all = ap length wrote ∙ length-append before piece in let size = holds.size whole in omega arith }
done_kept file piece before after extent true false whole more holds wrote is = record { is = is; size = λ e. not_both false refl e }
done_kept file piece before after extent false fits whole more holds wrote is = record { is = is; size = λ e. not_both file.unbroken whole e }

file_kept : (file : SoundFile) (piece before after : List ℕ) (answer : Put) → IsFile file → HoldsFile file before → Written answer (Some before) piece (Some after) →
    HoldsFile (file_after file piece answer) after
file_kept file piece before after put.Done good holds wrote =
    done_kept file piece before after (record { bytes = file.extent.bytes + length piece; padded = is_pad file.form file.head file.extent piece })
    file.unbroken (nat_lt (file.extent.bytes + length piece) (2 ^ 64)) refl refl holds wrote
    (subst (λ l. l ≡ header_now file ++ drop (head_size file.form) l) (sym wrote) (more_is (header_now file) before piece (head_size file.form) good.now holds.is))
file_kept file piece before after put.Failed good holds wrote = record {
  is = subst (λ l. l ≡ header_now file ++ drop (head_size file.form) l) (sym wrote.appended)
      (more_is (header_now file) before wrote.front (head_size file.form) good.now holds.is);
  size = λ e. not_both false refl e;
}

-- a header that was written first is a file, and all of what was written
begun_is : (form : SoundForm) (head : SoundHead) (held : List ℕ) → held ≡ written_head form head → length (written_head form head) ≡ head_size form →
    held ≡ written_file (begun_file form head) held
begun_is form head held is size = let header = written_head form head in
    subst (λ l. l ≡ header ++ drop (head_size form) l) (sym is)
    (sym (append-nil header) ∙ ap (λ l. header ++ l) (sym (ap (drop (head_size form)) (sym (append-nil header)) ∙ drop_at header [] (head_size form) size)))

begun_holds : (form : SoundForm) (head : SoundHead) (held : List ℕ) → held ≡ written_head form head → length (written_head form head) ≡ head_size form →
    HoldsFile (begun_file form head) held
begun_holds form head held is size = record {
  is = begun_is form head held is size;
  size = λ _. let all = ap length is in omega arith;
}

module _ (form : SoundForm) (piece before after : List ℕ) (empty : before ≡ []) (wrote : after ≡ before ++ piece) where
  first_is : after ≡ piece
  first_is = wrote ∙ ap (λ l. l ++ piece) empty

  begun_kept : (s : Stage) → IsStage s → IsBegun form piece s → Holds s after
  begun_kept s good (inl plain) = subst (λ x. Holds x after) (sym plain) tt
  begun_kept s good (inr begun) =
      let size = (subst IsStage begun.3 good).first in
      subst (λ x. Holds x after) (sym begun.3) (begun_holds form begun.0 after (first_is ∙ begun.2) size)

  begun_written : (s : Stage) → IsStage s → IsBegun form piece s → written_in s after ≡ before ++ piece
  begun_written s good (inl plain) = subst (λ x. written_in x after ≡ before ++ piece) (sym plain) wrote
  begun_written s good (inr begun) =
      let size = (subst IsStage begun.3 good).first in
      subst (λ x. written_in x after ≡ before ++ piece) (sym begun.3) (sym (begun_is form begun.0 after (first_is ∙ begun.2) size) ∙ wrote)

stage_kept : (s s' : Stage) (piece before after : List ℕ) (answer : Put) → IsStage s → IsStage s' → Holds s before → IsStageAfter s piece answer s' →
    Written answer (Some before) piece (Some after) → Holds s' after
stage_kept stage.Plain s' piece before after answer good good' holds step wrote = subst (λ x. Holds x after) (sym step) tt
stage_kept (stage.Before form) s' piece before after put.Done good good' holds step wrote = begun_kept form piece before after holds wrote s' good' step.plain
stage_kept (stage.Before form) s' piece before after put.Failed good good' holds step wrote = subst (λ x. Holds x after) (sym step) tt
stage_kept (stage.Begun file) s' piece before after answer good good' holds step wrote =
    subst (λ x. Holds x after) (sym step) (file_kept file piece before after answer good holds wrote)

-- what a sink holds after a write is known as before
pub wrote_holds : (s s' : Stage) (piece : List ℕ) (answer : Put) (before after : Option (List ℕ)) → IsStage s → IsStage s' → HoldsIfTold s before →
    IsStageAfter s piece answer s' → Written answer before piece after → HoldsIfTold s' after
wrote_holds s s' piece answer before None good good' holds step wrote = tt
wrote_holds s s' piece put.Done None (Some after) good good' holds step wrote = absurd wrote
wrote_holds s s' piece put.Failed None (Some after) good good' holds step wrote = absurd wrote.appended
wrote_holds s s' piece answer (Some before) (Some after) good good' holds step wrote = stage_kept s s' piece before after answer good good' holds step wrote

-- the header as it was written, before bytes and more of them
file_written : (file : SoundFile) (before more : List ℕ) → IsFile file → HoldsFile file before → written_file file (before ++ more) ≡ written_file file before ++ more
file_written file before more good holds =
    after_more (first_header file) before more (head_size file.form) (as_long (header_now file) before (head_size file.form) good.now holds.is)

-- no write changes the header as it was written
done_header : (file : SoundFile) (held : List ℕ) (extent : Extent) (unbroken fits : Bool) →
    written_file (if unbroken then (if fits then record (file) { extent = extent } else record (file) { unbroken = false }) else file) held ≡ written_file file held
done_header file held extent true true = refl
done_header file held extent true false = refl
done_header file held extent false fits = refl

after_header : (file : SoundFile) (piece held : List ℕ) (answer : Put) → written_file (file_after file piece answer) held ≡ written_file file held
after_header file piece held put.Done = done_header file held (record { bytes = file.extent.bytes + length piece; padded = is_pad file.form file.head file.extent piece })
    file.unbroken (nat_lt (file.extent.bytes + length piece) (2 ^ 64))
after_header file piece held put.Failed = refl

stage_written : (s s' : Stage) (piece before after : List ℕ) (answer : Put) → IsStage s → IsStage s' → Holds s before → IsStageAfter s piece answer s' →
    Written answer (Some before) piece (Some after) → Written answer (Some (written_in s before)) piece (Some (written_in s' after))
stage_written stage.Plain s' piece before after answer good good' holds step wrote =
    subst (λ x. Written answer (Some before) piece (Some (written_in x after))) (sym step) wrote
stage_written (stage.Before form) s' piece before after put.Done good good' holds step wrote = begun_written form piece before after holds wrote s' good' step.plain
stage_written (stage.Before form) s' piece before after put.Failed good good' holds step wrote =
    subst (λ x. Written put.Failed (Some before) piece (Some (written_in x after))) (sym step) wrote
stage_written (stage.Begun file) s' piece before after put.Done good good' holds step wrote =
    subst (λ x. written_in x after ≡ written_file file before ++ piece) (sym step)
    (after_header file piece after put.Done ∙ ap (written_file file) wrote ∙ file_written file before piece good holds)
stage_written (stage.Begun file) s' piece before after put.Failed good good' holds step wrote = record {
  front = wrote.front;
  rest = wrote.rest;
  whole = wrote.whole;
  appended = subst (λ x. written_in x after ≡ written_file file before ++ wrote.front) (sym step)
      (ap (written_file file) wrote.appended ∙ file_written file before wrote.front good holds);
}

-- what was written has grown as the sink has
pub wrote_written : (s s' : Stage) (piece : List ℕ) (answer : Put) (before after : Option (List ℕ)) → IsStage s → IsStage s' → HoldsIfTold s before →
    IsStageAfter s piece answer s' → Written answer before piece after →
    Written answer (option_map (λ held. written_in s held) before) piece (option_map (λ held. written_in s' held) after)
wrote_written s s' piece put.Done before None good good' holds step wrote = tt
wrote_written s s' piece put.Failed before None good good' holds step wrote = record { front = []; rest = piece; whole = refl; appended = tt }
wrote_written s s' piece put.Done None (Some after) good good' holds step wrote = absurd wrote
wrote_written s s' piece put.Failed None (Some after) good good' holds step wrote = absurd wrote.appended
wrote_written s s' piece answer (Some before) (Some after) good good' holds step wrote = stage_written s s' piece before after answer good good' holds step wrote

-- and stays where nothing more is written
pub written_stays : (answer : Put) (before between after : Option (List ℕ)) (piece : List ℕ) → Written answer before piece between → Unchanged between after →
    Written answer before piece after
written_stays put.Done before between after piece wrote same = appended_stays before between after piece wrote same
written_stays put.Failed before between after piece wrote same = record {
  front = wrote.front;
  rest = wrote.rest;
  whole = wrote.whole;
  appended = appended_stays before between after wrote.front wrote.appended same;
}
