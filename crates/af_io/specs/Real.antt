-- What sources over readers and sinks over writers do to the bytes that std's traits make observable.
use Rattle.std.specs.Prelude.{◌≡◌, ℕ, ◌≤◌, List, length, take, ◌++◌}
use Rattle.std.specs.declared.option.Option.{Option}
use Rattle.std.specs.Io.KnownBytes.{Keeps, Appends, Consumes, IsAtEnd}
use Rattle.af_io.specs.declared.flow.Got.{Got}
use Rattle.af_io.specs.declared.flow.Got.TheVariants as got
use Rattle.af_io.specs.declared.flow.Put.{Put}
use Rattle.af_io.specs.declared.flow.Put.TheVariants as put
use Rattle.af_io.specs.Observed.{CountsOneFault}

-- a source over a reader: the bytes that the reader has left to give, if they are known, and how many reads have failed
pub record ReaderState : Type 0 where
  pub remaining : Option (List ℕ)
  pub faults : ℕ

-- a sink over a writer: the bytes that the writer holds, if they are known, and how many writes have failed
pub record WriterState : Type 0 where
  pub contents : Option (List ℕ)
  pub faults : ℕ

-- a link over a stream: the bytes that the stream has left to give and those that it took, if they are known, and how many calls
-- have failed
pub record StreamState : Type 0 where
  pub remaining : Option (List ℕ)
  pub contents : Option (List ℕ)
  pub faults : ℕ

-- a read gives just what the reader gave, is Ended if the reader is at its end, and loses nothing if it fails
abbrev pub ReadsOn : Got → Option (List ℕ) → List ℕ → Option (List ℕ) → Type 0
ReadsOn (got.Bytes n) before into after = (1 ≤ n) × (n ≤ length into) × Consumes before after (take n into)
ReadsOn got.Ended before into after = Keeps before after × IsAtEnd after
ReadsOn got.Failed before into after = Keeps before after

-- the first so many bytes of this piece were added to known ones
abbrev pub AppendsSoFar : (before now : Option (List ℕ)) (piece : List ℕ) (count : ℕ) → Type 0
AppendsSoFar before now piece count = (count ≤ length piece) × Appends before now (take count piece)

-- known bytes have grown by a prefix of this piece
pub record AppendsPrefix (before : Option (List ℕ)) (piece : List ℕ) (after : Option (List ℕ)) : Type 0 where
  pub front : List ℕ
  pub rest : List ℕ
  pub whole : piece ≡ front ++ rest
  pub appends : Appends before after front

-- a write hands the whole piece to the writer, or a prefix of it if it fails
abbrev pub WritesOn : Put → Option (List ℕ) → List ℕ → Option (List ℕ) → Type 0
WritesOn put.Done before piece after = Appends before after piece
WritesOn put.Failed before piece after = AppendsPrefix before piece after

-- What a call of each does: it reads or writes as above, and one that failed is counted.

pub record SourceReads (before : ReaderState) (answer : Got) (into : List ℕ) (after : ReaderState) : Type 0 where
  pub reads : ReadsOn answer before.remaining into after.remaining
  pub faults : CountsOneFault (answer ≡ got.Failed) before.faults after.faults

pub record SinkWrites (before : WriterState) (piece : List ℕ) (answer : Put) (after : WriterState) : Type 0 where
  pub writes : WritesOn answer before.contents piece after.contents
  pub faults : CountsOneFault (answer ≡ put.Failed) before.faults after.faults

pub record LinkReads (before : StreamState) (answer : Got) (into : List ℕ) (after : StreamState) : Type 0 where
  pub reads : ReadsOn answer before.remaining into after.remaining
  pub faults : CountsOneFault (answer ≡ got.Failed) before.faults after.faults

pub record LinkWrites (before : StreamState) (piece : List ℕ) (answer : Put) (after : StreamState) : Type 0 where
  pub writes : WritesOn answer before.contents piece after.contents
  pub faults : CountsOneFault (answer ≡ put.Failed) before.faults after.faults
