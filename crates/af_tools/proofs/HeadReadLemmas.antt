-- The front of a file is read byte by byte.
use Rattle.std.proofs.Common.{◌≡◌, ◌<◌, ◌≤◌, ℕ, ◌+◌, nat_lt, true, false, Bool, List, [], ◌∷◌, ◌++◌, length, take, drop, slice_index, refl, sym, ap, ◌∙◌, subst, arith, inr, append-nil, append_assoc, length-append, if◌then◌else◌, IsErrOf, IsSome, Ok, Err, Option, Some}
use Rattle.af_tools.proofs.SourceCountLemmas.{spent_none}
use Rattle.std.proofs.lemmas.Bool.Decides.{nat_tests}
use Rattle.std.proofs.lemmas.List.{drop_at, take_all}
use Rattle.af_io.specs.Observed.{Consumed}
use Rattle.af_io.specs.Flow.{ConsumedWithin, IsSpent}
use Rattle.af_io.proofs.ConsumedLemmas.{consumed_known, consumed_none, consumed_on}
use Rattle.af_sound.specs.declared.head.HeadStep.{HeadStep}
use Rattle.af_sound.specs.declared.head.HeadStep.TheVariants as step
use Rattle.af_sound.specs.declared.head.SoundForm.{SoundForm}
use Rattle.af_sound.specs.declared.head.SoundHead.{SoundHead}
use Rattle.af_sound.specs.declared.head.SoundFault.{SoundFault}
use Rattle.af_sound.specs.declared.head_reader.HeadReader.{HeadReader}
use Rattle.af_sound.specs.Fronts.{front_of, Front}
use Rattle.af_sound.specs.Heads.{HasFault, IsHead}
use Rattle.af_sound.specs.Reading.{HasTaken, IsOpen}
use Rattle.af_sound.proofs.FrontLemmas.{front, front_beyond, front_fault, front_head, front_open}
use Rattle.af_toolkit.specs.declared.end.ToolEnd.{ToolEnd}
use Rattle.af_toolkit.specs.declared.end.ToolEnd.TheVariants as end
use Rattle.af_toolkit.specs.Trace.{bad_sound, sound_cut, too_long}
use Rattle.af_tools.specs.declared.sound.FileHead.{FileHead}
use Rattle.af_tools.specs.Sounds.{most_bytes, header_or_end, reads_front}
use Rattle.af_tools.specs.Steps.{GaveHead}
use Rattle.af_tools.specs.Reading.{ConsumedCut, ConsumedFault, ConsumedHead, EndShows, HeadCame}

-- a reader has taken what a source gave
pub record HasRead (form : SoundForm) (reader : HeadReader) (size : ℕ) (before after : Option (List ℕ)) : Type 0 where
  pub bytes : List ℕ
  pub consumed : Consumed before bytes after
  pub all : length bytes ≡ size
  pub taken : HasTaken reader form bytes

pub read_begin : (form : SoundForm) (reader : HeadReader) (before : Option (List ℕ)) → HasTaken reader form [] → HasRead form reader 0 before before
read_begin form reader before taken = record { bytes = []; consumed = consumed_none before; all = refl; taken = taken }

-- a front of few enough bytes says what it says
pub front_within : (says : HeadStep) (n : ℕ) → n ≤ most_bytes → reads_front (front says n) ≡ header_or_end says
front_within says n few =
    let test : nat_lt most_bytes n ≡ false = grind (arith, nat_tests) in
    ap (λ (t : Bool). if t then Err too_long else header_or_end says) test

-- the one byte that was read
one_byte : (into : List ℕ) → length into ≡ 1 → into ≡ slice_index into 0 ∷ []
one_byte [] one = absurd (omega arith)
one_byte (b ∷ []) one = refl
one_byte (a ∷ b ∷ into) one = absurd (omega arith)

-- a byte was read
pub record IsByteRead (byte : ℕ) (before after : Option (List ℕ)) : Type 0 where
  pub consumed : Consumed before (byte ∷ []) after

pub byte_read : (n : ℕ) (into : List ℕ) (a b : Option (List ℕ)) → length into ≡ 1 → 1 ≤ n → Consumed a (take n into) b → IsByteRead (slice_index into 0) a b
byte_read n into a b one some taken = record { consumed = subst (λ (l : List ℕ). Consumed a l b) (take_all n into (omega arith) ∙ one_byte into one) taken }

module _ {form : SoundForm} {reader : HeadReader} {size : ℕ} {a b : Option (List ℕ)} (h : HasRead form reader size a b) where
  read_within : size ≤ most_bytes → ConsumedWithin most_bytes a b
  read_within few = record { text = h.bytes; consumed = h.consumed; within = (let all = h.all in omega arith) }

  -- the source ended
  read_spent : IsOpen reader → size ≤ most_bytes → IsSpent b → (bytes : List ℕ) → a ≡ Some bytes → IsSome b → HeadCame form bytes (Err end.SoundCut) b
  read_spent opens few spent bytes told tells =
      let k = consumed_known a b bytes h.bytes told h.consumed tells in
      let none : k.0 ≡ [] = spent_none b k.0 k.1 spent in
      let whole : bytes ≡ h.bytes = k.2 ∙ ap (λ (l : List ℕ). h.bytes ++ l) none ∙ append-nil h.bytes in
      let said : front_of form bytes ≡ front step.More (length h.bytes) = ap (front_of form) whole ∙ front_open form reader h.bytes h.taken opens in
      let all = h.all in
      inr (sound_cut, refl, ap reads_front said ∙ front_within step.More (length h.bytes) (omega arith))

  read_cut : IsOpen reader → IsSpent b → ConsumedCut (Some form) a b
  read_cut opens spent = record {
    bytes = h.bytes;
    consumed = h.consumed;
    spent = spent;
    undecided = λ start rest is. (
      λ head has.
          let bad : front step.More (length h.bytes) ≡ front (step.Head head) (length start) = sym (front_open form reader h.bytes h.taken opens) ∙ ap (front_of form) is ∙ front_head form start rest head has in
          let other : step.More ≡ step.Head head = ap (λ (f : Front). f.says) bad in
          cc,
      λ fault has.
          let bad : front step.More (length h.bytes) ≡ front (step.Bad fault) (length start) = sym (front_open form reader h.bytes h.taken opens) ∙ ap (front_of form) is ∙ front_fault form start rest fault has in
          let other : step.More ≡ step.Bad fault = ap (λ (f : Front). f.says) bad in
          cc,
    );
  }

  module _ {byte : ℕ} {c : Option (List ℕ)} (more : IsByteRead byte b c) where
    all_read : Consumed a (h.bytes ++ (byte ∷ [])) c
    all_read = consumed_on a b c h.bytes (byte ∷ []) h.consumed more.consumed

    read_long : length (h.bytes ++ (byte ∷ [])) ≡ size + 1
    read_long = let all = h.all in omega (arith, length-append h.bytes (byte ∷ []))

    pub read_more : {reader' : HeadReader} → HasTaken reader' form (h.bytes ++ (byte ∷ [])) → HasRead form reader' (size + 1) a c
    read_more taken = record { bytes = h.bytes ++ (byte ∷ []); consumed = all_read; all = read_long; taken = taken }

    read_more_within : size < most_bytes → ConsumedWithin most_bytes a c
    read_more_within few = record { text = h.bytes ++ (byte ∷ []); consumed = all_read; within = (let long = read_long in omega arith) }

    -- a byte too many
    pub read_too_long : IsOpen reader → most_bytes ≤ size → (bytes : List ℕ) → a ≡ Some bytes → IsSome c → HeadCame form bytes (Err end.TooLong) c
    read_too_long opens many bytes told tells =
        let k = consumed_known a c bytes (h.bytes ++ (byte ∷ [])) told all_read tells in
        let parts : bytes ≡ h.bytes ++ (byte ∷ k.0) = k.2 ∙ append_assoc h.bytes (byte ∷ []) k.0 in
        let beyond = front_beyond form reader h.bytes byte k.0 h.taken opens in
        let all = h.all in
        let test : nat_lt most_bytes (front_of form (h.bytes ++ (byte ∷ k.0))).size ≡ true = grind (arith, nat_tests) in
        inr (too_long, refl, ap (λ (l : List ℕ). reads_front (front_of form l)) parts ∙ ap (λ (t : Bool). if t then Err too_long else header_or_end (front_of form (h.bytes ++ (byte ∷ k.0))).says) test)

    pub takes_too_long : most_bytes ≤ size → EndShows (Some form) (IsErrOf {T = FileHead} (Err end.TooLong)) a c
    takes_too_long many = record {
      bad = λ fault is. cc is;
      cut = λ is. cc is;
      long = λ _. record { text = h.bytes ++ (byte ∷ []); consumed = all_read; beyond = (let long = read_long in omega arith) };
      within = λ other. absurd (other refl);
    }

    -- a header is complete
    pub read_whole : (head : SoundHead) → IsHead form (h.bytes ++ (byte ∷ [])) head → (bytes : List ℕ) → a ≡ Some bytes → IsSome c →
        HeadCame form bytes (let file : FileHead = record { head = head; size = size + 1 } in Ok file) c
    read_whole head is bytes told tells =
        let k = consumed_known a c bytes (h.bytes ++ (byte ∷ [])) told all_read tells in (
          ap (front_of form) k.2 ∙ front_head form (h.bytes ++ (byte ∷ [])) k.0 head is ∙ ap (front (step.Head head)) read_long,
          k.1 ∙ ap (λ (l : List ℕ). Some l) (sym (ap (drop (size + 1)) k.2 ∙ drop_at (h.bytes ++ (byte ∷ [])) k.0 (size + 1) read_long)),
        )

    pub read_head : (head : SoundHead) → size < most_bytes → IsHead form (h.bytes ++ (byte ∷ [])) head → ConsumedHead (Some form) (size + 1) head.length a c
    read_head head few is = record { bytes = h.bytes ++ (byte ∷ []); consumed = all_read; all = read_long; within = omega arith; is_head = (head, is, refl) }

    pub takes_head : {file : FileHead} → size < most_bytes → EndShows (Some form) (IsErrOf {T = FileHead} {E = ToolEnd} (Ok file)) a c
    takes_head few = record { bad = λ fault is. cc is; cut = λ is. cc is; long = λ is. cc is; within = λ _. read_more_within few }

    -- a fault shows
    pub read_bad : (fault : SoundFault) → size < most_bytes → HasFault form (h.bytes ++ (byte ∷ [])) fault → (bytes : List ℕ) → a ≡ Some bytes → IsSome c → HeadCame form bytes (Err (end.BadSound fault)) c
    read_bad fault few has bytes told tells =
        let k = consumed_known a c bytes (h.bytes ++ (byte ∷ [])) told all_read tells in
        let said : front_of form bytes ≡ front (step.Bad fault) (size + 1) = ap (front_of form) k.2 ∙ front_fault form (h.bytes ++ (byte ∷ [])) k.0 fault has ∙ ap (front (step.Bad fault)) read_long in
        inr (bad_sound fault, refl, ap reads_front said ∙ front_within (step.Bad fault) (size + 1) (omega arith))

    pub takes_bad : (fault : SoundFault) → size < most_bytes → HasFault form (h.bytes ++ (byte ∷ [])) fault → EndShows (Some form) (IsErrOf {T = FileHead} (Err (end.BadSound fault))) a c
    takes_bad fault few has = record {
      bad = λ other is. subst (λ (f : SoundFault). ConsumedFault (Some form) f a c) (let same : fault ≡ other = cc is in same) (record { bytes = h.bytes ++ (byte ∷ []); consumed = all_read; has = has });
      cut = λ is. cc is;
      long = λ is. cc is;
      within = λ _. read_more_within few;
    }

-- the end of the source, which gives no byte
read_none : {form : SoundForm} {reader : HeadReader} {size : ℕ} {a b c : Option (List ℕ)} → HasRead form reader size a b → Consumed b [] c → HasRead form reader size a c
read_none {a} {b} {c} h none = record {
  bytes = h.bytes;
  consumed = subst (λ (l : List ℕ). Consumed a l c) (append-nil h.bytes) (consumed_on a b c h.bytes [] h.consumed none);
  all = h.all;
  taken = h.taken;
}

module _ {form : SoundForm} {reader : HeadReader} {size : ℕ} {a b : Option (List ℕ)} (c : Option (List ℕ)) (h : HasRead form reader size a b) (none : Consumed b [] c) (few : size ≤ most_bytes) where
  pub ended_read : IsOpen reader → IsSpent c → (bytes : List ℕ) → a ≡ Some bytes → IsSome c → HeadCame form bytes (Err end.SoundCut) c
  ended_read opens spent = read_spent (read_none h none) opens few spent

  pub takes_cut : IsOpen reader → IsSpent c → EndShows (Some form) (IsErrOf {T = FileHead} (Err end.SoundCut)) a c
  takes_cut opens spent = record { bad = λ fault is. cc is; cut = λ _. read_cut (read_none h none) opens spent; long = λ is. cc is; within = λ _. read_within (read_none h none) few }

  pub takes_failed : EndShows (Some form) (IsErrOf {T = FileHead} (Err end.ReadFault)) a c
  takes_failed = record { bad = λ fault is. cc is; cut = λ is. cc is; long = λ is. cc is; within = λ _. read_within (read_none h none) few }

-- at most the header was read
module _ {form : SoundForm} {reader : HeadReader} {size : ℕ} {a b : Option (List ℕ)} (h : HasRead form reader size a b) (opens : IsOpen reader) (bytes : List ℕ) (told : a ≡ Some bytes) where
  front_opens : (rest : List ℕ) → length h.bytes ≤ (front_of form (h.bytes ++ rest)).size
  front_opens [] = (let all = ap (λ (f : Front). f.size) (ap (front_of form) (append-nil h.bytes) ∙ front_open form reader h.bytes h.taken opens) in omega arith)
  front_opens (byte ∷ rest) = (let beyond = front_beyond form reader h.bytes byte rest h.taken opens in omega arith)

  pub gave_open : {c : Option (List ℕ)} → Consumed b [] c → IsSome c → GaveHead (Some form) bytes c
  gave_open {c} none tells =
      let all = subst (λ (l : List ℕ). Consumed a l c) (append-nil h.bytes) (consumed_on a b c h.bytes [] h.consumed none) in
      let k = consumed_known a c bytes h.bytes told all tells in
      record {
        read = h.bytes;
        gave = subst (λ (o : Option (List ℕ)). Consumed o h.bytes c) told all;
        within = subst (λ (l : List ℕ). length h.bytes ≤ (front_of form l).size) (sym k.2) (front_opens k.0);
      }

  module _ {byte : ℕ} {c : Option (List ℕ)} (more : IsByteRead byte b c) (tells : IsSome c) where
    gave_byte : (k : List ℕ) → bytes ≡ (h.bytes ++ (byte ∷ [])) ++ k → length (h.bytes ++ (byte ∷ [])) ≤ (front_of form ((h.bytes ++ (byte ∷ [])) ++ k)).size → GaveHead (Some form) bytes c
    gave_byte k is within = record {
      read = h.bytes ++ (byte ∷ []);
      gave = subst (λ (o : Option (List ℕ)). Consumed o (h.bytes ++ (byte ∷ [])) c) told (consumed_on a b c h.bytes (byte ∷ []) h.consumed more.consumed);
      within = subst (λ (l : List ℕ). length (h.bytes ++ (byte ∷ [])) ≤ (front_of form l).size) (sym is) within;
    }

    pub gave_long : GaveHead (Some form) bytes c
    gave_long =
        let k = consumed_known a c bytes (h.bytes ++ (byte ∷ [])) told (consumed_on a b c h.bytes (byte ∷ []) h.consumed more.consumed) tells in
        let beyond = front_beyond form reader h.bytes byte k.0 h.taken opens in
        let long = length-append h.bytes (byte ∷ []) in
        gave_byte k.0 k.2 (subst (λ (l : List ℕ). length (h.bytes ++ (byte ∷ [])) ≤ (front_of form l).size) (sym (append_assoc h.bytes (byte ∷ []) k.0)) (omega arith))

    pub gave_bad : (fault : SoundFault) → HasFault form (h.bytes ++ (byte ∷ [])) fault → GaveHead (Some form) bytes c
    gave_bad fault has =
        let k = consumed_known a c bytes (h.bytes ++ (byte ∷ [])) told (consumed_on a b c h.bytes (byte ∷ []) h.consumed more.consumed) tells in
        let size = ap (λ (f : Front). f.size) (front_fault form (h.bytes ++ (byte ∷ [])) k.0 fault has) in
        gave_byte k.0 k.2 (omega arith)

-- a whole header was read
pub gave_head : {form : SoundForm} {bytes : List ℕ} {file : FileHead} {len : Option ℕ} {a b : Option (List ℕ)} → a ≡ Some bytes → ConsumedHead (Some form) file.size len a b → HeadCame form bytes (Ok file) b → GaveHead (Some form) bytes b
gave_head {b = b} told head came = record {
  read = head.bytes;
  gave = subst (λ (o : Option (List ℕ)). Consumed o head.bytes b) told head.consumed;
  within = (let all = head.all in let size = ap (λ (f : Front). f.size) came.0 in omega arith);
}
