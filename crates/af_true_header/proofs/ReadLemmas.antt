-- The header that some bytes are, read byte by byte.
use Rattle.std.proofs.Common.{◌≡◌, ◌<◌, ◌+◌, ℕ, List, [], ◌∷◌, ◌++◌, length, take, drop, get_or, sym, ap, ◌∙◌, append-nil, Option, None, Some}
use Rattle.std.proofs.lemmas.List.{take_more, take-append-drop}
use Rattle.af_sound.specs.declared.head.HeadStep.{HeadStep}
use Rattle.af_sound.specs.declared.head.HeadStep.TheVariants as step
use Rattle.af_sound.specs.declared.head.SoundForm.{SoundForm}
use Rattle.af_sound.specs.declared.head.SoundHead.{SoundHead}
use Rattle.af_sound.specs.declared.head.SoundFault.{SoundFault}
use Rattle.af_sound.specs.declared.head_reader.HeadReader.{HeadReader}
use Rattle.af_sound.specs.Fronts.{Front, front_of}
use Rattle.af_sound.specs.Heads.{HasFault, IsHead}
use Rattle.af_sound.specs.Reading.{HasTaken, IsOpen}
use Rattle.af_sound.proofs.FrontLemmas.{front, front_fault, front_head, front_open}

-- what a reader says that the header is, if it says that
abbrev said : HeadStep → Option SoundHead
said step.More = None
said (step.Head head) = Some head
said (step.Bad fault) = None

-- the front of a whole header
whole_front : (form : SoundForm) (piece : List ℕ) (head : SoundHead) → IsHead form piece head → front_of form piece ≡ front (step.Head head) (length piece)
whole_front form piece head whole = ap (front_of form) (sym (append-nil piece)) ∙ front_head form piece [] head whole

-- bytes up to one more, and those after it, are all bytes
pub split_after : (piece : List ℕ) (i byte : ℕ) → i < length piece → byte ≡ get_or piece i byte → (take i piece ++ (byte ∷ [])) ++ drop (i + 1) piece ≡ piece
split_after piece i byte within read =
    ap (λ b. (take i piece ++ (b ∷ [])) ++ drop (i + 1) piece) read
    ∙ ap (λ l. l ++ drop (i + 1) piece) (sym (take_more piece i byte within)) ∙ take-append-drop (i + 1) piece

-- what the front of a header says is what the header says
pub same_head : (form : SoundForm) (bytes rest piece : List ℕ) (other : SoundHead) → bytes ++ rest ≡ piece → IsHead form bytes other →
    (head : SoundHead) → IsHead form piece head → Some other ≡ Some head
same_head form bytes rest piece other split first head whole =
    ap (λ (f : Front). said f.says) (sym (front_head form bytes rest other first) ∙ ap (front_of form) split ∙ whole_front form piece head whole)

-- a header begins with no fault
pub no_fault : (form : SoundForm) (bytes rest piece : List ℕ) (fault : SoundFault) → bytes ++ rest ≡ piece → HasFault form bytes fault →
    (head : SoundHead) → IsHead form piece head → None ≡ Some head
no_fault form bytes rest piece fault split first head whole =
    ap (λ (f : Front). said f.says) (sym (front_fault form bytes rest fault first) ∙ ap (front_of form) split ∙ whole_front form piece head whole)

-- no reader goes on after a header
pub not_open : (form : SoundForm) (reader : HeadReader) (piece : List ℕ) → HasTaken reader form piece → IsOpen reader →
    (head : SoundHead) → IsHead form piece head → None ≡ Some head
not_open form reader piece taken opens head whole =
    ap (λ (f : Front). said f.says) (sym (front_open form reader piece taken opens) ∙ whole_front form piece head whole)
