-- What a reader answers for the bytes that it has taken.
use Rattle.std.proofs.Common.{◌≡◌, ℕ, Some, List, [], ◌++◌, sym, ap, ◌∙◌, subst}
use Rattle.std.specs.Prelude.{◌↔◌}
use Rattle.af_sound.specs.declared.head.SoundForm.{SoundForm}
use Rattle.af_sound.specs.declared.head.SoundForm.TheVariants as form
use Rattle.af_sound.specs.declared.head.SoundHead.{SoundHead}
use Rattle.af_sound.specs.declared.head.SoundFault.{SoundFault}
use Rattle.af_sound.specs.declared.head.HeadStep.TheVariants as step
use Rattle.af_sound.specs.declared.head_reader.Place.{Place}
use Rattle.af_sound.specs.declared.head_reader.Place.TheVariants.{Head, Bad}
use Rattle.af_sound.specs.Heads.{HasFault, IsHead}
use Rattle.af_sound.specs.Reading.{place_after_bytes, start, step_at}
use Rattle.af_sound.proofs.ReachedLemmas.{bad_ends, bad_said, head_ends, head_said, reached_more, Says}
use Rattle.af_sound.proofs.AuLemmas.{au_fault_read, au_head_read, au_says}
use Rattle.af_sound.proofs.WaveLemmas.{wave_fault_read, wave_head_read}
use Rattle.af_sound.proofs.WaveSaysLemmas.{wave_says}

pub head_read : (form : SoundForm) (bytes : List ℕ) (head : SoundHead) → IsHead form bytes head → place_after_bytes (start form) bytes ≡ Some (Head head)
head_read form.Au bytes head h = au_head_read bytes head h
head_read form.Wave bytes head h = wave_head_read bytes head h

pub fault_read : (form : SoundForm) (bytes : List ℕ) (fault : SoundFault) → HasFault form bytes fault → place_after_bytes (start form) bytes ≡ Some (Bad fault)
fault_read form.Au bytes fault h = au_fault_read bytes fault h
fault_read form.Wave bytes fault h = wave_fault_read bytes fault h

says : (form : SoundForm) (bytes : List ℕ) (place : Place) → place_after_bytes (start form) bytes ≡ Some place → Says form bytes place
says form.Au bytes place e = au_says bytes place e
says form.Wave bytes place e = wave_says bytes place e

same_place : (one other : Place) → Some one ≡ Some other → one ≡ other
same_place one other e = cc

-- a header is reported exactly if the bytes are one
pub head_exactly : (form : SoundForm) (bytes : List ℕ) (place : Place) (head : SoundHead) → place_after_bytes (start form) bytes ≡ Some place →
    (step_at place ≡ step.Head head) ↔ IsHead form bytes head
head_exactly form bytes place head e = (
  (λ said. subst (λ (p : Place). Says form bytes p) (head_said place head said) (says form bytes place e)),
  λ is. let same : place ≡ Head head = same_place place (Head head) (sym e ∙ head_read form bytes head is) in ap step_at same,
)

-- a fault is reported exactly if the bytes end with it
pub fault_exactly : (form : SoundForm) (bytes : List ℕ) (place : Place) (fault : SoundFault) → place_after_bytes (start form) bytes ≡ Some place →
    (step_at place ≡ step.Bad fault) ↔ HasFault form bytes fault
fault_exactly form bytes place fault e = (
  (λ said. subst (λ (p : Place). Says form bytes p) (bad_said place fault said) (says form bytes place e)),
  λ has. let same : place ≡ Bad fault = same_place place (Bad fault) (sym e ∙ fault_read form bytes fault has) in ap step_at same,
)

-- where a fault was found nothing is read on
after_fault : (form : SoundForm) (bytes rest : List ℕ) (fault : SoundFault) (place : Place) → HasFault form bytes fault → place_after_bytes (start form) (bytes ++ rest) ≡ Some place → (rest ≡ []) × (Bad fault ≡ place)
after_fault form bytes rest fault place has reached =
    bad_ends fault rest place (sym (reached_more bytes rest (start form) (Bad fault) (fault_read form bytes fault has)) ∙ reached)

-- nor is it where a header ended
after_head : (form : SoundForm) (bytes rest : List ℕ) (head : SoundHead) (place : Place) → IsHead form bytes head → place_after_bytes (start form) (bytes ++ rest) ≡ Some place → (rest ≡ []) × (Head head ≡ place)
after_head form bytes rest head place has reached =
    head_ends head rest place (sym (reached_more bytes rest (start form) (Head head) (head_read form bytes head has)) ∙ reached)

-- no header begins with bytes that end with a fault
pub no_head : (form : SoundForm) (bytes rest : List ℕ) (fault : SoundFault) (head : SoundHead) → HasFault form bytes fault → IsHead form (bytes ++ rest) head → ⊥
no_head form bytes rest fault head has is =
    let same : Bad fault ≡ Head head = (after_fault form bytes rest fault (Head head) has (head_read form (bytes ++ rest) head is)).1 in absurd cc

-- and no fault but that one
pub one_fault : (form : SoundForm) (bytes rest : List ℕ) (fault other : SoundFault) → HasFault form bytes fault → HasFault form (bytes ++ rest) other → (rest ≡ []) × (other ≡ fault)
one_fault form bytes rest fault other has is =
    let ends = after_fault form bytes rest fault (Bad other) has (fault_read form (bytes ++ rest) other is) in
    let same : Bad fault ≡ Bad other = ends.1 in
    (ends.0, cc)

-- a header begins with no other header
pub one_head : (form : SoundForm) (bytes rest : List ℕ) (head other : SoundHead) → IsHead form bytes head → IsHead form (bytes ++ rest) other → (rest ≡ []) × (other ≡ head)
one_head form bytes rest head other has is =
    let ends = after_head form bytes rest head (Head other) has (head_read form (bytes ++ rest) other is) in
    let same : Head head ≡ Head other = ends.1 in
    (ends.0, cc)

-- nor with a fault
pub no_fault : (form : SoundForm) (bytes rest : List ℕ) (head : SoundHead) (fault : SoundFault) → IsHead form bytes head → HasFault form (bytes ++ rest) fault → ⊥
no_fault form bytes rest head fault has is =
    let same : Head head ≡ Bad fault = (after_head form bytes rest head (Bad fault) has (fault_read form (bytes ++ rest) fault is)).1 in absurd cc
