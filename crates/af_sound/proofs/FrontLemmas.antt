-- What the first bytes of some bytes mean.
use Rattle.std.proofs.Common.{◌≡◌, ◌<◌, ◌≤◌, ◌+◌, ℕ, suc, Bool, true, false, Some, List, [], ◌∷◌, ◌++◌, length, take, refl, sym, ap, ap₂, ◌∙◌, subst, arith, append-nil}
use Rattle.std.specs.Prelude.{if◌then◌else◌}
use Rattle.af_sound.specs.declared.head.SoundForm.{SoundForm}
use Rattle.af_sound.specs.declared.head.SoundHead.{SoundHead}
use Rattle.af_sound.specs.declared.head.SoundFault.{SoundFault}
use Rattle.af_sound.specs.declared.head.HeadStep.{HeadStep}
use Rattle.af_sound.specs.declared.head.HeadStep.TheVariants as step
use Rattle.af_sound.specs.declared.head_reader.HeadReader.{HeadReader}
use Rattle.af_sound.specs.declared.head_reader.Place.{Place}
use Rattle.af_sound.specs.declared.head_reader.Place.TheVariants.{Field, Annotation, Chunk, Head, Bad}
use Rattle.af_sound.specs.Heads.{HasFault, IsHead}
use Rattle.af_sound.specs.Reading.{place_after_byte, is_inside, place_after_bytes, start, step_at, HasTaken, IsOpen}
use Rattle.af_sound.specs.Fronts.{front_from, front_of, Front}
use Rattle.af_sound.proofs.ReachedLemmas.{opened, reached_first}
use Rattle.af_sound.proofs.TakenLemmas.{fault_exactly, fault_read, head_exactly, head_read}

-- a front with this answer after so many bytes
abbrev pub front : HeadStep → ℕ → Front
front says size = record { says = says; size = size }

inside_more : (place : Place) → is_inside place ≡ true → step_at place ≡ step.More
inside_more (Field of part) inside = refl
inside_more (Annotation left head) inside = refl
inside_more (Chunk left format) inside = refl
inside_more (Head head) inside = cc
inside_more (Bad fault) inside = cc

-- a byte within a header
front_first : (place : Place) (n byte : ℕ) (rest : List ℕ) → is_inside place ≡ true → front_from place n (byte ∷ rest) ≡ front_from (place_after_byte place byte) (suc n) rest
front_first place n byte rest inside = ap (λ (t : Bool). if t then front_from (place_after_byte place byte) (suc n) rest else front (step_at place) n) inside

-- the front of bytes goes on from the place that their first part reaches
front_more : (bytes rest : List ℕ) (place to : Place) (n : ℕ) → place_after_bytes place bytes ≡ Some to → front_from place n (bytes ++ rest) ≡ front_from to (n + length bytes) rest
front_more [] rest place to n e =
    let same : place ≡ to = cc in
    ap₂ (λ (p : Place) (m : ℕ). front_from p m rest) same (let none : n ≡ n + 0 = omega arith in none)
front_more (b ∷ bytes) rest place to n e =
    let inside : is_inside place ≡ true = opened (is_inside place) (place_after_bytes (place_after_byte place b) bytes) to e in
    let later : place_after_bytes (place_after_byte place b) bytes ≡ Some to = sym (reached_first place b bytes inside) ∙ e in
    front_first place n b (bytes ++ rest) inside ∙ front_more bytes rest (place_after_byte place b) to (suc n) later
    ∙ ap (λ (m : ℕ). front_from to m rest) (let count : suc n + length bytes ≡ n + suc (length bytes) = omega arith in count)

front_all : (bytes rest : List ℕ) (place to : Place) → place_after_bytes place bytes ≡ Some to → front_from place 0 (bytes ++ rest) ≡ front_from to (length bytes) rest
front_all bytes rest place to e =
    front_more bytes rest place to 0 e ∙ ap (λ (m : ℕ). front_from to m rest) (let count : 0 + length bytes ≡ length bytes = omega arith in count)

head_stands : (head : SoundHead) (n : ℕ) (rest : List ℕ) → front_from (Head head) n rest ≡ front (step.Head head) n
head_stands head n [] = refl
head_stands head n (b ∷ rest) = refl

fault_stands : (fault : SoundFault) (n : ℕ) (rest : List ℕ) → front_from (Bad fault) n rest ≡ front (step.Bad fault) n
fault_stands fault n [] = refl
fault_stands fault n (b ∷ rest) = refl

-- a header at the front is reported, and so is a fault
pub front_head : (form : SoundForm) (bytes rest : List ℕ) (head : SoundHead) → IsHead form bytes head → front_of form (bytes ++ rest) ≡ front (step.Head head) (length bytes)
unfolding front_of
front_head form bytes rest head is = front_all bytes rest (start form) (Head head) (head_read form bytes head is) ∙ head_stands head (length bytes) rest

pub front_fault : (form : SoundForm) (bytes rest : List ℕ) (fault : SoundFault) → HasFault form bytes fault → front_of form (bytes ++ rest) ≡ front (step.Bad fault) (length bytes)
unfolding front_of
front_fault form bytes rest fault has = front_all bytes rest (start form) (Bad fault) (fault_read form bytes fault has) ∙ fault_stands fault (length bytes) rest

-- if a reader is still open after all bytes, they end within a header
pub front_open : (form : SoundForm) (reader : HeadReader) (bytes : List ℕ) → HasTaken reader form bytes → IsOpen reader → front_of form bytes ≡ front step.More (length bytes)
unfolding front_of HasTaken
front_open form reader bytes taken opens =
    ap (front_from (start form) 0) (sym (append-nil bytes)) ∙ front_all bytes [] (start form) reader.place taken
    ∙ ap (λ (s : HeadStep). front s (length bytes)) (inside_more reader.place opens)

front_counts : (place : Place) (n : ℕ) (bytes : List ℕ) → n ≤ (front_from place n bytes).size
front_counts place n [] = omega arith
front_counts place n (b ∷ rest) = by (is_inside place) (front_counts (place_after_byte place b) (suc n) rest) where
  by : (t : Bool) → suc n ≤ (front_from (place_after_byte place b) (suc n) rest).size → n ≤ (if t then front_from (place_after_byte place b) (suc n) rest else front (step_at place) n).size
  by true more = omega arith
  by false more = omega arith

-- and with one more byte the front has more bytes
pub front_beyond : (form : SoundForm) (reader : HeadReader) (bytes : List ℕ) (byte : ℕ) (rest : List ℕ) → HasTaken reader form bytes → IsOpen reader → length bytes < (front_of form (bytes ++ (byte ∷ rest))).size
unfolding front_of HasTaken
front_beyond form reader bytes byte rest taken opens =
    let is : front_of form (bytes ++ (byte ∷ rest)) ≡ front_from (place_after_byte reader.place byte) (suc (length bytes)) rest =
    front_all bytes (byte ∷ rest) (start form) reader.place taken ∙ front_first reader.place (length bytes) byte rest opens in
    let more = front_counts (place_after_byte reader.place byte) (suc (length bytes)) rest in
    let size : (front_of form (bytes ++ (byte ∷ rest))).size ≡ (front_from (place_after_byte reader.place byte) (suc (length bytes)) rest).size = ap (λ (f : Front). f.size) is in
    omega arith

-- the place that the first bytes lead to, which gives the front
record Decided (place : Place) (n : ℕ) (bytes : List ℕ) (f : Front) : Type 0 where
  to : Place
  count : ℕ
  is_reached : place_after_bytes place (take count bytes) ≡ Some to
  is_said : f.says ≡ step_at to
  is_size : f.size ≡ n + count
  within : count ≤ length bytes
  all : is_inside to ≡ true → count ≡ length bytes

decided : (place : Place) (n : ℕ) (bytes : List ℕ) → Decided place n bytes (front_from place n bytes)
decided place n [] = record { to = place; count = 0; is_reached = refl; is_said = refl; is_size = omega arith; within = omega arith; all = λ _. refl }
decided place n (b ∷ rest) = by (is_inside place) refl (decided (place_after_byte place b) (suc n) rest) where
  by : (t : Bool) → is_inside place ≡ t → Decided (place_after_byte place b) (suc n) rest (front_from (place_after_byte place b) (suc n) rest) → Decided place n (b ∷ rest) (if t then front_from (place_after_byte place b) (suc n) rest else front (step_at place) n)
  by true inside d =
      let size = d.is_size in
      let within = d.within in
      record {
        to = d.to;
        count = suc d.count;
        is_reached = reached_first place b (take d.count rest) inside ∙ d.is_reached;
        is_said = d.is_said;
        is_size = omega arith;
        within = omega arith;
        all = λ (i : is_inside d.to ≡ true). ap suc (d.all i);
      }
  by false out d = record {
    to = place;
    count = 0;
    is_reached = refl;
    is_said = refl;
    is_size = omega arith;
    within = omega arith;
    all = λ (i : is_inside place ≡ true). (let bad : true ≡ false = sym i ∙ out in cc);
  }

more_inside : (place : Place) → step.More ≡ step_at place → is_inside place ≡ true
more_inside (Field of part) said = refl
more_inside (Annotation left head) said = refl
more_inside (Chunk left format) said = refl
more_inside (Head head) said = cc
more_inside (Bad fault) said = cc

module _ (form : SoundForm) (bytes : List ℕ) (n : ℕ) where
  -- what holds of the bytes up to where a front reports something
  reported : (says : HeadStep) (P : List ℕ → Type 0) → ((taken : List ℕ) (place : Place) → place_after_bytes (start form) taken ≡ Some place → step_at place ≡ says → P taken) →
      front_of form bytes ≡ front says n → (n ≤ length bytes) × P (take n bytes)
  unfolding front_of
  reported says P holds e =
      let d = decided (start form) 0 bytes in
      let said : step_at d.to ≡ says = sym d.is_said ∙ ap (λ (f : Front). f.says) e in
      let counted = d.is_size in
      let told : (front_from (start form) 0 bytes).size ≡ n = ap (λ (f : Front). f.size) e in
      let size : d.count ≡ n = omega arith in
      let within = d.within in
      (omega arith, subst (λ (k : ℕ). P (take k bytes)) size (holds (take d.count bytes) d.to d.is_reached said))

  -- a header that is reported is one, and a fault shows there
  pub front_is_head : (head : SoundHead) → front_of form bytes ≡ front (step.Head head) n → (n ≤ length bytes) × IsHead form (take n bytes) head
  front_is_head head = reported (step.Head head) (λ taken. IsHead form taken head) (λ taken place reached said. (head_exactly form taken place head reached).0 said)

  pub front_has_fault : (fault : SoundFault) → front_of form bytes ≡ front (step.Bad fault) n → (n ≤ length bytes) × HasFault form (take n bytes) fault
  front_has_fault fault = reported (step.Bad fault) (λ taken. HasFault form taken fault) (λ taken place reached said. (fault_exactly form taken place fault reached).0 said)

  -- bytes that end within a header are all taken
  pub front_is_whole : front_of form bytes ≡ front step.More n → n ≡ length bytes
  unfolding front_of
  front_is_whole e =
      let d = decided (start form) 0 bytes in
      let said : step.More ≡ step_at d.to = sym (ap (λ (f : Front). f.says) e) ∙ d.is_said in
      let counted = d.is_size in
      let told : (front_from (start form) 0 bytes).size ≡ n = ap (λ (f : Front). f.size) e in
      let size : d.count ≡ n = omega arith in
      sym size ∙ d.all (more_inside d.to said)
