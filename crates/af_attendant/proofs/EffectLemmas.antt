-- What is sent, done and written by some work.
use Rattle.std.proofs.Common.{◌≡◌, ℕ, List, [], ◌∷◌, ◌++◌, map, refl, ap, ◌∙◌, Option, None, Some}
use Rattle.std.specs.List.{filter_map}
use Rattle.std.proofs.lemmas.List.{map-append}
use Rattle.std.proofs.lemmas.List.Elements.{filter_map-append}
use Rattle.af_command.specs.Acts.{Told}
use Rattle.af_attendant.specs.AttendantTrace.{Effect, Work, act_done, acts_of, byte_sent, byte_written, sending, sends_byte, sent_by, writes_byte, writing, written_by}

pub sent_on : (w v : Work) → sent_by (w ++ v) ≡ sent_by w ++ sent_by v
sent_on w v = filter_map-append byte_sent w v

pub acts_on : (w v : Work) → acts_of (w ++ v) ≡ acts_of w ++ acts_of v
acts_on w v = filter_map-append act_done w v

pub written_on : (w v : Work) → written_by (w ++ v) ≡ written_by w ++ written_by v
written_on w v = filter_map-append byte_written w v

-- things of one kind are all picked, and things of another kind are not
all_picked : {X : Type 0} (pick : Effect → Option X) (make : X → Effect) → ((x : X) → pick (make x) ≡ Some x) → (xs : List X) → filter_map pick (map make xs) ≡ xs
all_picked pick make is [] = refl
all_picked pick make is (x ∷ xs) = rw (is x) (ap (λ (ys : List _). x ∷ ys) (all_picked pick make is xs))

none_picked : {X Y : Type 0} (pick : Effect → Option Y) (make : X → Effect) → ((x : X) → pick (make x) ≡ None) → (xs : List X) → filter_map pick (map make xs) ≡ []
none_picked pick make is [] = refl
none_picked pick make is (x ∷ xs) = rw (is x) (none_picked pick make is xs)

pub sent_sending : (bytes : List ℕ) → sent_by (sending bytes) ≡ bytes
sent_sending bytes = all_picked byte_sent sends_byte (λ b. refl) bytes

pub acts_sending : (bytes : List ℕ) → acts_of (sending bytes) ≡ []
acts_sending bytes = none_picked act_done sends_byte (λ b. refl) bytes

pub written_sending : (bytes : List ℕ) → written_by (sending bytes) ≡ []
written_sending bytes = none_picked byte_written sends_byte (λ b. refl) bytes

pub sending_on : (front rest : List ℕ) → sending (front ++ rest) ≡ sending front ++ sending rest
sending_on front rest = map-append sends_byte front rest

pub sent_writing : (bytes : List ℕ) → sent_by (writing bytes) ≡ []
sent_writing bytes = none_picked byte_sent writes_byte (λ b. refl) bytes

pub acts_writing : (bytes : List ℕ) → acts_of (writing bytes) ≡ []
acts_writing bytes = none_picked act_done writes_byte (λ b. refl) bytes

pub written_writing : (bytes : List ℕ) → written_by (writing bytes) ≡ bytes
written_writing bytes = all_picked byte_written writes_byte (λ b. refl) bytes

pub writing_on : (front rest : List ℕ) → writing (front ++ rest) ≡ writing front ++ writing rest
writing_on front rest = map-append writes_byte front rest

-- work that only marks what is begun
pub record IsMark (mark : Work) : Type 0 where
  pub sent : sent_by mark ≡ []
  pub acts : acts_of mark ≡ []
  pub written : written_by mark ≡ []

module _ {mark : Work} (is : IsMark mark) (bytes : List ℕ) where
  pub sent_marked : sent_by (mark ++ sending bytes) ≡ bytes
  sent_marked = sent_on mark (sending bytes) ∙ ap (λ (l : List ℕ). l ++ sent_by (sending bytes)) is.sent ∙ sent_sending bytes

  pub acts_marked : acts_of (mark ++ sending bytes) ≡ []
  acts_marked = acts_on mark (sending bytes) ∙ ap (λ (l : List Told). l ++ acts_of (sending bytes)) is.acts ∙ acts_sending bytes

  pub written_marked : written_by (mark ++ sending bytes) ≡ []
  written_marked = written_on mark (sending bytes) ∙ ap (λ (l : List ℕ). l ++ written_by (sending bytes)) is.written ∙ written_sending bytes
