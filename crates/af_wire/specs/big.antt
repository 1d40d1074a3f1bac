-- The wire as it was before a client chose its byte order: all numbers in Big. The laws say that in Big all means the same still,
-- except a setup of the other byte order, which was a bad one.
use Rattle.std.specs.Prelude.{◌≡◌, ◌≢◌, ◌≤◌, ◌<◌, ◌⊎◌, ◌+◌, ◌*◌, ℕ, false, IsTrue, List, [], ◌∷◌, ◌++◌, length, Option, None}
use Rattle.std.specs.Int.{w16, w32, from_be_bytes, to_be_bytes}
use Rattle.af_limits.specs.Limits.{most_words}
use Rattle.af_wire.specs.declared.order.Order.TheVariants.{Big}
use Rattle.af_wire.specs.declared.front.SetupFront.{SetupFront}
use Rattle.af_wire.specs.declared.front.SetupFront.TheVariants as setup
use Rattle.af_wire.specs.declared.front.Front.{Front}
use Rattle.af_wire.specs.declared.front.Front.TheVariants as frame
use Rattle.af_wire.specs.declared.message_front.MessageFront.{MessageFront}
use Rattle.af_wire.specs.declared.message_front.MessageFront.TheVariants as message
use Rattle.af_wire.specs.declared.event.Event.{Event}
use Rattle.af_wire.specs.Begins.{BeginsWith}
use Rattle.af_wire.specs.Event.{detail_of, event_from, kind_of_code}
use Rattle.af_wire.specs.MessageFront.{is_head}

-- "AFB" and a zero, as one number
abbrev pub magic : ℕ
magic = 0x41464200

-- what the bytes of a link that is not set up begin with: too little, a good setup, or a bad one with the value that is wrong
pub data Setup : Type 0 where
  need_more : Setup
  good : Setup
  bad : (value : ℕ) → Setup

-- the same for bytes whose setup is one of Big, or of no byte order
abbrev pub front_now : Setup → SetupFront
front_now need_more = setup.NeedMore
front_now good = setup.Setup Big
front_now (bad value) = setup.BadSetup Big value

-- two bytes that spell a number
pub record IsU16 (number : ℕ) (field : List ℕ) : Type 0 where
  pub size : length field ≡ 2
  pub is : from_be_bytes w16 field ≡ number

-- four bytes that spell a number
pub record IsU32 (number : ℕ) (field : List ℕ) : Type 0 where
  pub size : length field ≡ 4
  pub is : from_be_bytes w32 field ≡ number

-- bytes that begin with a setup: a name, a major version, and a minor version, which is free
pub record StatesSetup (name major : ℕ) (bytes : List ℕ) : Type 0 where
  pub name_field : List ℕ
  pub major_field : List ℕ
  pub minor_field : List ℕ
  pub rest : List ℕ
  pub is : bytes ≡ name_field ++ (major_field ++ (minor_field ++ rest))
  pub is_name : IsU32 name name_field
  pub is_major : IsU16 major major_field
  pub is_minor : length minor_field ≡ 2

-- a setup of another protocol is bad with its name, and one of this protocol with another major version is bad with that version
abbrev pub HasBadSetup : ℕ → List ℕ → Type 0
HasBadSetup value bytes =
    ((major : ℕ) × (StatesSetup value major bytes) × (value ≢ magic)) ⊎ (StatesSetup magic value bytes × (value ≢ 1))

-- which bytes need more, have a good setup, or have a bad one: nothing is decided before 8 bytes are there
unfoldable pub HasSetupFront : List ℕ → Setup → Type 0
HasSetupFront bytes need_more = length bytes < 8
HasSetupFront bytes good = StatesSetup magic 1 bytes
HasSetupFront bytes (bad value) = HasBadSetup value bytes

-- bytes that begin with the first word of a frame: an opcode, a detail, and a length in words
pub record StatesFrame (words : ℕ) (bytes : List ℕ) : Type 0 where
  pub opcode : ℕ
  pub detail : ℕ
  pub words_field : List ℕ
  pub rest : List ℕ
  pub is : bytes ≡ opcode ∷ detail ∷ (words_field ++ rest)
  pub is_words : IsU16 words words_field

-- a frame has one word or more, up to the most
abbrev pub IsFrameLength : ℕ → Type 0
IsFrameLength words = (1 ≤ words) × (words ≤ most_words)

-- a whole frame: as many words as it states
pub record IsFrame (bytes : List ℕ) : Type 0 where
  pub words : ℕ
  pub states : StatesFrame words bytes
  pub fits : IsFrameLength words
  pub size : length bytes ≡ 4 * words

-- too little for a length, or for the frame of a length that fits
abbrev pub NeedsMoreOfFrame : List ℕ → Type 0
NeedsMoreOfFrame bytes =
    (length bytes < 4) ⊎ ((words : ℕ) × StatesFrame words bytes × IsFrameLength words × (length bytes < 4 * words))

-- which bytes need more, have a frame of n bytes, or have a bad front: a length that no frame has
unfoldable pub HasFront : List ℕ → Front → Type 0
HasFront bytes frame.NeedMore = NeedsMoreOfFrame bytes
HasFront bytes (frame.Frame n) = (piece : List ℕ) × BeginsWith piece bytes × IsFrame piece × (length piece ≡ n)
HasFront bytes frame.Malformed = (words : ℕ) × StatesFrame words bytes × ((words ≡ 0) ⊎ (most_words < words))

-- bytes that begin with the header of a message: a kind, a detail, a sequence number, and the length of the body in words
pub record StatesHead (kind detail sequence words : ℕ) (bytes : List ℕ) : Type 0 where
  pub sequence_field : List ℕ
  pub words_field : List ℕ
  pub rest : List ℕ
  pub is : bytes ≡ kind ∷ detail ∷ (sequence_field ++ (words_field ++ rest))
  pub is_sequence : IsU16 sequence sequence_field
  pub is_words : IsU32 words words_field

-- a complete message: a header that a client takes, and as many words as it states
pub record IsMessage (kind detail sequence : ℕ) (bytes : List ℕ) : Type 0 where
  pub words : ℕ
  pub states : StatesHead kind detail sequence words bytes
  pub good : IsTrue (is_head kind detail words)
  pub size : length bytes ≡ 8 + 4 * words

-- the body of an error: the value that was refused, the opcode of the request, and three zeros
pub record StatesError (value opcode : ℕ) (body : List ℕ) : Type 0 where
  pub value_field : List ℕ
  pub is : body ≡ value_field ++ (opcode ∷ 0 ∷ 0 ∷ 0 ∷ [])
  pub is_value : IsU32 value value_field

-- too little for a message of n bytes: for its header, or for the body after a header that a client takes
pub record NeedsMoreOfMessage (n : ℕ) (bytes : List ℕ) : Type 0 where
  pub kind : ℕ
  pub detail : ℕ
  pub sequence : ℕ
  pub words : ℕ
  pub states : StatesHead kind detail sequence words bytes
  pub good : IsTrue (is_head kind detail words)
  pub size : n ≡ 8 + 4 * words
  pub short : length bytes < n

-- bytes that begin with a header that no client takes
pub record HasBadHead (bytes : List ℕ) : Type 0 where
  pub kind : ℕ
  pub detail : ℕ
  pub sequence : ℕ
  pub words : ℕ
  pub states : StatesHead kind detail sequence words bytes
  pub bad : is_head kind detail words ≡ false

-- which bytes need more, have a message of n bytes, or have a bad header: nothing is decided before 8 bytes are there
unfoldable pub HasMessageFront : List ℕ → MessageFront → Type 0
HasMessageFront bytes (message.NeedMore n) = ((length bytes < 8) × (n ≡ 8)) ⊎ NeedsMoreOfMessage n bytes
HasMessageFront bytes (message.Message kind detail sequence n) =
    (piece : List ℕ) × BeginsWith piece bytes × IsMessage kind detail sequence piece × (length piece ≡ n)
HasMessageFront bytes message.BadMessage = HasBadHead bytes

-- how the header of a message, an error and an event are spelled
unfoldable pub head : ℕ → ℕ → ℕ → ℕ → List ℕ
head kind detail sequence words = kind ∷ detail ∷ [] ++ to_be_bytes w16 sequence ++ to_be_bytes w32 words

unfoldable pub error : ℕ → ℕ → ℕ → ℕ → List ℕ
error code value opcode sequence = head 0 code sequence 2 ++ to_be_bytes w32 value ++ (opcode ∷ 0 ∷ 0 ∷ 0 ∷ [])

unfoldable pub event_bytes : Event → ℕ → List ℕ
event_bytes e sequence =
    head 2 (detail_of e.kind) sequence 3 ++ (to_be_bytes w32 e.device ++ to_be_bytes w32 e.time.0 ++ to_be_bytes w32 e.value)

-- the event that a detail and a body state, if they state one
abbrev pub event_in : ℕ → List ℕ → Option Event
event_in detail (d0 ∷ d1 ∷ d2 ∷ d3 ∷ t0 ∷ t1 ∷ t2 ∷ t3 ∷ v0 ∷ v1 ∷ v2 ∷ v3 ∷ []) =
    event_from (kind_of_code detail) (from_be_bytes w32 (d0 ∷ d1 ∷ d2 ∷ d3 ∷ [])) (from_be_bytes w32 (t0 ∷ t1 ∷ t2 ∷ t3 ∷ []))
    (from_be_bytes w32 (v0 ∷ v1 ∷ v2 ∷ v3 ∷ []))
event_in detail _ = None
