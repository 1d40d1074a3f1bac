-- What bytes begin with, as a statement on whole lists: on the pieces that they are made of, and without offsets.
use Rattle.std.specs.Prelude.{◌≡◌, ◌≢◌, ◌≤◌, ◌<◌, ◌⊎◌, ◌+◌, ◌*◌, ℕ, false, IsTrue, List, [], ◌∷◌, ◌++◌, length}
use Rattle.af_limits.specs.Limits.{most_words}
use Rattle.af_wire.specs.declared.order.Order.{Order}
use Rattle.af_wire.specs.declared.order.Order.TheVariants.{Big, Little}
use Rattle.af_wire.specs.declared.front.SetupFront.{SetupFront}
use Rattle.af_wire.specs.declared.front.SetupFront.TheVariants as setup
use Rattle.af_wire.specs.declared.front.Front.{Front}
use Rattle.af_wire.specs.declared.front.Front.TheVariants as frame
use Rattle.af_wire.specs.declared.message_front.MessageFront.{MessageFront}
use Rattle.af_wire.specs.declared.message_front.MessageFront.TheVariants as message
use Rattle.af_wire.specs.Order.{magic, u16_of, u32_of}
use Rattle.af_wire.specs.MessageFront.{is_head}

-- two bytes that spell a number in a byte order
pub record IsU16 (order : Order) (number : ℕ) (field : List ℕ) : Type 0 where
  pub size : length field ≡ 2
  pub is : u16_of order field ≡ number

-- four bytes that spell a number in a byte order
pub record IsU32 (order : Order) (number : ℕ) (field : List ℕ) : Type 0 where
  pub size : length field ≡ 4
  pub is : u32_of order field ≡ number

-- bytes that begin with a piece
pub record BeginsWith (piece bytes : List ℕ) : Type 0 where
  pub rest : List ℕ
  pub is : bytes ≡ piece ++ rest

-- bytes that begin with a setup: a name, which is a number in Big; a major version in a byte order; and a minor version, which is
-- free
pub record StatesSetup (order : Order) (name major : ℕ) (bytes : List ℕ) : Type 0 where
  pub name_field : List ℕ
  pub major_field : List ℕ
  pub minor_field : List ℕ
  pub rest : List ℕ
  pub is : bytes ≡ name_field ++ (major_field ++ (minor_field ++ rest))
  pub is_name : IsU32 Big name name_field
  pub is_major : IsU16 order major major_field
  pub is_minor : length minor_field ≡ 2

-- a setup of a byte order with another major version is bad with that version
abbrev pub HasOtherVersion : Order → ℕ → List ℕ → Type 0
HasOtherVersion order value bytes = StatesSetup order (magic order) value bytes × (value ≢ 1)

-- a setup of another protocol, which is none of a byte order, is bad with its name, and is answered in Big
abbrev pub HasOtherName : Order → ℕ → List ℕ → Type 0
HasOtherName order value bytes =
    (major : ℕ) × StatesSetup Big value major bytes × (order ≡ Big) × (value ≢ magic Big) × (value ≢ magic Little)

-- which bytes need more, have a good setup of a byte order, or have a bad one, answered in a byte order: nothing is decided
-- before 8 bytes are there
unfoldable pub HasSetupFront : List ℕ → SetupFront → Type 0
HasSetupFront bytes setup.NeedMore = length bytes < 8
HasSetupFront bytes (setup.Setup order) = StatesSetup order (magic order) 1 bytes
HasSetupFront bytes (setup.BadSetup order value) = HasOtherName order value bytes ⊎ HasOtherVersion order value bytes

-- bytes that begin with the first word of a frame: an opcode, a detail, and a length in words
pub record StatesFrame (order : Order) (words : ℕ) (bytes : List ℕ) : Type 0 where
  pub opcode : ℕ
  pub detail : ℕ
  pub words_field : List ℕ
  pub rest : List ℕ
  pub is : bytes ≡ opcode ∷ detail ∷ (words_field ++ rest)
  pub is_words : IsU16 order words words_field

-- a frame has one word or more, up to the most
abbrev pub IsFrameLength : ℕ → Type 0
IsFrameLength words = (1 ≤ words) × (words ≤ most_words)

-- a whole frame: as many words as it states
pub record IsFrame (order : Order) (bytes : List ℕ) : Type 0 where
  pub words : ℕ
  pub states : StatesFrame order words bytes
  pub fits : IsFrameLength words
  pub size : length bytes ≡ 4 * words

-- too little for a length, or for the frame of a length that fits
abbrev pub NeedsMoreOfFrame : Order → List ℕ → Type 0
NeedsMoreOfFrame order bytes =
    (length bytes < 4) ⊎ ((words : ℕ) × StatesFrame order words bytes × IsFrameLength words × (length bytes < 4 * words))

-- which bytes need more, have a frame of n bytes, or have a bad front: a length that no frame has
unfoldable pub HasFront : Order → List ℕ → Front → Type 0
HasFront order bytes frame.NeedMore = NeedsMoreOfFrame order bytes
HasFront order bytes (frame.Frame n) = (piece : List ℕ) × BeginsWith piece bytes × IsFrame order piece × (length piece ≡ n)
HasFront order bytes frame.Malformed = (words : ℕ) × StatesFrame order words bytes × ((words ≡ 0) ⊎ (most_words < words))

-- bytes that begin with the header of a message: a kind, a detail, a sequence number, and the length of the body in words
pub record StatesHead (order : Order) (kind detail sequence words : ℕ) (bytes : List ℕ) : Type 0 where
  pub sequence_field : List ℕ
  pub words_field : List ℕ
  pub rest : List ℕ
  pub is : bytes ≡ kind ∷ detail ∷ (sequence_field ++ (words_field ++ rest))
  pub is_sequence : IsU16 order sequence sequence_field
  pub is_words : IsU32 order words words_field

-- a complete message: a header that a client takes, and as many words as it states
pub record IsMessage (order : Order) (kind detail sequence : ℕ) (bytes : List ℕ) : Type 0 where
  pub words : ℕ
  pub states : StatesHead order kind detail sequence words bytes
  pub good : IsTrue (is_head kind detail words)
  pub size : length bytes ≡ 8 + 4 * words

-- the body of an error: the value that was refused, the opcode of the request, and three zeros
pub record StatesError (order : Order) (value opcode : ℕ) (body : List ℕ) : Type 0 where
  pub value_field : List ℕ
  pub is : body ≡ value_field ++ (opcode ∷ 0 ∷ 0 ∷ 0 ∷ [])
  pub is_value : IsU32 order value value_field

-- too little for a message of n bytes: for its header, or for the body after a header that a client takes
pub record NeedsMoreOfMessage (order : Order) (n : ℕ) (bytes : List ℕ) : Type 0 where
  pub kind : ℕ
  pub detail : ℕ
  pub sequence : ℕ
  pub words : ℕ
  pub states : StatesHead order kind detail sequence words bytes
  pub good : IsTrue (is_head kind detail words)
  pub size : n ≡ 8 + 4 * words
  pub short : length bytes < n

-- bytes that begin with a header that no client takes
pub record HasBadHead (order : Order) (bytes : List ℕ) : Type 0 where
  pub kind : ℕ
  pub detail : ℕ
  pub sequence : ℕ
  pub words : ℕ
  pub states : StatesHead order kind detail sequence words bytes
  pub bad : is_head kind detail words ≡ false

-- which bytes need more, have a message of n bytes, or have a bad header: nothing is decided before 8 bytes are there
unfoldable pub HasMessageFront : Order → List ℕ → MessageFront → Type 0
HasMessageFront order bytes (message.NeedMore n) = ((length bytes < 8) × (n ≡ 8)) ⊎ NeedsMoreOfMessage order n bytes
HasMessageFront order bytes (message.Message kind detail sequence n) =
    (piece : List ℕ) × BeginsWith piece bytes × IsMessage order kind detail sequence piece × (length piece ≡ n)
HasMessageFront order bytes message.BadMessage = HasBadHead order bytes
