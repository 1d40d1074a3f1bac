-- The fronts of the bytes that a client sends: what they begin with.
use Rattle.std.specs.Prelude.{ℕ, ◌<◌, ◌≤◌, ◌*◌, List, [], ◌∷◌, ◌++◌, length, if◌then◌else◌, ◌==◌, ◌||◌, nat_lt}
use Rattle.af_limits.specs.Limits.{most_words}
use Rattle.af_wire.specs.declared.order.Order.{Order}
use Rattle.af_wire.specs.declared.order.Order.TheVariants.{Big, Little}
use Rattle.af_wire.specs.declared.front.SetupFront.{SetupFront}
use Rattle.af_wire.specs.declared.front.SetupFront.TheVariants as setup
use Rattle.af_wire.specs.declared.front.Front.{Front}
use Rattle.af_wire.specs.declared.front.Front.TheVariants.{NeedMore, Frame, Malformed}
use Rattle.af_wire.specs.Order.{by_order, magic, u16_bytes, u16_of, u32_of}

-- a setup of a byte order names its major version, which is 1
abbrev pub setup_of_version : Order → ℕ → SetupFront
setup_of_version order major = if major == 1 then setup.Setup order else setup.BadSetup order major

-- a setup begins with the name of a byte order; one of no byte order is answered in Big
abbrev pub setup_with : ℕ → List ℕ → SetupFront
setup_with name version =
    if name == magic Big then setup_of_version Big (u16_of Big version)
    else if name == magic Little then setup_of_version Little (u16_of Little version)
    else setup.BadSetup Big name

-- the setup of a byte order that a client sends, of version 1.0
abbrev pub setup_bytes : Order → List ℕ
setup_bytes order = (0x41 ∷ 0x46 ∷ by_order order 0x42 0x6c ∷ 0 ∷ []) ++ u16_bytes order 1 ++ u16_bytes order 0

-- what the bytes of a link that is not set up begin with; nothing is decided before 8 bytes are there
abbrev pub setup_front : List ℕ → SetupFront
setup_front (a ∷ b ∷ c ∷ d ∷ e ∷ f ∷ g ∷ h ∷ rest) = setup_with (u32_of Big (a ∷ b ∷ c ∷ d ∷ [])) (e ∷ f ∷ [])
setup_front _ = setup.NeedMore

-- the front of n bytes that state a length in words of 4 bytes
abbrev pub frame_with : ℕ → ℕ → Front
frame_with words there =
    if words == 0 || nat_lt most_words words then Malformed
    else if nat_lt there (4 * words) then NeedMore
    else Frame (4 * words)

-- what the bytes of a link that is set up begin with; the length is looked at as soon as it is there
abbrev pub frame_front : Order → List ℕ → Front
frame_front order (opcode ∷ detail ∷ w0 ∷ w1 ∷ rest) =
    frame_with (u16_of order (w0 ∷ w1 ∷ [])) (length (opcode ∷ detail ∷ w0 ∷ w1 ∷ rest))
frame_front order _ = NeedMore

-- a frame is not empty, and its bytes are there; a malformed front is not empty either
abbrev pub IsFrameWithin : Front → ℕ → Type 0
IsFrameWithin (Frame n) there = (0 < n) × (n ≤ there)
IsFrameWithin NeedMore there = Unit {0}
IsFrameWithin Malformed there = 0 < there

-- a setup, good or bad, has 8 bytes
abbrev pub IsSetupWithin : SetupFront → ℕ → Type 0
IsSetupWithin setup.NeedMore there = Unit {0}
IsSetupWithin (setup.Setup order) there = 8 ≤ there
IsSetupWithin (setup.BadSetup order value) there = 8 ≤ there
