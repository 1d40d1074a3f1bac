-- How the server's messages are spelled, in the byte order of a link.
use Rattle.std.specs.Prelude.{ℕ, List, [], ◌∷◌, ◌++◌}
use Rattle.af_wire.specs.declared.order.Order.{Order}
use Rattle.af_wire.specs.Order.{u16_bytes, u32_bytes}

-- the header of a message: its kind, a detail, the number of the request that it answers, and how many words follow
unfoldable pub head : Order → ℕ → ℕ → ℕ → ℕ → List ℕ
head order kind detail sequence words = kind ∷ detail ∷ [] ++ u16_bytes order sequence ++ u32_bytes order words

-- a refusal: its code, the value that was refused, and the opcode of the request, 0 for a setup
unfoldable pub error : Order → ℕ → ℕ → ℕ → ℕ → List ℕ
error order code value opcode sequence = head order 0 code sequence 2 ++ u32_bytes order value ++ (opcode ∷ 0 ∷ 0 ∷ 0 ∷ [])
