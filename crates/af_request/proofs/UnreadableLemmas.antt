-- Reading by the grammar: when it gives nothing.
use Rattle.std.proofs.Common.{◌≡◌, ◌↔◌, ◌≢◌, ◌*◌, ℕ, List, length, sym, subst, arith}
use Rattle.std.specs.Prelude.{Option, Some, None, IsNone, option_map, option_and_then, MatchOption, ⊤}
use Rattle.af_wire.specs.declared.order.Order.{Order}
use Rattle.af_request.specs.Asked.{Asked}
use Rattle.af_request.specs.Fields.{u8_at}
use Rattle.af_request.specs.Requests.{Row, asked_by, asked_in, row_of, IsNoRequest}

-- a row gives nothing exactly if the frame has another length
none_by : (frame : List ℕ) (o : Option Row) →
    IsNone (option_and_then (asked_by frame) o) ↔ MatchOption o ⊤ (λ r. length frame ≢ 4 * r.words)
none_by frame None = grind arith
none_by frame (Some r) = grind arith

-- nothing is read exactly if nothing is meant
pub none_meant : {R A : Type 0} (f : R → A) (o : Option R) (meant : Option A) (Q : Type 0) → option_map f o ≡ meant → IsNone meant ↔ Q → IsNone o ↔ Q
none_meant {A = A} f None meant Q e h = let P : Option A → Type 0 = λ q. IsNone q ↔ Q in subst P (sym e) h
none_meant {A = A} f (Some x) meant Q e h = let P : Option A → Type 0 = λ q. IsNone q ↔ Q in subst P (sym e) h

-- a frame is read as nothing exactly if it is no request
pub none_exactly : {R : Type 0} (order : Order) (f : R → Asked) (o : Option R) (frame : List ℕ) →
    option_map f o ≡ asked_in order frame → IsNone o ↔ IsNoRequest order frame
none_exactly order f o frame e = none_meant f o (asked_in order frame) (IsNoRequest order frame) e (none_by frame (row_of order (u8_at 0 frame) frame))
