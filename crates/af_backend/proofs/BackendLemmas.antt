-- What captures and emits leave alone: the backend of each device, and the orders of the codec.
use Rattle.std.proofs.Common.{◌≡◌, ℕ, List, [], map, slice_set, option_map, ap, ◌∙◌}
use Rattle.std.proofs.Math.Seq.{map-set_same}
use Rattle.std.specs.declared.option.Option.{Option}
use Rattle.std.specs.declared.option.Option.TheVariants.{None, Some}
use Rattle.af_io.specs.declared.flow.Put.{Put}
use Rattle.af_backend.specs.declared.codec_device.CodecStage.{CodecStage}
use Rattle.af_backend.specs.declared.codec_device.CodecStage.TheVariants as stage
use Rattle.af_backend.specs.CodecUse.{CodecUse, CodecTakesAt}
use Rattle.af_backend.specs.CardUse.{CardUse, KeepsOrders, orders_of, card_orders}
use Rattle.af_loop.specs.DelayLine.{DelayState}
use Rattle.af_backend.specs.Backends.{BackendState, always_silent, over_files, over_loop, over_codec, over_card, backend_at, without_bytes, all_without_bytes, CapturesBy, CapturesAt, EmitsBy, EmitsAt}

kind_kept : (old new : List (Option BackendState)) (d : ℕ) (after : Option BackendState) → option_map without_bytes after ≡ option_map without_bytes (backend_at old d) → new ≡ slice_set old d after → all_without_bytes new ≡ all_without_bytes old
unfolding all_without_bytes
kind_kept old new d after same is = ap (map (option_map without_bytes)) is ∙ map-set_same (option_map without_bytes) old d after None same

-- the orders of a card stay if its use keeps them
orders_kept : (before after : CardUse) → KeepsOrders before after → card_orders after ≡ card_orders before
orders_kept before after same =
    ap (λ s. orders_of s after.between.starts.restarts after.words) same.shape
    ∙ ap (λ n. orders_of before.between.shape n after.words) same.restarts
    ∙ ap (λ words. orders_of before.between.shape before.between.starts.restarts words) same.words

card_kept : (before now : CardUse) (after : Option BackendState) → KeepsOrders before now → after ≡ Some (over_card now) →
    option_map without_bytes after ≡ option_map without_bytes (Some (over_card before))
card_kept before now after same is =
    ap (option_map without_bytes) is ∙ ap (λ (card : CardUse). Some (over_card card)) (orders_kept before now same)

-- a delay line stays as long as it is
line_kept : (before now : DelayState) (after : Option BackendState) → now.delay ≡ before.delay → after ≡ Some (over_loop now) →
    option_map without_bytes after ≡ option_map without_bytes (Some (over_loop before))
line_kept before now after same is =
    ap (option_map without_bytes) is ∙ ap (λ (n : ℕ). Some (over_loop (record { held = []; delay = n }))) same

captures_kind : (b : Option BackendState) (answer : Put) (into : List ℕ) (after : Option BackendState) → CapturesBy b answer into after → option_map without_bytes after ≡ option_map without_bytes b
captures_kind None answer into after h = ap (option_map without_bytes) h.1
captures_kind (Some (always_silent ty)) answer into after h = ap (option_map without_bytes) h.1
captures_kind (Some (over_files f)) answer into after h = ap (option_map without_bytes) h.2
captures_kind (Some (over_loop line)) answer into after h = line_kept line h.0 after h.1.delay h.2
captures_kind (Some (over_codec ty)) answer into after h = ap (option_map without_bytes) h.1
captures_kind (Some (over_card card)) answer into after h = card_kept card h.0 after h.1.same h.2

pub captures_same : (d : ℕ) (answer : Put) (into : List ℕ) (old new : List (Option BackendState)) → CapturesAt d answer into old new → all_without_bytes new ≡ all_without_bytes old
captures_same d answer into old new h = kind_kept old new d h.0 (captures_kind (backend_at old d) answer into h.0 h.1) h.2

emits_kind : (b : Option BackendState) (answer : Put) (sound : List ℕ) (after : Option BackendState) (codec codec' : CodecUse) → EmitsBy b answer sound after codec codec' → option_map without_bytes after ≡ option_map without_bytes b
emits_kind None answer sound after codec codec' h = ap (option_map without_bytes) h.1
emits_kind (Some (always_silent ty)) answer sound after codec codec' h = ap (option_map without_bytes) h.1
emits_kind (Some (over_files f)) answer sound after codec codec' h = ap (option_map without_bytes) h.2
emits_kind (Some (over_loop line)) answer sound after codec codec' h = line_kept line h.0 after h.1.delay h.2
emits_kind (Some (over_codec ty)) answer sound after codec codec' h = ap (option_map without_bytes) h.0
emits_kind (Some (over_card card)) answer sound after codec codec' h = card_kept card h.0 after h.1.same h.2

pub emits_same : (d : ℕ) (answer : Put) (sound : List ℕ) (old new : List (Option BackendState)) (codec codec' : CodecUse) → EmitsAt d answer sound old new codec codec' → all_without_bytes new ≡ all_without_bytes old
emits_same d answer sound old new codec codec' h = kind_kept old new d h.0 (emits_kind (backend_at old d) answer sound h.0 codec codec' h.1) h.2

takes_orders : (s : CodecStage) (answer : Put) (sound : List ℕ) (codec codec' : CodecUse) → CodecTakesAt s answer sound codec codec' → codec'.orders ≡ codec.orders
takes_orders stage.Unset answer sound codec codec' h = ap (λ (u : CodecUse). u.orders) h.1
takes_orders stage.Takes answer sound codec codec' h = h.orders
takes_orders stage.Dead answer sound codec codec' h = ap (λ (u : CodecUse). u.orders) h.1

emits_by_orders : (b : Option BackendState) (answer : Put) (sound : List ℕ) (after : Option BackendState) (codec codec' : CodecUse) → EmitsBy b answer sound after codec codec' → codec'.orders ≡ codec.orders
emits_by_orders None answer sound after codec codec' h = ap (λ (u : CodecUse). u.orders) h.2
emits_by_orders (Some (always_silent ty)) answer sound after codec codec' h = ap (λ (u : CodecUse). u.orders) h.2
emits_by_orders (Some (over_files f)) answer sound after codec codec' h = ap (λ (u : CodecUse). u.orders) h.3
emits_by_orders (Some (over_loop line)) answer sound after codec codec' h = ap (λ (u : CodecUse). u.orders) h.3
emits_by_orders (Some (over_codec ty)) answer sound after codec codec' h = takes_orders codec.stage answer sound codec codec' h.1
emits_by_orders (Some (over_card card)) answer sound after codec codec' h = ap (λ (u : CodecUse). u.orders) h.3

pub emits_orders : (d : ℕ) (answer : Put) (sound : List ℕ) (old new : List (Option BackendState)) (codec codec' : CodecUse) → EmitsAt d answer sound old new codec codec' → codec'.orders ≡ codec.orders
emits_orders d answer sound old new codec codec' h = emits_by_orders (backend_at old d) answer sound h.0 codec codec' h.1
